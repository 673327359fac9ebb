-- What a header that was read once more says of its HDU, and the rows of HDUs (FITS 4.0, sections 4.4.1, 7.3.5 and 10.1).
use Rattle.std.proofs.Common.{◌≡◌, ℕ, ◌*◌, inl, inr, Bool, true, false, cond, List, [], ◌∷◌, ◌++◌, length, take, drop, Option, Some, None, IfSome, Ok, refl, sym, ap, ◌∙◌, subst, arith}
use Rattle.std.specs.Prelude.{if◌then◌else◌}
use Rattle.std.specs.List.{filter, flat_map}
use Rattle.std.proofs.lemmas.List.{append-nil, append_assoc, length-take}
use Rattle.fz_base.specs.Refusal.{first_refusal}
use Rattle.fz_base.specs.Source.{Reads}
use Rattle.fz_base.specs.declared.fault.Fault.{Fault}
use Rattle.fz_block.specs.Checks.{unless_refused}
use Rattle.fz_block.specs.declared.header.Header.{Header}
use Rattle.fz_checks.specs.JobChecks.{image_in, image_to_unpack, unpack_checks}
use Rattle.fz_head.specs.Packable.{is_packed}
use Rattle.fz_checks.specs.declared.job_checks.PackedImage.{PackedImage}
use Rattle.fz_job.specs.Images.{IsSaid}
use Rattle.fz_files.specs.FirstFault.{ImageRow, IsFirstRowFault, all_rows, rows_of}
use Rattle.fz_files.specs.Restored.{header_in, is_image}
use Rattle.fz_job.specs.Again.{IsAgain, header_at_front}
use Rattle.fz_job.specs.declared.again.ReadHdu.{ReadHdu}
use Rattle.fz_strict.specs.Rows.{IsHduFault, IsHduSound}
use Rattle.fz_strict.proofs.Gathering.{IsImageRead}

-- ---- what the checks answer

image_by : (b : Bool) (q : PackedImage) (image : Option PackedImage) (r : Option Fault) → unless_refused (if b then Some q else None) r ≡ Ok image → image ≡ (if b then Some q else None)
image_by b q image None is = let e : (if b then Some q else None) ≡ image = cc in sym e
image_by b q image (Some x) is = absurd cc

-- the image is the one that the header says, or there is none
pub image_if : (h : Header) (header : List ℕ) (after_empty : Bool) (image : Option PackedImage) → image_to_unpack h header after_empty ≡ Ok image → image ≡ (if is_packed header h then Some (image_in h header) else None)
unfolding image_to_unpack
image_if h header after_empty image is = image_by (is_packed header h) (image_in h header) image (first_refusal (unpack_checks h header after_empty)) is

module _ (held : Option (List ℕ)) (n : ℕ) (buf : List ℕ) (a : ReadHdu) (w : IsAgain held n buf a) where
  -- its header in the file is the one that was read
  pub header_there : (g : List ℕ) → held ≡ Some g → header_in g a.header ≡ header_at_front a buf
  header_there g told =
      let long : length (header_at_front a buf) ≡ 2880 * a.header.blocks = omega (arith, w.room, length-take (2880 * a.header.blocks) buf) in
      let read : header_at_front a buf ≡ take (length (header_at_front a buf)) (drop a.header.start g) = subst (λ (l : Option (List ℕ)). Reads l a.header.start (header_at_front a buf)) told w.read in
      sym (read ∙ ap (λ m. take m (drop a.header.start g)) long)

  image_there : (g : List ℕ) → held ≡ Some g → a.image ≡ (if is_image g a.header then Some (image_in a.header (header_in g a.header)) else None)
  image_there g told =
      image_if a.header (header_at_front a buf) w.after_empty a.image w.found
      ∙ ap (λ l. if is_packed l a.header then Some (image_in a.header l) else None) (sym (header_there g told))

  -- the image is said
  some_by : (b : Bool) (q i : PackedImage) → Some i ≡ (if b then Some q else None) → (b ≡ true) × (i ≡ q)
  some_by true q i is = (refl, cc)
  some_by false q i is = absurd cc

  none_by : (b : Bool) (q : PackedImage) → ◌≡◌ {A = Option PackedImage} None (if b then Some q else None) → b ≡ false
  none_by true q is = absurd cc
  none_by false q is = refl

  pub image_said : (i : PackedImage) (g : List ℕ) → held ≡ Some g → a.image ≡ Some i → (is_image g a.header ≡ true) × IsSaid g a.header i
  image_said i g told is =
      let both = some_by (is_image g a.header) (image_in a.header (header_in g a.header)) i (sym is ∙ image_there g told) in
      (both.0, record { plan = ap (λ (q : PackedImage). q.plan) (sym both.1); table = ap (λ (q : PackedImage). q.table) (sym both.1) })

  pub none_said : (g : List ℕ) → held ≡ Some g → a.image ≡ None → is_image g a.header ≡ false
  none_said g told is = none_by (is_image g a.header) (image_in a.header (header_in g a.header)) (sym is ∙ image_there g told)

  pub image_read : (g : List ℕ) → held ≡ Some g → IsImageRead g a.header a.image
  image_read g told = by_image a.image refl
    where
      by_image : (image : Option PackedImage) → a.image ≡ image → IsImageRead g a.header image
      by_image None is = none_said g told is
      by_image (Some i) is = let both = image_said i g told is in (both.0, both.1.plan)

-- ---- its rows

those_of : (g : List ℕ) (h : Header) (b : Bool) (fault : Option Fault) → is_image g h ≡ b → IsFirstRowFault g (flat_map (rows_of g) (cond b (h ∷ []) [])) fault → IsFirstRowFault g (flat_map (rows_of g) (cond (is_image g h) (h ∷ []) [])) fault
those_of g h b fault is rows = subst (λ c. IsFirstRowFault g (flat_map (rows_of g) (cond c (h ∷ []) [])) fault) (sym is) rows

pub rows_of_image : (g : List ℕ) (h : Header) (fault : Option Fault) → is_image g h ≡ true → IsFirstRowFault g (rows_of g h) fault → IsFirstRowFault g (all_rows g (h ∷ [])) fault
rows_of_image g h fault is rows = those_of g h true fault is (subst (λ l. IsFirstRowFault g l fault) (sym (append-nil (rows_of g h))) rows)

-- the image is the one that the header says
pub said_there : (held : Option (List ℕ)) (n : ℕ) (buf : List ℕ) (a : ReadHdu) → IsAgain held n buf a → (i : PackedImage) → a.image ≡ Some i → IfSome held (λ g. IsSaid g a.header i)
said_there None n buf a w i is = tt
said_there (Some g) n buf a w i is = (image_said (Some g) n buf a w i g refl is).1

pub rows_sound : (held : Option (List ℕ)) (n : ℕ) (buf : List ℕ) (a : ReadHdu) → IsAgain held n buf a → (i : PackedImage) → a.image ≡ Some i → IfSome held (λ g. IsFirstRowFault g (rows_of g a.header) None) → IfSome held (λ g. IsHduSound g a.header)
rows_sound None n buf a w i is rows = tt
rows_sound (Some g) n buf a w i is rows = rows_of_image g a.header None (image_said (Some g) n buf a w i g refl is).0 rows

pub rows_faulty : (held : Option (List ℕ)) (n : ℕ) (buf : List ℕ) (a : ReadHdu) → IsAgain held n buf a → (i : PackedImage) → a.image ≡ Some i → (x : Fault) → IfSome held (λ g. IsFirstRowFault g (rows_of g a.header) (Some x)) → IfSome held (λ g. IsHduFault g a.header x)
rows_faulty None n buf a w i is x rows = tt
rows_faulty (Some g) n buf a w i is x rows = rows_of_image g a.header (Some x) (image_said (Some g) n buf a w i g refl is).0 rows

pub rows_none : (held : Option (List ℕ)) (n : ℕ) (buf : List ℕ) (a : ReadHdu) → IsAgain held n buf a → a.image ≡ None → IfSome held (λ g. IsHduSound g a.header)
rows_none None n buf a w is = tt
rows_none (Some g) n buf a w is = those_of g a.header false None (none_said (Some g) n buf a w g refl is) tt

-- ---- the rows of HDUs, one HDU after another

module _ (file : List ℕ) where
  sound_both : (xs ys : List ImageRow) → IsFirstRowFault file xs None → IsFirstRowFault file ys None → IsFirstRowFault file (xs ++ ys) None
  sound_both [] ys front back = back
  sound_both (r ∷ rs) ys front back = (front.0, sound_both rs ys front.1 back)

  fault_behind : (xs ys : List ImageRow) (x : Fault) → IsFirstRowFault file xs None → IsFirstRowFault file ys (Some x) → IsFirstRowFault file (xs ++ ys) (Some x)
  fault_behind [] ys x front back = back
  fault_behind (r ∷ rs) ys x front back = inr (front.0, fault_behind rs ys x front.1 back)

  fault_before : (xs ys : List ImageRow) (x : Fault) → IsFirstRowFault file xs (Some x) → IsFirstRowFault file (xs ++ ys) (Some x)
  fault_before [] ys x front = absurd front
  fault_before (r ∷ rs) ys x (inl is) = inl is
  fault_before (r ∷ rs) ys x (inr later) = inr (later.0, fault_before rs ys x later.1)

  rows_by : (b : Bool) (h : Header) (hs : List Header) →
      flat_map (rows_of file) (cond b (h ∷ hs) hs) ≡ flat_map (rows_of file) (cond b (h ∷ []) []) ++ flat_map (rows_of file) hs
  rows_by true h hs = ap (λ l. l ++ flat_map (rows_of file) hs) (sym (append-nil (rows_of file h)))
  rows_by false h hs = refl

  rows_more : (h : Header) (hs : List Header) → all_rows file (h ∷ hs) ≡ all_rows file (h ∷ []) ++ all_rows file hs
  rows_more h hs = rows_by (is_image file h) h (filter (is_image file) hs)

  rows_joined : (hs ks : List Header) → all_rows file (hs ++ ks) ≡ all_rows file hs ++ all_rows file ks
  rows_joined [] ks = refl
  rows_joined (h ∷ hs) ks =
      rows_more h (hs ++ ks) ∙ ap (λ l. all_rows file (h ∷ []) ++ l) (rows_joined hs ks)
      ∙ sym (append_assoc (all_rows file (h ∷ [])) (all_rows file hs) (all_rows file ks))
      ∙ ap (λ l. l ++ all_rows file ks) (sym (rows_more h hs))

  pub sound_joined : (hs ks : List Header) → IsFirstRowFault file (all_rows file hs) None → IsFirstRowFault file (all_rows file ks) None → IsFirstRowFault file (all_rows file (hs ++ ks)) None
  sound_joined hs ks front back = subst (λ l. IsFirstRowFault file l None) (sym (rows_joined hs ks)) (sound_both (all_rows file hs) (all_rows file ks) front back)

  -- the fault of an HDU behind others without one is the first of all
  pub fault_among : (done rest : List Header) (h : Header) (x : Fault) → IsFirstRowFault file (all_rows file done) None → IsHduFault file h x → IsFirstRowFault file (all_rows file (done ++ h ∷ rest)) (Some x)
  fault_among done rest h x sound fault =
      let behind : IsFirstRowFault file (all_rows file (h ∷ rest)) (Some x) =
      subst (λ l. IsFirstRowFault file l (Some x)) (sym (rows_more h rest)) (fault_before (all_rows file (h ∷ [])) (all_rows file rest) x fault) in
      subst (λ l. IsFirstRowFault file l (Some x)) (sym (rows_joined done (h ∷ rest))) (fault_behind (all_rows file done) (all_rows file (h ∷ rest)) x sound behind)
