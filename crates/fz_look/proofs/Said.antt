-- What a header that was read once more says of its HDU (FITS 4.0, section 10.1).
use Rattle.std.proofs.Common.{◌≡◌, ℕ, ◌*◌, ◌&&◌, Bool, true, false, if◌then◌else◌, List, [], ◌∷◌, length, take, drop, Option, Some, None, IfSome, Ok, refl, sym, ap, subst, ◌∙◌, arith}
use Rattle.std.proofs.lemmas.List.{length-take}
use Rattle.fz_base.specs.Refusal.{first_refusal}
use Rattle.fz_base.specs.Source.{Reads}
use Rattle.fz_base.specs.declared.fault.Fault.{Fault}
use Rattle.fz_block.specs.Checks.{unless_refused}
use Rattle.fz_block.specs.Hdus.{cards_of}
use Rattle.fz_block.specs.declared.header.Header.{Header}
use Rattle.fz_checks.specs.JobChecks.{image_in, image_to_unpack, unpack_checks}
use Rattle.fz_head.specs.Packable.{is_packed}
use Rattle.fz_head.specs.PackedPlan.{plan_of_cards}
use Rattle.fz_head.specs.PlainHeader.{was_primary}
use Rattle.fz_checks.specs.declared.job_checks.PackedImage.{PackedImage}
use Rattle.fz_files.specs.FirstFault.{IsFirstRowFault, all_rows, rows_of}
use Rattle.fz_files.specs.Restored.{header_in, is_image, is_packed_primary}
use Rattle.fz_job.specs.Images.{IsSaid}
use Rattle.fz_job.specs.Again.{IsAgain, IsUsable, header_at_front, was_primary_image}
use Rattle.fz_job.specs.declared.again.ReadHdu.{ReadHdu}
use Rattle.fz_look.proofs.Rows.{packed_rows}

-- ---- what the checks answer

image_by : (b : Bool) (q : PackedImage) (image : Option PackedImage) (r : Option Fault) → unless_refused (if b then Some q else None) r ≡ Ok image → image ≡ (if b then Some q else None)
image_by b q image None is = let e : (if b then Some q else None) ≡ image = cc in sym e
image_by b q image (Some x) is = absurd cc

-- the image is the one that the header says, or there is none
pub image_if : (h : Header) (header : List ℕ) (after_empty : Bool) (image : Option PackedImage) → image_to_unpack h header after_empty ≡ Ok image → image ≡ (if is_packed header h then Some (image_in h header) else None)
unfolding image_to_unpack
image_if h header after_empty image is = image_by (is_packed header h) (image_in h header) image (first_refusal (unpack_checks h header after_empty)) is

primary_said : (cards : List (List ℕ)) → (plan_of_cards cards).primary ≡ was_primary cards
unfolding plan_of_cards
primary_said cards = refl

primary_by : (b : Bool) (h : Header) (header : List ℕ) → was_primary_image (if b then Some (image_in h header) else None) ≡ (b && was_primary (cards_of header))
primary_by true h header = primary_said (cards_of header)
primary_by false h header = refl

some_by : (b : Bool) (q i : PackedImage) → Some i ≡ (if b then Some q else None) → (b ≡ true) × (i ≡ q)
some_by true q i is = (refl, cc)
some_by false q i is = absurd cc

none_by : (b : Bool) (q : PackedImage) → ◌≡◌ {A = Option PackedImage} None (if b then Some q else None) → b ≡ false
none_by true q is = absurd cc
none_by false q is = refl

module _ (held : Option (List ℕ)) (n : ℕ) (buf : List ℕ) (a : ReadHdu) (w : IsAgain held n buf a) where
  -- its header in the file is the one that was read
  pub header_there : (g : List ℕ) → held ≡ Some g → header_in g a.header ≡ header_at_front a buf
  header_there g told =
      let long : length (header_at_front a buf) ≡ 2880 * a.header.blocks = omega (arith, w.room, length-take (2880 * a.header.blocks) buf) in
      let read : header_at_front a buf ≡ take (length (header_at_front a buf)) (drop a.header.start g) = subst (λ (l : Option (List ℕ)). Reads l a.header.start (header_at_front a buf)) told w.read in
      sym (read ∙ ap (λ m. take m (drop a.header.start g)) long)

  said : a.image ≡ (if is_packed (header_at_front a buf) a.header then Some (image_in a.header (header_at_front a buf)) else None)
  said = image_if a.header (header_at_front a buf) w.after_empty a.image w.found

  pub image_there : (g : List ℕ) → held ≡ Some g → a.image ≡ (if is_image g a.header then Some (image_in a.header (header_in g a.header)) else None)
  image_there g told = said ∙ ap (λ (l : List ℕ). if is_packed l a.header then Some (image_in a.header l) else None) (sym (header_there g told))

  -- the image was a primary as the header says
  pub primary_is : (g : List ℕ) → held ≡ Some g → was_primary_image a.image ≡ is_packed_primary g a.header
  primary_is g told =
      ap was_primary_image said ∙ primary_by (is_packed (header_at_front a buf) a.header) a.header (header_at_front a buf)
      ∙ ap (λ (l : List ℕ). is_packed l a.header && was_primary (cards_of l)) (sym (header_there g told))

  -- the image is said
  pub image_said : (i : PackedImage) (g : List ℕ) → held ≡ Some g → a.image ≡ Some i → (is_image g a.header ≡ true) × IsSaid g a.header i
  image_said i g told is =
      let both = some_by (is_image g a.header) (image_in a.header (header_in g a.header)) i (sym is ∙ image_there g told) in
      (both.0, record { plan = ap (λ (q : PackedImage). q.plan) (sym both.1); table = ap (λ (q : PackedImage). q.table) (sym both.1) })

  pub none_said : (g : List ℕ) → held ≡ Some g → a.image ≡ None → is_image g a.header ≡ false
  none_said g told is = none_by (is_image g a.header) (image_in a.header (header_in g a.header)) (sym is ∙ image_there g told)

  -- it can be read
  pub usable_of : (i : PackedImage) → a.image ≡ Some i → IsUsable (header_at_front a buf) a.header n i
  usable_of i is = subst (λ (q : Option PackedImage). IfSome q (IsUsable (header_at_front a buf) a.header n)) is w.usable

pub said_there : (held : Option (List ℕ)) (n : ℕ) (buf : List ℕ) (a : ReadHdu) → IsAgain held n buf a → (i : PackedImage) → a.image ≡ Some i → IfSome held (λ g. IsSaid g a.header i)
said_there None n buf a w i is = tt
said_there (Some g) n buf a w i is = (image_said (Some g) n buf a w i g refl is).1

-- the first fault of its rows is that of the HDU
pub rows_faulty : (held : Option (List ℕ)) (n : ℕ) (buf : List ℕ) (a : ReadHdu) → IsAgain held n buf a → (i : PackedImage) → a.image ≡ Some i → (x : Fault) → IfSome held (λ g. IsFirstRowFault g (rows_of g a.header) (Some x)) →
    IfSome held (λ g. IsFirstRowFault g (all_rows g (a.header ∷ [])) (Some x))
rows_faulty None n buf a w i is x rows = tt
rows_faulty (Some g) n buf a w i is x rows = packed_rows g a.header (Some x) (image_said (Some g) n buf a w i g refl is).0 rows
