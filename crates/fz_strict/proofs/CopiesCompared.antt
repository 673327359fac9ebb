-- An HDU compared with what `pack` writes for it: one that is not packed has to be copied (FITS 4.0, sections 3.1 and 10.1).
use Rattle.std.specs.Prelude.{nat_lt}
use Rattle.std.proofs.Common.{◌≡◌, ℕ, ◌+◌, ◌-◌, ◌*◌, ◌^◌, ◌≤◌, ◌==◌, ◌||◌, Bool, true, false, true≢false, List, length, take, drop, Option, Some, None, IfSome, Result, Ok, Err, if◌then◌else◌, refl, sym, ap, ◌∙◌, subst, arith}
use Rattle.std.proofs.lemmas.Bool.Decides.{nat_tests}
use Rattle.std.proofs.lemmas.List.{length-append, length-drop, length-take}
use Rattle.fz_base.specs.Source.{HoldsLength}
use Rattle.fz_base.specs.declared.fault.Fault.{Fault}
use Rattle.fz_block.specs.Hdus.{hdu_bytes}
use Rattle.fz_block.specs.Header.{data_start_of, next_start_of, whole_blocks_of}
use Rattle.fz_block.specs.Walk.{hdu_of}
use Rattle.fz_block.specs.declared.header.Header.{Header}
use Rattle.fz_checks.specs.JobChecks.{plan_to_pack}
use Rattle.fz_checks.specs.declared.job_checks.PackedImage.{PackedImage}
use Rattle.fz_head.specs.declared.options.PackOptions.{PackOptions}
use Rattle.fz_head.specs.declared.plan.Plan.{Plan}
use Rattle.fz_job.specs.Again.{IsAgain, header_at_front}
use Rattle.fz_job.specs.declared.again.ReadHdu.{ReadHdu}
use Rattle.fz_strict.specs.Origins.{IsOrigin, if_copied, with_copied, with_hdu}
use Rattle.fz_strict.specs.SameImages.{ComparesCopy, ComparesHdu, ComparesImage}
use Rattle.fz_strict.specs.declared.origin.Origin.{Origin}
use Rattle.fz_strict.proofs.Said.{header_there, image_said, none_said}

with_hdu_near : (b w : Origin) (n : ℕ) → with_hdu b n ≡ Some w → b.end + n ≤ 2 ^ 62
with_hdu_near b w n is = by_test (b.hdus == 65535) (nat_lt (2 ^ 62) (b.end + n)) refl is
  where
    by_test : (s t : Bool) → nat_lt (2 ^ 62) (b.end + n) ≡ t → (if s || t then None else Some (record { hdus = b.hdus + 1; end = b.end + n })) ≡ Some w → b.end + n ≤ 2 ^ 62
    by_test true t test e = absurd cc
    by_test false true test e = absurd cc
    by_test false false test e = grind (arith, nat_tests, test)

module _ (o : PackOptions) (g : List ℕ) (h : Header) (b : Origin) (n : ℕ) (header : List ℕ) (same : header ≡ (hdu_of g h).header) (size : length (hdu_bytes (hdu_of g h)) ≡ n) (allowed : IsOrigin b) where
  by_hdu : plan_to_pack o h header ≡ Ok None → (v : Option Origin) → with_hdu b n ≡ v → ComparesCopy o g h (Some b) v
  by_hdu plan None e = λ now is. let never : ◌≡◌ {A = Option Origin} None (Some now) = sym e ∙ ap (with_hdu b) (sym size) ∙ is.after in absurd cc
  by_hdu plan (Some w) e =
      let few = allowed.hdus in
      let near = with_hdu_near b w n e in
      record {
        same = record {
          number = omega (arith, few);
          end = omega (arith, near, size);
          plan = ap (plan_to_pack o h) (sym same) ∙ plan;
          alone = refl;
        };
        after = ap (with_hdu b) size ∙ e;
      }

  by_plan : (r : Result (Option Plan) Fault) → plan_to_pack o h header ≡ r → ComparesCopy o g h (Some b) (if_copied r (with_hdu b n))
  by_plan (Ok None) e = by_hdu e (with_hdu b n) refl
  by_plan (Ok (Some p)) e = λ now is. let never : ◌≡◌ {A = Result (Option Plan) Fault} (Ok (Some p)) (Ok None) = sym e ∙ ap (plan_to_pack o h) same ∙ is.same.plan in absurd cc
  by_plan (Err x) e = λ now is. let never : ◌≡◌ {A = Result (Option Plan) Fault} (Err x) (Ok None) = sym e ∙ ap (plan_to_pack o h) same ∙ is.same.plan in absurd cc

  pub copy_compares : ComparesCopy o g h (Some b) (with_copied o b h header n)
  copy_compares = by_plan (plan_to_pack o h header) refl

-- the bytes of an HDU that is within the file
hdu_len : (g : List ℕ) (h : Header) → next_start_of h ≤ length g → length (hdu_bytes (hdu_of g h)) ≡ next_start_of h - h.start
hdu_len g h inside =
    let m : ℕ = 2880 * h.blocks in
    let n : ℕ = whole_blocks_of h.data_len in
    let both : length (hdu_bytes (hdu_of g h)) ≡ length (take m (drop h.start g)) + length (take n (drop (data_start_of h) g)) = length-append (take m (drop h.start g)) (take n (drop (data_start_of h) g)) in
    omega (arith, both, inside, length-take m (drop h.start g), length-drop h.start g, length-take n (drop (data_start_of h) g), length-drop (data_start_of h) g)

some_copied : (o : PackOptions) (g buf : List ℕ) (len n : ℕ) (a : ReadHdu) (b : Origin) (now : Option Origin) → length g ≡ len → IsAgain (Some g) len buf a → IsOrigin b → n ≡ next_start_of a.header - a.header.start →
    now ≡ with_copied o b a.header (header_at_front a buf) n → ComparesCopy o g a.header (Some b) now
some_copied o g buf len n a b now long w allowed size is =
    let inside = w.inside in
    let bytes : length (hdu_bytes (hdu_of g a.header)) ≡ n = hdu_len g a.header (omega (arith, inside, long)) ∙ sym size in
    subst (ComparesCopy o g a.header (Some b)) (sym is) (copy_compares o g a.header b n (header_at_front a buf) (sym (header_there (Some g) len buf a w g refl)) bytes allowed)

pub copied_some : (held : Option (List ℕ)) (o : PackOptions) (buf : List ℕ) (len n : ℕ) (a : ReadHdu) (b : Origin) (now : Option Origin) → HoldsLength held len → IsAgain held len buf a → IsOrigin b → n ≡ next_start_of a.header - a.header.start →
    now ≡ with_copied o b a.header (header_at_front a buf) n → IfSome held (λ g. ComparesCopy o g a.header (Some b) now)
copied_some None o buf len n a b now long w allowed size is = tt
copied_some (Some g) o buf len n a b now long w allowed size is = some_copied o g buf len n a b now long w allowed size is

pub copied_none : (held : Option (List ℕ)) (o : PackOptions) (h : Header) → IfSome held (λ g. ComparesCopy o g h None None)
copied_none None o h = tt
copied_none (Some g) o h = refl

-- ---- any HDU

pub image_compares : (held : Option (List ℕ)) (o : PackOptions) (len : ℕ) (buf : List ℕ) (a : ReadHdu) (w : IsAgain held len buf a) (i : PackedImage) (origin now : Option Origin) → a.image ≡ Some i → IfSome held (λ g. ComparesImage o g a.header origin now) →
    IfSome held (λ g. ComparesHdu o g a.header origin now)
image_compares None o len buf a w i origin now is compared = tt
image_compares (Some g) o len buf a w i origin now is compared = record { image = λ packed. compared; copy = λ copied. absurd (true≢false (sym (image_said (Some g) len buf a w i g refl is).0 ∙ copied)) }

pub copy_compared : (held : Option (List ℕ)) (o : PackOptions) (len : ℕ) (buf : List ℕ) (a : ReadHdu) (w : IsAgain held len buf a) (origin now : Option Origin) → a.image ≡ None → IfSome held (λ g. ComparesCopy o g a.header origin now) →
    IfSome held (λ g. ComparesHdu o g a.header origin now)
copy_compared None o len buf a w origin now is compared = tt
copy_compared (Some g) o len buf a w origin now is compared = record { image = λ packed. absurd (true≢false (sym packed ∙ none_said (Some g) len buf a w g refl is)); copy = λ copied. compared }
