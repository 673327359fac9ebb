-- What a header that was read once more says of its HDU (FITS 4.0, sections 4.4.1 and 10.1).
use Rattle.std.proofs.Common.{◌≡◌, ℕ, ◌*◌, Bool, true, false, List, ◌++◌, length, take, drop, Option, Some, None, IfSome, Ok, refl, sym, ap, ◌∙◌, subst, arith}
use Rattle.std.specs.Prelude.{codes, decimal, if◌then◌else◌}
use Rattle.std.proofs.lemmas.List.{length-take}
use Rattle.fz_base.specs.Refusal.{first_refusal}
use Rattle.fz_base.specs.Sink.{MayAppend, appended}
use Rattle.fz_base.specs.Source.{Reads}
use Rattle.fz_base.specs.declared.fault.Fault.{Fault}
use Rattle.fz_block.specs.Checks.{unless_refused}
use Rattle.fz_block.specs.declared.header.Header.{Header}
use Rattle.fz_checks.specs.JobChecks.{image_in, image_to_unpack, unpack_checks}
use Rattle.fz_head.specs.Packable.{is_packed}
use Rattle.fz_checks.specs.declared.job_checks.PackedImage.{PackedImage}
use Rattle.fz_job.specs.Images.{IsSaid}
use Rattle.fz_files.specs.Lines.{list_line, other_text, packed_text, sizes_text, tiles_text, verdict_word, verify_line}
use Rattle.fz_files.specs.Packed.{tiles_in}
use Rattle.fz_files.specs.Restored.{header_in, is_image, plan_in}
use Rattle.fz_job.specs.Again.{IsAgain, header_at_front}
use Rattle.fz_verify.specs.Lines.{hdu_text, listed_text, tiles_said, verdicts_text}
use Rattle.fz_verify.specs.Sums.{AreVerdictsOn}
use Rattle.fz_job.specs.declared.again.ReadHdu.{ReadHdu}
use Rattle.fz_verify.specs.declared.sums.Verdicts.{Verdicts}

-- ---- what the checks answer

image_by : (b : Bool) (q : PackedImage) (image : Option PackedImage) (r : Option Fault) → unless_refused (if b then Some q else None) r ≡ Ok image → image ≡ (if b then Some q else None)
image_by b q image None is = let e : (if b then Some q else None) ≡ image = cc in sym e
image_by b q image (Some x) is = absurd cc

-- the image is the one that the header says, or there is none
image_if : (h : Header) (header : List ℕ) (after_empty : Bool) (image : Option PackedImage) → image_to_unpack h header after_empty ≡ Ok image → image ≡ (if is_packed header h then Some (image_in h header) else None)
unfolding image_to_unpack
image_if h header after_empty image is = image_by (is_packed header h) (image_in h header) image (first_refusal (unpack_checks h header after_empty)) is

module _ (held : Option (List ℕ)) (n : ℕ) (buf : List ℕ) (a : ReadHdu) (w : IsAgain held n buf a) where
  -- its header in the file is the one that was read
  pub header_there : (g : List ℕ) → held ≡ Some g → header_in g a.header ≡ header_at_front a buf
  header_there g told =
      let long : length (header_at_front a buf) ≡ 2880 * a.header.blocks = omega (arith, w.room, length-take (2880 * a.header.blocks) buf) in
      let read : header_at_front a buf ≡ take (length (header_at_front a buf)) (drop a.header.start g) = subst (λ (l : Option (List ℕ)). Reads l a.header.start (header_at_front a buf)) told w.read in
      sym (read ∙ ap (λ m. take m (drop a.header.start g)) long)

  pub image_there : (g : List ℕ) → held ≡ Some g → a.image ≡ (if is_image g a.header then Some (image_in a.header (header_in g a.header)) else None)
  image_there g told =
      image_if a.header (header_at_front a buf) w.after_empty a.image w.found
      ∙ ap (λ l. if is_packed l a.header then Some (image_in a.header l) else None) (sym (header_there g told))

  -- ---- the lines

  text_by : (b : Bool) (q : PackedImage) → hdu_text a.header (if b then Some q else None) ≡ (if b then packed_text q.plan else other_text a.header)
  text_by true q = refl
  text_by false q = refl

  pub list_text : (g : List ℕ) → held ≡ Some g → listed_text a.header a.image ≡ list_line g a.header
  list_text g told =
      let said : hdu_text a.header a.image ≡ (if is_image g a.header then packed_text (plan_in g a.header) else other_text a.header) =
      ap (hdu_text a.header) (image_there g told) ∙ text_by (is_image g a.header) (image_in a.header (header_in g a.header)) in
      ap (λ l. codes "HDU " ++ decimal a.header.hdu ++ codes " " ++ l ++ sizes_text a.header ++ codes "\n") said

  tiles_by : (b : Bool) (q : PackedImage) → tiles_said (if b then Some q else None) ≡ tiles_text b (tiles_in q.plan)
  tiles_by true q = refl
  tiles_by false q = refl

  pub verify_text : (v : Verdicts) (g : List ℕ) → held ≡ Some g → AreVerdictsOn g a.header v → verdicts_text a.header.hdu a.image v ≡ verify_line g a.header
  verify_text v g told are =
      let tiles : tiles_said a.image ≡ tiles_text (is_image g a.header) (tiles_in (plan_in g a.header)) =
      ap tiles_said (image_there g told) ∙ tiles_by (is_image g a.header) (image_in a.header (header_in g a.header)) in
      λ i. codes "HDU " ++ decimal a.header.hdu ++ codes " datasum " ++ verdict_word (are.datasum i) ++ codes " checksum " ++ verdict_word (are.checksum i) ++ codes " tiles " ++ tiles i ++ codes "\n"

  -- the image is said
  some_by : (b : Bool) (q i : PackedImage) → Some i ≡ (if b then Some q else None) → (b ≡ true) × (i ≡ q)
  some_by true q i is = (refl, cc)
  some_by false q i is = absurd cc

  none_by : (b : Bool) (q : PackedImage) → ◌≡◌ {A = Option PackedImage} None (if b then Some q else None) → b ≡ false
  none_by true q is = absurd cc
  none_by false q is = refl

  pub image_said : (i : PackedImage) (g : List ℕ) → held ≡ Some g → a.image ≡ Some i → (is_image g a.header ≡ true) × IsSaid g a.header i
  image_said i g told is =
      let both = some_by (is_image g a.header) (image_in a.header (header_in g a.header)) i (sym is ∙ image_there g told) in
      (both.0, record { plan = ap (λ (q : PackedImage). q.plan) (sym both.1); table = ap (λ (q : PackedImage). q.table) (sym both.1) })

  pub none_said : (g : List ℕ) → held ≡ Some g → a.image ≡ None → is_image g a.header ≡ false
  none_said g told is = none_by (is_image g a.header) (image_in a.header (header_in g a.header)) (sym is ∙ image_there g told)

-- the line of an HDU that was read
pub got_listed : (held : Option (List ℕ)) (n : ℕ) (buf : List ℕ) (a : ReadHdu) (old new : Option (List ℕ)) → IsAgain held n buf a → new ≡ appended (listed_text a.header a.image) old → IfSome held (λ g. new ≡ appended (list_line g a.header) old)
got_listed None n buf a old new w is = tt
got_listed (Some g) n buf a old new w is = is ∙ ap (λ l. appended l old) (list_text (Some g) n buf a w g refl)

pub front_listed : (held : Option (List ℕ)) (n : ℕ) (buf : List ℕ) (a : ReadHdu) (old new : Option (List ℕ)) → IsAgain held n buf a → MayAppend (listed_text a.header a.image) old new → IfSome held (λ g. MayAppend (list_line g a.header) old new)
front_listed None n buf a old new w is = tt
front_listed (Some g) n buf a old new w is = subst (λ l. MayAppend l old new) (list_text (Some g) n buf a w g refl) is
