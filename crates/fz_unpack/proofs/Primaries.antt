-- A packed primary is after an empty primary, and its image begins with the S of SIMPLE (FITS 4.0, sections 4.4.1.1 and 10.1.2).
use Rattle.std.proofs.Common.{◌≡◌, ℕ, Bool, true, if◌then◌else◌, List, ◌∷◌, drop, Some, None, Ok, ap, ◌∙◌}
use Rattle.fz_block.specs.Hdus.{cards_of, header_bytes}
use Rattle.fz_block.specs.declared.header.Header.{Header}
use Rattle.fz_checks.specs.JobChecks.{image_in, image_to_unpack}
use Rattle.fz_head.specs.PlainHeader.{plain_header}
use Rattle.fz_checks.specs.declared.job_checks.PackedImage.{PackedImage}
use Rattle.fz_unpack.specs.Laws.{IsPackedPrimary}
use Rattle.fz_unpack.proofs.Images.{image_if, primary_said}

module _ (h : Header) (header : List ℕ) (after_empty : Bool) (is : IsPackedPrimary h header after_empty) where
  -- the image that no check refuses
  passed : image_to_unpack h header after_empty ≡ Ok (Some (image_in h header))
  passed = is.passed ∙ ap Ok (image_if h header after_empty is.image is.passed ∙ ap (λ b. if b then Some (image_in h header) else None) is.packed)

  primary : (image_in h header).plan.primary ≡ true
  primary = primary_said (cards_of header) ∙ is.primary

  pub behind : ((h : Header) (header : List ℕ) (after_empty : Bool) (i : PackedImage) → image_to_unpack h header after_empty ≡ Ok (Some i) → i.plan.primary ≡ true → after_empty ≡ true) → after_empty ≡ true
  behind law = law h header after_empty (image_in h header) passed primary

  pub begins : ((h : Header) (header : List ℕ) (after_empty : Bool) (i : PackedImage) → image_to_unpack h header after_empty ≡ Ok (Some i) → i.plan.primary ≡ true →
      header_bytes (plain_header (cards_of header)) ≡ 83 ∷ drop 1 (header_bytes (plain_header (cards_of header)))) → (rest : List ℕ) × (header_bytes (plain_header (cards_of header)) ≡ 83 ∷ rest)
  begins law = (drop 1 (header_bytes (plain_header (cards_of header))), law h header after_empty (image_in h header) passed primary)
