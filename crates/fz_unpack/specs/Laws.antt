-- What the checks of a packed header promise of a packed primary (FITS 4.0, sections 4.4.1.1 and 10.1.2).
use Rattle.std.specs.Prelude.{ℕ, ◌≡◌, Bool, true, List, ◌∷◌, Option, Ok}
use Rattle.fz_block.specs.Hdus.{cards_of, header_bytes}
use Rattle.fz_block.specs.declared.header.Header.{Header}
use Rattle.fz_checks.specs.JobChecks.{image_to_unpack}
use Rattle.fz_head.specs.Packable.{is_packed}
use Rattle.fz_head.specs.PlainHeader.{plain_header, was_primary}
use Rattle.fz_checks.specs.declared.job_checks.PackedImage.{PackedImage}

-- no check refuses the header of a packed primary
pub record IsPackedPrimary (h : Header) (header : List ℕ) (after_empty : Bool) : Type 0 where
  pub image : Option PackedImage
  pub passed : image_to_unpack h header after_empty ≡ Ok image
  pub packed : is_packed header h ≡ true
  pub primary : was_primary (cards_of header) ≡ true

-- it is after an empty primary
abbrev pub PrimariesAreBehind : Type 0
PrimariesAreBehind = (h : Header) (header : List ℕ) (after_empty : Bool) → IsPackedPrimary h header after_empty → after_empty ≡ true

-- and the header of its image begins with the S of SIMPLE
abbrev pub PrimariesBegin : Type 0
PrimariesBegin =
    (h : Header) (header : List ℕ) (after_empty : Bool) → IsPackedPrimary h header after_empty
    → (rest : List ℕ) × (header_bytes (plain_header (cards_of header)) ≡ 83 ∷ rest)
