-- A packed image after HDUs that are what `pack` writes, compared with what `pack` writes for it (FITS 4.0, sections 10.1.1 to 10.1.3).
use Rattle.std.specs.Prelude.{ℕ, ◌≡◌, Bool, true, false, List, [], length, take, Option, Some, None, if◌then◌else◌}
use Rattle.fz_block.specs.Hdus.{IsHeader, hdu_bytes}
use Rattle.fz_block.specs.Walk.{hdu_of}
use Rattle.fz_block.specs.declared.header.Header.{Header}
use Rattle.fz_files.specs.Restored.{RowsStandFor, is_image, plan_in}
use Rattle.fz_grid.specs.Arrays.{NumberArray}
use Rattle.fz_head.specs.declared.options.PackOptions.{PackOptions}
use Rattle.fz_head.specs.declared.plan.Plan.{Plan}
use Rattle.fz_strict.specs.Origins.{no_origin, with_hdu}
use Rattle.fz_strict.specs.SameHdus.{IsSameCopy, IsSameImage, plain_image}
use Rattle.fz_strict.specs.declared.origin.Origin.{Origin}

-- the HDUs before a packed image: none if it was the primary, whatever was before it
abbrev pub origin_before : Option Origin → Plan → Option Origin
origin_before origin p = if p.primary then Some no_origin else origin

-- the bytes before its table that belong to it: all of them if it was the primary
abbrev pub front_before : List ℕ → Header → Plan → List ℕ
front_before file h p = if p.primary then take h.start file else []

-- the bytes before the table of a primary are a header
abbrev pub HasHeaderBefore : List ℕ → Header → Type 0
HasHeaderBefore file h = (plan_in file h).primary ≡ true → IsHeader (take h.start file)

-- The packed image whose tiles are those of this array is what `pack` makes of what it stands for, after these HDUs; and these are the HDUs
-- with it.
pub record IsSameAfter (o : PackOptions) (file : List ℕ) (before : Origin) (h : Header) (a : NumberArray) (now : Origin) : Type 0 where
  pub same : IsSameImage o file (front_before file h (plan_in file h)) before.hdus before.end h a
  pub after : with_hdu before (length (hdu_bytes (plain_image file h a))) ≡ Some now

-- the answer of the comparison: the HDUs with it, or none if it is not what `pack` makes, or nothing before it was
abbrev pub ComparesFrom : PackOptions → List ℕ → Header → NumberArray → Option Origin → Option Origin → Type 0
ComparesFrom o file h a None now = now ≡ None
ComparesFrom o file h a (Some before) None = (now : Origin) → ¬ IsSameAfter o file before h a now
ComparesFrom o file h a (Some before) (Some now) = IsSameAfter o file before h a now

abbrev pub ComparesImage : PackOptions → List ℕ → Header → Option Origin → Option Origin → Type 0
ComparesImage o file h origin now =
    (a : NumberArray) → RowsStandFor file h a → HasHeaderBefore file h → ComparesFrom o file h a (origin_before origin (plan_in file h)) now

-- The same of an HDU that is not packed: `pack` copies it.
pub record IsCopyAfter (o : PackOptions) (file : List ℕ) (before : Origin) (h : Header) (now : Origin) : Type 0 where
  pub same : IsSameCopy o file [] before.hdus before.end h
  pub after : with_hdu before (length (hdu_bytes (hdu_of file h))) ≡ Some now

abbrev pub ComparesCopy : PackOptions → List ℕ → Header → Option Origin → Option Origin → Type 0
ComparesCopy o file h None now = now ≡ None
ComparesCopy o file h (Some before) None = (now : Origin) → ¬ IsCopyAfter o file before h now
ComparesCopy o file h (Some before) (Some now) = IsCopyAfter o file before h now

-- and of any HDU
pub record ComparesHdu (o : PackOptions) (file : List ℕ) (h : Header) (origin now : Option Origin) : Type 0 where
  pub image : is_image file h ≡ true → ComparesImage o file h origin now
  pub copy : is_image file h ≡ false → ComparesCopy o file h origin now
