-- A packed image whose header was restored, after HDUs that are what `pack` writes (FITS 4.0, sections 10.1.1 and 10.1.2).
use Rattle.std.specs.Prelude.{ℕ, ◌≡◌, ◌-◌, ◌*◌, ◌^◌, ◌≤◌, Bool, true, List, length, take, codes, Option, Some, None, IfSome, if◌then◌else◌}
use Rattle.fz_block.specs.Cards.{card_at}
use Rattle.fz_block.specs.Checks.{is_set}
use Rattle.fz_block.specs.Facts.{IsHeaderOf}
use Rattle.fz_block.specs.Header.{data_start_of, next_start_of}
use Rattle.fz_block.specs.Hdus.{cards_of}
use Rattle.fz_block.specs.declared.header.Header.{Header}
use Rattle.fz_files.specs.Restored.{header_in, plan_in}
use Rattle.fz_head.specs.Conditions.{IsPackPlan}
use Rattle.fz_checks.specs.JobChecks.{IsImageOf, image_in}
use Rattle.fz_head.specs.declared.options.PackOptions.{PackOptions}
use Rattle.fz_head.specs.declared.plan.Plan.{Plan}
use Rattle.fz_image.specs.Layout.{IsLayout, layout_of}
use Rattle.fz_image.specs.Progress.{no_progress, with_tiles}
use Rattle.fz_image.specs.Tiles.{AreCodesFrom}
use Rattle.fz_image.specs.declared.progress.Progress.{Progress}
use Rattle.fz_tile.specs.TileCode.{TileCode}
use Rattle.fz_compare.specs.Compared.{ComparesTable, has_frame}
use Rattle.fz_strict.specs.Origins.{IsOrigin, IsRestored, restored_bytes, with_hdu}
use Rattle.fz_strict.specs.SameImages.{ComparesImage, origin_before}
use Rattle.fz_strict.specs.declared.image.Restored.{Restored}
use Rattle.fz_strict.specs.declared.origin.Origin.{Origin}

-- The header of the table h with these cards is that of an image, which `pack` packs by this plan after these HDUs: its facts, and the layout
-- of the table that `pack` makes. There is none if there is a difference before it, or if `pack` does not pack it so.
abbrev pub Restores : PackOptions → List (List ℕ) → Header → Plan → Option Origin → Option Restored → Type 0
Restores o cards h p None now = now ≡ None
Restores o cards h p (Some before) None = (f : Header) → ¬ IsRestored o before cards p f
Restores o cards h p (Some before) (Some r) = (r.before ≡ before) × IsRestored o before cards p r.header × (r.layout ≡ layout_of r.header p (data_start_of h))

-- the bytes of the restored header, at the front of a buffer
abbrev pub bytes_back : Restored → List ℕ → List ℕ
bytes_back r plain = take (2880 * r.header.blocks) plain

-- they are there, and `pack` can go on from them
pub record IsBack (sums : Bool) (cards : List (List ℕ)) (p : Plan) (plain : List ℕ) (r : Restored) : Type 0 where
  pub origin : IsOrigin r.before
  pub room : 2880 * r.header.blocks ≤ length plain
  pub bytes : bytes_back r plain ≡ restored_bytes cards
  pub header : IsHeaderOf (bytes_back r plain) r.header
  pub end : next_start_of r.header ≤ 2 ^ 62
  pub simple : r.header.hdu ≡ 0 → is_set (codes "SIMPLE") (card_at (bytes_back r plain) 0) ≡ true
  pub plan : IsPackPlan (bytes_back r plain) r.header sums r.layout.plan
  pub plan_is : r.layout.plan ≡ p
  pub layout : IsLayout r.layout

-- the HDUs with the image, if all but its rows and its heap is what `pack` writes for tiles with these codes
abbrev pub with_frame : List ℕ → Header → Bool → Restored → List (List ℕ) → List TileCode → Option Origin
with_frame file h sums r cards codes =
    if has_frame file h r.layout sums cards codes then with_hdu r.before (next_start_of r.header - r.header.start) else None

-- this is the answer for the tiles of which this was written, if there is no difference before
abbrev pub ComparesRest : List ℕ → Header → Bool → List ℕ → Option Restored → Option Progress → Option Origin → Type 0
ComparesRest file h sums plain None w now = now ≡ None
ComparesRest file h sums plain (Some r) None now = now ≡ None
ComparesRest file h sums plain (Some r) (Some w) now =
    (codes : List TileCode) → AreCodesFrom r.layout 0 codes → length codes ≡ r.layout.tiles → w ≡ with_tiles r.layout no_progress codes →
    now ≡ with_frame file h sums r (cards_of (bytes_back r plain)) codes

-- the header of a packed image in a file, and the image that it says; the HDU ends within the file
pub record IsImageAt (file : List ℕ) (h : Header) : Type 0 where
  pub header : IsHeaderOf (header_in file h) h
  pub image : IsImageOf (header_in file h) h (image_in h (header_in file h))
  pub inside : next_start_of h ≤ length file

-- what was found of its parts decides whether it is what `pack` makes
abbrev pub ImagesAreCompared : Type 0
ImagesAreCompared =
    (o : PackOptions) (file : List ℕ) (h : Header) (origin : Option Origin) (r : Option Restored) (plain : List ℕ) (w : Option Progress) (now : Option Origin) →
    IsImageAt file h → IfSome origin IsOrigin →
    Restores o (cards_of (header_in file h)) h (plan_in file h) (origin_before origin (plan_in file h)) r →
    IfSome r (IsBack o.sums (cards_of (header_in file h)) (plan_in file h) plain) →
    IfSome r (λ x. ComparesTable file h x.layout w) → ComparesRest file h o.sums plain r w now →
    ComparesImage o file h origin now
