-- Tiles that were loaded and then decoded: their pixels, and the first fault of their rows.
use Rattle.std.proofs.Common.{◌≡◌, ℕ, List, [], ◌∷◌, ◌++◌, Option, Some, None, IfSome, refl, sym, ap, ◌∙◌, subst}
use Rattle.fz_base.specs.Ranges.{LogsIn}
use Rattle.fz_block.specs.declared.header.Header.{Header}
use Rattle.fz_table.specs.Reads.{tile_ranges}
use Rattle.fz_table.specs.Records.{record_at}
use Rattle.fz_table.specs.declared.table.Table.{Table}
use Rattle.fz_checks.specs.declared.job_checks.PackedImage.{PackedImage}
use Rattle.fz_head.specs.declared.plan.Plan.{Plan}
use Rattle.fz_files.specs.Cutout.{ranges_of_row}
use Rattle.fz_files.specs.FirstFault.{image_row}
use Rattle.fz_files.specs.Restored.{image_table, plan_in, tile_of}
use Rattle.fz_job.specs.Images.{fetched_ranges, IsSaid}
use Rattle.fz_fetch.specs.Loaded.{tiles_ranges}

-- ---- one tile

-- a record of the image is that of the row in the file
pub chosen_in : (file : List ℕ) (h : Header) (image : PackedImage) (t : ℕ) → IsSaid file h image
    → record_at file h.hdu (image_table file h) t (tile_of (plan_in file h) t) ≡ record_at file h.hdu image.table t (tile_of image.plan t)
chosen_in file h image t said =
    ap (λ (s : Table). record_at file h.hdu s t (tile_of (plan_in file h) t)) said.table ∙ ap (λ (p : Plan). record_at file h.hdu image.table t (tile_of p t)) said.plan

-- ---- ranges

-- what is read for tiles of the image is what is touched in the file
ranges_same : (file : List ℕ) (h : Header) (image : PackedImage) → IsSaid file h image → (tiles : List ℕ) → tiles_ranges file h.hdu image tiles ≡ fetched_ranges file h tiles
ranges_same file h image said [] = refl
ranges_same file h image said (t ∷ ts) =
    let one : tile_ranges file h.hdu image.table t (tile_of image.plan t) ≡ ranges_of_row file (image_row h t) =
    ap (λ (s : Table). tile_ranges file h.hdu s t (tile_of image.plan t)) (sym said.table) ∙ ap (λ (p : Plan). tile_ranges file h.hdu (image_table file h) t (tile_of p t)) (sym said.plan) in
    ap (λ l. l ++ tiles_ranges file h.hdu image ts) one ∙ ap (λ l. ranges_of_row file (image_row h t) ++ l) (ranges_same file h image said ts)

pub fetched_in : (held : Option (List ℕ)) (h : Header) (image : PackedImage) (tiles : List ℕ) (old new : Option (List (ℕ × ℕ))) → IfSome held (λ file. IsSaid file h image)
    → IfSome held (λ file. LogsIn (tiles_ranges file h.hdu image tiles) old new) → IfSome held (λ file. LogsIn (fetched_ranges file h tiles) old new)
fetched_in None h image tiles old new said logs = tt
fetched_in (Some file) h image tiles old new said logs = subst (λ (rs : List (ℕ × ℕ)). LogsIn rs old new) (ranges_same file h image said tiles) logs
