-- The image of an HDU that passed the checks of `unpack`, and its largest tile (FITS 4.0, section 10.1).
use Rattle.std.proofs.Common.{◌≡◌, ℕ, ◌-◌, ◌≤◌, false, List, length, replicate, refl, sym, ap, ◌∙◌, arith}
use Rattle.std.specs.Prelude.{Option, Some, None, Ok, codes}
use Rattle.std.proofs.Math.Seq.{take-append_seam}
use Rattle.std.proofs.lemmas.List.FromFn.{length-map-range_with_len}
use Rattle.fz_base.specs.Refusal.{first_refusal}
use Rattle.fz_base.specs.declared.fault.Fault.{Fault}
use Rattle.fz_block.specs.Checks.{unless_refused}
use Rattle.fz_block.specs.declared.header.Header.{Header}
use Rattle.fz_grid.specs.Region.{lengths_of}
use Rattle.fz_checks.specs.JobChecks.{unpack_hdu_checks}
use Rattle.fz_checks.specs.Judges.{unpack_judge}
use Rattle.fz_head.specs.PackedPlan.{numbered_in, plan_of_cards, said_axes, said_tile, size_of, tile_along}
use Rattle.fz_head.specs.PlainHeader.{axis_count}
use Rattle.fz_checks.specs.WorkBuffers.{pixels_of_tile}
use Rattle.fz_head.specs.declared.plan.Plan.{Plan}
use Rattle.fz_files.specs.Restored.{pixels_of}
use Rattle.fz_job.proofs.Products.{product_of_tile}

not_refused : (r : Option Fault) → unless_refused false r ≡ Ok false → r ≡ None
not_refused None says = refl
not_refused (Some x) says = absurd cc

pub passed_checks : (file : List ℕ) (h : Header) → unpack_judge file h ≡ Ok false → first_refusal (unpack_hdu_checks file h) ≡ None
passed_checks file h says = not_refused (first_refusal (unpack_hdu_checks file h)) says

-- the tile has the axes of the image
pub tile_axes : (cards : List (List ℕ)) → length (lengths_of (plan_of_cards cards).tile) ≡ length (lengths_of (plan_of_cards cards).shape)
unfolding plan_of_cards
tile_axes cards =
    let tile : length (lengths_of (plan_of_cards cards).tile) ≡ axis_count cards =
    ap length (take-append_seam (said_tile cards) (replicate (9 - length (said_tile cards)) 0)) ∙ length-map-range_with_len (tile_along cards) 1 (axis_count cards) in
    let shape : length (lengths_of (plan_of_cards cards).shape) ≡ axis_count cards =
    ap length (take-append_seam (said_axes cards) (replicate (9 - length (said_axes cards)) 0)) ∙ length-map-range_with_len (λ i. size_of (numbered_in (codes "ZNAXIS") i cards)) 1 (axis_count cards) in
    tile ∙ sym shape

-- no tile is larger than a whole one
pub largest_within : (cards : List (List ℕ)) (n : ℕ) → pixels_of_tile (plan_of_cards cards) ≤ n → pixels_of (plan_of_cards cards) 0 ≤ n
largest_within cards n small =
    let p : Plan = plan_of_cards cards in
    let first : pixels_of p 0 ≤ pixels_of_tile p = product_of_tile (lengths_of p.shape) (lengths_of p.tile) 0 (tile_axes cards) in
    omega (arith, first, small)
