-- The plan of an HDU that passed the checks of `pack`, and its largest tile (FITS 4.0, section 10.1).
use Rattle.std.proofs.Common.{◌≡◌, ℕ, ◌-◌, ◌≤◌, Bool, true, false, List, [], ◌∷◌, ◌++◌, length, replicate, refl, ap, ◌∙◌, arith}
use Rattle.std.specs.Prelude.{Option, Some, None, IfSome, Ok, if◌then◌else◌}
use Rattle.std.proofs.Math.Seq.{take-append_seam}
use Rattle.fz_base.specs.Refusal.{first_refusal}
use Rattle.fz_base.specs.declared.fault.Fault.{Fault}
use Rattle.fz_block.specs.Checks.{unless_refused}
use Rattle.fz_block.specs.Walk.{hdu_of}
use Rattle.fz_block.specs.declared.header.Header.{Header}
use Rattle.fz_grid.specs.Region.{lengths_of}
use Rattle.fz_checks.specs.JobChecks.{data_fill, fill_in, pack_hdu_checks, pack_header_checks}
use Rattle.fz_head.specs.Packable.{is_packable}
use Rattle.fz_head.specs.Planned.{asked_tile, cut_tile, pack_plan_of}
use Rattle.fz_head.specs.declared.options.PackOptions.{PackOptions}
use Rattle.fz_head.specs.declared.plan.Plan.{Plan}
use Rattle.fz_pack.specs.Again.{largest_of}
use Rattle.fz_checks.specs.Judges.{pack_judge}
use Rattle.fz_checks.specs.WorkBuffers.{pixels_of_tile}
use Rattle.fz_pack.proofs.Products.{product_of_tile}

-- the first of several checks refuse nothing where all do not
none_before : (cs ds : List (Bool × Fault)) → first_refusal (cs ++ ds) ≡ None → first_refusal cs ≡ None
none_before [] ds none = refl
none_before ((true, x) ∷ cs) ds none = absurd cc
none_before ((false, x) ∷ cs) ds none = none_before cs ds none

not_refused : (r : Option Fault) → unless_refused false r ≡ Ok false → r ≡ None
not_refused None says = refl
not_refused (Some x) says = absurd cc

pub passed_checks : (o : PackOptions) (file : List ℕ) (h : Header) → pack_judge o file h ≡ Ok false → first_refusal (pack_header_checks o h (hdu_of file h).header) ≡ None
passed_checks o file h says =
    none_before (pack_header_checks o h (hdu_of file h).header) (if is_packable h then data_fill h (fill_in file h) ∷ [] else [])
    (not_refused (first_refusal (pack_hdu_checks o file h)) says)

-- the tile that is asked for has the axes of the image
cut_axes : (ns asked : List ℕ) → length (cut_tile ns asked) ≡ length ns
cut_axes [] asked = refl
cut_axes (n ∷ ns) [] = let rest = cut_axes ns [] in omega (arith, rest)
cut_axes (n ∷ ns) (t ∷ ts) = let rest = cut_axes ns ts in omega (arith, rest)

pub tile_axes : (o : PackOptions) (h : Header) → length (lengths_of (pack_plan_of o h).tile) ≡ length (lengths_of (pack_plan_of o h).shape)
unfolding pack_plan_of
tile_axes o h =
    let cut : List ℕ = cut_tile (lengths_of h.axes) (asked_tile o.tile (lengths_of h.axes)) in
    ap length (take-append_seam cut (replicate (9 - length cut) 0)) ∙ cut_axes (lengths_of h.axes) (asked_tile o.tile (lengths_of h.axes))

-- no tile is larger than a whole one
pub largest_within : (o : PackOptions) (h : Header) (b : Bool) (n : ℕ) → (if b then pixels_of_tile (pack_plan_of o h) else 0) ≤ n → IfSome (if b then Some (pack_plan_of o h) else None) (λ p. largest_of p ≤ n)
largest_within o h true n small =
    let p : Plan = pack_plan_of o h in
    let first : largest_of p ≤ pixels_of_tile p = product_of_tile (lengths_of p.shape) (lengths_of p.tile) 0 (tile_axes o h) in
    omega (arith, first, small)
largest_within o h false n small = tt
