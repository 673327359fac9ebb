use Rattle.std.proofs.Common.{◌≡◌, get_or, take, ap, sym, ◌∙◌, arith}
use Rattle.fz_grid.specs.Arrays.{coordinates_of, place_of}
use Rattle.fz_grid.specs.Grid.{moved}
use Rattle.fz_grid.specs.Region.{lengths_of, region_corner}
use Rattle.fz_grid.specs.Sieve.{sieve_lo, sieve_step, stepped}
use Rattle.fz_grid.proofs.TableLemmas.{moved_list, stepped_list}
use Rattle.fz_grid.proofs.line_walk.Lines.line.Goals as goal

pub returns : goal.returns
returns c =
    let lines = c.args.self.now in
    let tile = lines.tile in
    let cutout = lines.cutout in
    let inside = lines.part.inside in
    let at = lines.part.at in
    let numbers = c.coordinates-numbers.result in
    let pick = c.pick_at-pick.result in
    let pixel = c.pixel_at-pixel.result in
    let of_inside = lines.between.inside.same_axes in
    let of_at = lines.between.at.same_axes in
    let few = lines.between.tile_is.axes in
    let few' = lines.between.cutout_is.axes in
    let digits = coordinates_of (lengths_of lines.rows) lines.next in
    let in_tile : take tile.n numbers ≡ digits = ap (λ n. take n numbers) (sym lines.rows_axes) ∙ c.coordinates-numbers.ensures.coordinates in
    let in_cutout : take cutout.n numbers ≡ digits = ap (λ n. take n numbers) lines.between.same_axes ∙ in_tile in
    let picked = stepped_list pick inside.lo inside.step numbers tile.n (omega arith) (omega arith) (omega arith) (omega arith) c.pick_at-pick.ensures.pick in
    let placed = moved_list pixel at.lo numbers cutout.n (omega arith) (omega arith) (omega arith) c.pixel_at-pixel.ensures.pixel in
    let lo : take tile.n inside.lo ≡ sieve_lo inside = ap (λ n. take n inside.lo) (sym of_inside) in
    let step : take tile.n inside.step ≡ sieve_step inside = ap (λ n. take n inside.step) (sym of_inside) in
    let corner : take cutout.n at.lo ≡ region_corner at = ap (λ n. take n at.lo) (sym of_at) in
    let pick_is : c.index.result ≡ place_of (lengths_of tile) (stepped (sieve_lo inside) (sieve_step inside) digits) =
    c.index.ensures.place
    ∙ ap (place_of (lengths_of tile)) (picked ∙ (ap (λ l. stepped l (take tile.n inside.step) (take tile.n numbers)) lo ∙ (ap (λ l. stepped (sieve_lo inside) l (take tile.n numbers)) step ∙ ap (stepped (sieve_lo inside) (sieve_step inside)) in_tile))) in
    let pixel_is : c.index-2.result ≡ place_of (lengths_of cutout) (moved (region_corner at) digits) =
    c.index-2.ensures.place
    ∙ ap (place_of (lengths_of cutout)) (placed ∙ (ap (λ l. moved l (take cutout.n numbers)) corner ∙ ap (moved (region_corner at)) in_cutout)) in
    λ i. record { in_tile = pick_is i; step = get_or inside.step 0 0; in_cutout = pixel_is i; count = get_or at.len 0 0 }
