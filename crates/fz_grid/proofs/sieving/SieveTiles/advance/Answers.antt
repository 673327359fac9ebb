use Rattle.std.proofs.Common.{◌≡◌, ℕ, suc, ◌+◌, ◌-◌, ◌∷◌, map, ap, sym, ◌∙◌, arith}
use Rattle.std.specs.List.{range_with_len}
use Rattle.fz_grid.specs.Region.{lengths_of}
use Rattle.fz_grid.specs.Sieve.{sieve_lo, sieve_step}
use Rattle.fz_grid.specs.Visits.{nth_visited}
use Rattle.fz_grid.proofs.sieving.SieveTiles.advance.Goals as goal

pub returns : goal.returns
returns c =
    let tiles = c.args.self.now in
    let number : ℕ → ℕ = nth_visited (lengths_of tiles.grid) (sieve_lo tiles.sieve) (sieve_step tiles.sieve) (lengths_of tiles.tile) (lengths_of tiles.counts) in
    let rest = range_with_len (tiles.next + 1) (tiles.end - (tiles.next + 1)) in
    let more : tiles.end - tiles.next ≡ suc (tiles.end - (tiles.next + 1)) = omega arith in
    ap (λ n. map number (range_with_len tiles.next n)) more ∙ ap (λ t. t ∷ map number rest) (sym c.number-number.ensures)
