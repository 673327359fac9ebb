-- The checks of the axes and tiles that a packed header says, one after another.
use Rattle.std.proofs.Common.{◌≡◌, ℕ, ◌<◌, ◌≤◌, ◌^◌, Bool, false, List, [], ◌∷◌, ◌++◌, get_or, ap, sym, ◌∙◌, arith}
use Rattle.std.specs.Prelude.{◌||◌, nat_lt, Option, Some, None}
use Rattle.std.specs.List.{flat_map, range_with_len}
use Rattle.std.proofs.lemmas.Bool.{ltb-false, or_parts}
use Rattle.fz_base.specs.Refusal.{first_refusal}
use Rattle.fz_base.specs.declared.fault.Fault.{Fault}
use Rattle.fz_block.specs.Facts.{nine_axes}
use Rattle.fz_block.specs.declared.axes.Axes.{Axes}
use Rattle.fz_grid.specs.Arrays.{product}
use Rattle.fz_grid.specs.Grid.{tile_count}
use Rattle.fz_grid.specs.Region.{IsDivided, lengths_of}
use Rattle.fz_head.specs.PackedChecks.{axis_checks, axis_count_checks, grid_check, shape_checks, tile_check}
use Rattle.fz_head.specs.PackedPlan.{said_axes, said_tile}
use Rattle.fz_head.specs.PlainHeader.{axis_count}
use Rattle.fz_checks.proofs.PlannedTiles.{lengths-nine_axes}
use Rattle.fz_checks.proofs.RefusalLists.{in-second-list, in-third-list, after-three-lists, stopped}

-- the checks of so many axes, and of the tile along them
abbrev pub axes-checks : ℕ → List (List ℕ) → ℕ → List (Bool × Fault)
axes-checks k cards n = flat_map (axis_checks k cards) (range_with_len 1 n)

abbrev pub tile-checks : ℕ → List (List ℕ) → ℕ → List (Bool × Fault)
tile-checks k cards n = flat_map (λ i. tile_check k cards i ∷ []) (range_with_len 1 n)

axes-at : (k : ℕ) (cards : List (List ℕ)) (n : ℕ) (answer : Option Fault) → n ≡ axis_count cards → first_refusal (axes-checks k cards n) ≡ answer → first_refusal (axes-checks k cards (axis_count cards)) ≡ answer
axes-at k cards n answer count e = ap (λ m. first_refusal (axes-checks k cards m)) (sym count) ∙ e

tile-at : (k : ℕ) (cards : List (List ℕ)) (n : ℕ) (answer : Option Fault) → n ≡ axis_count cards → first_refusal (tile-checks k cards n) ≡ answer → first_refusal (tile-checks k cards (axis_count cards)) ≡ answer
tile-at k cards n answer count e = ap (λ m. first_refusal (tile-checks k cards m)) (sym count) ∙ e

pub in-count : (k : ℕ) (cards : List (List ℕ)) (x : Fault) → first_refusal (axis_count_checks k cards) ≡ Some x → first_refusal (shape_checks k cards) ≡ Some x
in-count k cards x e = stopped (axis_count_checks k cards) (axes-checks k cards (axis_count cards) ++ (tile-checks k cards (axis_count cards) ++ grid_check k cards ∷ [])) x e

pub in-axes : (k : ℕ) (cards : List (List ℕ)) (n : ℕ) (x : Fault) → n ≡ axis_count cards → first_refusal (axis_count_checks k cards) ≡ None → first_refusal (axes-checks k cards n) ≡ Some x → first_refusal (shape_checks k cards) ≡ Some x
in-axes k cards n x count one e =
    in-second-list (axis_count_checks k cards) (axes-checks k cards (axis_count cards)) (tile-checks k cards (axis_count cards) ++ grid_check k cards ∷ []) x one (axes-at k cards n _ count e)

pub in-tile : (k : ℕ) (cards : List (List ℕ)) (n m : ℕ) (x : Fault) → n ≡ axis_count cards → m ≡ n → first_refusal (axis_count_checks k cards) ≡ None → first_refusal (axes-checks k cards n) ≡ None → first_refusal (tile-checks k cards m) ≡ Some x →
    first_refusal (shape_checks k cards) ≡ Some x
in-tile k cards n m x count same one two e =
    in-third-list (axis_count_checks k cards) (axes-checks k cards (axis_count cards)) (tile-checks k cards (axis_count cards)) (grid_check k cards ∷ []) x one (axes-at k cards n _ count two) (tile-at k cards m _ (same ∙ count) e)

pub in-grid : (k : ℕ) (cards : List (List ℕ)) (n m : ℕ) (answer : Option Fault) → n ≡ axis_count cards → m ≡ n → first_refusal (axis_count_checks k cards) ≡ None → first_refusal (axes-checks k cards n) ≡ None → first_refusal (tile-checks k cards m) ≡ None →
    first_refusal (grid_check k cards ∷ []) ≡ answer → first_refusal (shape_checks k cards) ≡ answer
in-grid k cards n m answer count same one two three e =
    after-three-lists (axis_count_checks k cards) (axes-checks k cards (axis_count cards)) (tile-checks k cards (axis_count cards)) (grid_check k cards ∷ []) one (axes-at k cards n _ count two) (tile-at k cards m _ (same ∙ count) three) ∙ e

-- too many pixels, pixels in a tile, or tiles
abbrev pub is-large : List ℕ → List ℕ → Bool
is-large shape tile = nat_lt (2 ^ 40) (product shape) || (nat_lt (2 ^ 26) (product tile) || nat_lt 2147483647 (tile_count shape tile))

pub large-of : (cards : List (List ℕ)) (shape tile : Axes) (large : Bool) → shape ≡ nine_axes (said_axes cards) → tile ≡ nine_axes (said_tile cards) → large ≡ is-large (lengths_of shape) (lengths_of tile) → large ≡ is-large (said_axes cards) (said_tile cards)
large-of cards shape tile large axes lengths is =
    is
    ∙ (ap (λ l. is-large l (lengths_of tile)) (ap lengths_of axes ∙ lengths-nine_axes (said_axes cards))
    ∙ ap (is-large (said_axes cards)) (ap lengths_of lengths ∙ lengths-nine_axes (said_tile cards)))

pub divided-of : (shape tile : Axes) → (1 ≤ shape.n) × (shape.n ≤ 9) → tile.n ≡ shape.n → ((i : ℕ) → i < shape.n → (1 ≤ get_or tile.len i 0) × (get_or tile.len i 0 ≤ get_or shape.len i 0)) → is-large (lengths_of shape) (lengths_of tile) ≡ false → IsDivided shape tile
divided-of shape tile number same each small =
    let one = or_parts (nat_lt (2 ^ 40) (product (lengths_of shape))) _ small in
    let two = or_parts (nat_lt (2 ^ 26) (product (lengths_of tile))) _ one.1 in
    let tiles = ltb-false 2147483647 (tile_count (lengths_of shape) (lengths_of tile)) two.1 in
    record {
      some = number.0;
      axes = number.1;
      same_axes = same;
      positive = λ i within. (each i within).0;
      inside = λ i within. (each i within).1;
      pixels = ltb-false (2 ^ 40) (product (lengths_of shape)) one.0;
      tile_pixels = ltb-false (2 ^ 26) (product (lengths_of tile)) two.0;
      tiles = omega (arith, tiles);
    }
