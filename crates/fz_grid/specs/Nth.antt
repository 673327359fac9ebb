-- A box's places by their number in its order.
use Rattle.std.specs.Prelude.{ℕ, List}
use Rattle.fz_grid.specs.Arrays.{coordinates_of, place_of}
use Rattle.fz_grid.specs.Grid.{moved}

-- the number of the k-th place of a box
abbrev pub nth_place : List ℕ → List ℕ → List ℕ → ℕ → ℕ
nth_place array corner lengths k = place_of array (moved corner (coordinates_of lengths k))
