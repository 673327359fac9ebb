-- A band that is filled with the pixels of a box, tile by tile (FITS 4.0, sections 3.3.2 and 10.1).
use Rattle.std.proofs.Common.{ℕ, ◌-◌, List, Option, Some, None, IfSome, Ok}
use Rattle.fz_base.specs.Stop.{IfRefused}
use Rattle.fz_grid.specs.Grid.{tile}

-- ---- one tile

-- nothing was refused, if the call succeeded
pub never_ok : (X : Type 0) (x : X) (held : Option (List ℕ)) → IfSome held (λ g. IfRefused {X = X} (Ok x) (λ y. ⊥))
never_ok X x None = tt
never_ok X x (Some g) = tt
