-- The tiles of an image, from the bytes of their pixels to the slots of a window.
use Rattle.std.proofs.Common.{◌≡◌, ℕ, ◌-◌, List, [], Option, Some, None, IfSome, refl, arith}
use Rattle.fz_pool.specs.Window.{Pool}
use Rattle.fz_image.specs.Tiles.{AreLoaded, tiles_from}
use Rattle.fz_image.specs.declared.layout.Layout.{Layout}

-- ---- slots

-- no slot has a tile at first
pub loaded_none : (l : Layout) (held : Option (List ℕ)) (first : ℕ) (w : Pool) → AreLoaded l held first 0 w
loaded_none l held first w = record {
  ready = λ i d near. absurd (omega (arith, near));
  tiles = [];
  count_is = refl;
  pixels = tt;
  hold = λ i d e near. absurd (omega (arith, near));
  told = none held;
}
  where
    none : (h : Option (List ℕ)) → IfSome h (λ file. [] ≡ tiles_from l file first 0)
    none None = tt
    none (Some file) = refl
