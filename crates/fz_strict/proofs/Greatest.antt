-- The greatest lengths of two tiles are those of a tile.
use Rattle.std.proofs.Common.{◌≡◌, ℕ, zero, suc, ◌+◌, ◌<◌, ◌≤◌, max, ⊎_elim, List, slice_index, Option, Some, ap, arith}
use Rattle.std.specs.Prelude.{if◌then◌else◌, nat_lt, Bool, true}
use Rattle.std.proofs.lemmas.Bool.Decides.{leb_tells}
use Rattle.fz_block.specs.declared.axes.Axes.{Axes}
use Rattle.fz_head.specs.Planned.{IsTile}
use Rattle.fz_strict.specs.Gathered.{greater_tile, length_along, longer}

along : (axes : Axes) (k : ℕ) → nat_lt k axes.n ≡ true → length_along axes k ≡ slice_index axes.len k
along axes k low = ap (λ (b : Bool). if b then slice_index axes.len k else 0) low

some_along : (axes : Axes) (k : ℕ) → IsTile (Some axes) → nat_lt k axes.n ≡ true → k < axes.n → 1 ≤ length_along axes k
some_along axes k is test low = omega (arith, along axes k test, is.2 k low)

module _ (a b : Axes) (first : IsTile (Some a)) (second : IsTile (Some b)) where
  longer_some : (k : ℕ) → k < max a.n b.n → 1 ≤ longer a b k
  longer_some k low = ⊎_elim
      (λ yes. omega (arith, some_along a k first yes.0 yes.1))
      (λ other. ⊎_elim
      (λ yes. omega (arith, some_along b k second yes.0 yes.1))
      (λ none. absurd (omega (arith, low, other.1, none.1)))
      (leb_tells (suc k) b.n))
      (leb_tells (suc k) a.n)

  lengths_some : (i : ℕ) → i < max a.n b.n → 1 ≤ slice_index (greater_tile a b).len i
  lengths_some zero low = longer_some 0 low
  lengths_some (suc zero) low = longer_some 1 low
  lengths_some (suc (suc zero)) low = longer_some 2 low
  lengths_some (suc (suc (suc zero))) low = longer_some 3 low
  lengths_some (suc (suc (suc (suc zero)))) low = longer_some 4 low
  lengths_some (suc (suc (suc (suc (suc zero))))) low = longer_some 5 low
  lengths_some (suc (suc (suc (suc (suc (suc zero)))))) low = longer_some 6 low
  lengths_some (suc (suc (suc (suc (suc (suc (suc zero))))))) low = longer_some 7 low
  lengths_some (suc (suc (suc (suc (suc (suc (suc (suc zero)))))))) low = longer_some 8 low
  lengths_some (suc (suc (suc (suc (suc (suc (suc (suc (suc i))))))))) low = absurd (omega (arith, low, first.1, second.1))

  pub greater_is_tile : IsTile (Some (greater_tile a b))
  greater_is_tile = (omega (arith, first.0), omega (arith, first.1, second.1), lengths_some)
