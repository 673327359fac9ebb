-- Places of pixels, and buffers that were lent.
use Rattle.std.proofs.Common.{◌≡◌, ℕ, ◌*◌, ◌/◌, eqb, cond, Bool, true, false, List, ◌++◌, length, take, drop, refl, sym, ap, ◌∙◌, subst, arith, ℤ, pos, to_z, of_z, w32, ⊎_elim}
use Rattle.std.proofs.lemmas.List.{append-nil, drop_all, take_all}
use Rattle.fz_tile.specs.Pixels.{IsBitpix, place_count, pixel_count}

either_count : (b : Bool) (n : ℕ) → cond b (cond b (2 * n) n / 2) (cond b (2 * n) n) ≡ n
either_count true n = omega arith
either_count false n = refl

-- the places of n pixels hold n pixels
pub pixels_back : (bits n : ℕ) → pixel_count bits (place_count bits n) ≡ n
pixels_back bits n = either_count (eqb bits 64) n

-- what was left in a whole buffer that was lent
pub refilled_all : {A : Type 0} (old lent : List A) → length lent ≡ length old → take (length old) (lent ++ drop (length lent) old) ≡ lent
refilled_all old lent e =
    ap (λ (xs : List _). take (length old) (lent ++ xs)) (drop_all (length lent) old (omega arith)) ∙ (ap (take (length old)) (append-nil lent) ∙ take_all (length old) lent (omega arith))

-- a BITPIX as the machine holds it
pub round_trip : (b : ℤ) → IsBitpix b → to_z w32 (of_z w32 b) ≡ b
round_trip b is = ⊎_elim
    (λ (e : b ≡ pos 8). subst (λ (z : ℤ). to_z w32 (of_z w32 z) ≡ z) (sym e) refl)
    (⊎_elim
    (λ (e : b ≡ pos 16). subst (λ (z : ℤ). to_z w32 (of_z w32 z) ≡ z) (sym e) refl)
    (⊎_elim
    (λ (e : b ≡ pos 32). subst (λ (z : ℤ). to_z w32 (of_z w32 z) ≡ z) (sym e) refl)
    (λ (e : b ≡ pos 64). subst (λ (z : ℤ). to_z w32 (of_z w32 z) ≡ z) (sym e) refl)))
    is
