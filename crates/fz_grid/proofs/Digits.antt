-- Places and their coordinates, there and back.
use Rattle.std.proofs.Common.{◌≡◌, ℕ, suc, zero, ◌+◌, ◌*◌, ◌/◌, ◌%◌, ◌<◌, List, [], ◌∷◌, length, refl, ap, ◌∙◌, arith}
use Rattle.std.proofs.lemmas.Nat.{div-add-mod', div-mul-add, div_below, mod-mul-add, mod_below}
use Rattle.fz_grid.specs.Arrays.{coordinates_of, place_of, product}
use Rattle.fz_grid.proofs.Lists.{AllPositive, head_positive, tail_positive}
use Rattle.fz_grid.proofs.PlaceLemmas.{AreBelow, below_head, below_tail}

pub digits_length : (gs : List ℕ) (k : ℕ) → length (coordinates_of gs k) ≡ length gs
digits_length [] k = refl
digits_length (g ∷ gs) k = ap suc (digits_length gs (k / g))

pub digits_below : (gs : List ℕ) (k : ℕ) → AllPositive gs → AreBelow gs (coordinates_of gs k)
unfolding AreBelow
digits_below [] k positive i h = absurd (omega arith)
digits_below (g ∷ gs) k positive zero h = mod_below k g (head_positive g gs positive)
digits_below (g ∷ gs) k positive (suc i) h = digits_below gs (k / g) (tail_positive g gs positive) i (omega arith)

-- the digits of a place are its coordinates
pub digits_of_place : (gs ds : List ℕ) → length ds ≡ length gs → AreBelow gs ds → coordinates_of gs (place_of gs ds) ≡ ds
digits_of_place [] [] same below = refl
digits_of_place [] (d ∷ ds) same below = absurd (omega arith)
digits_of_place (g ∷ gs) [] same below = absurd (omega arith)
digits_of_place (g ∷ gs) (d ∷ ds) same below =
    let p = place_of gs ds in
    let turned : d + g * p ≡ p * g + d = omega arith in
    let low : (d + g * p) % g ≡ d = ap (λ k. k % g) turned ∙ mod-mul-add p g d (below_head g d gs ds below) in
    let high : (d + g * p) / g ≡ p = ap (λ k. k / g) turned ∙ div-mul-add p g d (below_head g d gs ds below) in
    ap (λ x. x ∷ coordinates_of gs ((d + g * p) / g)) low ∙ (ap (λ k. d ∷ coordinates_of gs k) high ∙ ap (λ l. d ∷ l) (digits_of_place gs ds (omega arith) (below_tail g d gs ds below)))

-- the place of the digits of a number is that number
pub place_of_digits : (gs : List ℕ) (k : ℕ) → AllPositive gs → k < product gs → place_of gs (coordinates_of gs k) ≡ k
place_of_digits [] k positive below = omega arith
place_of_digits (g ∷ gs) k positive below =
    let some = head_positive g gs positive in
    let turned : k < product gs * g = omega arith in
    let higher = place_of_digits gs (k / g) (tail_positive g gs positive) (div_below k g (product gs) some turned) in
    ap (λ p. k % g + g * p) higher ∙ omega (arith, div-add-mod' k g)
