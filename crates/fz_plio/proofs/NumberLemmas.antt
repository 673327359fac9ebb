-- Numbers in range are their own absolute values, and so are runs of them.
use Rattle.std.proofs.Common.{◌≡◌, ◌≢◌, ℕ, zero, suc, ◌+◌, ◌^◌, ◌<◌, ◌≤◌, List, [], ◌∷◌, ◌++◌, ℤ, pos, negsuc, nat_abs, to_z, of_z, w32, length, replicate, take, drop, get_or, refl, sym, ap, ◌∙◌, subst, arith}
use Rattle.std.specs.Prelude.{All, Bool, true, false, ◌&&◌, ◌↔◌, IsTrue}
use Rattle.std.specs.List.{AllByRecursion}
use Rattle.std.proofs.lemmas.Bool.Decides.{nat_tests}
use Rattle.std.proofs.lemmas.Int.{ints, to_z-of_z}
use Rattle.std.proofs.lemmas.List.{map-append, take-append-drop, get_or-drop, get_or_default, get_or-map, length-drop, length-map, take_all}
use Rattle.std.proofs.lemmas.List.Elements.{All-drop, All-from_recursion, recursion_from_All}
use Rattle.fz_plio.specs.Producer.{InRange, can_hold, can_hold_all, runs}
use Rattle.fz_plio.specs.Writing.{magnitudes}
use Rattle.fz_plio.proofs.ProducerLemmas.{map-replicate}
use Rattle.fz_plio.proofs.RunLemmas.{runs-first, runs-no_run}

pub pos-nat_abs : (z : ℤ) → InRange z → pos (nat_abs z) ≡ z
pos-nat_abs (pos n) fits = refl
pos-nat_abs (negsuc n) fits = absurd (omega (arith, ints, fits.0))

pub nat_abs-lt : (z : ℤ) → InRange z → nat_abs z < 2 ^ 24
nat_abs-lt (pos n) fits = omega (arith, ints, fits.1)
nat_abs-lt (negsuc n) fits = absurd (omega (arith, ints, fits.0))

-- numbers that differ have other absolute values
apart : (x y : ℤ) → InRange x → InRange y → x ≢ y → nat_abs x ≢ nat_abs y
apart x y fits_x fits_y other same = other (sym (pos-nat_abs x fits_x) ∙ ap pos same ∙ pos-nat_abs y fits_y)

-- a line of zeros
pub runs-zeros_only : (xs : List ℤ) (z : ℕ) → z ≡ length xs → take z xs ≡ replicate z (pos 0) → runs (magnitudes xs) ≡ []
runs-zeros_only xs z all front =
    let whole : xs ≡ replicate z (pos 0) = sym (take_all z xs (omega arith)) ∙ front in
    ap runs (ap magnitudes whole ∙ map-replicate nat_abs z (pos 0)) ∙ runs-no_run z

some_count : (ys : List ℤ) (c : ℕ) (v : ℤ) → 0 < length ys → get_or ys 0 v ≡ v → (c < length ys → get_or ys c v ≢ v) → 0 < c
some_count ys zero v there first end = absurd (end there first)
some_count ys (suc c) v there first end = omega arith

zero_in_range : InRange (pos 0)
zero_in_range = (omega (arith, ints), omega (arith, ints))

-- what follows a run begins with another number
other_behind : (ys : List ℤ) (c : ℕ) (v : ℤ) → All InRange ys → InRange v → (c < length ys → get_or ys c v ≢ v) → 0 < length (magnitudes (drop c ys)) → get_or (magnitudes (drop c ys)) 0 0 ≢ nat_abs v
other_behind ys c v fits v_fits end more same =
    let some : 0 < length (drop c ys) = omega (arith, length-map (drop c ys) nat_abs) in
    let within : c < length ys = omega (arith, length-drop c ys) in
    let place : c + 0 ≡ c = omega arith in
    let there : get_or (drop c ys) 0 (pos 0) ≡ get_or ys c v = get_or-drop c ys 0 (pos 0) ∙ ap (λ k. get_or ys k (pos 0)) place ∙ get_or_default ys c (pos 0) v within in
    let other : get_or (drop c ys) 0 (pos 0) ≢ v = λ e. end within (sym there ∙ e) in
    apart _ v (All-drop InRange c ys fits 0 (pos 0) some) v_fits other (sym (get_or-map nat_abs (drop c ys) 0 (pos 0) 0 some) ∙ same)

-- the first run of a line
pub runs-first_run : (xs : List ℤ) (z c : ℕ) (v : ℤ) → All InRange xs → z < length xs → take z xs ≡ replicate z (pos 0) → v ≡ get_or (drop z xs) 0 (pos 0) → v ≢ pos 0 → take c (drop z xs) ≡ replicate c v → (c < length (drop z xs) → get_or (drop z xs) c v ≢ v) → c ≤ length (drop z xs) → runs (magnitudes xs) ≡ record { zeros = z; value = nat_abs v; count = c } ∷ runs (magnitudes (drop c (drop z xs)))
runs-first_run xs z c v fits within front is some count end bound =
    let behind = drop z xs in
    let rest = drop c behind in
    let behind_fits = All-drop InRange z xs fits in
    let there : 0 < length behind = omega (arith, length-drop z xs) in
    let v_fits : InRange v = subst InRange (sym is) (behind_fits 0 (pos 0) there) in
    let first : get_or behind 0 v ≡ v = get_or_default behind 0 v (pos 0) there ∙ sym is in
    let split : magnitudes xs ≡ replicate z 0 ++ (replicate c (nat_abs v) ++ magnitudes rest) =
    ap magnitudes (sym (take-append-drop z xs)) ∙ map-append nat_abs (take z xs) behind
    ∙ (λ i. (ap magnitudes front ∙ map-replicate nat_abs z (pos 0)) i
    ++ (ap magnitudes (sym (take-append-drop c behind)) ∙ map-append nat_abs (take c behind) rest ∙ ap (λ (ys : List ℕ). ys ++ magnitudes rest) (ap magnitudes count ∙ map-replicate nat_abs c v)) i) in
    let counted : 0 < c = some_count behind c v there first end in
    let value : nat_abs v ≢ 0 = apart v (pos 0) v_fits zero_in_range some in
    let new : 0 < length (magnitudes rest) → get_or (magnitudes rest) 0 0 ≢ nat_abs v = other_behind behind c v behind_fits v_fits end in
    ap runs split ∙ runs-first z c (nat_abs v) (magnitudes rest) value counted new

-- a number in range as 32 bits hold it
pub held : (z : ℤ) → InRange z → to_z w32 (of_z w32 z) ≡ z
held (pos n) fits = to_z-of_z w32 (pos n) (record { sfits = omega (arith, nat_abs-lt (pos n) fits) })
held (negsuc n) fits = absurd (omega (arith, ints, fits.0))

-- the first run of a line, as the code finds it
pub runs-next_run : (xs ys rest : List ℤ) (z c : ℕ) (v : ℤ) → All InRange xs → z < length xs → take z xs ≡ replicate z (pos 0) → get_or xs z (pos 0) ≢ pos 0 → ys ≡ drop z xs → v ≡ to_z w32 (of_z w32 (get_or ys 0 (pos 0))) → take c ys ≡ replicate c v → (c < length ys → get_or ys c v ≢ v) → c ≤ length ys → rest ≡ drop c ys → runs (magnitudes xs) ≡ record { zeros = z; value = nat_abs v; count = c } ∷ runs (magnitudes rest)
runs-next_run xs ys rest z c v fits within front some behind is count end bound last =
    let place : z + 0 ≡ z = omega arith in
    let head : get_or ys 0 (pos 0) ≡ get_or xs z (pos 0) = ap (λ (l : List ℤ). get_or l 0 (pos 0)) behind ∙ get_or-drop z xs 0 (pos 0) ∙ ap (λ k. get_or xs k (pos 0)) place in
    let head_fits : InRange (get_or ys 0 (pos 0)) = subst InRange (sym head) (fits z (pos 0) within) in
    let is_head : v ≡ get_or ys 0 (pos 0) = is ∙ held _ head_fits in
    runs-first_run xs z c v fits within front (is_head ∙ ap (λ (l : List ℤ). get_or l 0 (pos 0)) behind) (λ e. some (sym head ∙ sym is_head ∙ e))
    (ap (take c) (sym behind) ∙ count)
    (subst (λ (l : List ℤ). c < length l → get_or l c v ≢ v) behind end)
    (subst (λ (l : List ℤ). c ≤ length l) behind bound)
    ∙ ap (λ (l : List ℤ). record { zeros = z; value = nat_abs v; count = c } ∷ runs (magnitudes l)) (ap (drop c) (sym behind) ∙ sym last)

-- the test of one number, and of all numbers of a line
can_hold-is : (z : ℤ) → (can_hold z ≡ true → InRange z) × (InRange z → can_hold z ≡ true)
can_hold-is (pos n) = ((λ e. let small : n < 2 ^ 24 = grind (arith, nat_tests) in (omega (arith, ints), omega (arith, ints))), (λ fits. let small : n < 2 ^ 24 = omega (arith, ints, fits.1) in grind (arith, nat_tests)))
can_hold-is (negsuc n) = ((λ e. cc), (λ fits. absurd (omega (arith, ints, fits.0))))

both : (a b : Bool) → a && b ≡ true → (a ≡ true) × (b ≡ true)
both true true e = (refl, refl)
both true false e = cc
both false b e = cc

held_all : (numbers : List ℤ) → can_hold_all numbers ≡ true → AllByRecursion InRange numbers
unfolding can_hold_all
held_all [] e = tt
held_all (z ∷ rest) e = let parts = both (can_hold z) (can_hold_all rest) e in ((can_hold-is z).0 parts.0, held_all rest parts.1)

all_held : (numbers : List ℤ) → AllByRecursion InRange numbers → can_hold_all numbers ≡ true
unfolding can_hold_all
all_held [] fits = refl
all_held (z ∷ rest) fits = let here = (can_hold-is z).1 fits.0 in rw here (all_held rest fits.1)

pub can_hold_all-is : (numbers : List ℤ) → IsTrue (can_hold_all numbers) ↔ All InRange numbers
can_hold_all-is numbers = ((λ e. All-from_recursion InRange numbers (held_all numbers e)), (λ fits. all_held numbers (recursion_from_All InRange numbers fits)))
