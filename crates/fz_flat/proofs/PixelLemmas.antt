-- The places that pixels take, one or two each.
use Rattle.std.proofs.Common.{◌≡◌, ◌==◌, if◌then◌else◌, Bool, true, false, ℕ, zero, suc, ◌+◌, ◌*◌, ◌<◌, ℤ, pos, List, [], ◌∷◌, ◌++◌, length, take, drop, get_or, refl, sym, ap, ◌∙◌, arith}
use Rattle.std.specs.List.{flat_map}
use Rattle.std.proofs.lemmas.List.{drop-drop, length-drop, nil_from_length, take-append-drop}
use Rattle.std.proofs.Math.Nat.{mul-add}
use Rattle.fz_tile.specs.Pixels.{halves, place_count, places}
use Rattle.fz_flat.specs.Placed.{pixel_in}

no_halves : (n : ℕ) → ◌≡◌ {A = List ℤ} (take 2 (drop n [])) []
no_halves zero = refl
no_halves (suc n) = refl

none_taken : (n : ℕ) → ◌≡◌ {A = List ℤ} (take 1 (drop n [])) []
none_taken zero = refl
none_taken (suc n) = refl

halves_pixel : (i : ℕ) (xs : List ℤ) → take 2 (drop (2 * i) (flat_map halves xs)) ≡ flat_map halves (take 1 (drop i xs))
halves_pixel i [] = no_halves (2 * i) ∙ sym (ap (flat_map halves) (none_taken i))
halves_pixel zero (x ∷ xs) = refl
halves_pixel (suc i) (x ∷ xs) =
    let next : 2 * suc i ≡ suc (suc (2 * i)) = omega arith in
    ap (λ n. take 2 (drop n (flat_map halves (x ∷ xs)))) next ∙ halves_pixel i xs

pixel_if : (b : Bool) (i : ℕ) (xs : List ℤ) → take (if b then 2 * 1 else 1) (drop ((if b then 2 * 1 else 1) * i) (if b then flat_map halves xs else xs))
    ≡ (if b then flat_map halves (take 1 (drop i xs)) else take 1 (drop i xs))
pixel_if true i xs = halves_pixel i xs
pixel_if false i xs =
    let one : 1 * i ≡ i = omega arith in
    ap (λ n. take 1 (drop n xs)) one

places_pixel : (bits i : ℕ) (xs : List ℤ) → pixel_in (place_count bits 1) (places bits xs) i ≡ places bits (take 1 (drop i xs))
places_pixel bits i xs = pixel_if (bits == 64) i xs

one_number : (p : ℕ) (numbers : List ℤ) → p < length numbers → take 1 (drop p numbers) ≡ get_or numbers p (pos 0) ∷ []
one_number p [] low = absurd (omega (arith, low))
one_number zero (x ∷ xs) low = refl
one_number (suc p) (x ∷ xs) low = one_number p xs (omega (arith, low))

-- pixels of two lists that are the same take the same places
pub same_pixel : (bits i j : ℕ) (xs ys : List ℤ) → i < length xs → j < length ys → get_or xs i (pos 0) ≡ get_or ys j (pos 0)
    → pixel_in (place_count bits 1) (places bits xs) i ≡ pixel_in (place_count bits 1) (places bits ys) j
same_pixel bits i j xs ys low near same =
    places_pixel bits i xs ∙ ap (places bits) (one_number i xs low ∙ ap (λ x. x ∷ []) same ∙ sym (one_number j ys near)) ∙ sym (places_pixel bits j ys)

halves_long : (xs : List ℤ) → length (flat_map halves xs) ≡ 2 * length xs
halves_long [] = refl
halves_long (x ∷ xs) = let later = halves_long xs in omega (arith, later)

long_if : (b : Bool) (xs : List ℤ) → length (if b then flat_map halves xs else xs) ≡ (if b then 2 * length xs else length xs)
long_if true xs = halves_long xs
long_if false xs = refl

pub places_long : (bits : ℕ) (xs : List ℤ) → length (places bits xs) ≡ place_count bits (length xs)
places_long bits xs = long_if (bits == 64) xs

mul-suc_one : (w n : ℕ) → w * suc n ≡ w * n + w * 1
mul-suc_one w n =
    let next : suc n ≡ n + 1 = omega arith in
    ap (λ k. w * k) next ∙ mul-add w n 1

-- two lists of pixels with the same pixels are the same
pub pixels_same : (w n : ℕ) (l m : List ℤ) → length l ≡ w * n → length m ≡ w * n → ((i : ℕ) → i < n → pixel_in w l i ≡ pixel_in w m i) → l ≡ m
pixels_same w zero l m long wide same =
    let none : w * 0 ≡ 0 = omega arith in
    nil_from_length l (long ∙ none) ∙ sym (nil_from_length m (wide ∙ none))
pixels_same w (suc n) l m long wide same =
    let next : w * suc n ≡ w * n + w * 1 = mul-suc_one w n in
    let none : w * 0 ≡ 0 = omega arith in
    let first : take w l ≡ take w m = sym (ap (λ k. take w (drop k l)) none) ∙ same 0 (omega arith) ∙ ap (λ k. take w (drop k m)) none in
    let later : drop w l ≡ drop w m = pixels_same w n (drop w l) (drop w m) (length-drop w l ∙ omega (arith, long, next)) (length-drop w m ∙ omega (arith, wide, next)) (λ i low.
    let more : w * suc i ≡ w * i + w * 1 = mul-suc_one w i in
    let place : w + w * i ≡ w * suc i = omega (arith, more) in
    ap (take w) (drop-drop (w * i) w l ∙ ap (λ k. drop k l) place) ∙ same (suc i) (omega (arith, low)) ∙ sym (ap (take w) (drop-drop (w * i) w m ∙ ap (λ k. drop k m) place))) in
    sym (take-append-drop w l) ∙ (λ i. first i ++ later i) ∙ take-append-drop w m
