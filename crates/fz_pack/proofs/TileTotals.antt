-- The tiles of an image have together no more pixels than the image, and what is written for them no more bytes.
use Rattle.std.proofs.Common.{◌≡◌, ℕ, zero, suc, ◌+◌, ◌-◌, ◌*◌, ◌/◌, ◌%◌, ◌<◌, ◌≤◌, min, List, [], ◌∷◌, ◌++◌, length, take, slice_index, refl, sym, ap, ◌∙◌, subst, arith}
use Rattle.std.specs.Prelude.{⊤}
use Rattle.std.proofs.lemmas.List.{length-append}
use Rattle.std.proofs.lemmas.Nat.{div-mul-add, mod-mul-add, mul-le}
use Rattle.std.proofs.Math.Nat.{add-mul, mul-add, mul-le-mul_left, mul-zero, mul_comm}
use Rattle.fz_grid.specs.Arrays.{coordinates_of, product}
use Rattle.fz_grid.specs.Grid.{corner_of, lengths_from, tile_counts}
use Rattle.fz_grid.specs.Region.{lengths_of}
use Rattle.fz_tile.specs.TileCode.{TileCode}
use Rattle.fz_files.specs.Packed.{heap_of, pixel_bits}
use Rattle.fz_image.specs.Layout.{IsLayout, pixel_bytes_of}
use Rattle.fz_image.specs.Tiles.{AreCodesFrom, pixels_of}
use Rattle.fz_image.specs.declared.layout.Layout.{Layout}
use Rattle.fz_pack.proofs.Codes.{heap_append}

-- ---- sums of the first so many numbers

abbrev pub sum_until : (ℕ → ℕ) → ℕ → ℕ
sum_until f zero = 0
sum_until f (suc n) = sum_until f n + f n

sum_same : (f h : ℕ → ℕ) (n : ℕ) → ((i : ℕ) → i < n → f i ≡ h i) → sum_until f n ≡ sum_until h n
sum_same f h zero same = refl
sum_same f h (suc n) same =
    let before = sum_same f h n (λ i low. same i (omega (arith, low))) in
    let here = same n (omega arith) in
    λ i. before i + here i

sum_split : (f : ℕ → ℕ) (m n : ℕ) → sum_until f (m + n) ≡ sum_until f m + sum_until (λ i. f (m + i)) n
sum_split f m zero = let none : m + zero ≡ m = omega arith in ap (sum_until f) none ∙ omega arith
sum_split f m (suc n) =
    let next : m + suc n ≡ suc (m + n) = omega arith in
    ap (sum_until f) next ∙ omega (arith, sum_split f m n)

sum_times : (f : ℕ → ℕ) (k n : ℕ) → sum_until (λ i. f i * k) n ≡ sum_until f n * k
sum_times f k zero = let none : 0 ≡ 0 * k = omega arith in none
sum_times f k (suc n) = ap (λ s. s + f n * k) (sum_times f k n) ∙ sym (add-mul (sum_until f n) (f n) k)

sum_more : (f : ℕ → ℕ) (m n : ℕ) → m ≤ n → sum_until f m ≤ sum_until f n
sum_more f m n few =
    let rest : ℕ = n - m in
    let whole : n ≡ m + rest = omega (arith, few) in
    omega (arith, ap (sum_until f) whole, sum_split f m rest)

-- a sum over pairs
blocks : (f h : ℕ → ℕ) (c q : ℕ) → sum_until (λ t. f (t % c) * h (t / c)) (q * c) ≡ sum_until f c * sum_until h q
blocks f h c zero =
    let none : zero * c ≡ 0 = omega arith in
    ap (sum_until (λ t. f (t % c) * h (t / c))) none ∙ sym (mul-zero (sum_until f c))
blocks f h c (suc q) =
    let F : ℕ → ℕ = λ t. f (t % c) * h (t / c) in
    let next : suc q * c ≡ q * c + c = omega arith in
    let last : sum_until (λ r. F (q * c + r)) c ≡ sum_until f c * h q =
    sum_same (λ r. F (q * c + r)) (λ r. f r * h q) c (λ r low. let a = mod-mul-add q c r low in let b = div-mul-add q c r low in λ i. f (a i) * h (b i)) ∙ sum_times f (h q) c in
    ap (sum_until F) next ∙ sum_split F (q * c) c
    ∙ (λ i. blocks f h c q i + last i)
    ∙ sym (mul-add (sum_until f c) (sum_until h q) (h q))

-- ---- along one axis

along : (n t k : ℕ) → sum_until (λ r. min t (n - r * t)) k ≤ min (k * t) n
along n t zero = omega arith
along n t (suc k) =
    let next : suc k * t ≡ k * t + t = omega arith in
    omega (arith, along n t k, next)

along_whole : (n t k : ℕ) → sum_until (λ r. min t (n - r * t)) k ≤ n
along_whole n t k = omega (arith, along n t k)

-- ---- along all axes

-- a tile has a length along each axis, and none above that of the axis
abbrev pub AreSized : List ℕ → List ℕ → Type 0
AreSized [] [] = ⊤
AreSized [] (t ∷ ts) = ⊥
AreSized (n ∷ ns) [] = ⊥
AreSized (n ∷ ns) (t ∷ ts) = (1 ≤ t) × (t ≤ n) × AreSized ns ts

-- the pixels of tile k
abbrev pub tile_pixels_of : List ℕ → List ℕ → ℕ → ℕ
tile_pixels_of ns ts k = product (lengths_from ns ts (corner_of (coordinates_of (tile_counts ns ts) k) ts))

all_pixels : (ns ts : List ℕ) → AreSized ns ts → sum_until (tile_pixels_of ns ts) (product (tile_counts ns ts)) ≤ product ns
all_pixels [] [] sized = omega arith
all_pixels [] (t ∷ ts) sized = absurd sized
all_pixels (n ∷ ns) [] sized = absurd sized
all_pixels (n ∷ ns) (t ∷ ts) sized =
    let c : ℕ = (n + (t - 1)) / t in
    let C : ℕ = product (tile_counts ns ts) in
    let F : ℕ → ℕ = tile_pixels_of (n ∷ ns) (t ∷ ts) in
    let f : ℕ → ℕ = λ r. min t (n - r * t) in
    let h : ℕ → ℕ = tile_pixels_of ns ts in
    let parted : sum_until F (C * c) ≡ sum_until f c * sum_until h C = blocks f h c C in
    let whole : product (tile_counts (n ∷ ns) (t ∷ ts)) ≡ C * c = mul_comm c C in
    let least : sum_until f c * sum_until h C ≤ n * product ns = mul-le (sum_until f c) (sum_until h C) n (product ns) (along_whole n t c) (all_pixels ns ts sized.2) in
    omega (arith, ap (sum_until F) whole, parted, least)

-- ---- of an image

sized : (n : ℕ) (xs ys : List ℕ) → ((i : ℕ) → i < n → 1 ≤ slice_index ys i) → ((i : ℕ) → i < n → slice_index ys i ≤ slice_index xs i) → AreSized (take n xs) (take n ys)
sized zero xs ys some inside = tt
sized (suc n) [] [] some inside = absurd (omega (arith, some 0 (omega arith)))
sized (suc n) [] (y ∷ ys) some inside = absurd (omega (arith, some 0 (omega arith), inside 0 (omega arith)))
sized (suc n) (x ∷ xs) [] some inside = absurd (omega (arith, some 0 (omega arith)))
sized (suc n) (x ∷ xs) (y ∷ ys) some inside =
    (some 0 (omega arith), inside 0 (omega arith), sized n xs ys (λ i low. some (suc i) (omega (arith, low))) (λ i low. inside (suc i) (omega (arith, low))))

-- the first tiles of an image have no more pixels than the image
pixels_within : (l : Layout) (n : ℕ) → IsLayout l → n ≤ l.tiles → sum_until (pixels_of l) n ≤ product (lengths_of l.plan.shape)
pixels_within l n is few =
    let d = is.plan.divided in
    let sizes : AreSized (lengths_of l.plan.shape) (lengths_of l.plan.tile) =
    subst (λ (k : ℕ). AreSized (take l.plan.shape.n l.plan.shape.len) (take k l.plan.tile.len)) (sym d.same_axes) (sized l.plan.shape.n l.plan.shape.len l.plan.tile.len d.positive d.inside) in
    let all : sum_until (pixels_of l) l.tiles ≤ product (lengths_of l.plan.shape) =
    subst (λ (k : ℕ). sum_until (pixels_of l) k ≤ product (lengths_of l.plan.shape)) (sym is.tiles) (all_pixels (lengths_of l.plan.shape) (lengths_of l.plan.tile) sizes) in
    omega (arith, sum_more (pixels_of l) n l.tiles few, all)

-- what is written for tiles has no more bytes than their pixels
heap_within : (l : Layout) (t : ℕ) (es : List TileCode) → AreCodesFrom l t es →
    length (heap_of es) + pixel_bits l.plan / 8 * sum_until (pixels_of l) t ≤ pixel_bits l.plan / 8 * sum_until (pixels_of l) (t + length es)
unfolding heap_of
heap_within l t [] are = let same : t + 0 ≡ t = omega arith in omega (arith, ap (λ k. pixel_bits l.plan / 8 * sum_until (pixels_of l) k) same)
heap_within l t (e ∷ es) are =
    let b : ℕ = pixel_bits l.plan / 8 in
    let next : t + suc (length es) ≡ suc t + length es = omega arith in
    let after = heap_within l (suc t) es are.1 in
    let here : b * sum_until (pixels_of l) (suc t) ≡ b * sum_until (pixels_of l) t + b * pixels_of l t = mul-add b (sum_until (pixels_of l) t) (pixels_of l t) in
    omega (arith, length-append e.bytes (heap_of es), after, here, are.0.most, ap (λ k. b * sum_until (pixels_of l) k) next)

-- nor than the image
pub codes_within : (l : Layout) (es : List TileCode) → IsLayout l → AreCodesFrom l 0 es → length es ≤ l.tiles → length (heap_of es) ≤ pixel_bytes_of l
codes_within l es is are few =
    let b : ℕ = pixel_bits l.plan / 8 in
    let most : b * sum_until (pixels_of l) (length es) ≤ b * product (lengths_of l.plan.shape) = mul-le-mul_left b (pixels_within l (length es) is few) in
    let from : 0 + length es ≡ length es = omega arith in
    let size : l.pixel_len * product (lengths_of l.plan.shape) ≡ b * product (lengths_of l.plan.shape) = ap (λ w. w * product (lengths_of l.plan.shape)) is.pixel_len in
    omega (arith, heap_within l 0 es are, ap (λ k. b * sum_until (pixels_of l) k) from, most, size)

-- codes of more tiles
pub codes_append : (l : Layout) (t : ℕ) (cs es : List TileCode) → AreCodesFrom l t cs → AreCodesFrom l (t + length cs) es → AreCodesFrom l t (cs ++ es)
codes_append l t [] es first next = subst (λ k. AreCodesFrom l k es) (omega arith) next
codes_append l t (c ∷ cs) es first next = (first.0, codes_append l (suc t) cs es first.1 (subst (λ k. AreCodesFrom l k es) (omega arith) next))

-- and with those the heap is within the image
pub next_fits : (l : Layout) (cs es : List TileCode) (heap : ℕ) → IsLayout l → AreCodesFrom l 0 cs → AreCodesFrom l (length cs) es → length cs + length es ≤ l.tiles → heap ≡ 0 + length (heap_of cs) → heap + length (heap_of es) ≤ pixel_bytes_of l
next_fits l cs es heap is first next few size =
    let both : AreCodesFrom l 0 (cs ++ es) = codes_append l 0 cs es first (subst (λ k. AreCodesFrom l k es) (omega arith) next) in
    let count : length (cs ++ es) ≤ l.tiles = omega (arith, length-append cs es, few) in
    let sizes : length (heap_of (cs ++ es)) ≡ length (heap_of cs) + length (heap_of es) = ap length (heap_append cs es) ∙ length-append (heap_of cs) (heap_of es) in
    omega (arith, codes_within l (cs ++ es) is both count, sizes, size)
