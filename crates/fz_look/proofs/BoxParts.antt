-- Boxes of an array, axis by axis, and how many pixels they have (FITS 4.0, section 3.3.2).
use Rattle.std.proofs.Common.{◌≡◌, ◌≢◌, ℕ, zero, suc, ◌+◌, ◌-◌, ◌*◌, ◌/◌, ◌<◌, ◌≤◌, ◌^◌, min, List, [], ◌∷◌, ◌++◌, length, get_or, take, set, replicate, refl, sym, ap, ◌∙◌, subst, inl, inr, arith, add-one, get_or-set_other, get_or-set_same, get_or-take, length-take, take_all}
use Rattle.std.proofs.lemmas.Bool.{cases_lt}
use Rattle.std.proofs.lemmas.List.{get_or-replicate}
use Rattle.std.proofs.lemmas.Nat.{le-div}
use Rattle.std.proofs.Math.Nat.{div-mul-le_self, le-mul_of_pos_right, lt-div-mul-add, mul_assoc, mul_comm, mul_left_comm, mul-div_cancel_left, mul-le-mul, mul-le-mul_right, mul-pos, mul-zero}
use Rattle.fz_block.specs.declared.axes.Axes.{Axes}
use Rattle.fz_grid.specs.Arrays.{product}
use Rattle.fz_grid.specs.Region.{IsWithin, lengths_of, region_lengths}
use Rattle.fz_grid.specs.declared.region.Region.{Region}
use Rattle.fz_look.specs.Boxes.{HasPixel, IsAlong, IsTileOf, last_of}

-- ---- an entry of a table that is written

pub set_cases : (P : ℕ → ℕ → Type 0) (xs : List ℕ) (i v k : ℕ) → i < length xs → P i v → (k ≢ i → P k (get_or xs k 0)) → P k (get_or (set xs i v) k 0)
set_cases P xs i v k inside here other = elim (cases_lt k i) [ inl before ↦ apart (omega (arith, before)) | inr from ↦ elim (cases_lt i k) [ inl after ↦ apart (omega (arith, after)) | inr to ↦ same (omega (arith, from, to)) ] ]
  where
    apart : k ≢ i → P k (get_or (set xs i v) k 0)
    apart differ = subst (P k) (sym (get_or-set_other xs i k v 0 differ)) (other differ)

    same : i ≡ k → P k (get_or (set xs i v) k 0)
    same is = subst (λ j. P j (get_or (set xs i v) j 0)) is (subst (P i) (sym (get_or-set_same xs i v 0 inside)) here)

-- ---- along an axis

-- the same along the first axes
abbrev pub AreAlong : List ℕ → List ℕ → List ℕ → List ℕ → ℕ → Type 0
AreAlong lo len at ends n = (k : ℕ) → k < n → IsAlong (get_or lo k 0) (get_or len k 0) (get_or at k 0) (get_or ends k 0)

pub one_longer : (lo len at ends : List ℕ) (n i b : ℕ) → i < length len → IsAlong (get_or lo i 0) b (get_or at i 0) (get_or ends i 0) → AreAlong lo len at ends n → AreAlong lo (set len i b) at ends n
one_longer lo len at ends n i b inside here are k few =
    set_cases (λ j y. IsAlong (get_or lo j 0) y (get_or at j 0) (get_or ends j 0)) len i b k inside here (λ differ. are k few)

pub is_within : (shape : Axes) (r : Region) (at : List ℕ) (n : ℕ) → r.n ≡ n → n ≡ shape.n → AreAlong r.lo r.len at shape.len n → IsWithin shape r
is_within shape r at n same axes are = record { same_axes = same ∙ axes; positive = λ i few. (are i (omega (arith, few, axes))).some; inside = λ i few. (are i (omega (arith, few, axes))).inside }

pub has_the_pixel : (shape : Axes) (r : Region) (at : List ℕ) (n : ℕ) → r.n ≡ n → AreAlong r.lo r.len at shape.len n → HasPixel r at
has_the_pixel shape r at n same are i few = let one = are i (omega (arith, few, same)) in (one.from, one.to)

pub has_few : (r : Region) (n most : ℕ) → r.n ≡ n → product (take n r.len) ≤ most → product (region_lengths r) ≤ most
has_few r n most same fits = subst (λ m. product (take m r.len) ≤ most) (sym same) fits

-- ---- the tile that has a place

pub tile_from : (at t : ℕ) → at / t * t ≤ at
tile_from at t = div-mul-le_self at t

pub tile_to : (at t : ℕ) → 1 ≤ t → at < at / t * t + t
tile_to at t some = lt-div-mul-add some

-- ---- how many pixels

pub product_some : (xs : List ℕ) (n : ℕ) → ((k : ℕ) → k < n → 1 ≤ get_or xs k 0) → 1 ≤ product (take n xs)
product_some xs zero some = omega arith
product_some [] (suc n) some = omega arith
product_some (x ∷ xs) (suc n) some = mul-pos (some 0 (omega arith)) (product_some xs n (λ k few. some (suc k) (omega (arith, few))))

pub product_le : (xs ys : List ℕ) (n : ℕ) → n ≤ length ys → ((k : ℕ) → k < n → get_or xs k 0 ≤ get_or ys k 0) → n ≤ length xs → product (take n xs) ≤ product (take n ys)
product_le xs ys zero long below within = omega arith
product_le [] ys (suc n) long below within = absurd (omega (arith, within))
product_le (x ∷ xs) [] (suc n) long below within = absurd (omega (arith, long))
product_le (x ∷ xs) (y ∷ ys) (suc n) long below within =
    mul-le-mul (below 0 (omega arith)) (product_le xs ys n (omega (arith, long)) (λ k few. below (suc k) (omega (arith, few))) (omega (arith, within)))

-- the product of the first n lengths but that at i
abbrev pub others : List ℕ → ℕ → ℕ → ℕ
others [] n i = 1
others (x ∷ xs) zero i = 1
others (x ∷ xs) (suc n) zero = product (take n xs)
others (x ∷ xs) (suc n) (suc i) = x * others xs n i

pub product_parts : (xs : List ℕ) (n i : ℕ) → i < n → i < length xs → product (take n xs) ≡ get_or xs i 0 * others xs n i
product_parts [] n i few inside = absurd (omega (arith, inside))
product_parts (x ∷ xs) zero i few inside = absurd (omega (arith, few))
product_parts (x ∷ xs) (suc n) zero few inside = refl
product_parts (x ∷ xs) (suc n) (suc i) few inside =
    ap (λ m. x * m) (product_parts xs n i (omega (arith, few)) (omega (arith, inside))) ∙ mul_left_comm x (get_or xs i 0) (others xs n i)

pub product_set : (xs : List ℕ) (n i v : ℕ) → i < n → i < length xs → product (take n (set xs i v)) ≡ v * others xs n i
product_set [] n i v few inside = absurd (omega (arith, inside))
product_set (x ∷ xs) zero i v few inside = absurd (omega (arith, few))
product_set (x ∷ xs) (suc n) zero v few inside = refl
product_set (x ∷ xs) (suc n) (suc i) v few inside =
    ap (λ m. x * m) (product_set xs n i v (omega (arith, few)) (omega (arith, inside))) ∙ mul_left_comm x v (others xs n i)

-- a factor of a number that is not 0 is not 0
pub right_some : (a b v : ℕ) → v ≡ a * b → 1 ≤ v → 1 ≤ b
right_some a zero v is some = absurd (omega (arith, is, some, mul-zero a))
right_some a (suc b) v is some = omega arith

pub left_room : (a b v most : ℕ) → v ≡ a * b → 1 ≤ b → v ≤ most → a ≤ most / b
left_room a b v most is some fits = le-div a most b some (omega (arith, is, fits))

pub other_factor : (a b v : ℕ) → v ≡ a * b → 1 ≤ a → v / a ≡ b
other_factor a b v is some = ap (λ n. n / a) is ∙ mul-div_cancel_left b some

pub fits_room : (a b most : ℕ) → a ≤ most / b → a * b ≤ most
fits_room a b most room = let all = mul-le-mul_right b room in let most_of = div-mul-le_self most b in omega (arith, all, most_of)

pub product_ones : (xs : List ℕ) (n : ℕ) → n ≤ length xs → ((k : ℕ) → k < n → get_or xs k 0 ≡ 1) → product (take n xs) ≡ 1
product_ones xs zero long ones = refl
product_ones [] (suc n) long ones = absurd (omega (arith, long))
product_ones (x ∷ xs) (suc n) long ones =
    let first : x ≡ 1 = ones 0 (omega arith) in
    let rest : product (take n xs) ≡ 1 = product_ones xs n (omega (arith, long)) (λ k few. ones (suc k) (omega (arith, few))) in
    (λ i. first i * rest i)

-- one entry that was 1 becomes as long as there is room for
pub part_fits : (o p len room most : ℕ) → p ≡ 1 * o → p * room ≤ most → len ≤ room → 1 ≤ room → (len * o ≤ most) × (len * o * (room / len) ≤ most)
part_fits o p len room most one fits short some =
    let same : p ≡ o = omega (arith, one) in
    let all : room * o ≤ most = subst (λ n. n ≤ most) (mul_comm o room) (subst (λ n. n * room ≤ most) same fits) in
    let front : len * o ≤ room * o = mul-le-mul_right o short in
    let back : room / len * len * o ≤ room * o = mul-le-mul_right o (div-mul-le_self room len) in
    let turned : len * o * (room / len) ≡ room / len * len * o = mul_comm (len * o) (room / len) ∙ sym (mul_assoc (room / len) len o) in
    (omega (arith, front, all), omega (arith, back, all, turned))

-- ---- the sieve of all pixels

last_at : (los lens : List ℕ) (i : ℕ) → i < length los → i < length lens → get_or (last_of los lens) i 0 ≡ get_or los i 0 + (get_or lens i 0 - 1)
last_at [] lens i in_lo in_len = absurd (omega (arith, in_lo))
last_at (lo ∷ los) [] i in_lo in_len = absurd (omega (arith, in_len))
last_at (lo ∷ los) (l ∷ lens) zero in_lo in_len = refl
last_at (lo ∷ los) (l ∷ lens) (suc i) in_lo in_len = last_at los lens i (omega (arith, in_lo)) (omega (arith, in_len))

last_long : (los lens : List ℕ) (n : ℕ) → length los ≡ n → length lens ≡ n → length (last_of los lens) ≡ n
last_long [] lens n in_lo in_len = in_lo
last_long (lo ∷ los) [] n in_lo in_len = in_len
last_long (lo ∷ los) (l ∷ lens) zero in_lo in_len = absurd (omega (arith, in_lo))
last_long (lo ∷ los) (l ∷ lens) (suc n) in_lo in_len = ap suc (last_long los lens n (omega (arith, in_lo)) (omega (arith, in_len)))

filled_at : (l : List ℕ) (i r v : ℕ) → i < length l → get_or l i 0 ≡ v → set (take i l ++ replicate (suc r) 0) i v ≡ take (suc i) l ++ replicate r 0
filled_at [] i r v inside is = absurd (omega (arith, inside))
filled_at (x ∷ xs) zero r v inside is = ap (λ y. y ∷ replicate r 0) (sym is)
filled_at (x ∷ xs) (suc i) r v inside is = ap (λ l. x ∷ l) (filled_at xs i r v (omega (arith, inside)) is)

module _ (lo len : List ℕ) (n : ℕ) (in_lo : n ≤ length lo) (in_len : n ≤ length len) where
  pub lasts_long : length (last_of (take n lo) (take n len)) ≡ n
  lasts_long = last_long (take n lo) (take n len) n (omega (arith, in_lo, length-take n lo)) (omega (arith, in_len, length-take n len))

  -- one more of the last coordinates
  pub lasts_more : (hi : List ℕ) (i v : ℕ) → i < n → n ≤ 9 → v ≡ get_or lo i 0 + (get_or len i 0 - 1) → hi ≡ take i (last_of (take n lo) (take n len)) ++ replicate (9 - i) 0 →
      set hi i v ≡ take (i + 1) (last_of (take n lo) (take n len)) ++ replicate (9 - (i + 1)) 0
  lasts_more hi i v few small is so_far =
      let lasts : List ℕ = last_of (take n lo) (take n len) in
      let here : get_or lasts i 0 ≡ v =
      last_at (take n lo) (take n len) i (omega (arith, few, in_lo, length-take n lo)) (omega (arith, few, in_len, length-take n len))
      ∙ (λ j. get_or-take n lo i 0 few j + (get_or-take n len i 0 few j - 1)) ∙ sym is in
      let rest : 9 - i ≡ suc (9 - (i + 1)) = omega (arith, few, small) in
      ap (λ l. set l i v) (so_far ∙ ap (λ m. take i lasts ++ replicate m 0) rest)
      ∙ filled_at lasts i (9 - (i + 1)) v (omega (arith, few, lasts_long)) here
      ∙ ap (λ m. take m lasts ++ replicate (9 - (i + 1)) 0) (sym (add-one i))

  -- and all
  pub lasts_all : (hi : List ℕ) (i : ℕ) → i ≡ n → hi ≡ take i (last_of (take n lo) (take n len)) ++ replicate (9 - i) 0 → hi ≡ last_of (take n lo) (take n len) ++ replicate (9 - n) 0
  lasts_all hi i end so_far =
      let lasts : List ℕ = last_of (take n lo) (take n len) in
      so_far ∙ ap (λ m. take m lasts ++ replicate (9 - m) 0) end ∙ ap (λ l. l ++ replicate (9 - n) 0) (take_all n lasts (omega (arith, lasts_long)))

-- ---- the room along an axis

pub room_along : (len : List ℕ) (n i v w most : ℕ) → i < n → n ≤ length len → v ≡ min (product (take n len)) (2 ^ 64 - 1) → w ≡ get_or len i 0 → product (take n len) ≤ most → most < 2 ^ 64 → ((k : ℕ) → k < n → 1 ≤ get_or len k 0) →
    (v / w ≡ others len n i) × (1 ≤ others len n i) × (get_or len i 0 ≤ most / others len n i)
room_along len n i v w most few long volume entry fits small some =
    let all : v ≡ product (take n len) = omega (arith, volume, fits, small) in
    let parts : product (take n len) ≡ get_or len i 0 * others len n i = product_parts len n i few (omega (arith, few, long)) in
    let left : 1 ≤ others len n i = right_some (get_or len i 0) (others len n i) (product (take n len)) parts (product_some len n some) in (
      ap (λ m. v / m) entry ∙ other_factor (get_or len i 0) (others len n i) v (all ∙ parts) (some i few),
      left,
      left_room (get_or len i 0) (others len n i) (product (take n len)) most parts left fits,
    )

-- lengths that are no greater have no greater product
product_below : (xs ys : List ℕ) (n : ℕ) → ((k : ℕ) → k < n → 1 ≤ get_or xs k 0) → ((k : ℕ) → k < n → get_or xs k 0 ≤ get_or ys k 0) → product (take n xs) ≤ product (take n ys)
product_below xs ys zero some below = omega arith
product_below [] ys (suc n) some below = absurd (omega (arith, some 0 (omega arith)))
product_below (x ∷ xs) [] (suc n) some below = absurd (omega (arith, some 0 (omega arith), below 0 (omega arith)))
product_below (x ∷ xs) (y ∷ ys) (suc n) some below =
    mul-le-mul (below 0 (omega arith)) (product_below xs ys n (λ k few. some (suc k) (omega (arith, few))) (λ k few. below (suc k) (omega (arith, few))))

-- a tile is no larger than its array
pub tile_fits : (shape tile : Axes) (v most : ℕ) → product (lengths_of shape) ≤ 2 ^ 40 → IsTileOf shape tile → v ≡ min (product (lengths_of tile)) (2 ^ 64 - 1) → v ≤ most → product (lengths_of tile) ≤ most
tile_fits shape tile v most few is volume fits =
    let less : product (take tile.n tile.len) ≤ product (take tile.n shape.len) =
    product_below tile.len shape.len tile.n (λ k h. is.positive k (omega (arith, h, is.same_axes))) (λ k h. is.inside k (omega (arith, h, is.same_axes))) in
    let same : product (take tile.n shape.len) ≡ product (lengths_of shape) = ap (λ n. product (take n shape.len)) is.same_axes in
    omega (arith, less, same, few, volume, fits)

-- ---- what is 1 everywhere

pub one_at : (k : ℕ) → k < 9 → ◌≡◌ {A = ℕ} (get_or (replicate 9 1) k 0) 1
one_at k few = get_or-replicate 9 k 1 0 few

pub one_along : (len at end : ℕ) → len ≡ 1 → at < end → IsAlong at len at end
one_along len at end one inside = record { some = omega (arith, one); inside = omega (arith, one, inside); from = omega arith; to = omega (arith, one) }

-- the part of a tile from a place on
pub part_along : (lo len at end part : ℕ) → IsAlong lo len at end → 1 ≤ part → part ≤ len - (at - lo) → IsAlong at part at end
part_along lo len at end part is some short = record { some = some; inside = omega (arith, is.inside, is.from, is.to, short); from = omega arith; to = omega (arith, some) }

-- and a longer box than a tile
pub longer_along : (lo len at end more : ℕ) → IsAlong lo len at end → len ≤ more → more ≤ end - lo → IsAlong lo more at end
longer_along lo len at end more is long within =
    record { some = omega (arith, is.some, long); inside = omega (arith, is.inside, within); from = is.from; to = omega (arith, is.to, long) }

-- one axis of the part of a tile
pub part_box : (lo len at ends : List ℕ) (n i first long left room part : ℕ) → i < n → i < length len → lo ≡ at → IsAlong first long (get_or at i 0) (get_or ends i 0) → left ≡ long - (get_or at i 0 - first) → part ≡ min left room → 1 ≤ room →
    AreAlong lo len at ends n → AreAlong lo (set len i part) at ends n
part_box lo len at ends n i first long left room part few inside same is rest cut some are =
    let part_some : 1 ≤ part = omega (arith, is.some, is.from, is.to, rest, cut, some) in
    let part_short : part ≤ long - (get_or at i 0 - first) = omega (arith, rest, cut) in
    let here : IsAlong (get_or at i 0) part (get_or at i 0) (get_or ends i 0) = part_along first long (get_or at i 0) (get_or ends i 0) part is part_some part_short in
    one_longer lo len at ends n i part inside (subst (λ l. IsAlong (get_or l i 0) part (get_or at i 0) (get_or ends i 0)) (sym same) here) are

-- one axis on, as far as there is room
pub longer_box : (lo len at ends : List ℕ) (n i long : ℕ) → i < n → i < length len → get_or len i 0 ≤ long → long ≤ get_or ends i 0 - get_or lo i 0 → AreAlong lo len at ends n → AreAlong lo (set len i long) at ends n
longer_box lo len at ends n i long few inside more within are =
    one_longer lo len at ends n i long inside (longer_along (get_or lo i 0) (get_or len i 0) (get_or at i 0) (get_or ends i 0) long (are i few) more within) are

pub longer_fits : (len : List ℕ) (n i long room most : ℕ) → i < n → i < length len → room ≡ others len n i → long ≤ most / room → product (take n (set len i long)) ≤ most
longer_fits len n i long room most few inside is short =
    let fits : long * others len n i ≤ most = fits_room long (others len n i) most (subst (λ m. long ≤ most / m) is short) in
    omega (arith, product_set len n i long few inside, fits)

pub at_least : (p room most : ℕ) → 1 ≤ room → p * room ≤ most → p ≤ most
at_least p room most some fits = let more = le-mul_of_pos_right p some in omega (arith, more, fits)
