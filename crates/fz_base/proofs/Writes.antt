-- Writes at places that have nothing in common, in any order.
use Rattle.std.proofs.Common.{◌≡◌, ℕ, ◌+◌, ◌-◌, ◌<◌, ◌≤◌, ◌⊎◌, inl, inr, max, min, List, [], ◌∷◌, ◌++◌, length, take, drop, replicate, get_or, Option, Some, None, refl, sym, ap, ◌∙◌, arith}
use Rattle.std.proofs.lemmas.List.{append_assoc, get_or-drop, get_or-replicate, get_or-take, get_or_append_left, get_or_past, length-append, length-drop, length-replicate, length-take}
use Rattle.std.proofs.Math.Seq.{get_or-append_right}
use Rattle.std.proofs.lemmas.Grind.{same_number_lists}
use Rattle.std.proofs.lemmas.Bool.{cases_lt}
use Rattle.fz_base.specs.Sink.{overwrite, written}
use Rattle.fz_base.proofs.Overwriting.{written-next}

-- so many zeros
abbrev blank : ℕ → List ℕ
blank n = replicate n 0

-- the bytes before a place, with zeros up to it
abbrev front : ℕ → List ℕ → List ℕ
front at c = take at c ++ blank (at - length c)

blank_len : (n : ℕ) → length (blank n) ≡ n
blank_len n = length-replicate {A = ℕ} n 0

front_len : (at : ℕ) (c : List ℕ) → length (front at c) ≡ at
front_len at c = omega (arith, length-append (take at c) (blank (at - length c)), length-take at c, blank_len (at - length c))

zeros : (n i : ℕ) → get_or (blank n) i 0 ≡ 0
zeros n i = by (cases_lt i n)
  where
    by : (i < n) ⊎ (n ≤ i) → get_or (blank n) i 0 ≡ 0
    by (inl low) = get_or-replicate n i 0 0 low
    by (inr high) = get_or_past (blank n) i 0 (omega (arith, high, blank_len n))

front_at : (at i : ℕ) (c : List ℕ) → i < at → get_or (front at c) i 0 ≡ get_or c i 0
front_at at i c below = by (cases_lt i (length c))
  where
    size : length (take at c) ≡ min at (length c)
    size = length-take at c

    by : (i < length c) ⊎ (length c ≤ i) → get_or (front at c) i 0 ≡ get_or c i 0
    by (inl low) = get_or_append_left (take at c) (blank (at - length c)) 0 i (omega (arith, size, low, below)) ∙ get_or-take at c i 0 below
    by (inr high) =
        get_or-append_right (take at c) (blank (at - length c)) i 0 (omega (arith, size, high)) ∙ zeros (at - length c) (i - length (take at c)) ∙ sym (get_or_past c i 0 high)

module _ (at b : ℕ) (ys c : List ℕ) where
  abbrev x : List ℕ
  x = b ∷ ys

  abbrev behind : List ℕ
  behind = drop (at + length x) c

  parted : overwrite at x c ≡ front at c ++ (x ++ behind)
  parted = append_assoc (front at c) x behind

  long : length (overwrite at x c) ≡ max (length c) (at + length x)
  long =
      ap length parted ∙ omega (arith, length-append (front at c) (x ++ behind), front_len at c, length-append x behind, length-drop (at + length x) c)

  below : (i : ℕ) → i < at → get_or (overwrite at x c) i 0 ≡ get_or c i 0
  below i low = ap (λ l. get_or l i 0) parted ∙ get_or_append_left (front at c) (x ++ behind) 0 i (omega (arith, front_len at c, low)) ∙ front_at at i c low

  from_place : (i : ℕ) → at ≤ i → get_or (overwrite at x c) i 0 ≡ get_or (x ++ behind) (i - at) 0
  from_place i high =
      ap (λ l. get_or l i 0) parted ∙ get_or-append_right (front at c) (x ++ behind) i 0 (omega (arith, front_len at c, high))
      ∙ ap (λ n. get_or (x ++ behind) (i - n) 0) (front_len at c)

  inside : (i : ℕ) → at ≤ i → i < at + length x → get_or (overwrite at x c) i 0 ≡ get_or x (i - at) 0
  inside i high low = from_place i high ∙ get_or_append_left x behind 0 (i - at) (omega (arith, high, low))

  above : (i : ℕ) → at + length x ≤ i → get_or (overwrite at x c) i 0 ≡ get_or c i 0
  above i high =
      from_place i (omega (arith, high)) ∙ get_or-append_right x behind (i - at) 0 (omega (arith, high)) ∙ get_or-drop (at + length x) c (i - at - length x) 0
      ∙ (let same : at + length x + (i - at - length x) ≡ i = omega (arith, high) in ap (λ n. get_or c n 0) same)

  outside : (i : ℕ) → (i < at) ⊎ (at + length x ≤ i) → get_or (overwrite at x c) i 0 ≡ get_or c i 0
  outside i (inl low) = below i low
  outside i (inr high) = above i high

-- a write has its bytes at its places
pub write_inside : (at : ℕ) (bytes contents : List ℕ) (i : ℕ) → at ≤ i → i < at + length bytes → get_or (overwrite at bytes contents) i 0 ≡ get_or bytes (i - at) 0
write_inside at [] contents i high low = absurd (omega (arith, high, low))
write_inside at (b ∷ bytes) contents i high low = inside at b bytes contents i high low

-- and leaves all others as they were
pub write_outside : (at : ℕ) (bytes contents : List ℕ) (i : ℕ) → (i < at) ⊎ (at + length bytes ≤ i) → get_or (overwrite at bytes contents) i 0 ≡ get_or contents i 0
write_outside at [] contents i apart = refl
write_outside at (b ∷ bytes) contents i apart = outside at b bytes contents i apart

-- how long the contents are then
pub write_long : (at : ℕ) (bytes contents : List ℕ) → 0 < length bytes → length (overwrite at bytes contents) ≡ max (length contents) (at + length bytes)
write_long at [] contents some = absurd (omega (arith, some))
write_long at (b ∷ bytes) contents some = long at b bytes contents

-- one range of bytes ends before another begins
module _ (at from a b : ℕ) (xs ys c : List ℕ) (apart : at + length (a ∷ xs) ≤ from) where
  abbrev once : List ℕ
  once = overwrite at (a ∷ xs) (overwrite from (b ∷ ys) c)

  abbrev twice : List ℕ
  twice = overwrite from (b ∷ ys) (overwrite at (a ∷ xs) c)

  before : (i : ℕ) → i < at → get_or once i 0 ≡ get_or twice i 0
  before i low =
      below at a xs (overwrite from (b ∷ ys) c) i low ∙ below from b ys c i (omega (arith, apart, low))
      ∙ sym (below from b ys (overwrite at (a ∷ xs) c) i (omega (arith, apart, low)) ∙ below at a xs c i low)

  in_first : (i : ℕ) → at ≤ i → i < at + length (a ∷ xs) → get_or once i 0 ≡ get_or twice i 0
  in_first i high low =
      inside at a xs (overwrite from (b ∷ ys) c) i high low
      ∙ sym (below from b ys (overwrite at (a ∷ xs) c) i (omega (arith, apart, low)) ∙ inside at a xs c i high low)

  between : (i : ℕ) → at + length (a ∷ xs) ≤ i → i < from → get_or once i 0 ≡ get_or twice i 0
  between i high low =
      above at a xs (overwrite from (b ∷ ys) c) i high ∙ below from b ys c i low
      ∙ sym (below from b ys (overwrite at (a ∷ xs) c) i low ∙ above at a xs c i high)

  in_second : (i : ℕ) → from ≤ i → i < from + length (b ∷ ys) → get_or once i 0 ≡ get_or twice i 0
  in_second i high low =
      above at a xs (overwrite from (b ∷ ys) c) i (omega (arith, apart, high)) ∙ inside from b ys c i high low
      ∙ sym (inside from b ys (overwrite at (a ∷ xs) c) i high low)

  after_both : (i : ℕ) → from + length (b ∷ ys) ≤ i → get_or once i 0 ≡ get_or twice i 0
  after_both i high =
      above at a xs (overwrite from (b ∷ ys) c) i (omega (arith, apart, high)) ∙ above from b ys c i high
      ∙ sym (above from b ys (overwrite at (a ∷ xs) c) i high ∙ above at a xs c i (omega (arith, apart, high)))

  each : (i : ℕ) → get_or once i 0 ≡ get_or twice i 0
  each i = first (cases_lt i at)
    where
      fourth : from ≤ i → (i < from + length (b ∷ ys)) ⊎ (from + length (b ∷ ys) ≤ i) → get_or once i 0 ≡ get_or twice i 0
      fourth high (inl low) = in_second i high low
      fourth high (inr higher) = after_both i higher

      third : at + length (a ∷ xs) ≤ i → (i < from) ⊎ (from ≤ i) → get_or once i 0 ≡ get_or twice i 0
      third high (inl low) = between i high low
      third high (inr higher) = fourth higher (cases_lt i (from + length (b ∷ ys)))

      second : at ≤ i → (i < at + length (a ∷ xs)) ⊎ (at + length (a ∷ xs) ≤ i) → get_or once i 0 ≡ get_or twice i 0
      second high (inl low) = in_first i high low
      second high (inr higher) = third higher (cases_lt i from)

      first : (i < at) ⊎ (at ≤ i) → get_or once i 0 ≡ get_or twice i 0
      first (inl low) = before i low
      first (inr high) = second high (cases_lt i (at + length (a ∷ xs)))

  both : once ≡ twice
  both =
      let one : length once ≡ max (max (length c) (from + length (b ∷ ys))) (at + length (a ∷ xs)) = long at a xs (overwrite from (b ∷ ys) c) ∙ ap (λ n. max n (at + length (a ∷ xs))) (long from b ys c) in
      let two : length twice ≡ max (max (length c) (at + length (a ∷ xs))) (from + length (b ∷ ys)) = long from b ys (overwrite at (a ∷ xs) c) ∙ ap (λ n. max n (from + length (b ∷ ys))) (long at a xs c) in
      same_number_lists once twice (omega (arith, one, two)) (λ k low. each k)

overwrites_apart : (at from : ℕ) (x y c : List ℕ) → at + length x ≤ from → overwrite at x (overwrite from y c) ≡ overwrite from y (overwrite at x c)
overwrites_apart at from [] y c apart = refl
overwrites_apart at from (a ∷ xs) [] c apart = refl
overwrites_apart at from (a ∷ xs) (b ∷ ys) c apart = both at from a b xs ys c apart

-- two writes of which the first ends before the second begins
pub writes_apart : (at from : ℕ) (x y : List ℕ) (contents : Option (List ℕ)) → at + length x ≤ from → written at x (written from y contents) ≡ written from y (written at x contents)
writes_apart at from x y None apart = refl
writes_apart at from x y (Some c) apart = ap Some (overwrites_apart at from x y c apart)

-- a write before another, which begins where it ends, is one write of both
pub writes_joined : (at from : ℕ) (x y : List ℕ) (contents : Option (List ℕ)) → from ≡ at + length x → written at x (written from y contents) ≡ written at (x ++ y) contents
writes_joined at from x y contents place =
    writes_apart at from x y contents (omega (arith, place)) ∙ ap (λ n. written n y (written at x contents)) place ∙ written-next at x y contents
