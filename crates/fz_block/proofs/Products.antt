-- Products of lengths that stop at the greatest number.
use Rattle.std.proofs.Common.{◌≡◌, inl, inr, ℕ, zero, suc, ◌+◌, ◌*◌, ◌<◌, min, ℤ, pos, negsuc, Some, List, [], ◌∷◌, ◌++◌, length, get_or, take, refl, ap, sym, ◌∙◌, arith}
use Rattle.std.proofs.lemmas.Bool.{cases_lt}
use Rattle.std.proofs.lemmas.List.{take_more}
use Rattle.std.proofs.Math.Nat.{mul_assoc, le-mul_of_pos_right}
use Rattle.std.proofs.Math.IntN.{nat_abs}
use Rattle.fz_block.specs.Hdus.{places, size_in}

-- a factor that was stopped before
pub stopped_left : (a b most : ℕ) → min (min a most * b) most ≡ min (a * b) most
stopped_left a zero most = ap (λ n. min n most) (omega arith)
stopped_left a (suc b) most = elim (cases_lt a most) as (λ _. min (min a most * suc b) most ≡ min (a * suc b) most) [
  | inl small ↦ let e : min a most ≡ a = omega arith in ap (λ n. min (n * suc b) most) e
  | inr large ↦
      let some : 0 < suc b = omega arith in
      let e : min a most ≡ most = omega arith in
      let one = le-mul_of_pos_right {m = suc b} most some in
      let two = le-mul_of_pos_right {m = suc b} a some in
      ap (λ n. min (n * suc b) most) e ∙ omega arith
]

pub stopped_right : (a b most : ℕ) → min (b * min a most) most ≡ min (b * a) most
stopped_right a b most =
    let turn : b * min a most ≡ min a most * b = omega arith in
    let back : a * b ≡ b * a = omega arith in
    ap (λ n. min n most) turn ∙ (stopped_left a b most ∙ ap (λ n. min n most) back)

-- one more length at the end
pub places_push : (ns : List ℕ) (n : ℕ) → places (ns ++ n ∷ []) ≡ places ns * n
places_push [] n = omega arith
places_push (m ∷ ns) n = ap (λ p. m * p) (places_push ns n) ∙ sym (mul_assoc m (places ns) n)

pub places_more : (ns : List ℕ) (i : ℕ) → i < length ns → places (take (i + 1) ns) ≡ places (take i ns) * get_or ns i 0
places_more ns i h = ap places (take_more ns i 0 h) ∙ places_push (take i ns) (get_or ns i 0)

-- the product so far, stopped, times the next length
pub stopped_more : (ns : List ℕ) (i most : ℕ) → i < length ns → min (min (places (take i ns)) most * get_or ns i 0) most ≡ min (places (take (i + 1) ns)) most
stopped_more ns i most h = stopped_left (places (take i ns)) (get_or ns i 0) most ∙ ap (λ n. min n most) (sym (places_more ns i h))

-- the length of the data from products that are stopped, by parts
pub stopped_len : (bytes groups more places most : ℕ) → min (bytes * min (groups * min (more + min places most) most) most) most ≡ min (bytes * (groups * (more + places))) most
stopped_len bytes groups more places most =
    let sum : min (more + min places most) most ≡ min (more + places) most = omega arith in
    ap (λ n. min (bytes * min (groups * n) most) most) sum
    ∙ (stopped_right (groups * min (more + places) most) bytes most
    ∙ (ap (λ n. min n most) (sym (mul_assoc bytes groups (min (more + places) most)))
    ∙ (stopped_right (more + places) (bytes * groups) most
    ∙ ap (λ n. min n most) (mul_assoc bytes groups (more + places)))))

-- a number without its sign
pub size_abs : (v : ℤ) → size_in (Some v) ≡ nat_abs v
size_abs (pos n) = refl
size_abs (negsuc n) = refl
