-- The slots of two halves, and the lengths of their buffers.
use Rattle.std.proofs.Common.{◌≡◌, ℕ, ◌+◌, ◌-◌, ◌*◌, List, [], ◌∷◌, ◌++◌, length, take, drop, replicate, reverse, refl, sym, ap, ◌∙◌, arith}
use Rattle.std.proofs.lemmas.List.{map-append, reverse-append, replicate-append-replicate, length-map, take-replicate, drop-replicate}
use Rattle.std.proofs.Math.Seq.{drop-append_seam, take-append_seam}
use Rattle.fz_pool.specs.Laws.{HalvesAlike, BothAlike}
use Rattle.fz_pool.specs.Window.{slot_size, slot_sizes}

-- one more slot moved from the end of a list to that of another
pub one_more : {A : Type 0} (left xs moved all : List A) (x : A) → left ++ reverse moved ≡ all → left ≡ xs ++ x ∷ [] → xs ++ reverse (moved ++ x ∷ []) ≡ all
one_more left xs moved all x is pop =
    ap (λ (l : List _). xs ++ l) (reverse-append moved (x ∷ []))
    ∙ (sym (append_three xs (x ∷ []) (reverse moved))
    ∙ (ap (λ (l : List _). l ++ reverse moved) (sym pop) ∙ is))
  where
    append_three : {A : Type 0} (xs ys zs : List A) → (xs ++ ys) ++ zs ≡ xs ++ (ys ++ zs)
    append_three [] ys zs = refl
    append_three (x ∷ xs) ys zs = ap (λ l. x ∷ l) (append_three xs ys zs)

-- a list of things that are alike begins with such, and ends with such
fronts : {A : Type 0} (xs ys : List A) (m n : ℕ) (a : A) → length xs ≡ m → xs ++ ys ≡ replicate (m + n) a → xs ≡ replicate m a
fronts xs ys m n a len is =
    sym (take-append_seam xs ys) ∙ (ap (λ (k : ℕ). take k (xs ++ ys)) len ∙ (ap (take m) is ∙ take-replicate m (m + n) a (omega arith)))

backs : {A : Type 0} (xs ys : List A) (m n : ℕ) (a : A) → length xs ≡ m → xs ++ ys ≡ replicate (m + n) a → ys ≡ replicate n a
backs xs ys m n a len is =
    let left : m + n - m ≡ n = omega arith in
    sym (drop-append_seam xs ys) ∙ (ap (λ (k : ℕ). drop k (xs ++ ys)) len ∙ (ap (drop m) is ∙ (drop-replicate m (m + n) a ∙ ap (λ (k : ℕ). replicate k a) left)))

pub halves_alike : HalvesAlike
halves_alike whole first second size are sizes =
    let count : length (slot_sizes first.slots) ≡ 2 * first.workers = length-map first.slots slot_size ∙ are.filled in
    let sum : 2 * whole.workers ≡ 2 * first.workers + 2 * second.workers = omega (arith, are.workers) in
    let all : slot_sizes first.slots ++ slot_sizes second.slots ≡ replicate (2 * first.workers + 2 * second.workers) size =
    sym (map-append slot_size first.slots second.slots) ∙ (ap slot_sizes are.slots ∙ (sizes ∙ ap (λ (k : ℕ). replicate {A = ℕ × ℕ} k size) sum)) in (
      fronts (slot_sizes first.slots) (slot_sizes second.slots) (2 * first.workers) (2 * second.workers) size count all,
      backs (slot_sizes first.slots) (slot_sizes second.slots) (2 * first.workers) (2 * second.workers) size count all,
    )

pub both_alike : BothAlike
both_alike first second size one other =
    let sum : 2 * first.workers + 2 * second.workers ≡ 2 * (first.workers + second.workers) = omega arith in
    map-append slot_size first.slots second.slots
    ∙ ((λ i. one i ++ other i) ∙ (replicate-append-replicate (2 * first.workers) (2 * second.workers) size ∙ ap (λ (k : ℕ). replicate {A = ℕ × ℕ} k size) sum))
