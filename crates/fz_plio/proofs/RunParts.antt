-- A list that begins with copies of a number, and goes on with more.
use Rattle.std.proofs.Common.{◌≡◌, ℕ, ◌+◌, ◌≤◌, ℤ, Bool, true, false, ◌&&◌, List, ◌++◌, length, take, drop, replicate, refl, sym, ap, ◌∙◌, arith}
use Rattle.std.proofs.lemmas.List.{length-drop, length-take-le, replicate-append-replicate}
use Rattle.std.proofs.Math.Seq.{take-add}

pub copies_more : (at n : ℕ) (numbers part : List ℤ) (number : ℤ) → at + n ≤ length numbers → part ≡ take n (drop at numbers) → part ≡ replicate (length part) number → take at numbers ≡ replicate at number → take (at + n) numbers ≡ replicate (at + n) number
copies_more at n numbers part number room part_is copies so_far =
    let rest : n ≤ length (drop at numbers) = omega (arith, length-drop at numbers, room) in
    let size : length part ≡ n = ap length part_is ∙ length-take-le n (drop at numbers) rest in
    take-add at n numbers
    ∙ (λ i. so_far i ++ (sym part_is ∙ copies ∙ ap (λ k. replicate k number) size) i)
    ∙ replicate-append-replicate at n number

-- both of two conditions
pub first_of : (a b : Bool) → (a && b) ≡ true → a ≡ true
first_of true b both = refl
first_of false b both = both

pub second_of : (a b : Bool) → (a && b) ≡ true → b ≡ true
second_of true b both = both
second_of false true both = refl
second_of false false both = both
