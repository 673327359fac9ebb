-- The text of a value without quotes: it is found from the left, and it is the text that a split of the field has.
use Rattle.std.proofs.Common.{◌≡◌, ℕ, suc, ◌+◌, ◌<◌, ◌≤◌, Bool, true, false, cond, eqb, ltb, Some, None, List, [], ◌∷◌, ◌++◌, length, take, get_or, ◌-◌, ◌≢◌, sym, refl, ap, ◌∙◌, arith}
use Rattle.std.specs.Prelude.{not, ◌&&◌}
use Rattle.std.specs.List.{position, position_or_len}
use Rattle.std.proofs.lemmas.Bool.Decides.{nat_tests}
use Rattle.std.proofs.lemmas.List.{take_all, take_more, length_push}
use Rattle.fz_card.specs.Plain.{before_comment, cut_blanks}

before_comment-step : (test : Bool) (b : ℕ) (bs front : List ℕ) (n : ℕ) → take n bs ≡ front → take (cond (not test) (1 + n) 0) (b ∷ bs) ≡ cond test [] (b ∷ front)
before_comment-step true b bs front n h = refl
before_comment-step false b bs front n h = let e : 1 + n ≡ suc n = omega arith in rw e (ap (λ (l : List ℕ). b ∷ l) h)

pub take-before_comment : (bs : List ℕ) → take (position_or_len (λ b. eqb b 47) bs) bs ≡ before_comment bs
take-before_comment [] = refl
take-before_comment (b ∷ bs) = before_comment-step (eqb b 47) b bs (before_comment bs) (position_or_len (λ b. eqb b 47) bs) (take-before_comment bs)

position-some : (test : Bool) (m n : ℕ) → cond test (Some m) None ≡ Some n → m ≡ n
position-some true m n h = cc
position-some false m n h = cc

position-none : (m n : ℕ) → cond (ltb m n) (Some m) None ≡ None → n ≤ m
position-none m n h = grind (arith, nat_tests)

pub before_comment-found : (bs : List ℕ) (n : ℕ) → position (λ b. eqb b 47) bs ≡ Some n → take n bs ≡ before_comment bs
before_comment-found bs n found =
    let e : position_or_len (λ b. eqb b 47) bs ≡ n = position-some _ _ _ found in
    ap (λ (k : ℕ). take k bs) (sym e) ∙ take-before_comment bs

pub before_comment-none : (bs : List ℕ) → position (λ b. eqb b 47) bs ≡ None → bs ≡ before_comment bs
before_comment-none bs none =
    let past : length bs ≤ position_or_len (λ b. eqb b 47) bs = position-none _ _ none in
    sym (take_all (position_or_len (λ b. eqb b 47) bs) bs past) ∙ take-before_comment bs

-- a blank more at the end changes nothing
pub cut_blanks-blank : (bs : List ℕ) → cut_blanks (bs ++ 32 ∷ []) ≡ cut_blanks bs
cut_blanks-blank [] = refl
cut_blanks-blank (b ∷ bs) = ap (λ (l : List ℕ). cond (eqb b 32 && eqb (length l) 0) [] (b ∷ l)) (cut_blanks-blank bs)

pub cut_blanks-cons : (b : ℕ) (bs : List ℕ) → 0 < length bs → cond (eqb b 32 && eqb (length bs) 0) [] (b ∷ bs) ≡ b ∷ bs
cut_blanks-cons b bs some = grind (arith, nat_tests)

-- what ends with another byte stays whole
pub cut_blanks-other : (bs : List ℕ) (last : ℕ) → last ≢ 32 → cut_blanks (bs ++ last ∷ []) ≡ bs ++ last ∷ []
cut_blanks-other [] last other = grind (arith, nat_tests)
cut_blanks-other (b ∷ bs) last other =
    rw (cut_blanks-other bs last other) (cut_blanks-cons b (bs ++ last ∷ []) (omega (arith, length_push bs last)))

pub cut_blanks-shorter : (bs : List ℕ) (n : ℕ) → 0 < n → n ≤ length bs → get_or bs (n - 1) 0 ≡ 32 → cut_blanks (take (n - 1) bs) ≡ cut_blanks (take n bs)
cut_blanks-shorter bs n some within blank =
    let e : n - 1 + 1 ≡ n = omega arith in
    let more : take (n - 1 + 1) bs ≡ take (n - 1) bs ++ get_or bs (n - 1) 0 ∷ [] = take_more bs (n - 1) 0 (omega arith) in
    let last : take n bs ≡ take (n - 1) bs ++ 32 ∷ [] = cc in
    rw last (sym (cut_blanks-blank (take (n - 1) bs)))

pub cut_blanks-stop : (bs : List ℕ) (n : ℕ) → 0 < n → n ≤ length bs → get_or bs (n - 1) 0 ≢ 32 → cut_blanks (take n bs) ≡ take n bs
cut_blanks-stop bs n some within other =
    let e : n - 1 + 1 ≡ n = omega arith in
    let more : take (n - 1 + 1) bs ≡ take (n - 1) bs ++ get_or bs (n - 1) 0 ∷ [] = take_more bs (n - 1) 0 (omega arith) in
    let last : take n bs ≡ take (n - 1) bs ++ get_or bs (n - 1) 0 ∷ [] = cc in
    rw last (cut_blanks-other (take (n - 1) bs) (get_or bs (n - 1) 0) other)

pub cut_blanks-none : (bs : List ℕ) (n : ℕ) → n ≤ 0 → cut_blanks (take n bs) ≡ take n bs
cut_blanks-none bs n none = let e : n ≡ 0 = omega arith in rw e
