-- A range of a box, piece by piece.
use Rattle.std.proofs.Common.{◌≡◌, ℕ, ◌<◌, ◌≤◌, true, false, cond, List, [], ◌∷◌, map, sym, refl, ap, ◌∙◌, arith}
use Rattle.std.proofs.lemmas.Bool.Decides.{nat_tests}
use Rattle.std.specs.Prelude.{nat_le, Option, Some, None}
use Rattle.std.specs.Option.{option_and_then, option_map}
use Rattle.fz_words.specs.Cut.{before_byte, behind_byte, pieces}
use Rattle.fz_words.specs.Values.{Range, all_some, length_in, only_one, range_in, range_of, step_in}
use Rattle.fz_words.proofs.ListLemmas.{pieces_behind, pieces-cut}

-- the range of these ends with a step
abbrev pub ordered : ℕ → ℕ → ℕ → Option Range
ordered lo hi step = cond (nat_le lo hi) (Some (record { lo = lo; hi = hi; step = step })) None

-- the pieces are these two and those behind them
two-pieces : (text lo others hi : List ℕ) (step : Option (List ℕ)) → lo ≡ before_byte 58 text → Some others ≡ behind_byte 58 text → hi ≡ before_byte 58 others → step ≡ behind_byte 58 others → pieces 58 text ≡ lo ∷ hi ∷ pieces_behind 58 step
two-pieces text lo others hi step same-lo same-others same-hi same-step =
    pieces-cut 58 text
    ∙ (λ i. sym same-lo i ∷ pieces_behind 58 (sym same-others i))
    ∙ ap (λ ps. lo ∷ ps) (pieces-cut 58 others ∙ (λ i. sym same-hi i ∷ pieces_behind 58 (sym same-step i)))

one-with : (first : Option ℕ) → option_and_then range_of (all_some (first ∷ [])) ≡ None
one-with None = refl
one-with (Some lo) = refl

-- one piece is no range
pub range-short : (text : List ℕ) → behind_byte 58 text ≡ None → range_in text ≡ None
range-short text none =
    ap (λ ps. option_and_then range_of (all_some (map length_in ps))) (pieces-cut 58 text ∙ ap (λ b. before_byte 58 text ∷ pieces_behind 58 b) none)
    ∙ one-with (length_in (before_byte 58 text))

tail-with : (lo hi step : ℕ) (rest : Option (List ℕ)) → option_and_then range_of (option_map (λ o. lo ∷ o) (option_map (λ o. hi ∷ o) (option_map (λ o. step ∷ o) rest))) ≡ option_and_then (ordered lo hi) (only_one (option_map (λ o. step ∷ o) rest))
tail-with lo hi step None = refl
tail-with lo hi step (Some []) = refl
tail-with lo hi step (Some (more ∷ others)) = refl

tail-all : (lo hi : ℕ) (first : Option ℕ) (others : List (Option ℕ)) → option_and_then range_of (option_map (λ o. lo ∷ o) (option_map (λ o. hi ∷ o) (all_some (first ∷ others)))) ≡ option_and_then (ordered lo hi) (only_one (all_some (first ∷ others)))
tail-all lo hi None others = refl
tail-all lo hi (Some step) others = tail-with lo hi step (all_some others)

range-tail : (lo hi : ℕ) (step : Option (List ℕ)) → option_and_then range_of (all_some (Some lo ∷ Some hi ∷ map length_in (pieces_behind 58 step))) ≡ option_and_then (ordered lo hi) (step_in step)
range-tail lo hi None = refl
range-tail lo hi (Some text) =
    let cut = pieces-cut 58 text in
    ap (λ ps. option_and_then range_of (option_map (λ o. lo ∷ o) (option_map (λ o. hi ∷ o) (all_some (map length_in ps))))) cut
    ∙ tail-all lo hi (length_in (before_byte 58 text)) (map length_in (pieces_behind 58 (behind_byte 58 text)))
    ∙ ap (λ ps. option_and_then (ordered lo hi) (only_one (all_some (map length_in ps)))) (sym cut)

-- a range by its first end, its second end and its step
pub range-read : (text lo others hi : List ℕ) (step : Option (List ℕ)) (a b : ℕ) → lo ≡ before_byte 58 text → Some others ≡ behind_byte 58 text → hi ≡ before_byte 58 others → step ≡ behind_byte 58 others → length_in lo ≡ Some a → length_in hi ≡ Some b → range_in text ≡ option_and_then (ordered a b) (step_in step)
range-read text lo others hi step a b same-lo same-others same-hi same-step is-a is-b =
    ap (λ ps. option_and_then range_of (all_some (map length_in ps))) (two-pieces text lo others hi step same-lo same-others same-hi same-step)
    ∙ (λ i. option_and_then range_of (all_some (is-a i ∷ is-b i ∷ map length_in (pieces_behind 58 step))))
    ∙ range-tail a b step

-- a first end that is none
pub range-no-lo : (text lo others hi : List ℕ) (step : Option (List ℕ)) → lo ≡ before_byte 58 text → Some others ≡ behind_byte 58 text → hi ≡ before_byte 58 others → step ≡ behind_byte 58 others → length_in lo ≡ None → range_in text ≡ None
range-no-lo text lo others hi step same-lo same-others same-hi same-step none =
    ap (λ ps. option_and_then range_of (all_some (map length_in ps))) (two-pieces text lo others hi step same-lo same-others same-hi same-step)
    ∙ ap (λ o. option_and_then range_of (all_some (o ∷ length_in hi ∷ map length_in (pieces_behind 58 step)))) none

-- a second end that is none
pub range-no-hi : (text lo others hi : List ℕ) (step : Option (List ℕ)) (a : ℕ) → lo ≡ before_byte 58 text → Some others ≡ behind_byte 58 text → hi ≡ before_byte 58 others → step ≡ behind_byte 58 others → length_in lo ≡ Some a → length_in hi ≡ None → range_in text ≡ None
range-no-hi text lo others hi step a same-lo same-others same-hi same-step is-a none =
    ap (λ ps. option_and_then range_of (all_some (map length_in ps))) (two-pieces text lo others hi step same-lo same-others same-hi same-step)
    ∙ (λ i. option_and_then range_of (all_some (is-a i ∷ none i ∷ map length_in (pieces_behind 58 step))))

one-of : (first : Option ℕ) → only_one (all_some (first ∷ [])) ≡ first
one-of None = refl
one-of (Some step) = refl

-- the one piece is the step
pub step-last : (text before : List ℕ) → before ≡ before_byte 58 text → behind_byte 58 text ≡ None → step_in (Some text) ≡ length_in before
step-last text before same none =
    ap (λ ps. only_one (all_some (map length_in ps))) (pieces-cut 58 text ∙ (λ i. sym same i ∷ pieces_behind 58 (none i)))
    ∙ one-of (length_in before)

two-steps : (first second : Option ℕ) (rest : Option (List ℕ)) (others : List (Option ℕ)) → all_some others ≡ rest → only_one (all_some (first ∷ second ∷ others)) ≡ None
two-steps None second rest others same = refl
two-steps (Some first) None rest others same = refl
two-steps (Some first) (Some second) None others same = rw same refl
two-steps (Some first) (Some second) (Some more) others same = rw same refl

-- two pieces are no step
pub step-more : (text more : List ℕ) → behind_byte 58 text ≡ Some more → step_in (Some text) ≡ None
step-more text more some =
    ap (λ ps. only_one (all_some (map length_in ps))) (pieces-cut 58 text ∙ ap (λ b. before_byte 58 text ∷ pieces_behind 58 b) some ∙ ap (λ ps. before_byte 58 text ∷ ps) (pieces-cut 58 more))
    ∙ two-steps (length_in (before_byte 58 text)) (length_in (before_byte 58 more)) (all_some (map length_in (pieces_behind 58 (behind_byte 58 more)))) (map length_in (pieces_behind 58 (behind_byte 58 more))) refl

le-true : (m n : ℕ) → m ≤ n → nat_le m n ≡ true
le-true m n le = grind (arith, nat_tests)

le-false : (m n : ℕ) → n < m → nat_le m n ≡ false
le-false m n lt = grind (arith, nat_tests)

pub in-order : (lo hi step : ℕ) → lo ≤ hi → ordered lo hi step ≡ Some (record { lo = lo; hi = hi; step = step })
in-order lo hi step le = rw (le-true lo hi le) refl

pub out-of-order : (lo hi step : ℕ) → hi < lo → ordered lo hi step ≡ None
out-of-order lo hi step lt = rw (le-false lo hi lt) refl
