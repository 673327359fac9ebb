-- After the digits and the two letters come the parentheses.
use Rattle.std.proofs.Common.{◌≡◌, ℕ, ◌+◌, ◌-◌, List, length, take, drop, unwrap_or, ap, ◌∙◌, arith}
use Rattle.std.proofs.lemmas.List.{drop-drop, length-drop, take_all}
use Rattle.fz_laws.specs.Writes.{number_in_parentheses}
use Rattle.fz_target.proofs.most.most_in.Goals as goal

all_left : (n : ℕ) (s : List ℕ) → take (length s - n) (drop n s) ≡ drop n s
all_left n s = take_all (length s - n) (drop n s) (omega (arith, length-drop n s))

-- what is left after the digits, and then after two letters
left_twice : (n : ℕ) (s : List ℕ) → take (length (take (length s - n) (drop n s)) - 2) (drop 2 (take (length s - n) (drop n s))) ≡ drop (n + 2) s
left_twice n s = all_left 2 (take (length s - n) (drop n s)) ∙ ap (drop 2) (all_left n s) ∙ drop-drop 2 n s

pub returns-in-len2-up : goal.returns-in-len2-up
returns-in-len2-up c =
    let text = c.args.text.now in
    c.unwrap_or.ensures
    ∙ ap (λ o. unwrap_or o 0)
    (c.number_in_parentheses.ensures
    ∙ ap number_in_parentheses (left_twice (length c.first_digits-digits.result.now) text ∙ ap (λ d. drop (length d + 2) text) c.first_digits-digits.ensures.value))
