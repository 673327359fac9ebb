-- Steps of the decoder: what is left of a list gives what is left of the line.
use Rattle.std.proofs.Common.{◌≡◌, ℕ, ◌+◌, ◌-◌, ◌*◌, ◌/◌, ◌%◌, ◌<◌, ◌≤◌, Bool, true, false, cond, List, [], ◌∷◌, ◌++◌, ℤ, pos, Option, Some, None, length, replicate, append_assoc, refl, sym, ap, ◌∙◌, arith, eqb, ltb}
use Rattle.std.specs.Option.{option_map}
use Rattle.std.proofs.lemmas.Bool.Decides.{nat_tests}
use Rattle.fz_plio.specs.Instructions.{Instruction, instructions, one_word, two_words}
use Rattle.fz_plio.specs.Meaning.{Effect, does, written}
use Rattle.fz_plio.specs.Reading.{one_word_effect, next_effect, checked_effect, with_effect, line_from}

-- a front and what follows it, if it is a line
abbrev pub with_front : List ℤ → Option (List ℤ) → Option (List ℤ)
with_front front line = option_map (λ numbers. front ++ numbers) line

-- the line of an effect and the words after it
abbrev pub with_next : ℕ → Option (Effect × List ℕ) → Option (List ℤ)
with_next room None = None
with_next room (Some (e, rest)) = with_effect room (Some e) (λ left high. line_from left high (instructions rest))

with_next-paired : (room : ℕ) (o : Option Effect) (rest : List ℕ) → with_effect room o (λ left high. line_from left high (instructions rest)) ≡ with_next room (option_map (λ e. (e, rest)) o)
with_next-paired room None rest = refl
with_next-paired room (Some e) rest = refl

line_from-two_words : (room n second : ℕ) (rest : List ℕ) (b : Bool) → with_effect room (cond b None (Some (does (n + 4096 * second) 0 0))) (λ left high. line_from left high (instructions rest)) ≡ with_next room (cond b None (Some (does (n + 4096 * second) 0 0, rest)))
line_from-two_words room n second rest true = refl
line_from-two_words room n second rest false = refl

line_from-first : (room h : ℕ) (i : Instruction) (is : List Instruction) (o : Option Effect) → checked_effect h i ≡ o → line_from room h (i ∷ is) ≡ with_effect room o (λ left high. line_from left high is)
unfolding line_from
line_from-first room h i is o e = ap (λ (x : Option Effect). with_effect room x (λ left high. line_from left high is)) e

-- the line of a list of words, by its first instruction
pub line_from-next : (room h word : ℕ) (rest : List ℕ) → line_from room h (instructions (word ∷ rest)) ≡ with_next room (next_effect h (word ∷ rest))
unfolding line_from instructions checked_effect
line_from-next room h word [] = by_test (eqb (word / 4096) 1)
  where
    by_test : (b : Bool) → with_effect room (cond b None (one_word_effect h (word / 4096) (word % 4096))) (λ left high. line_from left high []) ≡ with_next room (cond b None (option_map (λ e. (e, [])) (one_word_effect h (word / 4096) (word % 4096))))
    by_test true = refl
    by_test false = with_next-paired room (one_word_effect h (word / 4096) (word % 4096)) []
line_from-next room h word (second ∷ rest) = by_test (eqb (word / 4096) 1) refl
  where
    by_test : (b : Bool) → eqb (word / 4096) 1 ≡ b → line_from room h (instructions (word ∷ second ∷ rest)) ≡ with_next room (next_effect h (word ∷ second ∷ rest))
    by_test true e = rw e (line_from-first room h (two_words word second) (instructions rest) _ (rw e refl) ∙ line_from-two_words room (word % 4096) second rest (ltb 4095 second))
    by_test false e = rw e (line_from-first room h (one_word word) (instructions (second ∷ rest)) _ (rw e refl) ∙ with_next-paired room (one_word_effect h (word / 4096) (word % 4096)) (second ∷ rest))

-- a front is left as it is by what follows it
with_front-append : (front more : List ℤ) (line : Option (List ℤ)) → with_front (front ++ more) line ≡ with_front front (option_map (λ numbers. more ++ numbers) line)
with_front-append front more None = refl
with_front-append front more (Some numbers) = ap (λ (xs : List ℤ). Some xs) (append_assoc front more numbers)

pub with_front-nil : (line : Option (List ℤ)) → with_front [] line ≡ line
with_front-nil None = refl
with_front-nil (Some numbers) = refl

-- an effect that fits: its numbers join the front
pub line_from-step : (room h : ℕ) (front : List ℤ) (ws : List ℕ) (e : Effect) (rest : List ℕ) → 0 < length ws → Some (e, rest) ≡ next_effect h ws → e.zeros + e.highs ≤ room → with_front (front ++ written e) (line_from (room - (e.zeros + e.highs)) e.high (instructions rest)) ≡ with_front front (line_from room h (instructions ws))
line_from-step room h front [] e rest some next fits = absurd (omega arith)
line_from-step room h front (word ∷ ws) e rest some next fits =
    let no : ltb room (e.zeros + e.highs) ≡ false = grind (arith, nat_tests) in
    let one : with_next room (Some (e, rest)) ≡ option_map (λ numbers. written e ++ numbers) (line_from (room - (e.zeros + e.highs)) e.high (instructions rest)) = rw no refl in
    with_front-append front (written e) _ ∙ ap (with_front front) (sym one ∙ ap (with_next room) next ∙ sym (line_from-next room h word ws))

-- an effect that does not fit
pub line_from-past : (room h : ℕ) (ws : List ℕ) (e : Effect) (rest : List ℕ) → 0 < length ws → Some (e, rest) ≡ next_effect h ws → room < e.zeros + e.highs → line_from room h (instructions ws) ≡ None
line_from-past room h [] e rest some next past = absurd (omega arith)
line_from-past room h (word ∷ ws) e rest some next past =
    let yes : ltb room (e.zeros + e.highs) ≡ true = grind (arith, nat_tests) in
    let one : with_next room (Some (e, rest)) ≡ None = rw yes refl in
    line_from-next room h word ws ∙ sym (ap (with_next room) next) ∙ one

-- a refused instruction
pub line_from-refused : (room h : ℕ) (ws : List ℕ) → 0 < length ws → None ≡ next_effect h ws → line_from room h (instructions ws) ≡ None
line_from-refused room h [] some next = absurd (omega arith)
line_from-refused room h (word ∷ ws) some next = line_from-next room h word ws ∙ sym (ap (with_next room) next)

-- the end of the list
pub line_from-end : (room h : ℕ) (ws : List ℕ) → length ws ≡ 0 → line_from room h (instructions ws) ≡ Some (replicate room (pos 0))
unfolding line_from instructions
line_from-end room h [] none = refl
line_from-end room h (word ∷ ws) none = absurd (omega arith)
