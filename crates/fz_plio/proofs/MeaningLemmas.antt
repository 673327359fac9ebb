-- The line that the decoder reads is the meaning of the instructions, and it reads none exactly where
-- they are refused.
use Rattle.std.proofs.Common.{◌≡◌, ℕ, ◌+◌, ◌-◌, ◌^◌, ◌<◌, Bool, true, false, cond, List, [], ◌∷◌, ◌++◌, ℤ, pos, Option, Some, None, replicate, refl, sym, ap, ◌∙◌, subst, arith, ltb}
use Rattle.std.specs.Option.{option_map}
use Rattle.fz_plio.specs.Instructions.{Instruction}
use Rattle.fz_plio.specs.Meaning.{Effect, effect, written, expand, AreRefused, past_end}
use Rattle.fz_plio.specs.Reading.{checked_effect, with_effect, line_from}
use Rattle.fz_plio.proofs.EffectLemmas.{below, not_below, IsLawful, checks, fails}
use Rattle.fz_plio.proofs.RefusalLemmas.{AreNumbered, length-expand, refused_first, refused_later, IsRead, nothing_refused, front_some, front_none, read_later}

-- a list whose lines, as they are read, are its meaning
abbrev Reads : List Instruction → Type 0
Reads is = (room h : ℕ) (numbers : List ℤ) → h < 2 ^ 24 → AreNumbered is → line_from room h is ≡ Some numbers → IsRead room h is numbers

reads_in_room : (room h : ℕ) (i : Instruction) (rest : List Instruction) (numbers : List ℤ) → Reads rest → AreNumbered rest → IsLawful h i.operation i.number i.second (effect h i) → (b : Bool) → ltb room ((effect h i).zeros + (effect h i).highs) ≡ b → cond b None (option_map (λ more. written (effect h i) ++ more) (line_from (room - ((effect h i).zeros + (effect h i).highs)) (effect h i).high rest)) ≡ Some numbers → IsRead room h (i ∷ rest) numbers
reads_in_room room h i rest numbers reads numbered lawful true test found = cc
reads_in_room room h i rest numbers reads numbered lawful false test found =
    let fits = not_below room ((effect h i).zeros + (effect h i).highs) test in
    let split = front_some (written (effect h i)) _ numbers found in
    let read = reads (room - ((effect h i).zeros + (effect h i).highs)) (effect h i).high split.0 lawful.in_range numbered split.1 in
    subst (λ (xs : List ℤ). IsRead room h (i ∷ rest) xs) (sym split.2) (read_later room h i rest split.0 lawful fits read)

reads_effect : (room h : ℕ) (i : Instruction) (rest : List Instruction) (numbers : List ℤ) → h < 2 ^ 24 → i.number < 4096 → Reads rest → AreNumbered rest → (o : Option Effect) → checked_effect h i ≡ o → with_effect room o (λ left high. line_from left high rest) ≡ Some numbers → IsRead room h (i ∷ rest) numbers
reads_effect room h i rest numbers in_range number reads numbered None checked found = cc
reads_effect room h i rest numbers in_range number reads numbered (Some e) checked found =
    let lawful = checks h i.number i.second i.operation in_range number e checked in
    let here = subst (λ (x : Effect). IsLawful h i.operation i.number i.second x) (sym lawful.same) lawful in
    let same_found = subst (λ (x : Effect). with_effect room (Some x) (λ left high. line_from left high rest) ≡ Some numbers) (sym lawful.same) found in
    reads_in_room room h i rest numbers reads numbered here (ltb room ((effect h i).zeros + (effect h i).highs)) refl same_found

-- what is read is the meaning, and nothing of it is refused
pub line_from-Some : (is : List Instruction) → Reads is
unfolding line_from expand
line_from-Some [] room h numbers in_range numbered line = record {
  lawful = nothing_refused room h;
  meaning =
      let here : numbers ≡ replicate room (pos 0) = cc in
      let left : room ≡ room - 0 = omega arith in
      here ∙ ap (λ n. replicate n (pos 0)) left;
}
line_from-Some (i ∷ rest) room h numbers in_range numbered line =
    reads_effect room h i rest numbers in_range numbered.0 (line_from-Some rest) numbered.1 (checked_effect h i) refl line

-- a list that is refused where no line is read
abbrev Refuses : List Instruction → Type 0
Refuses is = (room h : ℕ) → h < 2 ^ 24 → AreNumbered is → line_from room h is ≡ None → AreRefused room h is

refuses_in_room : (room h : ℕ) (i : Instruction) (rest : List Instruction) → Refuses rest → AreNumbered rest → IsLawful h i.operation i.number i.second (effect h i) → (b : Bool) → ltb room ((effect h i).zeros + (effect h i).highs) ≡ b → cond b None (option_map (λ more. written (effect h i) ++ more) (line_from (room - ((effect h i).zeros + (effect h i).highs)) (effect h i).high rest)) ≡ None → AreRefused room h (i ∷ rest)
refuses_in_room room h i rest refuses numbered lawful true test found =
    let past = below room ((effect h i).zeros + (effect h i).highs) test in
    past_end (omega (arith, length-expand h i rest))
refuses_in_room room h i rest refuses numbered lawful false test found =
    refused_later room h i rest (refuses (room - ((effect h i).zeros + (effect h i).highs)) (effect h i).high lawful.in_range numbered (front_none (written (effect h i)) _ found))

refuses_effect : (room h : ℕ) (i : Instruction) (rest : List Instruction) → h < 2 ^ 24 → i.number < 4096 → Refuses rest → AreNumbered rest → (o : Option Effect) → checked_effect h i ≡ o → with_effect room o (λ left high. line_from left high rest) ≡ None → AreRefused room h (i ∷ rest)
refuses_effect room h i rest in_range number refuses numbered None checked found = refused_first room h i rest (fails h i.number i.second i.operation checked)
refuses_effect room h i rest in_range number refuses numbered (Some e) checked found =
    let lawful = checks h i.number i.second i.operation in_range number e checked in
    let here = subst (λ (x : Effect). IsLawful h i.operation i.number i.second x) (sym lawful.same) lawful in
    let same_found = subst (λ (x : Effect). with_effect room (Some x) (λ left high. line_from left high rest) ≡ None) (sym lawful.same) found in
    refuses_in_room room h i rest refuses numbered here (ltb room ((effect h i).zeros + (effect h i).highs)) refl same_found

-- where nothing is read, something is refused
pub line_from-None : (is : List Instruction) → Refuses is
unfolding line_from
line_from-None [] room h in_range numbered line = cc
line_from-None (i ∷ rest) room h in_range numbered line =
    refuses_effect room h i rest in_range numbered.0 (line_from-None rest) numbered.1 (checked_effect h i) refl line
