-- What refuses a list of instructions, by its first instruction and the rest.
use Rattle.std.proofs.Common.{◌≡◌, ℕ, zero, suc, ◌+◌, ◌-◌, ◌<◌, ◌≤◌, ◌⊎◌, inl, inr, List, [], ◌∷◌, ◌++◌, ℤ, pos, Option, Some, None, length, replicate, refl, sym, ap, ◌∙◌, subst, arith}
use Rattle.std.specs.Prelude.{Any}
use Rattle.std.specs.List.{AllByRecursion}
use Rattle.std.proofs.lemmas.List.{append_assoc, length-append, length-replicate}
use Rattle.std.specs.Option.{option_map}
use Rattle.fz_plio.specs.Instructions.{Instruction}
use Rattle.fz_plio.specs.Meaning.{Effect, effect, written, expand, LeavesRange, SomeLeavesRange, AreRefused, past_end, out_of_range, no_high, unknown, no_second}
use Rattle.fz_plio.proofs.EffectLemmas.{IsLawful, IsFaulty}

-- some instruction of a list: the first or a later one
any_here : (P : Instruction → Type 0) (i : Instruction) (rest : List Instruction) → P i → Any P (i ∷ rest)
any_here P i rest p = (0, i, omega arith, refl, p)

any_later : (P : Instruction → Type 0) (i : Instruction) (rest : List Instruction) → Any P rest → Any P (i ∷ rest)
any_later P i rest (k, x, within, at, p) = (suc k, x, omega arith, at, p)

any_cases : (P : Instruction → Type 0) (i : Instruction) (rest : List Instruction) → Any P (i ∷ rest) → P i ⊎ Any P rest
any_cases P i rest (zero, x, within, at, p) = inl (subst P (sym at) p)
any_cases P i rest (suc k, x, within, at, p) = inr (k, x, omega arith, at, p)

any_none : (P : Instruction → Type 0) → Any P [] → ⊥
any_none P (k, x, within, at, p) = absurd (omega arith)

-- the number of each instruction is what 12 bits can hold
abbrev pub AreNumbered : List Instruction → Type 0
AreNumbered is = AllByRecursion (λ i. i.number < 4096) is

pub length-written : (e : Effect) → length (written e) ≡ e.zeros + e.highs
length-written e = length-append (replicate e.zeros (pos 0)) (replicate e.highs (pos e.high)) ∙ (λ i. length-replicate e.zeros (pos 0) i + length-replicate e.highs (pos e.high) i)

pub length-expand : (h : ℕ) (i : Instruction) (rest : List Instruction) → length (expand h (i ∷ rest)) ≡ (effect h i).zeros + (effect h i).highs + length (expand (effect h i).high rest)
unfolding expand
length-expand h i rest = length-append (written (effect h i)) (expand (effect h i).high rest) ∙ ap (λ n. n + length (expand (effect h i).high rest)) (length-written (effect h i))

-- a faulty instruction refuses a list that begins with it
pub refused_first : (room h : ℕ) (i : Instruction) (rest : List Instruction) → IsFaulty h i → AreRefused room h (i ∷ rest)
unfolding SomeLeavesRange
refused_first room h i rest (inl l) = out_of_range (inl l)
refused_first room h i rest (inr (inl p)) = no_high (any_here _ i rest p)
refused_first room h i rest (inr (inr (inl p))) = unknown (any_here _ i rest p)
refused_first room h i rest (inr (inr (inr p))) = no_second (any_here _ i rest p)

-- what refuses the rest of a list refuses the list
pub refused_later : (room h : ℕ) (i : Instruction) (rest : List Instruction) → AreRefused (room - ((effect h i).zeros + (effect h i).highs)) (effect h i).high rest → AreRefused room h (i ∷ rest)
unfolding SomeLeavesRange
refused_later room h i rest (past_end p) = past_end (omega (arith, length-expand h i rest))
refused_later room h i rest (out_of_range p) = out_of_range (inr p)
refused_later room h i rest (no_high a) = no_high (any_later _ i rest a)
refused_later room h i rest (unknown a) = unknown (any_later _ i rest a)
refused_later room h i rest (no_second a) = no_second (any_later _ i rest a)

-- a lawful instruction stays in range
lawful_stays : (h : ℕ) (i : Instruction) → IsLawful h i.operation i.number i.second (effect h i) → LeavesRange h i → ⊥
lawful_stays h i lawful (inl (lowers, more)) = absurd (omega (arith, lawful.lowers lowers))
lawful_stays h i lawful (inr high) = absurd (omega (arith, lawful.in_range))

after_first : {A : Type 0} (P : Instruction → Type 0) (i : Instruction) (rest : List Instruction) → (P i → ⊥) → (Any P rest → A) → Any P (i ∷ rest) → A
after_first P i rest never later a = elim (any_cases P i rest a) [ inl p ↦ absurd (never p) | inr q ↦ later q ]

-- the first instruction is lawful, and so the rest is refused
refused_rest : (room h : ℕ) (i : Instruction) (rest : List Instruction) → IsLawful h i.operation i.number i.second (effect h i) → (effect h i).zeros + (effect h i).highs ≤ room → AreRefused room h (i ∷ rest) → AreRefused (room - ((effect h i).zeros + (effect h i).highs)) (effect h i).high rest
unfolding SomeLeavesRange
refused_rest room h i rest lawful fits (past_end p) = past_end (omega (arith, length-expand h i rest))
refused_rest room h i rest lawful fits (out_of_range (inl p)) = absurd (lawful_stays h i lawful p)
refused_rest room h i rest lawful fits (out_of_range (inr p)) = out_of_range p
refused_rest room h i rest lawful fits (no_high a) = after_first _ i rest (λ p. absurd (omega (arith, lawful.has_high p.0, p.1))) (λ q. no_high q) a
refused_rest room h i rest lawful fits (unknown a) = after_first _ i rest (λ p. absurd (omega (arith, lawful.known))) (λ q. unknown q) a
refused_rest room h i rest lawful fits (no_second a) = after_first _ i rest lawful.has_second (λ q. no_second q) a

-- a line that is read: the instructions are not refused, and it is their meaning
pub record IsRead (room h : ℕ) (is : List Instruction) (numbers : List ℤ) : Type 0 where
  pub lawful : AreRefused room h is → ⊥
  pub meaning : numbers ≡ expand h is ++ replicate (room - length (expand h is)) (pos 0)

pub nothing_refused : (room h : ℕ) → AreRefused room h [] → ⊥
unfolding SomeLeavesRange expand
nothing_refused room h (past_end p) = absurd (omega arith)
nothing_refused room h (out_of_range p) = p
nothing_refused room h (no_high a) = any_none _ a
nothing_refused room h (unknown a) = any_none _ a
nothing_refused room h (no_second a) = any_none _ a

pub front_some : (front : List ℤ) (o : Option (List ℤ)) (numbers : List ℤ) → option_map (λ more. front ++ more) o ≡ Some numbers → (more : List ℤ) × (o ≡ Some more) × (numbers ≡ front ++ more)
front_some front None numbers e = cc
front_some front (Some more) numbers e = (more, refl, cc)

pub front_none : (front : List ℤ) (o : Option (List ℤ)) → option_map (λ more. front ++ more) o ≡ None → o ≡ None
front_none front None e = refl
front_none front (Some more) e = cc

-- what is read after a lawful first instruction
pub read_later : (room h : ℕ) (i : Instruction) (rest : List Instruction) (more : List ℤ) → IsLawful h i.operation i.number i.second (effect h i) → (effect h i).zeros + (effect h i).highs ≤ room → IsRead (room - ((effect h i).zeros + (effect h i).highs)) (effect h i).high rest more → IsRead room h (i ∷ rest) (written (effect h i) ++ more)
unfolding expand
read_later room h i rest more lawful fits read = record {
  lawful = λ r. read.lawful (refused_rest room h i rest lawful fits r);
  meaning =
      let left : room - ((effect h i).zeros + (effect h i).highs) - length (expand (effect h i).high rest) ≡ room - length (expand h (i ∷ rest)) = omega (arith, length-expand h i rest) in
      ap (λ (xs : List ℤ). written (effect h i) ++ xs) (read.meaning ∙ ap (λ n. expand (effect h i).high rest ++ replicate n (pos 0)) left)
      ∙ sym (append_assoc (written (effect h i)) (expand (effect h i).high rest) _);
}
