-- What is written as words is read back: words from bytes, and instructions from words.
use Rattle.std.proofs.Common.{◌≡◌, ◌≢◌, ℕ, zero, suc, ◌+◌, ◌-◌, ◌*◌, ◌/◌, ◌%◌, ◌<◌, ◌≤◌, Bool, true, false, cond, ◌&&◌, not, List, [], ◌∷◌, ◌++◌, Option, Some, None, replicate, refl, sym, ap, ◌∙◌, subst, arith, eqb, nat_lt, ◌==◌}
use Rattle.std.specs.Prelude.{MatchOption}
use Rattle.std.specs.List.{AllByRecursion}
use Rattle.std.proofs.lemmas.Bool.Decides.{nat_tests}
use Rattle.std.proofs.lemmas.List.{map-append}
use Rattle.fz_plio.specs.Words.{words, word_bytes}
use Rattle.fz_plio.specs.Instructions.{Instruction, instructions, instruction_words, one_word, two_words}
use Rattle.fz_plio.specs.Producer.{Run, runs, last_zeros, instruction, pieces, in_pieces, high_change, zeros_and_highs, run_instructions, all_run_instructions, line_instructions}
use Rattle.fz_plio.specs.Writing.{words_of}
use Rattle.fz_plio.proofs.RefusalLemmas.{AreNumbered}
use Rattle.fz_plio.proofs.ProducerLemmas.{differs, equals, map-replicate}

-- the words of the bytes of words are these words
pub words-word_bytes : (ws : List ℕ) → words (word_bytes ws) ≡ ws
unfolding words word_bytes
words-word_bytes [] = refl
words-word_bytes (w ∷ ws) = let same : 256 * (w / 256) + w % 256 ≡ w = omega arith in λ i. same i ∷ words-word_bytes ws i

-- an instruction that is read back from its words
abbrev pub IsWritable : Instruction → Type 0
IsWritable i = (i.number < 4096) × MatchOption i.second (i.operation ≢ 1) (λ _. i.operation ≡ 1)

abbrev pub AreWritable : List Instruction → Type 0
AreWritable is = AllByRecursion IsWritable is

instructions-one_word : (word : ℕ) (rest : List ℕ) → word / 4096 ≢ 1 → instructions (word ∷ rest) ≡ one_word word ∷ instructions rest
unfolding instructions
instructions-one_word word [] other = refl
instructions-one_word word (second ∷ rest) other = let no = differs (word / 4096) 1 other in rw no refl

instructions-two_words : (word second : ℕ) (rest : List ℕ) → word / 4096 ≡ 1 → instructions (word ∷ second ∷ rest) ≡ two_words word second ∷ instructions rest
unfolding instructions
instructions-two_words word second rest same = let yes = equals (word / 4096) 1 same in rw yes refl

-- an instruction in front of words
instructions-cons : (operation number : ℕ) (second : Option ℕ) (ws : List ℕ) → number < 4096 → MatchOption second (operation ≢ 1) (λ _. operation ≡ 1) → instructions (instruction_words (record { operation = operation; number = number; second = second }) ++ ws) ≡ record { operation = operation; number = number; second = second } ∷ instructions ws
instructions-cons operation number None ws small other =
    let high : (4096 * operation + number) / 4096 ≡ operation = omega arith in
    let low : (4096 * operation + number) % 4096 ≡ number = omega arith in
    instructions-one_word (4096 * operation + number) ws (λ e. other (sym high ∙ e)) ∙ (λ i. record { operation = high i; number = low i; second = None } ∷ instructions ws)
instructions-cons operation number (Some second) ws small same =
    let high : (4096 * operation + number) / 4096 ≡ operation = omega arith in
    let low : (4096 * operation + number) % 4096 ≡ number = omega arith in
    instructions-two_words (4096 * operation + number) second ws (high ∙ same) ∙ (λ i. record { operation = high i; number = low i; second = Some second } ∷ instructions ws)

-- the instructions in the words of instructions are these instructions
pub instructions-words_of : (is : List Instruction) → AreWritable is → instructions (words_of is) ≡ is
unfolding instructions
instructions-words_of [] writable = refl
instructions-words_of (i ∷ rest) writable =
    instructions-cons i.operation i.number i.second (words_of rest) writable.0.0 writable.0.1
    ∙ ap (λ (is : List Instruction). i ∷ is) (instructions-words_of rest writable.1)

writable-append : (is js : List Instruction) → AreWritable is → AreWritable js → AreWritable (is ++ js)
writable-append [] js first second = second
writable-append (i ∷ is) js first second = (first.0, writable-append is js first.1 second)

writable-replicate : (n : ℕ) (i : Instruction) → IsWritable i → AreWritable (replicate n i)
writable-replicate zero i h = tt
writable-replicate (suc n) i h = (h, writable-replicate n i h)

writable-pieces : (operation n : ℕ) → operation ≢ 1 → AreWritable (in_pieces operation n)
unfolding pieces
writable-pieces operation zero other = tt
writable-pieces operation (suc k) other =
    let no = differs (suc k) 0 (omega arith) in
    rw no (subst AreWritable (sym (map-append (instruction operation) (replicate ((suc k - 1) / 4095) 4095) (((suc k - 1) % 4095 + 1) ∷ [])))
    (writable-append _ _
    (subst AreWritable (sym (map-replicate (instruction operation) ((suc k - 1) / 4095) 4095)) (writable-replicate ((suc k - 1) / 4095) (instruction operation 4095) (omega arith, other)))
    ((omega arith, other), tt)))

writable-high_change : (h v : ℕ) → AreWritable (high_change h v)
unfolding high_change
writable-high_change h v = by_tests (eqb h v) (nat_lt 4095 ((h - v) + (v - h))) (nat_lt h v) refl
  where
    by_tests : (a b c : Bool) → nat_lt 4095 ((h - v) + (v - h)) ≡ b → AreWritable (cond a [] (cond b (record { operation = 1; number = v % 4096; second = Some (v / 4096) } ∷ []) (cond c (instruction 2 (v - h) ∷ []) (instruction 3 (h - v) ∷ []))))
    by_tests true b c e = tt
    by_tests false true c e = ((omega arith, refl), tt)
    by_tests false false true e = let near : (h - v) + (v - h) ≤ 4095 = grind (arith, nat_tests) in ((omega arith, (λ q. absurd (omega arith))), tt)
    by_tests false false false e = let near : (h - v) + (v - h) ≤ 4095 = grind (arith, nat_tests) in ((omega arith, (λ q. absurd (omega arith))), tt)

writable-zeros_and_highs : (before count : ℕ) → AreWritable (zeros_and_highs before count)
unfolding zeros_and_highs
writable-zeros_and_highs before count = by_tests (count == 1 && nat_lt 0 before) (nat_lt ((before - 1) % 4095 + 1) 4095) refl
  where
    apart : AreWritable (in_pieces 0 before ++ in_pieces 4 count)
    apart = writable-append _ _ (writable-pieces 0 before (omega arith)) (writable-pieces 4 count (omega arith))

    by_tests : (a b : Bool) → nat_lt ((before - 1) % 4095 + 1) 4095 ≡ b → AreWritable (cond (a && b) (replicate ((before - 1) / 4095) (instruction 0 4095) ++ instruction 5 ((before - 1) % 4095 + 1 + 1) ∷ []) (in_pieces 0 before ++ in_pieces 4 count))
    by_tests false b e = apart
    by_tests true false e = apart
    by_tests true true e =
        let short : (before - 1) % 4095 + 1 < 4095 = grind (arith, nat_tests) in
        writable-append _ _ (writable-replicate ((before - 1) / 4095) (instruction 0 4095) (omega arith, (λ q. absurd (omega arith)))) ((omega arith, (λ q. absurd (omega arith))), tt)

writable-run : (h : ℕ) (r : Run) → AreWritable (run_instructions h r)
unfolding run_instructions
writable-run h r = by_tests (r.count == 1 && r.zeros == 0 && not (h == r.value)) (nat_lt ((h - r.value) + (r.value - h)) 4096) (nat_lt h r.value) refl
  where
    by_tests : (a b c : Bool) → nat_lt ((h - r.value) + (r.value - h)) 4096 ≡ b → AreWritable (cond (a && b) (cond c (instruction 6 (r.value - h)) (instruction 7 (h - r.value)) ∷ []) (high_change h r.value ++ zeros_and_highs r.zeros r.count))
    by_tests false b c e = writable-append _ _ (writable-high_change h r.value) (writable-zeros_and_highs r.zeros r.count)
    by_tests true false c e = writable-append _ _ (writable-high_change h r.value) (writable-zeros_and_highs r.zeros r.count)
    by_tests true true true e = let near : (h - r.value) + (r.value - h) < 4096 = grind (arith, nat_tests) in ((omega arith, (λ q. absurd (omega arith))), tt)
    by_tests true true false e = let near : (h - r.value) + (r.value - h) < 4096 = grind (arith, nat_tests) in ((omega arith, (λ q. absurd (omega arith))), tt)

writable-runs : (h : ℕ) (rs : List Run) → AreWritable (all_run_instructions h rs)
unfolding all_run_instructions
writable-runs h [] = tt
writable-runs h (r ∷ rs) = writable-append _ _ (writable-run h r) (writable-runs r.value rs)

pub writable-line : (h : ℕ) (ns : List ℕ) → AreWritable (line_instructions h ns)
writable-line h ns = writable-append _ _ (writable-runs h (runs ns)) (writable-pieces 0 (last_zeros ns) (omega arith))

pub numbered-writable : (is : List Instruction) → AreWritable is → AreNumbered is
numbered-writable [] h = tt
numbered-writable (i ∷ is) h = (h.0.0, numbered-writable is h.1)
