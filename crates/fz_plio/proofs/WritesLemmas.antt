-- What the producer's instructions write, wherever they stand.
use Rattle.std.proofs.Common.{◌≡◌, ℕ, zero, suc, ◌+◌, ◌-◌, ◌*◌, ◌/◌, ◌%◌, ◌^◌, ◌<◌, ◌≤◌, Bool, true, false, cond, ◌&&◌, List, [], ◌∷◌, ◌++◌, ℤ, pos, Option, Some, None, length, map, replicate, append_assoc, length-append, refl, sym, ap, ◌∙◌, subst, arith, eqb, ltb, nat_lt, if◌then◌else◌}
use Rattle.std.proofs.lemmas.List.{append-nil, replicate-append-replicate}
use Rattle.std.proofs.lemmas.Bool.Decides.{nat_tests}
use Rattle.fz_plio.specs.Instructions.{Instruction}
use Rattle.fz_plio.specs.Meaning.{Effect, does, written}
use Rattle.fz_plio.specs.Producer.{Run, instruction, pieces, in_pieces, high_change, zeros_and_highs, is_single_step, run_instructions}
use Rattle.fz_plio.specs.Reading.{checked_effect, with_effect, line_from}
use Rattle.fz_plio.proofs.ReadingLemmas.{with_front, with_front-nil}
use Rattle.fz_plio.proofs.RefusalLemmas.{length-written}
use Rattle.fz_plio.proofs.ProducerLemmas.{differs, less, not_less, map-replicate}

-- the instructions write the numbers, and leave the high value `next`
pub record Writes (h : ℕ) (is : List Instruction) (numbers : List ℤ) (next : ℕ) : Type 0 where
  pub line : (room : ℕ) (rest : List Instruction) → length numbers ≤ room → line_from room h (is ++ rest) ≡ with_front numbers (line_from (room - length numbers) next rest)

pub writes_nothing : (h : ℕ) → Writes h [] [] h
writes_nothing h = record { line = λ room rest within. let whole : room ≡ room - 0 = omega arith in ap (λ n. line_from n h rest) whole ∙ sym (with_front-nil _) }

with_front-join : (front more : List ℤ) (o : Option (List ℤ)) → with_front front (with_front more o) ≡ with_front (front ++ more) o
with_front-join front more None = refl
with_front-join front more (Some xs) = ap (λ (ys : List ℤ). Some ys) (sym (append_assoc front more xs))

pub writes_both : (h middle next : ℕ) (is js : List Instruction) (xs ys : List ℤ) → Writes h is xs middle → Writes middle js ys next → Writes h (is ++ js) (xs ++ ys) next
writes_both h middle next is js xs ys first second = record {
  line = λ room rest within.
      let count = length-append xs ys in
      let left : room - length xs - length ys ≡ room - length (xs ++ ys) = omega (arith, count) in
      ap (λ (ks : List Instruction). line_from room h ks) (append_assoc is js rest)
      ∙ first.line room (js ++ rest) (omega (arith, count))
      ∙ ap (with_front xs) (second.line (room - length xs) rest (omega (arith, count)))
      ∙ with_front-join xs ys _
      ∙ ap (λ n. with_front (xs ++ ys) (line_from n next rest)) left;
}

pub writes_one : (h : ℕ) (i : Instruction) (e : Effect) → checked_effect h i ≡ Some e → Writes h (i ∷ []) (written e) e.high
unfolding line_from
writes_one h i e checked = record {
  line = λ room rest within.
      let count = length-written e in
      let fits : ltb room (e.zeros + e.highs) ≡ false = not_less room (e.zeros + e.highs) (omega (arith, count)) in
      let left : room - (e.zeros + e.highs) ≡ room - length (written e) = omega (arith, count) in
      ap (λ (o : Option Effect). with_effect room o (λ n high. line_from n high rest)) checked
      ∙ (rw fits refl)
      ∙ ap (λ n. with_front (written e) (line_from n e.high rest)) left;
}

-- the same with numbers that are equal
pub writes_same : (h next : ℕ) (is : List Instruction) (xs ys : List ℤ) → xs ≡ ys → Writes h is xs next → Writes h is ys next
writes_same h next is xs ys same writes = subst (λ (zs : List ℤ). Writes h is zs next) same writes

-- the pieces together
all_of : List ℕ → ℕ
all_of [] = 0
all_of (p ∷ ps) = p + all_of ps

all_of-append : (ps qs : List ℕ) → all_of (ps ++ qs) ≡ all_of ps + all_of qs
unfolding all_of
all_of-append [] qs = omega arith
all_of-append (p ∷ ps) qs = omega (arith, all_of-append ps qs)

all_of-replicate : (n p : ℕ) → all_of (replicate n p) ≡ n * p
unfolding all_of
all_of-replicate zero p = omega arith
all_of-replicate (suc n) p = omega (arith, all_of-replicate n p)

all_of-one : (p : ℕ) → all_of (p ∷ []) ≡ p
unfolding all_of
all_of-one p = omega arith

all_of-pieces : (n : ℕ) → all_of (pieces n) ≡ n
unfolding pieces all_of
all_of-pieces zero = refl
all_of-pieces (suc k) =
    let no = differs (suc k) 0 (omega arith) in
    rw no (omega (arith, all_of-append (replicate ((suc k - 1) / 4095) 4095) (((suc k - 1) % 4095 + 1) ∷ []), all_of-replicate ((suc k - 1) / 4095) 4095, all_of-one ((suc k - 1) % 4095 + 1)))

-- operation 0 in pieces
writes_zeros : (h : ℕ) (ps : List ℕ) → Writes h (map (instruction 0) ps) (replicate (all_of ps) (pos 0)) h
unfolding checked_effect all_of
writes_zeros h [] = writes_nothing h
writes_zeros h (p ∷ ps) =
    writes_same h h _ _ _ (ap (λ (xs : List ℤ). xs ++ replicate (all_of ps) (pos 0)) (append-nil (replicate p (pos 0))) ∙ replicate-append-replicate p (all_of ps) (pos 0))
    (writes_both h h h (instruction 0 p ∷ []) (map (instruction 0) ps) _ _ (writes_one h (instruction 0 p) (does h p 0) refl) (writes_zeros h ps))

-- operation 4 in pieces
writes_highs : (h : ℕ) (ps : List ℕ) → Writes h (map (instruction 4) ps) (replicate (all_of ps) (pos h)) h
unfolding checked_effect all_of
writes_highs h [] = writes_nothing h
writes_highs h (p ∷ ps) =
    writes_same h h _ _ _ (replicate-append-replicate p (all_of ps) (pos h))
    (writes_both h h h (instruction 4 p ∷ []) (map (instruction 4) ps) _ _ (writes_one h (instruction 4 p) (does h 0 p) refl) (writes_highs h ps))

pub writes_zero_pieces : (h n : ℕ) → Writes h (in_pieces 0 n) (replicate n (pos 0)) h
writes_zero_pieces h n = writes_same h h _ _ _ (ap (λ k. replicate k (pos 0)) (all_of-pieces n)) (writes_zeros h (pieces n))

writes_high_pieces : (h n : ℕ) → Writes h (in_pieces 4 n) (replicate n (pos h)) h
writes_high_pieces h n = writes_same h h _ _ _ (ap (λ k. replicate k (pos h)) (all_of-pieces n)) (writes_highs h (pieces n))

-- whole pieces of zeros, and then the last one with a number after it
writes_joined : (h before : ℕ) → 0 < before → Writes h (replicate ((before - 1) / 4095) (instruction 0 4095) ++ instruction 5 ((before - 1) % 4095 + 1 + 1) ∷ []) (replicate before (pos 0) ++ pos h ∷ []) h
unfolding checked_effect
writes_joined h before some =
    let whole = (before - 1) / 4095 in
    let number = (before - 1) % 4095 + 1 + 1 in
    let front : Writes h (replicate whole (instruction 0 4095)) (replicate (whole * 4095) (pos 0)) h =
    subst (λ (is : List Instruction). Writes h is (replicate (whole * 4095) (pos 0)) h) (map-replicate (instruction 0) whole 4095)
    (writes_same h h _ _ _ (ap (λ n. replicate n (pos 0)) (all_of-replicate whole 4095)) (writes_zeros h (replicate whole 4095))) in
    let numbered = differs number 0 (omega arith) in
    let back : Writes h (instruction 5 number ∷ []) (written (does h (number - 1) 1)) h = writes_one h (instruction 5 number) (does h (number - 1) 1) (rw numbered refl) in
    let zeros_all : whole * 4095 + (number - 1) ≡ before = omega arith in
    writes_same h h _ _ _
    (sym (append_assoc (replicate (whole * 4095) (pos 0)) (replicate (number - 1) (pos 0)) (pos h ∷ []))
    ∙ ap (λ (xs : List ℤ). xs ++ pos h ∷ []) (replicate-append-replicate (whole * 4095) (number - 1) (pos 0) ∙ ap (λ n. replicate n (pos 0)) zeros_all))
    (writes_both h h h _ _ _ _ front back)

-- the zeros before a run, and the run
writes_run_numbers : (h before count : ℕ) → Writes h (zeros_and_highs before count) (replicate before (pos 0) ++ replicate count (pos h)) h
unfolding zeros_and_highs checked_effect
writes_run_numbers h before count = by_tests _ _ _ refl refl refl
  where
    last : ℕ
    last = (before - 1) % 4095 + 1

    apart : Writes h (in_pieces 0 before ++ in_pieces 4 count) (replicate before (pos 0) ++ replicate count (pos h)) h
    apart = writes_both h h h _ _ _ _ (writes_zero_pieces h before) (writes_high_pieces h count)

    by_tests : (b c d : Bool) → eqb count 1 ≡ b → ltb 0 before ≡ c → ltb ((before - 1) % 4095 + 1) 4095 ≡ d → Writes h (cond (b && c && d) (replicate ((before - 1) / 4095) (instruction 0 4095) ++ instruction 5 ((before - 1) % 4095 + 1 + 1) ∷ []) (in_pieces 0 before ++ in_pieces 4 count)) (replicate before (pos 0) ++ replicate count (pos h)) h
    by_tests false c d eb ec ed = apart
    by_tests true false d eb ec ed = apart
    by_tests true true false eb ec ed = apart
    by_tests true true true eb ec ed =
        let one : 1 ≡ count = grind (arith, nat_tests) in
        let some : 0 < before = grind (arith, nat_tests) in
        writes_same h h _ _ _ (ap (λ n. replicate before (pos 0) ++ replicate n (pos h)) one) (writes_joined h before some)

-- the high value becomes v
writes_high_change : (h v : ℕ) → h < 2 ^ 24 → v < 2 ^ 24 → Writes h (high_change h v) [] v
unfolding high_change checked_effect
writes_high_change h v h_fits v_fits = by_tests _ _ _ refl refl refl
  where
    by_tests : (a b c : Bool) → eqb h v ≡ a → nat_lt 4095 ((h - v) + (v - h)) ≡ b → nat_lt h v ≡ c → Writes h (cond a [] (cond b (record { operation = 1; number = v % 4096; second = Some (v / 4096) } ∷ []) (cond c (instruction 2 (v - h) ∷ []) (instruction 3 (h - v) ∷ [])))) [] v
    by_tests true b c ea eb ec =
        let same : h ≡ v = grind (arith, nat_tests) in
        subst (λ (n : ℕ). Writes h [] [] n) same (writes_nothing h)
    by_tests false true c ea eb ec =
        let second = not_less 4095 (v / 4096) (omega arith) in
        let same : v % 4096 + 4096 * (v / 4096) ≡ v = omega arith in
        subst (λ (n : ℕ). Writes h (record { operation = 1; number = v % 4096; second = Some (v / 4096) } ∷ []) [] n) same (writes_one h (record { operation = 1; number = v % 4096; second = Some (v / 4096) }) (does (v % 4096 + 4096 * (v / 4096)) 0 0) (rw second refl))
    by_tests false false true ea eb ec =
        let upward : h < v = grind (arith, nat_tests) in
        let same : h + (v - h) ≡ v = omega arith in
        let fits = less (h + (v - h)) (2 ^ 24) (omega arith) in
        subst (λ (n : ℕ). Writes h (instruction 2 (v - h) ∷ []) [] n) same (writes_one h (instruction 2 (v - h)) (does (h + (v - h)) 0 0) (rw fits refl))
    by_tests false false false ea eb ec =
        let downward : v ≤ h = grind (arith, nat_tests) in
        let same : h - (h - v) ≡ v = omega arith in
        let fits = not_less h (h - v) (omega arith) in
        subst (λ (n : ℕ). Writes h (instruction 3 (h - v) ∷ []) [] n) same (writes_one h (instruction 3 (h - v)) (does (h - (h - v)) 0 0) (rw fits refl))

-- a run whose value is near: one instruction
writes_step : (h : ℕ) (r : Run) → h < 2 ^ 24 → r.value < 2 ^ 24 → (c : Bool) → nat_lt h r.value ≡ c → Writes h ((if c then instruction 6 (r.value - h) else instruction 7 (h - r.value)) ∷ []) (pos r.value ∷ []) r.value
unfolding checked_effect
writes_step h r h_fits v_fits true e =
    let upward : h < r.value = grind (arith, nat_tests) in
    let same : h + (r.value - h) ≡ r.value = omega arith in
    let fits = less (h + (r.value - h)) (2 ^ 24) (omega arith) in
    subst (λ (n : ℕ). Writes h (instruction 6 (r.value - h) ∷ []) (pos n ∷ []) n) same (writes_one h (instruction 6 (r.value - h)) (does (h + (r.value - h)) 0 1) (rw fits refl))
writes_step h r h_fits v_fits false e =
    let downward : r.value ≤ h = grind (arith, nat_tests) in
    let same : h - (h - r.value) ≡ r.value = omega arith in
    let fits = not_less h (h - r.value) (omega arith) in
    subst (λ (n : ℕ). Writes h (instruction 7 (h - r.value) ∷ []) (pos n ∷ []) n) same (writes_one h (instruction 7 (h - r.value)) (does (h - (h - r.value)) 0 1) (rw fits refl))

-- the numbers of a run
abbrev pub run_numbers : Run → List ℤ
run_numbers r = replicate r.zeros (pos 0) ++ replicate r.count (pos r.value)

step_numbers : (h : ℕ) (r : Run) (a b c d : Bool) → eqb r.count 1 ≡ a → eqb r.zeros 0 ≡ b → a && b && c && d ≡ true → pos r.value ∷ [] ≡ run_numbers r
step_numbers h r true true c d ea eb all =
    let one : 1 ≡ r.count = grind (arith, nat_tests) in
    let none : 0 ≡ r.zeros = grind (arith, nat_tests) in
    λ i. replicate (none i) (pos 0) ++ replicate (one i) (pos r.value)
step_numbers h r true false c d ea eb all = cc
step_numbers h r false b c d ea eb all = cc

-- the instructions of a run write its numbers
pub writes_run : (h : ℕ) (r : Run) → h < 2 ^ 24 → r.value < 2 ^ 24 → Writes h (run_instructions h r) (run_numbers r) r.value
unfolding run_instructions
writes_run h r h_fits v_fits = by_test (is_single_step h r) refl
  where
    by_test : (b : Bool) → is_single_step h r ≡ b → Writes h (cond b ((if nat_lt h r.value then instruction 6 (r.value - h) else instruction 7 (h - r.value)) ∷ []) (high_change h r.value ++ zeros_and_highs r.zeros r.count)) (run_numbers r) r.value
    by_test true e = writes_same h r.value _ _ _ (step_numbers h r _ _ _ _ refl refl e) (writes_step h r h_fits v_fits (nat_lt h r.value) refl)
    by_test false e = writes_both h r.value r.value _ _ [] (run_numbers r) (writes_high_change h r.value h_fits v_fits) (writes_run_numbers r.value r.zeros r.count)
