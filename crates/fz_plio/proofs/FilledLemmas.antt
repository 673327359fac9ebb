-- The runs of a line, joined, and the zeros after them are the line, and its instructions write it.
use Rattle.std.proofs.Common.{◌≡◌, ℕ, suc, ◌+◌, ◌-◌, ◌^◌, ◌<◌, ◌≤◌, Bool, true, false, cond, ◌&&◌, List, [], ◌∷◌, ◌++◌, ℤ, pos, Some, length, map, replicate, refl, sym, ap, ◌∙◌, arith, eqb, ◌==◌}
use Rattle.std.specs.List.{AllByRecursion}
use Rattle.std.proofs.lemmas.Bool.Decides.{nat_tests}
use Rattle.std.proofs.lemmas.List.{append-nil, length-map}
use Rattle.fz_plio.specs.Producer.{Run, runs, after_zero, after_number, last_zeros, run_instructions, all_run_instructions, line_instructions}
use Rattle.fz_plio.specs.Reading.{line_from}
use Rattle.fz_plio.proofs.ReadingLemmas.{with_front}
use Rattle.fz_plio.proofs.LengthLemmas.{total, total-cons, total-runs}
use Rattle.fz_plio.proofs.WritesLemmas.{Writes, writes_nothing, writes_both, writes_zero_pieces, run_numbers, writes_run}

-- the numbers of runs
joined : List Run → List ℤ
joined [] = []
joined (r ∷ rs) = run_numbers r ++ joined rs

-- the numbers of runs, and zeros up to a length
abbrev filled : List Run → ℕ → List ℤ
filled rs n = joined rs ++ replicate (n - total rs) (pos 0)

filled-after_zero : (rs : List Run) (n : ℕ) → total rs ≤ n → filled (after_zero rs) (suc n) ≡ pos 0 ∷ filled rs n
unfolding joined
filled-after_zero [] n within = let more : suc n - 0 ≡ suc (n - 0) = omega arith in rw more refl
filled-after_zero (r ∷ rs) n within =
    let more : r.zeros + 1 ≡ suc r.zeros = omega arith in
    let left : suc n - total (record { zeros = r.zeros + 1; value = r.value; count = r.count } ∷ rs) ≡ n - total (r ∷ rs) = omega (arith, total-cons r rs, total-cons (record { zeros = r.zeros + 1; value = r.value; count = r.count }) rs) in
    λ i. (replicate (more i) (pos 0) ++ replicate r.count (pos r.value)) ++ joined rs ++ replicate (left i) (pos 0)

filled-new : (v : ℕ) (rs : List Run) (n : ℕ) → total rs ≤ n → filled (record { zeros = 0; value = v; count = 1 } ∷ rs) (suc n) ≡ pos v ∷ filled rs n
unfolding joined
filled-new v rs n within =
    let left : suc n - total (record { zeros = 0; value = v; count = 1 } ∷ rs) ≡ n - total rs = omega (arith, total-cons (record { zeros = 0; value = v; count = 1 }) rs) in
    λ i. pos v ∷ (joined rs ++ replicate (left i) (pos 0))

filled-joins : (v : ℕ) (r : Run) (rs : List Run) (n : ℕ) → total (r ∷ rs) ≤ n → r.zeros ≡ 0 → r.value ≡ v → filled (record { zeros = 0; value = v; count = r.count + 1 } ∷ rs) (suc n) ≡ pos v ∷ filled (r ∷ rs) n
unfolding joined
filled-joins v r rs n within none same =
    let more : r.count + 1 ≡ suc r.count = omega arith in
    let left : suc n - total (record { zeros = 0; value = v; count = r.count + 1 } ∷ rs) ≡ n - total (r ∷ rs) = omega (arith, total-cons r rs, total-cons (record { zeros = 0; value = v; count = r.count + 1 }) rs) in
    (λ i. replicate (more i) (pos v) ++ joined rs ++ replicate (left i) (pos 0))
    ∙ (λ i. pos v ∷ ((replicate (sym none i) (pos 0) ++ replicate r.count (pos (sym same i))) ++ joined rs ++ replicate (n - total (r ∷ rs)) (pos 0)))

filled-after_number : (v : ℕ) (rs : List Run) (n : ℕ) → total rs ≤ n → filled (after_number v rs) (suc n) ≡ pos v ∷ filled rs n
filled-after_number v [] n within = filled-new v [] n within
filled-after_number v (r ∷ rs) n within = by_tests (eqb r.zeros 0) (eqb r.value v) refl refl
  where
    by_tests : (a b : Bool) → eqb r.zeros 0 ≡ a → eqb r.value v ≡ b → filled (cond (a && b) (record { zeros = 0; value = v; count = r.count + 1 } ∷ rs) (record { zeros = 0; value = v; count = 1 } ∷ r ∷ rs)) (suc n) ≡ pos v ∷ filled (r ∷ rs) n
    by_tests true true ea eb = filled-joins v r rs n within (grind (arith, nat_tests)) (grind (arith, nat_tests))
    by_tests true false ea eb = filled-new v (r ∷ rs) n within
    by_tests false b ea eb = filled-new v (r ∷ rs) n within

-- the runs of a line and the zeros after them are the line
filled-runs : (ns : List ℕ) → filled (runs ns) (length ns) ≡ map pos ns
unfolding runs joined
filled-runs [] = refl
filled-runs (x ∷ ns) = by_zero (eqb x 0) refl (filled-runs ns)
  where
    by_zero : (b : Bool) → eqb x 0 ≡ b → filled (runs ns) (length ns) ≡ map pos ns → filled (cond b (after_zero (runs ns)) (after_number x (runs ns))) (suc (length ns)) ≡ map pos (x ∷ ns)
    by_zero true e rest = let none : 0 ≡ x = grind (arith, nat_tests) in filled-after_zero (runs ns) (length ns) (total-runs ns) ∙ (λ i. pos (none i) ∷ rest i)
    by_zero false e rest = filled-after_number x (runs ns) (length ns) (total-runs ns) ∙ ap (λ (xs : List ℤ). pos x ∷ xs) rest

-- numbers and values that a line list can hold
abbrev pub AreSmall : List ℕ → Type 0
AreSmall ns = AllByRecursion (λ n. n < 2 ^ 24) ns

abbrev AreValued : List Run → Type 0
AreValued rs = AllByRecursion (λ r. (r.value < 2 ^ 24)) rs

valued-after_zero : (rs : List Run) → AreValued rs → AreValued (after_zero rs)
valued-after_zero [] h = tt
valued-after_zero (r ∷ rs) h = h

valued-after_number : (v : ℕ) (rs : List Run) → v < 2 ^ 24 → AreValued rs → AreValued (after_number v rs)
valued-after_number v [] small h = (small, tt)
valued-after_number v (r ∷ rs) small h = by_test (r.zeros == 0 && r.value == v)
  where
    by_test : (b : Bool) → AreValued (cond b (record { zeros = 0; value = v; count = r.count + 1 } ∷ rs) (record { zeros = 0; value = v; count = 1 } ∷ r ∷ rs))
    by_test true = (small, h.1)
    by_test false = (small, h)

runs-valued : (ns : List ℕ) → AreSmall ns → AreValued (runs ns)
unfolding runs
runs-valued [] small = tt
runs-valued (x ∷ ns) small = by_test (eqb x 0) (runs-valued ns small.1)
  where
    by_test : (b : Bool) → AreValued (runs ns) → AreValued (cond b (after_zero (runs ns)) (after_number x (runs ns)))
    by_test true h = valued-after_zero (runs ns) h
    by_test false h = valued-after_number x (runs ns) small.0 h

-- the high value after the runs
high_behind : ℕ → List Run → ℕ
high_behind h [] = h
high_behind h (r ∷ rs) = high_behind r.value rs

writes_runs : (h : ℕ) (rs : List Run) → h < 2 ^ 24 → AreValued rs → Writes h (all_run_instructions h rs) (joined rs) (high_behind h rs)
unfolding joined high_behind all_run_instructions
writes_runs h [] fits valued = writes_nothing h
writes_runs h (r ∷ rs) fits valued =
    writes_both h r.value (high_behind r.value rs) (run_instructions h r) (all_run_instructions r.value rs) (run_numbers r) (joined rs) (writes_run h r fits valued.0) (writes_runs r.value rs valued.0 valued.1)

-- the instructions of a line give the line
pub line_from-line : (ns : List ℕ) → AreSmall ns → line_from (length ns) 1 (line_instructions 1 ns) ≡ Some (map pos ns)
unfolding last_zeros line_from
line_from-line ns small =
    let writes = writes_both 1 _ _ _ _ _ _ (writes_runs 1 (runs ns) (omega arith) (runs-valued ns small)) (writes_zero_pieces (high_behind 1 (runs ns)) (last_zeros ns)) in
    let whole = filled-runs ns in
    let count : length (filled (runs ns) (length ns)) ≡ length ns = ap length whole ∙ length-map ns (λ n. pos n) in
    let nothing_left : length ns - length (filled (runs ns) (length ns)) ≡ 0 = omega arith in
    sym (ap (line_from (length ns) 1) (append-nil (line_instructions 1 ns)))
    ∙ writes.line (length ns) [] (omega arith)
    ∙ ap (λ n. with_front (filled (runs ns) (length ns)) (line_from n (high_behind 1 (runs ns)) [])) nothing_left
    ∙ ap (λ (xs : List ℤ). Some xs) (append-nil (filled (runs ns) (length ns)) ∙ whole)
