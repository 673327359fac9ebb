-- A list has at most three words a number after its header.
use Rattle.std.proofs.Common.{◌≡◌, ℕ, zero, suc, ◌+◌, ◌-◌, ◌*◌, ◌/◌, ◌%◌, ◌<◌, ◌≤◌, Bool, true, false, cond, ◌&&◌, List, [], ◌∷◌, ◌++◌, ℤ, length, map, replicate, length-append, refl, ap, ◌∙◌, arith, eqb, nat_lt, ◌==◌, if◌then◌else◌, sum_by}
use Rattle.std.specs.Prelude.{Some}
use Rattle.std.specs.List.{AllByRecursion}
use Rattle.std.proofs.lemmas.List.{length-replicate}
use Rattle.std.proofs.lemmas.List.Sums.{sum_by-cons}
use Rattle.fz_plio.specs.Instructions.{Instruction}
use Rattle.fz_plio.specs.Producer.{Run, runs, after_zero, after_number, last_zeros, instruction, pieces, in_pieces, high_change, zeros_and_highs, is_single_step, run_instructions, all_run_instructions, body_words, header, with_header, line_list}
use Rattle.fz_plio.specs.Writing.{words_of, magnitudes}
use Rattle.fz_plio.proofs.WritingLemmas.{length-word_bytes}
use Rattle.fz_plio.proofs.ProducerLemmas.{words_of-append, differs}

-- the numbers that runs take up
abbrev pub total : List Run → ℕ
total rs = sum_by (λ r. r.zeros + r.count) rs

pub total-cons : (r : Run) (rs : List Run) → total (r ∷ rs) ≡ r.zeros + r.count + total rs
total-cons r rs = sum_by-cons (λ (x : Run). x.zeros + x.count) r rs

total-after_zero : (rs : List Run) → total (after_zero rs) ≤ total rs + 1
total-after_zero [] = omega arith
total-after_zero (r ∷ rs) = omega (arith, total-cons r rs, total-cons (record { zeros = r.zeros + 1; value = r.value; count = r.count }) rs)

total-after_number : (v : ℕ) (rs : List Run) → total (after_number v rs) ≤ total rs + 1
total-after_number v [] = omega arith
total-after_number v (r ∷ rs) = by_test (r.zeros == 0 && r.value == v)
  where
    by_test : (b : Bool) → total (cond b (record { zeros = 0; value = v; count = r.count + 1 } ∷ rs) (record { zeros = 0; value = v; count = 1 } ∷ r ∷ rs)) ≤ total (r ∷ rs) + 1
    by_test true = omega (arith, total-cons r rs, total-cons (record { zeros = 0; value = v; count = r.count + 1 }) rs)
    by_test false = omega (arith, total-cons (record { zeros = 0; value = v; count = 1 }) (r ∷ rs))

pub total-runs : (ns : List ℕ) → total (runs ns) ≤ length ns
unfolding runs
total-runs [] = omega arith
total-runs (x ∷ ns) = by_test (eqb x 0) (total-runs ns)
  where
    by_test : (b : Bool) → total (runs ns) ≤ length ns → total (cond b (after_zero (runs ns)) (after_number x (runs ns))) ≤ length (x ∷ ns)
    by_test true h = omega (arith, total-after_zero (runs ns))
    by_test false h = omega (arith, total-after_number x (runs ns))

-- each run has a number
abbrev pub AreCounted : List Run → Type 0
AreCounted rs = AllByRecursion (λ r. (0 < r.count)) rs

counted-after_zero : (rs : List Run) → AreCounted rs → AreCounted (after_zero rs)
counted-after_zero [] h = tt
counted-after_zero (r ∷ rs) h = h

counted-after_number : (v : ℕ) (rs : List Run) → AreCounted rs → AreCounted (after_number v rs)
counted-after_number v [] h = (omega arith, tt)
counted-after_number v (r ∷ rs) h = by_test (r.zeros == 0 && r.value == v)
  where
    by_test : (b : Bool) → AreCounted (cond b (record { zeros = 0; value = v; count = r.count + 1 } ∷ rs) (record { zeros = 0; value = v; count = 1 } ∷ r ∷ rs))
    by_test true = (omega arith, h.1)
    by_test false = (omega arith, h)

pub runs-counted : (ns : List ℕ) → AreCounted (runs ns)
unfolding runs
runs-counted [] = tt
runs-counted (x ∷ ns) = by_test (eqb x 0) (runs-counted ns)
  where
    by_test : (b : Bool) → AreCounted (runs ns) → AreCounted (cond b (after_zero (runs ns)) (after_number x (runs ns)))
    by_test true h = counted-after_zero (runs ns) h
    by_test false h = counted-after_number x (runs ns) h

length-words_of : (is js : List Instruction) → length (words_of (is ++ js)) ≡ length (words_of is) + length (words_of js)
length-words_of is js = ap length (words_of-append is js) ∙ length-append (words_of is) (words_of js)

-- pieces have one word each
length-in_pieces : (operation : ℕ) (ps : List ℕ) → length (words_of (map (instruction operation) ps)) ≡ length ps
length-in_pieces operation [] = refl
length-in_pieces operation (p ∷ ps) = ap suc (length-in_pieces operation ps)

pieces_few : (operation n : ℕ) → length (words_of (in_pieces operation n)) ≤ n
unfolding pieces
pieces_few operation zero = omega arith
pieces_few operation (suc k) =
    let no = differs (suc k) 0 (omega arith) in
    let count : length (pieces (suc k)) ≡ (suc k - 1) / 4095 + 1 = rw no (length-append (replicate ((suc k - 1) / 4095) 4095) (((suc k - 1) % 4095 + 1) ∷ []) ∙ ap (λ n. n + 1) (length-replicate ((suc k - 1) / 4095) 4095)) in
    omega (arith, length-in_pieces operation (pieces (suc k)), count)

high_change_few : (h v : ℕ) → length (words_of (high_change h v)) ≤ 2
unfolding high_change
high_change_few h v = by_tests (eqb h v) (nat_lt 4095 ((h - v) + (v - h))) (nat_lt h v)
  where
    by_tests : (a b c : Bool) → length (words_of (cond a [] (cond b (record { operation = 1; number = v % 4096; second = Some (v / 4096) } ∷ []) (cond c (instruction 2 (v - h) ∷ []) (instruction 3 (h - v) ∷ []))))) ≤ 2
    by_tests true b c = omega arith
    by_tests false true c = omega arith
    by_tests false false true = omega arith
    by_tests false false false = omega arith

length-repeated : (n : ℕ) (operation number : ℕ) → length (words_of (replicate n (instruction operation number))) ≡ n
length-repeated zero operation number = refl
length-repeated (suc n) operation number = ap suc (length-repeated n operation number)

zeros_and_highs_few : (before count : ℕ) → 0 < count → length (words_of (zeros_and_highs before count)) ≤ before + count
unfolding zeros_and_highs
zeros_and_highs_few before count some = by_test (count == 1 && nat_lt 0 before && nat_lt ((before - 1) % 4095 + 1) 4095)
  where
    by_test : (b : Bool) → length (words_of (cond b (replicate ((before - 1) / 4095) (instruction 0 4095) ++ instruction 5 ((before - 1) % 4095 + 1 + 1) ∷ []) (in_pieces 0 before ++ in_pieces 4 count))) ≤ before + count
    by_test true = omega (arith, length-words_of (replicate ((before - 1) / 4095) (instruction 0 4095)) (instruction 5 ((before - 1) % 4095 + 1 + 1) ∷ []), length-repeated ((before - 1) / 4095) 0 4095)
    by_test false = omega (arith, length-words_of (in_pieces 0 before) (in_pieces 4 count), pieces_few 0 before, pieces_few 4 count)

run_few : (h : ℕ) (r : Run) → 0 < r.count → length (words_of (run_instructions h r)) ≤ 2 + (r.zeros + r.count)
unfolding run_instructions
run_few h r some = by_test (is_single_step h r)
  where
    single : (b : Bool) → length (words_of ((if b then instruction 6 (r.value - h) else instruction 7 (h - r.value)) ∷ [])) ≡ 1
    single true = refl
    single false = refl

    by_test : (b : Bool) → length (words_of (cond b ((if nat_lt h r.value then instruction 6 (r.value - h) else instruction 7 (h - r.value)) ∷ []) (high_change h r.value ++ zeros_and_highs r.zeros r.count))) ≤ 2 + (r.zeros + r.count)
    by_test true = omega (arith, single (nat_lt h r.value))
    by_test false = omega (arith, length-words_of (high_change h r.value) (zeros_and_highs r.zeros r.count), high_change_few h r.value, zeros_and_highs_few r.zeros r.count some)

runs_few : (h : ℕ) (rs : List Run) → AreCounted rs → length (words_of (all_run_instructions h rs)) ≤ 3 * total rs
unfolding all_run_instructions
runs_few h [] counted = omega arith
runs_few h (r ∷ rs) counted =
    omega (arith, total-cons r rs, length-words_of (run_instructions h r) (all_run_instructions r.value rs), run_few h r counted.0, runs_few r.value rs counted.1, counted.0)

-- the words of a line
pub body_words_few : (h : ℕ) (ns : List ℕ) → length (body_words h ns) ≤ 3 * length ns
unfolding body_words last_zeros
body_words_few h ns =
    omega (arith, length-words_of (all_run_instructions h (runs ns)) (in_pieces 0 (last_zeros ns)), runs_few h (runs ns) (runs-counted ns), pieces_few 0 (last_zeros ns), total-runs ns)

-- the bytes of the list of a line
pub length-line_list : (numbers : List ℤ) → length (line_list numbers) ≡ 14 + 2 * length (body_words 1 (magnitudes numbers))
unfolding line_list
length-line_list numbers =
    let body = body_words 1 (magnitudes numbers) in
    omega (arith, length-word_bytes (with_header body), length-append (header (7 + length body)) body)
