-- The first maximal run of a list of numbers, and the runs after it.
use Rattle.std.proofs.Common.{◌≡◌, ◌≢◌, ℕ, zero, suc, ◌+◌, ◌<◌, Bool, true, false, cond, ◌&&◌, List, [], ◌∷◌, ◌++◌, length, replicate, get_or, append_assoc, refl, ap, ◌∙◌, arith, eqb, ◌==◌, sum_by}
use Rattle.std.proofs.lemmas.List.Sums.{sum_by-cons}
use Rattle.fz_plio.specs.Producer.{Run, runs, after_zero, after_number, last_zeros, in_pieces, run_instructions, all_run_instructions, line_instructions, body_words}
use Rattle.fz_plio.specs.Writing.{words_of}
use Rattle.fz_plio.proofs.ProducerLemmas.{equals, differs, words_of-append}

abbrev run : ℕ → ℕ → ℕ → Run
run before value count = record { zeros = before; value = value; count = count }

-- zeros before a first run
runs-zeros : (z a v c : ℕ) (ms : List ℕ) (rs : List Run) → runs ms ≡ run a v c ∷ rs → runs (replicate z 0 ++ ms) ≡ run (a + z) v c ∷ rs
unfolding runs
runs-zeros zero a v c ms rs e = let none : a ≡ a + 0 = omega arith in e ∙ ap (λ n. run n v c ∷ rs) none
runs-zeros (suc z) a v c ms rs e =
    let more : a + z + 1 ≡ a + suc z = omega arith in
    ap after_zero (runs-zeros z a v c ms rs e) ∙ ap (λ n. run n v c ∷ rs) more

-- zeros alone have no run
pub runs-no_run : (z : ℕ) → runs (replicate z 0) ≡ []
unfolding runs
runs-no_run zero = refl
runs-no_run (suc z) = ap after_zero (runs-no_run z)

-- a number that does not join the runs after it
after_number-new : (v : ℕ) (ms : List ℕ) → v ≢ 0 → (0 < length ms → get_or ms 0 0 ≢ v) → after_number v (runs ms) ≡ run 0 v 1 ∷ runs ms
unfolding runs
after_number-new v [] some new = refl
after_number-new v (x ∷ ms) some new = by_zero (eqb x 0) refl
  where
    behind_zero : (rs : List Run) → after_number v (after_zero rs) ≡ run 0 v 1 ∷ after_zero rs
    behind_zero [] = refl
    behind_zero (r ∷ rs) = let no = differs (r.zeros + 1) 0 (omega arith) in rw no refl

    behind_number : (rs : List Run) → x ≢ v → after_number v (after_number x rs) ≡ run 0 v 1 ∷ after_number x rs
    behind_number [] other = let no = differs x v other in rw no refl
    behind_number (r ∷ rs) other = by_test (r.zeros == 0 && r.value == x)
      where
        by_test : (b : Bool) → after_number v (cond b (run 0 x (r.count + 1) ∷ rs) (run 0 x 1 ∷ r ∷ rs)) ≡ run 0 v 1 ∷ cond b (run 0 x (r.count + 1) ∷ rs) (run 0 x 1 ∷ r ∷ rs)
        by_test true = let no = differs x v other in rw no refl
        by_test false = let no = differs x v other in rw no refl

    by_zero : (b : Bool) → eqb x 0 ≡ b → after_number v (cond b (after_zero (runs ms)) (after_number x (runs ms))) ≡ run 0 v 1 ∷ cond b (after_zero (runs ms)) (after_number x (runs ms))
    by_zero true e = behind_zero (runs ms)
    by_zero false e = behind_number (runs ms) (new (omega arith))

-- a run of numbers above 0, and then others
runs-highs : (c v : ℕ) (ms : List ℕ) → v ≢ 0 → (0 < length ms → get_or ms 0 0 ≢ v) → runs (replicate (suc c) v ++ ms) ≡ run 0 v (suc c) ∷ runs ms
unfolding runs
runs-highs zero v ms some new = let no = differs v 0 some in rw no (after_number-new v ms some new)
runs-highs (suc c) v ms some new =
    let no = differs v 0 some in
    let yes = equals v v refl in
    let more : suc c + 1 ≡ suc (suc c) = omega arith in
    rw no (ap (after_number v) (rw no at (runs-highs c v ms some new)) ∙ rw yes (ap (λ n. run 0 v n ∷ runs ms) more))

-- the first run of a list of numbers
pub runs-first : (z c v : ℕ) (ms : List ℕ) → v ≢ 0 → 0 < c → (0 < length ms → get_or ms 0 0 ≢ v) → runs (replicate z 0 ++ (replicate c v ++ ms)) ≡ run z v c ∷ runs ms
runs-first z zero v ms some counted new = absurd (omega arith)
runs-first z (suc c) v ms some counted new = runs-zeros z 0 v (suc c) (replicate (suc c) v ++ ms) (runs ms) (runs-highs c v ms some new) ∙ (let none : 0 + z ≡ z = omega arith in ap (λ n. run n v (suc c) ∷ runs ms) none)

-- the zeros after the last run are those of the numbers after the first
pub last_zeros-first : (ns ms : List ℕ) (r : Run) → runs ns ≡ r ∷ runs ms → r.zeros + r.count + length ms ≡ length ns → last_zeros ns ≡ last_zeros ms
unfolding last_zeros
last_zeros-first ns ms r first lengths =
    let all : sum_by (λ (x : Run). x.zeros + x.count) (runs ns) ≡ r.zeros + r.count + sum_by (λ (x : Run). x.zeros + x.count) (runs ms) = ap (sum_by (λ (x : Run). x.zeros + x.count)) first ∙ sum_by-cons (λ (x : Run). x.zeros + x.count) r (runs ms) in
    omega (arith, all)

pub last_zeros-none : (ns : List ℕ) → runs ns ≡ [] → last_zeros ns ≡ length ns
unfolding last_zeros
last_zeros-none ns none =
    let all : sum_by (λ (x : Run). x.zeros + x.count) (runs ns) ≡ 0 = ap (sum_by (λ (x : Run). x.zeros + x.count)) none in
    omega (arith, all)

-- the instructions of a line, by its first run
pub line_instructions-first : (h : ℕ) (ns ms : List ℕ) (r : Run) → runs ns ≡ r ∷ runs ms → r.zeros + r.count + length ms ≡ length ns → line_instructions h ns ≡ run_instructions h r ++ line_instructions r.value ms
unfolding all_run_instructions
line_instructions-first h ns ms r first lengths =
    (λ i. all_run_instructions h (first i) ++ in_pieces 0 (last_zeros-first ns ms r first lengths i))
    ∙ append_assoc (run_instructions h r) (all_run_instructions r.value (runs ms)) (in_pieces 0 (last_zeros ms))

pub line_instructions-none : (h : ℕ) (ns : List ℕ) → runs ns ≡ [] → line_instructions h ns ≡ in_pieces 0 (length ns)
unfolding all_run_instructions
line_instructions-none h ns none = λ i. all_run_instructions h (none i) ++ in_pieces 0 (last_zeros-none ns none i)

-- the words of a line, by its first run
pub body_words-first : (h : ℕ) (ns ms : List ℕ) (r : Run) → runs ns ≡ r ∷ runs ms → r.zeros + r.count + length ms ≡ length ns → body_words h ns ≡ words_of (run_instructions h r) ++ body_words r.value ms
unfolding body_words
body_words-first h ns ms r first lengths = ap words_of (line_instructions-first h ns ms r first lengths) ∙ words_of-append (run_instructions h r) (line_instructions r.value ms)

pub body_words-none : (h : ℕ) (ns : List ℕ) → runs ns ≡ [] → body_words h ns ≡ words_of (in_pieces 0 (length ns))
unfolding body_words
body_words-none h ns none = ap words_of (line_instructions-none h ns none)
