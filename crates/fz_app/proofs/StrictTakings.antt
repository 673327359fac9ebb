-- What is taken to compare a file, beside what `verify` takes: which of all is the first that passes a limit, the most that is live, and that all
-- keep within the bound of `verify`.
use Rattle.std.proofs.Common.{◌≡◌, ℕ, ◌+◌, ◌*◌, ◌≤◌, max, nat_lt, Bool, true, false, List, [], ◌∷◌, ◌++◌, sum, refl, sym, ap, ◌∙◌, arith}
use Rattle.std.proofs.lemmas.Bool.Decides.{nat_tests}
use Rattle.std.proofs.lemmas.List.Sums.{sum_by-cons}
use Rattle.std.specs.Prelude.{Option, Some, None, if◌then◌else◌}
use Rattle.fz_base.specs.JobBuffers.{buffer_bound}
use Rattle.fz_base.specs.Takings.{first_past, highest, piled}
use Rattle.fz_base.specs.declared.fault.Fault.{Fault}
use Rattle.fz_files.specs.Buffers.{AreBounded, header_takings, job_bound, job_takings, largest_tile, longest_header, work_takings}
use Rattle.fz_files.specs.Walks.{header_fault}
use Rattle.fz_files.specs.declared.job.Job.TheVariants.{Verify}
use Rattle.fz_files.specs.Decided.{first_fault}
use Rattle.fz_strict.specs.Clauses.{later_takings, strict_buffers, strict_takings}
use Rattle.fz_app.specs.Asked.{compared_takings, takings_with}

-- ---- lists of takings

pub on_bool : (b : Bool) (one : ℕ × ℕ) (later : Option (ℕ × ℕ)) → (if b then Some one else later) ≡ None → (b ≡ false) × (later ≡ None)
on_bool true one later none = absurd cc
on_bool false one later none = (refl, none)

on_bool_some : (b : Bool) (taking found : ℕ × ℕ) (later more : Option (ℕ × ℕ)) → (later ≡ Some found → more ≡ Some found) → (if b then Some taking else later) ≡ Some found → (if b then Some taking else more) ≡ Some found
on_bool_some true taking found later more grows e = e
on_bool_some false taking found later more grows e = grows e

-- takings that all stay within a limit, and others behind them
pub past_none : (limit : ℕ) (first second : List (ℕ × ℕ)) → first_past limit first ≡ None → first_past limit (first ++ second) ≡ first_past limit second
past_none limit [] second e = refl
past_none limit ((live, asked) ∷ first) second e =
    let parts : (nat_lt limit (live + asked) ≡ false) × (first_past limit first ≡ None) = on_bool (nat_lt limit (live + asked)) (live, asked) (first_past limit first) e in
    ap (λ b. if b then Some (live, asked) else first_past limit (first ++ second)) parts.0 ∙ past_none limit first second parts.1

-- takings of which one passes it
pub past_some : (limit : ℕ) (found : ℕ × ℕ) (first second : List (ℕ × ℕ)) → first_past limit first ≡ Some found → first_past limit (first ++ second) ≡ Some found
past_some limit found [] second e = absurd cc
past_some limit found ((live, asked) ∷ first) second e =
    on_bool_some (nat_lt limit (live + asked)) (live, asked) found (first_past limit first) (first_past limit (first ++ second)) (past_some limit found first second) e

with_none : (limit live asked : ℕ) (later : Option (ℕ × ℕ)) → nat_lt limit (live + asked) ≡ false → later ≡ None → (if nat_lt limit (live + asked) then Some (live, asked) else later) ≡ None
with_none limit live asked later test none = ap (λ b. if b then Some (live, asked) else later) test ∙ none

-- the first of takings that all stay within it
past_front : (limit : ℕ) (first second : List (ℕ × ℕ)) → first_past limit (first ++ second) ≡ None → first_past limit first ≡ None
past_front limit [] second e = refl
past_front limit ((live, asked) ∷ first) second e =
    let parts : (nat_lt limit (live + asked) ≡ false) × (first_past limit (first ++ second) ≡ None) = on_bool (nat_lt limit (live + asked)) (live, asked) (first_past limit (first ++ second)) e in
    with_none limit live asked (first_past limit first) parts.0 (past_front limit first second parts.1)

pub highest_both : (first second : List (ℕ × ℕ)) → highest (first ++ second) ≡ max (highest first) (highest second)
highest_both [] second = omega arith
highest_both ((live, asked) ∷ first) second = let more = highest_both first second in omega (arith, more)

sum_cons : (n : ℕ) (ns : List ℕ) → sum (n ∷ ns) ≡ n + sum ns
sum_cons n ns = sum_by-cons (λ x. x) n ns

-- buffers that are taken one after another stay within what they are together
piled_within : (limit live : ℕ) (ns : List ℕ) → live + sum ns ≤ limit → first_past limit (piled live ns) ≡ None
piled_within limit live [] few = refl
piled_within limit live (n ∷ ns) few =
    let all : sum (n ∷ ns) ≡ n + sum ns = sum_cons n ns in
    let here : live + n ≤ limit = omega (arith, few, all) in
    let test : nat_lt limit (live + n) ≡ false = grind (arith, nat_tests, here) in
    let rest : live + n + sum ns ≤ limit = omega (arith, few, all) in
    with_none limit live n (first_past limit (piled (live + n) ns)) test (piled_within limit (live + n) ns rest)

-- ---- the buffers of the comparison

-- together they are the bound
sum_is_bound : (H n : ℕ) → sum (strict_buffers H n 1) ≡ buffer_bound H n 1
unfolding buffer_bound
sum_is_bound H n =
    let e : List ℕ = 65536 ∷ [] in
    let d : List ℕ = (8 * n + 64) ∷ e in
    let c : List ℕ = 8 * n ∷ d in
    let b : List ℕ = (8 * n + 64) ∷ c in
    let a : List ℕ = 8 * n ∷ b in
    let seven : sum e ≡ 65536 + 0 = sum_cons 65536 [] in
    let six : sum d ≡ 8 * n + 64 + sum e = sum_cons (8 * n + 64) e in
    let five : sum c ≡ 8 * n + sum d = sum_cons (8 * n) d in
    let four : sum b ≡ 8 * n + 64 + sum c = sum_cons (8 * n + 64) c in
    let three : sum a ≡ 8 * n + sum b = sum_cons (8 * n) b in
    let two : sum ((H + 2880) ∷ a) ≡ H + 2880 + sum a = sum_cons (H + 2880) a in
    let one : sum ((H + 2880) ∷ (H + 2880) ∷ a) ≡ H + 2880 + sum ((H + 2880) ∷ a) = sum_cons (H + 2880) ((H + 2880) ∷ a) in
    let all : sum (strict_buffers H n 1) ≡ sum ((H + 2880) ∷ (H + 2880) ∷ a) = refl in
    omega (arith, one, two, three, four, five, six, seven, all)

later_within : (fault : Option Fault) (file : List ℕ) → first_past (job_bound Verify file 1) (later_takings fault file) ≡ None
later_within (Some x) file = refl
later_within None file =
    let all : sum (strict_buffers (longest_header Verify file) (largest_tile Verify file) 1) ≡ job_bound Verify file 1 = sum_is_bound (longest_header Verify file) (largest_tile Verify file) in
    piled_within (job_bound Verify file 1) 0 (strict_buffers (longest_header Verify file) (largest_tile Verify file) 1) (omega (arith, all))

-- since the headers keep within it, and nothing else is live then, so do the takings of the comparison
strict_within : AreBounded → (file : List ℕ) → first_past (job_bound Verify file 1) (strict_takings file) ≡ None
strict_within bounded file =
    let limit : ℕ = job_bound Verify file 1 in
    let work : List (ℕ × ℕ) = work_takings (header_fault Verify file) Verify file 1 in
    let later : List (ℕ × ℕ) = later_takings (header_fault Verify file) file in
    let parts : (nat_lt limit (0 + 2880) ≡ false) × (first_past limit (header_takings Verify file ++ work) ≡ None) = on_bool (nat_lt limit (0 + 2880)) (0, 2880) (first_past limit (header_takings Verify file ++ work)) (bounded Verify file 1 tt) in
    let headers : first_past limit (header_takings Verify file) ≡ None = past_front limit (header_takings Verify file) work parts.1 in
    with_none limit 0 2880 (first_past limit (header_takings Verify file ++ later)) parts.0
    (past_none limit (header_takings Verify file) later headers ∙ later_within (header_fault Verify file) file)

compared_within : AreBounded → (fault : Option Fault) (file : List ℕ) → first_past (job_bound Verify file 1) (compared_takings fault file) ≡ None
compared_within bounded (Some x) file = refl
compared_within bounded None file = strict_within bounded file

-- ---- all takings of `verify`, with those of the comparison or without

pub all_within : AreBounded → (compared : Bool) (file : List ℕ) (W : ℕ) → first_past (job_bound Verify file W) (takings_with compared file (job_takings Verify file W)) ≡ None
all_within bounded false file W = bounded Verify file W tt
all_within bounded true file W =
    past_none (job_bound Verify file 1) (job_takings Verify file 1) (compared_takings (first_fault Verify file) file) (bounded Verify file 1 tt)
    ∙ compared_within bounded (first_fault Verify file) file

module _ (file : List ℕ) (takings : List (ℕ × ℕ)) where
  -- the comparison of a file without a fault
  pub compared_is : None ≡ first_fault Verify file → takings_with true file takings ≡ takings ++ strict_takings file
  compared_is sound = ap (λ f. takings ++ compared_takings f file) (sym sound)

  -- a file with a fault is not compared
  pub not_compared : (x : Fault) → Some x ≡ first_fault Verify file → (limit : ℕ) → first_past limit takings ≡ None → first_past limit (takings_with true file takings) ≡ None
  not_compared x faulty limit none =
      past_none limit takings (compared_takings (first_fault Verify file) file) none ∙ ap (λ f. first_past limit (compared_takings f file)) (sym faulty)

  pub all_highest : None ≡ first_fault Verify file → (before now : ℕ) → before ≡ highest takings → now ≡ max before (highest (strict_takings file)) → now ≡ highest (takings_with true file takings)
  all_highest sound before now first second =
      let all : highest (takings_with true file takings) ≡ highest (takings ++ strict_takings file) = ap highest (compared_is sound) in
      let both : highest (takings ++ strict_takings file) ≡ max (highest takings) (highest (strict_takings file)) = highest_both takings (strict_takings file) in
      omega (arith, all, both, first, second)
