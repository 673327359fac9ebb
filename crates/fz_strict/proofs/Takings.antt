-- What the call takes: the first of its takings that passes a limit, and the most that is live.
use Rattle.std.proofs.Common.{◌≡◌, ℕ, ◌+◌, ◌*◌, ◌<◌, ◌≤◌, max, true, false, nat_lt, Bool, List, [], ◌∷◌, ◌++◌, sum, refl, sym, ap, ◌∙◌, subst, arith}
use Rattle.std.specs.Prelude.{Option, Some, None, IfSome, Result, Ok, Err, if◌then◌else◌}
use Rattle.std.proofs.lemmas.Bool.Decides.{nat_tests}
use Rattle.std.proofs.lemmas.List.Sums.{sum_by-cons}
use Rattle.fz_base.specs.JobBuffers.{buffer_bound}
use Rattle.fz_base.specs.Takings.{TellsFirstPast, first_past, highest, piled}
use Rattle.fz_base.specs.declared.fault.Fault.{Fault}
use Rattle.fz_base.specs.declared.failure.Stop.{Stop}
use Rattle.fz_base.specs.declared.failure.Stop.TheVariants.{Refused, ReadFault, WriteFault, OverLimit, NoMemory}
use Rattle.fz_files.specs.Buffers.{header_takings, job_bound, largest_tile, longest_header}
use Rattle.fz_files.specs.Walks.{header_fault}
use Rattle.fz_files.specs.declared.job.Job.TheVariants.{Verify}
use Rattle.fz_job.specs.Stages.{HasLargest}
use Rattle.fz_job.specs.SurveyLaws.{UnpackLooksOver}
use Rattle.fz_job.specs.Surveys.{survey_takings}
use Rattle.fz_job.specs.declared.checks.JobChecks.TheVariants.{Unpack as UnpackChecks}
use Rattle.fz_strict.specs.Clauses.{later_takings, look_takings, strict_buffers, strict_takings}

-- ---- lists of takings

on_bool : (b : Bool) (taking : ℕ × ℕ) (later : Option (ℕ × ℕ)) → (if b then Some taking else later) ≡ None → (b ≡ false) × (later ≡ None)
on_bool true taking later e = absurd cc
on_bool false taking later e = (refl, e)

on_bool_some : (b : Bool) (taking found : ℕ × ℕ) (later more : Option (ℕ × ℕ)) → (later ≡ Some found → more ≡ Some found) → (if b then Some taking else later) ≡ Some found → (if b then Some taking else more) ≡ Some found
on_bool_some true taking found later more grows e = e
on_bool_some false taking found later more grows e = grows e

pub past_none : (limit : ℕ) (first second : List (ℕ × ℕ)) → first_past limit first ≡ None → first_past limit (first ++ second) ≡ first_past limit second
past_none limit [] second e = refl
past_none limit ((live, asked) ∷ first) second e =
    let parts : (nat_lt limit (live + asked) ≡ false) × (first_past limit first ≡ None) = on_bool (nat_lt limit (live + asked)) (live, asked) (first_past limit first) e in
    ap (λ b. if b then Some (live, asked) else first_past limit (first ++ second)) parts.0 ∙ past_none limit first second parts.1

pub past_some : (limit : ℕ) (found : ℕ × ℕ) (first second : List (ℕ × ℕ)) → first_past limit first ≡ Some found → first_past limit (first ++ second) ≡ Some found
past_some limit found [] second e = absurd cc
past_some limit found ((live, asked) ∷ first) second e =
    on_bool_some (nat_lt limit (live + asked)) (live, asked) found (first_past limit first) (first_past limit (first ++ second)) (past_some limit found first second) e

pub highest_both : (first second : List (ℕ × ℕ)) → highest (first ++ second) ≡ max (highest first) (highest second)
highest_both [] second = omega arith
highest_both ((live, asked) ∷ first) second = let more = highest_both first second in omega (arith, more)

-- buffers that are taken one after another are all live after the last
highest_piled : (live n : ℕ) (ns : List ℕ) → highest (piled live (n ∷ ns)) ≡ live + sum (n ∷ ns)
highest_piled live n [] = let first : sum (n ∷ []) ≡ n + 0 = sum_by-cons (λ x. x) n [] in omega (arith, first)
highest_piled live n (m ∷ ms) =
    let first : sum (n ∷ m ∷ ms) ≡ n + sum (m ∷ ms) = sum_by-cons (λ x. x) n (m ∷ ms) in
    let rest : highest (piled (live + n) (m ∷ ms)) ≡ live + n + sum (m ∷ ms) = highest_piled (live + n) m ms in
    omega (arith, first, rest)

-- the first that passes a limit is no more than the most that is live
abbrev or_taking : ℕ × ℕ → Option (ℕ × ℕ) → ℕ × ℕ
or_taking d None = d
or_taking d (Some t) = t

-- what is said of the first that passes a limit, by the test of one
abbrev IsPast : ℕ → ℕ → ℕ → ℕ → Type 0
IsPast limit before asked most = (limit < before + asked) × (before + asked ≤ most)

past_by : (limit live n before asked most : ℕ) (later : Option (ℕ × ℕ)) (b : Bool) → nat_lt limit (live + n) ≡ b → (later ≡ Some (before, asked) → IsPast limit before asked most) → (if b then Some (live, n) else later) ≡ Some (before, asked) →
    IsPast limit before asked (max (live + n) most)
past_by limit live n before asked most later true test rest is =
    let same : ◌≡◌ {A = ℕ × ℕ} (live, n) (before, asked) = ap (or_taking (live, n)) is in
    let one : live ≡ before = ap (λ (t : ℕ × ℕ). t.0) same in
    let two : n ≡ asked = ap (λ (t : ℕ × ℕ). t.1) same in
    let past : limit < live + n = grind (arith, nat_tests, test) in
    (omega (arith, one, two, past), omega (arith, one, two))
past_by limit live n before asked most later false test rest is = let both = rest is in (both.0, let high = both.1 in omega (arith, high))

pub past_high : (limit before asked : ℕ) (ts : List (ℕ × ℕ)) → first_past limit ts ≡ Some (before, asked) → IsPast limit before asked (highest ts)
past_high limit before asked [] e = absurd cc
past_high limit before asked ((live, n) ∷ ts) e = past_by limit live n before asked (highest ts) (first_past limit ts) (nat_lt limit (live + n)) refl (past_high limit before asked ts) e

-- ---- the buffers of the work

sum_cons : (n : ℕ) (ns : List ℕ) → sum (n ∷ ns) ≡ n + sum ns
sum_cons n ns = sum_by-cons (λ x. x) n ns

-- together they are the bound
pub sum_is_bound : (H n : ℕ) → sum (strict_buffers H n 1) ≡ buffer_bound H n 1
unfolding buffer_bound
sum_is_bound H n =
    let e : List ℕ = 65536 ∷ [] in
    let d : List ℕ = (8 * n + 64) ∷ e in
    let c : List ℕ = 8 * n ∷ d in
    let b : List ℕ = (8 * n + 64) ∷ c in
    let a : List ℕ = 8 * n ∷ b in
    let seven : sum e ≡ 65536 + 0 = sum_cons 65536 [] in
    let six : sum d ≡ 8 * n + 64 + sum e = sum_cons (8 * n + 64) e in
    let five : sum c ≡ 8 * n + sum d = sum_cons (8 * n) d in
    let four : sum b ≡ 8 * n + 64 + sum c = sum_cons (8 * n + 64) c in
    let three : sum a ≡ 8 * n + sum b = sum_cons (8 * n) b in
    let two : sum ((H + 2880) ∷ a) ≡ H + 2880 + sum a = sum_cons (H + 2880) a in
    let one : sum ((H + 2880) ∷ (H + 2880) ∷ a) ≡ H + 2880 + sum ((H + 2880) ∷ a) = sum_cons (H + 2880) ((H + 2880) ∷ a) in
    let all : sum (strict_buffers H n 1) ≡ sum ((H + 2880) ∷ (H + 2880) ∷ a) = refl in
    omega (arith, one, two, three, four, five, six, seven, all)

pub highest_buffers : (H n : ℕ) → highest (piled 0 (strict_buffers H n 1)) ≡ sum (strict_buffers H n 1)
highest_buffers H n = let all = highest_piled 0 (H + 2880) (strict_rest H n) in omega (arith, all)
  where
    strict_rest : ℕ → ℕ → List ℕ
    strict_rest H n = (H + 2880) ∷ 8 * n ∷ (8 * n + 64) ∷ 8 * n ∷ (8 * n + 64) ∷ 65536 ∷ []

block_within : (H n W : ℕ) → 2880 ≤ buffer_bound H n W
unfolding buffer_bound
block_within H n W = omega arith

-- ---- the look and the work

module _ (looks : UnpackLooksOver) (file : List ℕ) where
  look_is : look_takings file ≡ (0, 2880) ∷ header_takings Verify file
  look_is = ap (λ l. (0, 2880) ∷ l) (looks.takings 2880 file)

  all_takings : strict_takings file ≡ look_takings file ++ later_takings (header_fault Verify file) file
  all_takings = ap (λ l. l ++ later_takings (header_fault Verify file) file) (sym look_is)

  -- the look refused a header
  pub look_refused : (limit : ℕ) (x : Fault) → header_fault Verify file ≡ Some x → first_past limit (look_takings file) ≡ None → first_past limit (strict_takings file) ≡ None
  look_refused limit x fault none =
      ap (first_past limit) all_takings ∙ past_none limit (look_takings file) (later_takings (header_fault Verify file) file) none
      ∙ ap (λ f. first_past limit (later_takings f file)) fault

  -- or one of its takings passed the limit
  pub look_past : (limit live asked : ℕ) → first_past limit (look_takings file) ≡ Some (live, asked) → first_past limit (strict_takings file) ≡ Some (live, asked)
  look_past limit live asked past =
      ap (first_past limit) all_takings ∙ past_some limit (live, asked) (look_takings file) (later_takings (header_fault Verify file) file) past

  module _ (H n : ℕ) (learnt : HasLargest Verify H n file) where
    work_is : later_takings (header_fault Verify file) file ≡ piled 0 (strict_buffers H n 1)
    work_is = ap (λ f. later_takings f file) learnt.no_fault ∙ (λ i. piled 0 (strict_buffers (learnt.longest i) (learnt.largest i) 1))

    work_first : (limit : ℕ) → first_past limit (look_takings file) ≡ None → first_past limit (strict_takings file) ≡ first_past limit (piled 0 (strict_buffers H n 1))
    work_first limit none =
        ap (first_past limit) all_takings ∙ past_none limit (look_takings file) (later_takings (header_fault Verify file) file) none ∙ ap (first_past limit) work_is

    -- the work took all it asks for, or stopped at the first that passes the limit
    pub work_tells : {X : Type 0} (limit : ℕ) (r : Result X Stop) → first_past limit (look_takings file) ≡ None → TellsFirstPast limit (piled 0 (strict_buffers H n 1)) r → TellsFirstPast limit (strict_takings file) r
    work_tells limit (Ok x) none tells = work_first limit none ∙ tells
    work_tells limit (Err (Refused x)) none tells = work_first limit none ∙ tells
    work_tells limit (Err ReadFault) none tells = tt
    work_tells limit (Err WriteFault) none tells = work_first limit none ∙ tells
    work_tells limit (Err (OverLimit live asked told)) none tells = work_first limit none ∙ tells
    work_tells limit (Err NoMemory) none tells = tt

    work_highest : highest (strict_takings file) ≡ max (highest (look_takings file)) (sum (strict_buffers H n 1))
    work_highest =
        ap highest all_takings ∙ highest_both (look_takings file) (later_takings (header_fault Verify file) file)
        ∙ ap (λ l. max (highest (look_takings file)) (highest l)) work_is ∙ ap (max (highest (look_takings file))) (highest_buffers H n)

    pub work_reached : (old mid new : ℕ) → mid ≡ max old (highest (look_takings file)) → new ≡ max mid (sum (strict_buffers H n 1)) → new ≡ max old (highest (strict_takings file))
    work_reached old mid new look work = omega (arith, look, work, work_highest)

    bound_is : job_bound Verify file 1 ≡ buffer_bound H n 1
    bound_is = λ i. buffer_bound (learnt.longest i) (learnt.largest i) 1

    pub work_within : (old mid new : ℕ) → mid ≤ max old (job_bound Verify file 1) → new ≤ max mid (sum (strict_buffers H n 1)) → new ≤ max old (job_bound Verify file 1)
    work_within old mid new look work = omega (arith, look, work, sum_is_bound H n, bound_is)

  -- ---- all takings are within the bound

  -- what is taken of the law of the stages: the headers are
  pub look_highest : highest (survey_takings UnpackChecks 2880 file) ≤ job_bound Verify file 1 → highest (look_takings file) ≤ job_bound Verify file 1
  look_highest within =
      let block = block_within (longest_header Verify file) (largest_tile Verify file) 1 in
      omega (arith, within, block)

  later_within : (fault : Option Fault) → highest (later_takings fault file) ≤ job_bound Verify file 1
  later_within (Some x) = omega arith
  later_within None =
      let H : ℕ = longest_header Verify file in
      let n : ℕ = largest_tile Verify file in
      omega (arith, highest_buffers H n, sum_is_bound H n)

  pub all_within : highest (survey_takings UnpackChecks 2880 file) ≤ job_bound Verify file 1 → highest (strict_takings file) ≤ job_bound Verify file 1
  all_within within =
      let both : highest (strict_takings file) ≡ max (highest (look_takings file)) (highest (later_takings (header_fault Verify file) file)) =
      ap highest all_takings ∙ highest_both (look_takings file) (later_takings (header_fault Verify file) file) in
      let look = look_highest within in
      let later = later_within (header_fault Verify file) in
      omega (arith, both, look, later)
