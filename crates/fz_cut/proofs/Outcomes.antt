-- What the job promises that does not touch its sink, and what the look at the headers tells of its end.
use Rattle.std.proofs.Common.{◌≡◌, ◌⊎◌, inl, ℕ, ◌≤◌, max, List, [], ◌∷◌, arith, subst, sym, refl}
use Rattle.std.specs.Prelude.{Option, Some, None, IfErr, IfSome, Result, Ok, Err, IsSome, OnOk}
use Rattle.fz_base.specs.Counts.{Tally, CountsKept}
use Rattle.fz_base.specs.FirstByte.{IsShut}
use Rattle.fz_base.specs.Stop.{IfRefused, IsDefined, stop_of_short}
use Rattle.fz_base.specs.Takings.{first_past, piled}
use Rattle.fz_base.specs.declared.fault.Fault.{Fault}
use Rattle.fz_base.specs.declared.failure.Short.{Short}
use Rattle.fz_base.specs.declared.failure.Short.TheVariants.{NoMemory as NoRoom, OverLimit as PastLimit}
use Rattle.fz_base.specs.declared.failure.Stop.{Stop}
use Rattle.fz_base.specs.declared.failure.Stop.TheVariants.{Refused, ReadFault, WriteFault, OverLimit, NoMemory}
use Rattle.fz_block.specs.declared.header.Header.{Header}
use Rattle.fz_grid.specs.declared.sieve.Sieve.{Sieve}
use Rattle.fz_files.specs.Walks.{box_of, header_fault}
use Rattle.fz_files.specs.declared.job.Job.{Job}
use Rattle.fz_files.specs.declared.job.Job.TheVariants.{Cut}
use Rattle.fz_job.specs.Surveys.{cut_surveyed}
use Rattle.fz_job.specs.declared.survey.Survey.{Survey}
use Rattle.fz_job.specs.Clauses.{ComesLate, IfOverLimit, IsShutOrWhole, StaysUnmade, TellsFirstFault}
use Rattle.fz_job.specs.Keeps.{StoppedRewriting}
use Rattle.fz_job.specs.Stages.{TellsHeaderFault}
use Rattle.fz_cut.specs.Known.{SurveysRefuse}
use Rattle.fz_cut.specs.Written.{FinishesSeen, IsShutOrPart}

-- ---- facts that hold whatever the answer

pub always : (held : Option (List ℕ)) (P : List ℕ → Type 0) → ((g : List ℕ) → P g) → IfSome held P
always None P is = tt
always (Some g) P is = is g

pub peak_stays : (held : Option (List ℕ)) (bound : List ℕ → ℕ) (old new : ℕ) → new ≡ old → IfSome held (λ g. new ≤ max old (bound g))
peak_stays held bound old new same = always held (λ g. new ≤ max old (bound g)) (λ g. omega (arith, same))

pub kept_same : (t : Tally) → CountsKept t t
kept_same t = record { faults_kept = omega arith; wants_kept = omega arith; faults_stay = λ end. end; wants_stay = λ end. end; names_kept = refl; not_amended = refl }

pub if_over : {X : Type 0} (r : Result X Stop) (P : Type 0) → P → IfOverLimit r P
if_over (Ok x) P is = tt
if_over (Err (Refused x)) P is = tt
if_over (Err ReadFault) P is = tt
if_over (Err WriteFault) P is = tt
if_over (Err (OverLimit live asked limit)) P is = is
if_over (Err NoMemory) P is = tt

pub if_refused : {X : Type 0} (r : Result X Stop) (P : Fault → Type 0) → ((x : Fault) → P x) → IfRefused r P
if_refused (Ok x) P is = tt
if_refused (Err (Refused x)) P is = is x
if_refused (Err ReadFault) P is = tt
if_refused (Err WriteFault) P is = tt
if_refused (Err (OverLimit live asked limit)) P is = tt
if_refused (Err NoMemory) P is = tt

pub refused_weaker : {X : Type 0} (r : Result X Stop) {P Q : Fault → Type 0} → ((x : Fault) → P x → Q x) → IfRefused r P → IfRefused r Q
refused_weaker (Ok x) weaker is = tt
refused_weaker (Err (Refused x)) weaker is = weaker x is
refused_weaker (Err ReadFault) weaker is = tt
refused_weaker (Err WriteFault) weaker is = tt
refused_weaker (Err (OverLimit live asked limit)) weaker is = tt
refused_weaker (Err NoMemory) weaker is = tt

pub ok_always : {X : Type 0} (r : Result X Stop) (P : Type 0) → P → OnOk r P
ok_always (Ok x) P is = is
ok_always (Err stop) P is = tt

pub ok_weaker : {X : Type 0} (r : Result X Stop) {P Q : Type 0} → (P → Q) → OnOk r P → OnOk r Q
ok_weaker (Ok x) weaker is = weaker is
ok_weaker (Err stop) weaker is = tt

-- buffers that were all given pass no limit
pub none_passed : (P : Type 0) (first : Option (ℕ × ℕ)) → first ≡ None → IsSome first → P
none_passed P first none some = let never : IsSome {T = ℕ × ℕ} None = subst IsSome none some in absurd cc

-- the same limit, and as many bytes that are live
pub past_at : (limit limit' live live' : ℕ) (buffers : List ℕ) (Same : Type 0) → limit ≡ limit' → live ≡ live' → (IsSome (first_past limit (piled live buffers)) → Same) → IsSome (first_past limit' (piled live' buffers)) → Same
past_at limit limit' live live' buffers Same one two is = λ some.
    is (subst (λ (n : ℕ). IsSome (first_past n (piled live buffers))) (sym one) (subst (λ (n : ℕ). IsSome (first_past limit' (piled n buffers))) (sym two) some))

-- what holds if one of the last takings passes the limit holds if one of all does
pub past_by : (held : Option (List ℕ)) (first : List ℕ → Option (ℕ × ℕ)) (last : Option (ℕ × ℕ)) (Same : Type 0) → IfSome held (λ g. first g ≡ last) → (IsSome last → Same) → IfSome held (λ g. IsSome (first g) → Same)
past_by None first last Same passes is = tt
past_by (Some g) first last Same passes is = λ some. is (subst IsSome passes some)

past_same : (held : Option (List ℕ)) (first last : List ℕ → Option (ℕ × ℕ)) (Same : Type 0) → IfSome held (λ g. first g ≡ last g) → IfSome held (λ g. IsSome (last g) → Same) → IfSome held (λ g. IsSome (first g) → Same)
past_same None first last Same passes is = tt
past_same (Some g) first last Same passes is = λ some. is (subst IsSome passes some)

pub all_unmade : {X : Type 0} (job : Job) (held : Option (List ℕ)) (limit : ℕ) (all later : List ℕ → List (ℕ × ℕ)) (Same : Type 0) (r : Result X Stop) → IfSome held (λ g. first_past limit (all g) ≡ first_past limit (later g)) →
    StaysUnmade job held limit later Same r → StaysUnmade job held limit all Same r
all_unmade job held limit all later Same r passes is = record {
  faulty = is.faulty;
  past = past_same held (λ g. first_past limit (all g)) (λ g. first_past limit (later g)) Same passes is.past;
  over_limit = is.over_limit;
  refused = is.refused;
}

-- what takes no buffers passes no limit
pub rewrite_over : {X : Type 0} (source source' sink sink' : Tally) (r : Result X Stop) (P : Type 0) → IfErr r (StoppedRewriting source source' sink sink') → IfOverLimit r P
rewrite_over source source' sink sink' (Ok x) P why = tt
rewrite_over source source' sink sink' (Err (Refused x)) P why = tt
rewrite_over source source' sink sink' (Err ReadFault) P why = tt
rewrite_over source source' sink sink' (Err WriteFault) P why = tt
rewrite_over source source' sink sink' (Err (OverLimit live asked told)) P why = absurd why
rewrite_over source source' sink sink' (Err NoMemory) P why = tt

-- ---- a sink that was not touched, and is empty

shut_empty : (contents : Option (List ℕ)) → IfSome contents (λ c. c ≡ []) → IsShut contents
shut_empty None empty = tt
shut_empty (Some []) empty = tt
shut_empty (Some (b ∷ bytes)) empty = absurd cc

pub untouched_shut : {X : Type 0} (contents : Option (List ℕ)) (Whole : Type 0) (r : Result X Stop) → IfSome contents (λ c. c ≡ []) → IsShutOrWhole contents Whole r
untouched_shut contents Whole (Ok x) empty = tt
untouched_shut contents Whole (Err stop) empty = inl (shut_empty contents empty)

pub untouched_unmade : {X : Type 0} (job : Job) (held : Option (List ℕ)) (limit : ℕ) (takings : List ℕ → List (ℕ × ℕ)) (Same : Type 0) (r : Result X Stop) → Same → StaysUnmade job held limit takings Same r
untouched_unmade job held limit takings Same r is = record {
  faulty = always held (λ file. ¬ (header_fault job file ≡ None) → Same) (λ g faulty. is);
  past = always held (λ file. IsSome (first_past limit (takings file)) → Same) (λ g some. is);
  over_limit = if_over r Same is;
  refused = if_refused r (λ x. Same ⊎ ComesLate job x) (λ x. inl is);
}

-- buffers that were not given
pub short_unwritten : (X : Type 0) (sieve : Sieve) (held : Option (List ℕ)) (most tile : ℕ) (h : Header) (now : Option (List ℕ)) (short : Short) → IfSome held (λ g. FinishesSeen {X = X} g sieve most tile h now (Err (stop_of_short short)))
short_unwritten X sieve held most tile h now short = always held (λ g. FinishesSeen {X = X} g sieve most tile h now (Err (stop_of_short short))) (λ g. unwritten g short)
  where
    unwritten : (g : List ℕ) (short : Short) → FinishesSeen {X = X} g sieve most tile h now (Err (stop_of_short short))
    unwritten g NoRoom = record { part = λ is. tt; sound = λ is. tt; first_fault = λ is. tt }
    unwritten g (PastLimit live asked limit) = record { part = λ is. tt; sound = λ is. tt; first_fault = λ is. tt }

pub short_shut : {X : Type 0} (sieve : Sieve) (held : Option (List ℕ)) (most tile : ℕ) (h : Header) (now : Option (List ℕ)) (r : Result X Stop) → IfSome now (λ c. c ≡ []) → IsShutOrPart held sieve most tile h now r
short_shut sieve held most tile h now (Ok x) empty = tt
short_shut sieve held most tile h now (Err stop) empty = inl (shut_empty now empty)

pub short_untold : (X : Type 0) (job : Job) (held : Option (List ℕ)) (short : Short) → TellsFirstFault {X = X} job held (Err (stop_of_short short))
short_untold X job held NoRoom = tt
short_untold X job held (PastLimit live asked limit) = tt

-- ---- the look at the headers

-- a file that it refuses has that fault
pub look_refused : SurveysRefuse → (want : Option ℕ) (sieve : Sieve) (held : Option (List ℕ)) (stop : Stop) → IfSome held (λ g. IsDefined {X = Survey} (cut_surveyed want (box_of sieve) g) (Err stop)) → TellsHeaderFault (Cut want sieve) held stop
look_refused refuse want sieve held (Refused x) exact = by_held held exact
  where
    by_held : (told : Option (List ℕ)) → IfSome told (λ g. cut_surveyed want (box_of sieve) g ≡ Err x) → IfSome told (λ g. header_fault (Cut want sieve) g ≡ Some x)
    by_held None is = tt
    by_held (Some g) is = refuse want sieve g x is
look_refused refuse want sieve held ReadFault exact = tt
look_refused refuse want sieve held WriteFault exact = tt
look_refused refuse want sieve held (OverLimit live asked limit) exact = tt
look_refused refuse want sieve held NoMemory exact = tt
