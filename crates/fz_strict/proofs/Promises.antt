-- The promises of the call, by what its look at the headers and its comparison say.
use Rattle.std.proofs.Common.{◌≡◌, ℕ, ◌+◌, ◌^◌, ◌<◌, ◌≤◌, max, true, Bool, List, [], ◌∷◌, length, sum, refl, sym, ap, ◌∙◌, subst, arith}
use Rattle.std.specs.Prelude.{Option, Some, None, IfErr, IfOk, IfSome, IsErrOf, OnOk, Result, Ok, Err, ◌↔◌}
use Rattle.fz_base.specs.Counts.{Rose, Tally}
use Rattle.fz_base.specs.JobBuffers.{buffer_bound}
use Rattle.fz_base.specs.Stop.{IsDefined, IsRefused, ReadsAndTakes, StoppedTaking, TellsLimit}
use Rattle.fz_base.specs.Takings.{TellsFirstPast, first_past, highest, piled}
use Rattle.fz_base.specs.declared.fault.Fault.{Fault}
use Rattle.fz_base.specs.declared.failure.Stop.{Stop}
use Rattle.fz_base.specs.declared.failure.Stop.TheVariants.{Refused, ReadFault, WriteFault, OverLimit, NoMemory}
use Rattle.fz_block.specs.declared.header.Header.{Header}
use Rattle.fz_files.specs.Buffers.{job_bound}
use Rattle.fz_files.specs.FirstFault.{IsFaultBehind, IsFirstFault, IsFirstRowFault, all_rows}
use Rattle.fz_files.specs.Laws.{VerifyRefusesAsUnpack}
use Rattle.fz_files.specs.Walks.{header_fault}
use Rattle.fz_files.specs.declared.job.Job.TheVariants.{Unpack, Verify}
use Rattle.fz_job.specs.Clauses.{IsAnswer, TellsFirstFault, greatest_bound}
use Rattle.fz_job.specs.Known.{IsKnown, SurveysKnow, SurveysRefuse}
use Rattle.fz_job.specs.Ends.{PeaksStayWithin}
use Rattle.fz_job.specs.Stages.{HasLargest}
use Rattle.fz_job.specs.SurveyLaws.{UnpackLooksOver}
use Rattle.fz_job.specs.Surveys.{survey_takings, surveyed}
use Rattle.fz_job.specs.Workspace.{BoundGrows, PassesWithinAll}
use Rattle.fz_job.specs.declared.checks.JobChecks.TheVariants.{Unpack as UnpackChecks}
use Rattle.fz_job.specs.declared.survey.Survey.{Survey}
use Rattle.fz_strict.specs.Clauses.{AnswersStrict, HasStrictCause, IsStrictAsSaid, look_takings, strict_buffers, strict_takings}
use Rattle.fz_strict.specs.Laws.{FoundOptionsDoForEach}
use Rattle.fz_strict.specs.Rows.{ComparesFound, IsCompared}
use Rattle.fz_strict.specs.FoundOptions.{found_options}
use Rattle.fz_strict.proofs.Outcomes.{told_weaker}
use Rattle.fz_strict.proofs.Takings.{all_within, look_highest, look_past, look_refused, past_high, sum_is_bound, work_reached, work_tells, work_within}

-- the first look knows this of the file
abbrev pub Knows : Survey → List ℕ → Type 0
Knows s g = surveyed UnpackChecks g ≡ Ok s

-- ---- whether the file is strict

right_by : FoundOptionsDoForEach → (g : List ℕ) (s : Survey) (known : IsKnown Unpack g s) (r : Result Bool Stop) → IsCompared (found_options g) g known.headers r → IfOk r (λ same. IsStrictAsSaid same g)
right_by law g s known (Ok same) is = (λ e. (law g).1 (is.1.0 e), λ strict. is.1.1 ((law g).0 strict))
right_by law g s known (Err stop) is = tt

ok_told : (g : List ℕ) (r : Result Bool Stop) → IfOk r (λ same. IsStrictAsSaid same g) → IfOk r (λ same. IfSome (Some g) (IsStrictAsSaid same))
ok_told g (Ok same) is = is
ok_told g (Err stop) is = tt

pub work_right : SurveysKnow Unpack → FoundOptionsDoForEach → (s : Survey) (held : Option (List ℕ)) (r : Result Bool Stop) → IfSome held (Knows s) → IfSome held (λ g. ComparesFound g s r) → IfOk r (λ same. IfSome held (IsStrictAsSaid same))
work_right know law s None (Ok same) exact is = tt
work_right know law s None (Err stop) exact is = tt
work_right know law s (Some g) r exact is = let known = know g s exact in ok_told g r (right_by law g s known r (is known))

-- ---- the first fault

rows_fault : VerifyRefusesAsUnpack → (g : List ℕ) (s : Survey) (known : IsKnown Unpack g s) (fault : Option Fault) → IsFirstRowFault g (all_rows g known.headers) fault → IsFirstFault Verify g fault
rows_fault law g s known fault rows =
    let those : IsFaultBehind None Unpack g fault = subst (λ (hs : List Header). IsFirstRowFault g (all_rows g hs) fault) (sym known.are) rows in
    (law g fault).1 (subst (λ (f : Option Fault). IsFaultBehind f Unpack g fault) (sym known.no_fault) those)

fault_by : VerifyRefusesAsUnpack → (g : List ℕ) (s : Survey) (known : IsKnown Unpack g s) (r : Result Bool Stop) → IsCompared (found_options g) g known.headers r → TellsFirstFault Verify (Some g) r
fault_by law g s known (Ok same) is = rows_fault law g s known None is.0
fault_by law g s known (Err (Refused x)) is = rows_fault law g s known (Some x) is
fault_by law g s known (Err ReadFault) is = tt
fault_by law g s known (Err WriteFault) is = tt
fault_by law g s known (Err (OverLimit live asked limit)) is = tt
fault_by law g s known (Err NoMemory) is = tt

untold : (r : Result Bool Stop) → TellsFirstFault Verify None r
untold (Ok same) = tt
untold (Err (Refused x)) = tt
untold (Err ReadFault) = tt
untold (Err WriteFault) = tt
untold (Err (OverLimit live asked limit)) = tt
untold (Err NoMemory) = tt

pub work_faulty : SurveysKnow Unpack → VerifyRefusesAsUnpack → (s : Survey) (held : Option (List ℕ)) (r : Result Bool Stop) → IfSome held (Knows s) → IfSome held (λ g. ComparesFound g s r) → TellsFirstFault Verify held r
work_faulty know law s None r exact is = untold r
work_faulty know law s (Some g) r exact is = let known = know g s exact in fault_by law g s known r (is known)

header_faulty : (g : List ℕ) (x : Fault) → header_fault Verify g ≡ Some x → IsFirstFault Verify g (Some x)
header_faulty g x is = subst (λ (f : Option Fault). IsFaultBehind f Verify g (Some x)) (sym is) refl

pub look_faulty : SurveysRefuse Verify → (held : Option (List ℕ)) (stop : Stop) → IfSome held (λ g. IsDefined {X = Survey} (surveyed UnpackChecks g) (Err stop)) → TellsFirstFault {X = Bool} Verify held (Err stop)
look_faulty refuse None (Refused x) exact = tt
look_faulty refuse (Some g) (Refused x) exact = header_faulty g x (refuse g x exact)
look_faulty refuse held ReadFault exact = tt
look_faulty refuse held WriteFault exact = tt
look_faulty refuse held (OverLimit live asked limit) exact = tt
look_faulty refuse held NoMemory exact = tt

-- ---- the first taking that passes the limit

pub learnt : SurveysKnow Verify → (s : Survey) (held : Option (List ℕ)) → IfSome held (Knows s) → IfSome held (HasLargest Verify s.header_len s.tile)
learnt know s None exact = tt
learnt know s (Some g) exact = let known = know g s exact in record { no_fault = known.no_fault; longest = known.longest; largest = known.largest }

look_stop : UnpackLooksOver → SurveysRefuse Verify → (g : List ℕ) (before now : Tally) (limit : ℕ) (stop : Stop) → StoppedTaking before now limit stop → IsDefined {X = Survey} (surveyed UnpackChecks g) (Err stop) →
    TellsFirstPast {X = Survey} limit (look_takings g) (Err stop) → TellsFirstPast {X = Bool} limit (strict_takings g) (Err stop)
look_stop looks refuse g before now limit (Refused x) why exact tells = look_refused looks g limit x (refuse g x exact) tells
look_stop looks refuse g before now limit ReadFault why exact tells = tt
look_stop looks refuse g before now limit WriteFault why exact tells = absurd why
look_stop looks refuse g before now limit (OverLimit live asked told) why exact tells = look_past looks g limit live asked tells
look_stop looks refuse g before now limit NoMemory why exact tells = tt

pub look_tells : UnpackLooksOver → SurveysRefuse Verify → (held : Option (List ℕ)) (before now : Tally) (limit : ℕ) (stop : Stop) → StoppedTaking before now limit stop → IfSome held (λ g. IsDefined {X = Survey} (surveyed UnpackChecks g) (Err stop)) →
    IfSome held (λ g. TellsFirstPast {X = Survey} limit (look_takings g) (Err stop)) → IfSome held (λ g. TellsFirstPast {X = Bool} limit (strict_takings g) (Err stop))
look_tells looks refuse None before now limit stop why exact tells = tt
look_tells looks refuse (Some g) before now limit stop why exact tells = look_stop looks refuse g before now limit stop why exact tells

pub compare_tells : UnpackLooksOver → (held : Option (List ℕ)) (H n limit : ℕ) (r : Result Bool Stop) → IfSome held (HasLargest Verify H n) → IfSome held (λ g. first_past limit (look_takings g) ≡ None) → TellsFirstPast limit (piled 0 (strict_buffers H n 1)) r →
    IfSome held (λ g. TellsFirstPast limit (strict_takings g) r)
compare_tells looks None H n limit r largest none tells = tt
compare_tells looks (Some g) H n limit r largest none tells = work_tells looks g H n largest limit r none tells

-- ---- why it ended

refused_by : {X : Type 0} (before now : Tally) (limit : ℕ) (r : Result X Stop) → ReadsAndTakes before now limit r → IsRefused r → now ≡ before
refused_by before now limit (Ok x) takes is = absurd cc
refused_by before now limit (Err (Refused x)) takes is = takes.stop
refused_by before now limit (Err ReadFault) takes is = absurd cc
refused_by before now limit (Err WriteFault) takes is = absurd cc
refused_by before now limit (Err (OverLimit live asked told)) takes is = absurd cc
refused_by before now limit (Err NoMemory) takes is = absurd cc

read_by : {X : Type 0} (before now : Tally) (limit : ℕ) (r : Result X Stop) → ReadsAndTakes before now limit r → IsErrOf r ReadFault → Rose before.faults now.faults
read_by before now limit (Ok x) takes is = absurd cc
read_by before now limit (Err (Refused x)) takes is = absurd cc
read_by before now limit (Err ReadFault) takes is = takes.stop
read_by before now limit (Err WriteFault) takes is = absurd cc
read_by before now limit (Err (OverLimit live asked told)) takes is = absurd cc
read_by before now limit (Err NoMemory) takes is = absurd cc

write_by : {X : Type 0} (before now : Tally) (limit : ℕ) (r : Result X Stop) → ReadsAndTakes before now limit r → IsErrOf r WriteFault → ⊥
write_by before now limit (Ok x) takes is = absurd cc
write_by before now limit (Err (Refused x)) takes is = absurd cc
write_by before now limit (Err ReadFault) takes is = absurd cc
write_by before now limit (Err WriteFault) takes is = takes.stop
write_by before now limit (Err (OverLimit live asked told)) takes is = absurd cc
write_by before now limit (Err NoMemory) takes is = absurd cc

pub cause_of : {X : Type 0} (held : Option (List ℕ)) (before now : Tally) (limit : ℕ) (r : Result X Stop) → ReadsAndTakes before now limit r → TellsLimit limit (greatest_bound Verify 1) r →
    IfSome held (λ g. TellsFirstPast limit (strict_takings g) r) → (limit < 2880 → IsErrOf r (OverLimit 0 2880 limit) × (now ≡ before)) → HasStrictCause held before now limit r
cause_of held before now limit r takes most past block = record {
  done = takes.ok;
  refused = refused_by before now limit r takes;
  read_fault = read_by before now limit r takes;
  write_fault = write_by before now limit r takes;
  over_limit = most;
  first_past = past;
  block = block;
}

-- ---- the answer

answer_by : {X : Type 0} (g : List ℕ) (before now : Tally) (limit : ℕ) (r : Result X Stop) → highest (strict_takings g) ≤ job_bound Verify g 1 → HasStrictCause (Some g) before now limit r → (Rose before.faults now.faults → ⊥) → job_bound Verify g 1 ≤ limit → IsAnswer r
answer_by g before now limit (Ok x) within cause none enough = tt
answer_by g before now limit (Err (Refused x)) within cause none enough = tt
answer_by g before now limit (Err ReadFault) within cause none enough = absurd (none (cause.read_fault refl))
answer_by g before now limit (Err WriteFault) within cause none enough = absurd (cause.write_fault refl)
answer_by g before now limit (Err (OverLimit live asked told)) within cause none enough =
    let high = past_high limit live asked (strict_takings g) cause.first_past in
    let past = high.0 in
    let most = high.1 in
    absurd (omega (arith, past, most, within, enough))
answer_by g before now limit (Err NoMemory) within cause none enough = tt

pub answers : {X : Type 0} (held : Option (List ℕ)) (before now : Tally) (limit : ℕ) (r : Result X Stop) → IfSome held (λ g. highest (strict_takings g) ≤ job_bound Verify g 1) → HasStrictCause held before now limit r → AnswersStrict held before now limit r
answers None before now limit r within cause = λ none. tt
answers (Some g) before now limit r within cause = λ none. λ enough. answer_by g before now limit r within cause none enough

-- ---- bounds

-- the takings of headers are within the bound
pub headers_within : PeaksStayWithin → (held : Option (List ℕ)) → IfSome held (λ g. highest (survey_takings UnpackChecks 2880 g) ≤ job_bound Verify g 1)
headers_within peaks None = tt
headers_within peaks (Some g) =
    let high : ℕ = highest (survey_takings UnpackChecks 2880 g) in
    let most : high ≤ max 0 (job_bound Verify g 1) = peaks.look Verify UnpackChecks (Some g) 1 2880 0 high refl refl (omega arith) in
    omega (arith, most)

-- a look that was done was not stopped by its block
pub never_ok : (X : Type 0) (limit : ℕ) (x : X) (Same : Type 0) → (limit < 2880 → IsErrOf (Ok x) (OverLimit 0 2880 limit) × Same) → limit < 2880 → ⊥
never_ok X limit x Same block low = let never : ◌≡◌ {A = Result X Stop} (Ok x) (Err (OverLimit 0 2880 limit)) = (block low).0 in absurd cc

-- all takings are within the bound, since those of headers are
pub takings_within : UnpackLooksOver → (held : Option (List ℕ)) → IfSome held (λ g. highest (survey_takings UnpackChecks 2880 g) ≤ job_bound Verify g 1) → IfSome held (λ g. highest (strict_takings g) ≤ job_bound Verify g 1)
takings_within looks held within = told_weaker held (λ g. highest (survey_takings UnpackChecks 2880 g) ≤ job_bound Verify g 1) (λ g. highest (strict_takings g) ≤ job_bound Verify g 1) (λ g is. all_within looks g is) within

pub look_within : UnpackLooksOver → (held : Option (List ℕ)) (old new : ℕ) → IfSome held (λ g. highest (survey_takings UnpackChecks 2880 g) ≤ job_bound Verify g 1) → IfSome held (λ g. new ≤ max old (highest (look_takings g))) →
    IfSome held (λ g. new ≤ max old (job_bound Verify g 1))
look_within looks None old new within low = tt
look_within looks (Some g) old new within low = let most = look_highest looks g within in omega (arith, most, low)

pub compare_within : UnpackLooksOver → (held : Option (List ℕ)) (H n old mid new : ℕ) → IfSome held (HasLargest Verify H n) → IfSome held (λ g. mid ≤ max old (job_bound Verify g 1)) → new ≤ max mid (sum (strict_buffers H n 1)) →
    IfSome held (λ g. new ≤ max old (job_bound Verify g 1))
compare_within looks None H n old mid new largest look work = tt
compare_within looks (Some g) H n old mid new largest look work = work_within looks g H n largest old mid new look work

pub compare_reached : UnpackLooksOver → (held : Option (List ℕ)) (H n old mid new : ℕ) → IfSome held (HasLargest Verify H n) → IfSome held (λ g. mid ≡ max old (highest (look_takings g))) → new ≡ max mid (sum (strict_buffers H n 1)) →
    IfSome held (λ g. new ≡ max old (highest (strict_takings g)))
compare_reached looks None H n old mid new largest look work = tt
compare_reached looks (Some g) H n old mid new largest look work = work_reached looks g H n largest old mid new look work

pub buffers_most : BoundGrows → (H n : ℕ) → H ≤ 737280 → n ≤ 2 ^ 26 → sum (strict_buffers H n 1) ≤ greatest_bound Verify 1
buffers_most grows H n short few = let more = grows H 737280 n (2 ^ 26) 1 short few in omega (arith, more, sum_is_bound H n)

pub compare_limit : PassesWithinAll → {X : Type 0} (before now : Tally) (limit most : ℕ) (buffers : List ℕ) (r : Result X Stop) → sum buffers ≤ most → ReadsAndTakes before now limit r → TellsFirstPast limit (piled 0 buffers) r → TellsLimit limit most r
compare_limit law before now limit most buffers (Ok x) within takes tells = tt
compare_limit law before now limit most buffers (Err (Refused x)) within takes tells = tt
compare_limit law before now limit most buffers (Err ReadFault) within takes tells = tt
compare_limit law before now limit most buffers (Err WriteFault) within takes tells = tt
compare_limit law before now limit most buffers (Err (OverLimit live asked told)) within takes tells =
    let all = law limit 0 live asked buffers tells in
    let last = all.1 in
    (takes.stop.0, takes.stop.1, omega (arith, last, within))
compare_limit law before now limit most buffers (Err NoMemory) within takes tells = tt

pub tells_more : (X Y : Type 0) (limit most more : ℕ) (stop : Stop) → most ≤ more → TellsLimit {X = X} limit most (Err stop) → TellsLimit {X = Y} limit more (Err stop)
tells_more X Y limit most more (Refused x) less tells = tt
tells_more X Y limit most more ReadFault less tells = tt
tells_more X Y limit most more WriteFault less tells = tt
tells_more X Y limit most more (OverLimit live asked told) less tells = let past = tells.2 in (tells.0, tells.1, omega (arith, past, less))
tells_more X Y limit most more NoMemory less tells = tt

pub takes_other : {X Y : Type 0} (before now : Tally) (limit : ℕ) (stop : Stop) → ReadsAndTakes {X = X} before now limit (Err stop) → ReadsAndTakes {X = Y} before now limit (Err stop)
takes_other before now limit stop takes = record { kept = takes.kept; ok = tt; stop = takes.stop }

-- what a limit below the first block decides is the same of every kind of answer
pub block_other : (X Y : Type 0) (limit : ℕ) (stop : Stop) (Same : Type 0) → (limit < 2880 → IsErrOf {T = X} (Err stop) (OverLimit 0 2880 limit) × Same) → limit < 2880 → IsErrOf {T = Y} (Err stop) (OverLimit 0 2880 limit) × Same
block_other X Y limit stop Same block low =
    let both = block low in
    let is : ◌≡◌ {A = Result X Stop} (Err stop) (Err (OverLimit 0 2880 limit)) = both.0 in
    let same : stop ≡ OverLimit 0 2880 limit = cc in
    (λ i. Err (same i), both.1)
