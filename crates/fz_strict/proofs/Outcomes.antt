-- What the stages of the call make of its promises: the block and the look at the headers, the buffers, and the comparison.
use Rattle.std.proofs.Common.{◌≡◌, ℕ, ◌+◌, ◌<◌, ◌≤◌, max, true, false, nat_lt, Bool, List, [], ◌∷◌, ◌++◌, drop, length, sum, refl, sym, ap, ◌∙◌, subst, arith}
use Rattle.std.specs.Prelude.{Option, Some, None, IfErr, IfOk, IfSome, IsErrOf, OnOk, Result, Ok, Err, ◌↔◌, if◌then◌else◌}
use Rattle.std.proofs.lemmas.Bool.Decides.{nat_tests}
use Rattle.std.proofs.lemmas.List.{length-append, length-drop, length-take}
use Rattle.std.proofs.lemmas.List.Sums.{sum_by-cons}
use Rattle.fz_base.specs.Buffer.{refilled}
use Rattle.fz_base.specs.Counts.{CountsKept, Rose, Tally}
use Rattle.fz_base.specs.JobBuffers.{buffer_bound}
use Rattle.fz_base.specs.Meter.{Gauge, RefusedFor}
use Rattle.fz_base.specs.Stop.{IfRefused, IsDefined, IsRefused, ReadsAndTakes, StoppedTaking, TellsLimit, stop_of_short}
use Rattle.fz_base.specs.Takings.{TellsFirstPast, TellsShort, first_past, highest, piled}
use Rattle.fz_base.specs.declared.fault.Fault.{Fault}
use Rattle.fz_base.specs.declared.failure.Short.{Short}
use Rattle.fz_base.specs.declared.failure.Short.TheVariants.{NoMemory as NoRoom, OverLimit as PastLimit}
use Rattle.fz_base.specs.declared.failure.Stop.{Stop}
use Rattle.fz_base.specs.declared.failure.Stop.TheVariants.{Refused, ReadFault, WriteFault, OverLimit, NoMemory}
use Rattle.fz_fetch.specs.Stops.{Fetches, StoppedFetching}
use Rattle.fz_job.specs.Takes.{TellsTheLimit}
use Rattle.fz_job.specs.declared.survey.Survey.{Survey}
use Rattle.fz_job.specs.declared.workspace.Workspace.{Workspace}
use Rattle.fz_strict.specs.Rows.{ComparesFound, ComparesSeen}

-- ---- facts that hold whatever the answer

pub always : (held : Option (List ℕ)) (P : List ℕ → Type 0) → ((g : List ℕ) → P g) → IfSome held P
always None P is = tt
always (Some g) P is = is g

pub told_weaker : (held : Option (List ℕ)) (P Q : List ℕ → Type 0) → ((g : List ℕ) → P g → Q g) → IfSome held P → IfSome held Q
told_weaker None P Q weaker is = tt
told_weaker (Some g) P Q weaker is = weaker g is

pub both_told : (held : Option (List ℕ)) (P Q R : List ℕ → Type 0) → ((g : List ℕ) → P g → Q g → R g) → IfSome held P → IfSome held Q → IfSome held R
both_told None P Q R both p q = tt
both_told (Some g) P Q R both p q = both g p q

pub ok_weaker : {X : Type 0} (r : Result X Stop) {P Q : Type 0} → (P → Q) → OnOk r P → OnOk r Q
ok_weaker (Ok x) weaker is = weaker is
ok_weaker (Err stop) weaker is = tt

pub ok_always : {X : Type 0} (r : Result X Stop) (P : Type 0) → P → OnOk r P
ok_always (Ok x) P is = is
ok_always (Err stop) P is = tt

pub kept_same : (t : Tally) → CountsKept t t
kept_same t = record { faults_kept = omega arith; wants_kept = omega arith; faults_stay = λ end. end; wants_stay = λ end. end; names_kept = refl; not_amended = refl }

-- a buffer that was lent is as long as before
pub refilled_len : (old lent : List ℕ) → length (refilled old lent) ≡ length old
refilled_len old lent =
    omega (arith, length-take (length old) (lent ++ drop (length lent) old), length-append lent (drop (length lent) old), length-drop (length lent) old)

pub sum_more : (n : ℕ) (ns : List ℕ) → sum (n ∷ ns) ≡ n + sum ns
sum_more n ns = sum_by-cons (λ x. x) n ns

-- ---- a buffer was not given

pub short_defined : {X : Type 0} (spec : Result X Fault) (short : Short) → IsDefined spec (Err (stop_of_short short))
short_defined spec NoRoom = tt
short_defined spec (PastLimit live asked limit) = tt

pub short_compared : (file : List ℕ) (s : Survey) (short : Short) → ComparesFound file s (Err (stop_of_short short))
short_compared file s NoRoom = λ known. tt
short_compared file s (PastLimit live asked limit) = λ known. tt

pub if_refused : {X : Type 0} (P : Fault → Type 0) (r : Result X Stop) → ((x : Fault) → P x) → IfRefused r P
if_refused P (Ok x) all = tt
if_refused P (Err (Refused x)) all = all x
if_refused P (Err ReadFault) all = tt
if_refused P (Err WriteFault) all = tt
if_refused P (Err (OverLimit live asked limit)) all = tt
if_refused P (Err NoMemory) all = tt

pub refused_weaker : {X : Type 0} {P Q : Fault → Type 0} (r : Result X Stop) → ((x : Fault) → P x → Q x) → IfRefused r P → IfRefused r Q
refused_weaker (Ok x) f p = tt
refused_weaker (Err (Refused x)) f p = f x p
refused_weaker (Err ReadFault) f p = tt
refused_weaker (Err WriteFault) f p = tt
refused_weaker (Err (OverLimit live asked limit)) f p = tt
refused_weaker (Err NoMemory) f p = tt

pub short_refuses : (X : Type 0) (P : Fault → Type 0) (short : Short) → IfRefused {X = X} (Err (stop_of_short short)) P
short_refuses X P NoRoom = tt
short_refuses X P (PastLimit live asked limit) = tt

pub short_takes : {X : Type 0} (t : Tally) (limit : ℕ) (short : Short) → TellsTheLimit limit short → ReadsAndTakes {X = X} t t limit (Err (stop_of_short short))
short_takes t limit NoRoom told = record { kept = kept_same t; ok = tt; stop = tt }
short_takes t limit (PastLimit live asked told_limit) told = record { kept = kept_same t; ok = tt; stop = told }

-- why one buffer was not given
pub refused_tells : (m : Gauge) (n : ℕ) (short : Short) → RefusedFor m n short → TellsTheLimit m.limit short
refused_tells m n NoRoom why = tt
refused_tells m n (PastLimit live asked told) why =
    let past = why.0 in
    let one = why.1 in
    let two = why.2 in
    (why.3, omega (arith, past, one, two))

-- it is the first taking that passes the limit
pub short_past : (X : Type 0) (m : Gauge) (n : ℕ) (more : List (ℕ × ℕ)) (short : Short) → RefusedFor m n short → TellsFirstPast {X = X} m.limit ((m.live, n) ∷ more) (Err (stop_of_short short))
short_past X m n more NoRoom why = tt
short_past X m n more (PastLimit live asked told) why =
    let past = why.0 in
    let test : nat_lt m.limit (m.live + n) ≡ true = grind (arith, nat_tests, past) in
    ap (λ (b : Bool). if b then Some (m.live, n) else first_past m.limit more) test ∙ (λ i. Some (sym why.1 i, sym why.2 i))

-- and no more than the greatest that may be asked
pub short_limit : (X : Type 0) (m : Gauge) (n most : ℕ) (short : Short) → m.live + n ≤ most → RefusedFor m n short → TellsLimit {X = X} m.limit most (Err (stop_of_short short))
short_limit X m n most NoRoom within why = tt
short_limit X m n most (PastLimit live asked told) within why =
    let past = why.0 in
    let one = why.1 in
    let two = why.2 in
    (why.3, omega (arith, past, one, two), omega (arith, within, one, two))

-- a limit below it decides alone
pub short_block : {X : Type 0} (m : Gauge) (n : ℕ) (short : Short) → m.live ≡ 0 → RefusedFor m n short → m.limit < n → IsErrOf {T = X} (Err (stop_of_short short)) (OverLimit 0 n m.limit)
short_block m n NoRoom none why low = absurd (omega (arith, none, why, low))
short_block m n (PastLimit live asked told) none why low = λ i. Err (OverLimit ((why.1 ∙ none) i) (why.2 i) (why.3 i))

-- ---- a buffer was given

not_past : (limit live n : ℕ) (more : List (ℕ × ℕ)) → live + n ≤ limit → first_past limit ((live, n) ∷ more) ≡ first_past limit more
not_past limit live n more room =
    let test : nat_lt limit (live + n) ≡ false = grind (arith, nat_tests, room) in
    ap (λ (b : Bool). if b then Some (live, n) else first_past limit more) test

pub given_past : {X : Type 0} (limit live n : ℕ) (more : List (ℕ × ℕ)) (r : Result X Stop) → live + n ≤ limit → TellsFirstPast limit more r → TellsFirstPast limit ((live, n) ∷ more) r
given_past limit live n more (Ok x) room tells = not_past limit live n more room ∙ tells
given_past limit live n more (Err (Refused x)) room tells = not_past limit live n more room ∙ tells
given_past limit live n more (Err ReadFault) room tells = tt
given_past limit live n more (Err WriteFault) room tells = not_past limit live n more room ∙ tells
given_past limit live n more (Err (OverLimit before asked told)) room tells = not_past limit live n more room ∙ tells
given_past limit live n more (Err NoMemory) room tells = tt

-- ---- the comparison, behind its buffers

fetching_takes : (before now : Tally) (limit : ℕ) (stop : Stop) → StoppedFetching before now stop → StoppedTaking before now limit stop
fetching_takes before now limit (Refused x) why = why
fetching_takes before now limit ReadFault why = why
fetching_takes before now limit WriteFault why = absurd why
fetching_takes before now limit (OverLimit live asked told) why = absurd why
fetching_takes before now limit NoMemory why = tt

pub fetched_takes : {X : Type 0} (before now : Tally) (limit : ℕ) (r : Result X Stop) → Fetches before now r → ReadsAndTakes before now limit r
fetched_takes before now limit (Ok x) fetches = record { kept = fetches.kept; ok = fetches.ok; stop = tt }
fetched_takes before now limit (Err stop) fetches = record { kept = fetches.kept; ok = tt; stop = fetching_takes before now limit stop fetches.stop }

pub fetched_past : {X : Type 0} (before now : Tally) (limit : ℕ) (takings : List (ℕ × ℕ)) (r : Result X Stop) → Fetches before now r → first_past limit takings ≡ None → TellsFirstPast limit takings r
fetched_past before now limit takings (Ok x) fetches none = none
fetched_past before now limit takings (Err (Refused x)) fetches none = none
fetched_past before now limit takings (Err ReadFault) fetches none = tt
fetched_past before now limit takings (Err WriteFault) fetches none = none
fetched_past before now limit takings (Err (OverLimit live asked told)) fetches none = absurd fetches.stop
fetched_past before now limit takings (Err NoMemory) fetches none = tt

pub short_tells : (X : Type 0) (limit : ℕ) (takings : List (ℕ × ℕ)) (short : Short) → TellsShort {X = Workspace} limit takings (Err short) → TellsFirstPast {X = X} limit takings (Err (stop_of_short short))
short_tells X limit takings NoRoom tells = tt
short_tells X limit takings (PastLimit live asked told) tells = tells
