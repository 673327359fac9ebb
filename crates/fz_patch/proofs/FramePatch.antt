-- The whole call, by its first block and by what comes after it: its causes, its buffers, and when it answers.
use Rattle.std.proofs.Common.{◌≡◌, ◌⊎◌, inl, inr, ℕ, ◌+◌, ◌<◌, ◌≤◌, max, nat_lt, Bool, true, false, List, [], ◌∷◌, length, Option, Some, None, Result, Ok, Err, if◌then◌else◌, refl, sym, ap, ◌∙◌, subst, arith, ltb-false, lt-ltb, le-ltb}
use Rattle.std.specs.Prelude.{IfErr, IsErrOf, IsSome, ◌++◌, drop}
use Rattle.std.proofs.lemmas.List.{length-append, length-drop, length-take}
use Rattle.fz_base.specs.Buffer.{refilled}
use Rattle.fz_base.specs.Counts.{Rose, Tally}
use Rattle.fz_base.specs.JobBuffers.{buffer_bound}
use Rattle.fz_base.specs.Meter.{Gauge, RefusedFor}
use Rattle.fz_base.specs.Stop.{IfRefused, IsRefused, TellsLimit, stop_of_short}
use Rattle.fz_base.specs.Takings.{PastWithinLaw, TellsFirstPast, first_past, highest}
use Rattle.fz_base.specs.declared.fault.Fault.{Fault}
use Rattle.fz_base.specs.declared.failure.Short.{Short}
use Rattle.fz_base.specs.declared.failure.Short.TheVariants.{NoMemory as NoRoom, OverLimit as PastLimit}
use Rattle.fz_base.specs.declared.failure.Stop.{Stop}
use Rattle.fz_base.specs.declared.failure.Stop.TheVariants.{Refused, ReadFault, WriteFault, OverLimit, NoMemory}
use Rattle.fz_job.specs.Clauses.{IfOverLimit}
use Rattle.fz_laws.specs.PatchBuffers.{patch_bound, patch_takings}
use Rattle.fz_laws.specs.Given.{PatchJob}
use Rattle.fz_laws.specs.PatchLaws.{PatchIsBounded}
use Rattle.fz_patch.specs.Clauses.{AnswersPatch, HasPatchCause, IsUnwritten, TakingsOfBoth, TellsPatchFault, greatest_patch_bound, later_takings}
use Rattle.fz_target.specs.Ends.{SameCounts, StoppedWorking, WorksInPlace}
use Rattle.fz_target.specs.Told.{IfBoth}
use Rattle.fz_patch.proofs.EndsTold.{if_both}

-- ---- a buffer that was not given

pub over_short : {X : Type 0} {P : Type 0} (r : Result X Stop) → P → IfOverLimit r P
over_short (Ok x) p = tt
over_short (Err (Refused x)) p = tt
over_short (Err ReadFault) p = tt
over_short (Err WriteFault) p = tt
over_short (Err (OverLimit live asked limit)) p = p
over_short (Err NoMemory) p = tt

pub short_untold : (X : Type 0) (job : PatchJob) (held given : Option (List ℕ)) (short : Short) → TellsPatchFault {X = X} job held given (Err (stop_of_short short))
short_untold X job held given NoRoom = tt
short_untold X job held given (PastLimit live asked limit) = tt

short_refused : {X : Type 0} (short : Short) → IsRefused {X = X} (Err (stop_of_short short)) → ⊥
short_refused NoRoom refused = absurd cc
short_refused (PastLimit live asked limit) refused = absurd cc

if_short : (X : Type 0) (P : Fault → Type 0) (short : Short) → IfRefused {X = X} (Err (stop_of_short short)) P
if_short X P NoRoom = tt
if_short X P (PastLimit live asked limit) = tt

pub short_unwritten : (X : Type 0) {Same : Type 0} (held given : Option (List ℕ)) (limit : ℕ) (takings : TakingsOfBoth) (short : Short) → Same →
    IsUnwritten {X = X} held given limit takings Same (Err (stop_of_short short))
short_unwritten X held given limit takings short same = record {
  refused = λ refused. absurd (short_refused {X = X} short refused);
  late = if_short X _ short;
  past = if_both held given _ (λ f p is by some. same);
  over_limit = over_short {X = X} (Err (stop_of_short short)) same;
}

-- the first block passes the limit, or there was no memory
front_past : (limit : ℕ) (later : List (ℕ × ℕ)) → limit < 2880 → first_past limit ((0, 2880) ∷ later) ≡ Some (0, 2880)
front_past limit later low = ap (λ b. if b then Some (0, 2880) else first_past limit later) (lt-ltb limit 2880 low)

pub front_none : (limit : ℕ) (later : List (ℕ × ℕ)) → 2880 ≤ limit → first_past limit ((0, 2880) ∷ later) ≡ first_past limit later
front_none limit later room = ap (λ b. if b then Some (0, 2880) else first_past limit later) (le-ltb limit 2880 room)

all_takings : (file patch : List ℕ) (job : PatchJob) → patch_takings file patch job ≡ (0, 2880) ∷ later_takings file patch job
unfolding patch_takings
all_takings file patch job = refl

pub bound_block : 2880 ≤ greatest_patch_bound
unfolding buffer_bound
bound_block = omega arith

short_cause : {X : Type 0} (job : PatchJob) (held given : Option (List ℕ)) (s p : Tally) (gauge : Gauge) (short : Short) → gauge.live ≡ 0 → RefusedFor gauge 2880 short → HasPatchCause {X = X} job held given s s p p gauge.limit (Err (stop_of_short short))
short_cause job held given s p gauge NoRoom none why = record {
  done = tt;
  refused = λ refused. absurd (short_refused NoRoom refused);
  read_fault = λ e. absurd cc;
  write_fault = λ e. absurd cc;
  over_limit = tt;
  first_past = if_both held given _ (λ f q is by. tt);
  block = λ low. absurd (omega (arith, low, why, none));
}
short_cause job held given s p gauge (PastLimit live asked told) none why =
    let low : gauge.limit < 2880 = omega (arith, why.0, none) in
    let at : live ≡ 0 = why.1 ∙ none in
    record {
      done = tt;
      refused = λ refused. absurd (short_refused (PastLimit live asked told) refused);
      read_fault = λ e. absurd cc;
      write_fault = λ e. absurd cc;
      over_limit = (why.3, omega (arith, why.0, why.1, why.2), omega (arith, at, why.2, bound_block));
      first_past = if_both held given _ (λ f q is by. ap (first_past gauge.limit) (all_takings f q job) ∙ front_past gauge.limit (later_takings f q job) low ∙ (λ j. Some (sym at j, sym why.2 j)));
      block = λ low'. ((λ j. Err (OverLimit (at j) (why.2 j) (why.3 j))), refl, refl);
    }

pub first_short : {X : Type 0} (job : PatchJob) (held given : Option (List ℕ)) (s p : Tally) (gauge : Gauge) (short : Short) → gauge.live ≡ 0 → RefusedFor gauge 2880 short → HasPatchCause {X = X} job held given s s p p gauge.limit (Err (stop_of_short short))
first_short job held given s p gauge short none why = short_cause job held given s p gauge short none why

-- ---- after the block

not_short : (limit : ℕ) → 2880 ≤ limit → limit < 2880 → ⊥
not_short limit room low = omega (arith, room, low)

past_front : {X : Type 0} (limit : ℕ) (later : List (ℕ × ℕ)) (r : Result X Stop) → 2880 ≤ limit → TellsFirstPast limit later r → TellsFirstPast limit ((0, 2880) ∷ later) r
past_front limit later (Ok x) room tells = front_none limit later room ∙ tells
past_front limit later (Err (Refused x)) room tells = front_none limit later room ∙ tells
past_front limit later (Err ReadFault) room tells = tt
past_front limit later (Err WriteFault) room tells = front_none limit later room ∙ tells
past_front limit later (Err (OverLimit live asked told)) room tells = front_none limit later room ∙ tells
past_front limit later (Err NoMemory) room tells = tt

refused_same : {X : Type 0} (s s' p p' : Tally) (limit : ℕ) (r : Result X Stop) → WorksInPlace s s' p p' limit r → IsRefused r → SameCounts s s' × (p' ≡ p)
refused_same s s' p p' limit r a refused = subst (λ q. IfErr q (StoppedWorking s s' p p' limit)) refused.1 a.stop

read_rose : {X : Type 0} (s s' p p' : Tally) (limit : ℕ) (r : Result X Stop) → WorksInPlace s s' p p' limit r → IsErrOf r ReadFault → Rose s.faults s'.faults ⊎ Rose p.faults p'.faults
read_rose s s' p p' limit r a e = subst (λ q. IfErr q (StoppedWorking s s' p p' limit)) e a.stop

write_rose : {X : Type 0} (s s' p p' : Tally) (limit : ℕ) (r : Result X Stop) → WorksInPlace s s' p p' limit r → IsErrOf r WriteFault → Rose s.amended.faults s'.amended.faults
write_rose s s' p p' limit r a e = subst (λ q. IfErr q (StoppedWorking s s' p p' limit)) e a.stop

pub cause_after : {X : Type 0} (job : PatchJob) (held given : Option (List ℕ)) (s s' p p' : Tally) (limit : ℕ) (r : Result X Stop) → 2880 ≤ limit → WorksInPlace s s' p p' limit r → TellsLimit limit greatest_patch_bound r →
    IfBoth held given (λ f q. TellsFirstPast limit (later_takings f q job) r) → HasPatchCause job held given s s' p p' limit r
cause_after job held given s s' p p' limit r room a most tells = record {
  done = a.ok;
  refused = refused_same s s' p p' limit r a;
  read_fault = read_rose s s' p p' limit r a;
  write_fault = write_rose s s' p p' limit r a;
  over_limit = most;
  first_past = by_both held given tells;
  block = λ low. absurd (not_short limit room low);
}
  where
    by_both : (held given : Option (List ℕ)) → IfBoth held given (λ f q. TellsFirstPast limit (later_takings f q job) r) → IfBoth held given (λ f q. TellsFirstPast limit (patch_takings f q job) r)
    by_both None given tells = tt
    by_both (Some f) None tells = tt
    by_both (Some f) (Some q) tells = subst (λ ts. TellsFirstPast limit ts r) (sym (all_takings f q job)) (past_front limit (later_takings f q job) r room tells)

-- ---- what was not written

past_after : (Same : Type 0) (job : PatchJob) (held given : Option (List ℕ)) (limit : ℕ) → 2880 ≤ limit →
    IfBoth held given (λ f q. IsSome (first_past limit (later_takings f q job)) → Same) →
    IfBoth held given (λ f q. IsSome (first_past limit (patch_takings f q job)) → Same)
past_after Same job None given limit room past = tt
past_after Same job (Some f) None limit room past = tt
past_after Same job (Some f) (Some q) limit room past = λ some.
    past (subst (λ (o : Option (ℕ × ℕ)). IsSome o) (ap (first_past limit) (all_takings f q job) ∙ front_none limit (later_takings f q job) room) some)

-- the first block is within the limit
pub unwritten_after : {X : Type 0} (Same : Type 0) (job : PatchJob) (held given : Option (List ℕ)) (limit : ℕ) (r : Result X Stop) → 2880 ≤ limit →
    IsUnwritten held given limit (λ f q. later_takings f q job) Same r → IsUnwritten held given limit (λ f q. patch_takings f q job) Same r
unwritten_after Same job held given limit r room u = record {
  refused = u.refused;
  late = u.late;
  past = past_after Same job held given limit room u.past;
  over_limit = u.over_limit;
}

-- ---- the answer

none_past : (limit : ℕ) (ts : List (ℕ × ℕ)) (found : ℕ × ℕ) → first_past limit ts ≡ None → first_past limit ts ≡ Some found → ⊥
none_past limit ts found none some = let both : None ≡ Some found = sym none ∙ some in absurd cc

-- no fault was counted, and the limit is at least the bound
pub answers : {X : Type 0} (bounded : PatchIsBounded) (within : PastWithinLaw) (job : PatchJob) (held given : Option (List ℕ)) (s s' p p' : Tally) (limit : ℕ) (r : Result X Stop) → HasPatchCause job held given s s' p p' limit r → AnswersPatch job held given s s' p p' limit r
answers bounded within job None given s s' p p' limit r a = λ one two three. tt
answers bounded within job (Some f) None s s' p p' limit r a = λ one two three. tt
answers bounded within job (Some f) (Some q) s s' p p' limit (Ok x) a = λ one two three room. tt
answers bounded within job (Some f) (Some q) s s' p p' limit (Err (Refused x)) a = λ one two three room. tt
answers bounded within job (Some f) (Some q) s s' p p' limit (Err ReadFault) a = λ one two three room. by_side one three (a.read_fault refl)
  where
    by_side : ¬ Rose s.faults s'.faults → ¬ Rose p.faults p'.faults → Rose s.faults s'.faults ⊎ Rose p.faults p'.faults → ⊥
    by_side one three (inl rose) = one rose
    by_side one three (inr rose) = three rose
answers bounded within job (Some f) (Some q) s s' p p' limit (Err WriteFault) a = λ one two three room. two (a.write_fault refl)
answers bounded within job (Some f) (Some q) s s' p p' limit (Err (OverLimit live asked told)) a = λ one two three room.
    let low : live + asked ≤ patch_bound f q job = within limit (patch_bound f q job) (patch_takings f q job) (live, asked) (bounded f q job) a.first_past in
    omega (arith, a.over_limit.1, low, room)
answers bounded within job (Some f) (Some q) s s' p p' limit (Err NoMemory) a = λ one two three room. tt

-- ---- the peak

by_limit : (limit a : ℕ) (b : Bool) (found : ℕ × ℕ) (rest : Option (ℕ × ℕ)) → nat_lt limit a ≡ b → (if b then Some found else rest) ≡ None → (a ≤ limit) × (rest ≡ None)
by_limit limit a true found rest test none = absurd cc
by_limit limit a false found rest test none = (ltb-false limit a test, none)

highest_low : (limit : ℕ) (ts : List (ℕ × ℕ)) → first_past limit ts ≡ None → highest ts ≤ limit
highest_low limit [] none = omega arith
highest_low limit ((live, asked) ∷ ts) none =
    let parts = by_limit limit (live + asked) (nat_lt limit (live + asked)) (live, asked) (first_past limit ts) refl none in
    omega (arith, parts.0, highest_low limit ts parts.1)

pub peak_after : (bounded : PatchIsBounded) (job : PatchJob) (held given : Option (List ℕ)) (old block new : ℕ) → block ≡ max old 2880 → IfBoth held given (λ f q. new ≤ max block (highest (later_takings f q job))) →
    IfBoth held given (λ f q. new ≤ max old (patch_bound f q job))
peak_after bounded job None given old block new begun low = tt
peak_after bounded job (Some f) None old block new begun low = tt
peak_after bounded job (Some f) (Some q) old block new begun low =
    let bound : ℕ = patch_bound f q job in
    let all : highest ((0, 2880) ∷ later_takings f q job) ≤ bound = subst (λ ts. highest ts ≤ bound) (all_takings f q job) (highest_low bound (patch_takings f q job) (bounded f q job)) in
    omega (arith, begun, low, all)

pub peak_reached : (job : PatchJob) (held given : Option (List ℕ)) (old block new : ℕ) → block ≡ max old 2880 → IfBoth held given (λ f q. new ≡ max block (highest (later_takings f q job))) →
    IfBoth held given (λ f q. new ≡ max old (highest (patch_takings f q job)))
peak_reached job None given old block new begun reached = tt
peak_reached job (Some f) None old block new begun reached = tt
peak_reached job (Some f) (Some q) old block new begun reached =
    let all : highest (patch_takings f q job) ≡ max (0 + 2880) (highest (later_takings f q job)) = ap highest (all_takings f q job) in
    omega (arith, begun, reached, all)

pub peak_stays : (job : PatchJob) (held given : Option (List ℕ)) (old new : ℕ) → new ≡ old → IfBoth held given (λ f q. new ≤ max old (patch_bound f q job))
peak_stays job held given old new same = if_both held given _ (λ f q is by. omega (arith, same))

-- a buffer that was lent is as long as before
pub refilled_len : (old lent : List ℕ) → length (refilled old lent) ≡ length old
refilled_len old lent = omega (arith, length-take (length old) (lent ++ drop (length lent) old), length-append lent (drop (length lent) old), length-drop (length lent) old)
