-- What is promised of the answer of `drill`, beside what its contract says: source and sink are as they were, since it is given neither.
use Rattle.std.proofs.Common.{◌≡◌, ℕ, ◌≤◌, max, List, [], refl, subst, sym, arith, inl, inr}
use Rattle.std.specs.Prelude.{◌⊎◌, min, Bool, Option, Some, None, IfSome, Result, Ok, Err, IsErrOf, OnOk}
use Rattle.fz_base.specs.Counts.{Rose, Tally}
use Rattle.fz_base.specs.Meter.{Gauge}
use Rattle.fz_base.specs.Sink.{MayAppend, appended}
use Rattle.fz_base.specs.Stop.{IsRefused}
use Rattle.fz_base.specs.Takings.{highest}
use Rattle.fz_base.specs.Told.{StaysTold}
use Rattle.fz_base.specs.declared.fault.Fault.{Fault}
use Rattle.fz_base.specs.declared.failure.Stop.{Stop}
use Rattle.fz_base.specs.declared.failure.Stop.TheVariants.{Refused as StopRefused, ReadFault as StopRead, WriteFault as StopWrite, OverLimit as StopLimit, NoMemory as StopMemory}
use Rattle.fz_files.specs.Drill.{drill_lines}
use Rattle.fz_files.specs.FirstFault.{IsFirstFault}
use Rattle.fz_files.specs.Lines.{report_lines}
use Rattle.fz_files.specs.Walks.{header_fault, job_walk}
use Rattle.fz_files.specs.declared.job.Job.TheVariants.{Drill}
use Rattle.fz_drill.specs.Bound.{drill_bound, takings_of}
use Rattle.fz_drill.specs.Clauses.{Answers as DrillAnswers, HasDrillCause, IsDone, IsSilent, PrintsLines as PrintsDrill}
use Rattle.fz_job.specs.Clauses.{IsAnswer, IsUnmade, TellsFirstFault}
use Rattle.fz_verify.specs.Clauses.{PrintsLines}
use Rattle.fz_app.specs.Ends.{IsSameSink, SinkIs, TextIs}
use Rattle.fz_app.specs.Promised.{IsPromised}
use Rattle.fz_app.proofs.CutAnswers.{nothing_read}
use Rattle.fz_app.proofs.JobAnswers.{always_ok, on_ok}
use Rattle.fz_app.proofs.PackAnswers.{empty_is_shut}
use Rattle.fz_app.proofs.Tallies.{kept_by}
use Rattle.fz_app.proofs.TextAnswers.{always_err, drills, empty_output, none_restored, same_sink}

-- `drill` looks at no header and at no row, so that nothing is refused, and its lines are the same whatever file it is given

no_fault : (rows : ℕ) (file : List ℕ) → header_fault (Drill rows) file ≡ None
unfolding job_walk
no_fault rows file = refl

sound : (rows : ℕ) (file : List ℕ) → IsFirstFault (Drill rows) file None
unfolding job_walk
sound rows file = tt

reported : (rows : ℕ) (file : List ℕ) (fault : Option Fault) → report_lines (Drill rows) file fault ≡ drill_lines rows
unfolding job_walk
reported rows file fault = refl

-- where nothing was live before
from_none : (peak bound : ℕ) → peak ≤ max 0 bound → peak ≤ bound
from_none peak bound within = omega (arith, within)

-- what `drill` says of the text and of the meter, as they were before that was narrowed and after the call
pub record DrillSays (rows limit : ℕ) (text text' : TextIs) (meter : Gauge) (answer : Result (Unit {0}) Stop) : Type 0 where
  pub lines : PrintsDrill rows text.contents text'.contents answer
  pub answered : DrillAnswers rows text.tally text'.tally limit answer
  pub cause : HasDrillCause rows text.tally text'.tally limit answer
  pub silent : IsSilent rows limit text.contents text'.contents text.tally text'.tally answer
  pub live : meter.live ≡ 0
  pub limit_is : meter.limit ≡ limit
  pub peak : meter.peak ≤ max 0 (drill_bound rows)
  pub exact : OnOk answer (meter.peak ≡ max 0 (highest (takings_of rows)))
  pub told : StaysTold text.contents text'.contents

answer_of : (r : Result (Unit {0}) Stop) → IsDone r → IsAnswer r
answer_of (Ok done) is = tt
answer_of (Err (StopRefused x)) is = absurd is
answer_of (Err StopRead) is = absurd is
answer_of (Err StopWrite) is = absurd is
answer_of (Err (StopLimit live asked limit)) is = absurd is
answer_of (Err StopMemory) is = tt

module _ (rows limit : ℕ) (text text' : TextIs) where
  abbrev pub Cause : Result (Unit {0}) Stop → Type 0
  Cause r = HasDrillCause rows text.tally text'.tally limit r

  never_refused : (r : Result (Unit {0}) Stop) → Cause r → IsRefused r → ⊥
  never_refused (Ok done) c is = absurd cc
  never_refused (Err (StopRefused x)) c is = c.stop
  never_refused (Err StopRead) c is = absurd cc
  never_refused (Err StopWrite) c is = absurd cc
  never_refused (Err (StopLimit live asked told)) c is = absurd cc
  never_refused (Err StopMemory) c is = absurd cc

  never_read : (r : Result (Unit {0}) Stop) → Cause r → IsErrOf r StopRead → ⊥
  never_read (Ok done) c is = absurd cc
  never_read (Err (StopRefused x)) c is = absurd cc
  never_read (Err StopRead) c is = c.stop
  never_read (Err StopWrite) c is = absurd cc
  never_read (Err (StopLimit live asked told)) c is = absurd cc
  never_read (Err StopMemory) c is = absurd cc

  write_rose : (r : Result (Unit {0}) Stop) → Cause r → IsErrOf r StopWrite → Rose text.tally.faults text'.tally.faults
  write_rose (Ok done) c is = absurd cc
  write_rose (Err (StopRefused x)) c is = absurd cc
  write_rose (Err StopRead) c is = absurd cc
  write_rose (Err StopWrite) c is = c.stop
  write_rose (Err (StopLimit live asked told)) c is = absurd cc
  write_rose (Err StopMemory) c is = absurd cc

  first_of : (r : Result (Unit {0}) Stop) → Cause r → TellsFirstFault (Drill rows) (Some []) r
  first_of (Ok done) c = sound rows []
  first_of (Err (StopRefused x)) c = absurd c.stop
  first_of (Err StopRead) c = tt
  first_of (Err StopWrite) c = tt
  first_of (Err (StopLimit live asked told)) c = tt
  first_of (Err StopMemory) c = tt

  lines_of : (r : Result (Unit {0}) Stop) → Cause r → PrintsDrill rows text.contents text'.contents r → PrintsLines (Drill rows) (Some []) text.contents text'.contents r
  lines_of (Ok done) c p = subst (λ (l : List ℕ). text'.contents ≡ appended l text.contents) (sym (reported rows [] None)) p
  lines_of (Err (StopRefused x)) c p = absurd c.stop
  lines_of (Err StopRead) c p = absurd c.stop
  lines_of (Err StopWrite) c p = λ fault is. subst (λ (l : List ℕ). MayAppend l text.contents text'.contents) (sym (reported rows [] fault)) p
  lines_of (Err (StopLimit live asked told)) c p = λ fault is. subst (λ (l : List ℕ). MayAppend l text.contents text'.contents) (sym (reported rows [] fault)) p
  lines_of (Err StopMemory) c p = λ fault is. subst (λ (l : List ℕ). MayAppend l text.contents text'.contents) (sym (reported rows [] fault)) p

  -- nothing is printed where a buffer passes the limit; the rest says of no header and no refusal
  silent_of : (W : ℕ) (r : Result (Unit {0}) Stop) → Cause r → IsSilent rows limit text.contents text'.contents text.tally text'.tally r → IsUnmade (Drill rows) (Some []) limit W ((text'.contents ≡ text.contents) × (text'.tally ≡ text.tally)) r
  silent_of W (Ok done) c p = record { faulty = λ fault. absurd (fault (no_fault rows [])); past = p.past; over_limit = tt; refused = tt }
  silent_of W (Err (StopRefused x)) c p = absurd c.stop
  silent_of W (Err StopRead) c p = absurd c.stop
  silent_of W (Err StopWrite) c p = record { faulty = λ fault. absurd (fault (no_fault rows [])); past = p.past; over_limit = tt; refused = tt }
  silent_of W (Err (StopLimit live asked told)) c p = record { faulty = λ fault. absurd (fault (no_fault rows [])); past = p.past; over_limit = p.over_limit; refused = tt }
  silent_of W (Err StopMemory) c p = record { faulty = λ fault. absurd (fault (no_fault rows [])); past = p.past; over_limit = tt; refused = tt }

  block_of : (r : Result (Unit {0}) Stop) → IsErrOf r (StopLimit 0 2880 limit) ⊎ IsErrOf r StopMemory → IsErrOf r (StopLimit 0 2880 limit) ⊎ (IsErrOf r StopRead ⊎ IsErrOf r StopMemory)
  block_of r (inl is) = inl is
  block_of r (inr is) = inr (inr is)

-- the promises of `drill`, whatever the source holds and the sink is
pub drilled : (rows W : ℕ) (strict : Bool) (memory : ℕ) (input output : List ℕ) (held : Option (List ℕ)) (ranges : Option (List (ℕ × ℕ))) (source : Tally) (sink : SinkIs) (text text' : TextIs) (meter meter' : Gauge) (answer : Result (Unit {0}) Stop) →
    IfSome sink.contents (λ c. c ≡ []) → DrillSays rows (min meter.limit memory) text text' meter' answer →
    IsPromised (record { job = Drill rows; workers = W; strict = strict; memory = memory; input = input; output = output })
    (record { held = held; ranges = ranges; source = source; sink = sink; text = text; meter = meter })
    (record { held = held; ranges = ranges; source = source; sink = sink; text = text'; meter = meter' }) answer
drilled rows W strict memory input output held ranges source sink text text' meter meter' answer empty s = record {
  restored = always_ok answer _ (none_restored (Drill rows) (drills rows) held sink.contents);
  output = always_ok answer _ (empty_output (Drill rows) (drills rows) held sink.contents empty, tt);
  slice = always_ok answer _ tt;
  first_fault = first_of rows (min meter.limit memory) text text' answer s.cause;
  answered = λ unread quiet room. answer_of answer (s.answered quiet room);
  first_byte = always_err answer _ (inl (empty_is_shut sink.contents empty));
  live = s.live;
  limit = s.limit_is;
  peak = from_none meter'.peak (drill_bound rows) s.peak;
  exact = on_ok answer (meter'.peak ≡ max 0 (highest (takings_of rows))) (meter'.peak ≡ highest (takings_of rows)) (λ reached. omega (arith, reached)) s.exact;
  done = on_ok answer (text'.tally ≡ text.tally) _ (λ same. (refl, refl, same)) s.cause.done;
  refused = λ is. absurd (never_refused rows (min meter.limit memory) text text' answer s.cause is);
  read_fault = λ is. absurd (never_read rows (min meter.limit memory) text text' answer s.cause is);
  write_fault = write_rose rows (min meter.limit memory) text text' answer s.cause;
  most = from_none meter'.peak (drill_bound rows) s.peak;
  told_limit = s.cause.over_limit;
  first_past = s.cause.first_past;
  block = λ less. block_of rows (min meter.limit memory) text text' answer (s.cause.block less);
  unread = λ low. refl;
  unmade = same_sink (Drill rows) held (min meter.limit memory) W (IsSameSink sink sink) answer (refl, refl);
  faulty = tt;
  held_is = refl;
  touched = nothing_read (Drill rows) held ranges ranges refl;
  told_ranges = λ told. told;
  told_contents = λ told. told;
  source_counts = kept_by source source refl;
  sink_counts = kept_by sink.tally sink.tally refl;
  text_counts = s.cause.kept;
  printed = record {
    lines = lines_of rows (min meter.limit memory) text text' answer s.cause s.lines;
    silent = silent_of rows (min meter.limit memory) text text' W answer s.cause s.silent;
    done = s.cause.done;
    refused = λ is. absurd (never_refused rows (min meter.limit memory) text text' answer s.cause is);
    write_fault = write_rose rows (min meter.limit memory) text text' answer s.cause;
    told = s.told;
    counts = s.cause.kept;
  };
}
