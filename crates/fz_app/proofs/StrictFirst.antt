-- What is promised of `verify --strict` if the file is compared before it is verified: the same as if it came after that.
use Rattle.std.proofs.Common.{◌≡◌, ℕ, ◌+◌, ◌*◌, ◌≤◌, ◌<◌, max, min, Bool, true, false, List, [], append-nil, refl, sym, ap, ◌∙◌, subst, arith}
use Rattle.std.specs.Prelude.{◌⊎◌, is_ok, Option, Some, None, IfErr, IfOk, IfSome, Result, Ok, Err, IsSome, OnOk}
use Rattle.fz_base.specs.Counts.{CountsKept, Rose, Tally, nameless}
use Rattle.fz_base.specs.JobBuffers.{buffer_bound}
use Rattle.fz_base.specs.Ranges.{LogsJoinLaw}
use Rattle.fz_base.specs.Sink.{MayAppend, appended}
use Rattle.fz_base.specs.Stop.{IfRefused, StoppedByCoding, TellsLimit}
use Rattle.fz_base.specs.Takings.{TellsFirstPast, first_past, highest}
use Rattle.fz_base.specs.Told.{StaysTold}
use Rattle.fz_base.specs.declared.fault.Fault.{Fault}
use Rattle.fz_base.specs.declared.failure.Stop.{Stop}
use Rattle.fz_base.specs.declared.failure.Stop.TheVariants.{Refused as StopRefused, ReadFault as StopRead, WriteFault as StopWrite, OverLimit as StopLimit, NoMemory as StopMemory}
use Rattle.fz_files.specs.Buffers.{job_bound, job_takings}
use Rattle.fz_files.specs.FirstFault.{IsFirstFault}
use Rattle.fz_files.specs.Lines.{report_lines}
use Rattle.fz_files.specs.Walks.{header_fault}
use Rattle.fz_files.specs.declared.job.Job.TheVariants.{Verify}
use Rattle.fz_laws.specs.RoundTrip.{HasNoOtherFault}
use Rattle.fz_job.specs.Clauses.{Answers, ComesLate, HasJobCause, IfOverLimit, IsAnswer, IsUnmade, TellsFirstFault, greatest_bound}
use Rattle.fz_strict.specs.Clauses.{HasStrictCause, IsStrictAsSaid, strict_takings}
use Rattle.fz_verify.specs.Clauses.{GotFront, PrintsLines}
use Rattle.fz_verify.specs.Reported.{Reports}
use Rattle.fz_words.specs.Jobs.{Asked}
use Rattle.fz_app.specs.Answer.{done_of}
use Rattle.fz_app.specs.Causes.{ComparesFor}
use Rattle.fz_app.specs.Ends.{Ends, TextIs}
use Rattle.fz_app.specs.Found.{found_of}
use Rattle.fz_app.specs.Lines.{strict_text}
use Rattle.fz_app.specs.Outputs.{ReadsTouched}
use Rattle.fz_app.specs.Promised.{IsPromised}
use Rattle.fz_app.proofs.CutAnswers.{nothing_read}
use Rattle.fz_app.proofs.StrictAnswers.{ComparedSays, both_read, compared, stopped}
use Rattle.fz_app.proofs.StrictLines.{same_said}
use Rattle.fz_app.proofs.Tallies.{kept_by}
use Rattle.fz_app.proofs.TextAnswers.{TextSays, text_promised, verifies}

-- ---- the ample limit

-- no file has a greater bound than this
pub ample_is : greatest_bound Verify 1 ≡ 2 * 737280 + 5760 + 2 * (16 * 67108864 + 64) + 65536
unfolding buffer_bound
ample_is = refl

pub block_within : (limit : ℕ) → greatest_bound Verify 1 ≤ limit → 2880 ≤ limit
block_within limit ample = omega (arith, ample, ample_is)

-- a buffer that would exceed it is not taken
never_over : (P : Type 0) (limit live asked told : ℕ) → greatest_bound Verify 1 ≤ limit → (told ≡ limit) × (limit < live + asked) × (live + asked ≤ greatest_bound Verify 1) → P
never_over P limit live asked told ample over =
    let past : limit < live + asked = over.1 in
    let most : live + asked ≤ greatest_bound Verify 1 = over.2 in
    absurd (omega (arith, ample, past, most))

-- ---- facts of a file, if it is told

pub always : (held : Option (List ℕ)) (P : List ℕ → Type 0) → ((file : List ℕ) → P file) → IfSome held P
always None P is = tt
always (Some file) P is = is file

one_told : (held : Option (List ℕ)) (P Q : List ℕ → Type 0) → ((file : List ℕ) → P file → Q file) → IfSome held P → IfSome held Q
one_told None P Q f p = tt
one_told (Some file) P Q f p = f file p

two_told : (held : Option (List ℕ)) (P Q R : List ℕ → Type 0) → ((file : List ℕ) → P file → Q file → R file) → IfSome held P → IfSome held Q → IfSome held R
two_told None P Q R f p q = tt
two_told (Some file) P Q R f p q = f file p q

-- ---- the run stopped before the first line

appended_nothing : (old : Option (List ℕ)) → old ≡ appended [] old
appended_nothing None = refl
appended_nothing (Some text) = ap Some (sym (append-nil text))

nothing_got : (lines : List ℕ) (old new : Option (List ℕ)) → new ≡ old → MayAppend lines old new
nothing_got lines old new same = (0, same ∙ appended_nothing old)

-- what is known of source, text and meter then
pub record StopsBefore (held : Option (List ℕ)) (limit : ℕ) (old new : Ends) : Type 0 where
  pub text : new.text ≡ old.text
  pub live : new.meter.live ≡ 0
  pub limit_is : new.meter.limit ≡ limit
  pub peak : IfSome held (λ file. new.meter.peak ≤ max 0 (job_bound Verify file 1))
  pub most : new.meter.peak ≤ max 0 (greatest_bound Verify 1)
  pub held_is : new.held ≡ old.held
  pub touched : ReadsTouched Verify old.held old.ranges new.ranges
  pub told_ranges : StaysTold old.ranges new.ranges
  pub source_counts : CountsKept old.source new.source

module _ (X : Type 0) (held : Option (List ℕ)) (limit W : ℕ) (old new : Ends) (ample : greatest_bound Verify 1 ≤ limit) (s : StopsBefore held limit old new) where
  abbrev Stays : Type 0
  Stays = (new.text.contents ≡ old.text.contents) × (new.text.tally ≡ old.text.tally)

  stays : Stays
  stays = (ap (λ (t : TextIs). t.contents) s.text, ap (λ (t : TextIs). t.tally) s.text)

  no_line : IfSome held (λ file. GotFront Verify file old.text.contents new.text.contents)
  no_line = always held (λ file. GotFront Verify file old.text.contents new.text.contents) (λ file. λ fault first. nothing_got (report_lines Verify file fault) old.text.contents new.text.contents stays.0)

  -- an answer that tells nothing of the file
  before_says : (answer : Result X Stop) → PrintsLines Verify held old.text.contents new.text.contents answer → TellsFirstFault Verify held answer → Answers Verify held old.source new.source old.text.tally new.text.tally limit W answer →
      HasJobCause Verify held old.source new.source old.text.tally new.text.tally limit 1 answer → IfOverLimit answer Stays → IfRefused answer (λ x. Stays ⊎ ComesLate Verify x) →
      OnOk answer (IfSome held (λ file. new.meter.peak ≡ max 0 (highest (job_takings Verify file 1)))) → TextSays Verify held limit W old new answer
  before_says answer lines first answered cause over refused exact = record {
    of_file = tt;
    lines = lines;
    first_fault = first;
    answered = answered;
    cause = cause;
    silent = record {
      faulty = always held (λ file. ¬ (header_fault Verify file ≡ None) → Stays) (λ file. λ faulty. stays);
      past = always held (λ file. IsSome (first_past limit (job_takings Verify file 1)) → Stays) (λ file. λ some. stays);
      over_limit = over;
      refused = refused;
    };
    live = s.live;
    limit_is = s.limit_is;
    peak = s.peak;
    exact = exact;
    unread = λ low. absurd (omega (arith, low, block_within limit ample));
    most = s.most;
    held_is = s.held_is;
    touched = s.touched;
    told_ranges = s.told_ranges;
    told = λ told. subst (λ (t : Option (List ℕ)). IsSome t) (sym stays.0) told;
    source_counts = s.source_counts;
    text_counts = kept_by old.text.tally new.text.tally stays.1;
  }

  read_cause : Rose old.source.faults new.source.faults → HasJobCause {X = X} Verify held old.source new.source old.text.tally new.text.tally limit 1 (Err StopRead)
  read_cause rose = record {
    done = tt;
    refused = λ is. absurd cc;
    read_fault = λ is. rose;
    write_fault = λ is. absurd cc;
    over_limit = tt;
    first_past = always held (λ file. TellsFirstPast {X = X} limit (job_takings Verify file 1) (Err StopRead)) (λ file. tt);
    block = λ low. absurd (omega (arith, low, block_within limit ample));
  }

  memory_cause : HasJobCause {X = X} Verify held old.source new.source old.text.tally new.text.tally limit 1 (Err StopMemory)
  memory_cause = record {
    done = tt;
    refused = λ is. absurd cc;
    read_fault = λ is. absurd cc;
    write_fault = λ is. absurd cc;
    over_limit = tt;
    first_past = always held (λ file. TellsFirstPast {X = X} limit (job_takings Verify file 1) (Err StopMemory)) (λ file. tt);
    block = λ low. absurd (omega (arith, low, block_within limit ample));
  }

  stop_says : (stop : Stop) → StoppedByCoding old.source new.source stop → TextSays {X = X} Verify held limit W old new (Err stop)
  stop_says (StopRefused x) why = absurd why
  stop_says StopRead why = before_says (Err StopRead) no_line tt (λ unread still. absurd (unread why)) (read_cause why) tt tt tt
  stop_says StopWrite why = absurd why
  stop_says (StopLimit live asked told) why = absurd why
  stop_says StopMemory why = before_says (Err StopMemory) no_line tt (λ unread still. always held (λ file. job_bound Verify file W ≤ limit → IsAnswer {X = X} (Err StopMemory)) (λ file. λ enough. tt)) memory_cause tt tt tt

-- ---- the promises of what was asked, by what is said of `verify`

abbrev pub asked_with : ℕ → ℕ → List ℕ → List ℕ → Bool → Asked
asked_with W memory input output strict = record { job = Verify; workers = W; strict = strict; memory = memory; input = input; output = output }

module _ (only : HasNoOtherFault) (W memory : ℕ) (input output : List ℕ) (old new : Ends) (same : new.sink ≡ old.sink) (empty : IfSome new.sink.contents (λ c. c ≡ [])) where
  -- `verify` stopped
  pub stop_promised : (X : Type 0) (stop : Stop) → TextSays {X = X} Verify old.held (min old.meter.limit memory) W old new (Err stop) → IsPromised (asked_with W memory input output true) old new (Err stop)
  stop_promised X stop s = stopped only W memory input output old new stop (text_promised Verify verifies W false refl memory input output old new same empty (Err stop) s)

  -- the run stopped before `verify`
  pub before_promised : (stop : Stop) → greatest_bound Verify 1 ≤ min old.meter.limit memory → StopsBefore old.held (min old.meter.limit memory) old new → StoppedByCoding old.source new.source stop → IsPromised (asked_with W memory input output true) old new (Err stop)
  before_promised stop ample s why = stop_promised Bool stop (stop_says Bool old.held (min old.meter.limit memory) W old new ample s stop why)

-- ---- the comparison, and then `verify`

-- what the comparison says of source and meter, as they were before and after it
pub record StrictSays (held : Option (List ℕ)) (limit : ℕ) (old mid : Ends) (r : Result Bool Stop) : Type 0 where
  pub right : IfOk r (λ same. IfSome held (IsStrictAsSaid same))
  pub first_fault : TellsFirstFault Verify held r
  pub cause : HasStrictCause held old.source mid.source limit r
  pub live : mid.meter.live ≡ 0
  pub limit_is : mid.meter.limit ≡ limit
  pub peak : IfSome held (λ file. mid.meter.peak ≤ max 0 (job_bound Verify file 1))
  pub most : mid.meter.peak ≤ max 0 (greatest_bound Verify 1)
  pub exact : OnOk r (IfSome held (λ file. mid.meter.peak ≡ max 0 (highest (strict_takings file))))
  pub held_is : mid.held ≡ old.held
  pub touched : ReadsTouched Verify held old.ranges mid.ranges
  pub told_ranges : StaysTold old.ranges mid.ranges
  pub source_counts : CountsKept old.source mid.source

-- what `verify` says after it: of source and text as they were before both, and of the ranges and the meter as they were between them
pub record VerifySays (held : Option (List ℕ)) (limit : ℕ) (old mid new : Ends) (r : Result Bool Stop) : Type 0 where
  pub lines : PrintsLines Verify held old.text.contents new.text.contents r
  pub first_fault : TellsFirstFault Verify held r
  pub answered : Answers Verify held old.source new.source old.text.tally new.text.tally limit 1 r
  pub cause : HasJobCause Verify held old.source new.source old.text.tally new.text.tally limit 1 r
  pub silent : IsUnmade Verify held limit 1 ((new.text.contents ≡ old.text.contents) × (new.text.tally ≡ old.text.tally)) r
  pub live : new.meter.live ≡ 0
  pub limit_is : new.meter.limit ≡ limit
  pub peak : IfSome held (λ file. new.meter.peak ≤ max mid.meter.peak (job_bound Verify file 1))
  pub most : new.meter.peak ≤ max mid.meter.peak (greatest_bound Verify 1)
  pub exact : OnOk r (IfSome held (λ file. new.meter.peak ≡ max mid.meter.peak (highest (job_takings Verify file 1))))
  pub held_is : new.held ≡ old.held
  pub touched : ReadsTouched Verify held mid.ranges new.ranges
  pub told_ranges : StaysTold mid.ranges new.ranges
  pub told : StaysTold old.text.contents new.text.contents
  pub source_counts : CountsKept old.source new.source
  pub text_counts : CountsKept old.text.tally new.text.tally

on_ok : {X : Type 0} (r : Result X Stop) (P Q : Type 0) → (P → Q) → OnOk r P → OnOk r Q
on_ok (Ok x) P Q f p = f p
on_ok (Err stop) P Q f p = tt

-- what the comparison says of a source since it was opened, it says of it as it was before, without its names
pub strict_from : (source opened source' : Tally) → nameless opened ≡ nameless source → (held : Option (List ℕ)) (limit : ℕ) (r : Result Bool Stop) → HasStrictCause held opened source' limit r → HasStrictCause held (nameless source) (nameless source') limit r
strict_from source opened source' same held limit r cause = record {
  done = on_ok r (source' ≡ opened) (nameless source' ≡ nameless source) (λ e. ap nameless e ∙ same) cause.done;
  refused = λ is. ap nameless (cause.refused is) ∙ same;
  read_fault = λ is. subst (λ (t : Tally). Rose t.faults source'.faults) same (cause.read_fault is);
  write_fault = cause.write_fault;
  over_limit = cause.over_limit;
  first_past = cause.first_past;
  block = λ low. ((cause.block low).0, ap nameless (cause.block low).1 ∙ same);
}

-- any other stop than a refusal comes of the source or of memory, if the limit is ample
pub stop_of : (held : Option (List ℕ)) (before now : Tally) (limit : ℕ) (r : Result Bool Stop) (stop : Stop) → greatest_bound Verify 1 ≤ limit → HasStrictCause held before now limit r → found_of r ≡ Err stop → StoppedByCoding before now stop
stop_of held before now limit (Ok same) stop ample cause is = absurd cc
stop_of held before now limit (Err (StopRefused x)) stop ample cause is = absurd cc
stop_of held before now limit (Err StopRead) stop ample cause is = let same : StopRead ≡ stop = cc in subst (StoppedByCoding before now) same (cause.read_fault refl)
stop_of held before now limit (Err StopWrite) stop ample cause is = absurd (cause.write_fault refl)
stop_of held before now limit (Err (StopLimit live asked told)) stop ample cause is = never_over (StoppedByCoding before now stop) limit live asked told ample cause.over_limit
stop_of held before now limit (Err StopMemory) stop ample cause is = let same : StopMemory ≡ stop = cc in subst (StoppedByCoding before now) same tt

-- no count rose if it found whether the file is strict, or a fault
pub found_quiet : (held : Option (List ℕ)) (before now : Tally) (limit : ℕ) (r : Result Bool Stop) (found : Result Bool Fault) → HasStrictCause held before now limit r → found_of r ≡ Ok found → now ≡ before
found_quiet held before now limit (Ok same) found cause is = cause.done
found_quiet held before now limit (Err (StopRefused x)) found cause is = cause.refused (x, refl)
found_quiet held before now limit (Err StopRead) found cause is = absurd cc
found_quiet held before now limit (Err StopWrite) found cause is = absurd cc
found_quiet held before now limit (Err (StopLimit live asked told)) found cause is = absurd cc
found_quiet held before now limit (Err StopMemory) found cause is = absurd cc

-- what it found, it answered
answered_ok : (r : Result Bool Stop) (same : Bool) → found_of r ≡ Ok (Ok same) → r ≡ Ok same
answered_ok (Ok other) same is = cc
answered_ok (Err (StopRefused x)) same is = absurd cc
answered_ok (Err StopRead) same is = absurd cc
answered_ok (Err StopWrite) same is = absurd cc
answered_ok (Err (StopLimit live asked told)) same is = absurd cc
answered_ok (Err StopMemory) same is = absurd cc

answered_fault : (r : Result Bool Stop) (x : Fault) → found_of r ≡ Ok (Err x) → r ≡ Err (StopRefused x)
answered_fault (Ok same) x is = absurd cc
answered_fault (Err (StopRefused y)) x is = cc
answered_fault (Err StopRead) x is = absurd cc
answered_fault (Err StopWrite) x is = absurd cc
answered_fault (Err (StopLimit live asked told)) x is = absurd cc
answered_fault (Err StopMemory) x is = absurd cc

-- and a file is strict as it says
pub strict_said : (held : Option (List ℕ)) (r : Result Bool Stop) (found : Result Bool Fault) (same : Bool) → IfOk r (λ b. IfSome held (IsStrictAsSaid b)) → found_of r ≡ Ok found → found ≡ Ok same → IfSome held (IsStrictAsSaid same)
strict_said held r found same right is e = subst (λ (a : Result Bool Stop). IfOk a (λ b. IfSome held (IsStrictAsSaid b))) (answered_ok r same (is ∙ ap Ok e)) right

-- a file that was compared without a fault has none, so its tiles need not be decoded again
sound_by : (held : Option (List ℕ)) (r : Result Bool Stop) (found : Result Bool Fault) → TellsFirstFault Verify held r → found_of r ≡ Ok found → IfOk found (λ same. IfSome held (λ file. IsFirstFault Verify file None))
sound_by held r (Ok same) first is = subst (λ (a : Result Bool Stop). TellsFirstFault Verify held a) (answered_ok r same is) first
sound_by held r (Err x) first is = tt

if_ok_is : (found : Result Bool Fault) (P : Type 0) → is_ok found ≡ true → IfOk found (λ same. P) → P
if_ok_is (Ok same) P is p = p
if_ok_is (Err x) P is p = absurd cc

pub decoded_sound : (held : Option (List ℕ)) (r : Result Bool Stop) (found : Result Bool Fault) → TellsFirstFault Verify held r → found_of r ≡ Ok found → is_ok found ≡ true → IfSome held (λ file. IsFirstFault Verify file None)
decoded_sound held r found first is decoded = if_ok_is found (IfSome held (λ file. IsFirstFault Verify file None)) decoded (sound_by held r found first is)

-- If `verify` was done all is as if it had come before the comparison, but for the peak: that would have been the greatest sum of its takings.
abbrev pub verified_peak : Option (List ℕ) → ℕ
verified_peak None = 0
verified_peak (Some file) = highest (job_takings Verify file 1)

abbrev pub as_if_first : Ends → ℕ → Ends → Ends
as_if_first old limit new = record {
  held = new.held;
  ranges = new.ranges;
  source = new.source;
  sink = new.sink;
  text = new.text;
  meter = record { live = 0; peak = verified_peak old.held; limit = limit };
}

-- the end, with this text
abbrev pub at_last : Ends → TextIs → Ends
at_last new last = record { held = new.held; ranges = new.ranges; source = new.source; sink = new.sink; text = last; meter = new.meter }

-- what is said of the text after the line of the comparison, or without one if that found a fault
pub record PrintSays (limit : ℕ) (new : Ends) (last : TextIs) (found : Result Bool Fault) (answer : Result Bool Stop) : Type 0 where
  pub right : IfOk answer (λ same. found ≡ Ok same)
  pub line : IfOk answer (λ same. last.contents ≡ appended (strict_text same) new.text.contents)
  pub front : IfOk found (λ same. MayAppend (strict_text same) new.text.contents last.contents)
  pub silent : IfErr found (λ x. (last.contents ≡ new.text.contents) × (last.tally ≡ new.text.tally))
  pub refused : IfRefused answer (λ x. found ≡ Err x)
  pub over_limit : IfOverLimit answer ((last.contents ≡ new.text.contents) × (last.tally ≡ new.text.tally))
  pub cause : ComparesFor new.source new.source new.text.tally last.tally limit answer
  pub told : StaysTold new.text.contents last.contents
  pub counts : CountsKept new.text.tally last.tally

module _ (join : LogsJoinLaw) (limit W : ℕ) (old mid new : Ends) (ample : greatest_bound Verify 1 ≤ limit) (r : Result Bool Stop) (c : StrictSays old.held limit old mid r) where
  most_both : new.meter.peak ≤ max mid.meter.peak (greatest_bound Verify 1) → new.meter.peak ≤ max 0 (greatest_bound Verify 1)
  most_both most = let first : mid.meter.peak ≤ max 0 (greatest_bound Verify 1) = c.most in omega (arith, most, first)

  peak_both : IfSome old.held (λ file. new.meter.peak ≤ max mid.meter.peak (job_bound Verify file 1)) → IfSome old.held (λ file. new.meter.peak ≤ max 0 (job_bound Verify file 1))
  peak_both peak = two_told old.held (λ file. mid.meter.peak ≤ max 0 (job_bound Verify file 1)) (λ file. new.meter.peak ≤ max mid.meter.peak (job_bound Verify file 1)) (λ file. new.meter.peak ≤ max 0 (job_bound Verify file 1)) (λ file first second. omega (arith, first, second)) c.peak peak

  -- `verify` stopped
  pub stopped_says : (stop : Stop) → VerifySays old.held limit old mid new (Err stop) → TextSays {X = Bool} Verify old.held limit W old new (Err stop)
  stopped_says stop v = record {
    of_file = tt;
    lines = v.lines;
    first_fault = v.first_fault;
    answered = v.answered;
    cause = v.cause;
    silent = v.silent;
    live = v.live;
    limit_is = v.limit_is;
    peak = peak_both v.peak;
    exact = tt;
    unread = λ low. absurd (omega (arith, low, block_within limit ample));
    most = most_both v.most;
    held_is = v.held_is;
    touched = both_read join old.held old.ranges mid.ranges new.ranges c.touched v.touched;
    told_ranges = λ told. v.told_ranges (c.told_ranges told);
    told = v.told;
    source_counts = v.source_counts;
    text_counts = v.text_counts;
  }

  -- `verify` was done

  peak_first : (held : Option (List ℕ)) → IfSome held (λ file. mid.meter.peak ≤ max 0 (job_bound Verify file 1)) → IfSome held (λ file. new.meter.peak ≤ max mid.meter.peak (job_bound Verify file 1)) →
      IfSome held (λ file. new.meter.peak ≡ max mid.meter.peak (highest (job_takings Verify file 1))) → IfSome held (λ file. verified_peak held ≤ max 0 (job_bound Verify file 1))
  peak_first None first second exact = tt
  peak_first (Some file) first second exact = omega (arith, first, second, exact)

  most_first : (held : Option (List ℕ)) → mid.meter.peak ≤ max 0 (greatest_bound Verify 1) → new.meter.peak ≤ max mid.meter.peak (greatest_bound Verify 1) →
      IfSome held (λ file. new.meter.peak ≡ max mid.meter.peak (highest (job_takings Verify file 1))) → verified_peak held ≤ max 0 (greatest_bound Verify 1)
  most_first None first second exact = omega arith
  most_first (Some file) first second exact = omega (arith, first, second, exact)

  exact_first : (held : Option (List ℕ)) → IfSome held (λ file. verified_peak held ≡ max 0 (highest (job_takings Verify file 1)))
  exact_first None = tt
  exact_first (Some file) = omega arith

  first_says : (right : Bool) → VerifySays old.held limit old mid new (Ok right) → TextSays {X = Bool} Verify old.held limit W old (as_if_first old limit new) (Ok right)
  first_says right v = record {
    of_file = tt;
    lines = v.lines;
    first_fault = v.first_fault;
    answered = v.answered;
    cause = v.cause;
    silent = v.silent;
    live = refl;
    limit_is = refl;
    peak = peak_first old.held c.peak v.peak v.exact;
    exact = exact_first old.held;
    unread = λ low. absurd (omega (arith, low, block_within limit ample));
    most = most_first old.held c.most v.most v.exact;
    held_is = v.held_is;
    touched = both_read join old.held old.ranges mid.ranges new.ranges c.touched v.touched;
    told_ranges = λ told. v.told_ranges (c.told_ranges told);
    told = v.told;
    source_counts = v.source_counts;
    text_counts = v.text_counts;
  }

  -- and then the line of the comparison
  module _ (last : TextIs) (found : Result Bool Fault) (is : found_of r ≡ Ok found) where
    -- what it found is what the comparison said
    strict_ok : (same : Bool) → found ≡ Ok same → r ≡ Ok same
    strict_ok same e = answered_ok r same (is ∙ ap Ok e)

    strict_fault : (x : Fault) → found ≡ Err x → r ≡ Err (StopRefused x)
    strict_fault x e = answered_fault r x (is ∙ ap Ok e)

    right_of : (answer : Result Bool Stop) → IfOk answer (λ same. found ≡ Ok same) → IfOk answer (λ same. IfSome old.held (IsStrictAsSaid same))
    right_of (Ok same) e = subst (λ (a : Result Bool Stop). IfOk a (λ s. IfSome old.held (IsStrictAsSaid s))) (strict_ok same e) c.right
    right_of (Err stop) e = tt

    front_said : (held : Option (List ℕ)) (same : Bool) → IfSome held (IsStrictAsSaid same) → MayAppend (strict_text same) new.text.contents last.contents →
        IfSome held (λ file. (other : Bool) → IsStrictAsSaid other file → MayAppend (strict_text other) new.text.contents last.contents)
    front_said None same said got = tt
    front_said (Some file) same said got = λ other also. subst (λ (b : Bool). MayAppend (strict_text b) new.text.contents last.contents) (same_said file same other said also) got

    front_of : (f : Result Bool Fault) → found ≡ f → IfOk f (λ same. MayAppend (strict_text same) new.text.contents last.contents) → IfErr f (λ x. (last.contents ≡ new.text.contents) × (last.tally ≡ new.text.tally)) →
        IfSome old.held (λ file. (same : Bool) → IsStrictAsSaid same file → MayAppend (strict_text same) new.text.contents last.contents)
    front_of (Ok same) e got silent = front_said old.held same (right_of (Ok same) e) got
    front_of (Err x) e got silent = always old.held (λ file. (same : Bool) → IsStrictAsSaid same file → MayAppend (strict_text same) new.text.contents last.contents)
        (λ file. λ same said. nothing_got (strict_text same) new.text.contents last.contents silent.0)

    silent_of : (f : Result Bool Fault) (x : Fault) → f ≡ Err x → IfErr f (λ y. (last.contents ≡ new.text.contents) × (last.tally ≡ new.text.tally)) → (last.contents ≡ new.text.contents) × (last.tally ≡ new.text.tally)
    silent_of (Ok same) x e p = absurd cc
    silent_of (Err y) x e p = p

    refused_of : (answer : Result Bool Stop) → IfRefused answer (λ x. found ≡ Err x) → IfErr found (λ y. (last.contents ≡ new.text.contents) × (last.tally ≡ new.text.tally)) →
        IfRefused answer (λ x. (last.contents ≡ new.text.contents) × (last.tally ≡ new.text.tally))
    refused_of (Ok same) e p = tt
    refused_of (Err (StopRefused x)) e p = silent_of found x e p
    refused_of (Err StopRead) e p = tt
    refused_of (Err StopWrite) e p = tt
    refused_of (Err (StopLimit live asked told)) e p = tt
    refused_of (Err StopMemory) e p = tt

    fault_of : (answer : Result Bool Stop) → IfSome old.held (λ file. IsFirstFault Verify file None) → IfRefused answer (λ x. found ≡ Err x) → TellsFirstFault Verify old.held answer
    fault_of (Ok same) sound e = sound
    fault_of (Err (StopRefused x)) sound e = subst (λ (a : Result Bool Stop). TellsFirstFault Verify old.held a) (strict_fault x e) c.first_fault
    fault_of (Err StopRead) sound e = tt
    fault_of (Err StopWrite) sound e = tt
    fault_of (Err (StopLimit live asked told)) sound e = tt
    fault_of (Err StopMemory) sound e = tt

    answer_of : (answer : Result Bool Stop) → ComparesFor new.source new.source new.text.tally last.tally limit answer → Answers Verify old.held new.source new.source new.text.tally last.tally limit 1 answer
    answer_of (Ok same) cause = λ unread still. always old.held (λ file. job_bound Verify file 1 ≤ limit → IsAnswer {X = Bool} (Ok same)) (λ file. λ enough. tt)
    answer_of (Err (StopRefused x)) cause = λ unread still. always old.held (λ file. job_bound Verify file 1 ≤ limit → IsAnswer {X = Bool} (Err (StopRefused x))) (λ file. λ enough. tt)
    answer_of (Err StopRead) cause = λ unread still. absurd (unread (cause.read_fault refl))
    answer_of (Err StopWrite) cause = λ unread still. absurd (still (cause.write_fault refl))
    answer_of (Err (StopLimit live asked told)) cause = λ unread still. never_over (IfSome old.held (λ file. job_bound Verify file 1 ≤ limit → IsAnswer {X = Bool} (Err (StopLimit live asked told)))) limit live asked told ample cause.over_limit
    answer_of (Err StopMemory) cause = λ unread still. always old.held (λ file. job_bound Verify file 1 ≤ limit → IsAnswer {X = Bool} (Err StopMemory)) (λ file. λ enough. tt)

    -- no taking of the comparison exceeded the limit
    none_past : (a : Result Bool Stop) (f : Result Bool Fault) → found_of a ≡ Ok f → IfSome old.held (λ file. TellsFirstPast limit (strict_takings file) a) → IfSome old.held (λ file. first_past limit (strict_takings file) ≡ None)
    none_past (Ok same) f e past = past
    none_past (Err (StopRefused x)) f e past = past
    none_past (Err StopRead) f e past = absurd cc
    none_past (Err StopWrite) f e past = absurd cc
    none_past (Err (StopLimit live asked told)) f e past = absurd cc
    none_past (Err StopMemory) f e past = absurd cc

    past_of : (answer : Result Bool Stop) → TellsLimit limit (greatest_bound Verify 1) answer → IfSome old.held (λ file. first_past limit (strict_takings file) ≡ None) → IfSome old.held (λ file. TellsFirstPast limit (strict_takings file) answer)
    past_of (Ok same) over none = none
    past_of (Err (StopRefused x)) over none = none
    past_of (Err StopRead) over none = always old.held (λ file. TellsFirstPast {X = Bool} limit (strict_takings file) (Err StopRead)) (λ file. tt)
    past_of (Err StopWrite) over none = none
    past_of (Err (StopLimit live asked told)) over none = never_over (IfSome old.held (λ file. TellsFirstPast {X = Bool} limit (strict_takings file) (Err (StopLimit live asked told)))) limit live asked told ample over
    past_of (Err StopMemory) over none = always old.held (λ file. TellsFirstPast {X = Bool} limit (strict_takings file) (Err StopMemory)) (λ file. tt)

    peak_last : (held : Option (List ℕ)) → IfSome held (λ file. mid.meter.peak ≤ max 0 (job_bound Verify file 1)) → IfSome held (λ file. new.meter.peak ≤ max mid.meter.peak (job_bound Verify file 1)) →
        IfSome held (λ file. new.meter.peak ≤ max (verified_peak held) (job_bound Verify file 1))
    peak_last None first second = tt
    peak_last (Some file) first second = omega (arith, first, second)

    exact_last : (held : Option (List ℕ)) → IfSome held (λ file. mid.meter.peak ≡ max 0 (highest (strict_takings file))) → IfSome held (λ file. new.meter.peak ≡ max mid.meter.peak (highest (job_takings Verify file 1))) →
        IfSome held (λ file. new.meter.peak ≡ max (verified_peak held) (highest (strict_takings file)))
    exact_last None first second = tt
    exact_last (Some file) first second = omega (arith, first, second)

    exact_of : (answer : Result Bool Stop) → IfOk answer (λ same. found ≡ Ok same) → IfSome old.held (λ file. new.meter.peak ≡ max mid.meter.peak (highest (job_takings Verify file 1))) →
        OnOk answer (IfSome old.held (λ file. new.meter.peak ≡ max (verified_peak old.held) (highest (strict_takings file))))
    exact_of (Ok same) e exact =
        exact_last old.held (subst (λ (a : Result Bool Stop). OnOk a (IfSome old.held (λ file. mid.meter.peak ≡ max 0 (highest (strict_takings file))))) (strict_ok same e) c.exact) exact
    exact_of (Err stop) e exact = tt

    last_says : (right : Bool) → VerifySays old.held limit old mid new (Ok right) → (answer : Result Bool Stop) → PrintSays limit new last found answer → ComparedSays old.held limit (as_if_first old limit new) (at_last new last) answer
    last_says right v answer q = record {
      right = right_of answer q.right;
      line = q.line;
      front = front_of found refl q.front q.silent;
      over_limit = q.over_limit;
      refused = refused_of answer q.refused q.silent;
      first_fault = fault_of answer v.first_fault q.refused;
      answered = answer_of answer q.cause;
      cause = q.cause;
      first_past = past_of answer q.cause.over_limit (none_past r found is c.cause.first_past);
      live = v.live;
      limit_is = v.limit_is;
      peak = peak_last old.held c.peak v.peak;
      most = let most : new.meter.peak ≤ max 0 (greatest_bound Verify 1) = most_both v.most in omega (arith, most);
      exact = exact_of answer q.right v.exact;
      held_is = refl;
      touched = nothing_read Verify old.held new.ranges new.ranges refl;
      told_ranges = λ told. told;
      told = q.told;
      source_counts = kept_by new.source new.source refl;
      text_counts = q.counts;
    }

-- the promises of what was asked, if the limit is that of the meter or of the words
module _ (only : HasNoOtherFault) (join : LogsJoinLaw) (W memory : ℕ) (input output : List ℕ) (old mid new : Ends) (last : TextIs) (same : new.sink ≡ old.sink) (empty : IfSome new.sink.contents (λ c. c ≡ [])) (ample : greatest_bound Verify 1 ≤ min old.meter.limit memory)
    (r : Result Bool Stop) (c : StrictSays old.held (min old.meter.limit memory) old mid r) (found : Result Bool Fault) (is : found_of r ≡ Ok found) (right : Bool) (reports : Reports old.text.contents new.text.contents right) where
  pub last_promised : VerifySays old.held (min old.meter.limit memory) old mid new (Ok right) → (answer : Result Bool Stop) → PrintSays (min old.meter.limit memory) new last found answer →
      IsPromised (asked_with W memory input output true) old (at_last new last) (done_of answer)
  last_promised v answer q =
      let limit : ℕ = min old.meter.limit memory in
      let first : Ends = as_if_first old limit new in
      let verified : IsPromised (asked_with W memory input output false) old first (Ok tt) =
      text_promised Verify verifies W false refl memory input output old first same empty (Ok right) (first_says join limit W old mid new ample r c right v) in
      compared only W memory input output old first (at_last new last) same empty join answer right reports verified (last_says join limit W old mid new ample r c last found is right v answer q)
