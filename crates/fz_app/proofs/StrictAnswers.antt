-- What is promised of the answer of `verify --strict`: what `verify` says of its part, and then, if it was done, what the comparison says.
use Rattle.std.proofs.Common.{◌≡◌, ℕ, ◌≤◌, max, min, Bool, true, false, List, [], refl, sym, ap, ◌∙◌, subst, arith, inl, inr}
use Rattle.std.specs.Prelude.{◌⊎◌, ◌&&◌, not, Option, Some, None, IfOk, IfSome, IsSome, Result, Ok, Err, IsErrOf, OnOk}
use Rattle.fz_base.specs.Counts.{CountsKept, Rose, Tally, nameless}
use Rattle.fz_base.specs.Ranges.{LogsJoinLaw}
use Rattle.fz_base.specs.Sink.{MayAppend, appended}
use Rattle.fz_base.specs.Stop.{IfRefused}
use Rattle.fz_base.specs.Takings.{TellsFirstPast, first_past, highest}
use Rattle.fz_base.specs.Told.{StaysTold}
use Rattle.fz_base.specs.declared.failure.Stop.{Stop}
use Rattle.fz_base.specs.declared.failure.Stop.TheVariants.{Refused as StopRefused, ReadFault as StopRead, WriteFault as StopWrite, OverLimit as StopLimit, NoMemory as StopMemory}
use Rattle.fz_files.specs.Buffers.{job_bound, job_takings}
use Rattle.fz_files.specs.FirstFault.{IsFirstFault}
use Rattle.fz_files.specs.Touched.{touched_by}
use Rattle.fz_files.specs.declared.job.Job.TheVariants.{Verify}
use Rattle.fz_laws.specs.RoundTrip.{HasNoOtherFault}
use Rattle.fz_job.specs.Clauses.{Answers, IfOverLimit, IsAnswer, TellsFirstFault, greatest_bound}
use Rattle.fz_strict.specs.Clauses.{IsStrictAsSaid, strict_takings}
use Rattle.fz_verify.specs.Clauses.{IsRightAsSaid}
use Rattle.fz_verify.specs.Reported.{Reports}
use Rattle.fz_words.specs.Jobs.{Asked}
use Rattle.fz_app.specs.Answer.{IsRightBy, done_of}
use Rattle.fz_app.specs.Asked.{is_write_fault, takings_with}
use Rattle.fz_app.specs.Causes.{ComparesFor}
use Rattle.fz_app.specs.Ends.{Ends, IsSameSink, SinkIs}
use Rattle.fz_app.specs.Lines.{strict_text}
use Rattle.fz_app.specs.Outputs.{ReadsTouched}
use Rattle.fz_app.specs.Printed.{GotAll, HasPrinted, ReportsBy}
use Rattle.fz_app.specs.Promised.{IsPromised}
use Rattle.fz_app.specs.Names.{JobNames}
use Rattle.fz_app.proofs.JobAnswers.{always_ok}
use Rattle.fz_app.proofs.NamesAnswers.{once_done, once_more}
use Rattle.fz_app.proofs.PackAnswers.{empty_is_shut}
use Rattle.fz_app.proofs.StrictLines.{all_lines, all_silent, stopped_lines, stopped_silent}
use Rattle.fz_app.proofs.StrictTakings.{all_highest, compared_is, not_compared, past_none, past_some}
use Rattle.fz_app.proofs.Tallies.{kept_by, kept_twice, nameless_ok}
use Rattle.fz_app.proofs.TextAnswers.{always_err, answer_done, empty_output, error_done, fault_done, limit_done, none_restored, ok_done, refused_done, same_sink, verifies}

-- ---- facts of a file, if it is told

with_told : (held : Option (List ℕ)) (P Q R : List ℕ → Type 0) → ((file : List ℕ) → P file → Q file → R file) → IfSome held P → IfSome held Q → IfSome held R
with_told None P Q R f p q = tt
with_told (Some file) P Q R f p q = f file p q

-- what is read one after another
pub both_read : LogsJoinLaw → (held : Option (List ℕ)) (old mid new : Option (List (ℕ × ℕ))) → ReadsTouched Verify held old mid → ReadsTouched Verify held mid new → ReadsTouched Verify held old new
both_read join None old mid new first second = tt
both_read join (Some file) old mid new first second = join (touched_by Verify file) old mid new first second

answers_by : (r : Result Bool Stop) (held : Option (List ℕ)) (limit : ℕ) → IfSome held (λ file. job_bound Verify file 1 ≤ limit → IsAnswer r) → IfSome held (λ file. job_bound Verify file 1 ≤ limit → IsAnswer (done_of r))
answers_by r None limit p = tt
answers_by r (Some file) limit p = λ room. answer_done r (p room)

-- ---- `verify` stopped

module _ (only : HasNoOtherFault) (limit : ℕ) (takings : List (ℕ × ℕ)) (file : List ℕ) where
  stopped_past : (stop : Stop) → TellsFirstFault {X = Unit {0}} Verify (Some file) (Err stop) → TellsFirstPast {X = Unit {0}} limit takings (Err stop) →
      TellsFirstPast {X = Unit {0}} limit (takings_with (true && not (is_write_fault (Err stop))) file takings) (Err stop)
  stopped_past (StopRefused x) first past = not_compared file takings x (only Verify file (Some x) first) limit past
  stopped_past StopRead first past = tt
  stopped_past StopWrite first past = past
  stopped_past (StopLimit live asked told) first past = past_some limit (live, asked) takings _ past
  stopped_past StopMemory first past = tt

module _ (only : HasNoOtherFault) (W memory : ℕ) (input output : List ℕ) (old new : Ends) where
  abbrev pub asked : Bool → Asked
  asked strict = record { job = Verify; workers = W; strict = strict; memory = memory; input = input; output = output }

  -- what `verify` promises is promised where the file was to be compared afterwards
  past_held : (held : Option (List ℕ)) (limit : ℕ) (stop : Stop) → TellsFirstFault {X = Unit {0}} Verify held (Err stop) → IfSome held (λ file. TellsFirstPast {X = Unit {0}} limit (job_takings Verify file W) (Err stop)) →
      IfSome held (λ file. TellsFirstPast {X = Unit {0}} limit (takings_with (true && not (is_write_fault (Err stop))) file (job_takings Verify file W)) (Err stop))
  past_held None limit stop first past = tt
  past_held (Some file) limit stop first past = stopped_past only limit (job_takings Verify file W) file stop first past

  stopped_text : (held : Option (List ℕ)) (limit : ℕ) (stop : Stop) → HasPrinted false Verify held limit W old.text new.text (Err stop) → HasPrinted true Verify held limit W old.text new.text (Err stop)
  stopped_text held limit stop p = record {
    lines = stopped_lines held old.text.contents new.text.contents stop p.lines;
    silent = stopped_silent held limit W _ _ stop p.silent;
    done = p.done;
    refused = p.refused;
    write_fault = p.write_fault;
    told = p.told;
    counts = p.counts;
  }

  pub stopped : (stop : Stop) → IsPromised (asked false) old new (Err stop) → IsPromised (asked true) old new (Err stop)
  stopped stop p = record {
    restored = p.restored;
    output = p.output;
    slice = p.slice;
    first_fault = p.first_fault;
    answered = p.answered;
    first_byte = p.first_byte;
    live = p.live;
    limit = p.limit;
    peak = p.peak;
    exact = tt;
    done = p.done;
    refused = p.refused;
    read_fault = p.read_fault;
    write_fault = p.write_fault;
    most = p.most;
    told_limit = p.told_limit;
    first_past = past_held old.held _ stop p.first_fault p.first_past;
    block = p.block;
    unread = p.unread;
    unmade = p.unmade;
    faulty = tt;
    held_is = p.held_is;
    touched = p.touched;
    told_ranges = p.told_ranges;
    told_contents = p.told_contents;
    source_counts = p.source_counts;
    sink_counts = p.sink_counts;
    text_counts = p.text_counts;
    printed = stopped_text old.held _ stop p.printed;
  }

  -- whether the file was to be compared or not
  pub any_stopped : (strict : Bool) (stop : Stop) → IsPromised (asked false) old new (Err stop) → IsPromised (asked strict) old new (Err stop)
  any_stopped false stop p = p
  any_stopped true stop p = stopped stop p

-- ---- `verify` was done, and the file was compared

-- what the comparison says of source, text and meter, as they were behind `verify` and after it
pub record ComparedSays (held : Option (List ℕ)) (limit : ℕ) (mid new : Ends) (answer : Result Bool Stop) : Type 0 where
  pub right : IfOk answer (λ same. IfSome held (IsStrictAsSaid same))
  pub line : IfOk answer (λ same. new.text.contents ≡ appended (strict_text same) mid.text.contents)
  pub front : IfSome held (λ file. (same : Bool) → IsStrictAsSaid same file → MayAppend (strict_text same) mid.text.contents new.text.contents)
  pub over_limit : IfOverLimit answer ((new.text.contents ≡ mid.text.contents) × (new.text.tally ≡ mid.text.tally))
  pub refused : IfRefused answer (λ x. (new.text.contents ≡ mid.text.contents) × (new.text.tally ≡ mid.text.tally))
  pub first_fault : TellsFirstFault Verify held answer
  pub answered : Answers Verify held mid.source new.source mid.text.tally new.text.tally limit 1 answer
  pub cause : ComparesFor mid.source new.source mid.text.tally new.text.tally limit answer
  pub first_past : IfSome held (λ file. TellsFirstPast limit (strict_takings file) answer)
  pub live : new.meter.live ≡ 0
  pub limit_is : new.meter.limit ≡ limit
  pub peak : IfSome held (λ file. new.meter.peak ≤ max mid.meter.peak (job_bound Verify file 1))
  pub most : new.meter.peak ≤ max mid.meter.peak (greatest_bound Verify 1)
  pub exact : OnOk answer (IfSome held (λ file. new.meter.peak ≡ max mid.meter.peak (highest (strict_takings file))))
  pub held_is : new.held ≡ mid.held
  pub touched : ReadsTouched Verify held mid.ranges new.ranges
  pub told_ranges : StaysTold mid.ranges new.ranges
  pub told : StaysTold mid.text.contents new.text.contents
  pub source_counts : CountsKept mid.source new.source
  pub text_counts : CountsKept mid.text.tally new.text.tally

-- what is said of the counts of the source is said of them without names
pub compares_nameless : {X : Type 0} (source source' text text' : Tally) (limit : ℕ) (r : Result X Stop) → ComparesFor source source' text text' limit r → ComparesFor (nameless source) (nameless source') text text' limit r
compares_nameless source source' text text' limit r cause = record {
  done = nameless_ok r source source' text text' cause.done;
  refused = λ is. (ap nameless (cause.refused is).0, (cause.refused is).1);
  read_fault = cause.read_fault;
  write_fault = cause.write_fault;
  over_limit = cause.over_limit;
}

most_of : (before now most : ℕ) → before ≤ most → now ≤ max before most → now ≤ most
most_of before now most first second = omega (arith, first, second)

-- a job that was done passed the limit of no block
no_block : (P : Type 0) (a b c : Stop) → IsErrOf {T = Unit {0}} (Ok tt) a ⊎ (IsErrOf {T = Unit {0}} (Ok tt) b ⊎ IsErrOf {T = Unit {0}} (Ok tt) c) → P
no_block P a b c (inl e) = absurd cc
no_block P a b c (inr (inl e)) = absurd cc
no_block P a b c (inr (inr e)) = absurd cc

on_ok : {X : Type 0} (r : Result X Stop) (P Q : Type 0) → (P → Q) → OnOk r P → OnOk r Q
on_ok (Ok x) P Q f p = f p
on_ok (Err stop) P Q f p = tt

module _ (only : HasNoOtherFault) (W : ℕ) where
  chain : (limit : ℕ) (takings : List (ℕ × ℕ)) (file : List ℕ) → IsFirstFault Verify file None → first_past limit takings ≡ None → first_past limit (takings_with true file takings) ≡ first_past limit (strict_takings file)
  chain limit takings file sound none = ap (first_past limit) (compared_is file takings (only Verify file None sound)) ∙ past_none limit takings (strict_takings file) none

  past_by : (limit : ℕ) (takings : List (ℕ × ℕ)) (file : List ℕ) (r : Result Bool Stop) → IsFirstFault Verify file None → first_past limit takings ≡ None → TellsFirstPast limit (strict_takings file) r →
      TellsFirstPast limit (takings_with (true && not (is_write_fault (done_of r))) file takings) (done_of r)
  past_by limit takings file (Ok same) sound none past = chain limit takings file sound none ∙ past
  past_by limit takings file (Err (StopRefused x)) sound none past = chain limit takings file sound none ∙ past
  past_by limit takings file (Err StopRead) sound none past = tt
  past_by limit takings file (Err StopWrite) sound none past = none
  past_by limit takings file (Err (StopLimit live asked told)) sound none past = chain limit takings file sound none ∙ past
  past_by limit takings file (Err StopMemory) sound none past = tt

  past_both : (held : Option (List ℕ)) (limit : ℕ) (r : Result Bool Stop) → IfSome held (λ file. IsFirstFault Verify file None) → IfSome held (λ file. first_past limit (job_takings Verify file W) ≡ None) → IfSome held (λ file. TellsFirstPast limit (strict_takings file) r) →
      IfSome held (λ file. TellsFirstPast limit (takings_with (true && not (is_write_fault (done_of r))) file (job_takings Verify file W)) (done_of r))
  past_both None limit r sound none past = tt
  past_both (Some file) limit r sound none past = past_by limit (job_takings Verify file W) file r sound none past

  exact_held : (held : Option (List ℕ)) (before now : ℕ) → IfSome held (λ file. IsFirstFault Verify file None) → IfSome held (λ file. before ≡ highest (job_takings Verify file W)) → IfSome held (λ file. now ≡ max before (highest (strict_takings file))) →
      IfSome held (λ file. now ≡ highest (takings_with true file (job_takings Verify file W)))
  exact_held None before now sound first second = tt
  exact_held (Some file) before now sound first second = all_highest file (job_takings Verify file W) (only Verify file None sound) before now first second

  exact_both : (r : Result Bool Stop) (held : Option (List ℕ)) (before now : ℕ) → IfSome held (λ file. IsFirstFault Verify file None) → IfSome held (λ file. before ≡ highest (job_takings Verify file W)) → OnOk r (IfSome held (λ file. now ≡ max before (highest (strict_takings file)))) →
      OnOk (done_of r) (IfSome held (λ file. now ≡ highest (takings_with true file (job_takings Verify file W))))
  exact_both (Ok same) held before now sound first second = exact_held held before now sound first second
  exact_both (Err stop) held before now sound first second = tt

  module _ (memory : ℕ) (input output : List ℕ) (old mid new : Ends) (same : new.sink ≡ old.sink) (empty : IfSome new.sink.contents (λ c. c ≡ [])) where
    abbrev pub verified : Bool → Asked
    verified strict = record { job = Verify; workers = W; strict = strict; memory = memory; input = input; output = output }

    -- what the text got
    text_of : (limit : ℕ) (answer : Result Bool Stop) (right : Bool) → Reports old.text.contents mid.text.contents right → IfSome old.held (λ file. IsFirstFault Verify file None) → IfSome old.held (λ file. first_past limit (job_takings Verify file W) ≡ None) → mid.text.tally ≡ old.text.tally →
        HasPrinted false Verify old.held limit W old.text mid.text (Ok tt) → ComparedSays old.held limit mid new answer → HasPrinted true Verify old.held limit W old.text new.text (done_of answer)
    text_of limit answer right reports sound none quiet p s = record {
      lines = all_lines only old.text.contents mid.text.contents new.text.contents old.held answer sound p.lines s.right s.line s.front s.first_fault;
      silent = all_silent only old.held limit W answer ((new.text.contents ≡ mid.text.contents) × (new.text.tally ≡ mid.text.tally)) _ _
          (λ stays. subst (λ (t : Option (List ℕ)). GotAll old.held old.text.contents t) (sym stays.0) (record { lines = p.lines; reported = (right, reports) }))
          sound none s.first_fault s.over_limit s.refused;
      done = ok_done answer _ (on_ok answer ((new.source ≡ mid.source) × (new.text.tally ≡ mid.text.tally)) (new.text.tally ≡ old.text.tally) (λ stays. stays.1 ∙ quiet) s.cause.done);
      refused = λ is. (s.cause.refused (refused_done answer is)).1 ∙ quiet;
      write_fault = λ is. subst (λ (t : Tally). Rose t.faults new.text.tally.faults) quiet (s.cause.write_fault (error_done answer StopWrite is));
      told = λ told. s.told (p.told told);
      counts = kept_twice old.text.tally mid.text.tally new.text.tally p.counts s.text_counts;
    }

    -- the promises of `verify --strict`, of which `verify` was done
    pub compared : LogsJoinLaw → (answer : Result Bool Stop) (right : Bool) → Reports old.text.contents mid.text.contents right → IsPromised (verified false) old mid (Ok tt) → ComparedSays old.held mid.meter.limit mid new answer → IsPromised (verified true) old new (done_of answer)
    compared join answer right reports p s =
        let limit : mid.meter.limit ≡ min old.meter.limit memory = p.limit in
        let says : ComparedSays old.held (min old.meter.limit memory) mid new answer = subst (λ (n : ℕ). ComparedSays old.held n mid new answer) limit s in
        let source : mid.source ≡ old.source = p.done.0 in
        let quiet : mid.text.tally ≡ old.text.tally = p.done.2 in
        let stays : new.sink.tally ≡ old.sink.tally = ap (λ (k : SinkIs). k.tally) same in
        record {
          restored = always_ok (done_of answer) _ (none_restored Verify verifies old.held new.sink.contents);
          output = always_ok (done_of answer) _ (empty_output Verify verifies old.held new.sink.contents empty, tt);
          slice = always_ok (done_of answer) _ tt;
          first_fault = fault_done answer Verify old.held says.first_fault;
          answered = λ unread still. answers_by answer old.held (min old.meter.limit memory)
              (says.answered (subst (λ (t : Tally). ¬ Rose t.faults new.source.faults) (sym source) (unread tt)) (subst (λ (t : Tally). ¬ Rose t.faults new.text.tally.faults) (sym quiet) still));
          first_byte = always_err (done_of answer) _ (inl (empty_is_shut new.sink.contents empty));
          live = says.live;
          limit = says.limit_is;
          peak = with_told old.held (λ file. mid.meter.peak ≤ job_bound Verify file 1) (λ file. new.meter.peak ≤ max mid.meter.peak (job_bound Verify file 1)) (λ file. new.meter.peak ≤ job_bound Verify file 1) (λ file first second. omega (arith, first, second)) p.peak says.peak;
          exact = exact_both answer old.held mid.meter.peak new.meter.peak p.first_fault p.exact says.exact;
          done = ok_done answer _ (on_ok answer ((new.source ≡ mid.source) × (new.text.tally ≡ mid.text.tally)) _ (λ all. (all.0 ∙ source, stays, all.1 ∙ quiet)) says.cause.done);
          refused = λ is. let all = says.cause.refused (refused_done answer is) in (tt, (all.0 ∙ source, stays, all.1 ∙ quiet));
          read_fault = λ is. (tt, subst (λ (t : Tally). Rose t.faults new.source.faults) source (says.cause.read_fault (error_done answer StopRead is)));
          write_fault = λ is. subst (λ (t : Tally). Rose t.faults new.text.tally.faults) quiet (says.cause.write_fault (error_done answer StopWrite is));
          most = most_of mid.meter.peak new.meter.peak (greatest_bound Verify 1) p.most says.most;
          told_limit = limit_done answer (min old.meter.limit memory) (greatest_bound Verify 1) says.cause.over_limit;
          first_past = past_both old.held (min old.meter.limit memory) answer p.first_fault p.first_past says.first_past;
          block = λ low. no_block _ _ _ _ (p.block low);
          unread = λ low. no_block _ _ _ _ (p.block low);
          unmade = same_sink Verify old.held (min old.meter.limit memory) W (IsSameSink old.sink new.sink) (done_of answer) (ap (λ (k : SinkIs). k.created) same, ap (λ (k : SinkIs). k.contents) same);
          faulty = tt;
          held_is = says.held_is ∙ p.held_is;
          touched = both_read join old.held old.ranges mid.ranges new.ranges p.touched says.touched;
          told_ranges = λ told. says.told_ranges (p.told_ranges told);
          told_contents = λ told. subst (λ (k : SinkIs). IsSome k.contents) (sym same) told;
          source_counts = kept_twice old.source mid.source new.source p.source_counts says.source_counts;
          sink_counts = kept_by old.sink.tally new.sink.tally stays;
          text_counts = kept_twice old.text.tally mid.text.tally new.text.tally p.text_counts says.text_counts;
          printed = text_of (min old.meter.limit memory) answer right reports p.first_fault p.first_past quiet p.printed says;
        }

-- ---- what is right

-- all is right if no sum is wrong and the file is strict
both_right : (held : Option (List ℕ)) (right same : Bool) → IfSome held (IsRightAsSaid right) → IfSome held (IsStrictAsSaid same) → IfSome held (IsRightBy true (right && same))
both_right None right same p q = tt
both_right (Some file) right same p q = (same, q, ap (λ b. b && same) p)

pub right_by : (strict : Bool) (held : Option (List ℕ)) (right same : Bool) → strict ≡ true → IfSome held (IsRightAsSaid right) → IfSome held (IsStrictAsSaid same) → IfSome held (IsRightBy strict (right && same))
right_by strict held right same e p q = subst (λ (b : Bool). IfSome held (IsRightBy b (right && same))) (sym e) (both_right held right same p q)

pub reports_by : (strict right same : Bool) (old mid new : Option (List ℕ)) → strict ≡ true → Reports old mid right → new ≡ appended (strict_text same) mid → ReportsBy strict old new (right && same)
reports_by strict right same old mid new e p q = subst (λ (b : Bool). ReportsBy b old new (right && same)) (sym e) (record { between = mid; sums = right; same = same; lines = p; line = q; both = refl })

-- ---- the names

module _ (W : ℕ) (strict : Bool) (memory : ℕ) (input output : List ℕ) (opened mid new made : Option (List (List ℕ))) where
  abbrev named : Asked
  named = record { job = Verify; workers = W; strict = strict; memory = memory; input = input; output = output }

  -- the comparison opens nothing
  pub names_after : {Y : Type 0} (r : Result Y Stop) → JobNames {X = Unit {0}} named opened mid made made (Ok tt) → new ≡ mid → JobNames named opened new made made (done_of r)
  names_after r names stays = record { source = once_done input opened new r (once_more input opened mid new r names.source.once.done stays); sink = refl }
