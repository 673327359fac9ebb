-- One HDU after another.
use Rattle.std.proofs.Common.{◌≡◌, ℕ, ◌+◌, ◌<◌, ◌≤◌, ◌^◌, not, true, List, length, Option, IfSome, Result, Ok, Err, refl, sym, ap, ◌∙◌, subst, inl, inr, arith, rules}
use Rattle.std.proofs.lemmas.List.{length-append, length-drop, length-take}
use Rattle.std.proofs.Math.Bool.{beq}
use Rattle.std.proofs.Math.Dec.{eqb}
use Rattle.fz_base.specs.Counts.{CountsKept, Tally}
use Rattle.fz_base.specs.Stop.{IfRefused, ReadsOnly, StoppedCoding, StoppedReading, CodesAndWrites}
use Rattle.fz_base.specs.declared.failure.Stop.TheVariants.{Refused, ReadFault, WriteFault, OverLimit, NoMemory}
use Rattle.fz_job.specs.Keeps.{Rewrites, StoppedRewriting}
use Rattle.fz_base.specs.declared.fault.Fault.{Fault as Refusal}
use Rattle.fz_job.specs.Clauses.{IsChanged}
use Rattle.fz_base.specs.Source.{HoldsLength, LogsWithin}
use Rattle.fz_base.specs.declared.failure.Stop.{Stop}
use Rattle.fz_block.specs.Checks.{header_touched}
use Rattle.fz_block.specs.Header.{next_start_of}
use Rattle.fz_pack.specs.Again.{ReadsAsSeen}
use Rattle.fz_pack.specs.Behind.{HoldsHdu, IsUnderway, RewritesSeen}
use Rattle.fz_pack.proofs.Ends.{not_at_end}
use Rattle.fz_pack.specs.Reads.{ReadsHdus}
use Rattle.fz_pack.proofs.HduReads.{no_hdu, one_hdu, one_header}
use Rattle.fz_pack.proofs.Underway.{ends_with_last, more_written, none_written, stops_changed, stops_reading, stops_writing}
use Rattle.fz_pack.proofs.file.write_hdus.Goals as goal

-- no count rose
unmoved : (t : Tally) → CountsKept t t
unmoved t = record { faults_kept = omega arith; wants_kept = omega arith; faults_stay = λ e. e; wants_stay = λ e. e; names_kept = refl; not_amended = refl }

still : (a b : Tally) → b ≡ a → CountsKept a b
still a b e = subst (CountsKept a) (sym e) (unmoved a)

rewrote : (s s' k k' : Tally) → s' ≡ s → k' ≡ k → Rewrites {X = Unit {0}} s s' k k' (Ok tt)
rewrote s s' k k' e f = record { source_kept = still s s' e; sink_kept = still k k' f; ok = (e, f); stop = tt }

refused_only : (s s' k k' : Tally) (stop : Stop) (x : Refusal) → stop ≡ Refused x → s' ≡ s → k' ≡ k → Rewrites {X = Unit {0}} s s' k k' (Err stop)
refused_only s s' k k' stop x is e f = subst (λ t. Rewrites {X = Unit {0}} s s' k k' (Err t)) (sym is)
    (record { source_kept = still s s' e; sink_kept = still k k' f; ok = tt; stop = (e, f) })

read_stop : (s s' k k' : Tally) (stop : Stop) → StoppedReading s s' stop → k' ≡ k → StoppedRewriting s s' k k' stop
read_stop s s' k k' (Refused x) why f = (why, f)
read_stop s s' k k' ReadFault why f = why
read_stop s s' k k' WriteFault why f = absurd why
read_stop s s' k k' (OverLimit live asked limit) why f = why
read_stop s s' k k' NoMemory why f = tt

read_fails : {X : Type 0} (s one s' k k' : Tally) (stop : Stop) (r : Result (Unit {0}) Stop) → r ≡ Err stop → one ≡ s → k' ≡ k → ReadsOnly {X = X} one s' (Err stop) → Rewrites s s' k k' r
read_fails s one s' k k' stop r is e f reads =
    subst (Rewrites s s' k k') (sym is) (record {
      source_kept = subst (λ t. CountsKept t s') e reads.kept;
      sink_kept = still k k' f;
      ok = tt;
      stop = read_stop s s' k k' stop (subst (λ t. StoppedReading t s' stop) e reads.stop) f;
    })

code_stop : (s s' k k' : Tally) (stop : Stop) → StoppedCoding s s' k k' stop → StoppedRewriting s s' k k' stop
code_stop s s' k k' (Refused x) why = absurd why
code_stop s s' k k' ReadFault why = why
code_stop s s' k k' WriteFault why = why
code_stop s s' k k' (OverLimit live asked limit) why = why
code_stop s s' k k' NoMemory why = tt

never_refused : (s s' k k' : Tally) (stop : Stop) → StoppedCoding s s' k k' stop → IfRefused {X = Unit {0}} (Err stop) IsChanged
never_refused s s' k k' (Refused x) why = absurd why
never_refused s s' k k' ReadFault why = tt
never_refused s s' k k' WriteFault why = tt
never_refused s s' k k' (OverLimit live asked limit) why = tt
never_refused s s' k k' NoMemory why = tt

code_fails : {X : Type 0} (s two s' k one k' : Tally) (stop : Stop) (r : Result (Unit {0}) Stop) → r ≡ Err stop → two ≡ s → one ≡ k → CodesAndWrites {X = X} two s' one k' (Err stop) → Rewrites s s' k k' r
code_fails s two s' k one k' stop r is e f codes =
    subst (Rewrites s s' k k') (sym is) (record {
      source_kept = subst (λ t. CountsKept t s') e codes.source_kept;
      sink_kept = subst (λ t. CountsKept t k') f codes.sink_kept;
      ok = tt;
      stop = code_stop s s' k k' stop (subst (λ t. StoppedCoding s s' t k' stop) f (subst (λ t. StoppedCoding t s' one k' stop) e codes.stop));
    })

pub loop-hdu-init : goal.loop-hdu-init
loop-hdu-init g c = record {
  held = refl;
  attached = refl;
  reads = refl;
  writes = refl;
  created = refl;
  shut = λ shut. shut;
  told_ranges = λ told. told;
  told_contents = λ told. told;
  read = no_hdu c.args.asked.now.options c.args.survey.now (g.S.Source.ranges c.args.source.now) (g.S.Source.held c.args.source.now);
  space = record { header = refl; translated = refl; copy = refl };
  window = record { sizes = refl; workers = refl };
  block = c.requires.block;
  within = λ more. inr (refl, refl);
  first = λ e. refl;
  behind = λ some. absurd (omega arith);
  early = omega arith;
  near = omega arith;
  written = none_written c.args.asked.now.options c.args.survey.now.header_len c.args.survey.now.tile c.args.survey.now.hdus (g.K.Sink.contents c.args.sink.now) (g.S.Source.held c.args.source.now);
}

pub returns-in_err-again-clause-written : goal.returns-in_err-again-clause-written
returns-in_err-again-clause-written g c =
    let o = c.args.asked.now.options in
    let s = c.args.survey.now in
    let k : ℕ = c.loop-hdu.hdu in
    let start : ℕ = c.loop-hdu.start in
    let held : Option (List ℕ) = g.S.Source.held c.args.source.now in
    let before : Option (List ℕ) = g.K.Sink.contents c.args.sink.now in
    let now : Option (List ℕ) = g.K.Sink.contents c.loop-hdu.sink in
    let few : k < s.hdus = omega arith in
    let stopped : c.from_residual.result ≡ Err c.in_err-again.field-0.0 = search rules in
    let long : length c.as_mut_slice-buf.result.now ≡ s.header_len = ap length c.as_mut_slice-buf.ensures.value ∙ c.loop-hdu.invariant.space.header ∙ c.requires.header in
    let seen : IfSome held (λ f. ReadsAsSeen o f k start s.header_len s.tile (Err c.in_err-again.field-0.0)) =
    subst (λ n. IfSome held (λ f. ReadsAsSeen o f k start n s.tile (Err c.in_err-again.field-0.0))) long
    (subst (λ (h : Option (List ℕ)). IfSome h (λ f. ReadsAsSeen o f k start (length c.as_mut_slice-buf.result.now) s.tile (Err c.in_err-again.field-0.0))) c.loop-hdu.invariant.held c.in_err-again.ensures.as_seen) in
    subst (λ (r : Result (Unit {0}) Stop). IfSome held (λ f. RewritesSeen o f s.header_len s.tile s.hdus before now r)) (sym stopped)
    (stops_reading o s.header_len s.tile s.hdus before (Unit {0}) held c.in_err-again.field-0.0 k start c.loop-hdu.at now now few c.loop-hdu.invariant.written seen)

pub returns-in_err-at-clause-written : goal.returns-in_err-at-clause-written
returns-in_err-at-clause-written g c =
    let o = c.args.asked.now.options in
    let s = c.args.survey.now in
    let held : Option (List ℕ) = g.S.Source.held c.args.source.now in
    let before : Option (List ℕ) = g.K.Sink.contents c.args.sink.now in
    let now : Option (List ℕ) = g.K.Sink.contents c.write_hdu.new.sink in
    let stopped : c.from_residual-in_err-at.result ≡ Err c.in_err-at.field-0.0 = search rules in
    subst (λ (r : Result (Unit {0}) Stop). IfSome held (λ f. RewritesSeen o f s.header_len s.tile s.hdus before now r)) (sym stopped)
    (stops_writing o s.header_len s.tile s.hdus before (Unit {0}) held (g.S.Source.tally c.read_again.new.source) (g.S.Source.tally c.write_hdu.new.source) (g.K.Sink.tally c.loop-hdu.sink) (g.K.Sink.tally c.write_hdu.new.sink) c.in_err-at.field-0.0 now c.in_err-at.ensures.cause.stop)

pub returns-then-start-length-clause-written : goal.returns-then-start-length-clause-written
returns-then-start-length-clause-written g c =
    let o = c.args.asked.now.options in
    let s = c.args.survey.now in
    let k : ℕ = c.loop-hdu.hdu in
    let start : ℕ = c.loop-hdu.start in
    let a = c.in_ok-again.again in
    let at : ℕ = c.loop-hdu.at in
    let end : ℕ = c.in_ok-at.at in
    let held : Option (List ℕ) = g.S.Source.held c.args.source.now in
    let before : Option (List ℕ) = g.K.Sink.contents c.args.sink.now in
    let mid : Option (List ℕ) = g.K.Sink.contents c.loop-hdu.sink in
    let now : Option (List ℕ) = g.K.Sink.contents c.write_hdu.new.sink in
    let few : k < s.hdus = omega arith in
    let long : length c.as_mut_slice-buf.result.now ≡ s.header_len = ap length c.as_mut_slice-buf.ensures.value ∙ c.loop-hdu.invariant.space.header ∙ c.requires.header in
    let seen : IfSome held (λ f. ReadsAsSeen o f k start s.header_len s.tile (Ok a)) =
    subst (λ n. IfSome held (λ f. ReadsAsSeen o f k start n s.tile (Ok a))) long
    (subst (λ (h : Option (List ℕ)). IfSome h (λ f. ReadsAsSeen o f k start (length c.as_mut_slice-buf.result.now) s.tile (Ok a))) c.loop-hdu.invariant.held c.in_ok-again.ensures.as_seen) in
    let holds : IfSome held (λ f. HoldsHdu o a.header f at end mid now) =
    subst (λ (h : Option (List ℕ)). IfSome h (λ f. HoldsHdu o a.header f at end mid now)) (c.in_ok-again.ensures.stays.0.held_is ∙ c.loop-hdu.invariant.held) c.in_ok-at.ensures.written in
    let more : IfSome held (IsUnderway o s.header_len s.tile s.hdus (k + 1) (next_start_of a.header) end before now) =
    more_written o s.header_len s.tile s.hdus before c.output_law.ensures.next held k start at end mid now a few c.loop-hdu.invariant.written seen c.in_ok-again.ensures.place.0 holds in
    let told : HoldsLength held c.args.asked.now.length = g.met.S.Source.agrees c.args.source.now c.args.asked.now.length c.requires.attached in
    let differ : not (beq (eqb (next_start_of a.header) c.args.asked.now.length) (eqb (k + 1) s.hdus)) ≡ true =
    subst (λ n. not (beq (eqb n c.args.asked.now.length) (eqb (k + 1) s.hdus)) ≡ true) c.next_start-start.ensures c.if-start-length.true in
    stops_changed o s.header_len s.tile s.hdus before (Unit {0}) held c.args.asked.now.length (k + 1) (next_start_of a.header) end now (Err c.changed.result) told differ more

pub loop-hdu-preserved : goal.loop-hdu-preserved
loop-hdu-preserved g c =
    let o = c.args.asked.now.options in
    let s = c.args.survey.now in
    let k : ℕ = c.loop-hdu.hdu in
    let start : ℕ = c.loop-hdu.start in
    let a = c.in_ok-again.again in
    let at : ℕ = c.loop-hdu.at in
    let end : ℕ = c.in_ok-at.at in
    let old = c.loop-hdu.invariant in
    let held : Option (List ℕ) = g.S.Source.held c.args.source.now in
    let before : Option (List ℕ) = g.K.Sink.contents c.args.sink.now in
    let mid : Option (List ℕ) = g.K.Sink.contents c.loop-hdu.sink in
    let now : Option (List ℕ) = g.K.Sink.contents c.write_hdu.new.sink in
    let few : k < s.hdus = omega arith in
    let long : length c.as_mut_slice-buf.result.now ≡ s.header_len = ap length c.as_mut_slice-buf.ensures.value ∙ old.space.header ∙ c.requires.header in
    let seen : IfSome held (λ f. ReadsAsSeen o f k start s.header_len s.tile (Ok a)) =
    subst (λ n. IfSome held (λ f. ReadsAsSeen o f k start n s.tile (Ok a))) long
    (subst (λ (h : Option (List ℕ)). IfSome h (λ f. ReadsAsSeen o f k start (length c.as_mut_slice-buf.result.now) s.tile (Ok a))) old.held c.in_ok-again.ensures.as_seen) in
    let holds : IfSome held (λ f. HoldsHdu o a.header f at end mid now) =
    subst (λ (h : Option (List ℕ)). IfSome h (λ f. HoldsHdu o a.header f at end mid now)) (c.in_ok-again.ensures.stays.0.held_is ∙ old.held) c.in_ok-at.ensures.written in
    let more : IfSome held (IsUnderway o s.header_len s.tile s.hdus (k + 1) (next_start_of a.header) end before now) =
    more_written o s.header_len s.tile s.hdus before c.output_law.ensures.next held k start at end mid now a few old.written seen c.in_ok-again.ensures.place.0 holds in
    let place : a.header.start ≡ start = c.in_ok-again.ensures.place.1 in
    let next : c.next_start-start.result ≡ next_start_of a.header = c.next_start-start.ensures in
    let inside : next_start_of a.header ≤ c.args.asked.now.length = c.in_ok-again.ensures.again.inside in
    let early : next_start_of a.header ≤ 2 ^ 62 = c.in_ok-again.ensures.again.near in
    let near : end + a.header.start ≤ at + 2 ^ 46 + next_start_of a.header = c.in_ok-at.ensures.end.near in
    let zero : Option (List (ℕ × ℕ)) = g.S.Source.ranges c.args.source.now in
    let one : Option (List (ℕ × ℕ)) = g.S.Source.ranges c.loop-hdu.source in
    let two : Option (List (ℕ × ℕ)) = g.S.Source.ranges c.read_again.new.source in
    let reads : IfSome held (λ f. LogsWithin start (header_touched k start f) one two) = subst (λ (h : Option (List ℕ)). IfSome h (λ f. LogsWithin start (header_touched k start f) one two)) old.held c.in_ok-again.ensures.read in
    let header : IfSome held (λ f. ReadsHdus o f s zero two) = one_header o s zero c.ranges_law.ensures.within c.ranges_law.ensures.join k start c.loop-hdu.at before mid few one two c.hdu_at_law.ensures.facts held old.written reads old.read in
    let three : Option (List (ℕ × ℕ)) = g.S.Source.ranges c.write_hdu.new.source in
    record {
      held = search rules;
      attached = search rules;
      reads = search rules;
      writes = search rules;
      created = search rules;
      shut = λ shut. c.in_ok-at.ensures.stays.1.shut (old.shut shut);
      told_ranges = λ told. c.in_ok-at.ensures.stays.0.told (c.in_ok-again.ensures.stays.0.told (old.told_ranges told));
      told_contents = λ told. c.in_ok-at.ensures.stays.1.told (old.told_contents told);
      read = one_hdu o s zero c.ranges_law.ensures.within c.ranges_law.ensures.join k start c.loop-hdu.at before mid few two three held a old.written seen c.in_ok-at.ensures.log header;
      space = record {
        header = omega (arith, c.in_ok-at.ensures.stays.2.header, old.space.header, c.in_ok-again.ensures.stays.1, length-take {A = ℕ}, length-append {A = ℕ}, length-drop {A = ℕ});
        translated = c.in_ok-at.ensures.stays.2.translated ∙ old.space.translated;
        copy = c.in_ok-at.ensures.stays.2.copy ∙ old.space.copy;
      };
      window = record { sizes = c.in_ok-at.ensures.stays.3.sizes ∙ old.window.sizes; workers = c.in_ok-at.ensures.stays.3.workers ∙ old.window.workers };
      block = c.in_ok-at.ensures.block;
      within = λ left. inl (not_at_end c.next_start-start.result c.args.asked.now.length (k + 1) s.hdus c.if-start-length.false left (omega (arith, next, inside)));
      first = λ e. absurd (omega (arith, e));
      behind = λ some. c.in_ok-at.ensures.end.some;
      early = omega (arith, next, early);
      near = omega (arith, next, near, place, old.near);
      written = subst (λ n. IfSome held (IsUnderway o s.header_len s.tile s.hdus (k + 1) n end before now)) (sym next) more;
    }

pub returns-in_err-again-clause-read : goal.returns-in_err-again-clause-read
returns-in_err-again-clause-read g c =
    let o = c.args.asked.now.options in
    let s = c.args.survey.now in
    let k : ℕ = c.loop-hdu.hdu in
    let start : ℕ = c.loop-hdu.start in
    let held : Option (List ℕ) = g.S.Source.held c.args.source.now in
    let before : Option (List ℕ) = g.K.Sink.contents c.args.sink.now in
    let mid : Option (List ℕ) = g.K.Sink.contents c.loop-hdu.sink in
    let old = c.loop-hdu.invariant in
    let few : k < s.hdus = omega arith in
    let zero : Option (List (ℕ × ℕ)) = g.S.Source.ranges c.args.source.now in
    let one : Option (List (ℕ × ℕ)) = g.S.Source.ranges c.loop-hdu.source in
    let two : Option (List (ℕ × ℕ)) = g.S.Source.ranges c.read_again.new.source in
    let reads : IfSome held (λ f. LogsWithin start (header_touched k start f) one two) = subst (λ (h : Option (List ℕ)). IfSome h (λ f. LogsWithin start (header_touched k start f) one two)) old.held c.in_err-again.ensures.read in
    one_header o s zero c.ranges_law.ensures.within c.ranges_law.ensures.join k start c.loop-hdu.at before mid few one two c.hdu_at_law.ensures.facts held old.written reads old.read

pub returns-in_err-at-clause-read : goal.returns-in_err-at-clause-read
returns-in_err-at-clause-read g c =
    let o = c.args.asked.now.options in
    let s = c.args.survey.now in
    let k : ℕ = c.loop-hdu.hdu in
    let start : ℕ = c.loop-hdu.start in
    let held : Option (List ℕ) = g.S.Source.held c.args.source.now in
    let before : Option (List ℕ) = g.K.Sink.contents c.args.sink.now in
    let mid : Option (List ℕ) = g.K.Sink.contents c.loop-hdu.sink in
    let old = c.loop-hdu.invariant in
    let few : k < s.hdus = omega arith in
    let zero : Option (List (ℕ × ℕ)) = g.S.Source.ranges c.args.source.now in
    let one : Option (List (ℕ × ℕ)) = g.S.Source.ranges c.loop-hdu.source in
    let two : Option (List (ℕ × ℕ)) = g.S.Source.ranges c.read_again.new.source in
    let reads : IfSome held (λ f. LogsWithin start (header_touched k start f) one two) = subst (λ (h : Option (List ℕ)). IfSome h (λ f. LogsWithin start (header_touched k start f) one two)) old.held c.in_ok-again.ensures.read in
    let header : IfSome held (λ f. ReadsHdus o f s zero two) = one_header o s zero c.ranges_law.ensures.within c.ranges_law.ensures.join k start c.loop-hdu.at before mid few one two c.hdu_at_law.ensures.facts held old.written reads old.read in
    let a = c.in_ok-again.again in
    let long : length c.as_mut_slice-buf.result.now ≡ s.header_len = ap length c.as_mut_slice-buf.ensures.value ∙ old.space.header ∙ c.requires.header in
    let seen : IfSome held (λ f. ReadsAsSeen o f k start s.header_len s.tile (Ok a)) =
    subst (λ n. IfSome held (λ f. ReadsAsSeen o f k start n s.tile (Ok a))) long
    (subst (λ (h : Option (List ℕ)). IfSome h (λ f. ReadsAsSeen o f k start (length c.as_mut_slice-buf.result.now) s.tile (Ok a))) old.held c.in_ok-again.ensures.as_seen) in
    let three : Option (List (ℕ × ℕ)) = g.S.Source.ranges c.write_hdu.new.source in
    one_hdu o s zero c.ranges_law.ensures.within c.ranges_law.ensures.join k start c.loop-hdu.at before mid few two three held a old.written seen c.in_err-at.ensures.log header

pub returns-then-start-length-clause-read : goal.returns-then-start-length-clause-read
returns-then-start-length-clause-read g c =
    let o = c.args.asked.now.options in
    let s = c.args.survey.now in
    let k : ℕ = c.loop-hdu.hdu in
    let start : ℕ = c.loop-hdu.start in
    let held : Option (List ℕ) = g.S.Source.held c.args.source.now in
    let before : Option (List ℕ) = g.K.Sink.contents c.args.sink.now in
    let mid : Option (List ℕ) = g.K.Sink.contents c.loop-hdu.sink in
    let old = c.loop-hdu.invariant in
    let few : k < s.hdus = omega arith in
    let zero : Option (List (ℕ × ℕ)) = g.S.Source.ranges c.args.source.now in
    let one : Option (List (ℕ × ℕ)) = g.S.Source.ranges c.loop-hdu.source in
    let two : Option (List (ℕ × ℕ)) = g.S.Source.ranges c.read_again.new.source in
    let reads : IfSome held (λ f. LogsWithin start (header_touched k start f) one two) = subst (λ (h : Option (List ℕ)). IfSome h (λ f. LogsWithin start (header_touched k start f) one two)) old.held c.in_ok-again.ensures.read in
    let header : IfSome held (λ f. ReadsHdus o f s zero two) = one_header o s zero c.ranges_law.ensures.within c.ranges_law.ensures.join k start c.loop-hdu.at before mid few one two c.hdu_at_law.ensures.facts held old.written reads old.read in
    let a = c.in_ok-again.again in
    let long : length c.as_mut_slice-buf.result.now ≡ s.header_len = ap length c.as_mut_slice-buf.ensures.value ∙ old.space.header ∙ c.requires.header in
    let seen : IfSome held (λ f. ReadsAsSeen o f k start s.header_len s.tile (Ok a)) =
    subst (λ n. IfSome held (λ f. ReadsAsSeen o f k start n s.tile (Ok a))) long
    (subst (λ (h : Option (List ℕ)). IfSome h (λ f. ReadsAsSeen o f k start (length c.as_mut_slice-buf.result.now) s.tile (Ok a))) old.held c.in_ok-again.ensures.as_seen) in
    let three : Option (List (ℕ × ℕ)) = g.S.Source.ranges c.write_hdu.new.source in
    one_hdu o s zero c.ranges_law.ensures.within c.ranges_law.ensures.join k start c.loop-hdu.at before mid few two three held a old.written seen c.in_ok-at.ensures.log header

pub read_again-requires-clause-attached : goal.read_again-requires-clause-attached
read_again-requires-clause-attached g c = c.loop-hdu.invariant.attached ∙ c.requires.attached

pub read_again-requires-clause-options : goal.read_again-requires-clause-options
read_again-requires-clause-options g c = c.requires.options

pub write_hdu-requires-clause-copy : goal.write_hdu-requires-clause-copy
write_hdu-requires-clause-copy g c = omega (arith, c.loop-hdu.invariant.space.copy, c.requires.copy)

pub write_hdu-requires-clause-block : goal.write_hdu-requires-clause-block
write_hdu-requires-clause-block g c κs lives = c.loop-hdu.invariant.block

pub write_hdu-requires-clause-created : goal.write_hdu-requires-clause-created
write_hdu-requires-clause-created g c κs lives = c.loop-hdu.invariant.created ∙ c.requires.created

pub returns-in_err-again-clause-block : goal.returns-in_err-again-clause-block
returns-in_err-again-clause-block g c = c.loop-hdu.invariant.block

pub returns-in_err-again-clause-stays : goal.returns-in_err-again-clause-stays
returns-in_err-again-clause-stays g c =
    let old = c.loop-hdu.invariant in (
      record {
        held_is = c.in_err-again.ensures.stays.0.held_is ∙ old.held;
        attached_is = c.in_err-again.ensures.stays.0.attached_is ∙ old.attached;
        told = λ told. c.in_err-again.ensures.stays.0.told (old.told_ranges told);
      },
      record { created_is = old.created; shut = old.shut; told = old.told_contents },
      record {
        header = omega (arith, old.space.header, c.in_err-again.ensures.stays.1, length-take {A = ℕ}, length-append {A = ℕ}, length-drop {A = ℕ});
        translated = old.space.translated;
        copy = old.space.copy;
      },
      old.window,
    )

pub returns-in_err-again-clause-changed : goal.returns-in_err-again-clause-changed
returns-in_err-again-clause-changed g c =
    let stopped : c.from_residual.result ≡ Err c.in_err-again.field-0.0 = search rules in
    subst (λ (r : Result (Unit {0}) Stop). IfRefused r IsChanged) (sym stopped) c.in_err-again.ensures.refused

pub returns-in_err-at-clause-block : goal.returns-in_err-at-clause-block
returns-in_err-at-clause-block g c = c.in_err-at.ensures.block

pub returns-in_err-at-clause-stays : goal.returns-in_err-at-clause-stays
returns-in_err-at-clause-stays g c =
    let old = c.loop-hdu.invariant in
    let read = c.in_ok-again.ensures.stays.0 in
    let wrote = c.in_err-at.ensures.stays in (
      record {
        held_is = wrote.0.held_is ∙ (read.held_is ∙ old.held);
        attached_is = wrote.0.attached_is ∙ (read.attached_is ∙ old.attached);
        told = λ told. wrote.0.told (read.told (old.told_ranges told));
      },
      record {
        created_is = wrote.1.created_is ∙ old.created;
        shut = λ shut. wrote.1.shut (old.shut shut);
        told = λ told. wrote.1.told (old.told_contents told);
      },
      record {
        header = omega (arith, wrote.2.header, old.space.header, c.in_ok-again.ensures.stays.1, length-take {A = ℕ}, length-append {A = ℕ}, length-drop {A = ℕ});
        translated = wrote.2.translated ∙ old.space.translated;
        copy = wrote.2.copy ∙ old.space.copy;
      },
      record { sizes = wrote.3.sizes ∙ old.window.sizes; workers = wrote.3.workers ∙ old.window.workers },
    )

pub returns-then-start-length-clause-block : goal.returns-then-start-length-clause-block
returns-then-start-length-clause-block g c = c.in_ok-at.ensures.block

pub returns-then-start-length-clause-stays : goal.returns-then-start-length-clause-stays
returns-then-start-length-clause-stays g c =
    let old = c.loop-hdu.invariant in
    let read = c.in_ok-again.ensures.stays.0 in
    let wrote = c.in_ok-at.ensures.stays in (
      record {
        held_is = wrote.0.held_is ∙ (read.held_is ∙ old.held);
        attached_is = wrote.0.attached_is ∙ (read.attached_is ∙ old.attached);
        told = λ told. wrote.0.told (read.told (old.told_ranges told));
      },
      record {
        created_is = wrote.1.created_is ∙ old.created;
        shut = λ shut. wrote.1.shut (old.shut shut);
        told = λ told. wrote.1.told (old.told_contents told);
      },
      record {
        header = omega (arith, wrote.2.header, old.space.header, c.in_ok-again.ensures.stays.1, length-take {A = ℕ}, length-append {A = ℕ}, length-drop {A = ℕ});
        translated = wrote.2.translated ∙ old.space.translated;
        copy = wrote.2.copy ∙ old.space.copy;
      },
      record { sizes = wrote.3.sizes ∙ old.window.sizes; workers = wrote.3.workers ∙ old.window.workers },
    )

pub returns-then-start-length-clause-changed : goal.returns-then-start-length-clause-changed
returns-then-start-length-clause-changed g c = subst (λ x. IfRefused {X = Unit {0}} (Err x) IsChanged) (sym c.changed.ensures) refl

pub returns-clause-block : goal.returns-clause-block
returns-clause-block g c = c.loop-hdu.invariant.block

pub returns-clause-stays : goal.returns-clause-stays
returns-clause-stays g c =
    let old = c.loop-hdu.invariant in (
      record { held_is = old.held; attached_is = old.attached; told = old.told_ranges },
      record { created_is = old.created; shut = old.shut; told = old.told_contents },
      old.space,
      old.window,
    )

pub returns-clause-changed : goal.returns-clause-changed
returns-clause-changed g c = tt

pub returns-clause-read : goal.returns-clause-read
returns-clause-read g c = c.loop-hdu.invariant.read

pub read_again-requires-clause-within : goal.read_again-requires-clause-within
read_again-requires-clause-within g c = c.loop-hdu.invariant.within (omega arith)

pub read_again-requires-clause-room : goal.read_again-requires-clause-room
read_again-requires-clause-room g c = omega (arith, ap length c.as_mut_slice-buf.ensures.value, c.loop-hdu.invariant.space.header, c.requires.header, c.requires.long)

pub write_hdu-requires-clause-first : goal.write_hdu-requires-clause-first
write_hdu-requires-clause-first g c κs lives =
    let is : c.in_ok-again.again.header.hdu ≡ c.loop-hdu.hdu = c.in_ok-again.ensures.place.0 in
    (λ e. c.loop-hdu.invariant.first (sym is ∙ e), λ more. c.loop-hdu.invariant.behind (subst (λ n. 0 < n) is more))

pub write_hdu-requires-clause-near : goal.write_hdu-requires-clause-near
write_hdu-requires-clause-near g c κs lives = omega (arith, c.loop-hdu.invariant.near, c.loop-hdu.invariant.early, c.requires.few)

pub write_hdu-requires-clause-translated : goal.write_hdu-requires-clause-translated
write_hdu-requires-clause-translated g c κs lives =
    omega (arith, c.in_ok-again.ensures.stays.1, c.loop-hdu.invariant.space.header, c.loop-hdu.invariant.space.translated, c.requires.translated, length-take {A = ℕ}, length-append {A = ℕ}, length-drop {A = ℕ})

pub returns-in_err-again-clause-cause : goal.returns-in_err-again-clause-cause
returns-in_err-again-clause-cause g c =
    let stopped : c.from_residual.result ≡ Err c.in_err-again.field-0.0 = search rules in
    read_fails _ (g.S.Source.tally c.loop-hdu.source) _ _ _ c.in_err-again.field-0.0 c.from_residual.result stopped c.loop-hdu.invariant.reads c.loop-hdu.invariant.writes c.in_err-again.ensures.cause

pub returns-in_err-at-clause-cause : goal.returns-in_err-at-clause-cause
returns-in_err-at-clause-cause g c =
    let stopped : c.from_residual-in_err-at.result ≡ Err c.in_err-at.field-0.0 = search rules in
    code_fails _ (g.S.Source.tally c.read_again.new.source) _ _ (g.K.Sink.tally c.loop-hdu.sink) _ c.in_err-at.field-0.0 c.from_residual-in_err-at.result stopped
    (c.in_ok-again.ensures.cause.ok ∙ c.loop-hdu.invariant.reads) c.loop-hdu.invariant.writes c.in_err-at.ensures.cause

pub returns-in_err-at-clause-changed : goal.returns-in_err-at-clause-changed
returns-in_err-at-clause-changed g c =
    let stopped : c.from_residual-in_err-at.result ≡ Err c.in_err-at.field-0.0 = search rules in
    subst (λ (r : Result (Unit {0}) Stop). IfRefused r IsChanged) (sym stopped) (never_refused (g.S.Source.tally c.read_again.new.source) (g.S.Source.tally c.write_hdu.new.source) (g.K.Sink.tally c.loop-hdu.sink) (g.K.Sink.tally c.write_hdu.new.sink) c.in_err-at.field-0.0 c.in_err-at.ensures.cause.stop)

pub returns-then-start-length-clause-cause : goal.returns-then-start-length-clause-cause
returns-then-start-length-clause-cause g c =
    refused_only _ _ _ _ c.changed.result _ c.changed.ensures
    (c.in_ok-at.ensures.cause.ok.0 ∙ (c.in_ok-again.ensures.cause.ok ∙ c.loop-hdu.invariant.reads)) (c.in_ok-at.ensures.cause.ok.1 ∙ c.loop-hdu.invariant.writes)

pub returns-clause-cause : goal.returns-clause-cause
returns-clause-cause g c = rewrote _ _ _ _ c.loop-hdu.invariant.reads c.loop-hdu.invariant.writes

pub returns-clause-written : goal.returns-clause-written
returns-clause-written g c =
    ends_with_last c.args.asked.now.options c.args.survey.now.header_len c.args.survey.now.tile c.args.survey.now.hdus (g.K.Sink.contents c.args.sink.now) tt (g.S.Source.held c.args.source.now)
    c.loop-hdu.hdu c.loop-hdu.start c.loop-hdu.at (g.K.Sink.contents c.loop-hdu.sink) (omega arith) c.loop-hdu.invariant.written
