-- One HDU after another.
use Rattle.std.specs.Prelude.{is_some}
use Rattle.std.proofs.Common.{◌≡◌, ℕ, ◌+◌, ◌<◌, ◌≤◌, inl, inr, Bool, false, List, length, Option, Some, IfSome, Result, Ok, Err, refl, sym, ◌∙◌, subst, arith, rules}
use Rattle.std.proofs.lemmas.Bool.Decides.{nat_tests}
use Rattle.std.proofs.lemmas.List.{length-append, length-drop, length-take}
use Rattle.fz_base.specs.Ranges.{LogsIn}
use Rattle.fz_base.specs.Source.{HoldsLength, HoldsOctets, LogsWithin}
use Rattle.fz_base.specs.Stop.{IfRefused}
use Rattle.fz_base.specs.declared.failure.Stop.{Stop}
use Rattle.fz_block.specs.Checks.{header_touched}
use Rattle.fz_block.specs.Header.{next_start_of}
use Rattle.fz_files.specs.declared.job.Job.TheVariants.{Verify}
use Rattle.fz_job.specs.Again.{ReadsAsSeen, is_empty_primary}
use Rattle.fz_strict.specs.Origins.{IsOrigin}
use Rattle.fz_compare.specs.Reads.{ReadsKnown, hdu_ranges}
use Rattle.fz_strict.specs.Rows.{ComparesSeen, IsHduFault, IsHduSound}
use Rattle.fz_strict.specs.SameImages.{ComparesHdu}
use Rattle.fz_strict.specs.declared.origin.Origin.{Origin}
use Rattle.fz_strict.proofs.CompareLoop.{CompareLaws, IsComparing, ends_with_file, ends_with_last, more_compared, none_compared, stops_comparing, stops_reading}
use Rattle.fz_strict.proofs.ReadHdus.{hdu_compared, header_compared, no_hdu}
use Rattle.fz_strict.proofs.hdus.compare_hdus.Goals as goal

pub loop-hdu-init : goal.loop-hdu-init
loop-hdu-init g c =
    let held : Option (List ℕ) = g.S.Source.held c.args.source.now in
    let laws : CompareLaws = record { one = c.one_hdu_law.ensures.one; decided = c.one_hdu_law.ensures.decided; bytes = c.one_hdu_law.ensures.bytes; restored = c.restored_file_law.ensures.some; primary = c.packed_primary_law.ensures.unpack } in
    record {
      held = refl;
      attached = refl;
      reads = refl;
      told = λ told. told;
      read = no_hdu c.args.asked.now.survey (g.S.Source.ranges c.args.source.now) held;
      plain = refl;
      space = record { header = refl; translated = refl; copy = refl };
      window = record { sizes = refl; workers = refl };
      within = λ more. inr (refl, refl);
      origin = subst IsOrigin (sym c.none.ensures) (record { hdus = omega arith; end = omega arith });
      comparing = subst (λ (w : Origin). IfSome held (IsComparing c.args.asked.now.options c.args.asked.now.survey 0 0 false (Some w))) (sym c.none.ensures) (none_compared laws c.args.asked.now.options c.args.asked.now.survey held);
    }

pub returns-in_err-again-clause-compared : goal.returns-in_err-again-clause-compared
returns-in_err-again-clause-compared g c =
    let s = c.args.asked.now.survey in
    let o = c.args.asked.now.options in
    let laws : CompareLaws = record { one = c.one_hdu_law.ensures.one; decided = c.one_hdu_law.ensures.decided; bytes = c.one_hdu_law.ensures.bytes; restored = c.restored_file_law.ensures.some; primary = c.packed_primary_law.ensures.unpack } in
    let held : Option (List ℕ) = g.S.Source.held c.args.source.now in
    let old = c.loop-hdu.invariant in
    let few : c.loop-hdu.hdu < s.hdus = omega arith in
    let stopped : c.from_residual.result ≡ Err c.in_err-again.field-0.0 = search rules in
    let seen : IfSome held (λ f. ReadsAsSeen f c.loop-hdu.hdu c.loop-hdu.start c.loop-hdu.after_empty s.header_len s.tile (Err c.in_err-again.field-0.0)) =
    subst (λ (h : Option (List ℕ)). IfSome h (λ f. ReadsAsSeen f c.loop-hdu.hdu c.loop-hdu.start c.loop-hdu.after_empty s.header_len s.tile (Err c.in_err-again.field-0.0))) old.held c.in_err-again.ensures.as_seen in
    subst (λ (r : Result Bool Stop). IfSome held (λ f. ComparesSeen o f s r)) (sym stopped)
    (stops_reading laws o s held c.in_err-again.field-0.0 c.loop-hdu.hdu c.loop-hdu.start c.loop-hdu.after_empty c.loop-hdu.origin few old.comparing seen)

pub returns-in_err-now-clause-compared : goal.returns-in_err-now-clause-compared
returns-in_err-now-clause-compared g c =
    let s = c.args.asked.now.survey in
    let o = c.args.asked.now.options in
    let laws : CompareLaws = record { one = c.one_hdu_law.ensures.one; decided = c.one_hdu_law.ensures.decided; bytes = c.one_hdu_law.ensures.bytes; restored = c.restored_file_law.ensures.some; primary = c.packed_primary_law.ensures.unpack } in
    let held : Option (List ℕ) = g.S.Source.held c.args.source.now in
    let old = c.loop-hdu.invariant in
    let few : c.loop-hdu.hdu < s.hdus = omega arith in
    let a = c.in_ok-again.again in
    let stopped : c.from_residual-in_err-now.result ≡ Err c.in_err-now.field-0.0 = search rules in
    let seen : IfSome held (λ f. ReadsAsSeen f c.loop-hdu.hdu c.loop-hdu.start c.loop-hdu.after_empty s.header_len s.tile (Ok a)) =
    subst (λ (h : Option (List ℕ)). IfSome h (λ f. ReadsAsSeen f c.loop-hdu.hdu c.loop-hdu.start c.loop-hdu.after_empty s.header_len s.tile (Ok a))) old.held c.in_ok-again.ensures.as_seen in
    let there : g.S.Source.held c.read_front.new.source ≡ held = c.in_ok-again.ensures.stays.0.held_is ∙ old.held in
    let fault : IfRefused {X = Option Origin} (Err c.in_err-now.field-0.0) (λ x. IfSome held (λ f. IsHduFault f a.header x)) =
    subst (λ (h : Option (List ℕ)). IfRefused {X = Option Origin} (Err c.in_err-now.field-0.0) (λ x. IfSome h (λ f. IsHduFault f a.header x))) there c.in_err-now.ensures.fault in
    subst (λ (r : Result Bool Stop). IfSome held (λ f. ComparesSeen o f s r)) (sym stopped)
    (stops_comparing laws o s held c.in_err-now.field-0.0 c.loop-hdu.hdu c.loop-hdu.start c.loop-hdu.after_empty c.loop-hdu.origin a few old.comparing seen fault)

pub returns-then-start-length-clause-compared : goal.returns-then-start-length-clause-compared
returns-then-start-length-clause-compared g c =
    let s = c.args.asked.now.survey in
    let o = c.args.asked.now.options in
    let laws : CompareLaws = record { one = c.one_hdu_law.ensures.one; decided = c.one_hdu_law.ensures.decided; bytes = c.one_hdu_law.ensures.bytes; restored = c.restored_file_law.ensures.some; primary = c.packed_primary_law.ensures.unpack } in
    let k : ℕ = c.loop-hdu.hdu in
    let start : ℕ = c.loop-hdu.start in
    let flag : Bool = c.loop-hdu.after_empty in
    let held : Option (List ℕ) = g.S.Source.held c.args.source.now in
    let old = c.loop-hdu.invariant in
    let few : k < s.hdus = omega arith in
    let a = c.in_ok-again.again in
    let now : Option Origin = c.in_ok-now.now in
    let seen : IfSome held (λ f. ReadsAsSeen f k start flag s.header_len s.tile (Ok a)) =
    subst (λ (h : Option (List ℕ)). IfSome h (λ f. ReadsAsSeen f k start flag s.header_len s.tile (Ok a))) old.held c.in_ok-again.ensures.as_seen in
    let there : g.S.Source.held c.read_front.new.source ≡ held = c.in_ok-again.ensures.stays.0.held_is ∙ old.held in
    let sound : IfSome held (λ f. IsHduSound f a.header) = subst (λ (h : Option (List ℕ)). IfSome h (λ f. IsHduSound f a.header)) there c.in_ok-now.ensures.sound in
    let compared : IfSome held (λ f. ComparesHdu o f a.header c.loop-hdu.origin now) = subst (λ (h : Option (List ℕ)). IfSome h (λ f. ComparesHdu o f a.header c.loop-hdu.origin now)) there c.in_ok-now.ensures.compared in
    let more : IfSome held (IsComparing o s (k + 1) (next_start_of a.header) (is_empty_primary a.header) now) =
    more_compared laws o s held k start flag (is_empty_primary a.header) c.loop-hdu.origin now a few old.comparing seen sound compared refl in
    let told : HoldsLength held c.args.asked.now.length = g.met.S.Source.agrees c.args.source.now c.args.asked.now.length c.requires.attached in
    let octets : HoldsOctets held = g.met.S.Source.octets c.args.source.now in
    let next : c.next_start-start.result ≡ next_start_of a.header = c.next_start-start.ensures in
    let ends : c.next_start-start.result ≡ c.args.asked.now.length = first_of (omega (arith, c.if-start-length.true), grind (arith, nat_tests, c.if-start-length.true)) in
    subst (λ b. IfSome held (λ f. ComparesSeen o f s (Ok b))) (sym c.is_some.ensures)
    (ends_with_file laws o s held c.args.asked.now.length (k + 1) (next_start_of a.header) (is_empty_primary a.header) now told (sym next ∙ ends) c.requires.options octets c.in_ok-now.ensures.origin more)

pub loop-hdu-preserved : goal.loop-hdu-preserved
loop-hdu-preserved g c =
    let s = c.args.asked.now.survey in
    let o = c.args.asked.now.options in
    let laws : CompareLaws = record { one = c.one_hdu_law.ensures.one; decided = c.one_hdu_law.ensures.decided; bytes = c.one_hdu_law.ensures.bytes; restored = c.restored_file_law.ensures.some; primary = c.packed_primary_law.ensures.unpack } in
    let k : ℕ = c.loop-hdu.hdu in
    let start : ℕ = c.loop-hdu.start in
    let flag : Bool = c.loop-hdu.after_empty in
    let held : Option (List ℕ) = g.S.Source.held c.args.source.now in
    let old = c.loop-hdu.invariant in
    let few : k < s.hdus = omega arith in
    let a = c.in_ok-again.again in
    let now : Option Origin = c.in_ok-now.now in
    let seen : IfSome held (λ f. ReadsAsSeen f k start flag s.header_len s.tile (Ok a)) =
    subst (λ (h : Option (List ℕ)). IfSome h (λ f. ReadsAsSeen f k start flag s.header_len s.tile (Ok a))) old.held c.in_ok-again.ensures.as_seen in
    let there : g.S.Source.held c.read_front.new.source ≡ held = c.in_ok-again.ensures.stays.0.held_is ∙ old.held in
    let sound : IfSome held (λ f. IsHduSound f a.header) = subst (λ (h : Option (List ℕ)). IfSome h (λ f. IsHduSound f a.header)) there c.in_ok-now.ensures.sound in
    let compared : IfSome held (λ f. ComparesHdu o f a.header c.loop-hdu.origin now) = subst (λ (h : Option (List ℕ)). IfSome h (λ f. ComparesHdu o f a.header c.loop-hdu.origin now)) there c.in_ok-now.ensures.compared in
    let more : IfSome held (IsComparing o s (k + 1) (next_start_of a.header) (is_empty_primary a.header) now) =
    more_compared laws o s held k start flag (is_empty_primary a.header) c.loop-hdu.origin now a few old.comparing seen sound compared refl in
    let next : c.next_start-start.result ≡ next_start_of a.header = c.next_start-start.ensures in
    let says : c.is_empty_primary-after_empty.result ≡ is_empty_primary a.header = c.is_empty_primary-after_empty.ensures in
    let inside : next_start_of a.header ≤ c.args.asked.now.length = c.in_ok-again.ensures.again.inside in
    let before : c.next_start-start.result < c.args.asked.now.length = first_of (omega (arith, next, inside, c.if-start-length.false), grind (arith, nat_tests, next, inside, c.if-start-length.false)) in
    let first : Option (List (ℕ × ℕ)) = g.S.Source.ranges c.args.source.now in
    let one : Option (List (ℕ × ℕ)) = g.S.Source.ranges c.loop-hdu.source in
    let two : Option (List (ℕ × ℕ)) = g.S.Source.ranges c.read_front.new.source in
    let front : IfSome held (λ file. LogsWithin start (header_touched k start file) one two) =
    subst (λ (h : Option (List ℕ)). IfSome h (λ file. LogsWithin start (header_touched k start file) one two)) old.held c.in_ok-again.ensures.read in
    let header : IfSome held (λ file. ReadsKnown file s first two) =
    header_compared s first o c.ranges_law.ensures.join held k start flag c.loop-hdu.origin one two few old.comparing (c.hdus_law.ensures.header Verify) front old.read in
    let three : Option (List (ℕ × ℕ)) = g.S.Source.ranges c.compare_hdu.new.source in
    let body : IfSome held (λ file. LogsIn (hdu_ranges file a.header) two three) =
    subst (λ (h : Option (List ℕ)). IfSome h (λ file. LogsIn (hdu_ranges file a.header) two three)) there c.in_ok-now.ensures.read in
    let reads : IfSome held (λ file. ReadsKnown file s first three) =
    hdu_compared s first o c.ranges_law.ensures.join held k start flag c.loop-hdu.origin two three few old.comparing c.hdu_at_law.ensures.blocks a seen body header in
    record {
      held = c.in_ok-now.ensures.stays.0.held_is ∙ there;
      attached = c.in_ok-now.ensures.stays.0.attached_is ∙ c.in_ok-again.ensures.stays.0.attached_is ∙ old.attached;
      reads = c.in_ok-now.ensures.cause.ok ∙ c.in_ok-again.ensures.cause.ok ∙ old.reads;
      told = λ told. c.in_ok-now.ensures.stays.0.told (c.in_ok-again.ensures.stays.0.told (old.told told));
      read = reads;
      plain = c.in_ok-now.ensures.stays.3 ∙ old.plain;
      space = record {
        header = omega (arith, c.in_ok-now.ensures.stays.1.header, old.space.header, c.in_ok-again.ensures.stays.1, length-take {A = ℕ}, length-append {A = ℕ}, length-drop {A = ℕ});
        translated = c.in_ok-now.ensures.stays.1.translated ∙ old.space.translated;
        copy = c.in_ok-now.ensures.stays.1.copy ∙ old.space.copy;
      };
      window = record { sizes = c.in_ok-now.ensures.stays.2.sizes ∙ old.window.sizes; workers = c.in_ok-now.ensures.stays.2.workers ∙ old.window.workers };
      within = λ left. inl before;
      origin = c.in_ok-now.ensures.origin;
      comparing = subst (λ b. IfSome held (IsComparing o s (k + 1) c.next_start-start.result b now)) (sym says)
          (subst (λ n. IfSome held (IsComparing o s (k + 1) n (is_empty_primary a.header) now)) (sym next) more);
    }

pub returns-clause-compared : goal.returns-clause-compared
returns-clause-compared g c =
    let s = c.args.asked.now.survey in
    let o = c.args.asked.now.options in
    let laws : CompareLaws = record { one = c.one_hdu_law.ensures.one; decided = c.one_hdu_law.ensures.decided; bytes = c.one_hdu_law.ensures.bytes; restored = c.restored_file_law.ensures.some; primary = c.packed_primary_law.ensures.unpack } in
    let held : Option (List ℕ) = g.S.Source.held c.args.source.now in
    let old = c.loop-hdu.invariant in
    let octets : HoldsOctets held = g.met.S.Source.octets c.args.source.now in
    let last : s.hdus ≤ c.loop-hdu.hdu = omega arith in
    subst (λ b. IfSome held (λ f. ComparesSeen o f s (Ok b))) (sym c.is_some-2.ensures)
    (ends_with_last laws o s held c.loop-hdu.hdu c.loop-hdu.start c.loop-hdu.after_empty c.loop-hdu.origin last c.requires.options octets old.origin old.comparing)

pub returns-in_err-again-clause-read : goal.returns-in_err-again-clause-read
returns-in_err-again-clause-read g c =
    let s = c.args.asked.now.survey in
    let o = c.args.asked.now.options in
    let k : ℕ = c.loop-hdu.hdu in
    let start : ℕ = c.loop-hdu.start in
    let flag : Bool = c.loop-hdu.after_empty in
    let held : Option (List ℕ) = g.S.Source.held c.args.source.now in
    let old = c.loop-hdu.invariant in
    let few : k < s.hdus = omega arith in
    let first : Option (List (ℕ × ℕ)) = g.S.Source.ranges c.args.source.now in
    let one : Option (List (ℕ × ℕ)) = g.S.Source.ranges c.loop-hdu.source in
    let two : Option (List (ℕ × ℕ)) = g.S.Source.ranges c.read_front.new.source in
    let front : IfSome held (λ file. LogsWithin start (header_touched k start file) one two) =
    subst (λ (h : Option (List ℕ)). IfSome h (λ file. LogsWithin start (header_touched k start file) one two)) old.held c.in_err-again.ensures.read in
    let header : IfSome held (λ file. ReadsKnown file s first two) =
    header_compared s first o c.ranges_law.ensures.join held k start flag c.loop-hdu.origin one two few old.comparing (c.hdus_law.ensures.header Verify) front old.read in
    header

pub returns-in_err-now-clause-read : goal.returns-in_err-now-clause-read
returns-in_err-now-clause-read g c =
    let s = c.args.asked.now.survey in
    let o = c.args.asked.now.options in
    let k : ℕ = c.loop-hdu.hdu in
    let start : ℕ = c.loop-hdu.start in
    let flag : Bool = c.loop-hdu.after_empty in
    let held : Option (List ℕ) = g.S.Source.held c.args.source.now in
    let old = c.loop-hdu.invariant in
    let few : k < s.hdus = omega arith in
    let first : Option (List (ℕ × ℕ)) = g.S.Source.ranges c.args.source.now in
    let one : Option (List (ℕ × ℕ)) = g.S.Source.ranges c.loop-hdu.source in
    let two : Option (List (ℕ × ℕ)) = g.S.Source.ranges c.read_front.new.source in
    let front : IfSome held (λ file. LogsWithin start (header_touched k start file) one two) =
    subst (λ (h : Option (List ℕ)). IfSome h (λ file. LogsWithin start (header_touched k start file) one two)) old.held c.in_ok-again.ensures.read in
    let header : IfSome held (λ file. ReadsKnown file s first two) =
    header_compared s first o c.ranges_law.ensures.join held k start flag c.loop-hdu.origin one two few old.comparing (c.hdus_law.ensures.header Verify) front old.read in
    let a = c.in_ok-again.again in
    let seen : IfSome held (λ f. ReadsAsSeen f k start flag s.header_len s.tile (Ok a)) =
    subst (λ (h : Option (List ℕ)). IfSome h (λ f. ReadsAsSeen f k start flag s.header_len s.tile (Ok a))) old.held c.in_ok-again.ensures.as_seen in
    let there : g.S.Source.held c.read_front.new.source ≡ held = c.in_ok-again.ensures.stays.0.held_is ∙ old.held in
    let three : Option (List (ℕ × ℕ)) = g.S.Source.ranges c.compare_hdu.new.source in
    let body : IfSome held (λ file. LogsIn (hdu_ranges file a.header) two three) =
    subst (λ (h : Option (List ℕ)). IfSome h (λ file. LogsIn (hdu_ranges file a.header) two three)) there c.in_err-now.ensures.read in
    let reads : IfSome held (λ file. ReadsKnown file s first three) =
    hdu_compared s first o c.ranges_law.ensures.join held k start flag c.loop-hdu.origin two three few old.comparing c.hdu_at_law.ensures.blocks a seen body header in
    reads

pub returns-then-start-length-clause-read : goal.returns-then-start-length-clause-read
returns-then-start-length-clause-read g c =
    let s = c.args.asked.now.survey in
    let o = c.args.asked.now.options in
    let k : ℕ = c.loop-hdu.hdu in
    let start : ℕ = c.loop-hdu.start in
    let flag : Bool = c.loop-hdu.after_empty in
    let held : Option (List ℕ) = g.S.Source.held c.args.source.now in
    let old = c.loop-hdu.invariant in
    let few : k < s.hdus = omega arith in
    let first : Option (List (ℕ × ℕ)) = g.S.Source.ranges c.args.source.now in
    let one : Option (List (ℕ × ℕ)) = g.S.Source.ranges c.loop-hdu.source in
    let two : Option (List (ℕ × ℕ)) = g.S.Source.ranges c.read_front.new.source in
    let front : IfSome held (λ file. LogsWithin start (header_touched k start file) one two) =
    subst (λ (h : Option (List ℕ)). IfSome h (λ file. LogsWithin start (header_touched k start file) one two)) old.held c.in_ok-again.ensures.read in
    let header : IfSome held (λ file. ReadsKnown file s first two) =
    header_compared s first o c.ranges_law.ensures.join held k start flag c.loop-hdu.origin one two few old.comparing (c.hdus_law.ensures.header Verify) front old.read in
    let a = c.in_ok-again.again in
    let seen : IfSome held (λ f. ReadsAsSeen f k start flag s.header_len s.tile (Ok a)) =
    subst (λ (h : Option (List ℕ)). IfSome h (λ f. ReadsAsSeen f k start flag s.header_len s.tile (Ok a))) old.held c.in_ok-again.ensures.as_seen in
    let there : g.S.Source.held c.read_front.new.source ≡ held = c.in_ok-again.ensures.stays.0.held_is ∙ old.held in
    let three : Option (List (ℕ × ℕ)) = g.S.Source.ranges c.compare_hdu.new.source in
    let body : IfSome held (λ file. LogsIn (hdu_ranges file a.header) two three) =
    subst (λ (h : Option (List ℕ)). IfSome h (λ file. LogsIn (hdu_ranges file a.header) two three)) there c.in_ok-now.ensures.read in
    let reads : IfSome held (λ file. ReadsKnown file s first three) =
    hdu_compared s first o c.ranges_law.ensures.join held k start flag c.loop-hdu.origin two three few old.comparing c.hdu_at_law.ensures.blocks a seen body header in
    reads
