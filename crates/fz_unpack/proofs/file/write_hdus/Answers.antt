-- One HDU after another.
use Rattle.std.proofs.Common.{◌≡◌, ◌==◌, true, ℕ, ◌+◌, ◌<◌, ◌≤◌, ◌^◌, ◌↔◌, ◌⊎◌, Bool, List, length, Option, IfSome, Result, Ok, Err, refl, sym, ap, ◌∙◌, subst, inl, arith, rules}
use Rattle.std.proofs.lemmas.List.{length-append, length-drop, length-take}
use Rattle.fz_base.specs.Ranges.{LogsIn}
use Rattle.fz_base.specs.Source.{HoldsLength, LogsWithin}
use Rattle.fz_base.specs.Stop.{IfRefused}
use Rattle.fz_base.specs.declared.failure.Stop.{Stop}
use Rattle.fz_block.specs.Checks.{header_touched}
use Rattle.fz_block.specs.Header.{next_start_of}
use Rattle.fz_files.specs.declared.job.Job.TheVariants.{Unpack}
use Rattle.fz_job.specs.Again.{IsAgain, ReadsAsSeen, is_empty_primary, was_primary_image}
use Rattle.fz_job.specs.Hdus.{ReadsHdus}
use Rattle.fz_files.specs.Touched.{data_touched}
use Rattle.fz_unpack.specs.Behind.{HoldsHdu, IsHduFault, IsUnderway, RestoresSeen}
use Rattle.fz_unpack.specs.declared.first.First.{First}
use Rattle.fz_unpack.proofs.HduReads.{no_hdu, one_hdu, one_header}
use Rattle.fz_unpack.proofs.Standing.{first_place}
use Rattle.fz_unpack.proofs.Underway.{more_written, none_written, stops_reading, stops_writing}
use Rattle.fz_unpack.proofs.AsSeen.{first_as_seen, last_as_seen, not_at_end, primary_as_seen, told_false}
use Rattle.fz_job.specs.Clauses.{ComesLate}
use Rattle.fz_unpack.proofs.Counting.{late_change, late_row, read_fails, refused_only, rewrote, write_fails}
use Rattle.fz_unpack.proofs.file.write_hdus.Goals as goal

pub loop-hdu-init : goal.loop-hdu-init
loop-hdu-init g c =
    let s = c.args.survey.now in
    let held : Option (List ℕ) = g.S.Source.held c.args.source.now in
    let before : Option (List ℕ) = g.K.Sink.contents c.args.sink.now in
    let first : First = c.first_standing-first.result in
    let place : ((first.start < c.args.asked.now.length) ⊎ ((first.hdu ≡ 0) × (first.start ≡ 0))) × (first.start ≤ 2 ^ 62) =
    subst (λ (f : First). ((f.start < c.args.asked.now.length) ⊎ ((f.hdu ≡ 0) × (f.start ≡ 0))) × (f.start ≤ 2 ^ 62)) (sym c.first_standing-first.ensures)
    (first_place c.args.asked.now.length s.packed_primary c.requires.primary) in
    record {
      held = refl;
      attached = refl;
      reads = refl;
      writes = refl;
      created = refl;
      shut = λ shut. shut;
      told_ranges = λ told. told;
      told_contents = λ told. told;
      read = no_hdu s (g.S.Source.ranges c.args.source.now) held;
      space = record { header = refl; translated = refl; copy = refl };
      window = record { sizes = refl; workers = refl };
      within = λ more. place.0;
      early = place.1;
      near = omega arith;
      written = none_written s before c.primary_law.ensures.behind held first c.first_standing-first.ensures;
    }

pub returns-in_err-again-clause-written : goal.returns-in_err-again-clause-written
returns-in_err-again-clause-written g c =
    let s = c.args.survey.now in
    let k : ℕ = c.loop-hdu.hdu in
    let start : ℕ = c.loop-hdu.start in
    let flag : Bool = c.loop-hdu.after_empty in
    let held : Option (List ℕ) = g.S.Source.held c.args.source.now in
    let before : Option (List ℕ) = g.K.Sink.contents c.args.sink.now in
    let old = c.loop-hdu.invariant in
    let few : k < s.hdus = omega arith in
    let now : Option (List ℕ) = g.K.Sink.contents c.loop-hdu.sink in
    let stopped : c.from_residual.result ≡ Err c.in_err-again.field-0.0 = search rules in
    let long : length c.as_mut_slice-buf.result.now ≡ s.header_len = ap length c.as_mut_slice-buf.ensures.value ∙ old.space.header ∙ c.requires.header in
    let seen : IfSome held (λ f. ReadsAsSeen f k start flag s.header_len s.tile (Err c.in_err-again.field-0.0)) =
    subst (λ n. IfSome held (λ f. ReadsAsSeen f k start flag n s.tile (Err c.in_err-again.field-0.0))) long
    (subst (λ (h : Option (List ℕ)). IfSome h (λ f. ReadsAsSeen f k start flag (length c.as_mut_slice-buf.result.now) s.tile (Err c.in_err-again.field-0.0))) old.held c.in_err-again.ensures.as_seen) in
    subst (λ (r : Result (Unit {0}) Stop). IfSome held (λ f. RestoresSeen f s before now r)) (sym stopped)
    (stops_reading s before (Unit {0}) held c.in_err-again.field-0.0 k start c.loop-hdu.at flag now now few old.written seen)

pub returns-in_err-at-clause-written : goal.returns-in_err-at-clause-written
returns-in_err-at-clause-written g c =
    let s = c.args.survey.now in
    let k : ℕ = c.loop-hdu.hdu in
    let start : ℕ = c.loop-hdu.start in
    let flag : Bool = c.loop-hdu.after_empty in
    let held : Option (List ℕ) = g.S.Source.held c.args.source.now in
    let before : Option (List ℕ) = g.K.Sink.contents c.args.sink.now in
    let old = c.loop-hdu.invariant in
    let few : k < s.hdus = omega arith in
    let a = c.in_ok-again.again in
    let at : ℕ = c.loop-hdu.at in
    let mid : Option (List ℕ) = g.K.Sink.contents c.loop-hdu.sink in
    let now : Option (List ℕ) = g.K.Sink.contents c.write_hdu.new.sink in
    let stopped : c.from_residual-in_err-at.result ≡ Err c.in_err-at.field-0.0 = search rules in
    let long : length c.as_mut_slice-buf.result.now ≡ s.header_len = ap length c.as_mut_slice-buf.ensures.value ∙ old.space.header ∙ c.requires.header in
    let seen : IfSome held (λ f. ReadsAsSeen f k start flag s.header_len s.tile (Ok a)) =
    subst (λ n. IfSome held (λ f. ReadsAsSeen f k start flag n s.tile (Ok a))) long
    (subst (λ (h : Option (List ℕ)). IfSome h (λ f. ReadsAsSeen f k start flag (length c.as_mut_slice-buf.result.now) s.tile (Ok a))) old.held c.in_ok-again.ensures.as_seen) in
    let fault : IfRefused {X = ℕ} (Err c.in_err-at.field-0.0) (λ x. IfSome held (λ f. IsHduFault f a.header x)) =
    subst (λ (h : Option (List ℕ)). IfRefused {X = ℕ} (Err c.in_err-at.field-0.0) (λ x. IfSome h (λ f. IsHduFault f a.header x))) (c.in_ok-again.ensures.stays.0.held_is ∙ old.held) c.in_err-at.ensures.fault in
    subst (λ (r : Result (Unit {0}) Stop). IfSome held (λ f. RestoresSeen f s before now r)) (sym stopped)
    (stops_writing s before (Unit {0}) held c.in_err-at.field-0.0 k start at flag mid now a few old.written seen fault)

pub returns-then-first-survey-clause-written : goal.returns-then-first-survey-clause-written
returns-then-first-survey-clause-written g c =
    let s = c.args.survey.now in
    let held : Option (List ℕ) = g.S.Source.held c.args.source.now in
    let before : Option (List ℕ) = g.K.Sink.contents c.args.sink.now in
    let past : s.hdus ≤ c.first_standing-first.result.hdu = omega arith in
    first_as_seen s before c.primary_law.ensures.behind c.requires.some (Unit {0}) held c.changed.result before c.first_standing-first.result past c.first_standing-first.ensures

pub returns-then-not-is_primary_as_found-clause-written : goal.returns-then-not-is_primary_as_found-clause-written
returns-then-not-is_primary_as_found-clause-written g c =
    let s = c.args.survey.now in
    let k : ℕ = c.loop-hdu.hdu in
    let start : ℕ = c.loop-hdu.start in
    let flag : Bool = c.loop-hdu.after_empty in
    let held : Option (List ℕ) = g.S.Source.held c.args.source.now in
    let before : Option (List ℕ) = g.K.Sink.contents c.args.sink.now in
    let mid : Option (List ℕ) = g.K.Sink.contents c.loop-hdu.sink in
    let old = c.loop-hdu.invariant in
    let few : k < s.hdus = omega arith in
    let a = c.in_ok-again.again in
    let buf : List ℕ = c.read_again.new.buf in
    let long : length c.as_mut_slice-buf.result.now ≡ s.header_len = ap length c.as_mut_slice-buf.ensures.value ∙ old.space.header ∙ c.requires.header in
    let seen : IfSome held (λ f. ReadsAsSeen f k start flag s.header_len s.tile (Ok a)) =
    subst (λ n. IfSome held (λ f. ReadsAsSeen f k start flag n s.tile (Ok a))) long
    (subst (λ (h : Option (List ℕ)). IfSome h (λ f. ReadsAsSeen f k start flag (length c.as_mut_slice-buf.result.now) s.tile (Ok a))) old.held c.in_ok-again.ensures.as_seen) in
    let usable : IsAgain held c.args.asked.now.length buf a = subst (λ (h : Option (List ℕ)). IsAgain h c.args.asked.now.length buf a) old.held c.in_ok-again.ensures.again in
    let never : (flag ≡ true → was_primary_image a.image ≡ (c.first_standing-first.result.hdu == 1)) → ⊥ = λ so. told_false c.is_primary_as_found.result (search rules) (c.is_primary_as_found.ensures.exact.1 so) in
    primary_as_seen s before c.primary_law.ensures.behind (Unit {0}) held c.changed-then-not-is_primary_as_found.result k start c.loop-hdu.at flag mid mid c.first_standing-first.result c.args.asked.now.length buf a few
    old.written c.first_standing-first.ensures seen usable never

pub returns-then-not-is_last_as_seen-clause-written : goal.returns-then-not-is_last_as_seen-clause-written
returns-then-not-is_last_as_seen-clause-written g c =
    let s = c.args.survey.now in
    let k : ℕ = c.loop-hdu.hdu in
    let start : ℕ = c.loop-hdu.start in
    let flag : Bool = c.loop-hdu.after_empty in
    let held : Option (List ℕ) = g.S.Source.held c.args.source.now in
    let before : Option (List ℕ) = g.K.Sink.contents c.args.sink.now in
    let old = c.loop-hdu.invariant in
    let few : k < s.hdus = omega arith in
    let a = c.in_ok-again.again in
    let at : ℕ = c.loop-hdu.at in
    let end : ℕ = c.in_ok-at.at in
    let mid : Option (List ℕ) = g.K.Sink.contents c.loop-hdu.sink in
    let now : Option (List ℕ) = g.K.Sink.contents c.write_hdu.new.sink in
    let long : length c.as_mut_slice-buf.result.now ≡ s.header_len = ap length c.as_mut_slice-buf.ensures.value ∙ old.space.header ∙ c.requires.header in
    let seen : IfSome held (λ f. ReadsAsSeen f k start flag s.header_len s.tile (Ok a)) =
    subst (λ n. IfSome held (λ f. ReadsAsSeen f k start flag n s.tile (Ok a))) long
    (subst (λ (h : Option (List ℕ)). IfSome h (λ f. ReadsAsSeen f k start flag (length c.as_mut_slice-buf.result.now) s.tile (Ok a))) old.held c.in_ok-again.ensures.as_seen) in
    let holds : IfSome held (λ f. HoldsHdu a.header f at end mid now) =
    subst (λ (h : Option (List ℕ)). IfSome h (λ f. HoldsHdu a.header f at end mid now)) (c.in_ok-again.ensures.stays.0.held_is ∙ old.held) c.in_ok-at.ensures.written in
    let more : IfSome held (IsUnderway s (k + 1) (next_start_of a.header) end (is_empty_primary a.header) before now) =
    more_written s before c.output_law.ensures.next held k start at end flag (is_empty_primary a.header) mid now a few old.written seen holds refl in
    let told : HoldsLength held c.args.asked.now.length = g.met.S.Source.agrees c.args.source.now c.args.asked.now.length c.requires.attached in
    let next : c.next_start-start.result ≡ next_start_of a.header = c.next_start-start.ensures in
    let never : ((next_start_of a.header ≡ c.args.asked.now.length) ↔ (k + 1 ≡ s.hdus)) → ⊥ =
    λ so. told_false c.is_last_as_seen.result (search rules) (c.is_last_as_seen.ensures.exact.1 (subst (λ n. (n ≡ c.args.asked.now.length) ↔ (k + 1 ≡ s.hdus)) (sym next) so)) in
    last_as_seen s before (Unit {0}) held c.changed-then-not-is_last_as_seen.result c.args.asked.now.length (k + 1) (next_start_of a.header) end (is_empty_primary a.header) now told more never

pub loop-hdu-preserved : goal.loop-hdu-preserved
loop-hdu-preserved g c =
    let s = c.args.survey.now in
    let k : ℕ = c.loop-hdu.hdu in
    let start : ℕ = c.loop-hdu.start in
    let flag : Bool = c.loop-hdu.after_empty in
    let held : Option (List ℕ) = g.S.Source.held c.args.source.now in
    let before : Option (List ℕ) = g.K.Sink.contents c.args.sink.now in
    let old = c.loop-hdu.invariant in
    let few : k < s.hdus = omega arith in
    let a = c.in_ok-again.again in
    let at : ℕ = c.loop-hdu.at in
    let end : ℕ = c.in_ok-at.at in
    let mid : Option (List ℕ) = g.K.Sink.contents c.loop-hdu.sink in
    let now : Option (List ℕ) = g.K.Sink.contents c.write_hdu.new.sink in
    let long : length c.as_mut_slice-buf.result.now ≡ s.header_len = ap length c.as_mut_slice-buf.ensures.value ∙ old.space.header ∙ c.requires.header in
    let seen : IfSome held (λ f. ReadsAsSeen f k start flag s.header_len s.tile (Ok a)) =
    subst (λ n. IfSome held (λ f. ReadsAsSeen f k start flag n s.tile (Ok a))) long
    (subst (λ (h : Option (List ℕ)). IfSome h (λ f. ReadsAsSeen f k start flag (length c.as_mut_slice-buf.result.now) s.tile (Ok a))) old.held c.in_ok-again.ensures.as_seen) in
    let holds : IfSome held (λ f. HoldsHdu a.header f at end mid now) =
    subst (λ (h : Option (List ℕ)). IfSome h (λ f. HoldsHdu a.header f at end mid now)) (c.in_ok-again.ensures.stays.0.held_is ∙ old.held) c.in_ok-at.ensures.written in
    let more : IfSome held (IsUnderway s (k + 1) (next_start_of a.header) end (is_empty_primary a.header) before now) =
    more_written s before c.output_law.ensures.next held k start at end flag (is_empty_primary a.header) mid now a few old.written seen holds refl in
    let place : a.header.start ≡ start = c.in_ok-again.ensures.place.1 in
    let next : c.next_start-start.result ≡ next_start_of a.header = c.next_start-start.ensures in
    let says : c.is_empty_primary-after_empty.result ≡ is_empty_primary a.header = c.is_empty_primary-after_empty.ensures in
    let inside : next_start_of a.header ≤ c.args.asked.now.length = c.in_ok-again.ensures.again.inside in
    let early : next_start_of a.header ≤ 2 ^ 62 = c.in_ok-again.ensures.again.near in
    let near : end + a.header.start ≤ at + 2 ^ 46 + next_start_of a.header = c.in_ok-at.ensures.end.near in
    let last : (c.next_start-start.result ≡ c.args.asked.now.length) ↔ (k + 1 ≡ s.hdus) = c.is_last_as_seen.ensures.exact.0 (search rules) in
    let zero : Option (List (ℕ × ℕ)) = g.S.Source.ranges c.args.source.now in
    let one : Option (List (ℕ × ℕ)) = g.S.Source.ranges c.loop-hdu.source in
    let two : Option (List (ℕ × ℕ)) = g.S.Source.ranges c.read_again.new.source in
    let reads : IfSome held (λ f. LogsWithin start (header_touched k start f) one two) = subst (λ (h : Option (List ℕ)). IfSome h (λ f. LogsWithin start (header_touched k start f) one two)) old.held c.in_ok-again.ensures.read in
    let header : IfSome held (λ f. ReadsHdus Unpack f s zero two) = one_header s zero c.ranges_law.ensures.join k start c.loop-hdu.at flag before mid few one two (c.hdus_law.ensures.header Unpack) held old.written reads old.read in
    let three : Option (List (ℕ × ℕ)) = g.S.Source.ranges c.write_hdu.new.source in
    let body : IfSome held (λ f. LogsIn (data_touched Unpack f a.header) two three) =
    subst (λ (h : Option (List ℕ)). IfSome h (λ f. LogsIn (data_touched Unpack f a.header) two three)) (c.in_ok-again.ensures.stays.0.held_is ∙ old.held) c.in_ok-at.ensures.read in
    record {
      held = search rules;
      attached = search rules;
      reads = search rules;
      writes = search rules;
      created = search rules;
      shut = λ shut. c.in_ok-at.ensures.stays.1.shut (old.shut shut);
      told_ranges = λ told. c.in_ok-at.ensures.stays.0.told (c.in_ok-again.ensures.stays.0.told (old.told_ranges told));
      told_contents = λ told. c.in_ok-at.ensures.stays.1.told (old.told_contents told);
      read = one_hdu s zero c.ranges_law.ensures.join k start c.loop-hdu.at flag before mid few two three (c.hdus_law.ensures.payload Unpack) held a old.written seen body header;
      space = record {
        header = omega (arith, c.in_ok-at.ensures.stays.2.header, old.space.header, c.in_ok-again.ensures.stays.1, length-take {A = ℕ}, length-append {A = ℕ}, length-drop {A = ℕ});
        translated = c.in_ok-at.ensures.stays.2.translated ∙ old.space.translated;
        copy = c.in_ok-at.ensures.stays.2.copy ∙ old.space.copy;
      };
      window = record { sizes = c.in_ok-at.ensures.stays.3.sizes ∙ old.window.sizes; workers = c.in_ok-at.ensures.stays.3.workers ∙ old.window.workers };
      within = λ more. inl (not_at_end c.next_start-start.result c.args.asked.now.length (k + 1) s.hdus (omega (arith, next, inside)) last more);
      early = omega (arith, next, early);
      near = omega (arith, next, near, place, old.near);
      written = subst (λ b. IfSome held (IsUnderway s (k + 1) c.next_start-start.result end b before now)) (sym says)
          (subst (λ n. IfSome held (IsUnderway s (k + 1) n end (is_empty_primary a.header) before now)) (sym next) more);
    }

pub returns-then-first-survey-clause-read : goal.returns-then-first-survey-clause-read
returns-then-first-survey-clause-read g c = no_hdu c.args.survey.now (g.S.Source.ranges c.args.source.now) (g.S.Source.held c.args.source.now)

pub returns-in_err-again-clause-read : goal.returns-in_err-again-clause-read
returns-in_err-again-clause-read g c =
    let s = c.args.survey.now in
    let k : ℕ = c.loop-hdu.hdu in
    let start : ℕ = c.loop-hdu.start in
    let flag : Bool = c.loop-hdu.after_empty in
    let held : Option (List ℕ) = g.S.Source.held c.args.source.now in
    let before : Option (List ℕ) = g.K.Sink.contents c.args.sink.now in
    let mid : Option (List ℕ) = g.K.Sink.contents c.loop-hdu.sink in
    let zero : Option (List (ℕ × ℕ)) = g.S.Source.ranges c.args.source.now in
    let one : Option (List (ℕ × ℕ)) = g.S.Source.ranges c.loop-hdu.source in
    let two : Option (List (ℕ × ℕ)) = g.S.Source.ranges c.read_again.new.source in
    let old = c.loop-hdu.invariant in
    let few : k < s.hdus = omega arith in
    let reads : IfSome held (λ f. LogsWithin start (header_touched k start f) one two) = subst (λ (h : Option (List ℕ)). IfSome h (λ f. LogsWithin start (header_touched k start f) one two)) old.held c.in_err-again.ensures.read in
    one_header s zero c.ranges_law.ensures.join k start c.loop-hdu.at flag before mid few one two (c.hdus_law.ensures.header Unpack) held old.written reads old.read

pub returns-then-not-is_primary_as_found-clause-read : goal.returns-then-not-is_primary_as_found-clause-read
returns-then-not-is_primary_as_found-clause-read g c =
    let s = c.args.survey.now in
    let k : ℕ = c.loop-hdu.hdu in
    let start : ℕ = c.loop-hdu.start in
    let flag : Bool = c.loop-hdu.after_empty in
    let held : Option (List ℕ) = g.S.Source.held c.args.source.now in
    let before : Option (List ℕ) = g.K.Sink.contents c.args.sink.now in
    let mid : Option (List ℕ) = g.K.Sink.contents c.loop-hdu.sink in
    let zero : Option (List (ℕ × ℕ)) = g.S.Source.ranges c.args.source.now in
    let one : Option (List (ℕ × ℕ)) = g.S.Source.ranges c.loop-hdu.source in
    let two : Option (List (ℕ × ℕ)) = g.S.Source.ranges c.read_again.new.source in
    let old = c.loop-hdu.invariant in
    let few : k < s.hdus = omega arith in
    let reads : IfSome held (λ f. LogsWithin start (header_touched k start f) one two) = subst (λ (h : Option (List ℕ)). IfSome h (λ f. LogsWithin start (header_touched k start f) one two)) old.held c.in_ok-again.ensures.read in
    one_header s zero c.ranges_law.ensures.join k start c.loop-hdu.at flag before mid few one two (c.hdus_law.ensures.header Unpack) held old.written reads old.read

pub returns-in_err-at-clause-read : goal.returns-in_err-at-clause-read
returns-in_err-at-clause-read g c =
    let s = c.args.survey.now in
    let k : ℕ = c.loop-hdu.hdu in
    let start : ℕ = c.loop-hdu.start in
    let flag : Bool = c.loop-hdu.after_empty in
    let held : Option (List ℕ) = g.S.Source.held c.args.source.now in
    let before : Option (List ℕ) = g.K.Sink.contents c.args.sink.now in
    let mid : Option (List ℕ) = g.K.Sink.contents c.loop-hdu.sink in
    let zero : Option (List (ℕ × ℕ)) = g.S.Source.ranges c.args.source.now in
    let one : Option (List (ℕ × ℕ)) = g.S.Source.ranges c.loop-hdu.source in
    let two : Option (List (ℕ × ℕ)) = g.S.Source.ranges c.read_again.new.source in
    let old = c.loop-hdu.invariant in
    let few : k < s.hdus = omega arith in
    let reads : IfSome held (λ f. LogsWithin start (header_touched k start f) one two) = subst (λ (h : Option (List ℕ)). IfSome h (λ f. LogsWithin start (header_touched k start f) one two)) old.held c.in_ok-again.ensures.read in
    let header : IfSome held (λ f. ReadsHdus Unpack f s zero two) = one_header s zero c.ranges_law.ensures.join k start c.loop-hdu.at flag before mid few one two (c.hdus_law.ensures.header Unpack) held old.written reads old.read in
    let a = c.in_ok-again.again in
    let long : length c.as_mut_slice-buf.result.now ≡ s.header_len = ap length c.as_mut_slice-buf.ensures.value ∙ old.space.header ∙ c.requires.header in
    let seen : IfSome held (λ f. ReadsAsSeen f k start flag s.header_len s.tile (Ok a)) =
    subst (λ n. IfSome held (λ f. ReadsAsSeen f k start flag n s.tile (Ok a))) long
    (subst (λ (h : Option (List ℕ)). IfSome h (λ f. ReadsAsSeen f k start flag (length c.as_mut_slice-buf.result.now) s.tile (Ok a))) old.held c.in_ok-again.ensures.as_seen) in
    let three : Option (List (ℕ × ℕ)) = g.S.Source.ranges c.write_hdu.new.source in
    let body : IfSome held (λ f. LogsIn (data_touched Unpack f a.header) two three) =
    subst (λ (h : Option (List ℕ)). IfSome h (λ f. LogsIn (data_touched Unpack f a.header) two three)) (c.in_ok-again.ensures.stays.0.held_is ∙ old.held) c.in_err-at.ensures.read in
    one_hdu s zero c.ranges_law.ensures.join k start c.loop-hdu.at flag before mid few two three (c.hdus_law.ensures.payload Unpack) held a old.written seen body header

pub returns-then-not-is_last_as_seen-clause-read : goal.returns-then-not-is_last_as_seen-clause-read
returns-then-not-is_last_as_seen-clause-read g c =
    let s = c.args.survey.now in
    let k : ℕ = c.loop-hdu.hdu in
    let start : ℕ = c.loop-hdu.start in
    let flag : Bool = c.loop-hdu.after_empty in
    let held : Option (List ℕ) = g.S.Source.held c.args.source.now in
    let before : Option (List ℕ) = g.K.Sink.contents c.args.sink.now in
    let mid : Option (List ℕ) = g.K.Sink.contents c.loop-hdu.sink in
    let zero : Option (List (ℕ × ℕ)) = g.S.Source.ranges c.args.source.now in
    let one : Option (List (ℕ × ℕ)) = g.S.Source.ranges c.loop-hdu.source in
    let two : Option (List (ℕ × ℕ)) = g.S.Source.ranges c.read_again.new.source in
    let old = c.loop-hdu.invariant in
    let few : k < s.hdus = omega arith in
    let reads : IfSome held (λ f. LogsWithin start (header_touched k start f) one two) = subst (λ (h : Option (List ℕ)). IfSome h (λ f. LogsWithin start (header_touched k start f) one two)) old.held c.in_ok-again.ensures.read in
    let header : IfSome held (λ f. ReadsHdus Unpack f s zero two) = one_header s zero c.ranges_law.ensures.join k start c.loop-hdu.at flag before mid few one two (c.hdus_law.ensures.header Unpack) held old.written reads old.read in
    let a = c.in_ok-again.again in
    let long : length c.as_mut_slice-buf.result.now ≡ s.header_len = ap length c.as_mut_slice-buf.ensures.value ∙ old.space.header ∙ c.requires.header in
    let seen : IfSome held (λ f. ReadsAsSeen f k start flag s.header_len s.tile (Ok a)) =
    subst (λ n. IfSome held (λ f. ReadsAsSeen f k start flag n s.tile (Ok a))) long
    (subst (λ (h : Option (List ℕ)). IfSome h (λ f. ReadsAsSeen f k start flag (length c.as_mut_slice-buf.result.now) s.tile (Ok a))) old.held c.in_ok-again.ensures.as_seen) in
    let three : Option (List (ℕ × ℕ)) = g.S.Source.ranges c.write_hdu.new.source in
    let body : IfSome held (λ f. LogsIn (data_touched Unpack f a.header) two three) =
    subst (λ (h : Option (List ℕ)). IfSome h (λ f. LogsIn (data_touched Unpack f a.header) two three)) (c.in_ok-again.ensures.stays.0.held_is ∙ old.held) c.in_ok-at.ensures.read in
    one_hdu s zero c.ranges_law.ensures.join k start c.loop-hdu.at flag before mid few two three (c.hdus_law.ensures.payload Unpack) held a old.written seen body header

pub returns-then-first-survey-clause-stays : goal.returns-then-first-survey-clause-stays
returns-then-first-survey-clause-stays g c = (
  record { held_is = refl; attached_is = refl; told = λ told. told },
  record { created_is = refl; shut = λ shut. shut; told = λ told. told },
  record { header = refl; translated = refl; copy = refl },
  record { sizes = refl; workers = refl },
)

pub returns-then-first-survey-clause-late : goal.returns-then-first-survey-clause-late
returns-then-first-survey-clause-late g c =
    subst (λ x. IfRefused {X = Unit {0}} (Err x) (ComesLate Unpack)) (sym c.changed.ensures) (inl refl)

pub returns-then-first-survey-clause-cause : goal.returns-then-first-survey-clause-cause
returns-then-first-survey-clause-cause g c =
    refused_only _ _ _ _ c.changed.result _ c.changed.ensures refl refl

pub returns-in_err-again-clause-stays : goal.returns-in_err-again-clause-stays
returns-in_err-again-clause-stays g c =
    let old = c.loop-hdu.invariant in
    let read = c.in_err-again.ensures.stays in (
      record {
        held_is = read.0.held_is ∙ old.held;
        attached_is = read.0.attached_is ∙ old.attached;
        told = λ told. read.0.told (old.told_ranges told);
      },
      record { created_is = old.created; shut = old.shut; told = old.told_contents },
      record {
        header = omega (arith, old.space.header, read.1, length-take {A = ℕ}, length-append {A = ℕ}, length-drop {A = ℕ});
        translated = old.space.translated;
        copy = old.space.copy;
      },
      old.window,
    )

pub returns-then-not-is_primary_as_found-clause-stays : goal.returns-then-not-is_primary_as_found-clause-stays
returns-then-not-is_primary_as_found-clause-stays g c =
    let old = c.loop-hdu.invariant in
    let read = c.in_ok-again.ensures.stays in (
      record {
        held_is = read.0.held_is ∙ old.held;
        attached_is = read.0.attached_is ∙ old.attached;
        told = λ told. read.0.told (old.told_ranges told);
      },
      record { created_is = old.created; shut = old.shut; told = old.told_contents },
      record {
        header = omega (arith, old.space.header, read.1, length-take {A = ℕ}, length-append {A = ℕ}, length-drop {A = ℕ});
        translated = old.space.translated;
        copy = old.space.copy;
      },
      old.window,
    )

pub returns-in_err-at-clause-stays : goal.returns-in_err-at-clause-stays
returns-in_err-at-clause-stays g c =
    let old = c.loop-hdu.invariant in
    let read = c.in_ok-again.ensures.stays.0 in
    let wrote = c.in_err-at.ensures.stays in (
      record {
        held_is = wrote.0.held_is ∙ (read.held_is ∙ old.held);
        attached_is = wrote.0.attached_is ∙ (read.attached_is ∙ old.attached);
        told = λ told. wrote.0.told (read.told (old.told_ranges told));
      },
      record {
        created_is = wrote.1.created_is ∙ old.created;
        shut = λ shut. wrote.1.shut (old.shut shut);
        told = λ told. wrote.1.told (old.told_contents told);
      },
      record {
        header = omega (arith, wrote.2.header, old.space.header, c.in_ok-again.ensures.stays.1, length-take {A = ℕ}, length-append {A = ℕ}, length-drop {A = ℕ});
        translated = wrote.2.translated ∙ old.space.translated;
        copy = wrote.2.copy ∙ old.space.copy;
      },
      record { sizes = wrote.3.sizes ∙ old.window.sizes; workers = wrote.3.workers ∙ old.window.workers },
    )

pub returns-then-not-is_last_as_seen-clause-stays : goal.returns-then-not-is_last_as_seen-clause-stays
returns-then-not-is_last_as_seen-clause-stays g c =
    let old = c.loop-hdu.invariant in
    let read = c.in_ok-again.ensures.stays.0 in
    let wrote = c.in_ok-at.ensures.stays in (
      record {
        held_is = wrote.0.held_is ∙ (read.held_is ∙ old.held);
        attached_is = wrote.0.attached_is ∙ (read.attached_is ∙ old.attached);
        told = λ told. wrote.0.told (read.told (old.told_ranges told));
      },
      record {
        created_is = wrote.1.created_is ∙ old.created;
        shut = λ shut. wrote.1.shut (old.shut shut);
        told = λ told. wrote.1.told (old.told_contents told);
      },
      record {
        header = omega (arith, wrote.2.header, old.space.header, c.in_ok-again.ensures.stays.1, length-take {A = ℕ}, length-append {A = ℕ}, length-drop {A = ℕ});
        translated = wrote.2.translated ∙ old.space.translated;
        copy = wrote.2.copy ∙ old.space.copy;
      },
      record { sizes = wrote.3.sizes ∙ old.window.sizes; workers = wrote.3.workers ∙ old.window.workers },
    )

pub returns-in_err-again-clause-late : goal.returns-in_err-again-clause-late
returns-in_err-again-clause-late g c =
    let stopped : c.from_residual.result ≡ Err c.in_err-again.field-0.0 = search rules in
    late_change (Unit {0}) c.in_err-again.field-0.0 c.from_residual.result stopped c.in_err-again.ensures.refused

pub returns-in_err-again-clause-cause : goal.returns-in_err-again-clause-cause
returns-in_err-again-clause-cause g c =
    let stopped : c.from_residual.result ≡ Err c.in_err-again.field-0.0 = search rules in
    read_fails _ (g.S.Source.tally c.loop-hdu.source) _ _ _ c.in_err-again.field-0.0 c.from_residual.result stopped c.loop-hdu.invariant.reads c.loop-hdu.invariant.writes c.in_err-again.ensures.cause

pub returns-in_err-at-clause-late : goal.returns-in_err-at-clause-late
returns-in_err-at-clause-late g c =
    let stopped : c.from_residual-in_err-at.result ≡ Err c.in_err-at.field-0.0 = search rules in
    late_row (Unit {0}) c.in_err-at.field-0.0 c.from_residual-in_err-at.result stopped c.in_err-at.ensures.row

pub returns-in_err-at-clause-cause : goal.returns-in_err-at-clause-cause
returns-in_err-at-clause-cause g c =
    let stopped : c.from_residual-in_err-at.result ≡ Err c.in_err-at.field-0.0 = search rules in
    write_fails _ (g.S.Source.tally c.read_again.new.source) _ _ (g.K.Sink.tally c.loop-hdu.sink) _ c.in_err-at.field-0.0 c.from_residual-in_err-at.result stopped
    (c.in_ok-again.ensures.cause.ok ∙ c.loop-hdu.invariant.reads) c.loop-hdu.invariant.writes c.in_err-at.ensures.cause

pub returns-then-not-is_primary_as_found-clause-late : goal.returns-then-not-is_primary_as_found-clause-late
returns-then-not-is_primary_as_found-clause-late g c =
    subst (λ x. IfRefused {X = Unit {0}} (Err x) (ComesLate Unpack)) (sym c.changed-then-not-is_primary_as_found.ensures) (inl refl)

pub returns-then-not-is_primary_as_found-clause-cause : goal.returns-then-not-is_primary_as_found-clause-cause
returns-then-not-is_primary_as_found-clause-cause g c =
    refused_only _ _ _ _ c.changed-then-not-is_primary_as_found.result _ c.changed-then-not-is_primary_as_found.ensures (c.in_ok-again.ensures.cause.ok ∙ c.loop-hdu.invariant.reads) c.loop-hdu.invariant.writes

pub returns-then-not-is_last_as_seen-clause-late : goal.returns-then-not-is_last_as_seen-clause-late
returns-then-not-is_last_as_seen-clause-late g c =
    subst (λ x. IfRefused {X = Unit {0}} (Err x) (ComesLate Unpack)) (sym c.changed-then-not-is_last_as_seen.ensures) (inl refl)

pub returns-then-not-is_last_as_seen-clause-cause : goal.returns-then-not-is_last_as_seen-clause-cause
returns-then-not-is_last_as_seen-clause-cause g c =
    refused_only _ _ _ _ c.changed-then-not-is_last_as_seen.result _ c.changed-then-not-is_last_as_seen.ensures
    (c.in_ok-at.ensures.cause.ok.0 ∙ (c.in_ok-again.ensures.cause.ok ∙ c.loop-hdu.invariant.reads)) (c.in_ok-at.ensures.cause.ok.1 ∙ c.loop-hdu.invariant.writes)

pub returns-clause-stays : goal.returns-clause-stays
returns-clause-stays g c =
    let old = c.loop-hdu.invariant in (
      record { held_is = old.held; attached_is = old.attached; told = old.told_ranges },
      record { created_is = old.created; shut = old.shut; told = old.told_contents },
      old.space,
      old.window,
    )

pub returns-clause-late : goal.returns-clause-late
returns-clause-late g c =
    tt

pub returns-clause-read : goal.returns-clause-read
returns-clause-read g c =
    c.loop-hdu.invariant.read

pub returns-clause-cause : goal.returns-clause-cause
returns-clause-cause g c =
    rewrote _ _ _ _ c.loop-hdu.invariant.reads c.loop-hdu.invariant.writes

pub read_again-requires-clause-attached : goal.read_again-requires-clause-attached
read_again-requires-clause-attached g c =
    c.loop-hdu.invariant.attached ∙ c.requires.attached

pub read_again-requires-clause-within : goal.read_again-requires-clause-within
read_again-requires-clause-within g c =
    c.loop-hdu.invariant.within (omega arith)

pub read_again-requires-clause-room : goal.read_again-requires-clause-room
read_again-requires-clause-room g c =
    omega (arith, ap length c.as_mut_slice-buf.ensures.value, c.loop-hdu.invariant.space.header, c.requires.header, c.requires.long)

pub write_hdu-requires-clause-created : goal.write_hdu-requires-clause-created
write_hdu-requires-clause-created g c κs lives =
    c.loop-hdu.invariant.created ∙ c.requires.created

pub write_hdu-requires-clause-copy : goal.write_hdu-requires-clause-copy
write_hdu-requires-clause-copy g c =
    omega (arith, c.loop-hdu.invariant.space.copy, c.requires.copy)

pub write_hdu-requires-clause-near : goal.write_hdu-requires-clause-near
write_hdu-requires-clause-near g c κs lives =
    omega (arith, c.loop-hdu.invariant.near, c.loop-hdu.invariant.early, c.requires.few)

pub write_hdu-requires-clause-translated : goal.write_hdu-requires-clause-translated
write_hdu-requires-clause-translated g c κs lives =
    omega (arith, c.in_ok-again.ensures.stays.1, c.loop-hdu.invariant.space.header, c.loop-hdu.invariant.space.translated, c.requires.translated, length-take {A = ℕ}, length-append {A = ℕ}, length-drop {A = ℕ})
