-- One HDU after another.
use Rattle.std.proofs.Common.{◌≡◌, ℕ, ◌+◌, ◌<◌, ◌≤◌, ◌^◌, ◌&&◌, not, Bool, true, List, length, Option, IfSome, Result, Ok, Err, refl, sym, ap, ◌∙◌, subst, inl, inr, arith, rules}
use Rattle.std.proofs.lemmas.List.{length-append, length-drop, length-take}
use Rattle.std.proofs.Math.Bool.{beq}
use Rattle.std.proofs.Math.Dec.{eqb}
use Rattle.fz_base.specs.Ranges.{LogsIn}
use Rattle.fz_base.specs.Source.{HoldsLength, LogsWithin}
use Rattle.fz_base.specs.declared.failure.Stop.{Stop}
use Rattle.fz_block.specs.Checks.{header_touched}
use Rattle.fz_block.specs.Header.{next_start_of}
use Rattle.fz_files.specs.declared.job.Job.TheVariants.{Verify}
use Rattle.fz_job.specs.Again.{ReadsAsSeen, is_empty_primary}
use Rattle.fz_job.specs.Hdus.{ReadsHdus}
use Rattle.fz_files.specs.Touched.{data_touched}
use Rattle.fz_verify.specs.Printed.{ChecksHdu, IsChecking, VerifiesSeen}
use Rattle.fz_verify.specs.Rows.{IsHduSound}
use Rattle.fz_verify.proofs.CheckedHdus.{more_checked, next_sound, none_checked, stops_changed, stops_checking, stops_reading, ends_with_last}
use Rattle.fz_verify.proofs.Ends.{not_at_end}
use Rattle.fz_verify.proofs.HduReads.{no_hdu, one_hdu, one_header}
use Rattle.fz_verify.specs.Reported.{ReportsFrom}
use Rattle.fz_verify.proofs.Reports.{all_reported, both_reported, grew_both, grew_by, none_reported}
use Rattle.fz_base.specs.Stop.{IfRefused}
use Rattle.fz_job.specs.Clauses.{ComesLate}
use Rattle.fz_verify.proofs.Counting.{late_change, late_row, read_fails, refused_only, rewrote, write_fails}
use Rattle.fz_verify.proofs.checking.verify_hdus.Goals as goal

pub loop-hdu-init : goal.loop-hdu-init
loop-hdu-init g c = record {
  held = refl;
  attached = refl;
  reads = refl;
  prints = refl;
  told_ranges = λ told. told;
  told_contents = λ told. told;
  space = record { header = refl; translated = refl; copy = refl };
  window = record { sizes = refl; workers = refl };
  within = λ more. inr (refl, refl);
  early = omega arith;
  checked = none_checked c.none_refused_law.ensures c.args.survey.now (g.T.Text.contents c.args.text.now) (g.S.Source.held c.args.source.now);
  read = no_hdu c.args.survey.now (g.S.Source.ranges c.args.source.now) (g.S.Source.held c.args.source.now);
  reported = none_reported (g.T.Text.contents c.args.text.now);
}

pub returns-in_err-again-clause-verified : goal.returns-in_err-again-clause-verified
returns-in_err-again-clause-verified g c =
    let s = c.args.survey.now in
    let k : ℕ = c.loop-hdu.hdu in
    let start : ℕ = c.loop-hdu.start in
    let flag : Bool = c.loop-hdu.after_empty in
    let right : Bool = c.loop-hdu.right in
    let held : Option (List ℕ) = g.S.Source.held c.args.source.now in
    let before : Option (List ℕ) = g.T.Text.contents c.args.text.now in
    let old = c.loop-hdu.invariant in
    let few : k < s.hdus = omega arith in
    let now : Option (List ℕ) = g.T.Text.contents c.loop-hdu.text in
    let stopped : c.from_residual.result ≡ Err c.in_err-again.field-0.0 = search rules in
    let long : length c.as_mut_slice-buf.result.now ≡ s.header_len = ap length c.as_mut_slice-buf.ensures.value ∙ old.space.header ∙ c.requires.header in
    let seen : IfSome held (λ f. ReadsAsSeen f k start flag s.header_len s.tile (Err c.in_err-again.field-0.0)) =
    subst (λ n. IfSome held (λ f. ReadsAsSeen f k start flag n s.tile (Err c.in_err-again.field-0.0))) long
    (subst (λ (h : Option (List ℕ)). IfSome h (λ f. ReadsAsSeen f k start flag (length c.as_mut_slice-buf.result.now) s.tile (Err c.in_err-again.field-0.0))) old.held c.in_err-again.ensures.as_seen) in
    subst (λ (r : Result Bool Stop). IfSome held (λ f. VerifiesSeen f s before now r)) (sym stopped)
    (stops_reading c.none_refused_law.ensures s before held c.in_err-again.field-0.0 k start flag right now few old.checked seen)

pub returns-in_err-sound-clause-verified : goal.returns-in_err-sound-clause-verified
returns-in_err-sound-clause-verified g c =
    let s = c.args.survey.now in
    let k : ℕ = c.loop-hdu.hdu in
    let start : ℕ = c.loop-hdu.start in
    let flag : Bool = c.loop-hdu.after_empty in
    let right : Bool = c.loop-hdu.right in
    let held : Option (List ℕ) = g.S.Source.held c.args.source.now in
    let before : Option (List ℕ) = g.T.Text.contents c.args.text.now in
    let old = c.loop-hdu.invariant in
    let few : k < s.hdus = omega arith in
    let mid : Option (List ℕ) = g.T.Text.contents c.loop-hdu.text in
    let now : Option (List ℕ) = g.T.Text.contents c.print_verified.new.text in
    let a = c.in_ok-again.again in
    let long : length c.as_mut_slice-buf.result.now ≡ s.header_len = ap length c.as_mut_slice-buf.ensures.value ∙ old.space.header ∙ c.requires.header in
    let seen : IfSome held (λ f. ReadsAsSeen f k start flag s.header_len s.tile (Ok a)) =
    subst (λ n. IfSome held (λ f. ReadsAsSeen f k start flag n s.tile (Ok a))) long
    (subst (λ (h : Option (List ℕ)). IfSome h (λ f. ReadsAsSeen f k start flag (length c.as_mut_slice-buf.result.now) s.tile (Ok a))) old.held c.in_ok-again.ensures.as_seen) in
    let stopped : c.from_residual-in_err-sound.result ≡ Err c.in_err-sound.field-0.0 = search rules in
    let checked : IfSome held (λ f. ChecksHdu f a.header mid now (Err c.in_err-sound.field-0.0)) =
    subst (λ (h : Option (List ℕ)). IfSome h (λ f. ChecksHdu f a.header mid now (Err c.in_err-sound.field-0.0))) (c.in_ok-again.ensures.stays.0.held_is ∙ old.held) c.in_err-sound.ensures.checked in
    subst (λ (r : Result Bool Stop). IfSome held (λ f. VerifiesSeen f s before now r)) (sym stopped)
    (stops_checking c.none_refused_law.ensures s before held c.in_err-sound.field-0.0 k start flag right mid now a few old.checked seen checked)

pub returns-then-start-length-clause-verified : goal.returns-then-start-length-clause-verified
returns-then-start-length-clause-verified g c =
    let s = c.args.survey.now in
    let k : ℕ = c.loop-hdu.hdu in
    let start : ℕ = c.loop-hdu.start in
    let flag : Bool = c.loop-hdu.after_empty in
    let right : Bool = c.loop-hdu.right in
    let held : Option (List ℕ) = g.S.Source.held c.args.source.now in
    let before : Option (List ℕ) = g.T.Text.contents c.args.text.now in
    let old = c.loop-hdu.invariant in
    let few : k < s.hdus = omega arith in
    let mid : Option (List ℕ) = g.T.Text.contents c.loop-hdu.text in
    let now : Option (List ℕ) = g.T.Text.contents c.print_verified.new.text in
    let a = c.in_ok-again.again in
    let long : length c.as_mut_slice-buf.result.now ≡ s.header_len = ap length c.as_mut_slice-buf.ensures.value ∙ old.space.header ∙ c.requires.header in
    let seen : IfSome held (λ f. ReadsAsSeen f k start flag s.header_len s.tile (Ok a)) =
    subst (λ n. IfSome held (λ f. ReadsAsSeen f k start flag n s.tile (Ok a))) long
    (subst (λ (h : Option (List ℕ)). IfSome h (λ f. ReadsAsSeen f k start flag (length c.as_mut_slice-buf.result.now) s.tile (Ok a))) old.held c.in_ok-again.ensures.as_seen) in
    let sound : Bool = c.in_ok-sound.sound in
    let checked : IfSome held (λ f. ChecksHdu f a.header mid now (Ok sound)) =
    subst (λ (h : Option (List ℕ)). IfSome h (λ f. ChecksHdu f a.header mid now (Ok sound))) (c.in_ok-again.ensures.stays.0.held_is ∙ old.held) c.in_ok-sound.ensures.checked in
    let more : IfSome held (IsChecking s (k + 1) (next_start_of a.header) (is_empty_primary a.header) (right && sound) before now) =
    more_checked c.none_refused_law.ensures s before held k start flag (is_empty_primary a.header) right sound mid now a few old.checked seen checked refl in
    let told : HoldsLength held c.args.asked.now.length = g.met.S.Source.agrees c.args.source.now c.args.asked.now.length c.requires.attached in
    let differ : not (beq (eqb (next_start_of a.header) c.args.asked.now.length) (eqb (k + 1) s.hdus)) ≡ true =
    subst (λ n. not (beq (eqb n c.args.asked.now.length) (eqb (k + 1) s.hdus)) ≡ true) c.next_start-start.ensures c.if-start-length.true in
    stops_changed c.none_refused_law.ensures s before held c.args.asked.now.length (k + 1) (next_start_of a.header) (is_empty_primary a.header) (right && sound) now (Err c.changed.result) told differ more

pub loop-hdu-preserved : goal.loop-hdu-preserved
loop-hdu-preserved g c =
    let s = c.args.survey.now in
    let k : ℕ = c.loop-hdu.hdu in
    let start : ℕ = c.loop-hdu.start in
    let flag : Bool = c.loop-hdu.after_empty in
    let right : Bool = c.loop-hdu.right in
    let held : Option (List ℕ) = g.S.Source.held c.args.source.now in
    let before : Option (List ℕ) = g.T.Text.contents c.args.text.now in
    let old = c.loop-hdu.invariant in
    let few : k < s.hdus = omega arith in
    let mid : Option (List ℕ) = g.T.Text.contents c.loop-hdu.text in
    let now : Option (List ℕ) = g.T.Text.contents c.print_verified.new.text in
    let a = c.in_ok-again.again in
    let long : length c.as_mut_slice-buf.result.now ≡ s.header_len = ap length c.as_mut_slice-buf.ensures.value ∙ old.space.header ∙ c.requires.header in
    let seen : IfSome held (λ f. ReadsAsSeen f k start flag s.header_len s.tile (Ok a)) =
    subst (λ n. IfSome held (λ f. ReadsAsSeen f k start flag n s.tile (Ok a))) long
    (subst (λ (h : Option (List ℕ)). IfSome h (λ f. ReadsAsSeen f k start flag (length c.as_mut_slice-buf.result.now) s.tile (Ok a))) old.held c.in_ok-again.ensures.as_seen) in
    let sound : Bool = c.in_ok-sound.sound in
    let checked : IfSome held (λ f. ChecksHdu f a.header mid now (Ok sound)) =
    subst (λ (h : Option (List ℕ)). IfSome h (λ f. ChecksHdu f a.header mid now (Ok sound))) (c.in_ok-again.ensures.stays.0.held_is ∙ old.held) c.in_ok-sound.ensures.checked in
    let more : IfSome held (IsChecking s (k + 1) (next_start_of a.header) (is_empty_primary a.header) (right && sound) before now) =
    more_checked c.none_refused_law.ensures s before held k start flag (is_empty_primary a.header) right sound mid now a few old.checked seen checked refl in
    let next : c.next_start-start.result ≡ next_start_of a.header = c.next_start-start.ensures in
    let says : c.is_empty_primary-after_empty.result ≡ is_empty_primary a.header = c.is_empty_primary-after_empty.ensures in
    let inside : next_start_of a.header ≤ c.args.asked.now.length = c.in_ok-again.ensures.again.inside in
    let early : next_start_of a.header ≤ 2 ^ 62 = c.in_ok-again.ensures.again.near in
    let first : Option (List (ℕ × ℕ)) = g.S.Source.ranges c.args.source.now in
    let one : Option (List (ℕ × ℕ)) = g.S.Source.ranges c.loop-hdu.source in
    let two : Option (List (ℕ × ℕ)) = g.S.Source.ranges c.read_again.new.source in
    let reads : IfSome held (λ f. LogsWithin start (header_touched k start f) one two) = subst (λ (h : Option (List ℕ)). IfSome h (λ f. LogsWithin start (header_touched k start f) one two)) old.held c.in_ok-again.ensures.read in
    let header : IfSome held (λ f. ReadsHdus Verify f s first two) = one_header s first c.ranges_law.ensures.join k start flag right before mid few one two (c.hdus_law.ensures.header Verify) held old.checked reads old.read in
    let three : Option (List (ℕ × ℕ)) = g.S.Source.ranges c.print_verified.new.source in
    let body : IfSome held (λ f. LogsIn (data_touched Verify f a.header) two three) =
    subst (λ (h : Option (List ℕ)). IfSome h (λ f. LogsIn (data_touched Verify f a.header) two three)) (c.in_ok-again.ensures.stays.0.held_is ∙ old.held) c.in_ok-sound.ensures.read in
    record {
      held = search rules;
      attached = search rules;
      reads = search rules;
      prints = search rules;
      told_ranges = λ told. c.in_ok-sound.ensures.stays.0.told (c.in_ok-again.ensures.stays.0.told (old.told_ranges told));
      told_contents = λ told. c.in_ok-sound.ensures.stays.3 (old.told_contents told);
      space = record {
        header = omega (arith, c.in_ok-sound.ensures.stays.1.header, old.space.header, c.in_ok-again.ensures.stays.1, length-take {A = ℕ}, length-append {A = ℕ}, length-drop {A = ℕ});
        translated = c.in_ok-sound.ensures.stays.1.translated ∙ old.space.translated;
        copy = c.in_ok-sound.ensures.stays.1.copy ∙ old.space.copy;
      };
      window = record { sizes = c.in_ok-sound.ensures.stays.2.sizes ∙ old.window.sizes; workers = c.in_ok-sound.ensures.stays.2.workers ∙ old.window.workers };
      within = λ left. inl (not_at_end c.next_start-start.result c.args.asked.now.length (k + 1) s.hdus c.if-start-length.false left (omega (arith, next, inside)));
      early = omega (arith, next, early);
      checked = subst (λ b. IfSome held (IsChecking s (k + 1) c.next_start-start.result b (right && sound) before now)) (sym says)
          (subst (λ n. IfSome held (IsChecking s (k + 1) n (is_empty_primary a.header) (right && sound) before now)) (sym next) more);
      read = one_hdu s first c.ranges_law.ensures.join k start flag right before mid few two three (c.hdus_law.ensures.payload Verify) held a old.checked seen body header;
      reported = both_reported k before mid now right sound old.reported
          (subst (λ n. ReportsFrom n 1 mid now sound) c.in_ok-again.ensures.place.0 c.in_ok-sound.ensures.reported);
    }

pub returns-in_err-again-clause-grown : goal.returns-in_err-again-clause-grown
returns-in_err-again-clause-grown g c =
    grew_by 0 c.loop-hdu.hdu (g.T.Text.contents c.args.text.now) (g.T.Text.contents c.loop-hdu.text) c.loop-hdu.right c.loop-hdu.invariant.reported

pub returns-in_err-sound-clause-grown : goal.returns-in_err-sound-clause-grown
returns-in_err-sound-clause-grown g c =
    let before : Option (List ℕ) = g.T.Text.contents c.args.text.now in
    let mid : Option (List ℕ) = g.T.Text.contents c.loop-hdu.text in
    grew_both before mid (g.T.Text.contents c.print_verified.new.text) (grew_by 0 c.loop-hdu.hdu before mid c.loop-hdu.right c.loop-hdu.invariant.reported)
    c.in_err-sound.ensures.grown

pub returns-then-start-length-clause-grown : goal.returns-then-start-length-clause-grown
returns-then-start-length-clause-grown g c =
    let before : Option (List ℕ) = g.T.Text.contents c.args.text.now in
    let mid : Option (List ℕ) = g.T.Text.contents c.loop-hdu.text in
    let now : Option (List ℕ) = g.T.Text.contents c.print_verified.new.text in
    let right : Bool = c.loop-hdu.right in
    let sound : Bool = c.in_ok-sound.sound in
    grew_both before mid now (grew_by 0 c.loop-hdu.hdu before mid right c.loop-hdu.invariant.reported)
    (grew_by c.in_ok-again.again.header.hdu 1 mid now sound c.in_ok-sound.ensures.reported)

pub returns-clause-grown : goal.returns-clause-grown
returns-clause-grown g c =
    grew_by 0 c.loop-hdu.hdu (g.T.Text.contents c.args.text.now) (g.T.Text.contents c.loop-hdu.text) c.loop-hdu.right c.loop-hdu.invariant.reported

pub returns-clause-reported : goal.returns-clause-reported
returns-clause-reported g c =
    all_reported c.loop-hdu.hdu (g.T.Text.contents c.args.text.now) (g.T.Text.contents c.loop-hdu.text) c.loop-hdu.right c.loop-hdu.invariant.reported

pub returns-in_err-again-clause-read : goal.returns-in_err-again-clause-read
returns-in_err-again-clause-read g c =
    let s = c.args.survey.now in
    let k : ℕ = c.loop-hdu.hdu in
    let start : ℕ = c.loop-hdu.start in
    let flag : Bool = c.loop-hdu.after_empty in
    let right : Bool = c.loop-hdu.right in
    let held : Option (List ℕ) = g.S.Source.held c.args.source.now in
    let before : Option (List ℕ) = g.T.Text.contents c.args.text.now in
    let now : Option (List ℕ) = g.T.Text.contents c.loop-hdu.text in
    let first : Option (List (ℕ × ℕ)) = g.S.Source.ranges c.args.source.now in
    let one : Option (List (ℕ × ℕ)) = g.S.Source.ranges c.loop-hdu.source in
    let two : Option (List (ℕ × ℕ)) = g.S.Source.ranges c.read_again.new.source in
    let old = c.loop-hdu.invariant in
    let few : k < s.hdus = omega arith in
    let reads : IfSome held (λ f. LogsWithin start (header_touched k start f) one two) = subst (λ (h : Option (List ℕ)). IfSome h (λ f. LogsWithin start (header_touched k start f) one two)) old.held c.in_err-again.ensures.read in
    one_header s first c.ranges_law.ensures.join k start flag right before now few one two (c.hdus_law.ensures.header Verify) held old.checked reads old.read

pub returns-in_err-sound-clause-read : goal.returns-in_err-sound-clause-read
returns-in_err-sound-clause-read g c =
    let s = c.args.survey.now in
    let k : ℕ = c.loop-hdu.hdu in
    let start : ℕ = c.loop-hdu.start in
    let flag : Bool = c.loop-hdu.after_empty in
    let right : Bool = c.loop-hdu.right in
    let held : Option (List ℕ) = g.S.Source.held c.args.source.now in
    let before : Option (List ℕ) = g.T.Text.contents c.args.text.now in
    let now : Option (List ℕ) = g.T.Text.contents c.loop-hdu.text in
    let first : Option (List (ℕ × ℕ)) = g.S.Source.ranges c.args.source.now in
    let one : Option (List (ℕ × ℕ)) = g.S.Source.ranges c.loop-hdu.source in
    let two : Option (List (ℕ × ℕ)) = g.S.Source.ranges c.read_again.new.source in
    let old = c.loop-hdu.invariant in
    let few : k < s.hdus = omega arith in
    let reads : IfSome held (λ f. LogsWithin start (header_touched k start f) one two) = subst (λ (h : Option (List ℕ)). IfSome h (λ f. LogsWithin start (header_touched k start f) one two)) old.held c.in_ok-again.ensures.read in
    let header : IfSome held (λ f. ReadsHdus Verify f s first two) = one_header s first c.ranges_law.ensures.join k start flag right before now few one two (c.hdus_law.ensures.header Verify) held old.checked reads old.read in
    let a = c.in_ok-again.again in
    let long : length c.as_mut_slice-buf.result.now ≡ s.header_len = ap length c.as_mut_slice-buf.ensures.value ∙ old.space.header ∙ c.requires.header in
    let seen : IfSome held (λ f. ReadsAsSeen f k start flag s.header_len s.tile (Ok a)) =
    subst (λ n. IfSome held (λ f. ReadsAsSeen f k start flag n s.tile (Ok a))) long
    (subst (λ (h : Option (List ℕ)). IfSome h (λ f. ReadsAsSeen f k start flag (length c.as_mut_slice-buf.result.now) s.tile (Ok a))) old.held c.in_ok-again.ensures.as_seen) in
    let three : Option (List (ℕ × ℕ)) = g.S.Source.ranges c.print_verified.new.source in
    let body : IfSome held (λ f. LogsIn (data_touched Verify f a.header) two three) =
    subst (λ (h : Option (List ℕ)). IfSome h (λ f. LogsIn (data_touched Verify f a.header) two three)) (c.in_ok-again.ensures.stays.0.held_is ∙ old.held) c.in_err-sound.ensures.read in
    one_hdu s first c.ranges_law.ensures.join k start flag right before now few two three (c.hdus_law.ensures.payload Verify) held a old.checked seen body header

pub returns-then-start-length-clause-read : goal.returns-then-start-length-clause-read
returns-then-start-length-clause-read g c =
    let s = c.args.survey.now in
    let k : ℕ = c.loop-hdu.hdu in
    let start : ℕ = c.loop-hdu.start in
    let flag : Bool = c.loop-hdu.after_empty in
    let right : Bool = c.loop-hdu.right in
    let held : Option (List ℕ) = g.S.Source.held c.args.source.now in
    let before : Option (List ℕ) = g.T.Text.contents c.args.text.now in
    let now : Option (List ℕ) = g.T.Text.contents c.loop-hdu.text in
    let first : Option (List (ℕ × ℕ)) = g.S.Source.ranges c.args.source.now in
    let one : Option (List (ℕ × ℕ)) = g.S.Source.ranges c.loop-hdu.source in
    let two : Option (List (ℕ × ℕ)) = g.S.Source.ranges c.read_again.new.source in
    let old = c.loop-hdu.invariant in
    let few : k < s.hdus = omega arith in
    let reads : IfSome held (λ f. LogsWithin start (header_touched k start f) one two) = subst (λ (h : Option (List ℕ)). IfSome h (λ f. LogsWithin start (header_touched k start f) one two)) old.held c.in_ok-again.ensures.read in
    let header : IfSome held (λ f. ReadsHdus Verify f s first two) = one_header s first c.ranges_law.ensures.join k start flag right before now few one two (c.hdus_law.ensures.header Verify) held old.checked reads old.read in
    let a = c.in_ok-again.again in
    let long : length c.as_mut_slice-buf.result.now ≡ s.header_len = ap length c.as_mut_slice-buf.ensures.value ∙ old.space.header ∙ c.requires.header in
    let seen : IfSome held (λ f. ReadsAsSeen f k start flag s.header_len s.tile (Ok a)) =
    subst (λ n. IfSome held (λ f. ReadsAsSeen f k start flag n s.tile (Ok a))) long
    (subst (λ (h : Option (List ℕ)). IfSome h (λ f. ReadsAsSeen f k start flag (length c.as_mut_slice-buf.result.now) s.tile (Ok a))) old.held c.in_ok-again.ensures.as_seen) in
    let three : Option (List (ℕ × ℕ)) = g.S.Source.ranges c.print_verified.new.source in
    let body : IfSome held (λ f. LogsIn (data_touched Verify f a.header) two three) =
    subst (λ (h : Option (List ℕ)). IfSome h (λ f. LogsIn (data_touched Verify f a.header) two three)) (c.in_ok-again.ensures.stays.0.held_is ∙ old.held) c.in_ok-sound.ensures.read in
    one_hdu s first c.ranges_law.ensures.join k start flag right before now few two three (c.hdus_law.ensures.payload Verify) held a old.checked seen body header

pub print_verified-requires-clause-sound : goal.print_verified-requires-clause-sound
print_verified-requires-clause-sound g c κs within = λ done.
    let s = c.args.survey.now in
    let k : ℕ = c.loop-hdu.hdu in
    let start : ℕ = c.loop-hdu.start in
    let flag : Bool = c.loop-hdu.after_empty in
    let right : Bool = c.loop-hdu.right in
    let held : Option (List ℕ) = g.S.Source.held c.args.source.now in
    let before : Option (List ℕ) = g.T.Text.contents c.args.text.now in
    let mid : Option (List ℕ) = g.T.Text.contents c.loop-hdu.text in
    let old = c.loop-hdu.invariant in
    let few : k < s.hdus = omega arith in
    let a = c.in_ok-again.again in
    let long : length c.as_mut_slice-buf.result.now ≡ s.header_len = ap length c.as_mut_slice-buf.ensures.value ∙ old.space.header ∙ c.requires.header in
    let seen : IfSome held (λ f. ReadsAsSeen f k start flag s.header_len s.tile (Ok a)) =
    subst (λ n. IfSome held (λ f. ReadsAsSeen f k start flag n s.tile (Ok a))) long
    (subst (λ (h : Option (List ℕ)). IfSome h (λ f. ReadsAsSeen f k start flag (length c.as_mut_slice-buf.result.now) s.tile (Ok a))) old.held c.in_ok-again.ensures.as_seen) in
    let there : g.S.Source.held c.read_again.new.source ≡ held = c.in_ok-again.ensures.stays.0.held_is ∙ old.held in
    subst (λ (h : Option (List ℕ)). IfSome h (λ f. IsHduSound f a.header)) (sym there) (next_sound c.none_refused_law.ensures s before held k start flag right mid a few old.checked seen (c.requires.sound done))

pub returns-in_err-again-clause-stays : goal.returns-in_err-again-clause-stays
returns-in_err-again-clause-stays g c =
    let old = c.loop-hdu.invariant in
    let read = c.in_err-again.ensures.stays in (
      record {
        held_is = read.0.held_is ∙ old.held;
        attached_is = read.0.attached_is ∙ old.attached;
        told = λ told. read.0.told (old.told_ranges told);
      },
      record {
        header = omega (arith, old.space.header, read.1, length-take {A = ℕ}, length-append {A = ℕ}, length-drop {A = ℕ});
        translated = old.space.translated;
        copy = old.space.copy;
      },
      old.window,
      old.told_contents,
    )

pub returns-in_err-sound-clause-stays : goal.returns-in_err-sound-clause-stays
returns-in_err-sound-clause-stays g c =
    let old = c.loop-hdu.invariant in
    let read = c.in_ok-again.ensures.stays.0 in
    let checked = c.in_err-sound.ensures.stays in (
      record {
        held_is = checked.0.held_is ∙ (read.held_is ∙ old.held);
        attached_is = checked.0.attached_is ∙ (read.attached_is ∙ old.attached);
        told = λ told. checked.0.told (read.told (old.told_ranges told));
      },
      record {
        header = omega (arith, checked.1.header, old.space.header, c.in_ok-again.ensures.stays.1, length-take {A = ℕ}, length-append {A = ℕ}, length-drop {A = ℕ});
        translated = checked.1.translated ∙ old.space.translated;
        copy = checked.1.copy ∙ old.space.copy;
      },
      record { sizes = checked.2.sizes ∙ old.window.sizes; workers = checked.2.workers ∙ old.window.workers },
      λ told. checked.3 (old.told_contents told),
    )

pub returns-then-start-length-clause-stays : goal.returns-then-start-length-clause-stays
returns-then-start-length-clause-stays g c =
    let old = c.loop-hdu.invariant in
    let read = c.in_ok-again.ensures.stays.0 in
    let checked = c.in_ok-sound.ensures.stays in (
      record {
        held_is = checked.0.held_is ∙ (read.held_is ∙ old.held);
        attached_is = checked.0.attached_is ∙ (read.attached_is ∙ old.attached);
        told = λ told. checked.0.told (read.told (old.told_ranges told));
      },
      record {
        header = omega (arith, checked.1.header, old.space.header, c.in_ok-again.ensures.stays.1, length-take {A = ℕ}, length-append {A = ℕ}, length-drop {A = ℕ});
        translated = checked.1.translated ∙ old.space.translated;
        copy = checked.1.copy ∙ old.space.copy;
      },
      record { sizes = checked.2.sizes ∙ old.window.sizes; workers = checked.2.workers ∙ old.window.workers },
      λ told. checked.3 (old.told_contents told),
    )

pub returns-in_err-again-clause-late : goal.returns-in_err-again-clause-late
returns-in_err-again-clause-late g c =
    let stopped : c.from_residual.result ≡ Err c.in_err-again.field-0.0 = search rules in
    late_change Bool c.in_err-again.field-0.0 c.from_residual.result stopped c.in_err-again.ensures.refused

pub returns-in_err-again-clause-cause : goal.returns-in_err-again-clause-cause
returns-in_err-again-clause-cause g c =
    let stopped : c.from_residual.result ≡ Err c.in_err-again.field-0.0 = search rules in
    read_fails _ (g.S.Source.tally c.loop-hdu.source) _ _ _ c.in_err-again.field-0.0 c.from_residual.result stopped c.loop-hdu.invariant.reads c.loop-hdu.invariant.prints c.in_err-again.ensures.cause

pub returns-in_err-sound-clause-late : goal.returns-in_err-sound-clause-late
returns-in_err-sound-clause-late g c =
    let stopped : c.from_residual-in_err-sound.result ≡ Err c.in_err-sound.field-0.0 = search rules in
    late_row Bool c.in_err-sound.field-0.0 c.from_residual-in_err-sound.result stopped c.in_err-sound.ensures.row

pub returns-in_err-sound-clause-cause : goal.returns-in_err-sound-clause-cause
returns-in_err-sound-clause-cause g c =
    let stopped : c.from_residual-in_err-sound.result ≡ Err c.in_err-sound.field-0.0 = search rules in
    write_fails _ (g.S.Source.tally c.read_again.new.source) _ _ (g.T.Text.tally c.loop-hdu.text) _ c.in_err-sound.field-0.0 c.from_residual-in_err-sound.result stopped
    (c.in_ok-again.ensures.cause.ok ∙ c.loop-hdu.invariant.reads) c.loop-hdu.invariant.prints c.in_err-sound.ensures.cause

pub returns-then-start-length-clause-late : goal.returns-then-start-length-clause-late
returns-then-start-length-clause-late g c =
    subst (λ x. IfRefused {X = Bool} (Err x) (ComesLate Verify)) (sym c.changed.ensures) (inl refl)

pub returns-then-start-length-clause-cause : goal.returns-then-start-length-clause-cause
returns-then-start-length-clause-cause g c =
    refused_only _ _ _ _ c.changed.result _ c.changed.ensures
    (c.in_ok-sound.ensures.cause.ok.0 ∙ (c.in_ok-again.ensures.cause.ok ∙ c.loop-hdu.invariant.reads)) (c.in_ok-sound.ensures.cause.ok.1 ∙ c.loop-hdu.invariant.prints)

pub returns-clause-stays : goal.returns-clause-stays
returns-clause-stays g c =
    let old = c.loop-hdu.invariant in
    (record { held_is = old.held; attached_is = old.attached; told = old.told_ranges }, old.space, old.window, old.told_contents)

pub returns-clause-late : goal.returns-clause-late
returns-clause-late g c =
    tt

pub returns-clause-read : goal.returns-clause-read
returns-clause-read g c =
    c.loop-hdu.invariant.read

pub returns-clause-cause : goal.returns-clause-cause
returns-clause-cause g c =
    rewrote _ _ _ _ _ c.loop-hdu.invariant.reads c.loop-hdu.invariant.prints

pub returns-clause-verified : goal.returns-clause-verified
returns-clause-verified g c =
    ends_with_last c.none_refused_law.ensures c.args.survey.now (g.T.Text.contents c.args.text.now) (g.S.Source.held c.args.source.now)
    c.loop-hdu.hdu c.loop-hdu.start c.loop-hdu.after_empty c.loop-hdu.right (g.T.Text.contents c.loop-hdu.text) (omega arith) c.loop-hdu.invariant.checked

pub read_again-requires-clause-attached : goal.read_again-requires-clause-attached
read_again-requires-clause-attached g c =
    c.loop-hdu.invariant.attached ∙ c.requires.attached

pub read_again-requires-clause-within : goal.read_again-requires-clause-within
read_again-requires-clause-within g c =
    c.loop-hdu.invariant.within (omega arith)

pub read_again-requires-clause-room : goal.read_again-requires-clause-room
read_again-requires-clause-room g c =
    omega (arith, ap length c.as_mut_slice-buf.ensures.value, c.loop-hdu.invariant.space.header, c.requires.header, c.requires.long)

pub print_verified-requires-clause-copy : goal.print_verified-requires-clause-copy
print_verified-requires-clause-copy g c κs within =
    omega (arith, c.loop-hdu.invariant.space.copy, c.requires.copy)
