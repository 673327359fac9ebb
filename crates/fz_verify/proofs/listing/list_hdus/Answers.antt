-- One HDU after another.
use Rattle.std.proofs.Common.{◌≡◌, ℕ, ◌+◌, ◌<◌, ◌≤◌, ◌^◌, not, Bool, true, List, length, Option, IfSome, Result, Ok, Err, refl, sym, ◌∙◌, subst, inl, inr, arith, rules}
use Rattle.std.proofs.Math.Bool.{beq}
use Rattle.std.proofs.Math.Dec.{eqb}
use Rattle.fz_base.specs.Sink.{MayAppend, appended}
use Rattle.fz_base.specs.Source.{HoldsLength, LogsWithin}
use Rattle.fz_base.specs.declared.failure.Stop.{Stop}
use Rattle.fz_block.specs.Checks.{header_touched}
use Rattle.fz_block.specs.Header.{next_start_of}
use Rattle.fz_files.specs.Lines.{list_line}
use Rattle.fz_job.specs.Again.{ReadsAsSeen, is_empty_primary}
use Rattle.fz_verify.specs.Printed.{IsListing, ListsSeen}
use Rattle.fz_verify.proofs.ListedHdus.{more_listed, none_listed, stops_changed, stops_printing, stops_reading}
use Rattle.fz_verify.proofs.Ends.{not_at_end}
use Rattle.fz_verify.proofs.Said.{front_listed, got_listed}
use Rattle.fz_verify.proofs.HeaderReads.{none_read, one_read}
use Rattle.fz_verify.proofs.Reports.{grew_both, grew_front, grew_line, grew_not}
use Rattle.fz_verify.proofs.listing.list_hdus.Goals as goal

pub loop-hdu-init : goal.loop-hdu-init
loop-hdu-init g c = record {
  held = refl;
  attached = refl;
  reads = refl;
  prints = refl;
  told_ranges = λ told. told;
  told_contents = λ told. told;
  buf = refl;
  within = λ more. inr (refl, refl);
  early = omega arith;
  listed = none_listed c.args.survey.now (g.T.Text.contents c.args.text.now) (g.S.Source.held c.args.source.now);
  read = none_read c.args.survey.now (g.S.Source.ranges c.args.source.now) (g.S.Source.held c.args.source.now);
  grown = grew_not (g.T.Text.contents c.args.text.now);
}

-- the header of the HDU was read
one_more : (held now : Option (List ℕ)) (start : ℕ) (k : ℕ) (mid new : Option (List (ℕ × ℕ))) → now ≡ held → IfSome now (λ f. LogsWithin start (header_touched k start f) mid new) → IfSome held (λ f. LogsWithin start (header_touched k start f) mid new)
one_more held now start k mid new same reads = subst (λ (h : Option (List ℕ)). IfSome h (λ f. LogsWithin start (header_touched k start f) mid new)) same reads

pub returns-in_err-again-clause-listed : goal.returns-in_err-again-clause-listed
returns-in_err-again-clause-listed g c =
    let s = c.args.survey.now in
    let k : ℕ = c.loop-hdu.hdu in
    let start : ℕ = c.loop-hdu.start in
    let flag : Bool = c.loop-hdu.after_empty in
    let held : Option (List ℕ) = g.S.Source.held c.args.source.now in
    let before : Option (List ℕ) = g.T.Text.contents c.args.text.now in
    let now : Option (List ℕ) = g.T.Text.contents c.loop-hdu.text in
    let old = c.loop-hdu.invariant in
    let few : k < s.hdus = omega arith in
    let stopped : c.from_residual.result ≡ Err c.in_err-again.field-0.0 = search rules in
    let long : length c.loop-hdu.buf ≡ s.header_len = old.buf ∙ c.requires.buf in
    let seen : IfSome held (λ f. ReadsAsSeen f k start flag s.header_len s.tile (Err c.in_err-again.field-0.0)) =
    subst (λ n. IfSome held (λ f. ReadsAsSeen f k start flag n s.tile (Err c.in_err-again.field-0.0))) long
    (subst (λ (h : Option (List ℕ)). IfSome h (λ f. ReadsAsSeen f k start flag (length c.loop-hdu.buf) s.tile (Err c.in_err-again.field-0.0))) old.held c.in_err-again.ensures.as_seen) in
    subst (λ (r : Result (Unit {0}) Stop). IfSome held (λ f. ListsSeen f s before now r)) (sym stopped)
    (stops_reading s before (Unit {0}) held c.in_err-again.field-0.0 k start flag now few old.listed seen)

pub returns-in_err-print_listed-clause-listed : goal.returns-in_err-print_listed-clause-listed
returns-in_err-print_listed-clause-listed g c =
    let s = c.args.survey.now in
    let k : ℕ = c.loop-hdu.hdu in
    let start : ℕ = c.loop-hdu.start in
    let flag : Bool = c.loop-hdu.after_empty in
    let held : Option (List ℕ) = g.S.Source.held c.args.source.now in
    let before : Option (List ℕ) = g.T.Text.contents c.args.text.now in
    let mid : Option (List ℕ) = g.T.Text.contents c.loop-hdu.text in
    let now : Option (List ℕ) = g.T.Text.contents c.print_listed.new.text in
    let old = c.loop-hdu.invariant in
    let few : k < s.hdus = omega arith in
    let a = c.in_ok-again.again in
    let stopped : c.from_residual-in_err-print_listed.result ≡ Err c.in_err-print_listed.field-0.0 = search rules in
    let long : length c.loop-hdu.buf ≡ s.header_len = old.buf ∙ c.requires.buf in
    let seen : IfSome held (λ f. ReadsAsSeen f k start flag s.header_len s.tile (Ok a)) =
    subst (λ n. IfSome held (λ f. ReadsAsSeen f k start flag n s.tile (Ok a))) long
    (subst (λ (h : Option (List ℕ)). IfSome h (λ f. ReadsAsSeen f k start flag (length c.loop-hdu.buf) s.tile (Ok a))) old.held c.in_ok-again.ensures.as_seen) in
    let front : IfSome held (λ f. MayAppend (list_line f a.header) mid now) =
    subst (λ (h : Option (List ℕ)). IfSome h (λ f. MayAppend (list_line f a.header) mid now)) old.held
    (front_listed (g.S.Source.held c.loop-hdu.source) c.args.length c.read_again.new.buf a mid now c.in_ok-again.ensures.again c.in_err-print_listed.ensures.front) in
    subst (λ (r : Result (Unit {0}) Stop). IfSome held (λ f. ListsSeen f s before now r)) (sym stopped)
    (stops_printing s before (Unit {0}) held c.in_err-print_listed.field-0.0 (g.T.Text.tally c.loop-hdu.text) (g.T.Text.tally c.print_listed.new.text) k start flag mid now a few old.listed seen front c.in_err-print_listed.ensures.cause.stop)

pub returns-then-start-length-clause-listed : goal.returns-then-start-length-clause-listed
returns-then-start-length-clause-listed g c =
    let s = c.args.survey.now in
    let k : ℕ = c.loop-hdu.hdu in
    let start : ℕ = c.loop-hdu.start in
    let flag : Bool = c.loop-hdu.after_empty in
    let held : Option (List ℕ) = g.S.Source.held c.args.source.now in
    let before : Option (List ℕ) = g.T.Text.contents c.args.text.now in
    let mid : Option (List ℕ) = g.T.Text.contents c.loop-hdu.text in
    let now : Option (List ℕ) = g.T.Text.contents c.print_listed.new.text in
    let old = c.loop-hdu.invariant in
    let few : k < s.hdus = omega arith in
    let a = c.in_ok-again.again in
    let long : length c.loop-hdu.buf ≡ s.header_len = old.buf ∙ c.requires.buf in
    let seen : IfSome held (λ f. ReadsAsSeen f k start flag s.header_len s.tile (Ok a)) =
    subst (λ n. IfSome held (λ f. ReadsAsSeen f k start flag n s.tile (Ok a))) long
    (subst (λ (h : Option (List ℕ)). IfSome h (λ f. ReadsAsSeen f k start flag (length c.loop-hdu.buf) s.tile (Ok a))) old.held c.in_ok-again.ensures.as_seen) in
    let got : IfSome held (λ f. now ≡ appended (list_line f a.header) mid) =
    subst (λ (h : Option (List ℕ)). IfSome h (λ f. now ≡ appended (list_line f a.header) mid)) old.held
    (got_listed (g.S.Source.held c.loop-hdu.source) c.args.length c.read_again.new.buf a mid now c.in_ok-again.ensures.again c.in_ok-print_listed.ensures.all) in
    let more : IfSome held (IsListing s (k + 1) (next_start_of a.header) (is_empty_primary a.header) before now) =
    more_listed s before held k start flag (is_empty_primary a.header) mid now a few old.listed seen got refl in
    let told : HoldsLength held c.args.length = g.met.S.Source.agrees c.args.source.now c.args.length c.requires.attached in
    let differ : not (beq (eqb (next_start_of a.header) c.args.length) (eqb (k + 1) s.hdus)) ≡ true =
    subst (λ n. not (beq (eqb n c.args.length) (eqb (k + 1) s.hdus)) ≡ true) c.next_start-start.ensures c.if-start-length.true in
    stops_changed s before (Unit {0}) held c.args.length (k + 1) (next_start_of a.header) (is_empty_primary a.header) now (Err c.changed.result) told differ more

pub loop-hdu-preserved : goal.loop-hdu-preserved
loop-hdu-preserved g c =
    let s = c.args.survey.now in
    let k : ℕ = c.loop-hdu.hdu in
    let start : ℕ = c.loop-hdu.start in
    let flag : Bool = c.loop-hdu.after_empty in
    let held : Option (List ℕ) = g.S.Source.held c.args.source.now in
    let before : Option (List ℕ) = g.T.Text.contents c.args.text.now in
    let mid : Option (List ℕ) = g.T.Text.contents c.loop-hdu.text in
    let now : Option (List ℕ) = g.T.Text.contents c.print_listed.new.text in
    let old = c.loop-hdu.invariant in
    let few : k < s.hdus = omega arith in
    let a = c.in_ok-again.again in
    let long : length c.loop-hdu.buf ≡ s.header_len = old.buf ∙ c.requires.buf in
    let seen : IfSome held (λ f. ReadsAsSeen f k start flag s.header_len s.tile (Ok a)) =
    subst (λ n. IfSome held (λ f. ReadsAsSeen f k start flag n s.tile (Ok a))) long
    (subst (λ (h : Option (List ℕ)). IfSome h (λ f. ReadsAsSeen f k start flag (length c.loop-hdu.buf) s.tile (Ok a))) old.held c.in_ok-again.ensures.as_seen) in
    let got : IfSome held (λ f. now ≡ appended (list_line f a.header) mid) =
    subst (λ (h : Option (List ℕ)). IfSome h (λ f. now ≡ appended (list_line f a.header) mid)) old.held
    (got_listed (g.S.Source.held c.loop-hdu.source) c.args.length c.read_again.new.buf a mid now c.in_ok-again.ensures.again c.in_ok-print_listed.ensures.all) in
    let more : IfSome held (IsListing s (k + 1) (next_start_of a.header) (is_empty_primary a.header) before now) =
    more_listed s before held k start flag (is_empty_primary a.header) mid now a few old.listed seen got refl in
    let next : c.next_start-start.result ≡ next_start_of a.header = c.next_start-start.ensures in
    let says : c.is_empty_primary-after_empty.result ≡ is_empty_primary a.header = c.is_empty_primary-after_empty.ensures in
    let inside : next_start_of a.header ≤ c.args.length = c.in_ok-again.ensures.again.inside in
    let early : next_start_of a.header ≤ 2 ^ 62 = c.in_ok-again.ensures.again.near in
    record {
      held = search rules;
      attached = search rules;
      reads = search rules;
      prints = search rules;
      told_ranges = λ told. c.in_ok-again.ensures.stays.0.told (old.told_ranges told);
      told_contents = λ told. c.in_ok-print_listed.ensures.told (old.told_contents told);
      buf = c.in_ok-again.ensures.stays.1 ∙ old.buf;
      within = λ left. inl (not_at_end c.next_start-start.result c.args.length (k + 1) s.hdus c.if-start-length.false left (omega (arith, next, inside)));
      early = omega (arith, next, early);
      listed = subst (λ b. IfSome held (IsListing s (k + 1) c.next_start-start.result b before now)) (sym says)
          (subst (λ n. IfSome held (IsListing s (k + 1) n (is_empty_primary a.header) before now)) (sym next) more);
      read = one_read s (g.S.Source.ranges c.args.source.now) c.ranges_law.ensures.within c.ranges_law.ensures.join held k start flag before mid (g.S.Source.ranges c.loop-hdu.source) (g.S.Source.ranges c.read_again.new.source) few old.listed
          (one_more held (g.S.Source.held c.loop-hdu.source) start k (g.S.Source.ranges c.loop-hdu.source) (g.S.Source.ranges c.read_again.new.source) old.held c.in_ok-again.ensures.read) old.read;
      grown = grew_both before mid now old.grown (grew_line _ mid now c.in_ok-print_listed.ensures.all);
    }

pub returns-in_err-again-clause-read : goal.returns-in_err-again-clause-read
returns-in_err-again-clause-read g c =
    let s = c.args.survey.now in
    let k : ℕ = c.loop-hdu.hdu in
    let held : Option (List ℕ) = g.S.Source.held c.args.source.now in
    let mid : Option (List (ℕ × ℕ)) = g.S.Source.ranges c.loop-hdu.source in
    let new : Option (List (ℕ × ℕ)) = g.S.Source.ranges c.read_again.new.source in
    let old = c.loop-hdu.invariant in
    let few : k < s.hdus = omega arith in
    one_read s (g.S.Source.ranges c.args.source.now) c.ranges_law.ensures.within c.ranges_law.ensures.join held k c.loop-hdu.start c.loop-hdu.after_empty (g.T.Text.contents c.args.text.now) (g.T.Text.contents c.loop-hdu.text) mid new few old.listed
    (one_more held (g.S.Source.held c.loop-hdu.source) c.loop-hdu.start k mid new old.held c.in_err-again.ensures.read) old.read

pub returns-in_err-print_listed-clause-read : goal.returns-in_err-print_listed-clause-read
returns-in_err-print_listed-clause-read g c =
    let s = c.args.survey.now in
    let k : ℕ = c.loop-hdu.hdu in
    let held : Option (List ℕ) = g.S.Source.held c.args.source.now in
    let mid : Option (List (ℕ × ℕ)) = g.S.Source.ranges c.loop-hdu.source in
    let new : Option (List (ℕ × ℕ)) = g.S.Source.ranges c.read_again.new.source in
    let old = c.loop-hdu.invariant in
    let few : k < s.hdus = omega arith in
    one_read s (g.S.Source.ranges c.args.source.now) c.ranges_law.ensures.within c.ranges_law.ensures.join held k c.loop-hdu.start c.loop-hdu.after_empty (g.T.Text.contents c.args.text.now) (g.T.Text.contents c.loop-hdu.text) mid new few old.listed
    (one_more held (g.S.Source.held c.loop-hdu.source) c.loop-hdu.start k mid new old.held c.in_ok-again.ensures.read) old.read

pub returns-then-start-length-clause-read : goal.returns-then-start-length-clause-read
returns-then-start-length-clause-read g c =
    let s = c.args.survey.now in
    let k : ℕ = c.loop-hdu.hdu in
    let held : Option (List ℕ) = g.S.Source.held c.args.source.now in
    let mid : Option (List (ℕ × ℕ)) = g.S.Source.ranges c.loop-hdu.source in
    let new : Option (List (ℕ × ℕ)) = g.S.Source.ranges c.read_again.new.source in
    let old = c.loop-hdu.invariant in
    let few : k < s.hdus = omega arith in
    one_read s (g.S.Source.ranges c.args.source.now) c.ranges_law.ensures.within c.ranges_law.ensures.join held k c.loop-hdu.start c.loop-hdu.after_empty (g.T.Text.contents c.args.text.now) (g.T.Text.contents c.loop-hdu.text) mid new few old.listed
    (one_more held (g.S.Source.held c.loop-hdu.source) c.loop-hdu.start k mid new old.held c.in_ok-again.ensures.read) old.read

pub returns-in_err-print_listed-clause-grown : goal.returns-in_err-print_listed-clause-grown
returns-in_err-print_listed-clause-grown g c =
    let mid : Option (List ℕ) = g.T.Text.contents c.loop-hdu.text in
    let now : Option (List ℕ) = g.T.Text.contents c.print_listed.new.text in
    grew_both (g.T.Text.contents c.args.text.now) mid now c.loop-hdu.invariant.grown (grew_front _ mid now c.in_err-print_listed.ensures.front)

pub returns-then-start-length-clause-grown : goal.returns-then-start-length-clause-grown
returns-then-start-length-clause-grown g c =
    let mid : Option (List ℕ) = g.T.Text.contents c.loop-hdu.text in
    let now : Option (List ℕ) = g.T.Text.contents c.print_listed.new.text in
    grew_both (g.T.Text.contents c.args.text.now) mid now c.loop-hdu.invariant.grown (grew_line _ mid now c.in_ok-print_listed.ensures.all)
