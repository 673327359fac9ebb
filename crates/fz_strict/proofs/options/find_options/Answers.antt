-- One header after another.
use Rattle.std.proofs.Common.{◌≡◌, ℕ, ◌+◌, ◌<◌, ◌≤◌, inl, inr, Bool, false, List, length, Option, IfSome, Result, Ok, Err, refl, sym, ◌∙◌, subst, arith, rules}
use Rattle.std.proofs.lemmas.Bool.Decides.{nat_tests}
use Rattle.fz_base.specs.Source.{HoldsLength, LogsWithin}
use Rattle.fz_base.specs.declared.failure.Stop.{Stop}
use Rattle.fz_block.specs.Checks.{header_touched}
use Rattle.fz_block.specs.Header.{next_start_of}
use Rattle.fz_files.specs.declared.job.Job.TheVariants.{Verify}
use Rattle.fz_head.specs.declared.options.PackOptions.{PackOptions}
use Rattle.fz_job.specs.Again.{IsAgain, ReadsAsSeen, is_empty_primary}
use Rattle.fz_job.specs.Hdus.{ReadsHdus}
use Rattle.fz_strict.specs.Gathered.{FindsOptions}
use Rattle.fz_strict.specs.declared.options.Found.{Found}
use Rattle.fz_strict.proofs.FindLoop.{IsGathering, ends_with_file, ends_with_last, more_gathered, none_gathered, stops_finding}
use Rattle.fz_strict.proofs.Fronts.{image_only_tile, image_tile}
use Rattle.fz_strict.proofs.ReadHdus.{header_gathered, no_header}
use Rattle.fz_strict.proofs.options.find_options.Goals as goal

pub loop-hdu-init : goal.loop-hdu-init
loop-hdu-init g c =
    let held : Option (List ℕ) = g.S.Source.held c.args.source.now in
    record {
      held = refl;
      attached = refl;
      reads = refl;
      told = λ told. told;
      read = no_header c.args.survey.now (g.S.Source.ranges c.args.source.now) held;
      header = refl;
      within = λ more. inr (refl, refl);
      found = c.nothing-found.ensures.found;
      gathered = subst (λ (f : Found). IfSome held (IsGathering c.args.survey.now 0 0 false f)) (sym c.nothing-found.ensures.value) (none_gathered c.args.survey.now held);
    }

pub returns-in_err-again-clause-options : goal.returns-in_err-again-clause-options
returns-in_err-again-clause-options g c =
    let s = c.args.survey.now in
    let held : Option (List ℕ) = g.S.Source.held c.args.source.now in
    let old = c.loop-hdu.invariant in
    let few : c.loop-hdu.hdu < s.hdus = omega arith in
    let stopped : c.from_residual.result ≡ Err c.in_err-again.field-0.0 = search rules in
    let seen : IfSome held (λ f. ReadsAsSeen f c.loop-hdu.hdu c.loop-hdu.start c.loop-hdu.after_empty s.header_len s.tile (Err c.in_err-again.field-0.0)) =
    subst (λ (h : Option (List ℕ)). IfSome h (λ f. ReadsAsSeen f c.loop-hdu.hdu c.loop-hdu.start c.loop-hdu.after_empty s.header_len s.tile (Err c.in_err-again.field-0.0))) old.held c.in_err-again.ensures.as_seen in
    subst (λ (r : Result PackOptions Stop). IfSome held (λ f. FindsOptions f s r)) (sym stopped)
    (stops_finding s held c.in_err-again.field-0.0 c.loop-hdu.hdu c.loop-hdu.start c.loop-hdu.after_empty c.loop-hdu.found few old.gathered seen)

pub with_hdu-found-requires-clause-tile : goal.with_hdu-found-requires-clause-tile
with_hdu-found-requires-clause-tile g c = image_tile _ _ _ c.in_ok-again.again c.in_ok-again.ensures.again

pub returns-then-start-length-clause-options : goal.returns-then-start-length-clause-options
returns-then-start-length-clause-options g c =
    let s = c.args.survey.now in
    let k : ℕ = c.loop-hdu.hdu in
    let start : ℕ = c.loop-hdu.start in
    let flag : Bool = c.loop-hdu.after_empty in
    let f : Found = c.loop-hdu.found in
    let held : Option (List ℕ) = g.S.Source.held c.args.source.now in
    let old = c.loop-hdu.invariant in
    let few : k < s.hdus = omega arith in
    let a = c.in_ok-again.again in
    let seen : IfSome held (λ file. ReadsAsSeen file k start flag s.header_len s.tile (Ok a)) =
    subst (λ (h : Option (List ℕ)). IfSome h (λ file. ReadsAsSeen file k start flag s.header_len s.tile (Ok a))) old.held c.in_ok-again.ensures.as_seen in
    let again : IsAgain held c.args.length c.read_front.new.header a = subst (λ (h : Option (List ℕ)). IsAgain h c.args.length c.read_front.new.header a) old.held c.in_ok-again.ensures.again in
    let more : IfSome held (IsGathering s (k + 1) (next_start_of a.header) (is_empty_primary a.header) c.with_hdu-found.result) =
    more_gathered s held c.args.length c.read_front.new.header k start flag (is_empty_primary a.header) f c.with_hdu-found.result a few old.gathered seen again old.found
    (image_only_tile held c.args.length c.read_front.new.header a again) c.with_hdu-found.ensures.value refl in
    let told : HoldsLength held c.args.length = g.met.S.Source.agrees c.args.source.now c.args.length c.requires.attached in
    let next : c.next_start-start.result ≡ next_start_of a.header = c.next_start-start.ensures in
    let ends : c.next_start-start.result ≡ c.args.length = first_of (omega (arith, c.if-start-length.true), grind (arith, nat_tests, c.if-start-length.true)) in
    ends_with_file s held c.args.length (k + 1) (next_start_of a.header) (is_empty_primary a.header) c.with_hdu-found.result c.options.result told (sym next ∙ ends) more c.options.ensures.value

pub loop-hdu-preserved : goal.loop-hdu-preserved
loop-hdu-preserved g c =
    let s = c.args.survey.now in
    let k : ℕ = c.loop-hdu.hdu in
    let start : ℕ = c.loop-hdu.start in
    let flag : Bool = c.loop-hdu.after_empty in
    let f : Found = c.loop-hdu.found in
    let held : Option (List ℕ) = g.S.Source.held c.args.source.now in
    let old = c.loop-hdu.invariant in
    let few : k < s.hdus = omega arith in
    let a = c.in_ok-again.again in
    let seen : IfSome held (λ file. ReadsAsSeen file k start flag s.header_len s.tile (Ok a)) =
    subst (λ (h : Option (List ℕ)). IfSome h (λ file. ReadsAsSeen file k start flag s.header_len s.tile (Ok a))) old.held c.in_ok-again.ensures.as_seen in
    let again : IsAgain held c.args.length c.read_front.new.header a = subst (λ (h : Option (List ℕ)). IsAgain h c.args.length c.read_front.new.header a) old.held c.in_ok-again.ensures.again in
    let more : IfSome held (IsGathering s (k + 1) (next_start_of a.header) (is_empty_primary a.header) c.with_hdu-found.result) =
    more_gathered s held c.args.length c.read_front.new.header k start flag (is_empty_primary a.header) f c.with_hdu-found.result a few old.gathered seen again old.found
    (image_only_tile held c.args.length c.read_front.new.header a again) c.with_hdu-found.ensures.value refl in
    let next : c.next_start-start.result ≡ next_start_of a.header = c.next_start-start.ensures in
    let says : c.is_empty_primary-after_empty.result ≡ is_empty_primary a.header = c.is_empty_primary-after_empty.ensures in
    let inside : next_start_of a.header ≤ c.args.length = again.inside in
    let before : c.next_start-start.result < c.args.length = first_of (omega (arith, next, inside, c.if-start-length.false), grind (arith, nat_tests, next, inside, c.if-start-length.false)) in
    let first : Option (List (ℕ × ℕ)) = g.S.Source.ranges c.args.source.now in
    let mid : Option (List (ℕ × ℕ)) = g.S.Source.ranges c.loop-hdu.source in
    let last : Option (List (ℕ × ℕ)) = g.S.Source.ranges c.read_front.new.source in
    let one : IfSome held (λ file. LogsWithin c.loop-hdu.start (header_touched c.loop-hdu.hdu c.loop-hdu.start file) mid last) =
    subst (λ (h : Option (List ℕ)). IfSome h (λ file. LogsWithin c.loop-hdu.start (header_touched c.loop-hdu.hdu c.loop-hdu.start file) mid last)) old.held c.in_ok-again.ensures.read in
    let reads : IfSome held (λ file. ReadsHdus Verify file s first last) =
    header_gathered s first (c.hdus_law.ensures.header Verify) c.ranges_law.ensures.join held c.loop-hdu.hdu c.loop-hdu.start c.loop-hdu.after_empty c.loop-hdu.found mid last few old.gathered one old.read in
    record {
      held = c.in_ok-again.ensures.stays.0.held_is ∙ old.held;
      attached = c.in_ok-again.ensures.stays.0.attached_is ∙ old.attached;
      reads = c.in_ok-again.ensures.cause.ok ∙ old.reads;
      told = λ told. c.in_ok-again.ensures.stays.0.told (old.told told);
      read = reads;
      header = c.in_ok-again.ensures.stays.1 ∙ old.header;
      within = λ left. inl before;
      found = c.with_hdu-found.ensures.found;
      gathered = subst (λ b. IfSome held (IsGathering s (k + 1) c.next_start-start.result b c.with_hdu-found.result)) (sym says)
          (subst (λ n. IfSome held (IsGathering s (k + 1) n (is_empty_primary a.header) c.with_hdu-found.result)) (sym next) more);
    }

pub returns-clause-options : goal.returns-clause-options
returns-clause-options g c =
    let s = c.args.survey.now in
    let held : Option (List ℕ) = g.S.Source.held c.args.source.now in
    let old = c.loop-hdu.invariant in
    let last : s.hdus ≤ c.loop-hdu.hdu = omega arith in
    ends_with_last s held c.loop-hdu.hdu c.loop-hdu.start c.loop-hdu.after_empty c.loop-hdu.found c.options-2.result last old.gathered c.options-2.ensures.value

pub returns-in_err-again-clause-read : goal.returns-in_err-again-clause-read
returns-in_err-again-clause-read g c =
    let s = c.args.survey.now in
    let held : Option (List ℕ) = g.S.Source.held c.args.source.now in
    let old = c.loop-hdu.invariant in
    let few : c.loop-hdu.hdu < s.hdus = omega arith in
    let first : Option (List (ℕ × ℕ)) = g.S.Source.ranges c.args.source.now in
    let mid : Option (List (ℕ × ℕ)) = g.S.Source.ranges c.loop-hdu.source in
    let last : Option (List (ℕ × ℕ)) = g.S.Source.ranges c.read_front.new.source in
    let one : IfSome held (λ file. LogsWithin c.loop-hdu.start (header_touched c.loop-hdu.hdu c.loop-hdu.start file) mid last) =
    subst (λ (h : Option (List ℕ)). IfSome h (λ file. LogsWithin c.loop-hdu.start (header_touched c.loop-hdu.hdu c.loop-hdu.start file) mid last)) old.held c.in_err-again.ensures.read in
    let reads : IfSome held (λ file. ReadsHdus Verify file s first last) =
    header_gathered s first (c.hdus_law.ensures.header Verify) c.ranges_law.ensures.join held c.loop-hdu.hdu c.loop-hdu.start c.loop-hdu.after_empty c.loop-hdu.found mid last few old.gathered one old.read in
    reads

pub returns-then-start-length-clause-read : goal.returns-then-start-length-clause-read
returns-then-start-length-clause-read g c =
    let s = c.args.survey.now in
    let held : Option (List ℕ) = g.S.Source.held c.args.source.now in
    let old = c.loop-hdu.invariant in
    let few : c.loop-hdu.hdu < s.hdus = omega arith in
    let first : Option (List (ℕ × ℕ)) = g.S.Source.ranges c.args.source.now in
    let mid : Option (List (ℕ × ℕ)) = g.S.Source.ranges c.loop-hdu.source in
    let last : Option (List (ℕ × ℕ)) = g.S.Source.ranges c.read_front.new.source in
    let one : IfSome held (λ file. LogsWithin c.loop-hdu.start (header_touched c.loop-hdu.hdu c.loop-hdu.start file) mid last) =
    subst (λ (h : Option (List ℕ)). IfSome h (λ file. LogsWithin c.loop-hdu.start (header_touched c.loop-hdu.hdu c.loop-hdu.start file) mid last)) old.held c.in_ok-again.ensures.read in
    let reads : IfSome held (λ file. ReadsHdus Verify file s first last) =
    header_gathered s first (c.hdus_law.ensures.header Verify) c.ranges_law.ensures.join held c.loop-hdu.hdu c.loop-hdu.start c.loop-hdu.after_empty c.loop-hdu.found mid last few old.gathered one old.read in
    reads
