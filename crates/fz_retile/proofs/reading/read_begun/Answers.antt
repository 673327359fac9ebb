-- The header is read as it was seen, and it is the HDU that is placed there.
use Rattle.std.proofs.Common.{◌≡◌, ℕ, List, length, Option, IfSome, Result, Ok, Err, sym, ap, ◌∙◌, subst, arith, rules}
use Rattle.fz_base.specs.Source.{HoldsLength}
use Rattle.fz_base.specs.Stop.{IfRefused}
use Rattle.fz_base.specs.declared.failure.Stop.{Stop}
use Rattle.fz_job.specs.Again.{ReadsAsSeen, header_at_front}
use Rattle.fz_head.specs.Conditions.{IsPackedPlan}
use Rattle.fz_job.specs.Images.{IsReadable}
use Rattle.fz_retile.specs.Begins.{IsReadHere, IsToldHere}
use Rattle.fz_look.specs.declared.here.Here.{Here}
use Rattle.fz_retile.proofs.Filled.{never_ok}
use Rattle.fz_retile.proofs.Keeping.{changed_cause, changed_is}
use Rattle.fz_retile.proofs.ReadAgain.{can_make, given_back, header_read, image_again, made_again, never_past, never_unread, read_here, told_here}
use Rattle.fz_retile.proofs.reading.read_begun.Goals as goal

pub here_for-here-requires-clause-near : goal.here_for-here-requires-clause-near
here_for-here-requires-clause-near g c = c.in_ok-read.ensures.again.near

pub here_for-here-requires-clause-image : goal.here_for-here-requires-clause-image
here_for-here-requires-clause-image g c =
    let a = c.in_ok-read.read in
    let long : length c.read_again.new.buf ≡ length c.args.space.now.header = c.in_ok-read.ensures.stays.1 ∙ ap length c.as_mut_slice.ensures.value in
    let same : c.read_again.new.buf ≡ c.as_slice-buf.result.now = sym (c.as_slice-buf.ensures ∙ given_back c.args.space.now.header c.read_again.new.buf long) in
    subst (λ (buf : List ℕ). IfSome a.image (λ i. IsPackedPlan (header_at_front a buf) a.header i.plan × IsReadable i)) same (can_make (header_at_front a c.read_again.new.buf) a.header c.args.length a.image c.in_ok-read.ensures.again.usable)

pub returns-clause-read : goal.returns-clause-read
returns-clause-read g c =
    let a = c.in_ok-read.read in
    let long : length c.read_again.new.buf ≡ length c.args.space.now.header = c.in_ok-read.ensures.stays.1 ∙ ap length c.as_mut_slice.ensures.value in
    let same : c.read_again.new.buf ≡ c.as_slice-buf.result.now = sym (c.as_slice-buf.ensures ∙ given_back c.args.space.now.header c.read_again.new.buf long) in
    let w = c.in_ok-read.ensures in
    let b = c.args.begin.now in
    let h = c.here_for-here.result in
    let done = c.here_for-here.ensures in
    subst (λ (buf : List ℕ). IsReadHere c.args.plain_size c.args.length (length c.args.space.now.translated) c.args.survey.now.tile buf h) (sym (given_back c.args.space.now.header c.read_again.new.buf long))
    (read_here (g.S.Source.held c.args.source.now) c.args.length c.read_again.new.buf a w.again b.after_empty b.at h done.read.0 done.read.1 done.read.2
    c.args.plain_size (length c.args.space.now.translated) (omega (arith, w.place.0, c.requires.number)) (omega (arith, done.fits, ap length c.as_mut_slice-made.ensures.value)) (omega arith) c.args.survey.now.tile w.found w.small done.copied (image_again a h b.after_empty b.at c.as_slice-buf.result.now c.read_again.new.buf (sym same) done.image))

pub returns-clause-told : goal.returns-clause-told
returns-clause-told g c =
    let a = c.in_ok-read.read in
    let long : length c.read_again.new.buf ≡ length c.args.space.now.header = c.in_ok-read.ensures.stays.1 ∙ ap length c.as_mut_slice.ensures.value in
    let same : c.read_again.new.buf ≡ c.as_slice-buf.result.now = sym (c.as_slice-buf.ensures ∙ given_back c.args.space.now.header c.read_again.new.buf long) in
    let w = c.in_ok-read.ensures in
    let s = c.args.survey.now in
    let b = c.args.begin.now in
    let h = c.here_for-here.result in
    let done = c.here_for-here.ensures in
    let held : Option (List ℕ) = g.S.Source.held c.args.source.now in
    let told : HoldsLength held c.args.length = g.met.S.Source.agrees c.args.source.now c.args.length c.requires.attached in
    let seen : IfSome held (λ f. ReadsAsSeen f b.hdu b.start b.after_empty s.header_len s.tile (Ok a)) =
    subst (λ n. IfSome held (λ f. ReadsAsSeen f b.hdu b.start b.after_empty n s.tile (Ok a))) (ap length c.as_mut_slice.ensures.value ∙ c.requires.header) w.as_seen in
    let made_long : length c.here_for-here.new.made ≡ length c.args.space.now.translated = done.len ∙ ap length c.as_mut_slice-made.ensures.value in
    subst (λ (made : List ℕ). IfSome held (λ f. IsToldHere f made h)) (sym (given_back c.args.space.now.translated c.here_for-here.new.made made_long))
    (told_here c.places_law.ensures.found s c.args.plain_size b c.read_again.new.buf c.here_for-here.new.made a h done.read.0 done.read.1 done.read.2 done.copied (image_again a h b.after_empty b.at c.as_slice-buf.result.now c.read_again.new.buf (sym same) done.image)
    held c.args.length told c.requires.told w.again seen w.found (made_again a h b.at c.here_for-here.new.made c.as_slice-buf.result.now c.read_again.new.buf (sym same) done.made))

pub returns-then-here-plain_size-clause-never : goal.returns-then-here-plain_size-clause-never
returns-then-here-plain_size-clause-never g c =
    let a = c.in_ok-read.read in
    let long : length c.read_again.new.buf ≡ length c.args.space.now.header = c.in_ok-read.ensures.stays.1 ∙ ap length c.as_mut_slice.ensures.value in
    let same : c.read_again.new.buf ≡ c.as_slice-buf.result.now = sym (c.as_slice-buf.ensures ∙ given_back c.args.space.now.header c.read_again.new.buf long) in
    let w = c.in_ok-read.ensures in
    let s = c.args.survey.now in
    let b = c.args.begin.now in
    let h = c.here_for-here.result in
    let done = c.here_for-here.ensures in
    let stop : Stop = c.changed.result in
    let held : Option (List ℕ) = g.S.Source.held c.args.source.now in
    let told : HoldsLength held c.args.length = g.met.S.Source.agrees c.args.source.now c.args.length c.requires.attached in
    let seen : IfSome held (λ f. ReadsAsSeen f b.hdu b.start b.after_empty s.header_len s.tile (Ok a)) =
    subst (λ n. IfSome held (λ f. ReadsAsSeen f b.hdu b.start b.after_empty n s.tile (Ok a))) (ap length c.as_mut_slice.ensures.value ∙ c.requires.header) w.as_seen in
    never_past c.places_law.ensures.found s c.args.plain_size b c.read_again.new.buf c.here_for-here.new.made a h done.read.0 done.read.1 done.read.2 done.copied (image_again a h b.after_empty b.at c.as_slice-buf.result.now c.read_again.new.buf (sym same) done.image)
    Here stop held c.args.length told c.requires.told w.again seen w.found (omega arith)

pub returns-in_err-read-clause-never : goal.returns-in_err-read-clause-never
returns-in_err-read-clause-never g c =
    let s = c.args.survey.now in
    let b = c.args.begin.now in
    let stop : Stop = c.in_err-read.field-0.0 in
    let held : Option (List ℕ) = g.S.Source.held c.args.source.now in
    let seen : IfSome held (λ f. ReadsAsSeen f b.hdu b.start b.after_empty s.header_len s.tile (Err stop)) =
    subst (λ n. IfSome held (λ f. ReadsAsSeen f b.hdu b.start b.after_empty n s.tile (Err stop))) (ap length c.as_mut_slice.ensures.value ∙ c.requires.header) c.in_err-read.ensures.as_seen in
    let stopped : c.from_residual.result ≡ Err stop = search rules in
    subst (λ (r : Result Here Stop). IfSome held (λ f. IfRefused r (λ x. ⊥))) (sym stopped) (never_unread c.places_law.ensures.read s c.args.plain_size b stop held c.requires.told seen)

pub returns-in_err-read-clause-touched : goal.returns-in_err-read-clause-touched
returns-in_err-read-clause-touched g c =
    header_read c.touched_law.ensures.header c.args.survey.now c.args.plain_size c.args.begin.now (g.S.Source.held c.args.source.now) (g.S.Source.ranges c.args.source.now) (g.S.Source.ranges c.read_again.new.source)
    c.requires.told c.in_err-read.ensures.read

pub returns-then-here-plain_size-clause-touched : goal.returns-then-here-plain_size-clause-touched
returns-then-here-plain_size-clause-touched g c =
    header_read c.touched_law.ensures.header c.args.survey.now c.args.plain_size c.args.begin.now (g.S.Source.held c.args.source.now) (g.S.Source.ranges c.args.source.now) (g.S.Source.ranges c.read_again.new.source)
    c.requires.told c.in_ok-read.ensures.read

pub returns-clause-touched : goal.returns-clause-touched
returns-clause-touched g c =
    header_read c.touched_law.ensures.header c.args.survey.now c.args.plain_size c.args.begin.now (g.S.Source.held c.args.source.now) (g.S.Source.ranges c.args.source.now) (g.S.Source.ranges c.read_again.new.source)
    c.requires.told c.in_ok-read.ensures.read

pub returns-then-here-plain_size-clause-changed : goal.returns-then-here-plain_size-clause-changed
returns-then-here-plain_size-clause-changed g c = changed_is Here c.changed.result _ c.changed.ensures

pub returns-then-here-plain_size-clause-cause : goal.returns-then-here-plain_size-clause-cause
returns-then-here-plain_size-clause-cause g c =
    changed_cause Here (g.S.Source.tally c.args.source.now) (g.S.Source.tally c.read_again.new.source) c.changed.result _ c.changed.ensures c.in_ok-read.ensures.cause.ok

pub returns-clause-never : goal.returns-clause-never
returns-clause-never g c = never_ok Here c.here_for-here.result (g.S.Source.held c.args.source.now)
