-- A packed image, or an HDU that is copied.
use Rattle.std.proofs.Common.{ℕ, List, Option, subst}
use Rattle.std.proofs.lemmas.Result.{IfOk-weaker}
use Rattle.fz_base.specs.Source.{HoldsLength}
use Rattle.fz_checks.specs.declared.job_checks.PackedImage.{PackedImage}
use Rattle.fz_job.specs.Again.{IsAgain}
use Rattle.fz_compare.specs.Reads.{hdu_ranges}
use Rattle.fz_strict.proofs.CopiesCompared.{copy_compared, image_compares}
use Rattle.fz_strict.proofs.ReadRanges.{image_read, unread}
use Rattle.fz_strict.proofs.Said.{rows_none}
use Rattle.fz_strict.proofs.hdus.compare_hdu.Goals as goal

pub compare_image-requires-clause-again : goal.compare_image-requires-clause-again
compare_image-requires-clause-again g c κs within = (
  c.requires.again.0,
  c.requires.again.1,
  c.requires.again.2,
  subst (λ (x : Option PackedImage). IsAgain (g.S.Source.held c.args.source.now) c.requires.again.0 c.args.space.now.header (record { header = c.args.again.now.header; image = x })) c.in-Some.is c.requires.again.3,
)

pub returns-in-Some-clause-compared : goal.returns-in-Some-clause-compared
returns-in-Some-clause-compared g c =
    IfOk-weaker c.compare_image.result _ _
    (λ now is. image_compares (g.S.Source.held c.args.source.now) c.args.asked.now.options c.requires.again.0 c.args.space.now.header c.args.again.now c.requires.again.3 c.in-Some.image c.args.origin.now now c.in-Some.is is)
    c.compare_image.ensures.compared

pub returns-in-None-clause-compared : goal.returns-in-None-clause-compared
returns-in-None-clause-compared g c =
    let held : Option (List ℕ) = g.S.Source.held c.args.source.now in
    let told : HoldsLength held c.requires.again.0 = g.met.S.Source.agrees c.args.source.now c.requires.again.0 c.requires.again.2 in
    copy_compared held c.args.asked.now.options c.requires.again.0 c.args.space.now.header c.args.again.now c.requires.again.3 c.args.origin.now c.compare_copied.result c.in-None.is
    (c.compare_copied.ensures.compared held c.requires.again.0 told c.requires.again.3 c.in-None.is)

pub returns-in-None-clause-sound : goal.returns-in-None-clause-sound
returns-in-None-clause-sound g c =
    rows_none (g.S.Source.held c.args.source.now) c.requires.again.0 c.args.space.now.header c.args.again.now c.requires.again.3 c.in-None.is

pub returns-in-Some-clause-read : goal.returns-in-Some-clause-read
returns-in-Some-clause-read g c =
    image_read (g.S.Source.held c.args.source.now) c.requires.again.0 c.args.space.now.header c.args.again.now c.requires.again.3 c.in-Some.image c.in-Some.is
    (g.S.Source.ranges c.args.source.now) (g.S.Source.ranges c.compare_image.new.source) c.compare_image.ensures.read

pub returns-in-None-clause-read : goal.returns-in-None-clause-read
returns-in-None-clause-read g c = unread (g.S.Source.held c.args.source.now) (λ file. hdu_ranges file c.args.again.now.header) (g.S.Source.ranges c.args.source.now)
