-- The header, the form of its table, and the axes of the corner.
use Rattle.std.proofs.Common.{◌≡◌, true, Ok, sym, ap, ◌∙◌, rules}
use Rattle.fz_block.specs.Hdus.{cards_of}
use Rattle.fz_checks.specs.JobChecks.{image_to_amend}
use Rattle.fz_checks.specs.declared.job_checks.PackedImage.{PackedImage}
use Rattle.fz_target.proofs.Found.{axes_stop, form_passes, form_stops, header_passes, image_passes, own_pass}
use Rattle.fz_target.proofs.FoundTargets.{shape_is}
use Rattle.fz_target.proofs.find.own_image.Goals as goal

pub returns-in-Err-clause-exact : goal.returns-in-Err-clause-exact
returns-in-Err-clause-exact c = λ file wanted has. absurd (header_passes c.args.header.now c.args.buf.now c.in-Err.field-0 has.passes (sym c.image_to_amend.ensures.exact ∙ c.in-Err.is))

pub returns-in_err-check_form-clause-exact : goal.returns-in_err-check_form-clause-exact
returns-in_err-check_form-clause-exact c = λ file wanted has.
    let is : image_to_amend c.args.header.now c.args.buf.now true ≡ Ok c.in-Ok.image = search rules in
    let said = (image_passes c.args.header.now c.args.buf.now c.in-Ok.image is).0 in
    let refused = form_stops c.args.length c.args.corner.now c.args.buf.now c.args.header.now c.in-Ok.image _ said c.in_err-check_form.ensures.exact file wanted has in
    search (rules, refused)

pub check_axes-requires-clause-shape : goal.check_axes-requires-clause-shape
check_axes-requires-clause-shape c =
    let is : image_to_amend c.args.header.now c.args.buf.now true ≡ Ok c.in-Ok.image = search rules in
    ap (λ (i : PackedImage). i.plan.shape) (image_passes c.args.header.now c.args.buf.now c.in-Ok.image is).0 ∙ shape_is (cards_of c.args.buf.now)

pub returns-in_err-check_axes-clause-exact : goal.returns-in_err-check_axes-clause-exact
returns-in_err-check_axes-clause-exact c = λ file wanted has.
    let is : image_to_amend c.args.header.now c.args.buf.now true ≡ Ok c.in-Ok.image = search rules in
    let said = (image_passes c.args.header.now c.args.buf.now c.in-Ok.image is).0 in
    let refused = axes_stop c.args.length c.args.corner.now c.args.buf.now c.args.header.now c.in-Ok.image _ said c.in_ok-check_form.ensures.exact c.in_err-check_axes.ensures.exact file wanted has in
    search (rules, refused)

pub returns-clause-exact : goal.returns-clause-exact
returns-clause-exact c = λ file wanted has.
    let is : image_to_amend c.args.header.now c.args.buf.now true ≡ Ok c.in-Ok.image = search rules in
    let said = (image_passes c.args.header.now c.args.buf.now c.in-Ok.image is).0 in
    own_pass c.args.length c.args.corner.now c.args.buf.now c.args.header.now c.in-Ok.image said c.in_ok-check_form.ensures.exact c.in_ok-check_axes.ensures.exact file wanted has

pub returns-clause-image : goal.returns-clause-image
returns-clause-image c =
    let is : image_to_amend c.args.header.now c.args.buf.now true ≡ Ok c.in-Ok.image = search rules in
    let both = image_passes c.args.header.now c.args.buf.now c.in-Ok.image is in
    let form = form_passes c.args.length c.args.buf.now c.args.header.now c.in-Ok.image.plan c.in_ok-check_form.ensures.exact in
    record {
      checks = both.1;
      said = both.0;
      is = search rules;
      table = search rules;
      last = form.0;
      form = form.1;
      axes = search rules;
    }
