use Rattle.std.proofs.Common.{sym, rules}
use Rattle.fz_checks.proofs.JobAnswers.{cards-refuse-cut, image-refuses-cut, box-refuses-cut, image-is-cut, shape-said}
use Rattle.fz_checks.proofs.boxes.image_to_cut.Goals as goal

pub returns-in_err-check_packed-clause-exact : goal.returns-in_err-check_packed-clause-exact
returns-in_err-check_packed-clause-exact c =
    let refused = cards-refuse-cut c.args.header.now c.args.buf.now c.args.after_empty c.args.region.now _ c.in_err-check_packed.ensures.exact in
    search (rules, refused)

pub returns-in_err-image-clause-exact : goal.returns-in_err-image-clause-exact
returns-in_err-image-clause-exact c =
    let refused = image-refuses-cut c.args.header.now c.args.buf.now c.args.after_empty c.args.region.now _ c.in_ok-check_packed.ensures.exact c.in_err-image.ensures.exact in
    search (rules, refused)

pub check_box-requires-clause-shape : goal.check_box-requires-clause-shape
check_box-requires-clause-shape c = shape-said c.args.header.now c.args.buf.now _ c.in_ok-image.ensures.said

pub returns-in_err-check_box-clause-exact : goal.returns-in_err-check_box-clause-exact
returns-in_err-check_box-clause-exact c =
    let refused = box-refuses-cut c.args.header.now c.args.buf.now c.args.after_empty c.args.region.now _ c.in_ok-check_packed.ensures.exact c.in_ok-image.ensures.exact c.in_err-check_box.ensures.exact in
    search (rules, refused)

pub returns-clause-exact : goal.returns-clause-exact
returns-clause-exact c =
    sym (image-is-cut c.args.header.now c.args.buf.now c.args.after_empty c.args.region.now _ c.in_ok-check_packed.ensures.exact c.in_ok-image.ensures.exact c.in_ok-check_box.ensures.exact c.in_ok-image.ensures.said)
