use Rattle.std.proofs.Common.{sym, rules}
use Rattle.fz_checks.proofs.JobAnswers.{cards-refuse-amend, amend-answer}
use Rattle.fz_checks.proofs.boxes.image_to_amend.Goals as goal

pub returns-in_err-check_packed-clause-exact : goal.returns-in_err-check_packed-clause-exact
returns-in_err-check_packed-clause-exact c =
    let refused = cards-refuse-amend c.args.header.now c.args.buf.now c.args.after_empty _ c.in_err-check_packed.ensures.exact in
    search (rules, refused)

pub returns-clause-exact : goal.returns-clause-exact
returns-clause-exact c =
    sym (amend-answer c.args.header.now c.args.buf.now c.args.after_empty c.packed_image.result c.in_ok-check_packed.ensures.exact c.packed_image.ensures.exact c.packed_image.ensures.said)
