use Rattle.std.proofs.Common.{◌∙◌, sym, rules}
use Rattle.fz_block.specs.Hdus.{cards_of}
use Rattle.fz_checks.proofs.RiceChecks.{in-block, in-bytepix}
use Rattle.fz_checks.proofs.packed_rice.check_parameters.Goals as goal

pub returns-in_err-block-clause-exact : goal.returns-in_err-block-clause-exact
returns-in_err-block-clause-exact c =
    let refused = in-block c.args.header.now.hdu (cards_of c.args.buf.now) _ (sym c.says_rice.ensures ∙ c.if-says_rice.true) c.in_err-block.ensures.exact in
    search (rules, refused)

pub returns-in_err-bytepix-clause-exact : goal.returns-in_err-bytepix-clause-exact
returns-in_err-bytepix-clause-exact c =
    let refused = in-bytepix c.args.header.now.hdu (cards_of c.args.buf.now) _ (sym c.says_rice.ensures ∙ c.if-says_rice.true) c.in_ok-block.ensures.exact c.in_err-bytepix.ensures.exact in
    search (rules, refused)
