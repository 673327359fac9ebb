use Rattle.std.proofs.Common.{◌≡◌, ◌∙◌, sym, arith, rules}
use Rattle.fz_block.specs.Hdus.{cards_of}
use Rattle.fz_checks.proofs.RefusalLists.{check-of, test-of}
use Rattle.fz_checks.proofs.SaidShapes.{divided-of, in-axes, in-count, in-grid, in-tile, large-of}
use Rattle.fz_checks.proofs.packed_shape.check_shape.Goals as goal

pub returns-in_err-n-clause-exact : goal.returns-in_err-n-clause-exact
returns-in_err-n-clause-exact c =
    let stopped = in-count c.args.header.now.hdu (cards_of c.args.buf.now) _ c.in_err-n.ensures.exact in
    search (rules, stopped)

pub returns-in_err-shape-clause-exact : goal.returns-in_err-shape-clause-exact
returns-in_err-shape-clause-exact c =
    let stopped = in-axes c.args.header.now.hdu (cards_of c.args.buf.now) _ _ c.in_ok-n.ensures.value c.in_ok-n.ensures.exact c.in_err-shape.ensures.exact in
    search (rules, stopped)

pub returns-in_err-tile-clause-exact : goal.returns-in_err-tile-clause-exact
returns-in_err-tile-clause-exact c =
    let stopped = in-tile c.args.header.now.hdu (cards_of c.args.buf.now) _ _ _ c.in_ok-n.ensures.value c.in_ok-shape.ensures.count c.in_ok-n.ensures.exact c.in_ok-shape.ensures.exact c.in_err-tile.ensures.exact in
    search (rules, stopped)

pub returns-in_err-refuse_when-clause-exact : goal.returns-in_err-refuse_when-clause-exact
returns-in_err-refuse_when-clause-exact c =
    let k = c.args.header.now.hdu in
    let cards = cards_of c.args.buf.now in
    let large = large-of cards c.in_ok-shape.shape c.in_ok-tile.tile _ c.in_ok-shape.ensures.value c.in_ok-tile.ensures.value c.is_too_large-large.ensures in
    let stopped = in-grid k cards _ _ _ c.in_ok-n.ensures.value c.in_ok-shape.ensures.count c.in_ok-n.ensures.exact c.in_ok-shape.ensures.exact c.in_ok-tile.ensures.exact
    (check-of _ _ _ _ _ large c.at_name.ensures c.in_err-refuse_when.ensures) in
    search (rules, stopped)

pub returns-clause-exact : goal.returns-clause-exact
returns-clause-exact c =
    let k = c.args.header.now.hdu in
    let cards = cards_of c.args.buf.now in
    let large = large-of cards c.in_ok-shape.shape c.in_ok-tile.tile _ c.in_ok-shape.ensures.value c.in_ok-tile.ensures.value c.is_too_large-large.ensures in
    in-grid k cards _ _ _ c.in_ok-n.ensures.value c.in_ok-shape.ensures.count c.in_ok-n.ensures.exact c.in_ok-shape.ensures.exact c.in_ok-tile.ensures.exact
    (check-of _ _ _ _ _ large c.at_name.ensures c.in_ok-refuse_when.ensures)

pub returns-clause-divided : goal.returns-clause-divided
returns-clause-divided c =
    let shape = c.in_ok-shape.shape in
    let few : shape.n ≡ c.in_ok-n.n = c.in_ok-shape.ensures.count in
    let small = sym c.is_too_large-large.ensures ∙ test-of c.is_too_large-large.result _ c.in_ok-refuse_when.ensures in
    divided-of shape c.in_ok-tile.tile (omega (arith, c.in_ok-n.ensures.some.0), omega (arith, c.in_ok-n.ensures.some.1)) c.in_ok-tile.ensures.count c.in_ok-tile.ensures.some small
