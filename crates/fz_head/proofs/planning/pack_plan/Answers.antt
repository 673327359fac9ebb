use Rattle.std.proofs.Common.{Ok, sym, ap, ◌∙◌, arith, rules}
use Rattle.fz_block.specs.Hdus.{cards_of}
use Rattle.fz_head.proofs.FrontCards.{header-end}
use Rattle.fz_head.proofs.PackAnswers.{cards-count, has-tile, in-names, in-limits, in-offset, in-none, limits-of, offset-of, tile-of}
use Rattle.fz_head.proofs.PlannedCodecs.{planned-writable}
use Rattle.fz_head.proofs.PlannedTiles.{axes-few, planned-divided}
use Rattle.fz_head.proofs.planning.pack_plan.Goals as goal

pub returns-in_err-check_names-clause-exact : goal.returns-in_err-check_names-clause-exact
returns-in_err-check_names-clause-exact c =
    let refused = in-names c.args.options.now c.args.header.now c.args.buf.now _ c.in_err-check_names.ensures in
    search (rules, refused)

pub plan_for-plan-requires-clause-few : goal.plan_for-plan-requires-clause-few
plan_for-plan-requires-clause-few c = axes-few c.args.buf.now c.args.header.now c.requires.header

pub check_limits-requires : goal.check_limits-requires
check_limits-requires c =
    let end = (header-end c.args.buf.now c.args.header.now c.requires.header).within in
    let tile = tile-of c.plan_for-plan.result _ c.plan_for-plan.ensures (has-tile c.args.options.now c.args.buf.now c.args.header.now c.requires.options c.requires.header c.requires.packable) in
    record { shape = tile.few; tile = tile.same; positive = tile.positive; cards = omega (arith, c.requires.header.short) }

pub returns-in_err-check_limits-clause-exact : goal.returns-in_err-check_limits-clause-exact
returns-in_err-check_limits-clause-exact c =
    let o = c.args.options.now in
    let h = c.args.header.now in
    let buf = c.args.buf.now in
    let here = c.in_err-check_limits.ensures (cards_of buf) (cards-count buf h c.requires.header) in
    let refused = in-limits o h buf _ c.in_ok-check_names.ensures (limits-of o h _ o.sums (cards_of buf) _ c.plan_for-plan.ensures here) in
    search (rules, refused)

pub check_offset-requires : goal.check_offset-requires
check_offset-requires c = let end = (header-end c.args.buf.now c.args.header.now c.requires.header).within in omega arith

pub returns-in_err-check_offset-clause-exact : goal.returns-in_err-check_offset-clause-exact
returns-in_err-check_offset-clause-exact c =
    let o = c.args.options.now in
    let h = c.args.header.now in
    let buf = c.args.buf.now in
    let here = c.in_ok-check_limits.ensures (cards_of buf) (cards-count buf h c.requires.header) in
    let refused = in-offset o h buf _ c.in_ok-check_names.ensures (limits-of o h _ o.sums (cards_of buf) _ c.plan_for-plan.ensures here) (offset-of o h buf _ _ c.requires.header c.plan_for-plan.ensures c.in_err-check_offset.ensures) in
    search (rules, refused)

pub returns-clause-exact : goal.returns-clause-exact
returns-clause-exact c =
    let o = c.args.options.now in
    let h = c.args.header.now in
    let buf = c.args.buf.now in
    let here = c.in_ok-check_limits.ensures (cards_of buf) (cards-count buf h c.requires.header) in
    let answer = in-none o h buf c.in_ok-check_names.ensures (limits-of o h _ o.sums (cards_of buf) _ c.plan_for-plan.ensures here) (offset-of o h buf _ _ c.requires.header c.plan_for-plan.ensures c.in_ok-check_offset.ensures) in
    ap Ok c.plan_for-plan.ensures ∙ sym answer

pub returns-clause-divided : goal.returns-clause-divided
returns-clause-divided c =
    let o = c.args.options.now in
    let h = c.args.header.now in
    let buf = c.args.buf.now in
    let here = c.in_ok-check_limits.ensures (cards_of buf) (cards-count buf h c.requires.header) in
    let answer = in-none o h buf c.in_ok-check_names.ensures (limits-of o h _ o.sums (cards_of buf) _ c.plan_for-plan.ensures here) (offset-of o h buf _ _ c.requires.header c.plan_for-plan.ensures c.in_ok-check_offset.ensures) in
    planned-divided o buf h c.plan_for-plan.result c.requires.options c.requires.header c.requires.packable (answer ∙ ap Ok (sym c.plan_for-plan.ensures))

pub returns-clause-writable : goal.returns-clause-writable
returns-clause-writable c =
    let o = c.args.options.now in
    let h = c.args.header.now in
    let buf = c.args.buf.now in
    let here = c.in_ok-check_limits.ensures (cards_of buf) (cards-count buf h c.requires.header) in
    let answer = in-none o h buf c.in_ok-check_names.ensures (limits-of o h _ o.sums (cards_of buf) _ c.plan_for-plan.ensures here) (offset-of o h buf _ _ c.requires.header c.plan_for-plan.ensures c.in_ok-check_offset.ensures) in
    planned-writable o buf h c.plan_for-plan.result c.requires.options c.requires.packable (answer ∙ ap Ok (sym c.plan_for-plan.ensures))
