use Rattle.std.proofs.Common.{Ok, ap, sym, ◌∙◌, subst, rules}
use Rattle.fz_block.specs.Hdus.{cards_of}
use Rattle.fz_tile.specs.Codecs.{ReadsCodes}
use Rattle.fz_checks.proofs.PackedAnswers.{in-scaling, in-codec, in-bitpix, in-shape, in-parameters, in-sort, in-line_list, in-rows, past-scaling, past-codec, past-bitpix, past-shape, past-parameters, past-sort, past-line_list, past-all}
use Rattle.fz_checks.proofs.SaidPlans.{few-columns, rows-checked, rows-said, same-divided, same-readable, same-rows}
use Rattle.fz_checks.proofs.unpacking.plan_of.Goals as goal

pub check_scaling-requires-clause-few : goal.check_scaling-requires-clause-few
check_scaling-requires-clause-few c = few-columns c.args.buf.now c.args.header.now c.args.table.now c.requires.table

pub returns-in_err-check_scaling-clause-exact : goal.returns-in_err-check_scaling-clause-exact
returns-in_err-check_scaling-clause-exact c =
    let k = c.args.header.now.hdu in
    let buf = c.args.buf.now in
    let after = c.args.after_empty in
    let refused = in-scaling k buf after _ c.in_err-check_scaling.ensures in
    search (rules, refused)

pub returns-in_err-check_codec-clause-exact : goal.returns-in_err-check_codec-clause-exact
returns-in_err-check_codec-clause-exact c =
    let k = c.args.header.now.hdu in
    let buf = c.args.buf.now in
    let after = c.args.after_empty in
    let left = past-scaling k buf after c.in_ok-check_scaling.ensures in
    let refused = in-codec k buf after _ left c.in_err-check_codec.ensures in
    search (rules, refused)

pub returns-in_err-bitpix-clause-exact : goal.returns-in_err-bitpix-clause-exact
returns-in_err-bitpix-clause-exact c =
    let k = c.args.header.now.hdu in
    let buf = c.args.buf.now in
    let after = c.args.after_empty in
    let left = past-scaling k buf after c.in_ok-check_scaling.ensures in
    let left = past-codec k buf after left c.in_ok-check_codec.ensures in
    let refused = in-bitpix k buf after _ left c.in_err-bitpix.ensures.exact in
    search (rules, refused)

pub returns-in_err-shape-clause-exact : goal.returns-in_err-shape-clause-exact
returns-in_err-shape-clause-exact c =
    let k = c.args.header.now.hdu in
    let buf = c.args.buf.now in
    let after = c.args.after_empty in
    let left = past-scaling k buf after c.in_ok-check_scaling.ensures in
    let left = past-codec k buf after left c.in_ok-check_codec.ensures in
    let left = past-bitpix k buf after left c.in_ok-bitpix.ensures.exact in
    let refused = in-shape k buf after _ left c.in_err-shape.ensures.exact in
    search (rules, refused)

pub returns-in_err-codec-clause-exact : goal.returns-in_err-codec-clause-exact
returns-in_err-codec-clause-exact c =
    let k = c.args.header.now.hdu in
    let buf = c.args.buf.now in
    let after = c.args.after_empty in
    let left = past-scaling k buf after c.in_ok-check_scaling.ensures in
    let left = past-codec k buf after left c.in_ok-check_codec.ensures in
    let left = past-bitpix k buf after left c.in_ok-bitpix.ensures.exact in
    let left = past-shape k buf after left c.in_ok-shape.ensures.exact in
    let refused = in-parameters k buf after _ left c.in_err-codec.ensures.exact in
    search (rules, refused)

pub returns-in_err-check_sort-clause-exact : goal.returns-in_err-check_sort-clause-exact
returns-in_err-check_sort-clause-exact c =
    let k = c.args.header.now.hdu in
    let buf = c.args.buf.now in
    let after = c.args.after_empty in
    let left = past-scaling k buf after c.in_ok-check_scaling.ensures in
    let left = past-codec k buf after left c.in_ok-check_codec.ensures in
    let left = past-bitpix k buf after left c.in_ok-bitpix.ensures.exact in
    let left = past-shape k buf after left c.in_ok-shape.ensures.exact in
    let left = past-parameters k buf after left c.in_ok-codec.ensures.exact in
    let refused = in-sort k buf after _ left c.in_err-check_sort.ensures in
    search (rules, refused)

pub returns-in_err-check_line_list-clause-exact : goal.returns-in_err-check_line_list-clause-exact
returns-in_err-check_line_list-clause-exact c =
    let k = c.args.header.now.hdu in
    let buf = c.args.buf.now in
    let after = c.args.after_empty in
    let left = past-scaling k buf after c.in_ok-check_scaling.ensures in
    let left = past-codec k buf after left c.in_ok-check_codec.ensures in
    let left = past-bitpix k buf after left c.in_ok-bitpix.ensures.exact in
    let left = past-shape k buf after left c.in_ok-shape.ensures.exact in
    let left = past-parameters k buf after left c.in_ok-codec.ensures.exact in
    let left = past-sort k buf after left c.in_ok-check_sort.ensures in
    let refused = in-line_list k buf after _ left c.in_err-check_line_list.ensures in
    search (rules, refused)

pub returns-in_err-check_rows-clause-exact : goal.returns-in_err-check_rows-clause-exact
returns-in_err-check_rows-clause-exact c =
    let k = c.args.header.now.hdu in
    let buf = c.args.buf.now in
    let after = c.args.after_empty in
    let left = past-scaling k buf after c.in_ok-check_scaling.ensures in
    let left = past-codec k buf after left c.in_ok-check_codec.ensures in
    let left = past-bitpix k buf after left c.in_ok-bitpix.ensures.exact in
    let left = past-shape k buf after left c.in_ok-shape.ensures.exact in
    let left = past-parameters k buf after left c.in_ok-codec.ensures.exact in
    let left = past-sort k buf after left c.in_ok-check_sort.ensures in
    let left = past-line_list k buf after left c.in_ok-check_line_list.ensures in
    let refused = in-rows k buf after _ left (rows-checked k c.args.table.now.rows _ _ buf _ (rows-said buf c.args.header.now c.args.table.now c.requires.header c.requires.table) c.in_ok-shape.ensures.shape c.in_ok-shape.ensures.tile c.in_err-check_rows.ensures) in
    search (rules, refused)

pub returns-clause-exact : goal.returns-clause-exact
returns-clause-exact c =
    let k = c.args.header.now.hdu in
    let buf = c.args.buf.now in
    let after = c.args.after_empty in
    let left = past-scaling k buf after c.in_ok-check_scaling.ensures in
    let left = past-codec k buf after left c.in_ok-check_codec.ensures in
    let left = past-bitpix k buf after left c.in_ok-bitpix.ensures.exact in
    let left = past-shape k buf after left c.in_ok-shape.ensures.exact in
    let left = past-parameters k buf after left c.in_ok-codec.ensures.exact in
    let left = past-sort k buf after left c.in_ok-check_sort.ensures in
    let left = past-line_list k buf after left c.in_ok-check_line_list.ensures in
    ap Ok c.said_plan.ensures.exact ∙ sym (past-all k buf after left (rows-checked k c.args.table.now.rows _ _ buf _ (rows-said buf c.args.header.now c.args.table.now c.requires.header c.requires.table) c.in_ok-shape.ensures.shape c.in_ok-shape.ensures.tile c.in_ok-check_rows.ensures))

pub returns-clause-divided : goal.returns-clause-divided
returns-clause-divided c = same-divided _ _ _ _ c.said_plan.ensures.axes.0 c.said_plan.ensures.axes.1 c.in_ok-shape.ensures.divided

pub returns-clause-readable : goal.returns-clause-readable
returns-clause-readable c =
    same-readable (c.args.header.now.hdu) (cards_of c.args.buf.now) c.said_plan.result c.said_plan.ensures.exact c.in_ok-bitpix.ensures.exact (subst ReadsCodes c.in_ok-codec.ensures.value c.in_ok-codec.ensures.codes)

pub returns-clause-rows : goal.returns-clause-rows
returns-clause-rows c = same-rows c.args.table.now.rows _ _ _ _ _ c.said_plan.ensures.axes.0 c.said_plan.ensures.axes.1 c.in_ok-check_rows.ensures
