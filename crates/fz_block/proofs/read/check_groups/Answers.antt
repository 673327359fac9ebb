use Rattle.std.proofs.Common.{◌∙◌, Some, sym, ap, arith}
use Rattle.fz_block.proofs.Groups.{of_extension, without_axes, with_long_axis, not_said, said}
use Rattle.fz_block.proofs.read.check_groups.Goals as goal
use Rattle.fz_block.proofs.read.check_groups.Goals.{then-hdu-gt0-via-then-hdu-gt0, then-hdu-gt0-via-else-hdu-gt0+then-axes-eq0, then-hdu-gt0-via-else-hdu-gt0+else-axes-eq0+then-axes-gt0}

pub returns-then-hdu-gt0 : goal.returns-then-hdu-gt0
returns-then-hdu-gt0 c =
    let hdu = c.args.hdu in
    let header = c.args.buf.now in
    let axes = c.args.axes.now in
    elim c.then-hdu-gt0.branch [
      | then-hdu-gt0-via-then-hdu-gt0 w ↦ of_extension hdu header (omega arith)
      | then-hdu-gt0-via-else-hdu-gt0+then-axes-eq0 w ↦ without_axes hdu header axes c.requires.axes (omega arith)
      | then-hdu-gt0-via-else-hdu-gt0+else-axes-eq0+then-axes-gt0 w ↦ with_long_axis hdu header axes c.requires.axes (omega arith) (omega arith)
    ]

pub returns-in-Some : goal.returns-in-Some
returns-in-Some c =
    let found = said c.args.hdu c.args.buf.now c.args.axes.now c.args.cards c.in-Some.i (omega arith) c.requires.axes (omega arith) (omega arith) c.requires.end (sym c.groups_card.ensures ∙ c.in-Some.is) in
    found ∙ ap Some (sym c.refused.ensures)

pub returns-in-None : goal.returns-in-None
returns-in-None c = not_said c.args.hdu c.args.buf.now c.args.cards c.requires.end (sym c.groups_card.ensures ∙ c.in-None.is)
