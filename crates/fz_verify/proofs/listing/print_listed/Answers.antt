-- The header was read, so its line can be made.
use Rattle.fz_job.specs.Again.{header_at_front}
use Rattle.fz_verify.proofs.Few.{again_divided, few_axes}
use Rattle.fz_verify.proofs.listing.print_listed.Goals as goal

pub list_line-requires-clause-axes : goal.list_line-requires-clause-axes
list_line-requires-clause-axes g c =
    let w = c.requires.again.1.1.1 in
    few_axes (header_at_front c.args.again.now c.requires.again.1.1.0) c.args.again.now.header w.header

pub list_line-requires-clause-end : goal.list_line-requires-clause-end
list_line-requires-clause-end g c = c.requires.again.1.1.1.near

pub list_line-requires-clause-image : goal.list_line-requires-clause-image
list_line-requires-clause-image g c =
    again_divided c.requires.again.0 c.requires.again.1.0 c.requires.again.1.1.0 c.args.again.now c.requires.again.1.1.1
