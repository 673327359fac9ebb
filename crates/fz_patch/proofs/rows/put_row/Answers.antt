-- One of the two descriptors is that of the code.
use Rattle.std.proofs.Common.{sym, ◌∙◌, subst}
use Rattle.fz_table.specs.Rows.{FitsDescriptor, packed_row}
use Rattle.fz_patch.proofs.CodedRows.{fits_code, fits_none, row_of_coded, row_of_stored}
use Rattle.fz_patch.proofs.rows.put_row.Goals as goal

pub write_row-requires-clause-coded : goal.write_row-requires-clause-coded
write_row-requires-clause-coded c =
    subst (FitsDescriptor c.args.target.now.wide) (sym c.described-coded.ensures) (fits_code c.args.target.now.wide c.coded_count.result c.args.offset c.args.slot.now.job.len c.coded_count.ensures.most c.requires.heap)

pub write_row-requires-clause-stored : goal.write_row-requires-clause-stored
write_row-requires-clause-stored c = subst (FitsDescriptor c.args.target.now.wide) (sym c.described-none.ensures) (fits_none c.args.target.now.wide)

pub write_row-requires-in-Stored-clause-coded : goal.write_row-requires-in-Stored-clause-coded
write_row-requires-in-Stored-clause-coded c = subst (FitsDescriptor c.args.target.now.wide) (sym c.described-none.ensures) (fits_none c.args.target.now.wide)

pub write_row-requires-in-Stored-clause-stored : goal.write_row-requires-in-Stored-clause-stored
write_row-requires-in-Stored-clause-stored c =
    subst (FitsDescriptor c.args.target.now.wide) (sym c.described-stored.ensures) (fits_code c.args.target.now.wide c.stored_count.result c.args.offset c.args.slot.now.job.len c.stored_count.ensures.most c.requires.heap)

pub returns-in-Coded : goal.returns-in-Coded
returns-in-Coded c =
    c.write_row.ensures ∙ (λ j. packed_row c.args.target.now.wide (c.described-coded.ensures j) (c.described-none.ensures j))
    ∙ row_of_coded c.args.target.now c.args.slot.now c.args.offset c.coded_count.result c.in-Coded.is c.coded_count.ensures.count

pub returns-in-Stored : goal.returns-in-Stored
returns-in-Stored c =
    c.write_row-in-Stored.ensures ∙ (λ j. packed_row c.args.target.now.wide (c.described-none.ensures j) (c.described-stored.ensures j))
    ∙ row_of_stored c.args.target.now c.args.slot.now c.args.offset c.stored_count.result c.in-Stored.is c.stored_count.ensures.count
