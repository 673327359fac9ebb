-- No column so far is refused, and those of a packed image are found.
use Rattle.std.proofs.Common.{◌≡◌, None}
use Rattle.std.specs.List.{flat_map, range_with_len}
use Rattle.fz_base.specs.Refusal.{first_refusal}
use Rattle.fz_table.specs.Columns.{columns_len}
use Rattle.fz_table.specs.Tables.{column_checks}
use Rattle.fz_table.specs.Found.{AreFound}
use Rattle.fz_table.proofs.columns.packed_columns.Given as goal

abbrev pub invariant-loop-before : goal.invariant-loop-before
invariant-loop-before l = record {
  passed : first_refusal (flat_map (column_checks l.buf l.header) (range_with_len 1 l.before)) ≡ None;
  at : l.at ≡ columns_len l.buf l.before;
  found : AreFound l.buf l.before l.found;
}
