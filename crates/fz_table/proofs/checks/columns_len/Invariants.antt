-- No column so far is refused, and their widths are added up.
use Rattle.std.proofs.Common.{◌≡◌, ◌*◌, ◌^◌, ◌≤◌, None}
use Rattle.std.specs.List.{flat_map, range_with_len}
use Rattle.fz_base.specs.Refusal.{first_refusal}
use Rattle.fz_table.specs.Columns.{columns_len}
use Rattle.fz_table.specs.Tables.{form_checks}
use Rattle.fz_table.proofs.checks.columns_len.Given as goal

abbrev pub invariant-loop-before : goal.invariant-loop-before
invariant-loop-before l = record {
  passed : first_refusal (flat_map (form_checks l.buf l.header) (range_with_len 1 l.before)) ≡ None;
  added : l.len ≡ columns_len l.buf l.before;
  short : l.len ≤ 2 ^ 34 * l.before;
}
