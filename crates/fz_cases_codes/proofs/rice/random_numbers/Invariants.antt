use Rattle.std.proofs.Common.{◌≡◌, vec_len}
use Rattle.std.specs.List.{All}
use Rattle.fz_rice.specs.Numbers.{IsNumber}
use Rattle.fz_cases_codes.proofs.rice.random_numbers.Given as goal

abbrev pub invariant-loop-made : goal.invariant-loop-made
invariant-loop-made g l = record {
  len : vec_len l.numbers ≡ l._made;
  all : All (IsNumber g.row.W) l.numbers.items;
}
