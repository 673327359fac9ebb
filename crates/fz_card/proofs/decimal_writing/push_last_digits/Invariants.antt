use Rattle.std.proofs.Common.{◌≡◌, ◌+◌, ◌≤◌, ◌++◌, length}
use Rattle.fz_card.specs.Decimals.{last_digits}
use Rattle.fz_card.proofs.decimal_writing.push_last_digits.Given as goal

abbrev pub invariant-loop-left : goal.invariant-loop-left
invariant-loop-left l = record { few : l.left ≤ 28; room : length l.line + l.left ≤ 70; text : l.line ++ last_digits l.left l.number ≡ l.fn.line ++ last_digits l.fn.count l.number }

abbrev pub decreases-loop-left : goal.decreases-loop-left
decreases-loop-left l = l.left
