use Rattle.std.proofs.Common.{◌≡◌, ℕ, ◌<◌, ◌≤◌, ◌-◌, false, length, get_or}
use Rattle.fz_card.specs.DecimalScans.{is_letter}
use Rattle.fz_card.proofs.decimal_reading.mantissa_len.Given as goal

abbrev pub invariant-loop-len : goal.invariant-loop-len
invariant-loop-len l = record { within : l.len ≤ length l.text; none : (k : ℕ) → k < l.len → is_letter (get_or l.text k 0) ≡ false }

abbrev pub decreases-loop-len : goal.decreases-loop-len
decreases-loop-len l = length l.text - l.len
