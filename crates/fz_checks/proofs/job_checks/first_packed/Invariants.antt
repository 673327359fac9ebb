use Rattle.std.proofs.Common.{◌≡◌, ℕ, ◌<◌, false}
use Rattle.fz_block.specs.Cards.{card_at}
use Rattle.fz_checks.specs.JobChecks.{says_packed}
use Rattle.fz_checks.proofs.job_checks.first_packed.Given as goal

-- no card so far says it
abbrev pub invariant-loop-i : goal.invariant-loop-i
invariant-loop-i l = (k : ℕ) → k < l.i → says_packed (card_at l.buf k) ≡ false
