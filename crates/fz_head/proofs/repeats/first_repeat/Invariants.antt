use Rattle.std.proofs.Common.{◌≡◌, ℕ, ◌<◌, false}
use Rattle.fz_head.specs.Once.{once_names, name_in}
use Rattle.fz_head.proofs.Repeated.{repeated}
use Rattle.fz_head.proofs.repeats.first_repeat.Given as goal

-- no card so far repeats a name
abbrev pub invariant-loop-i : goal.invariant-loop-i
invariant-loop-i l = (k : ℕ) → k < l.i → repeated (once_names l.of) (name_in l.of) l.buf k ≡ false
