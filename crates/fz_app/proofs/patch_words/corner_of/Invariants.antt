use Rattle.std.proofs.Common.{◌≡◌, ℕ, ◌-◌, ◌<◌, get_or, length}
use Rattle.fz_app.proofs.patch_words.corner_of.Given as goal

abbrev pub invariant-loop-i : goal.invariant-loop-i
invariant-loop-i l = (length l.corner ≡ 9) × ((k : ℕ) → k < l.i → get_or l.corner k 0 ≡ get_or l.at.len k 0 - 1)
