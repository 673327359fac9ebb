-- The numbers so far are those that the bytes store.
use Rattle.std.proofs.Common.{◌≡◌, ℕ, ◌*◌, ◌<◌, pos, get_or, take, drop}
use Rattle.fz_tile.specs.Plain.{pixel_of}
use Rattle.fz_tile.proofs.plain.read_words.Given as goal

abbrev pub invariant-loop-i : goal.invariant-loop-i
invariant-loop-i l = (k : ℕ) → k < l.i → get_or l.numbers k (pos 0) ≡ pixel_of 32 (take 4 (drop (4 * k) l.code))
