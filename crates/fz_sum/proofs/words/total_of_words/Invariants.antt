use Rattle.std.proofs.Common.{◌≡◌, ◌+◌, ◌*◌, ◌%◌, ◌≤◌, ◌^◌, length}
use Rattle.fz_sum.specs.Pieces.{total_at}
use Rattle.fz_sum.proofs.words.total_of_words.Given as goal

abbrev pub invariant-loop-words : goal.invariant-loop-words
invariant-loop-words l = record {
  total : l.total + total_at 0 l.words ≡ total_at 0 l.fn.words;
  within : l.total + 2 ^ 32 * length l.words ≤ 2 ^ 32 * length l.fn.words;
  whole : length l.words % 4 ≡ 0;
}

abbrev pub decreases-loop-words : goal.decreases-loop-words
decreases-loop-words l = length l.words
