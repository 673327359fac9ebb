-- What is written, and then what the instructions that are left give, is the line.
use Rattle.std.proofs.Common.{◌≡◌, ◌-◌, ◌%◌, ◌^◌, ◌<◌, ◌≤◌, length, take}
use Rattle.fz_plio.specs.Words.{words}
use Rattle.fz_plio.specs.Instructions.{instructions}
use Rattle.fz_plio.specs.Reading.{line_from}
use Rattle.fz_plio.proofs.ReadingLemmas.{with_front}
use Rattle.fz_plio.proofs.decoder.read_line.Given as goal

abbrev pub invariant-loop-rest : goal.invariant-loop-rest
invariant-loop-rest l = record {
  within : l.at ≤ length l.numbers;
  in_range : l.high < 2 ^ 24;
  whole : length l.rest % 2 ≡ 0;
  line : with_front (take l.at l.numbers) (line_from (length l.numbers - l.at) l.high (instructions (words l.rest)))
      ≡ line_from (length l.fn.numbers) 1 (instructions (words l.bytes));
}

abbrev pub decreases-loop-rest : goal.decreases-loop-rest
decreases-loop-rest l = length l.rest
