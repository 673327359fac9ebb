use Rattle.std.proofs.Common.{◌≡◌, ◌≤◌, ◌+◌, length, take}
use Rattle.fz_card.specs.Quoted.{quoted}
use Rattle.fz_card.proofs.QuotedTexts.{with_front}
use Rattle.fz_card.proofs.quoted.read_quoted.Given as goal

abbrev pub invariant-loop-byte : goal.invariant-loop-byte
invariant-loop-byte l = record {
  fits : length l.rest + l.len ≤ 70;
  read : quoted l.opened ≡ with_front (take l.len l.into) (quoted l.rest);
}

abbrev pub decreases-loop-byte : goal.decreases-loop-byte
decreases-loop-byte l = length l.rest
