use Rattle.std.proofs.Common.{◌≡◌, ◌*◌, ◌++◌, false, length, replicate}
use Rattle.fz_bits.specs.Writer.{written, lent, buffer, room, SameBehind}
use Rattle.fz_bits.proofs.writer.BitWriter.long_unary.Given as goal

abbrev pub invariant-loop-word : goal.invariant-loop-word
invariant-loop-word l = record {
  same : lent l.self ≡ lent l.fn.self;
  room : room l.self ≡ room l.fn.self;
  zeros : written l.self ≡ written l.fn.self ++ replicate (32 * l._word) false;
  behind : SameBehind (length (written l.self)) (buffer l.fn.self) (buffer l.self);
}
