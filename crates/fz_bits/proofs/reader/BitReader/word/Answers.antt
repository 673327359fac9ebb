use Rattle.std.proofs.Common.{arith}
use Rattle.fz_bits.proofs.ReaderLemmas.{pending_front}
use Rattle.fz_bits.proofs.reader.BitReader.word.Goals as goal

pub returns : goal.returns
returns c = pending_front c.args.self.now c.args.self.now.count (omega arith)
