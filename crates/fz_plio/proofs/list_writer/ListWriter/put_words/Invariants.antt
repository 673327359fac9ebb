-- The words so far are put.
use Rattle.std.proofs.Common.{◌≡◌, Ok, take}
use Rattle.fz_plio.specs.declared.list_writer.Full.{Full}
use Rattle.fz_plio.specs.Writing.{Puts}
use Rattle.fz_plio.proofs.list_writer.ListWriter.put_words.Given as goal

abbrev pub invariant-loop-word : goal.invariant-loop-word
invariant-loop-word l = record {
  same : l.self.out.ghost_name ≡ l.fn.self.out.ghost_name;
  puts : Puts {T = Unit {0}} {E = Full} l.fn.self.out.now l.self.out.now l.fn.self.at l.self.at (take l.word-index l.words) (Ok tt);
}
