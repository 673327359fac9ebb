-- Where the pieces that are left are put after those so far, all are put.
use Rattle.std.proofs.Common.{◌≡◌, ℕ, List, Result}
use Rattle.fz_plio.specs.Operation.{code_of}
use Rattle.fz_plio.specs.Producer.{in_pieces}
use Rattle.fz_plio.specs.Writing.{Puts, words_of}
use Rattle.fz_plio.specs.declared.list_writer.Full.{Full}
use Rattle.fz_plio.proofs.list_writer.ListWriter.put_pieces.Given as goal

abbrev pub invariant-loop-left : goal.invariant-loop-left
invariant-loop-left l = record {
  same : l.self.out.ghost_name ≡ l.fn.self.out.ghost_name;
  puts : (r : Result (Unit {0}) Full) (new : List ℕ) (next : ℕ)
      → Puts l.self.out.now new l.self.at next (words_of (in_pieces (code_of l.operation) l.left)) r
      → Puts l.fn.self.out.now new l.fn.self.at next (words_of (in_pieces (code_of l.operation) l.count)) r;
}

abbrev pub decreases-loop-left : goal.decreases-loop-left
decreases-loop-left l = l.left
