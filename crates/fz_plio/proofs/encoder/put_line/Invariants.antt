-- Where the instructions of what is left are put after those so far, all are put.
use Rattle.std.proofs.Common.{◌≡◌, ℕ, ◌^◌, ◌<◌, List, Result, length}
use Rattle.std.specs.Prelude.{All}
use Rattle.fz_plio.specs.Producer.{InRange, body_words}
use Rattle.fz_plio.specs.Writing.{Puts, magnitudes}
use Rattle.fz_plio.specs.declared.list_writer.Full.{Full}
use Rattle.fz_plio.proofs.encoder.put_line.Given as goal

abbrev pub invariant-loop-run : goal.invariant-loop-run
invariant-loop-run l = record {
  same : l.list.out.ghost_name ≡ l.fn.list.out.ghost_name;
  fits : All InRange l.rest;
  high : l.high < 2 ^ 24;
  puts : (r : Result (Unit {0}) Full) (new : List ℕ) (next : ℕ)
      → Puts l.list.out.now new l.list.at next (body_words l.high (magnitudes l.rest)) r
      → Puts l.fn.list.out.now new l.fn.list.at next (body_words 1 (magnitudes l.numbers)) r;
}

abbrev pub decreases-loop-run : goal.decreases-loop-run
decreases-loop-run l = length l.rest
