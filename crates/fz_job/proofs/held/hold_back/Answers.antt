-- If there is no room, those that are held back are written first, and the bytes are the first of the next ones.
use Rattle.std.proofs.Common.{Option, ℕ, List, refl, ap, ◌∙◌, arith}
use Rattle.fz_base.specs.Sink.{written}
use Rattle.fz_job.proofs.HeldBytes.{held_first}
use Rattle.fz_job.proofs.held.hold_back.Goals as goal

pub returns-clause-written : goal.returns-clause-written
returns-clause-written g c =
    let mid : Option (List ℕ) = g.K.Sink.contents c.write_held.new.sink in
    held_first c.args.at 0 c.keep-2.new.count c.args.held.now c.keep-2.new.held c.args.bytes.now mid refl (c.keep-2.ensures.later c.args.at mid (omega arith))
    ∙ ap (λ (before : Option (List ℕ)). written c.args.at c.args.bytes.now before) c.in_ok-write_held.ensures.written
