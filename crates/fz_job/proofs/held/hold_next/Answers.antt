-- The bytes are after those that are held back.
use Rattle.std.proofs.Common.{ℕ, ap, ◌∙◌, arith}
use Rattle.fz_base.specs.Sink.{written}
use Rattle.fz_job.specs.Held.{caught_up}
use Rattle.fz_job.proofs.held.hold_next.Goals as goal

pub hold_back-requires-clause-within : goal.hold_back-requires-clause-within
hold_back-requires-clause-within g c = c.requires.held.within

pub hold_back-requires-clause-behind : goal.hold_back-requires-clause-behind
hold_back-requires-clause-behind g c = omega (arith, c.requires.held.behind, c.requires.follows)

pub returns-clause-written : goal.returns-clause-written
returns-clause-written g c =
    c.in_ok-hold_back.ensures.written
    ∙ ap (λ (end : ℕ). written c.args.at c.args.bytes.now (caught_up end c.args.back.now.count c.args.held.now (g.K.Sink.contents c.args.sink.now)))
    c.requires.follows

pub returns-clause-kept : goal.returns-clause-kept
returns-clause-kept g c = record {
  within = c.in_ok-hold_back.ensures.within;
  behind = omega (arith, c.in_ok-hold_back.ensures.few, c.requires.held.behind, c.requires.follows);
}
