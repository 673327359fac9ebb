-- Zeros, if any.
use Rattle.std.proofs.Common.{ℕ, ◌-◌, take, replicate, arith}
use Rattle.std.proofs.lemmas.List.{take-replicate}
use Rattle.fz_patch.proofs.AmendWrites.{zeros_some, zeros_wrote}
use Rattle.fz_patch.proofs.codes.write_zeros.Goals as goal

pub returns-clause-wrote : goal.returns-clause-wrote
returns-clause-wrote g c =
    let at : ℕ = c.args.at in
    let end : ℕ = c.args.end in
    zeros_wrote at end (take (end - at) (replicate 2880 0)) (g.D.Source.held c.args.store.now) (g.D.Source.held c.amend_at.new.store) (g.D.Source.tally c.args.store.now) (g.D.Source.tally c.amend_at.new.store) c.amend_at.result
    c.if-at-end.false (take-replicate (end - at) 2880 0 (omega (arith, c.requires.near))) c.amend_at.ensures.amended c.amend_at.ensures.cause

pub returns-clause-some : goal.returns-clause-some
returns-clause-some g c =
    let at : ℕ = c.args.at in
    let end : ℕ = c.args.end in
    zeros_some at end (take (end - at) (replicate 2880 0)) (g.D.Source.held c.args.store.now) (g.D.Source.held c.amend_at.new.store) (g.D.Source.tally c.args.store.now) (g.D.Source.tally c.amend_at.new.store) c.amend_at.result
    c.if-at-end.false (take-replicate (end - at) 2880 0 (omega (arith, c.requires.near))) c.amend_at.ensures.amended c.amend_at.ensures.partly c.amend_at.ensures.cause
