-- Nothing is read of an image that was no primary; else bytes before the table are read.
use Rattle.std.proofs.Common.{◌≡◌, ℕ, List, Option, take, true, ◌∙◌, sym, arith, rules}
use Rattle.std.proofs.lemmas.Result.{IfOk-weaker}
use Rattle.fz_block.specs.Header.{next_start_of}
use Rattle.fz_strict.proofs.Frames.{begin_compared, begins_elsewhere}
use Rattle.fz_strict.proofs.image.begins_right.Goals as goal

pub returns-then-not-primary-clause-read : goal.returns-then-not-primary-clause-read
returns-then-not-primary-clause-read g c = c.log_law.ensures.none 0 (next_start_of c.args.header.now) (g.S.Source.ranges c.args.source.now)

pub returns-then-header-len-clause-same : goal.returns-then-header-len-clause-same
returns-then-header-len-clause-same g c =
    let primary : c.args.primary ≡ true = search rules in
    begins_elsewhere c.args.primary c.args.header.now (g.S.Source.held c.args.source.now) primary (λ is. c.if-header-len.true (is ∙ sym c.to_empty_primary-len.ensures.size))

pub returns-clause-same : goal.returns-clause-same
returns-clause-same g c =
    let h = c.args.header.now in
    let made : List ℕ = take c.to_empty_primary-len.result c.to_empty_primary-len.new.out in
    let primary : c.args.primary ≡ true = search rules in
    let there : h.start ≡ 2880 = c.if-header-len.false ∙ c.to_empty_primary-len.ensures.size in
    IfOk-weaker c.has_bytes.result _ _
    (λ answer same. begin_compared c.args.primary h made answer primary there c.to_empty_primary-len.ensures.written (g.S.Source.held c.args.source.now) same)
    c.has_bytes.ensures.same

pub returns-then-header-len-clause-read : goal.returns-then-header-len-clause-read
returns-then-header-len-clause-read g c = c.log_law.ensures.none 0 (next_start_of c.args.header.now) (g.S.Source.ranges c.args.source.now)

pub returns-clause-read : goal.returns-clause-read
returns-clause-read g c =
    c.log_law.ensures.wider _ _ 0 (next_start_of c.args.header.now) (g.S.Source.ranges c.args.source.now) (g.S.Source.ranges c.has_bytes.new.source) (omega arith) (omega arith) c.has_bytes.ensures.read
