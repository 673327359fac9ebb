-- What is left of a record is part of it.
use Rattle.std.proofs.Common.{◌≡◌, ℕ, ◌+◌, ◌-◌, [], ◌∷◌, refl, arith}
use Rattle.fz_table.specs.declared.record.Record.{Record}
use Rattle.fz_pixels.proofs.PartReads.{nothing_left, rest_lies}
use Rattle.fz_pixels.proofs.Records.{may_log}
use Rattle.fz_pixels.proofs.parts.read_left.Goals as goal

-- ---- nothing is left

pub returns-then-skipped-found-clause-bytes : goal.returns-then-skipped-found-clause-bytes
returns-then-skipped-found-clause-bytes g c =
    let all : c.args.skipped ≡ c.args.found.now.read = omega arith in
    nothing_left (g.S.Source.held c.args.source.now) c.args.found.now c.args.skipped c.args.code.now all

pub returns-then-skipped-found-clause-read : goal.returns-then-skipped-found-clause-read
returns-then-skipped-found-clause-read g c =
    let found : Record = c.args.found.now in
    let old = g.S.Source.ranges c.args.source.now in
    c.ranges_law.ensures.all [] ((found.start, found.read) ∷ []) old old (λ byte lies. elim lies [ ]) refl

-- ---- the rest is read

pub returns-clause-read : goal.returns-clause-read
returns-clause-read g c =
    let found : Record = c.args.found.now in
    let skipped : ℕ = c.args.skipped in
    let old = g.S.Source.ranges c.args.source.now in
    let new = g.S.Source.ranges c.read_rest.new.source in
    c.ranges_law.ensures.some ((found.start + skipped, found.read - skipped) ∷ []) ((found.start, found.read) ∷ []) old new
    (λ byte lies. rest_lies found.start found.read skipped byte c.requires.skipped lies)
    (may_log c.read_rest.result (found.start + skipped) (found.read - skipped) old new c.read_rest.ensures.read c.read_rest.ensures.failed)
