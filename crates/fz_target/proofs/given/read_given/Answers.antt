-- A header that is refused, or does not fit, is a bad patch.
use Rattle.std.proofs.Common.{◌≡◌, ◌+◌, ◌≤◌, length, max, IfSome, sym, ap, ◌∙◌, subst, rules}
use Rattle.fz_base.specs.Meter.{Gauge}
use Rattle.fz_base.specs.Takings.{highest}
use Rattle.fz_block.specs.Checks.{header_blocks_of}
use Rattle.fz_block.specs.Takings.{header_taking}
use Rattle.fz_target.proofs.Found.{bad_given, refused_by, refused_given}
use Rattle.fz_target.proofs.FoundTargets.{given_image}
use Rattle.fz_target.proofs.Peaks.{reached_given}
use Rattle.fz_target.proofs.given.read_given.Goals as goal

pub returns-in-Err-Refused-clause-exact : goal.returns-in-Err-Refused-clause-exact
returns-in-Err-Refused-clause-exact g c =
    bad_given c.args.plan.now (g.S.Source.held c.args.patch.now) c.bad_patch.result c.bad_patch.ensures
    (refused_given c.args.plan.now (g.S.Source.held c.args.patch.now) c.in-Err-Refused.field-0-0 (refused_by (g.S.Source.held c.args.patch.now) c.in-Err-Refused.field-0 c.in-Err-Refused.field-0-0 c.in-Err-Refused.field-0-is c.in-Err-Refused.ensures.exact))

pub returns-clause-given : goal.returns-clause-given
returns-clause-given g c =
    given_image c.args.plan.now c.in-Ok.read.bytes c.in-Ok.read.facts c.in-Ok.ensures.facts.0 c.in-Ok.ensures.facts.1 c.requires.axes.0 (sym c.is_fitting.ensures ∙ c.if-not-is_fitting.false)

pub returns-clause-peak : goal.returns-clause-peak
returns-clause-peak g c =
    let same : c.give_bytes.new.self.peak ≡ c.header_at.new.meter.peak = search rules in
    subst (λ k. IfSome (g.S.Source.held c.args.patch.now) (λ p. k ≤ max c.args.meter.now.peak (highest (header_taking c.args.meter.now.live (header_blocks_of 0 0 p))))) (sym same) c.in-Ok.ensures.peak

pub returns-clause-exact_peak : goal.returns-clause-exact_peak
returns-clause-exact_peak g c =
    let same : c.give_bytes.new.self.peak ≡ c.header_at.new.meter.peak = search rules in
    let took : c.header_at.new.meter.peak ≡ max c.args.meter.now.peak (c.args.meter.now.live + length c.in-Ok.read.bytes) = ap (λ (m : Gauge). m.peak) c.in-Ok.ensures.taken.1 in
    reached_given c.hdu_at_law.ensures.blocks (g.S.Source.held c.args.patch.now) c.args.meter.now.live c.args.meter.now.peak c.give_bytes.new.self.peak c.in-Ok.read.bytes c.in-Ok.read.facts c.in-Ok.ensures.facts.0 c.in-Ok.ensures.exact (same ∙ took)
