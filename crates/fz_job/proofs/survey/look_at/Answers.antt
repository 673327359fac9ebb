-- The header of the HDU, and then what the job says of it.
use Rattle.std.proofs.Common.{◌≡◌, ℕ, ◌+◌, ◌-◌, ◌*◌, ◌≤◌, max, List, length, take, Option, Result, Err, IfSome, sym, ap, ◌∙◌, subst, rules}
use Rattle.fz_base.specs.Meter.{Gauge}
use Rattle.fz_base.specs.Stop.{IsDefined, TellsLimit}
use Rattle.fz_base.specs.Takings.{highest}
use Rattle.fz_base.specs.declared.failure.Stop.{Stop}
use Rattle.fz_block.specs.Checks.{header_blocks_of}
use Rattle.fz_block.specs.declared.next.ReadHeader.{ReadHeader}
use Rattle.fz_block.specs.Takings.{header_taking}
use Rattle.fz_job.specs.Looks.{hdu_look, looked}
use Rattle.fz_job.specs.declared.look.Look.{Look}
use Rattle.fz_job.specs.declared.look.Looked.{Looked}
use Rattle.fz_job.specs.declared.survey.LookedAt.{LookedAt}
use Rattle.fz_job.proofs.Here.{first_axes}
use Rattle.fz_job.proofs.Kept.{more_told, both_told}
use Rattle.fz_job.proofs.Looked.{answered_look, looked_after, reading_tells, reading_passes_none, limit_told, header_places, both_places, after_by_number}
use Rattle.fz_job.proofs.survey.look_at.Goals as goal

pub returns-in_err-read-clause-touched : goal.returns-in_err-read-clause-touched
returns-in_err-read-clause-touched g c =
    header_places (g.S.Source.held c.args.source.now) c.args.checks.now c.args.begun.hdu c.args.begun.start (g.S.Source.ranges c.args.source.now) (g.S.Source.ranges c.header_into.new.source) c.header_into.ensures.touched

pub returns-in_err-read-clause-most : goal.returns-in_err-read-clause-most
returns-in_err-read-clause-most g c =
    let stopped : c.from_residual.result ≡ Err c.in_err-read.field-0.0 = search rules in
    subst (λ (r : Result LookedAt Stop). TellsLimit c.args.meter.now.limit ((c.args.meter.now.live - length c.args.room) + 737280) r) (sym stopped)
    (limit_told ReadHeader LookedAt c.args.meter.now.limit ((c.args.meter.now.live - length c.args.room) + 737280) c.in_err-read.field-0.0 c.in_err-read.ensures.limit)

pub returns-in-Err-clause-most : goal.returns-in-Err-clause-most
returns-in-Err-clause-most g c =
    reading_passes_none c.args.meter.now.limit ((c.args.meter.now.live - length c.args.room) + 737280) (g.S.Source.tally c.header_into.new.source) (g.S.Source.tally c.check_hdu.new.source) _ c.in-Err.ensures.cause.stop

pub check_hdu-requires-clause-after : goal.check_hdu-requires-clause-after
check_hdu-requires-clause-after g c =
    after_by_number (g.S.Source.held c.args.source.now) (g.S.Source.held c.header_into.new.source) c.in_ok-read.read.facts c.args.begun.after_empty c.args.begun.hdu c.in_ok-read.ensures.facts.1 c.header_into.ensures.source.held_is c.requires.after

pub returns-in-Ok-clause-exact : goal.returns-in-Ok-clause-exact
returns-in-Ok-clause-exact g c =
    let held : Option (List ℕ) = g.S.Source.held c.args.source.now in
    let says : IfSome held (λ f. IsDefined (hdu_look c.args.checks.now f c.in_ok-read.read.facts) c.check_hdu.result) =
    subst (λ (h : Option (List ℕ)). IfSome h (λ f. IsDefined (hdu_look c.args.checks.now f c.in_ok-read.read.facts) c.check_hdu.result)) c.header_into.ensures.source.held_is c.check_hdu.ensures.exact in
    subst (λ (a : Result Look Stop). IfSome held (λ f. IsDefined (looked c.args.checks.now c.args.begun.hdu c.args.begun.start f) (answered_look c.in_ok-read.read.facts a))) c.in-Ok.is
    (looked_after held c.args.checks.now c.args.begun.hdu c.args.begun.start c.in_ok-read.read.facts c.check_hdu.result c.in_ok-read.ensures.exact says)

pub returns-in-Err-clause-exact : goal.returns-in-Err-clause-exact
returns-in-Err-clause-exact g c =
    let held : Option (List ℕ) = g.S.Source.held c.args.source.now in
    let says : IfSome held (λ f. IsDefined (hdu_look c.args.checks.now f c.in_ok-read.read.facts) c.check_hdu.result) =
    subst (λ (h : Option (List ℕ)). IfSome h (λ f. IsDefined (hdu_look c.args.checks.now f c.in_ok-read.read.facts) c.check_hdu.result)) c.header_into.ensures.source.held_is c.check_hdu.ensures.exact in
    subst (λ (a : Result Look Stop). IfSome held (λ f. IsDefined (looked c.args.checks.now c.args.begun.hdu c.args.begun.start f) (answered_look c.in_ok-read.read.facts a))) c.in-Err.is
    (looked_after held c.args.checks.now c.args.begun.hdu c.args.begun.start c.in_ok-read.read.facts c.check_hdu.result c.in_ok-read.ensures.exact says)

pub returns-in-Ok-clause-touched : goal.returns-in-Ok-clause-touched
returns-in-Ok-clause-touched g c =
    both_places (g.S.Source.held c.args.source.now) c.args.checks.now c.args.begun.hdu c.args.begun.start c.in_ok-read.read.facts
    (g.S.Source.ranges c.args.source.now) (g.S.Source.ranges c.header_into.new.source) (g.S.Source.ranges c.check_hdu.new.source)
    c.in_ok-read.ensures.exact c.header_into.ensures.touched c.check_hdu.ensures.log

pub returns-in-Err-clause-touched : goal.returns-in-Err-clause-touched
returns-in-Err-clause-touched g c =
    both_places (g.S.Source.held c.args.source.now) c.args.checks.now c.args.begun.hdu c.args.begun.start c.in_ok-read.read.facts
    (g.S.Source.ranges c.args.source.now) (g.S.Source.ranges c.header_into.new.source) (g.S.Source.ranges c.check_hdu.new.source)
    c.in_ok-read.ensures.exact c.header_into.ensures.touched c.check_hdu.ensures.log

pub returns-in-Err-clause-first_past : goal.returns-in-Err-clause-first_past
returns-in-Err-clause-first_past g c =
    reading_tells (g.S.Source.held c.args.source.now) c.args.meter.now.limit (λ f. header_taking (c.args.meter.now.live - length c.args.room) (header_blocks_of c.args.begun.hdu c.args.begun.start f))
    (g.S.Source.tally c.header_into.new.source) (g.S.Source.tally c.check_hdu.new.source) _ c.in_ok-read.ensures.first_past c.in-Err.ensures.cause.stop

pub returns-in-Ok-clause-empty : goal.returns-in-Ok-clause-empty
returns-in-Ok-clause-empty g c =
    first_axes (g.S.Source.held c.args.source.now) c.args.begun.hdu c.args.begun.start (take (2880 * c.in_ok-read.read.facts.blocks) c.in_ok-read.read.bytes) c.in_ok-read.read.facts c.in_ok-read.ensures.facts.0 c.in_ok-read.ensures.bytes

pub returns-in_err-read-clause-stays : goal.returns-in_err-read-clause-stays
returns-in_err-read-clause-stays g c = (
  record {
    held_is = search rules;
    attached_is = search rules;
    told = more_told c.header_into.ensures.log.0 (g.S.Source.ranges c.args.source.now) (g.S.Source.ranges c.header_into.new.source) c.header_into.ensures.log.2;
  },
  search rules,
)

pub returns-in-Ok-clause-stays : goal.returns-in-Ok-clause-stays
returns-in-Ok-clause-stays g c = (
  record {
    held_is = search rules;
    attached_is = search rules;
    told =
        both_told (g.S.Source.ranges c.args.source.now) (g.S.Source.ranges c.header_into.new.source) (g.S.Source.ranges c.check_hdu.new.source)
        (more_told c.header_into.ensures.log.0 (g.S.Source.ranges c.args.source.now) (g.S.Source.ranges c.header_into.new.source) c.header_into.ensures.log.2)
        (more_told c.check_hdu.ensures.log.0 (g.S.Source.ranges c.header_into.new.source) (g.S.Source.ranges c.check_hdu.new.source) c.check_hdu.ensures.log.2);
  },
  search rules,
)

pub returns-in-Err-clause-stays : goal.returns-in-Err-clause-stays
returns-in-Err-clause-stays g c = (
  record {
    held_is = search rules;
    attached_is = search rules;
    told =
        both_told (g.S.Source.ranges c.args.source.now) (g.S.Source.ranges c.header_into.new.source) (g.S.Source.ranges c.check_hdu.new.source)
        (more_told c.header_into.ensures.log.0 (g.S.Source.ranges c.args.source.now) (g.S.Source.ranges c.header_into.new.source) c.header_into.ensures.log.2)
        (more_told c.check_hdu.ensures.log.0 (g.S.Source.ranges c.header_into.new.source) (g.S.Source.ranges c.check_hdu.new.source) c.check_hdu.ensures.log.2);
  },
  search rules,
)
