-- What `retile` says of the limits of two meters is said of the one limit that both have.
use Rattle.std.proofs.Common.{◌≡◌, ℕ, List, max, Option, Some, None, IfSome, Result, Ok, Err, ap, ◌∙◌, subst, arith}
use Rattle.std.specs.Prelude.{OnOk}
use Rattle.fz_base.specs.Meter.{Gauge}
use Rattle.fz_base.specs.Takings.{highest}
use Rattle.fz_base.specs.declared.failure.Stop.{Stop}
use Rattle.fz_files.specs.Buffers.{file_takings}
use Rattle.fz_files.specs.declared.job.Job.TheVariants.{Unpack}
use Rattle.fz_retile.specs.Retiles.{KeepsView}
use Rattle.fz_retile.proofs.one_limit.retile_within.Goals as goal

-- a meter that nothing was taken of
abbrev unused : ℕ → Gauge
unused limit = record { live = 0; peak = 0; limit = limit }

exact_only : (r : Result (Unit {0}) Stop) (held : Option (List ℕ)) (peak : ℕ) (most : List ℕ → ℕ) →
    OnOk r (IfSome held (λ g. peak ≡ max 0 (most g))) → OnOk r (IfSome held (λ g. peak ≡ most g))
exact_only (Ok x) None peak most is = tt
exact_only (Ok x) (Some g) peak most is = omega (arith, is)
exact_only (Err stop) held peak most is = tt

pub returns-clause-within : goal.returns-clause-within
returns-clause-within g c =
    let view : c.new-view.result.limit ≡ c.args.meter.now.limit = ap (λ (m : Gauge). m.limit) c.new-view.ensures ∙ c.limit.ensures in
    let packing : c.retile-answer.new.meter.limit ≡ c.args.meter.now.limit = c.retile-answer.ensures.buffers.limit in
    let looking : c.retile-answer.new.view.limit ≡ c.new-view.result.limit = c.retile-answer.ensures.view_buffers.limit in (
      omega (arith, packing, c.peak-packing.ensures.value, c.peak-packing.ensures.below_limit),
      omega (arith, view, looking, c.peak-looking.ensures.value, c.peak-looking.ensures.below_limit),
    )

pub returns-clause-answered : goal.returns-clause-answered
returns-clause-answered g c =
    let view : c.new-view.result.limit ≡ c.args.meter.now.limit = ap (λ (m : Gauge). m.limit) c.new-view.ensures ∙ c.limit.ensures in
    rw view at c.retile-answer.ensures.answered

pub returns-clause-cause : goal.returns-clause-cause
returns-clause-cause g c =
    let view : c.new-view.result.limit ≡ c.args.meter.now.limit = ap (λ (m : Gauge). m.limit) c.new-view.ensures ∙ c.limit.ensures in
    rw view at c.retile-answer.ensures.cause

pub returns-clause-unmade : goal.returns-clause-unmade
returns-clause-unmade g c =
    let view : c.new-view.result.limit ≡ c.args.meter.now.limit = ap (λ (m : Gauge). m.limit) c.new-view.ensures ∙ c.limit.ensures in
    rw view at c.retile-answer.ensures.unmade

pub returns-clause-unread : goal.returns-clause-unread
returns-clause-unread g c =
    let view : c.new-view.result.limit ≡ c.args.meter.now.limit = ap (λ (m : Gauge). m.limit) c.new-view.ensures ∙ c.limit.ensures in
    rw view at c.retile-answer.ensures.unread

pub returns-clause-view_buffers : goal.returns-clause-view_buffers
returns-clause-view_buffers g c =
    let began : c.new-view.result ≡ unused c.args.meter.now.limit = c.new-view.ensures ∙ ap unused c.limit.ensures in
    subst (λ (m : Gauge). KeepsView (g.S.Source.held c.args.source.now) m c.retile-answer.new.view c.args.window.now.workers) began c.retile-answer.ensures.view_buffers

pub returns-clause-exact_view : goal.returns-clause-exact_view
returns-clause-exact_view g c =
    let none : c.new-view.result.peak ≡ 0 = ap (λ (m : Gauge). m.peak) c.new-view.ensures in
    exact_only c.retile-answer.result (g.S.Source.held c.args.source.now) c.retile-answer.new.view.peak (λ f. highest (file_takings Unpack f c.args.window.now.workers))
    (rw none at c.retile-answer.ensures.exact_view)
