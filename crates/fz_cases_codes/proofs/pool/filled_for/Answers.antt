use Rattle.std.proofs.Common.{ℕ, ◌+◌, ◌*◌, replicate, ap, ◌∙◌}
use Rattle.fz_pool.specs.Window.{Pool, slot_sizes}
use Rattle.fz_cases_codes.proofs.pool.filled_for.Goals as goal

pub returns-in-Ok-fill-clause-sizes : goal.returns-in-Ok-fill-clause-sizes
returns-in-Ok-fill-clause-sizes c =
    ap slot_sizes c.in-Ok-fill.ensures.slots ∙ (c.sizes_law.ensures.fresh (2 * c.in-Ok.window.workers) c.args.n ∙ ap (λ (m : ℕ). replicate {A = ℕ × ℕ} (2 * m) (2 * c.args.n, 8 * c.args.n + 64)) (ap (λ (w : Pool). w.workers) c.in-Ok.ensures))
