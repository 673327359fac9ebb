-- The slots are those of a window that was just filled.
use Rattle.std.proofs.Common.{ℕ, ◌*◌, replicate, sym, ap, ◌∙◌, arith}
use Rattle.fz_pool.specs.Window.{slot_sizes}
use Rattle.fz_cases_rows.proofs.fetch.filled.Goals as goal

pub returns-in-Ok-fill-clause-slots : goal.returns-in-Ok-fill-clause-slots
returns-in-Ok-fill-clause-slots c = (
  4,
  ap slot_sizes c.in-Ok-fill.ensures.slots ∙ (c.sizes_law.ensures.fresh (2 * c.in-Ok.window.workers) 4 ∙ ap (λ (m : ℕ). replicate {A = ℕ × ℕ} (2 * m) (8, 96)) (sym c.fill.ensures.workers)),
  omega arith,
)
