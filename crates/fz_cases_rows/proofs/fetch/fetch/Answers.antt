-- The slots are those of the image, and stay so.
use Rattle.std.proofs.Common.{ℕ, ◌+◌, ◌*◌, replicate, sym, ap, subst, ◌∙◌}
use Rattle.fz_pool.specs.Window.{HasSlotsFor}
use Rattle.fz_cases_rows.proofs.fetch.fetch.Goals as goal

pub fetch_tiles-requires-clause-window : goal.fetch_tiles-requires-clause-window
fetch_tiles-requires-clause-window g c κs within = subst (λ n. HasSlotsFor n c.args.window.now) (sym c.requires.pixels) c.requires.window

pub returns-clause-window : goal.returns-clause-window
returns-clause-window g c =
    let n : ℕ = c.requires.window.0 in (
      n,
      c.fetch_tiles.ensures.stays.1.sizes ∙ c.requires.window.1 ∙ ap (λ (k : ℕ). replicate {A = ℕ × ℕ} (2 * k) (2 * n, 8 * n + 64)) (sym c.fetch_tiles.ensures.stays.1.workers),
      c.requires.window.2,
    )
