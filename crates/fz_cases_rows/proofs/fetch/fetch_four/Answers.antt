-- The slots are those of the image, and stay so.
use Rattle.std.proofs.Common.{◌≡◌, ℕ, ◌+◌, ◌*◌, replicate, sym, ap, subst, ◌∙◌, arith}
use Rattle.std.proofs.lemmas.List.{length-replicate}
use Rattle.fz_pool.specs.Window.{HasSlotsFor, Pool, slot_sizes}
use Rattle.fz_cases_rows.proofs.fetch.fetch_four.Goals as goal

-- a fetch keeps the slots
kept : (old new : Pool) → HasSlotsFor 4 old → slot_sizes new.slots ≡ slot_sizes old.slots → new.workers ≡ old.workers → HasSlotsFor 4 new
kept old new has sizes workers =
    let n : ℕ = has.0 in (
      n,
      sizes ∙ has.1 ∙ ap (λ (k : ℕ). replicate {A = ℕ × ℕ} (2 * k) (2 * n, 8 * n + 64)) (sym workers),
      has.2,
    )

pub fetch_ahead-requires-clause-window : goal.fetch_ahead-requires-clause-window
fetch_ahead-requires-clause-window g c κs within = subst (λ n. HasSlotsFor n c.args.window.now) (sym c.requires.pixels) c.requires.window

pub fetch_ahead-requires-clause-ahead : goal.fetch_ahead-requires-clause-ahead
fetch_ahead-requires-clause-ahead g c κs within = c.none-ahead.ensures.ahead _ c.args.image.now.table _ (omega (arith, length-replicate {A = ℕ}))

pub fetch_ahead-requires-2-clause-window : goal.fetch_ahead-requires-2-clause-window
fetch_ahead-requires-2-clause-window g c κs within =
    subst (λ n. HasSlotsFor n c.fetch_ahead.new.window) (sym c.requires.pixels)
    (kept c.args.window.now c.fetch_ahead.new.window c.requires.window c.in_ok-fetch_ahead.ensures.stays.1.sizes c.in_ok-fetch_ahead.ensures.stays.1.workers)

pub fetch_ahead-requires-2-clause-ahead : goal.fetch_ahead-requires-2-clause-ahead
fetch_ahead-requires-2-clause-ahead g c κs within = c.in_ok-fetch_ahead.ensures.ahead

pub returns-clause-window : goal.returns-clause-window
returns-clause-window g c =
    kept c.fetch_ahead.new.window c.fetch_ahead-2.new.window
    (kept c.args.window.now c.fetch_ahead.new.window c.requires.window c.in_ok-fetch_ahead.ensures.stays.1.sizes c.in_ok-fetch_ahead.ensures.stays.1.workers)
    c.fetch_ahead-2.ensures.stays.1.sizes c.fetch_ahead-2.ensures.stays.1.workers

pub returns-in_err-fetch_ahead-clause-window : goal.returns-in_err-fetch_ahead-clause-window
returns-in_err-fetch_ahead-clause-window g c =
    kept c.args.window.now c.fetch_ahead.new.window c.requires.window c.in_err-fetch_ahead.ensures.stays.1.sizes c.in_err-fetch_ahead.ensures.stays.1.workers
