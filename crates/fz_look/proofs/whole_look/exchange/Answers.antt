-- What is handed back is no less than what is taken then.
use Rattle.std.proofs.Common.{◌≡◌, ℕ, ◌+◌, ◌-◌, ◌*◌, ◌≤◌, sym, ap, ◌∙◌, subst, arith}
use Rattle.fz_pool.specs.Window.{Pool, asked_for}
use Rattle.fz_look.proofs.Bands.{room_left}
use Rattle.fz_look.proofs.Spaces.{asked_for_tiles}
use Rattle.fz_look.proofs.whole_look.exchange.Goals as goal

pub empty-requires : goal.empty-requires
empty-requires c = omega (arith, c.requires.live, ap (λ m. m.live) c.give_bytes.ensures)

pub take_tile-requires : goal.take_tile-requires
take_tile-requires c =
    let W : ℕ = c.args.window.now.workers in
    let n : ℕ = c.args.survey.now.tile in
    let band : ℕ = c.band_len-most.result in
    let asked : asked_for c.args.window.now.slots ≡ 2 * W * (16 * n + 64) =
    asked_for_tiles c.sizes_law.ensures.fresh c.sizes_law.ensures.asked c.sizes_law.ensures.same c.args.window.now.slots W n c.requires.slots in
    let same : c.workers.result ≡ W = c.workers.ensures.value ∙ ap (λ (p : Pool). p.workers) c.empty.ensures.window in
    let most : band ≤ (2 * W - 1) * (16 * n + 64) + 65536 = subst (λ w. band ≤ (2 * w - 1) * (16 * n + 64) + 65536) same c.band_len-most.ensures.most in
    let some : 1 ≤ W = omega (arith, same, c.workers.ensures.some.0) in
    let fits : 16 * n + 64 + band ≤ asked_for c.args.window.now.slots + 65536 = subst (λ m. 16 * n + 64 + band ≤ m + 65536) (sym asked) (room_left W (16 * n + 64) band some most) in
    let gave = ap (λ m. m.live) c.give_bytes.ensures in
    let emptied = ap (λ m. m.live) c.empty.ensures.given in
    let limit = ap (λ m. m.limit) c.give_bytes.ensures in
    let limit' = ap (λ m. m.limit) c.empty.ensures.given in
    omega (arith, fits, gave, emptied, limit, limit', c.requires.live, c.requires.copy, c.live-live.ensures.value, c.live-live.ensures.below_peak, c.peak-peak.ensures.value, c.peak-peak.ensures.below_limit)
