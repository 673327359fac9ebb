use Rattle.std.proofs.Common.{arith, ap, ◌≡◌, ◌∙◌, length, List, ℕ, ℤ}
use Rattle.fz_cases_codes.proofs.SlotLemmas.{refilled_all, tile_ready}
use Rattle.fz_cases_codes.proofs.pool.set_tile.Goals as goal

pub returns-clause-ready : goal.returns-clause-ready
returns-clause-ready c = let lent = c.set_first.new.numbers in let old = c.args.slot.now.numbers in
    let len : length lent ≡ length old = c.set_first.auto.numbers ∙ ap (λ (l : List ℤ). length l) c.as_mut_slice.ensures.value in
    let two = ap (λ (p : ℕ × ℕ). p.0) c.requires in let code = ap (λ (p : ℕ × ℕ). p.1) c.requires in
    tile_ready _ lent c.args.tile c.args.value c.ranges.value.fits c.set_first.ensures (omega arith) code c.job_of-slot.ensures (refilled_all old lent len)
