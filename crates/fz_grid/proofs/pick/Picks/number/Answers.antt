use Rattle.std.proofs.Common.{take, ap, sym, ◌∙◌, arith}
use Rattle.fz_grid.specs.Arrays.{place_of}
use Rattle.fz_grid.specs.Region.{lengths_of}
use Rattle.fz_grid.specs.Sieve.{sieve_lo, sieve_step, stepped}
use Rattle.fz_grid.proofs.SieveLists.{stepped_list}
use Rattle.fz_grid.proofs.pick.Picks.number.Goals as goal

pub returns-clause-number : goal.returns-clause-number
returns-clause-number c =
    let picks = c.args.self.now in
    let sieve = picks.sieve in
    let numbers = c.coordinates-numbers.result in
    let at = c.pick.result in
    let same = picks.within.same_axes in
    let list = stepped_list at sieve.lo sieve.step numbers sieve.n (omega arith) (omega arith) (omega arith) (omega arith) c.pick.ensures.pick in
    let named = ap (λ n. take n numbers) (same ∙ sym picks.lengths_axes) ∙ c.coordinates-numbers.ensures.coordinates in
    c.index.ensures.place
    ∙ ap (place_of (lengths_of picks.shape)) (ap (λ n. take n at) (sym same) ∙ (list ∙ ap (stepped (sieve_lo sieve) (sieve_step sieve)) named))
