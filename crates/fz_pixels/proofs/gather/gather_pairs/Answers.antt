-- One pick more.
use Rattle.std.proofs.Common.{◌≡◌, ℕ, ◌+◌, ◌*◌, ◌<◌, ℤ, pos, List, length, take, get_or, w16, w32, of_z, to_z, ap, ◌∙◌, arith}
use Rattle.std.specs.Int.{to_be_bytes}
use Rattle.std.proofs.lemmas.Int.{to_z-of_z}
use Rattle.std.proofs.Math.ListN.{set}
use Rattle.fz_pixels.proofs.Gathering.{fits_16, gathered_more, pick_low, put_two, two_same, wide_16}
use Rattle.fz_pixels.proofs.gather.gather_pairs.Goals as goal

pub loop-k-preserved : goal.loop-k-preserved
loop-k-preserved c =
    let k : ℕ = c.loop-k.k in
    let from : ℕ = c.args.from in
    let step : ℕ = c.args.step in
    let numbers : List ℤ = c.args.numbers.now in
    let out : List ℕ = c.loop-k.out in
    let long : length out ≡ length c.args.out.now = c.loop-k.auto.out in
    let low : k < c.args.count = omega (arith, c.loop-k-test.true) in
    let near : from + k * step < length numbers = pick_low from step c.args.count k (length numbers) low c.requires.within in
    let y : ℤ = get_or numbers (from + k * step) (pos 0) in
    let fit = c.requires.fit.pixels (from + k * step) (pos 0) near in
    let back : to_z w16 (of_z w16 (to_z w32 (of_z w32 y))) ≡ y = ap (λ z. to_z w16 (of_z w16 z)) (to_z-of_z w32 y (wide_16 y fit)) ∙ to_z-of_z w16 y (fits_16 y fit) in
    let is : c.to_be_bytes.result ≡ to_be_bytes w16 (of_z w16 y) = c.to_be_bytes.ensures ∙ ap (λ z. to_be_bytes w16 (of_z w16 z)) back in
    let r : List ℕ = c.to_be_bytes.result in
    let put : List ℕ = set (set out (2 * k) (get_or r 0 0)) (2 * k + 1) (get_or r 1 0) in
    let count : 2 * (k + 1) ≡ 2 * k + 2 = omega arith in
    gathered_more 16 from step k numbers (take (2 * k) out) _ _
    (ap (λ n. take n put) count ∙ put_two out (2 * k) _ _ (omega (arith, long, low, c.requires.room))) c.loop-k.invariant (two_same c.to_be_bytes.result (of_z w16 y) is)
