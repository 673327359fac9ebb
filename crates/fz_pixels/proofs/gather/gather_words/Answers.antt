-- One pick more.
use Rattle.std.proofs.Common.{◌≡◌, ℕ, ◌+◌, ◌*◌, ◌<◌, ℤ, pos, List, length, take, get_or, w32, of_z, ap, ◌∙◌, arith}
use Rattle.std.specs.Int.{to_be_bytes}
use Rattle.std.proofs.lemmas.Int.{to_z-of_z}
use Rattle.std.proofs.Math.ListN.{set}
use Rattle.fz_pixels.proofs.Gathering.{fits_32, four_same, gathered_more, pick_low, put_four}
use Rattle.fz_pixels.proofs.gather.gather_words.Goals as goal

pub loop-k-preserved : goal.loop-k-preserved
loop-k-preserved c =
    let k : ℕ = c.loop-k.k in
    let from : ℕ = c.args.from in
    let step : ℕ = c.args.step in
    let numbers : List ℤ = c.args.numbers.now in
    let out : List ℕ = c.loop-k.out in
    let long : length out ≡ length c.args.out.now = c.loop-k.auto.out in
    let low : k < c.args.count = omega (arith, c.loop-k-test.true) in
    let near : from + k * step < length numbers = pick_low from step c.args.count k (length numbers) low c.requires.within in
    let y : ℤ = get_or numbers (from + k * step) (pos 0) in
    let is : c.to_be_bytes.result ≡ to_be_bytes w32 (of_z w32 y) =
    c.to_be_bytes.ensures ∙ ap (λ z. to_be_bytes w32 (of_z w32 z)) (to_z-of_z w32 y (fits_32 y (c.requires.fit.pixels (from + k * step) (pos 0) near))) in
    let r : List ℕ = c.to_be_bytes.result in
    let put : List ℕ = set (set (set (set out (4 * k) (get_or r 0 0)) (4 * k + 1) (get_or r 1 0)) (4 * k + 2) (get_or r 2 0)) (4 * k + 3) (get_or r 3 0) in
    let count : 4 * (k + 1) ≡ 4 * k + 4 = omega arith in
    gathered_more 32 from step k numbers (take (4 * k) out) _ _
    (ap (λ n. take n put) count ∙ put_four out (4 * k) _ _ _ _ (omega (arith, long, low, c.requires.room))) c.loop-k.invariant (four_same c.to_be_bytes.result (of_z w32 y) is)
