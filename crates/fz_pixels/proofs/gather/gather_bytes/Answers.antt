-- One pick more.
use Rattle.std.proofs.Common.{◌≡◌, ℕ, ◌+◌, ◌*◌, ◌<◌, ℤ, pos, List, length, get_or, arith}
use Rattle.fz_pixels.proofs.Gathering.{byte_same, gathered_more, pick_low, put_one}
use Rattle.fz_pixels.proofs.gather.gather_bytes.Goals as goal

pub loop-k-preserved : goal.loop-k-preserved
loop-k-preserved c =
    let k : ℕ = c.loop-k.k in
    let from : ℕ = c.args.from in
    let step : ℕ = c.args.step in
    let numbers : List ℤ = c.args.numbers.now in
    let out : List ℕ = c.loop-k.out in
    let long : length out ≡ length c.args.out.now = c.loop-k.auto.out in
    let low : k < c.args.count = omega (arith, c.loop-k-test.true) in
    let near : from + k * step < length numbers = pick_low from step c.args.count k (length numbers) low c.requires.within in
    let y : ℤ = get_or numbers (from + k * step) (pos 0) in
    gathered_more 8 from step k numbers _ _ _ (put_one out k _ (omega (arith, long, low, c.requires.room))) c.loop-k.invariant (byte_same y (c.requires.fit.pixels (from + k * step) (pos 0) near))
