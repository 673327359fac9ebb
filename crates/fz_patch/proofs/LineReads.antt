-- Where a piece of a line is read from, and where it goes (FITS 4.0, sections 3.3.2 and 5.2).
use Rattle.std.proofs.Common.{ℕ, ◌+◌, ◌-◌, ◌*◌, ◌≤◌, arith}
use Rattle.std.proofs.Math.Nat.{mul-add, mul-le-mul_left}

-- a piece is within what is attached
pub piece_within : (w at from count total n : ℕ) → from + count ≤ total → at + w * total ≤ n → at + w * from + w * count ≤ n
piece_within w at from count total n less within =
    let most : w * (from + count) ≤ w * total = mul-le-mul_left w less in
    omega (arith, most, mul-add w from count, within)
