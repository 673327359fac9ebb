-- The sieve of a region, and what is left of a line of it (FITS 4.0, section 3.3.2).
use Rattle.std.proofs.Common.{ℕ, ◌+◌, ◌-◌, ◌*◌, ◌≤◌, arith}
use Rattle.std.proofs.lemmas.Nat.{mul-le}
use Rattle.std.proofs.Math.Nat.{mul-add}

-- ---- bytes

pub room_bytes : (w p k most : ℕ) → p + k ≤ most → w * p + w * k ≤ w * most
room_bytes w p k most room =
    let all : w * (p + k) ≤ w * most = mul-le w (p + k) w most (omega arith) room in
    omega (arith, all, mul-add w p k)
