-- How many bytes the band has.
use Rattle.std.proofs.Common.{◌≡◌, ℕ, suc, ◌+◌, ◌-◌, ◌*◌, ◌^◌, ◌<◌, ◌≤◌, ap, ◌∙◌, arith}
use Rattle.std.proofs.Math.Nat.{mul-le-mul, suc-mul}

-- the slots but one, and the tile of one, are no more than all slots
pub room_left : (W S band : ℕ) → 1 ≤ W → band ≤ (2 * W - 1) * S + 65536 → S + band ≤ 2 * W * S + 65536
room_left W S band some fits =
    let more : 2 * W ≡ suc (2 * W - 1) = omega (arith, some) in
    let all : 2 * W * S ≡ (2 * W - 1) * S + S = ap (λ m. m * S) more ∙ suc-mul (2 * W - 1) S in
    omega (arith, all, fits)

pub slots_small : (W n : ℕ) → W ≤ 64 → n < 2 ^ 32 → (2 * W - 1) * (16 * n + 64) ≤ 127 * (16 * 2 ^ 32 + 64)
slots_small W n few small =
    let slots : 2 * W - 1 ≤ 127 = omega (arith, few) in
    let bytes : 16 * n + 64 ≤ 16 * 2 ^ 32 + 64 = omega (arith, small) in
    mul-le-mul slots bytes
