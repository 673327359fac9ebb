-- The bytes of pixels are at most 8 for each.
use Rattle.std.proofs.Common.{◌≡◌, ℕ, ◌*◌, ◌/◌, ◌≤◌, inl, inr, ℤ, unsigned_abs, sym, subst, arith}
use Rattle.std.proofs.lemmas.Nat.{mul-le}
use Rattle.fz_tile.specs.Pixels.{IsBitpix}

few_bytes : (b : ℤ) → IsBitpix b → unsigned_abs b / 8 ≤ 8
few_bytes b (inl is) = subst (λ z. unsigned_abs z / 8 ≤ 8) (sym is) (omega arith)
few_bytes b (inr (inl is)) = subst (λ z. unsigned_abs z / 8 ≤ 8) (sym is) (omega arith)
few_bytes b (inr (inr (inl is))) = subst (λ z. unsigned_abs z / 8 ≤ 8) (sym is) (omega arith)
few_bytes b (inr (inr (inr is))) = subst (λ z. unsigned_abs z / 8 ≤ 8) (sym is) (omega arith)

pub pixel_room : (b : ℤ) (pixels most room : ℕ) → IsBitpix b → pixels ≤ most → 8 * most ≤ room → unsigned_abs b / 8 * pixels ≤ room
pixel_room b pixels most room size fits few =
    let here : unsigned_abs b / 8 * pixels ≤ 8 * most = mul-le (unsigned_abs b / 8) pixels 8 most (few_bytes b size) fits in
    omega (arith, here, few)
