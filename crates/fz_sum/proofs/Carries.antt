-- Totals in 32 bits, with each carry added again.
use Rattle.std.proofs.Common.{◌≡◌, ℕ, zero, suc, ◌+◌, ◌-◌, ◌*◌, ◌/◌, ◌%◌, ◌^◌, ◌<◌, sym, refl, ap, ◌∙◌, arith}
use Rattle.std.proofs.lemmas.Bool.Decides.{nat_tests}
use Rattle.std.proofs.Math.Nat.{mul-add-mod_self_left, mod-eq_of_lt, div-add-mod}
use Rattle.fz_sum.specs.Sums.{carried}

pub carried-zero : carried 0 ≡ 0
unfolding carried
carried-zero = refl

pub carried-some : (t : ℕ) → 0 < t → carried t ≡ (t - 1) % (2 ^ 32 - 1) + 1
unfolding carried
carried-some t some = grind (arith, nat_tests)

-- what fits stays
pub carried-small : (t : ℕ) → t < 2 ^ 32 → carried t ≡ t
carried-small zero small = carried-zero
carried-small (suc t) small =
    let lt : suc t - 1 < 2 ^ 32 - 1 = omega arith in
    carried-some (suc t) (omega arith) ∙ (ap (λ (n : ℕ). n + 1) (mod-eq_of_lt lt) ∙ omega arith)

-- so many times all ones more change nothing, above 0
pub carried-more : (k t : ℕ) → 0 < t → carried ((2 ^ 32 - 1) * k + t) ≡ carried t
carried-more k t some =
    let e : (2 ^ 32 - 1) * k + t - 1 ≡ (2 ^ 32 - 1) * k + (t - 1) = omega arith in
    carried-some ((2 ^ 32 - 1) * k + t) (omega arith) ∙ (rw (e, mul-add-mod_self_left (2 ^ 32 - 1) k (t - 1)) (sym (carried-some t some)))

-- the carry is added once
pub carried-fold : (t : ℕ) → 0 < t → carried (t / 2 ^ 32 + t % 2 ^ 32) ≡ carried t
carried-fold t some =
    let split = div-add-mod t (2 ^ 32) in
    let e : (2 ^ 32 - 1) * (t / 2 ^ 32) + (t / 2 ^ 32 + t % 2 ^ 32) ≡ t = omega arith in
    let above : 0 < t / 2 ^ 32 + t % 2 ^ 32 = omega arith in
    sym (carried-more (t / 2 ^ 32) (t / 2 ^ 32 + t % 2 ^ 32) above) ∙ ap carried e

pub carried-lt : (t : ℕ) → carried t < 2 ^ 32
unfolding carried
carried-lt t = grind (arith, nat_tests)

-- what a sum lacks to all ones brings its total there
pub carried-complement : (t : ℕ) → 0 < t → carried (t + (2 ^ 32 - 1 - carried t)) ≡ 2 ^ 32 - 1
carried-complement t some =
    let q = (t - 1) / (2 ^ 32 - 1) in
    let split = div-add-mod (t - 1) (2 ^ 32 - 1) in
    let is = carried-some t some in
    let e : t + (2 ^ 32 - 1 - carried t) ≡ (2 ^ 32 - 1) * q + (2 ^ 32 - 1) = omega (arith, split, is) in
    ap carried e ∙ (carried-more q (2 ^ 32 - 1) (omega arith) ∙ carried-small (2 ^ 32 - 1) (omega arith))
