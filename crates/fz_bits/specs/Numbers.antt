-- Numbers of so many bits, unsigned at 8, in two's complement at 16, 32 and 64 (FITS 4.0, section 5.2).
use Rattle.std.specs.Prelude.{◌≢◌, ℕ, ◌-◌, ◌^◌, ◌<◌, ◌==◌, ℤ, pos, negsuc, if◌then◌else◌}

-- w bits hold the number
abbrev pub IsNumber : ℕ → ℤ → Type 0
IsNumber w (pos n) = n < (if w == 8 then 2 ^ w else 2 ^ (w - 1))
IsNumber w (negsuc n) = (w ≢ 8) × (n < 2 ^ (w - 1))
