-- The widths of the code, and numbers as residues.
use Rattle.std.specs.Prelude.{◌≡◌, ℕ, ◌-◌, ◌%◌, ◌^◌, ◌⊎◌, ℤ, pos, negsuc}
pub use Rattle.fz_bits.specs.Numbers.{IsNumber}

-- the widths of the code
abbrev pub IsWidth : ℕ → Type 0
IsWidth w = (w ≡ 8) ⊎ ((w ≡ 16) ⊎ (w ≡ 32))

-- a number modulo 2 ^ w, as a natural number: its last w bits
abbrev pub residue : ℕ → ℤ → ℕ
residue w (pos n) = n % 2 ^ w
residue w (negsuc n) = 2 ^ w - 1 - n % 2 ^ w
