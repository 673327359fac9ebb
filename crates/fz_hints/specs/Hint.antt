-- What may be printed beside a status: text that a terminal shows as it is, and not much of it.
use Rattle.std.specs.Prelude.{ℕ, ◌≡◌, ◌≤◌, ◌==◌, ◌&&◌, ◌||◌, Bool, true, not, List, Option, length, nat_le}
use Rattle.std.specs.List.{list_all}
use Rattle.fz_base.specs.Sink.{appended}

-- a byte of printed text: the end of a line, or none of the control characters of ASCII
abbrev pub is_shown : ℕ → Bool
is_shown b = (b == 10) || (nat_le 32 b && not (b == 127))

-- the bytes of a hint
pub record IsHint (bytes : List ℕ) : Type 0 where
  pub shown : list_all is_shown bytes ≡ true
  pub short : length bytes ≤ 4096

-- a hint was printed at the end of a text, whole or cut short
abbrev pub Says : Option (List ℕ) → Option (List ℕ) → Type 0
Says old new = (bytes : List ℕ) × (new ≡ appended bytes old) × IsHint bytes
