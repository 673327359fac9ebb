-- Texts that are cut at a byte.
use Rattle.std.specs.Prelude.{ℕ, ◌==◌, Bool, List, length, Option, Some, None, nat_lt, if◌then◌else◌}
use Rattle.std.specs.List.{after_first, before_first, position_or_len, slice_split}

-- what is before the first of this byte: all, if there is none
abbrev pub before_byte : ℕ → List ℕ → List ℕ
before_byte at text = before_first (λ b. b == at) text

-- what is after the first of this byte, if there is one
abbrev pub behind_byte : ℕ → List ℕ → Option (List ℕ)
behind_byte at text =
    if nat_lt (position_or_len (λ b. b == at) text) (length text) then Some (after_first (λ b. b == at) text) else None

-- the pieces between the bytes: one more than there are of them
abbrev pub pieces : ℕ → List ℕ → List (List ℕ)
pieces at text = slice_split (λ b. b == at) text
