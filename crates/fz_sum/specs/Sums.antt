-- The ones' complement sum of bytes (FITS 4.0, section 4.4.2.7 and appendix J).
use Rattle.std.specs.Prelude.{ℕ, ◌+◌, ◌-◌, ◌*◌, ◌%◌, ◌^◌, ◌==◌, if◌then◌else◌, List, [], ◌∷◌}

-- a word of 32 bits, from its four bytes, the most significant first
abbrev pub word : ℕ → ℕ → ℕ → ℕ → ℕ
word a b c d = 256 ^ 3 * a + 256 ^ 2 * b + 256 * c + d

-- the total of the words of these bytes; the last word is filled up with zeros
unfoldable pub word_total : List ℕ → ℕ
word_total [] = 0
word_total (a ∷ []) = word a 0 0 0
word_total (a ∷ b ∷ []) = word a b 0 0
word_total (a ∷ b ∷ c ∷ []) = word a b c 0
word_total (a ∷ b ∷ c ∷ d ∷ rest) = word a b c d + word_total rest

-- the total in 32 bits: each carry out of them is added to them again, so a total above 0 is reduced to 1 .. 2 ^ 32 - 1
unfoldable pub carried : ℕ → ℕ
carried total = if total == 0 then 0 else (total - 1) % (2 ^ 32 - 1) + 1

-- the ones' complement sum of these bytes
unfoldable pub ones_sum : List ℕ → ℕ
ones_sum bytes = carried (word_total bytes)
