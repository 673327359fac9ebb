-- The 16-bit big-endian words of a line list (FITS 4.0, section 10.4.3).
use Rattle.std.specs.Prelude.{ℕ, ◌+◌, ◌*◌, ◌/◌, ◌%◌, List, [], ◌∷◌}

-- the words that are in a list of bytes; a last odd byte is none
unfoldable pub words : List ℕ → List ℕ
words [] = []
words (high ∷ []) = []
words (high ∷ low ∷ bytes) = (256 * high + low) ∷ words bytes

-- the bytes of a list of words
unfoldable pub word_bytes : List ℕ → List ℕ
word_bytes [] = []
word_bytes (word ∷ rest) = (word / 256) ∷ (word % 256) ∷ word_bytes rest
