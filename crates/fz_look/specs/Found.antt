-- What the look found, before its block is with it.
use Rattle.std.specs.Prelude.{ℕ, ◌≡◌, ◌+◌, ◌*◌, ◌≤◌, List, length, Result, Ok, Err}
use Rattle.fz_look.specs.Looked.{IsSoundLook}
use Rattle.fz_look.specs.declared.whole_look.Found.{Found}
use Rattle.fz_look.specs.declared.looked.Looked.{Looked}

-- what was learnt, with the block
abbrev pub looked_with : Found → List ℕ → Looked
looked_with f block = record {
  plain_len = f.seen.plain_len;
  survey = f.survey;
  first = f.seen.first;
  space = record { block = block; header = f.header; translated = f.translated; numbers = f.numbers; code = f.code; band = f.band };
}

-- what was learnt is sound with every block
abbrev pub IsSoundFound : ℕ → Found → Type 0
IsSoundFound length_is f = (block : List ℕ) → length block ≡ 2880 → IsSoundLook length_is (looked_with f block)

-- the bytes of its buffers
abbrev pub found_bytes : Found → ℕ
found_bytes f = length f.header + length f.translated + 4 * length f.numbers + length f.code + length f.band

-- what is live for them after it, or nothing
abbrev pub found_after : {E : Type 0} → Result Found E → ℕ
found_after (Ok f) = found_bytes f
found_after (Err e) = 0

-- the buffers serve headers of so many bytes and tiles of so many pixels, and have room for one pixel
pub record HasFoundRoom (header_len tile : ℕ) (f : Found) : Type 0 where
  pub header : length f.header ≡ header_len
  pub translated : length f.translated ≡ header_len + 2880
  pub numbers : length f.numbers ≡ 2 * tile
  pub code : length f.code ≡ 8 * tile + 64
  pub band : 8 ≤ length f.band
