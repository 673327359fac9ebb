-- Pixels that are put to their places, one after another, until all of them are those of a whole (FITS 4.0, section 3.3.2). A pixel takes
-- one place, or two.
use Rattle.std.specs.Prelude.{ℕ, ◌≡◌, ◌⊎◌, ◌*◌, ◌<◌, ℤ, List, Contains, length, take, drop, slice_index}

-- the places of pixel i, of so many places each
abbrev pub pixel_in : ℕ → List ℤ → ℕ → List ℤ
pixel_in w numbers i = take w (drop (w * i) numbers)

-- at these places a whole has the pixels that others have at those
abbrev pub HasPixelsOf : ℕ → List ℤ → List ℕ → List ℤ → List ℕ → Type 0
HasPixelsOf w whole places numbers others = (k : ℕ) → k < length places → pixel_in w whole (slice_index places k) ≡ pixel_in w numbers (slice_index others k)

-- each pixel is as it was, or as it is in the whole; those at these places are as in the whole
pub record IsNearer (w : ℕ) (whole before now : List ℤ) (places : List ℕ) : Type 0 where
  pub each : (i : ℕ) → (pixel_in w now i ≡ pixel_in w before i) ⊎ (pixel_in w now i ≡ pixel_in w whole i)
  pub there : (i : ℕ) → Contains places i → pixel_in w now i ≡ pixel_in w whole i
