-- Strips of an image that were read before they are wanted: parts of the file of one length, which begin at equal distances (FITS 4.0,
-- section 3.3.2).
use Rattle.std.specs.Prelude.{ℕ, ◌≡◌, ◌+◌, ◌-◌, ◌*◌, ◌^◌, ◌<◌, ◌≤◌, List, length, take, drop, Option, IfSome}
use Rattle.fz_image.specs.Layout.{pixel_bytes_of}
use Rattle.fz_image.specs.declared.layout.Layout.{Layout}
use Rattle.fz_image.specs.declared.strips.Strips.{Strips}

-- none
abbrev pub no_strips : Strips
no_strips = record { at = 0; apart = 0; len = 0; count = 0 }

-- the byte of the file at which strip i begins
abbrev pub strip_at : Strips → ℕ → ℕ
strip_at s i = s.at + s.apart * i

-- these bytes begin with the strips, one after another
pub record HasStrips (held : Option (List ℕ)) (s : Strips) (bytes : List ℕ) : Type 0 where
  pub room : s.len * s.count ≤ length bytes
  pub told : IfSome held (λ file. (i : ℕ) → i < s.count → take s.len (drop (s.len * i) bytes) ≡ take s.len (drop (strip_at s i) file))

-- the strips have bytes, all of them of the image, and together at most so many: fewer than 2^64
pub record AreOfImage (l : Layout) (room : ℕ) (s : Strips) : Type 0 where
  pub some : 0 < s.len
  pub low : l.pixels_at ≤ s.at
  pub high : (i : ℕ) → i < s.count → strip_at s i + s.len ≤ l.pixels_at + pixel_bytes_of l
  pub room_is : s.len * s.count ≤ room
  pub near : s.len * s.count < 2 ^ 64

-- so many bytes of the file, from this one on, are in strip i, and begin at this place among the bytes of all strips
pub record IsInStrip (s : Strips) (i from count place : ℕ) : Type 0 where
  pub here : i < s.count
  pub low : strip_at s i ≤ from
  pub high : from + count ≤ strip_at s i + s.len
  pub place_is : place ≡ s.len * i + (from - strip_at s i)
