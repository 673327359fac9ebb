-- Which codec may be beside which BITPIX (FITS 4.0, sections 10.1.3 and 10.4): pixels of 64 bits are only stored.
use Rattle.std.specs.Prelude.{◌≡◌, ℕ, ◌/◌, ◌≤◌, ◌⊎◌, ⊤, ℤ, pos, unsigned_abs}
use Rattle.fz_tile.specs.declared.codec.Codec.{Codec}
use Rattle.fz_tile.specs.declared.codec.Codec.TheVariants.{Rice, Plio, Plain}
use Rattle.fz_tile.specs.Pixels.{IsBitpix}

-- BLOCKSIZE of a Rice code
abbrev pub IsBlock : ℕ → Type 0
IsBlock block = (1 ≤ block) × (block ≤ 32767)

-- a reader takes each BLOCKSIZE, and BYTEPIX 1, 2 and 4
abbrev pub ReadsCodes : Codec → Type 0
ReadsCodes (Rice block bytepix) = IsBlock block × ((bytepix ≡ 1) ⊎ ((bytepix ≡ 2) ⊎ (bytepix ≡ 4)))
ReadsCodes Plio = ⊤
ReadsCodes Plain = ⊤

-- a writer's BYTEPIX is the bytes of a pixel
abbrev pub WritesCodes : Codec → ℕ → Type 0
WritesCodes (Rice block bytepix) bitpix = IsBlock block × (bytepix ≡ bitpix / 8)
WritesCodes Plio bitpix = ⊤
WritesCodes Plain bitpix = ⊤

-- tiles of such pixels can be read by the codec
pub record CanRead (codec : Codec) (bitpix : ℤ) : Type 0 where
  pub size : IsBitpix bitpix
  pub plain : bitpix ≡ pos 64 → codec ≡ Plain
  pub codes : ReadsCodes codec

-- tiles of such pixels can be written by the codec
pub record CanWrite (codec : Codec) (bitpix : ℤ) : Type 0 where
  pub size : IsBitpix bitpix
  pub plain : bitpix ≡ pos 64 → codec ≡ Plain
  pub codes : WritesCodes codec (unsigned_abs bitpix)
