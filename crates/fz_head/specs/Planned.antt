-- How an image is packed: what its header and the options say (FITS 4.0, sections 10.1 and 10.4).
use Rattle.std.specs.Prelude.{ℕ, pos, ◌*◌, ◌/◌, ◌<◌, ◌≤◌, slice_index, Bool, min, nat_lt, ℤ, List}
use Rattle.std.specs.Prelude.{[], ◌∷◌, take, Option, Some, None, unsigned_abs, if◌then◌else◌}
use Rattle.std.specs.Ordering.{int_eq}
use Rattle.fz_block.specs.declared.axes.Axes.{Axes}
use Rattle.fz_block.specs.declared.header.Header.{Header}
use Rattle.fz_block.specs.Facts.{nine_axes}
use Rattle.fz_grid.specs.Arrays.{product}
use Rattle.fz_grid.specs.Region.{lengths_of}
use Rattle.fz_tile.specs.declared.codec.Codec.{Codec}
use Rattle.fz_tile.specs.declared.codec.Codec.TheVariants as codec
use Rattle.fz_head.specs.declared.options.CodecWord.{CodecWord}
use Rattle.fz_head.specs.declared.options.CodecWord.TheVariants as word
use Rattle.fz_head.specs.declared.options.PackOptions.{PackOptions}
use Rattle.fz_head.specs.declared.plan.Plan.{Plan}
use Rattle.fz_head.specs.Packable.{is_primary}

-- the bytes of a pixel
abbrev pub pixel_len : ℤ → ℕ
pixel_len bitpix = unsigned_abs bitpix / 8

-- the codec that a word asks for: a Rice code has numbers as long as a pixel
abbrev pub asked_codec : CodecWord → ℕ → ℤ → Codec
asked_codec word.Rice block bitpix = codec.Rice block (pixel_len bitpix)
asked_codec word.Plio block bitpix = codec.Plio
asked_codec word.None block bitpix = codec.Plain

-- pixels of 64 bits are stored, whatever the word
abbrev pub codec_for : PackOptions → ℤ → Codec
codec_for o bitpix = if int_eq bitpix (pos 64) then codec.Plain else asked_codec o.codec o.block bitpix

-- the tile that is asked for, cut to the axes; 1 along axes that are not named
abbrev pub cut_tile : List ℕ → List ℕ → List ℕ
cut_tile [] asked = []
cut_tile (n ∷ ns) [] = 1 ∷ cut_tile ns []
cut_tile (n ∷ ns) (t ∷ ts) = min t n ∷ cut_tile ns ts

-- the lengths that the options ask for: without any, one row of axis 1
abbrev pub asked_tile : Option Axes → List ℕ → List ℕ
asked_tile None lengths = take 1 lengths
asked_tile (Some axes) lengths = lengths_of axes

-- the plain bytes of an image pass 31 bits, so that its descriptors have 64
abbrev pub is_wide : ℤ → List ℕ → Bool
is_wide bitpix lengths = nat_lt 2147483647 (pixel_len bitpix * product lengths)

-- the plan for an image with a header of these facts
unfoldable pub pack_plan_of : PackOptions → Header → Plan
pack_plan_of o h = record {
  codec = codec_for o h.bitpix;
  bitpix = h.bitpix;
  shape = h.axes;
  tile = nine_axes (cut_tile (lengths_of h.axes) (asked_tile o.tile (lengths_of h.axes)));
  primary = is_primary h.sort;
  wide = is_wide h.bitpix (lengths_of h.axes);
}

-- options that a call takes: BLOCKSIZE is 1 to 32767, and a tile has 1 to 9 lengths of at least 1
abbrev pub IsTile : Option Axes → Type 0
IsTile None = Unit {0}
IsTile (Some axes) = (1 ≤ axes.n) × (axes.n ≤ 9) × ((i : ℕ) → i < axes.n → 1 ≤ slice_index axes.len i)

pub record AreOptions (o : PackOptions) : Type 0 where
  pub low : 1 ≤ o.block
  pub high : o.block ≤ 32767
  pub tile : IsTile o.tile
