-- The options that a packed file was written by, if it is strict: as its headers say them (FITS 4.0, sections 4.4.2.7, 10.1.1, 10.1.2 and
-- 10.4).
use Rattle.std.specs.Prelude.{ℕ, pos, ◌==◌, ◌&&◌, Bool, true, false, max, bytes_eq, List, [], ◌∷◌, map, codes, Option, Some, None, if◌then◌else◌}
use Rattle.std.specs.List.{filter, list_all, list_any}
use Rattle.std.specs.Ordering.{int_eq}
use Rattle.fz_block.specs.Cards.{is_named}
use Rattle.fz_block.specs.Facts.{nine_axes}
use Rattle.fz_block.specs.Hdus.{cards_of}
use Rattle.fz_block.specs.declared.axes.Axes.{Axes}
use Rattle.fz_block.specs.declared.header.Header.{Header}
use Rattle.fz_grid.specs.Region.{lengths_of}
use Rattle.fz_tile.specs.declared.codec.Codec.{Codec}
use Rattle.fz_tile.specs.declared.codec.Codec.TheVariants.{Rice, Plio, Plain}
use Rattle.fz_head.specs.Planned.{asked_tile, codec_for, cut_tile}
use Rattle.fz_head.specs.declared.options.CodecWord.{CodecWord}
use Rattle.fz_head.specs.declared.options.CodecWord.TheVariants as word
use Rattle.fz_head.specs.declared.options.PackOptions.{PackOptions}
use Rattle.fz_head.specs.declared.plan.Plan.{Plan}
use Rattle.fz_files.specs.Restored.{header_in, is_image, plan_in}
use Rattle.fz_files.specs.Walks.{headers_for}
use Rattle.fz_files.specs.declared.job.Job.TheVariants.{Unpack}

-- the headers of the packed images of a file, in their order
abbrev pub images_in : List ℕ → List Header
images_in file = filter (is_image file) (headers_for Unpack file)

-- ---- the codec

-- the word for a codec, and the numbers in a block of it; any number does for a codec that has no blocks
abbrev pub word_of : Codec → CodecWord
word_of (Rice block bytepix) = word.Rice
word_of Plio = word.Plio
word_of Plain = word.None

abbrev pub block_of : Codec → ℕ
block_of (Rice block bytepix) = block
block_of Plio = 32
block_of Plain = 32

-- the codec of the first image whose pixels are not of 64 bits, which are stored by any options; any codec does if there is none
abbrev pub codec_found : List Plan → Codec
codec_found [] = Rice 32 4
codec_found (p ∷ ps) = if int_eq p.bitpix (pos 64) then codec_found ps else p.codec

-- ---- the tile

-- the greater length along each axis that one of two tiles has
abbrev pub wider : List ℕ → List ℕ → List ℕ
wider [] ns = ns
wider (m ∷ ms) [] = m ∷ ms
wider (m ∷ ms) (n ∷ ns) = max m n ∷ wider ms ns

-- the greatest length of a tile along each axis, of the images that have the axis; a tile is no longer than its image
abbrev pub widest : List Plan → List ℕ
widest [] = []
widest (p ∷ ps) = wider (lengths_of p.tile) (widest ps)

-- the tile that is asked for; none if there is no image
abbrev pub tile_found : List Plan → Option Axes
tile_found [] = None
tile_found (p ∷ ps) = Some (nine_axes (widest (p ∷ ps)))

-- ---- the sums

-- a header has both cards of sums
abbrev pub has_sums : List (List ℕ) → Bool
has_sums cards = list_any (is_named (codes "DATASUM")) cards && list_any (is_named (codes "CHECKSUM")) cards

abbrev pub sums_in : List ℕ → Header → Bool
sums_in file h = has_sums (cards_of (header_in file h))

-- the first image has them; no sums are asked for if there is none
abbrev pub sums_found : List ℕ → List Header → Bool
sums_found file [] = false
sums_found file (h ∷ hs) = sums_in file h

-- ---- all of them

-- the options of images with these headers
abbrev pub options_of : List ℕ → List Header → PackOptions
options_of file hs =
    let plans = map (plan_in file) hs in
    record {
      codec = word_of (codec_found plans);
      tile = tile_found plans;
      block = block_of (codec_found plans);
      sums = sums_found file hs;
      workers = 1;
    }

unfoldable pub found_options : List ℕ → PackOptions
found_options file = options_of file (images_in file)

-- ---- whether all images have them

-- two codecs are the same
abbrev pub is_same_codec : Codec → Codec → Bool
is_same_codec (Rice block bytepix) (Rice other long) = (block == other) && (bytepix == long)
is_same_codec (Rice block bytepix) Plio = false
is_same_codec (Rice block bytepix) Plain = false
is_same_codec Plio (Rice other long) = false
is_same_codec Plio Plio = true
is_same_codec Plio Plain = false
is_same_codec Plain (Rice other long) = false
is_same_codec Plain Plio = false
is_same_codec Plain Plain = true

abbrev pub is_same_flag : Bool → Bool → Bool
is_same_flag true b = b
is_same_flag false true = false
is_same_flag false false = true

-- the image of a plan has the codec and the tile that the options ask for it
abbrev pub is_plan_by : PackOptions → Plan → Bool
is_plan_by o p =
    is_same_codec p.codec (codec_for o p.bitpix)
    && bytes_eq (lengths_of p.tile) (cut_tile (lengths_of p.shape) (asked_tile o.tile (lengths_of p.shape)))

-- so has the one with this header, and sums if they ask for sums
abbrev pub is_image_by : PackOptions → List ℕ → Header → Bool
is_image_by o file h = is_plan_by o (plan_in file h) && is_same_flag (sums_in file h) o.sums

-- all images of a file have the codec, the tile and the sums of one list of options
unfoldable pub images_agree : List ℕ → Bool
images_agree file = list_all (is_image_by (found_options file) file) (images_in file)
