-- What the headers of packed images say of the options by which they were packed, one image after another.
use Rattle.std.specs.Prelude.{ℕ, zero, suc, pos, ◌≡◌, ◌<◌, ◌≤◌, max, nat_lt, Bool, true, false, is_some, List, [], ◌∷◌}
use Rattle.std.specs.Prelude.{map, length, slice_index, Option, Some, None, IfSome, Result, Ok, Err, if◌then◌else◌, ⊤}
use Rattle.std.specs.List.{filter}
use Rattle.std.specs.Ordering.{int_eq}
use Rattle.fz_base.specs.declared.failure.Stop.{Stop}
use Rattle.fz_base.specs.declared.failure.Stop.TheVariants.{Refused, ReadFault, WriteFault, OverLimit, NoMemory}
use Rattle.fz_block.specs.declared.axes.Axes.{Axes}
use Rattle.fz_block.specs.declared.header.Header.{Header}
use Rattle.fz_job.specs.Known.{IsList}
use Rattle.fz_files.specs.Restored.{is_image}
use Rattle.fz_tile.specs.Codecs.{ReadsCodes}
use Rattle.fz_tile.specs.declared.codec.Codec.{Codec}
use Rattle.fz_tile.specs.declared.codec.Codec.TheVariants.{Rice}
use Rattle.fz_head.specs.Planned.{IsTile}
use Rattle.fz_checks.specs.declared.job_checks.PackedImage.{PackedImage}
use Rattle.fz_head.specs.declared.options.PackOptions.{PackOptions}
use Rattle.fz_head.specs.declared.plan.Plan.{Plan}
use Rattle.fz_job.specs.declared.survey.Survey.{Survey}
use Rattle.fz_strict.specs.FoundOptions.{block_of, has_sums, options_of, word_of}
use Rattle.fz_strict.specs.declared.options.Found.{Found}

-- no image was met
abbrev pub nothing_found : Found
nothing_found = record { codec = None; tile = None; sums = false }

-- the length of a tile along axis i, counted from 0, or 0 if it has no such axis
abbrev pub length_along : Axes → ℕ → ℕ
length_along axes i = if nat_lt i axes.n then slice_index axes.len i else 0

-- along each axis the greater length of two tiles
abbrev pub longer : Axes → Axes → ℕ → ℕ
longer a b i = max (length_along a i) (length_along b i)

abbrev pub greater_tile : Axes → Axes → Axes
greater_tile a b = record {
  n = max a.n b.n;
  len = longer a b 0 ∷ longer a b 1 ∷ longer a b 2 ∷ longer a b 3 ∷ longer a b 4 ∷ longer a b 5 ∷ longer a b 6 ∷ longer a b 7 ∷ longer a b 8 ∷ [];
}

abbrev pub greatest_tile : Option Axes → Axes → Axes
greatest_tile None tile = tile
greatest_tile (Some found) tile = greater_tile found tile

-- the codec of an image; none if its pixels are of 64 bits
abbrev pub said_codec : Plan → Option Codec
said_codec p = if int_eq p.bitpix (pos 64) then None else Some p.codec

abbrev pub or_codec : Option Codec → Option Codec → Option Codec
or_codec None other = other
or_codec (Some codec) other = Some codec

-- with an image more
abbrev pub with_image : Found → Plan → Bool → Found
with_image f p sums = record {
  codec = or_codec f.codec (said_codec p);
  tile = Some (greatest_tile f.tile p.tile);
  sums = if is_some f.tile then f.sums else sums;
}

-- with an HDU more, whose cards are these, and which has this image
abbrev pub with_cards : Found → List (List ℕ) → Option PackedImage → Found
with_cards f cards None = f
with_cards f cards (Some i) = with_image f i.plan (has_sums cards)

-- any codec does if none is said
abbrev pub codec_or_any : Option Codec → Codec
codec_or_any None = Rice 32 4
codec_or_any (Some codec) = codec

-- the options that were found
abbrev pub options_found : Found → PackOptions
options_found f = record {
  codec = word_of (codec_or_any f.codec);
  tile = f.tile;
  block = block_of (codec_or_any f.codec);
  sums = f.sums;
  workers = 1;
}

-- what is said can be asked for
pub record IsFound (f : Found) : Type 0 where
  pub codec : IfSome f.codec ReadsCodes
  pub tile : IsTile f.tile

-- the options are those of the images with these headers, and no header is refused
abbrev pub AreOptionsOf : List ℕ → List Header → Result PackOptions Stop → Type 0
AreOptionsOf file hs (Ok o) = o ≡ options_of file (filter (is_image file) hs)
AreOptionsOf file hs (Err (Refused x)) = ⊥
AreOptionsOf file hs (Err ReadFault) = ⊤
AreOptionsOf file hs (Err WriteFault) = ⊤
AreOptionsOf file hs (Err (OverLimit live asked limit)) = ⊤
AreOptionsOf file hs (Err NoMemory) = ⊤

-- of headers that were seen, which are as many, the options are found
abbrev pub FindsOptions : List ℕ → Survey → Result PackOptions Stop → Type 0
FindsOptions file survey result = (hs : List Header) → IsList file survey hs → AreOptionsOf file hs result
