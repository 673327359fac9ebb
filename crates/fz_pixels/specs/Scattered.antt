-- Tiles that are written to their places in an image, and their picks in what is cut out of it (FITS 4.0, sections 3.3.2 and 10.1).
use Rattle.std.specs.Prelude.{ℕ, ◌+◌, ◌*◌, ◌/◌, ◌^◌, ◌<◌, Bool, IsTrue, ℤ, List, [], ◌∷◌, Option}
use Rattle.fz_grid.specs.Arrays.{product}
use Rattle.fz_grid.specs.Division.{tile_places}
use Rattle.fz_grid.specs.Overlap.{has_pixel}
use Rattle.fz_grid.specs.Region.{IsDivided, lengths_of}
use Rattle.fz_grid.specs.Sieve.{IsSieveOf, sieve_lengths}
use Rattle.fz_grid.specs.declared.sieve.Sieve.{Sieve}
use Rattle.fz_grid.specs.Cutout.{numbers_at, part_lengths, picks_in_cutout, picks_in_tile}
use Rattle.fz_tile.specs.Pixels.{IsBitpix}
use Rattle.fz_tile.specs.Plain.{plain_bytes}
use Rattle.fz_head.specs.declared.plan.Plan.{Plan}
use Rattle.fz_files.specs.Packed.{pixel_bits, tiles_in}
use Rattle.fz_pixels.specs.Pieces.{pieces_written}

-- contents after the pixels of tile t are written to their places in an image, whose data begin at this byte
abbrev pub tile_written : Plan → ℕ → ℕ → List ℤ → Option (List ℕ) → Option (List ℕ)
tile_written p at t pixels contents =
    pieces_written (pixel_bits p / 8) at (tile_places (lengths_of p.shape) (lengths_of p.tile) t) (plain_bytes (pixel_bits p) pixels) contents

-- after those of tiles, one after another
abbrev pub tiles_written : Plan → ℕ → List ℕ → List (List ℤ) → Option (List ℕ) → Option (List ℕ)
tiles_written p at [] pixels contents = contents
tiles_written p at (t ∷ ts) [] contents = contents
tiles_written p at (t ∷ ts) (xs ∷ pixels) contents = tiles_written p at ts pixels (tile_written p at t xs contents)

-- after the picks of tile t are written to their places in what a sieve cuts out of the image
abbrev pub part_written : Plan → Sieve → ℕ → ℕ → List ℤ → Option (List ℕ) → Option (List ℕ)
part_written p sieve at t pixels contents =
    pieces_written (pixel_bits p / 8) at (picks_in_cutout (lengths_of p.shape) (lengths_of p.tile) sieve t)
    (plain_bytes (pixel_bits p) (numbers_at pixels (picks_in_tile (lengths_of p.shape) (lengths_of p.tile) sieve t))) contents

-- after the picks of tiles, one after another
abbrev pub parts_written : Plan → Sieve → ℕ → List ℕ → List (List ℤ) → Option (List ℕ) → Option (List ℕ)
parts_written p sieve at [] pixels contents = contents
parts_written p sieve at (t ∷ ts) [] contents = contents
parts_written p sieve at (t ∷ ts) (xs ∷ pixels) contents = parts_written p sieve at ts pixels (part_written p sieve at t xs contents)

-- Tile t of an image can be written to its place in a sink that was created or not: the data of the image begin at this byte after byte 0.
pub record CanBeScattered (made : Bool) (p : Plan) (at t : ℕ) : Type 0 where
  pub created : IsTrue made
  pub behind : 0 < at
  pub near : at + pixel_bits p / 8 * product (lengths_of p.shape) < 2 ^ 64
  pub divided : IsDivided p.shape p.tile
  pub size : IsBitpix p.bitpix
  pub known : t < tiles_in p

-- So can its picks, of which there is one, in what a sieve cuts out of the image.
pub record CanBePicked (made : Bool) (p : Plan) (sieve : Sieve) (at t : ℕ) : Type 0 where
  pub created : IsTrue made
  pub behind : 0 < at
  pub near : at + pixel_bits p / 8 * product (sieve_lengths sieve) < 2 ^ 64
  pub divided : IsDivided p.shape p.tile
  pub size : IsBitpix p.bitpix
  pub sifts : IsSieveOf p.shape sieve
  pub known : t < tiles_in p
  pub picked : IsTrue (has_pixel (part_lengths (lengths_of p.shape) (lengths_of p.tile) sieve t))
