-- What the definitions of scattered tiles promise (FITS 4.0, sections 3.3.2 and 10.1).
use Rattle.std.specs.Prelude.{ℕ, ◌≡◌, ℤ, List, ◌++◌, length, map, Option}
use Rattle.std.specs.List.{range_with_len}
use Rattle.fz_base.specs.Sink.{written}
use Rattle.fz_grid.specs.Region.{IsDivided, lengths_of}
use Rattle.fz_grid.specs.Arrays.{NumberArray, IsArray}
use Rattle.fz_grid.specs.Grid.{tile}
use Rattle.fz_grid.specs.Whole.{AreTiles, joined}
use Rattle.fz_grid.specs.declared.sieve.Sieve.{Sieve}
use Rattle.fz_grid.specs.Cutout.{Sifts, picked_numbers}
use Rattle.fz_tile.specs.Pixels.{IsBitpix}
use Rattle.fz_tile.specs.Plain.{plain_bytes}
use Rattle.fz_head.specs.declared.plan.Plan.{Plan}
use Rattle.fz_files.specs.FirstFault.{picked_tiles_of}
use Rattle.fz_files.specs.Packed.{pixel_bits, tiles_in}
use Rattle.fz_pixels.specs.Scattered.{parts_written, tiles_written}

-- the tiles of rounds, one after another
abbrev pub JoinsRounds : Type 0
JoinsRounds =
    (p : Plan) (at : ℕ) (front back : List ℕ) (xs ys : List (List ℤ)) (contents : Option (List ℕ)) → length xs ≡ length front
    → tiles_written p at (front ++ back) (xs ++ ys) contents ≡ tiles_written p at back ys (tiles_written p at front xs contents)

abbrev pub JoinsRoundsOfParts : Type 0
JoinsRoundsOfParts =
    (p : Plan) (sieve : Sieve) (at : ℕ) (front back : List ℕ) (xs ys : List (List ℤ)) (contents : Option (List ℕ)) → length xs ≡ length front
    → parts_written p sieve at (front ++ back) (xs ++ ys) contents ≡ parts_written p sieve at back ys (parts_written p sieve at front xs contents)

-- all tiles of an image, each at its places, are the bytes of the image in one piece
abbrev pub TilesMakeTheBytes : Type 0
TilesMakeTheBytes =
    (p : Plan) (at : ℕ) (pixels : List (List ℤ)) (contents : Option (List ℕ)) → IsDivided p.shape p.tile → IsBitpix p.bitpix
    → AreTiles (lengths_of p.shape) (lengths_of p.tile) pixels
    → tiles_written p at (range_with_len 0 (tiles_in p)) pixels contents
    ≡ written at (plain_bytes (pixel_bits p) (joined (lengths_of p.shape) (lengths_of p.tile) pixels).numbers) contents

-- the picks of all tiles that hold one, each at its place, are the bytes of the cutout in one piece
abbrev pub PartsMakeTheBytes : Type 0
PartsMakeTheBytes =
    (p : Plan) (sieve : Sieve) (at : ℕ) (a : NumberArray) (contents : Option (List ℕ)) → IsDivided p.shape p.tile → IsBitpix p.bitpix
    → Sifts (lengths_of p.shape) sieve → IsArray a → a.lengths ≡ lengths_of p.shape
    → parts_written p sieve at (picked_tiles_of p sieve) (map (tile a (lengths_of p.tile)) (picked_tiles_of p sieve)) contents
    ≡ written at (plain_bytes (pixel_bits p) (picked_numbers a sieve)) contents
