-- The options that the headers of a packed file say are ones that `pack` takes.
use Rattle.std.proofs.Common.{◌≡◌, ℕ, Bool, true, false, cond, pos, List, [], ◌∷◌, length, map, if◌then◌else◌, refl, ap, arith}
use Rattle.std.specs.List.{AllByRecursion, filter}
use Rattle.std.specs.Ordering.{int_eq}
use Rattle.fz_block.specs.Hdus.{cards_of}
use Rattle.fz_block.specs.declared.header.Header.{Header}
use Rattle.fz_grid.specs.Laws.{DividedArraysHaveTiles}
use Rattle.fz_grid.specs.Region.{lengths_of}
use Rattle.fz_tile.specs.Codecs.{IsBlock, ReadsCodes}
use Rattle.fz_tile.specs.declared.codec.Codec.{Codec}
use Rattle.fz_tile.specs.declared.codec.Codec.TheVariants.{Rice, Plio, Plain}
use Rattle.fz_head.specs.PackedPlan.{plan_of_cards, said_tile}
use Rattle.fz_head.specs.Planned.{AreOptions}
use Rattle.fz_head.specs.declared.plan.Plan.{Plan}
use Rattle.fz_files.specs.Restored.{header_in, is_image, plan_in}
use Rattle.fz_files.specs.Walks.{headers_for}
use Rattle.fz_files.specs.declared.job.Job.TheVariants.{Unpack}
use Rattle.fz_strict.specs.FoundOptions.{block_of, codec_found, found_options, images_in}
use Rattle.fz_strict.specs.Laws.{FoundOptionsAreAllowed}
use Rattle.fz_strict.proofs.HeadersRead.{IsRead, PackedImages, are_read}
use Rattle.fz_strict.specs.Taken.{WalkLaws}
use Rattle.fz_strict.proofs.TilesFound.{HasShortTile, axes_again, divided_short, found_is_tile}

-- a plan whose tile and block a call takes
pub record IsUsable (p : Plan) : Type 0 where
  pub tile : HasShortTile p
  pub block : IsBlock (block_of p.codec)

read_block : (codec : Codec) → ReadsCodes codec → IsBlock (block_of codec)
read_block (Rice block bytepix) reads = reads.0
read_block Plio reads = (omega arith, omega arith)
read_block Plain reads = (omega arith, omega arith)

said_count : (cards : List (List ℕ)) → length (lengths_of (plan_of_cards cards).tile) ≡ (plan_of_cards cards).tile.n
unfolding plan_of_cards
said_count cards = ap length (axes_again (said_tile cards))

-- that of a packed image
image_usable : DividedArraysHaveTiles → (file : List ℕ) (h : Header) → IsRead file h → is_image file h ≡ true → IsUsable (plan_in file h)
image_usable tiles file h is packed =
    let image = is.image packed in
    record {
      tile = divided_short tiles (plan_in file h) (said_count (cards_of (header_in file h))) image.divided;
      block = read_block (plan_in file h).codec image.readable.codes;
    }

images_usable : DividedArraysHaveTiles → (file : List ℕ) (hs : List Header) → AllByRecursion (IsRead file) hs →
    AllByRecursion IsUsable (map (plan_in file) (filter (is_image file) hs))
images_usable tiles file [] are = tt
images_usable tiles file (h ∷ hs) are = by_test (is_image file h) refl (images_usable tiles file hs are.1)
  where
    by_test : (image : Bool) → is_image file h ≡ image → AllByRecursion IsUsable (map (plan_in file) (filter (is_image file) hs)) →
        AllByRecursion IsUsable (map (plan_in file) (cond image (h ∷ filter (is_image file) hs) (filter (is_image file) hs)))
    by_test true is rest = (image_usable tiles file h are.0 is, rest)
    by_test false is rest = rest

-- ---- what is found in plans that are

usable_tiles : (ps : List Plan) → AllByRecursion IsUsable ps → AllByRecursion HasShortTile ps
usable_tiles [] each = tt
usable_tiles (p ∷ ps) each = (each.0.tile, usable_tiles ps each.1)

usable_block : (ps : List Plan) → AllByRecursion IsUsable ps → IsBlock (block_of (codec_found ps))
usable_block [] each = (omega arith, omega arith)
usable_block (p ∷ ps) each = by_width (int_eq p.bitpix (pos 64)) each.0.block (usable_block ps each.1)
  where
    by_width : (long : Bool) → IsBlock (block_of p.codec) → IsBlock (block_of (codec_found ps)) → IsBlock (block_of (if long then codec_found ps else p.codec))
    by_width true here rest = rest
    by_width false here rest = here

-- the options that are found
usable_options : (file : List ℕ) → AllByRecursion IsUsable (map (plan_in file) (images_in file)) → AreOptions (found_options file)
unfolding found_options
usable_options file each =
    let block : IsBlock (block_of (codec_found (map (plan_in file) (images_in file)))) = usable_block (map (plan_in file) (images_in file)) each in
    record {
      low = block.0;
      high = block.1;
      tile = found_is_tile (map (plan_in file) (images_in file))
          (usable_tiles (map (plan_in file) (images_in file)) each);
    }

pub found_are_allowed : WalkLaws → DividedArraysHaveTiles → PackedImages → FoundOptionsAreAllowed
found_are_allowed w tiles images file sound = usable_options file (images_usable tiles file (headers_for Unpack file) (are_read w images file sound))
