-- The packed file of a file: each image that can be packed becomes the table of its tiles, and every other HDU stays as it is (FITS 4.0,
-- sections 7.3.5, 10.1 and 10.1.3).
use Rattle.std.specs.Prelude.{ℕ, zero, suc, ◌≡◌, ◌+◌, ◌-◌, ◌/◌, Bool, true, false, List, [], ◌∷◌}
use Rattle.std.specs.Prelude.{◌++◌, length, map, replicate, unsigned_abs, codes, if◌then◌else◌}
use Rattle.std.specs.List.{flat_map, range_with_len}
use Rattle.fz_block.specs.Facts.{facts_of}
use Rattle.fz_block.specs.Hdus.{Hdu, AreHdusOf, hdu_bytes, cards_of, header_bytes}
use Rattle.fz_block.specs.Header.{whole_blocks_of}
use Rattle.fz_grid.specs.Arrays.{NumberArray, product}
use Rattle.fz_grid.specs.Grid.{tile, tile_count}
use Rattle.fz_grid.specs.Region.{lengths_of}
use Rattle.fz_sum.specs.Cards.{datasum_card, checksum_card, blank_checksum_card}
use Rattle.fz_sum.specs.Sums.{ones_sum}
use Rattle.fz_table.specs.Rows.{packed_row}
use Rattle.fz_table.specs.declared.array.Descriptor.{Descriptor}
use Rattle.fz_tile.specs.Plain.{stored_pixels}
use Rattle.fz_tile.specs.TileCode.{TileCode, tile_code}
use Rattle.fz_tile.specs.declared.coded.Place2.{Place2}
use Rattle.fz_tile.specs.declared.coded.Place2.TheVariants.{Coded, Stored}
use Rattle.fz_head.specs.declared.options.PackOptions.{PackOptions}
use Rattle.fz_head.specs.declared.plan.Plan.{Plan}
use Rattle.fz_head.specs.declared.totals.Totals.{Totals}
use Rattle.fz_head.specs.Packable.{is_packable}
use Rattle.fz_head.specs.EmptyPrimary.{empty_primary}
use Rattle.fz_checks.specs.Greatest.{greatest}
use Rattle.fz_head.specs.PackedHeader.{packed_header}
use Rattle.fz_head.specs.PackedTable.{coded_unit}
use Rattle.fz_head.specs.Planned.{pack_plan_of, pixel_len}

-- the bits of a pixel
abbrev pub pixel_bits : Plan → ℕ
pixel_bits p = unsigned_abs p.bitpix

-- the array that the data of an image store
abbrev pub array_of : Plan → List ℕ → NumberArray
array_of p payload = record {
  lengths = lengths_of p.shape;
  numbers = stored_pixels (pixel_bits p) (product (lengths_of p.shape)) payload;
}

-- how many tiles an image is divided into
abbrev pub tiles_in : Plan → ℕ
tiles_in p = tile_count (lengths_of p.shape) (lengths_of p.tile)

-- what is written for each tile of an array, in the order of the tiles
unfoldable pub tile_codes : Plan → NumberArray → List TileCode
tile_codes p a = map (λ t. tile_code p.codec (pixel_bits p) (tile a (lengths_of p.tile) t)) (range_with_len 0 (tiles_in p))

-- the tile is stored as a code, and not as its plain bytes
abbrev pub is_coded : Place2 → Bool
is_coded Coded = true
is_coded Stored = false

-- how many elements a tile has in the column of codes, and in that of plain bytes, whose elements are pixels
abbrev pub coded_count : Plan → TileCode → ℕ
coded_count p e = if is_coded e.place then length e.bytes / coded_unit p.codec else 0

abbrev pub stored_count : Plan → TileCode → ℕ
stored_count p e = if is_coded e.place then 0 else length e.bytes / pixel_len p.bitpix

-- a descriptor, and that of no elements
abbrev pub described : ℕ → ℕ → Descriptor
described count offset = record { count = count; offset = offset }

-- the row of a tile whose bytes are at this offset of the heap
abbrev pub row_of : Plan → ℕ → TileCode → List ℕ
row_of p offset e =
    if is_coded e.place then packed_row p.wide (described (coded_count p e) offset) (described 0 0)
    else packed_row p.wide (described 0 0) (described (stored_count p e) offset)

-- the rows of tiles whose bytes are one after another in the heap, from this offset on
unfoldable pub rows_from : Plan → ℕ → List TileCode → List ℕ
rows_from p offset [] = []
rows_from p offset (e ∷ es) = row_of p offset e ++ rows_from p (offset + length e.bytes) es

-- the heap: the bytes of the tiles in their order, without gaps
unfoldable pub heap_of : List TileCode → List ℕ
heap_of codes = flat_map (λ (e : TileCode). e.bytes) codes

-- what the header says of the heap: its length, and the greatest count in each column
abbrev pub totals_of : Plan → List TileCode → Totals
totals_of p codes = record {
  heap = length (heap_of codes);
  emax_coded = greatest (map (coded_count p) codes);
  emax_stored = greatest (map (stored_count p) codes);
  sums = false;
}

-- bytes with zeros to whole blocks
abbrev pub zero_filled : List ℕ → List ℕ
zero_filled bytes = bytes ++ replicate (whole_blocks_of (length bytes) - length bytes) 0

-- the data of the table: its rows, the heap directly after them, and fill
abbrev pub packed_data : Plan → List TileCode → List ℕ
packed_data p codes = zero_filled (rows_from p 0 codes ++ heap_of codes)

-- the cards of the table, without those of sums
abbrev pub table_header : Plan → List (List ℕ) → List TileCode → List (List ℕ)
table_header p cards codes = packed_header cards p (totals_of p codes)

-- cards and the DATASUM of the data
abbrev pub with_datasum : List (List ℕ) → List ℕ → List (List ℕ)
with_datasum cards payload = cards ++ datasum_card (ones_sum payload) ∷ []

-- the sum of the HDU while CHECKSUM has sixteen times the character `0`
abbrev pub sum_before : List (List ℕ) → List ℕ → ℕ
sum_before cards payload = ones_sum (header_bytes (with_datasum cards payload ++ blank_checksum_card ∷ []) ++ payload)

-- cards with DATASUM and then CHECKSUM after them, which makes the sum of the HDU all ones
abbrev pub with_sums : Bool → List (List ℕ) → List ℕ → List (List ℕ)
with_sums false cards payload = cards
with_sums true cards payload = with_datasum cards payload ++ checksum_card (sum_before cards payload) ∷ []

-- the table of an image with these cards, whose tiles have these codes
unfoldable pub packed_table : Bool → Plan → List (List ℕ) → List TileCode → List ℕ
packed_table sums p cards codes = header_bytes (with_sums sums (table_header p cards codes) (packed_data p codes)) ++ packed_data p codes

-- the table of the image with this header and these data
abbrev pub packed_image : Bool → Plan → Hdu → List ℕ
packed_image sums p h = packed_table sums p (cards_of h.header) (tile_codes p (array_of p h.payload))

-- what is before the table of HDU k
abbrev pub before_table : ℕ → List ℕ
before_table zero = header_bytes empty_primary
before_table (suc k) = []

-- HDU k in the packed file: the table of an image that can be packed, or its own bytes
abbrev pub packed_hdu : PackOptions → ℕ → Hdu → List ℕ
packed_hdu o k h =
    let facts = facts_of k 0 h.header in
    if is_packable facts then before_table k ++ packed_image o.sums (pack_plan_of o facts) h else hdu_bytes h

-- the HDUs from number k on in the packed file
unfoldable pub packed_from : PackOptions → ℕ → List Hdu → List ℕ
packed_from o k [] = []
packed_from o k (h ∷ hs) = packed_hdu o k h ++ packed_from o (suc k) hs

-- the packed file of a file with these HDUs
abbrev pub packed_file : PackOptions → List Hdu → List ℕ
packed_file o hdus = packed_from o 0 hdus

-- the bytes are the packed file of this file
pub record IsPackedFile (o : PackOptions) (file bytes : List ℕ) : Type 0 where
  pub hdus : List Hdu
  pub parts : AreHdusOf file hdus
  pub packed : bytes ≡ packed_file o hdus
