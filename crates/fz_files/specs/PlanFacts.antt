-- Plans and tiles, written out by hand: which of two parameters counts, from which length on descriptors have 64 bits, and which tiles
-- are stored (FITS 4.0, sections 7.3.5, 10.1.2 and 10.4.1).
use Rattle.std.specs.Prelude.{ℕ, ℤ, pos, false, List, [], ◌∷◌, codes}
use Rattle.fz_tile.specs.TileCode.{TileCode}
use Rattle.fz_tile.specs.declared.codec.Codec.TheVariants as codec
use Rattle.fz_tile.specs.declared.coded.Place2.TheVariants.{Coded, Stored}
use Rattle.fz_head.specs.declared.plan.Plan.{Plan}
use Rattle.fz_files.specs.HandMade.{card_of}

-- cards of a packed image that say BLOCKSIZE twice, first with the greater number, and say neither BYTEPIX nor a length of the tile
abbrev pub parameter_cards : List (List ℕ)
parameter_cards =
    card_of (codes "ZIMAGE  =                    T")
    ∷ card_of (codes "ZCMPTYPE= 'RICE_1  '")
    ∷ card_of (codes "ZBITPIX =                   16")
    ∷ card_of (codes "ZNAXIS  =                    2")
    ∷ card_of (codes "ZNAXIS1 =                    4")
    ∷ card_of (codes "ZNAXIS2 =                    3")
    ∷ card_of (codes "ZNAME2  = 'BLOCKSIZE'")
    ∷ card_of (codes "ZVAL2   =                   32")
    ∷ card_of (codes "ZNAME1  = 'BLOCKSIZE'")
    ∷ card_of (codes "ZVAL1   =                   16")
    ∷ []

-- their plan: the parameter with the least number counts; numbers have 4 bytes, and a tile is one row
abbrev pub parameter_plan : Plan
parameter_plan = record {
  codec = codec.Rice 16 4;
  bitpix = pos 16;
  shape = record { n = 2; len = 4 ∷ 3 ∷ 0 ∷ 0 ∷ 0 ∷ 0 ∷ 0 ∷ 0 ∷ 0 ∷ [] };
  tile = record { n = 2; len = 4 ∷ 1 ∷ 0 ∷ 0 ∷ 0 ∷ 0 ∷ 0 ∷ 0 ∷ 0 ∷ [] };
  primary = false;
  wide = false;
}

-- an axis whose pixels of 64 bits have 2^31 bytes, and one with a pixel less
abbrev pub wide_axis : List ℕ
wide_axis = 268435456 ∷ []

abbrev pub narrow_axis : List ℕ
narrow_axis = 268435455 ∷ []

-- a tile of 2 pixels of 16 bits, and its code: the start value 0 in 16 bits, id 1 in 4, and the mapped differences 0 and 2 as 1 and 001
abbrev pub near_pixels : List ℤ
near_pixels = pos 0 ∷ pos 1 ∷ []

abbrev pub near_code : TileCode
near_code = record { place = Coded; bytes = 0x00 ∷ 0x00 ∷ 0x19 ∷ [] }

-- one whose code has 30 bits, so 4 bytes, which are as many as its pixels have: it is stored
abbrev pub far_pixels : List ℤ
far_pixels = pos 0 ∷ pos 8 ∷ []

abbrev pub far_code : TileCode
far_code = record { place = Stored; bytes = 0x00 ∷ 0x00 ∷ 0x00 ∷ 0x08 ∷ [] }
