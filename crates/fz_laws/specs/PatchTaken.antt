-- What the laws of patches take from the laws of cards, headers, HDUs, tiles and rows.
use Rattle.std.specs.Prelude.{ℕ, ◌≡◌, ◌≢◌, ◌⊎◌, ◌+◌, ◌*◌, ◌^◌, ◌<◌, ◌≤◌, Bool, false, ℤ, pos, List, [], ◌∷◌, ◌++◌, length, take, drop, get_or, All, None, Ok}
use Rattle.std.specs.List.{position}
use Rattle.fz_base.specs.Refusal.{first_refusal}
use Rattle.fz_base.specs.Sink.{overwrite}
use Rattle.fz_bits.specs.Numbers.{IsNumber}
use Rattle.fz_block.specs.Cards.{first_card}
use Rattle.fz_block.specs.Checks.{Judge, hdu_at, hdu_end, header_blocks_of, header_of, walk_of}
use Rattle.fz_block.specs.Facts.{IsHeaderOf, begun_at}
use Rattle.fz_block.specs.Hdus.{cards_of}
use Rattle.fz_block.specs.Walk.{StandsAt, hdu_of, stops}
use Rattle.fz_block.specs.declared.header.Header.{Header}
use Rattle.fz_card.specs.Laws.{CardLaws}
use Rattle.fz_sum.specs.Cards.{checksum_card, datasum_card, with_card}
use Rattle.fz_sum.specs.Sums.{ones_sum}
use Rattle.fz_grid.specs.Laws.{BoxesAreInOrder, DividedArraysHaveTiles, NumbersHavePlaces, PlacesAreInside, PlacesHaveCoordinates}
use Rattle.fz_grid.specs.Laws.{TilesHaveAPixel, TilesHaveAtMostTheirLengths}
use Rattle.fz_tile.specs.Codecs.{CanRead, CanWrite}
use Rattle.fz_tile.specs.Laws.{FillsColumn, HasPlainLen, IsRefusedOnce, StandsUnrefused}
use Rattle.fz_tile.specs.Record.{IsRecord}
use Rattle.fz_tile.specs.TileCode.{tile_code}
use Rattle.fz_tile.specs.declared.codec.Codec.{Codec}
use Rattle.fz_tile.specs.declared.coded.Place2.{Place2}
use Rattle.fz_checks.specs.JobChecks.{IsImageOf, image_checks, image_in}
use Rattle.fz_head.specs.SumCards.{IsSumCard}
use Rattle.fz_laws.specs.PatchLaws.{AmendedHeadersSayTheSame, KeptRowsStand, NewRowsStand, TargetsAreGiven}

-- ---- cards and headers

-- the first card that has a property is the first of the cards that has it
abbrev pub FirstCards : Type 0
FirstCards = (has : List ℕ → Bool) (header : List ℕ) → first_card has header ≡ position has (cards_of header)

-- a card that is written in its place is there, all others stay, and the header is as long as before
abbrev pub CardIsThere : Type 0
CardIsThere = (i : ℕ) (card bytes : List ℕ) → length card ≡ 80 → 80 * (i + 1) ≤ length bytes → take 80 (drop (80 * i) (with_card i card bytes)) ≡ card

abbrev pub OthersAreThere : Type 0
OthersAreThere =
    (i j : ℕ) (card bytes : List ℕ) → length card ≡ 80 → 80 * (i + 1) ≤ length bytes → i ≢ j
    → take 80 (drop (80 * j) (with_card i card bytes)) ≡ take 80 (drop (80 * j) bytes)

abbrev pub CardsAreLong : Type 0
CardsAreLong = (i : ℕ) (card bytes : List ℕ) → length card ≡ 80 → 80 * (i + 1) ≤ length bytes → length (with_card i card bytes) ≡ length bytes

pub record CardPlaceLaws : Type 0 where
  pub there : CardIsThere
  pub others : OthersAreThere
  pub long : CardsAreLong

-- ---- HDUs

-- an HDU that is found has its number, its start and the facts of its header; it has the blocks that the search finds; it is found if it
-- is there; and it passes the same checks at another place
abbrev pub FoundFacts : Type 0
FoundFacts = (k start : ℕ) (file : List ℕ) (h : Header) → hdu_at k start file ≡ Ok h → (h.hdu ≡ k) × (h.start ≡ start) × IsHeaderOf (hdu_of file h).header h

abbrev pub FoundBlocks : Type 0
FoundBlocks = (k start : ℕ) (file : List ℕ) (h : Header) → hdu_at k start file ≡ Ok h → header_blocks_of k start file ≡ Ok h.blocks

abbrev pub FoundHeader : Type 0
FoundHeader = (k start : ℕ) (file header : List ℕ) → StandsAt k start file header → hdu_at k start file ≡ header_of k start (length file) header

abbrev pub ChecksStay : Type 0
ChecksStay =
    (k start len : ℕ) (header : List ℕ) (h : Header) (start' len' : ℕ) → header_of k start len header ≡ Ok h
    → hdu_end k start' header ≤ len' → hdu_end k start' header ≤ 2 ^ 62 → header_of k start' len' header ≡ Ok (begun_at start' h)

pub record HduLaws : Type 0 where
  pub facts : FoundFacts
  pub blocks : FoundBlocks
  pub header : FoundHeader
  pub checks : ChecksStay

-- a walk finds its headers where they begin
abbrev pub WalkFinds : Type 0
WalkFinds = (judge : Judge) (most : ℕ) (file : List ℕ) (hs : List Header) → walk_of judge most file ≡ Ok hs → All (λ h. hdu_at h.hdu h.start file ≡ Ok h) hs

-- and stops at no HDU but the last
abbrev pub WalkStops : Type 0
WalkStops = (judge : Judge) (most : ℕ) (file : List ℕ) (hs : List Header) (h : Header) → walk_of judge most file ≡ Ok (hs ++ h ∷ []) → stops judge hs ≡ false

-- ---- tiles and rows

-- a header of which the checks refuse nothing says an image
abbrev pub ChecksFindImage : Type 0
ChecksFindImage =
    (h : Header) (header : List ℕ) (after_empty : Bool) → IsHeaderOf header h → first_refusal (image_checks h header after_empty) ≡ None
    → IsImageOf header h (image_in h header)

-- a record stands for at most one list of so many pixels
abbrev pub StandsForOneList : Type 0
StandsForOneList =
    (codec : Codec) (bitpix total : ℕ) (place : Place2) (read : List ℕ) (xs ys : List ℤ) → CanRead codec (pos bitpix) → length ys ≡ length xs
    → IsRecord codec bitpix place total read xs → IsRecord codec bitpix place total read ys → ys ≡ xs

-- what the laws of rows take
pub record TakenLaws : Type 0 where
  pub walk : WalkFinds
  pub last : WalkStops
  pub facts : FoundFacts
  pub image : ChecksFindImage
  pub one : StandsForOneList
  pub unrefused : StandsUnrefused
  pub once : IsRefusedOnce

-- what is taken from the law of places
pub record PlaceLaws : Type 0 where
  pub inside : PlacesAreInside
  pub coordinates : PlacesHaveCoordinates
  pub numbers : NumbersHavePlaces
  pub order : BoxesAreInOrder

-- what is written for a tile is a record that stands for it
abbrev pub TileCodesHold : Type 0
TileCodesHold =
    (codec : Codec) (bitpix : ℕ) (xs : List ℤ) → CanWrite codec (pos bitpix) → 1 ≤ length xs → length xs ≤ 2 ^ 26 → All (IsNumber bitpix) xs
    → IsRecord codec bitpix (tile_code codec bitpix xs).place (length (tile_code codec bitpix xs).bytes) (tile_code codec bitpix xs).bytes xs

-- what is taken from the laws of tiles
pub record TileLaws : Type 0 where
  pub hold : TileCodesHold
  pub fills : FillsColumn
  pub lens : HasPlainLen
  pub places : PlaceLaws
  pub tiles : DividedArraysHaveTiles
  pub some : TilesHaveAPixel
  pub most : TilesHaveAtMostTheirLengths

-- ---- writes

-- a byte that no write has a place for stays
abbrev pub BytesOutsideStay : Type 0
BytesOutsideStay =
    (at : ℕ) (bytes contents : List ℕ) (i : ℕ) → (i < at) ⊎ (at + length bytes ≤ i)
    → get_or (overwrite at bytes contents) i 0 ≡ get_or contents i 0

-- what the laws take of all writes; of a patch; of rows after some of the writes; of cuts after some of them; and of what is safe then
pub record WriteLaws : Type 0 where
  pub tiles : TileLaws
  pub cards : CardLaws
  pub first : FirstCards
  pub places : CardPlaceLaws
  pub datasum : (sum : ℕ) → sum < 2 ^ 32 → IsSumCard (datasum_card sum)
  pub checksum : (sum : ℕ) → IsSumCard (checksum_card sum)
  pub fits : (bytes : List ℕ) → ones_sum bytes < 2 ^ 32

pub record PatchLaws : Type 0 where
  pub taken : TakenLaws
  pub writes : WriteLaws
  pub given : TargetsAreGiven

pub record RowLaws : Type 0 where
  pub taken : TakenLaws
  pub hdus : HduLaws
  pub amended : AmendedHeadersSayTheSame
  pub kept : KeptRowsStand
  pub fresh : NewRowsStand

pub record CutLaws : Type 0 where
  pub hdus : HduLaws
  pub amended : AmendedHeadersSayTheSame

pub record SafeLaws : Type 0 where
  pub patch : PatchLaws
  pub rows : RowLaws
  pub cuts : CutLaws
  pub outside : BytesOutsideStay
