-- The table of an image in a sink, and the cards of its sums (FITS 4.0, sections 4.4.2.7, 7.3 and 10.1).
use Rattle.std.specs.Prelude.{ℕ, ◌≡◌, ◌+◌, Bool, List, length, Option}
use Rattle.fz_base.specs.Sink.{written}
use Rattle.fz_block.specs.Walk.{hdu_of}
use Rattle.fz_block.specs.declared.header.Header.{Header}
use Rattle.fz_sum.specs.Cards.{checksum_card, datasum_card, with_card}
use Rattle.fz_sum.specs.Pieces.{total_at}
use Rattle.fz_sum.specs.Sums.{carried}
use Rattle.fz_head.specs.declared.plan.Plan.{Plan}
use Rattle.fz_files.specs.Packed.{packed_image, packed_table}
use Rattle.fz_tile.specs.TileCode.{TileCode}
use Rattle.fz_image.specs.declared.layout.Layout.{Layout}

-- a header with the card DATASUM of data of this total in place of card i
abbrev pub datasum_put : ℕ → ℕ → List ℕ → List ℕ
datasum_put i total header = with_card i (datasum_card (carried total)) header

-- and with CHECKSUM in place of the card after it
abbrev pub sum_cards_put : ℕ → ℕ → List ℕ → List ℕ
sum_cards_put i total header =
    with_card (i + 1) (checksum_card (carried (total + total_at 0 (datasum_put i total header)))) (datasum_put i total header)

-- the table with what is written for the tiles was written from one byte on, and ends before another
pub record HoldsCodes (sums : Bool) (l : Layout) (cards : List (List ℕ)) (codes : List TileCode) (at end : ℕ) (before now : Option (List ℕ)) : Type 0 where
  pub contents : now ≡ written at (packed_table sums l.plan cards codes) before
  pub behind : end ≡ at + length (packed_table sums l.plan cards codes)

-- the table of an image of the file was written from one byte on, and ends before another
pub record HoldsTable (sums : Bool) (p : Plan) (h : Header) (file : List ℕ) (at end : ℕ) (before now : Option (List ℕ)) : Type 0 where
  pub contents : now ≡ written at (packed_image sums p (hdu_of file h)) before
  pub behind : end ≡ at + length (packed_image sums p (hdu_of file h))
