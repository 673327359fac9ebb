-- The bytes of a packed header that is made are a header with its cards.
use Rattle.std.proofs.Common.{◌≡◌, ℕ, ◌+◌, ◌*◌, ◌<◌, ◌≤◌, List, length, arith}
use Rattle.std.specs.Prelude.{All}
use Rattle.fz_card.specs.Laws.{CardLaws}
use Rattle.fz_block.specs.Header.{whole_blocks_of}
use Rattle.fz_block.specs.Hdus.{HasBlankFill, IsCardBeforeEnd, IsHeader, cards_of, header_bytes}
use Rattle.fz_block.specs.declared.header.Header.{Header}
use Rattle.fz_head.specs.declared.plan.Plan.{Plan}
use Rattle.fz_head.specs.declared.totals.Totals.{Totals}
use Rattle.fz_head.specs.PackedHeader.{packed_with}
use Rattle.fz_head.specs.ThereAndBack.{HasCards, IsPacking}
use Rattle.fz_head.proofs.WholeCards.{all-before-end}
use Rattle.fz_head.proofs.PackedSizes.{packing-few}
use Rattle.fz_head.proofs.WholeMade.{packed-cards}

-- what the bytes of a header's cards are
abbrev pub CardsAgain : Type 0
CardsAgain = (cards : List (List ℕ)) → All IsCardBeforeEnd cards → cards_of (header_bytes cards) ≡ cards

abbrev pub HeaderAgain : Type 0
HeaderAgain = (cards : List (List ℕ)) → All IsCardBeforeEnd cards →
    IsHeader (header_bytes cards) × HasBlankFill (header_bytes cards) × (length (header_bytes cards) ≡ whole_blocks_of (80 * (length cards + 1)))

few-blocks : (count size : ℕ) → size ≡ whole_blocks_of (80 * (count + 1)) → count < 9216 → size ≤ 737280
few-blocks count size is few = omega arith

-- by the laws of cards
module _ (laws : CardLaws) where
  pub bytes-have : CardsAgain → HeaderAgain → (header : List ℕ) (h : Header) (p : Plan) (s : Totals) (sums : List (List ℕ)) → IsPacking header h p s sums →
      HasCards (header_bytes (packed_with (cards_of header) p s sums)) (packed_with (cards_of header) p s sums)
  bytes-have again whole header h p s sums is =
      let cards : List (List ℕ) = packed_with (cards_of header) p s sums in
      let all : All IsCardBeforeEnd cards = all-before-end cards (packed-cards laws header h p s sums is) in
      record {
        whole = (whole cards all).0;
        short = few-blocks (length cards) (length (header_bytes cards)) (whole cards all).2 (packing-few header h p s sums is);
        are = again cards all;
      }
