-- The headers for which the way to a packed header and back is promised, and packed headers that are made.
use Rattle.std.specs.Prelude.{◌≡◌, ◌≤◌, ℕ, true, List, codes, None, length}
use Rattle.fz_base.specs.Refusal.{first_refusal}
use Rattle.fz_block.specs.Cards.{card_at, is_named}
use Rattle.fz_block.specs.Checks.{is_set}
use Rattle.fz_block.specs.Facts.{IsHeaderOf}
use Rattle.fz_block.specs.Hdus.{IsHeader, cards_of}
use Rattle.fz_block.specs.declared.header.Header.{Header}
use Rattle.fz_head.specs.declared.plan.Plan.{Plan}
use Rattle.fz_head.specs.declared.totals.Totals.{Totals}
use Rattle.fz_head.specs.Conditions.{AreShort, IsPackPlan}
use Rattle.fz_head.specs.PackChecks.{name_checks}
use Rattle.fz_head.specs.PackedHeader.{sum_cards}
use Rattle.fz_head.specs.SumCards.{AreSumCards}

-- A header of an image: its mandatory cards are there, the first of a file is SIMPLE, and no card would be lost or mistaken.
pub record MayBePacked (header : List ℕ) (h : Header) : Type 0 where
  pub is_header : IsHeaderOf header h
  pub simple : h.hdu ≡ 0 → is_named (codes "SIMPLE") (card_at header 0) ≡ true
  pub names : first_refusal (name_checks h header) ≡ None

-- What a packed header is made of: the header of an image, which in HDU 0 begins with SIMPLE = T, a plan for it and totals, and as
-- many cards of sums as the options of the plan ask for.
pub record IsPacking (header : List ℕ) (h : Header) (p : Plan) (s : Totals) (sums : List (List ℕ)) : Type 0 where
  pub is_header : IsHeaderOf header h
  pub simple : h.hdu ≡ 0 → is_set (codes "SIMPLE") (card_at header 0) ≡ true
  pub plan : IsPackPlan header h s.sums p
  pub totals : AreShort s
  pub sums_are : AreSumCards sums
  pub count : length sums ≡ length (sum_cards s.sums)

-- the bytes are a header of at most 256 blocks with these cards
pub record HasCards (bytes : List ℕ) (cards : List (List ℕ)) : Type 0 where
  pub whole : IsHeader bytes
  pub short : length bytes ≤ 737280
  pub are : cards_of bytes ≡ cards
