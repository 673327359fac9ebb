-- The header of the table that `pack` makes is a header.
use Rattle.std.proofs.Common.{◌≡◌, ℕ, ◌+◌, ◌*◌, ◌^◌, ◌<◌, ◌≤◌, Bool, true, false, List, [], ◌∷◌, ◌++◌, All, length, map, refl, sym, ap, ◌∙◌, subst, arith}
use Rattle.std.specs.Prelude.{codes as letters}
use Rattle.std.proofs.Math.Nat.{div-le_self}
use Rattle.std.proofs.lemmas.List.{append_assoc, length-append}
use Rattle.fz_block.specs.Cards.{card_at}
use Rattle.fz_block.specs.Checks.{is_set}
use Rattle.fz_block.specs.Facts.{IsHeaderOf}
use Rattle.fz_block.specs.Header.{whole_blocks_of}
use Rattle.fz_block.specs.Hdus.{HasBlankFill, IsCardBeforeEnd, IsHeader, cards_of, header_bytes}
use Rattle.fz_block.specs.declared.header.Header.{Header}
use Rattle.fz_files.specs.Packed.{coded_count, heap_of, packed_data, stored_count, sum_before, table_header, totals_of, with_sums}
use Rattle.fz_head.specs.Conditions.{AreShort, IsPackPlan}
use Rattle.fz_checks.specs.Greatest.{greatest}
use Rattle.fz_head.specs.PackedHeader.{packed_header, packed_with, sum_cards}
use Rattle.fz_head.specs.SumCards.{AreSumCards, IsSumCard}
use Rattle.fz_head.specs.ThereAndBack.{IsPacking}
use Rattle.fz_head.specs.declared.plan.Plan.{Plan}
use Rattle.fz_head.specs.declared.totals.Totals.{Totals}
use Rattle.fz_sum.specs.Cards.{checksum_card, datasum_card}
use Rattle.fz_sum.specs.Sums.{ones_sum}
use Rattle.fz_tile.specs.TileCode.{TileCode}
use Rattle.fz_tile.specs.declared.coded.Place2.{Place2}
use Rattle.fz_tile.specs.declared.coded.Place2.TheVariants.{Coded, Stored}

-- what is taken of the laws of cards
pub record CardLaws : Type 0 where
  pub made :
      (cards : List (List ℕ)) → All IsCardBeforeEnd cards →
      IsHeader (header_bytes cards) × HasBlankFill (header_bytes cards) × (length (header_bytes cards) ≡ whole_blocks_of (80 * (length cards + 1)))
  pub packed :
      (header : List ℕ) (h : Header) (p : Plan) (s : Totals) (sums : List (List ℕ)) → IsPacking header h p s sums →
      All IsCardBeforeEnd (packed_with (cards_of header) p s sums)
  pub last : (cards : List (List ℕ)) (p : Plan) (s : Totals) (sums : List (List ℕ)) → packed_with cards p s sums ≡ packed_with cards p s [] ++ sums
  pub datasum : (sum : ℕ) → sum < 2 ^ 32 → IsSumCard (datasum_card sum)
  pub checksum : (sum : ℕ) → IsSumCard (checksum_card sum)
  pub fits : (bytes : List ℕ) → ones_sum bytes < 2 ^ 32

-- ---- totals

coded_by : (place : Place2) (p : Plan) (bytes : List ℕ) → coded_count p (record { place = place; bytes = bytes }) ≤ length bytes
coded_by Coded p bytes = div-le_self (length bytes) _
coded_by Stored p bytes = omega arith

stored_by : (place : Place2) (p : Plan) (bytes : List ℕ) → stored_count p (record { place = place; bytes = bytes }) ≤ length bytes
stored_by Coded p bytes = omega arith
stored_by Stored p bytes = div-le_self (length bytes) _

greatest_few : (f : TileCode → ℕ) (es : List TileCode) → ((e : TileCode) → f e ≤ length e.bytes) → greatest (map f es) ≤ length (heap_of es)
unfolding heap_of
greatest_few f [] few = omega arith
greatest_few f (e ∷ es) few = omega (arith, few e, greatest_few f es few, length-append e.bytes (heap_of es))

-- the totals of a small heap have few digits
abbrev totals_with : Bool → Plan → List TileCode → Totals
totals_with sums p codes = record (totals_of p codes) { sums = sums }

short : (sums : Bool) (p : Plan) (codes : List TileCode) → length (heap_of codes) ≤ 2 ^ 43 → AreShort (totals_with sums p codes)
short sums p codes small = record {
  heap = omega (arith, small);
  coded = omega (arith, small, greatest_few (coded_count p) codes (λ e. coded_by e.place p e.bytes));
  stored = omega (arith, small, greatest_few (stored_count p) codes (λ e. stored_by e.place p e.bytes));
}

-- ---- cards

table_as : (p : Plan) (cards : List (List ℕ)) (codes : List TileCode) (sums : Bool) → table_header p cards codes ≡ packed_with cards p (totals_with sums p codes) []
unfolding packed_header
table_as p cards codes sums = refl

module _ (laws : CardLaws) (header : List ℕ) (f : Header) (p : Plan) (codes : List TileCode) (is : IsHeaderOf header f) (simple : f.hdu ≡ 0 → is_set (letters "SIMPLE") (card_at header 0) ≡ true) (small : length (heap_of codes) ≤ 2 ^ 43) where
  abbrev cards : List (List ℕ)
  cards = cards_of header

  packing : (sums : Bool) (own : List (List ℕ)) → IsPackPlan header f sums p → AreSumCards own → length own ≡ length (sum_cards sums) → IsPacking header f p (totals_with sums p codes) own
  packing sums own plan are count = record { is_header = is; simple = simple; plan = plan; totals = short sums p codes small; sums_are = are; count = count }

  pub table_is_header : (sums : Bool) → IsPackPlan header f sums p → IsHeader (header_bytes (with_sums sums (table_header p cards codes) (packed_data p codes)))
  table_is_header false plan =
      let all : All IsCardBeforeEnd (packed_with cards p (totals_with false p codes) []) = laws.packed header f p (totals_with false p codes) [] (packing false [] plan tt refl) in
      subst (λ cs. IsHeader (header_bytes cs)) (sym (table_as p cards codes false)) (laws.made (packed_with cards p (totals_with false p codes) []) all).0
  table_is_header true plan =
      let D : List ℕ = packed_data p codes in
      let C : List (List ℕ) = table_header p cards codes in
      let one : List ℕ = datasum_card (ones_sum D) in
      let two : List ℕ = checksum_card (sum_before C D) in
      let own : List (List ℕ) = one ∷ two ∷ [] in
      let are : AreSumCards own = (laws.datasum (ones_sum D) (laws.fits D), (laws.checksum (sum_before C D), tt)) in
      let all : All IsCardBeforeEnd (packed_with cards p (totals_with true p codes) own) = laws.packed header f p (totals_with true p codes) own (packing true own plan are refl) in
      let same : with_sums true C D ≡ packed_with cards p (totals_with true p codes) own =
      append_assoc C (one ∷ []) (two ∷ []) ∙ ap (λ cs. cs ++ own) (table_as p cards codes true) ∙ sym (laws.last cards p (totals_with true p codes) own) in
      subst (λ cs. IsHeader (header_bytes cs)) (sym same) (laws.made (packed_with cards p (totals_with true p codes) own) all).0
