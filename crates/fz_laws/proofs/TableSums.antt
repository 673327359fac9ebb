-- Which cards of sums the table of an image has.
use Rattle.std.proofs.Common.{◌≡◌, ◌≢◌, ℕ, ◌||◌, Bool, true, false, List, [], ◌∷◌, ◌++◌, length, bytes_eq, codes, refl, sym, subst, ap, ◌∙◌}
use Rattle.std.specs.Prelude.{All}
use Rattle.std.specs.List.{list_any}
use Rattle.std.proofs.lemmas.Slice.Eq.{bytes_eq-Decides}
use Rattle.fz_card.specs.Layout.{card_name, padded}
use Rattle.fz_block.specs.Cards.{is_named}
use Rattle.fz_block.specs.Hdus.{IsCardBeforeEnd, cards_of, header_bytes}
use Rattle.fz_block.specs.Walk.{hdu_of}
use Rattle.fz_block.specs.declared.header.Header.{Header}
use Rattle.fz_sum.specs.Cards.{checksum_card, datasum_card}
use Rattle.fz_sum.specs.Sums.{ones_sum}
use Rattle.fz_head.specs.PackedHeader.{packed_header, packed_with, sum_cards}
use Rattle.fz_head.specs.Planned.{pack_plan_of}
use Rattle.fz_head.specs.ThereAndBack.{IsPacking}
use Rattle.fz_head.specs.declared.options.PackOptions.{PackOptions}
use Rattle.fz_head.specs.declared.plan.Plan.{Plan}
use Rattle.fz_head.specs.declared.totals.Totals.{Totals}
use Rattle.fz_files.specs.Laws.{IsTaken, codes_from, table_hdu, totals_from}
use Rattle.fz_files.specs.Packed.{packed_data, sum_before, table_header, totals_of, with_sums}
use Rattle.fz_laws.specs.PackedHdus.{HasSumCards, TablesHaveSums}
use Rattle.fz_laws.specs.RoundTripTaken.{SumLaws}
use Rattle.fz_laws.proofs.SumCards.{AreNamedElse, AreOthers}
use Rattle.fz_laws.proofs.Sums.{checksum_named, datasum_named, header_others, no_checksum, no_datasum, table_sums, totals_short}

-- ---- lists of cards

named_else : (word card : List ℕ) → card_name card ≢ padded word → is_named word card ≡ false
named_else word card other = by_test (bytes_eq (card_name card) (padded word)) refl
  where
    by_test : (b : Bool) → bytes_eq (card_name card) (padded word) ≡ b → b ≡ false
    by_test true is = absurd (other ((bytes_eq-Decides (card_name card) (padded word)).0 is))
    by_test false is = refl

none_named : (word : List ℕ) (cards : List (List ℕ)) → AreNamedElse (padded word) cards → list_any (is_named word) cards ≡ false
none_named word [] none = refl
none_named word (card ∷ cards) none = λ i. named_else word card none.0 i || none_named word cards none.1 i

some_behind : (word : List ℕ) (front : List (List ℕ)) (card : List ℕ) (more : List (List ℕ)) → is_named word card ≡ true →
    list_any (is_named word) (front ++ card ∷ more) ≡ true
some_behind word [] card more is = ap (λ b. b || list_any (is_named word) more) is
some_behind word (c ∷ front) card more is = by_test (is_named word c) (some_behind word front card more is)
  where
    by_test : (b : Bool) → list_any (is_named word) (front ++ card ∷ more) ≡ true → (b || list_any (is_named word) (front ++ card ∷ more)) ≡ true
    by_test true rest = refl
    by_test false rest = rest

some_in_front : (word : List ℕ) (xs ys : List (List ℕ)) → list_any (is_named word) xs ≡ true → list_any (is_named word) (xs ++ ys) ≡ true
some_in_front word [] ys is = absurd cc
some_in_front word (x ∷ xs) ys is = by_test (is_named word x) is (some_in_front word xs ys)
  where
    by_test : (b : Bool) → (b || list_any (is_named word) xs) ≡ true → (list_any (is_named word) xs ≡ true → list_any (is_named word) (xs ++ ys) ≡ true) →
        (b || list_any (is_named word) (xs ++ ys)) ≡ true
    by_test true is rest = refl
    by_test false is rest = rest is

-- ---- the table of an image

no_sum_cards : (cards : List (List ℕ)) → AreOthers cards → HasSumCards false cards
no_sum_cards cards others = record
    { datasum = none_named (codes "DATASUM") cards (no_datasum cards others); checksum = none_named (codes "CHECKSUM") cards (no_checksum cards others) }

both_sum_cards : SumLaws → (front : List (List ℕ)) (sum total : ℕ) → HasSumCards true ((front ++ datasum_card sum ∷ []) ++ checksum_card total ∷ [])
both_sum_cards laws front sum total =
    let told : is_named (codes "DATASUM") (datasum_card sum) ≡ true =
    (bytes_eq-Decides (card_name (datasum_card sum)) (padded (codes "DATASUM"))).1 (datasum_named laws sum) in
    let hdu : is_named (codes "CHECKSUM") (checksum_card total) ≡ true =
    (bytes_eq-Decides (card_name (checksum_card total)) (padded (codes "CHECKSUM"))).1 (checksum_named laws total) in
    record {
      datasum = some_in_front (codes "DATASUM") (front ++ datasum_card sum ∷ []) (checksum_card total ∷ [])
          (some_behind (codes "DATASUM") front (datasum_card sum) [] told);
      checksum = some_behind (codes "CHECKSUM") (front ++ datasum_card sum ∷ []) (checksum_card total) [] hdu;
    }

plain_packing : SumLaws → (o : PackOptions) (source : List ℕ) (from : Header) → IsTaken o source from → o.sums ≡ false →
    IsPacking (hdu_of source from).header from (pack_plan_of o from) (totals_from o source from) []
plain_packing laws o source from is sums = record {
  is_header = is.image.is_header;
  simple = is.simple;
  plan = record { options = o; allowed = is.image.options; with_sums = refl; packable = is.image.packable; answer = laws.answer o source from is.image };
  totals = totals_short laws o source from is;
  sums_are = tt;
  count = ap (λ b. length (sum_cards b)) (sym sums);
}

-- the cards of one without sums
plain_cards : (cards : List (List ℕ)) (p : Plan) (t : Totals) → t.sums ≡ false → packed_with cards p t [] ≡ packed_header cards p t
unfolding packed_header
plain_cards cards p t none = ap (λ b. packed_with cards p t (sum_cards b)) (sym none)

without_sums : SumLaws → (o : PackOptions) (source : List ℕ) (from : Header) → IsTaken o source from → o.sums ≡ false →
    HasSumCards false (cards_of (table_hdu o source from).header)
without_sums laws o source from is sums =
    let p : Plan = pack_plan_of o from in
    let cs : List (List ℕ) = cards_of (hdu_of source from).header in
    let es = codes_from o source from in
    let t : Totals = totals_of p es in
    let front : List (List ℕ) = packed_header cs p t in
    let whole : All IsCardBeforeEnd front =
    subst (λ l. All IsCardBeforeEnd l) (plain_cards cs p t refl)
    (laws.whole (hdu_of source from).header from p (totals_from o source from) [] (plain_packing laws o source from is sums)) in
    let cards : cards_of (table_hdu o source from).header ≡ front =
    ap (λ b. cards_of (header_bytes (with_sums b front (packed_data p es)))) sums ∙ laws.said front whole in
    subst (HasSumCards false) (sym cards) (no_sum_cards front (header_others laws.cards cs p t refl))

with_both : SumLaws → (o : PackOptions) (source : List ℕ) (from : Header) → IsTaken o source from → o.sums ≡ true →
    HasSumCards true (cards_of (table_hdu o source from).header)
with_both laws o source from is sums =
    let has = table_sums laws o source from is sums in
    let payload : List ℕ = (table_hdu o source from).payload in
    let front : List (List ℕ) = table_header (pack_plan_of o from) (cards_of (hdu_of source from).header) (codes_from o source from) in
    subst (HasSumCards true) (sym has.cards) (both_sum_cards laws front (ones_sum payload) (sum_before front payload))

pub tables_have_sums : SumLaws → TablesHaveSums
tables_have_sums laws o source from is = by_test o.sums refl
  where
    by_test : (sums : Bool) → o.sums ≡ sums → HasSumCards sums (cards_of (table_hdu o source from).header)
    by_test true sums = with_both laws o source from is sums
    by_test false sums = without_sums laws o source from is sums
