-- Both sums of the table of an image are right.
use Rattle.std.proofs.Common.{◌≡◌, ◌≢◌, ℕ, ◌+◌, ◌-◌, ◌*◌, ◌%◌, ◌^◌, ◌<◌, ◌≤◌, ◌==◌, ◌&&◌, not, Bool, true, false, List, [], ◌∷◌, ◌++◌, length, map, slice_index, codes, decimal, refl, sym, subst, ap, ◌∙◌, arith, append_assoc, append-nil, length-append}
use Rattle.std.specs.Prelude.{All}
use Rattle.std.specs.List.{AllByRecursion, flat_map, list_all}
use Rattle.std.specs.Char.{is_ascii_alphanumeric}
use Rattle.std.specs.Str.{byte}
use Rattle.std.proofs.lemmas.Grind.{flat_map-append}
use Rattle.std.proofs.lemmas.List.Folds.{list_all_at}
use Rattle.std.proofs.lemmas.List.Elements.{recursion_from_All}
use Rattle.fz_card.specs.CardLists.{IsFirstOfName}
use Rattle.fz_card.specs.Laws.{CardLaws}
use Rattle.fz_card.specs.Layout.{blanks, card_name}
use Rattle.fz_card.specs.Made.{IsCardText}
use Rattle.fz_block.specs.Hdus.{Hdu, IsCardBeforeEnd, cards_of, header_bytes}
use Rattle.fz_block.specs.Header.{whole_blocks_of}
use Rattle.fz_block.specs.Walk.{hdu_of}
use Rattle.fz_block.specs.declared.header.Header.{Header}
use Rattle.fz_sum.specs.Cards.{blank_checksum_card, checksum_card, checksum_name, datasum_card, datasum_name}
use Rattle.fz_sum.specs.Characters.{byte_characters, characters}
use Rattle.fz_sum.specs.Sums.{ones_sum}
use Rattle.fz_sum.specs.Verdicts.{HasSumText, checksum_verdict, datasum_verdict}
use Rattle.fz_sum.specs.declared.verdicts.Verdict.TheVariants.{Right}
use Rattle.fz_head.specs.Conditions.{AreShort}
use Rattle.fz_head.specs.PackedHeader.{made_cards, packed_card, packed_header, packed_with, sum_cards}
use Rattle.fz_head.specs.Planned.{pack_plan_of}
use Rattle.fz_head.specs.SumCards.{IsSumCard}
use Rattle.fz_head.specs.ThereAndBack.{IsPacking}
use Rattle.fz_head.specs.declared.options.PackOptions.{PackOptions}
use Rattle.fz_head.specs.declared.plan.Plan.{Plan}
use Rattle.fz_head.specs.declared.totals.Totals.{Totals}
use Rattle.fz_files.specs.Laws.{IsTaken, codes_from, table_hdu, totals_from}
use Rattle.fz_files.specs.Packed.{packed_data, sum_before, table_header, totals_of, with_sums}
use Rattle.fz_laws.specs.RoundTripTaken.{SumLaws}
use Rattle.fz_laws.proofs.SumCards.{AreNamedElse, AreOthers, coded_few, first_behind, made_others, no_clash, others_append, packed_others, said_short, stored_few}
use Rattle.fz_laws.proofs.Tests.{and_true, eq_true}

-- ---- the bytes of a header that ends with a card

-- what is after the last card: END and blanks
abbrev rest_of : List (List ℕ) → List ℕ
rest_of front = codes "END" ++ blanks (whole_blocks_of (80 * (length front + 1 + 1)) - (length (flat_map (λ c. c) front) + 80 + 3))

one_more : (front : List (List ℕ)) (card : List ℕ) → flat_map (λ c. c) (front ++ card ∷ []) ≡ flat_map (λ c. c) front ++ card
one_more front card = flat_map-append (λ c. c) front (card ∷ []) ∙ ap (λ l. flat_map (λ c. c) front ++ l) (append-nil card)

header_is : (front : List (List ℕ)) (card payload : List ℕ) → length card ≡ 80 → header_bytes (front ++ card ∷ []) ++ payload ≡ flat_map (λ c. c) front ++ (card ++ (rest_of front ++ payload))
header_is front card payload len =
    let flat : List ℕ = flat_map (λ c. c) front in
    let end : List ℕ = codes "END" in
    let count : length (front ++ card ∷ []) ≡ length front + 1 = length-append front (card ∷ []) in
    let size : length ((flat ++ card) ++ end) ≡ length flat + 80 + 3 = length-append (flat ++ card) end ∙ ap (λ n. n + 3) (length-append flat card ∙ ap (λ n. length flat + n) len) in
    let fill : List ℕ = blanks (whole_blocks_of (80 * (length front + 1 + 1)) - (length flat + 80 + 3)) in
    let text : header_bytes (front ++ card ∷ []) ≡ ((flat ++ card) ++ end) ++ fill =
    (λ i. (one_more front card i ++ end) ++ blanks (whole_blocks_of (80 * (count i + 1)) - length (one_more front card i ++ end)))
    ∙ ap (λ n. ((flat ++ card) ++ end) ++ blanks (whole_blocks_of (80 * (length front + 1 + 1)) - n)) size in
    ap (λ l. l ++ payload) text
    ∙ ap (λ l. (l ++ fill) ++ payload) (append_assoc flat card end)
    ∙ ap (λ l. l ++ payload) (append_assoc flat (card ++ end) fill)
    ∙ append_assoc flat ((card ++ end) ++ fill) payload
    ∙ ap (λ l. flat ++ (l ++ payload)) (append_assoc card end fill)
    ∙ ap (λ l. flat ++ l) (append_assoc card (end ++ fill) payload)

-- whole cards are a multiple of 80 bytes
whole_cards : (cards : List (List ℕ)) → AllByRecursion IsCardBeforeEnd cards → length (flat_map (λ c. c) cards) % 80 ≡ 0
whole_cards cards each = let many = counted cards each in omega (arith, many)
  where
    counted : (cards : List (List ℕ)) → AllByRecursion IsCardBeforeEnd cards → length (flat_map (λ c. c) cards) ≡ 80 * length cards
    counted [] each = refl
    counted (c ∷ cs) each =
        let rest = counted cs each.1 in
        let both : length (c ++ flat_map (λ c. c) cs) ≡ length c + length (flat_map (λ c. c) cs) = length-append c (flat_map (λ c. c) cs) in
        let long = each.0.long in
        omega (arith, rest, both, long)

-- ---- the card CHECKSUM

characters_len : (sum : ℕ) → length (characters sum) ≡ 16
unfolding characters byte_characters
characters_len sum = refl

letter_unquoted : (b : ℕ) → is_ascii_alphanumeric b ≡ true → not (b == byte "'") ≡ true
letter_unquoted b e = by_test (b == byte "'") refl
  where
    by_test : (quote : Bool) → (b == byte "'") ≡ quote → not quote ≡ true
    by_test true is = let clash : is_ascii_alphanumeric 39 ≡ true = ap is_ascii_alphanumeric (sym (eq_true b 39 is)) ∙ e in absurd cc
    by_test false is = refl

letters_unquoted : (text : List ℕ) → list_all is_ascii_alphanumeric text ≡ true → list_all (λ b. not (b == byte "'")) text ≡ true
letters_unquoted [] e = refl
letters_unquoted (b ∷ text) e =
    let both = and_true (is_ascii_alphanumeric b) (list_all is_ascii_alphanumeric text) e in
    λ i. letter_unquoted b both.0 i && letters_unquoted text both.1 i

letters_trimmed : (text : List ℕ) → 0 < length text → list_all is_ascii_alphanumeric text ≡ true → slice_index text (length text - 1) ≢ byte " "
letters_trimmed text some e is =
    let last : length text - 1 < length text = omega (arith, some) in
    let none : is_ascii_alphanumeric (slice_index text (length text - 1)) ≡ false = ap is_ascii_alphanumeric is in
    no_clash (list_all is_ascii_alphanumeric text) e (list_all_at is_ascii_alphanumeric text (length text - 1) 0 last none)

characters_are : SumLaws → (sum : ℕ) → IsCardText (characters sum)
characters_are laws sum =
    let len = characters_len sum in
    let few : length (characters sum) ≤ 68 = omega (arith, len) in
    let some : 0 < length (characters sum) = omega (arith, len) in
    record { fits = few; unquoted = letters_unquoted (characters sum) (laws.letters sum); trimmed = letters_trimmed (characters sum) some (laws.letters sum) }

checksum_tells : SumLaws → (sum : ℕ) → HasSumText (checksum_card sum)
unfolding checksum_card
checksum_tells laws sum = record {
  text = characters sum;
  has = laws.cards.made.text_value checksum_name (characters sum) refl (characters_are laws sum);
  some = λ none. let zero : length (characters sum) ≡ 0 = ap length none in absurd (omega (arith, zero, characters_len sum));
}

pub checksum_named : SumLaws → (sum : ℕ) → card_name (checksum_card sum) ≡ checksum_name
unfolding checksum_card
checksum_named laws sum = laws.cards.made.text_name checksum_name (characters sum) refl

pub datasum_named : SumLaws → (sum : ℕ) → card_name (datasum_card sum) ≡ datasum_name
unfolding datasum_card
datasum_named laws sum = laws.cards.made.text_name datasum_name (decimal sum) refl

other_name : datasum_name ≡ checksum_name → ⊥
other_name e = let clash : 68 ≡ 67 = ap (λ l. slice_index l 0) e in absurd (omega (arith, clash))

-- ---- the cards of a table

front_each : (xs ys : List (List ℕ)) → AllByRecursion IsCardBeforeEnd (xs ++ ys) → AllByRecursion IsCardBeforeEnd xs
front_each [] ys each = tt
front_each (x ∷ xs) ys each = (each.0, front_each xs ys each.1)

pub no_datasum : (xs : List (List ℕ)) → AreOthers xs → AreNamedElse datasum_name xs
no_datasum [] others = tt
no_datasum (x ∷ xs) others = (others.0.0, no_datasum xs others.1)

pub no_checksum : (xs : List (List ℕ)) → AreOthers xs → AreNamedElse checksum_name xs
no_checksum [] others = tt
no_checksum (x ∷ xs) others = (others.0.1, no_checksum xs others.1)

else_append : (name : List ℕ) (xs ys : List (List ℕ)) → AreNamedElse name xs → AreNamedElse name ys → AreNamedElse name (xs ++ ys)
else_append name [] ys a b = b
else_append name (x ∷ xs) ys a b = (a.0, else_append name xs ys a.1 b)

pub header_others : CardLaws → (cards : List (List ℕ)) (p : Plan) (t : Totals) → t.sums ≡ false → AreOthers (packed_header cards p t)
unfolding packed_header
header_others laws cards p t none =
    subst (λ b. AreOthers (packed_with cards p t (sum_cards b))) (sym none)
    (others_append (made_cards p t) (map packed_card cards ++ []) (made_others p t) (others_append (map packed_card cards) [] (packed_others laws cards) tt))

-- the cards with both sums, one after another
joined_cards : (cards : List (List ℕ)) (p : Plan) (t : Totals) (d c : List ℕ) → t.sums ≡ false → packed_with cards p t (d ∷ c ∷ []) ≡ (packed_header cards p t ++ d ∷ []) ++ c ∷ []
unfolding packed_header
joined_cards cards p t d c none =
    let m : List (List ℕ) = map packed_card cards in
    sym
    (ap (λ b. (packed_with cards p t (sum_cards b) ++ d ∷ []) ++ c ∷ []) none
    ∙ append_assoc (made_cards p t ++ (m ++ [])) (d ∷ []) (c ∷ [])
    ∙ append_assoc (made_cards p t) (m ++ []) (d ∷ c ∷ [])
    ∙ ap (λ l. made_cards p t ++ (l ++ (d ∷ c ∷ []))) (append-nil m))

-- ---- the sums

-- both verdicts on an HDU with these cards, of which the last two are those of its sums
pub record HasSums (front : List (List ℕ)) (header payload : List ℕ) : Type 0 where
  pub each : AllByRecursion IsCardBeforeEnd (front ++ datasum_card (ones_sum payload) ∷ [])
  pub others : AreOthers front
  pub cards : cards_of header ≡ (front ++ datasum_card (ones_sum payload) ∷ []) ++ checksum_card (sum_before front payload) ∷ []
  pub bytes : header ≡ header_bytes ((front ++ datasum_card (ones_sum payload) ∷ []) ++ checksum_card (sum_before front payload) ∷ [])

data_right : SumLaws → (front : List (List ℕ)) (header payload : List ℕ) → HasSums front header payload → datasum_verdict (cards_of header) payload ≡ Right
data_right laws front header payload is =
    let d : List ℕ = datasum_card (ones_sum payload) in
    let c : List ℕ = checksum_card (sum_before front payload) in
    let order : cards_of header ≡ front ++ d ∷ (c ∷ []) = is.cards ∙ append_assoc front (d ∷ []) (c ∷ []) in
    let first : IsFirstOfName datasum_name (front ++ d ∷ (c ∷ [])) d = first_behind datasum_name front d (c ∷ []) (no_datasum front is.others) (datasum_named laws (ones_sum payload)) in
    ap (λ l. datasum_verdict l payload) order ∙ (laws.data_verdict (front ++ d ∷ (c ∷ [])) payload Right).0 (d, first, laws.gives (ones_sum payload) (laws.fits payload))

all_ones : SumLaws → (front : List (List ℕ)) (header payload : List ℕ) → HasSums front header payload → ones_sum (header ++ payload) ≡ 4294967295
all_ones laws front header payload is =
    let with_data : List (List ℕ) = front ++ datasum_card (ones_sum payload) ∷ [] in
    let flat : List ℕ = flat_map (λ c. c) with_data in
    let behind : List ℕ = rest_of with_data ++ payload in
    let c : List ℕ = checksum_card (sum_before front payload) in
    let before : sum_before front payload ≡ ones_sum (flat ++ (blank_checksum_card ++ behind)) = ap ones_sum (header_is with_data blank_checksum_card payload (laws.blank true).1.0.whole) in
    ap (λ l. ones_sum (l ++ payload)) is.bytes
    ∙ ap ones_sum (header_is with_data c payload (laws.checksum (sum_before front payload)).whole)
    ∙ ap (λ n. ones_sum (flat ++ (checksum_card n ++ behind))) before
    ∙ laws.ones flat behind (whole_cards with_data is.each)

hdu_right : SumLaws → (front : List (List ℕ)) (header payload : List ℕ) → HasSums front header payload → checksum_verdict (cards_of header) header payload ≡ Right
hdu_right laws front header payload is =
    let d : List ℕ = datasum_card (ones_sum payload) in
    let c : List ℕ = checksum_card (sum_before front payload) in
    let named : card_name d ≢ checksum_name = λ e. other_name (sym (datasum_named laws (ones_sum payload)) ∙ e) in
    let first : IsFirstOfName checksum_name ((front ++ d ∷ []) ++ c ∷ []) c =
    first_behind checksum_name (front ++ d ∷ []) c [] (else_append checksum_name front (d ∷ []) (no_checksum front is.others) (named, tt)) (checksum_named laws (sum_before front payload)) in
    ap (λ l. checksum_verdict l header payload) is.cards
    ∙ (laws.hdu_verdict ((front ++ d ∷ []) ++ c ∷ []) header payload Right).0 (c, first, checksum_tells laws (sum_before front payload), all_ones laws front header payload is)

-- ---- the table of an image

pub totals_short : SumLaws → (o : PackOptions) (source : List ℕ) (from : Header) → IsTaken o source from → AreShort (totals_from o source from)
totals_short laws o source from is =
    let p : Plan = pack_plan_of o from in
    let d : Hdu = table_hdu o source from in
    let heap : (totals_from o source from).heap < 10 ^ 18 = subst (λ n. n < 10 ^ 18) (laws.accepted o source from 0 0 is).pcount (said_short laws.cards _) in
    let coded = coded_few p (codes_from o source from) in
    let stored = stored_few p (codes_from o source from) in
    record { heap = heap; coded = omega (arith, heap, coded); stored = omega (arith, heap, stored) }

packing_is : SumLaws → (o : PackOptions) (source : List ℕ) (from : Header) (d c : List ℕ) → IsTaken o source from → o.sums ≡ true → IsSumCard d → IsSumCard c →
    IsPacking (hdu_of source from).header from (pack_plan_of o from) (totals_from o source from) (d ∷ c ∷ [])
packing_is laws o source from d c is sums first second = record {
  is_header = is.image.is_header;
  simple = is.simple;
  plan = record { options = o; allowed = is.image.options; with_sums = refl; packable = is.image.packable; answer = laws.answer o source from is.image };
  totals = totals_short laws o source from is;
  sums_are = (first, (second, tt));
  count = ap (λ b. length (sum_cards b)) (sym sums);
}

pub table_sums : SumLaws → (o : PackOptions) (source : List ℕ) (from : Header) → IsTaken o source from → o.sums ≡ true →
    HasSums (table_header (pack_plan_of o from) (cards_of (hdu_of source from).header) (codes_from o source from)) (table_hdu o source from).header (table_hdu o source from).payload
table_sums laws o source from is sums =
    let p : Plan = pack_plan_of o from in
    let cs : List (List ℕ) = cards_of (hdu_of source from).header in
    let es = codes_from o source from in
    let t : Totals = totals_of p es in
    let payload : List ℕ = packed_data p es in
    let front : List (List ℕ) = packed_header cs p t in
    let d : List ℕ = datasum_card (ones_sum payload) in
    let c : List ℕ = checksum_card (sum_before front payload) in
    let packing = packing_is laws o source from d c is sums (laws.datasum (ones_sum payload) (laws.fits payload)) (laws.checksum (sum_before front payload)) in
    let whole : All IsCardBeforeEnd ((front ++ d ∷ []) ++ c ∷ []) = subst (λ l. All IsCardBeforeEnd l) (joined_cards cs p t d c refl) (laws.whole (hdu_of source from).header from p (totals_from o source from) (d ∷ c ∷ []) packing) in
    let bytes : (table_hdu o source from).header ≡ header_bytes ((front ++ d ∷ []) ++ c ∷ []) = ap (λ b. header_bytes (with_sums b front payload)) sums in
    record {
      each = front_each (front ++ d ∷ []) (c ∷ []) (recursion_from_All IsCardBeforeEnd ((front ++ d ∷ []) ++ c ∷ []) whole);
      others = header_others laws.cards cs p t refl;
      cards = ap cards_of bytes ∙ laws.said ((front ++ d ∷ []) ++ c ∷ []) whole;
      bytes = bytes;
    }

pub table_right : SumLaws → (o : PackOptions) (source : List ℕ) (from : Header) → IsTaken o source from → o.sums ≡ true →
    (datasum_verdict (cards_of (table_hdu o source from).header) (table_hdu o source from).payload ≡ Right)
    × (checksum_verdict (cards_of (table_hdu o source from).header) (table_hdu o source from).header (table_hdu o source from).payload ≡ Right)
table_right laws o source from is sums =
    let has = table_sums laws o source from is sums in
    (data_right laws _ (table_hdu o source from).header (table_hdu o source from).payload has, hdu_right laws _ (table_hdu o source from).header (table_hdu o source from).payload has)
