-- A packed image that was a primary, of which `unpack` refuses nothing (FITS 4.0, sections 4.4.1.1 and 10.1.2).
use Rattle.std.proofs.Common.{◌≡◌, ℕ, zero, suc, ◌+◌, ◌-◌, ◌<◌, Bool, true, false, cond, List, [], ◌∷◌, ◌++◌, length, take, drop, get_or, map, append_assoc, refl, sym, ap, subst, ◌∙◌, arith, zero-add}
use Rattle.std.specs.Prelude.{◌&&◌, ◌||◌, not, Option, Some, None, Ok, bytes_eq, codes, is_some, unwrap_or, if◌then◌else◌}
use Rattle.std.specs.List.{find, flat_map, list_any, range_with_len}
use Rattle.std.specs.Option.{option_to_list}
use Rattle.std.proofs.Math.Seq.{get_or-append_right}
use Rattle.std.proofs.lemmas.Bool.{and_from, and_parts, both_ways}
use Rattle.std.proofs.lemmas.List.{get_or-take, length-append, length-take}
use Rattle.std.proofs.lemmas.List.Folds.{list_any_at}
use Rattle.std.proofs.lemmas.List.FromFn.{get_or-range_with_len, length-range_with_len}
use Rattle.std.proofs.lemmas.Slice.Eq.{bytes_eq-Decides}
use Rattle.fz_base.specs.Refusal.{first_refusal}
use Rattle.fz_base.specs.declared.fault.Fault.{Fault}
use Rattle.fz_card.specs.CardLists.{has_name}
use Rattle.fz_card.specs.Layout.{card_name, padded}
use Rattle.fz_card.specs.Naming.{is_in_some, number_behind, plain_name}
use Rattle.fz_card.specs.Tables.{renamings}
use Rattle.fz_block.specs.Checks.{is_set, unless_refused}
use Rattle.fz_block.specs.Hdus.{cards_of, header_bytes}
use Rattle.fz_block.specs.declared.header.Header.{Header}
use Rattle.fz_table.specs.Tables.{table_checks}
use Rattle.fz_checks.specs.JobChecks.{image_checks, image_in, image_to_unpack, unpack_checks}
use Rattle.fz_head.specs.Packable.{is_packed, is_table}
use Rattle.fz_head.specs.PackedChecks.{bitpix_checks, codec_checks, has_word, line_list_check, packed_checks, parameter_checks, plan_answer, row_check, scaling_check, shape_checks, sort_checks}
use Rattle.fz_head.specs.PackedPlan.{plan_of_cards}
use Rattle.fz_head.specs.PlainHeader.{axis_card, axis_count, count_cards, leading_card, or_card, other_cards, plain_card, plain_header, says_what, size_cards, was_primary}
use Rattle.fz_head.specs.PackedHeader.{word_card}
use Rattle.fz_head.specs.Repeats.{counted_name, first_repeat, repeats, table_names}
use Rattle.fz_head.specs.TableChecks.{table_card_checks}
use Rattle.fz_checks.specs.declared.job_checks.PackedImage.{PackedImage}
use Rattle.fz_head.specs.declared.plan.Plan.{Plan}
use Rattle.fz_checks.proofs.FrontCards.{clear, clear-front, clear-rest}
use Rattle.fz_checks.proofs.Ranges.{position_none}
use Rattle.fz_checks.proofs.SaidSorts.{same-found}

-- ---- it stands after an empty primary

clear-sort : (k : ℕ) (header : List ℕ) (after_empty : Bool) → first_refusal (packed_checks k header after_empty) ≡ None → first_refusal (sort_checks k (cards_of header) after_empty) ≡ None
clear-sort k header after_empty e =
    let cards : List (List ℕ) = cards_of header in
    let six = line_list_check k cards ∷ row_check k header ∷ [] in
    let five = sort_checks k cards after_empty ++ six in
    let four = parameter_checks k cards ++ five in
    let three = shape_checks k cards ++ four in
    let two = bitpix_checks k cards ++ three in
    let one = codec_checks k cards ++ two in
    let behind-bits = clear-rest (bitpix_checks k cards) three (clear-rest (codec_checks k cards) two (clear-rest (scaling_check k cards ∷ []) one e)) in
    clear-front (sort_checks k cards after_empty) six (clear-rest (parameter_checks k cards) five (clear-rest (shape_checks k cards) four behind-bits))

after-is : (said after : Bool) → (said && not after) ≡ false → said ≡ true → after ≡ true
after-is true true e is = refl
after-is true false e is = absurd cc
after-is false after e is = absurd cc

placed : (k : ℕ) (header : List ℕ) (after_empty : Bool) → first_refusal (packed_checks k header after_empty) ≡ None → was_primary (cards_of header) ≡ true → after_empty ≡ true
placed k header after_empty none was =
    let third = (clear (sort_checks k (cards_of header) after_empty) (clear-sort k header after_empty none)).1.1.0 in
    after-is (has_word (codes "ZSIMPLE") (cards_of header)) after_empty third (same-found (has_name (padded (codes "ZSIMPLE"))) (cards_of header) ∙ was)

says-primary : (cards : List (List ℕ)) → (plan_of_cards cards).primary ≡ was_primary cards
unfolding plan_of_cards
says-primary cards = refl

planned : (q p : Plan) (found : Option Fault) → unless_refused q found ≡ Ok p → (found ≡ None) × (p ≡ q)
planned q p None is = (refl, (let same : p ≡ q = cc in same))
planned q p (Some x) is = absurd cc

pub answer_placed : (k : ℕ) (header : List ℕ) (after_empty : Bool) (p : Plan) → plan_answer k header after_empty ≡ Ok p → p.primary ≡ true → after_empty ≡ true
unfolding plan_answer
answer_placed k header after_empty p is primary =
    let both = planned (plan_of_cards (cards_of header)) p (first_refusal (packed_checks k header after_empty)) is in
    placed k header after_empty both.0 (sym (ap (λ (q : Plan). q.primary) both.1 ∙ says-primary (cards_of header)) ∙ primary)

-- ---- what the checks of `unpack` say

unpacked : (b : Bool) (q i : PackedImage) (found : Option Fault) → unless_refused (if b then Some q else None) found ≡ Ok (Some i) → (found ≡ None) × (b ≡ true) × (i ≡ q)
unpacked true q i None is = (refl, refl, (let same : i ≡ q = cc in same))
unpacked false q i None is = absurd cc
unpacked b q i (Some x) is = absurd cc

record Passes (h : Header) (header : List ℕ) (after_empty : Bool) (i : PackedImage) : Type 0 where
  cards : first_refusal (table_card_checks h header) ≡ None
  packed : is_packed header h ≡ true
  plan : first_refusal (packed_checks h.hdu header after_empty) ≡ None
  said : i ≡ image_in h header

is-a-table : (h : Header) (header : List ℕ) → is_packed header h ≡ true → is_table h.sort ≡ true
unfolding is_packed
is-a-table h header is = (and_parts (is_table h.sort) (list_any (is_set (codes "ZIMAGE")) (cards_of header)) is).0

passes : (h : Header) (header : List ℕ) (after_empty : Bool) (i : PackedImage) → image_to_unpack h header after_empty ≡ Ok (Some i) → Passes h header after_empty i
unfolding image_to_unpack
passes h header after_empty i is =
    let all = unpacked (is_packed header h) (image_in h header) i (first_refusal (unpack_checks h header after_empty)) is in
    let front = cond (is_table h.sort) (table_card_checks h header) [] in
    let back = cond (is_packed header h) (image_checks h header after_empty) [] in
    let image : first_refusal (image_checks h header after_empty) ≡ None = subst (λ b. first_refusal (cond b (image_checks h header after_empty) []) ≡ None) all.1 (clear-rest front back all.0) in
    record {
      cards = subst (λ b. first_refusal (cond b (table_card_checks h header) []) ≡ None) (is-a-table h header all.1) (clear-front front back all.0);
      packed = all.1;
      plan = clear-rest (table_checks header h) (packed_checks h.hdu header after_empty) image;
      said = all.2;
    }

was-one : (h : Header) (header : List ℕ) (i : PackedImage) → i ≡ image_in h header → i.plan.primary ≡ true → was_primary (cards_of header) ≡ true
was-one h header i said primary = sym (ap (λ (j : PackedImage). j.plan.primary) said ∙ says-primary (cards_of header)) ∙ primary

pub unpack_placed : (h : Header) (header : List ℕ) (after_empty : Bool) (i : PackedImage) → image_to_unpack h header after_empty ≡ Ok (Some i) → i.plan.primary ≡ true → after_empty ≡ true
unpack_placed h header after_empty i is primary =
    let pass = passes h header after_empty i is in
    placed h.hdu header after_empty pass.plan (was-one h header i pass.said primary)

-- ---- the first card that says what the image is

-- a name that stands once does not stand twice
apart : (cards : List (List ℕ)) (j i : ℕ) → first_repeat table_names counted_name cards ≡ None → j < i → i < length cards → is_in_some table_names (card_name (get_or cards i [])) ≡ true →
    counted_name (card_name (get_or cards j [])) ≡ counted_name (card_name (get_or cards i [])) → ⊥
apart cards j i none before within single same =
    let test : repeats table_names counted_name cards (get_or (range_with_len 0 (length cards)) i 0) ≡ false =
    position_none (repeats table_names counted_name cards) (range_with_len 0 (length cards)) i 0 none (omega (arith, length-range_with_len 0 (length cards), within)) in
    let index : get_or (range_with_len 0 (length cards)) i 0 ≡ i = get_or-range_with_len 0 (length cards) i 0 within ∙ zero-add i in
    let here : repeats table_names counted_name cards i ≡ false = ap (repeats table_names counted_name cards) (sym index) ∙ test in
    let counts : List ℕ → Bool = λ c. bytes_eq (counted_name (card_name c)) (counted_name (card_name (get_or cards i []))) in
    let there : get_or (take i cards) j [] ≡ get_or cards j [] = get_or-take i cards j [] before in
    let found : list_any counts (take i cards) ≡ true =
    list_any_at counts (take i cards) j [] (omega (arith, length-take i cards, before, within))
    ((bytes_eq-Decides (counted_name (card_name (get_or (take i cards) j []))) (counted_name (card_name (get_or cards i [])))).1 (ap (λ c. counted_name (card_name c)) there ∙ same)) in
    both_ways (is_in_some table_names (card_name (get_or cards i [])) && list_any counts (take i cards)) here
    (and_from (is_in_some table_names (card_name (get_or cards i []))) (list_any counts (take i cards)) single found)

simple-once : is_in_some table_names (padded (codes "ZSIMPLE")) ≡ true
unfolding number_behind
simple-once = refl

-- a card that is found has its place
record Stands (has : List ℕ → Bool) (cards : List (List ℕ)) : Type 0 where
  index : ℕ
  within : index < length cards
  is : has (get_or cards index []) ≡ true

stands : (has : List ℕ → Bool) (cards : List (List ℕ)) → is_some (find has cards) ≡ true → Stands has cards
stands has [] some = absurd cc
stands has (c ∷ cards) some = by_test (has c) refl some (λ later. stands has cards later)
  where
    by_test : (b : Bool) → has c ≡ b → is_some (cond b (Some c) (find has cards)) ≡ true → (is_some (find has cards) ≡ true → Stands has cards) → Stands has (c ∷ cards)
    by_test true is some rest = record { index = zero; within = omega arith; is = is }
    by_test false is some rest = let later = rest some in record { index = suc later.index; within = omega (arith, later.within); is = later.is }

abbrev is-simple : List ℕ → Bool
is-simple = has_name (padded (codes "ZSIMPLE"))

abbrev is-tension : List ℕ → Bool
is-tension = has_name (padded (codes "ZTENSION"))

-- the first of the cards that say what the image is says that it is a primary
record FindsSimple (cards : List (List ℕ)) : Type 0 where
  card : List ℕ
  found : find says_what cards ≡ Some card
  named : card_name card ≡ padded (codes "ZSIMPLE")

not-both : (seen : List (List ℕ)) (c : List ℕ) (cards : List (List ℕ)) → first_repeat table_names counted_name (seen ++ c ∷ cards) ≡ None → is-tension c ≡ true → Stands is-simple cards → ⊥
not-both seen c cards none tension simple =
    let all : List (List ℕ) = seen ++ c ∷ cards in
    let i : ℕ = length seen + suc simple.index in
    let at-c : get_or all (length seen) [] ≡ c =
    get_or-append_right seen (c ∷ cards) (length seen) [] (omega arith) ∙ (let none : length seen - length seen ≡ 0 = omega arith in ap (λ n. get_or (c ∷ cards) n []) none) in
    let at-simple : get_or all i [] ≡ get_or cards simple.index [] =
    get_or-append_right seen (c ∷ cards) i [] (omega arith) ∙ (let more : i - length seen ≡ suc simple.index = omega arith in ap (λ n. get_or (c ∷ cards) n []) more) in
    let name-c : card_name (get_or all (length seen) []) ≡ padded (codes "ZTENSION") = ap card_name at-c ∙ (bytes_eq-Decides (card_name c) (padded (codes "ZTENSION"))).0 tension in
    let name-simple : card_name (get_or all i []) ≡ padded (codes "ZSIMPLE") = ap card_name at-simple ∙ (bytes_eq-Decides (card_name (get_or cards simple.index [])) (padded (codes "ZSIMPLE"))).0 simple.is in
    apart all (length seen) i none (omega arith) (omega (arith, length-append seen (c ∷ cards), simple.within)) (ap (is_in_some table_names) name-simple ∙ simple-once)
    (ap counted_name name-c ∙ sym (ap counted_name name-simple))

finds : (seen cards : List (List ℕ)) → first_repeat table_names counted_name (seen ++ cards) ≡ None → is_some (find is-simple cards) ≡ true → FindsSimple cards
finds seen [] none some = absurd cc
finds seen (c ∷ cards) none some = by_tests (is-simple c) (is-tension c) refl refl some (λ later. finds (seen ++ c ∷ []) cards (ap (first_repeat table_names counted_name) (append_assoc seen (c ∷ []) cards) ∙ none) later)
  where
    found-as : (a b : Bool) → is-simple c ≡ a → is-tension c ≡ b → find says_what (c ∷ cards) ≡ cond (a || b) (Some c) (find says_what cards)
    found-as a b simple tension = λ i. cond (simple i || tension i) (Some c) (find says_what cards)

    by_tests : (a b : Bool) → is-simple c ≡ a → is-tension c ≡ b → is_some (cond a (Some c) (find is-simple cards)) ≡ true → (is_some (find is-simple cards) ≡ true → FindsSimple cards) → FindsSimple (c ∷ cards)
    by_tests true b simple tension some later =
        record { card = c; found = found-as true b simple tension; named = (bytes_eq-Decides (card_name c) (padded (codes "ZSIMPLE"))).0 simple }
    by_tests false true simple tension some later = absurd (not-both seen c cards none tension (stands is-simple cards some))
    by_tests false false simple tension some later =
        let rest = later some in
        record { card = rest.card; found = found-as false false simple tension ∙ rest.found; named = rest.named }

-- ---- the header of the image begins with SIMPLE

simple-back : plain_name (padded (codes "ZSIMPLE")) ≡ Some (padded (codes "SIMPLE"))
unfolding plain_name renamings
simple-back = refl

abbrev BeginsWithS : List ℕ → Type 0
BeginsWithS l = l ≡ 83 ∷ drop 1 l

leading : (cards : List (List ℕ)) → (f : FindsSimple cards) → leading_card cards ≡ (padded (codes "SIMPLE") ++ drop 8 f.card) ∷ []
leading cards f =
    ap (λ o. or_card (word_card (codes "XTENSION") (codes "IMAGE")) (map plain_card (option_to_list o))) f.found
    ∙ (ap (λ n. (unwrap_or (plain_name n) n ++ drop 8 f.card) ∷ []) f.named
    ∙ ap (λ o. (unwrap_or o (padded (codes "ZSIMPLE")) ++ drop 8 f.card) ∷ []) simple-back)

simple-begins : (rest : List ℕ) (cards : List (List ℕ)) → BeginsWithS (header_bytes ((padded (codes "SIMPLE") ++ rest) ∷ cards))
simple-begins rest cards = refl

plain-begins : (cards : List (List ℕ)) → FindsSimple cards → BeginsWithS (header_bytes (plain_header cards))
unfolding plain_header
plain-begins cards f =
    let others : List (List ℕ) = size_cards cards ++ (flat_map (axis_card cards) (range_with_len 1 (axis_count cards)) ++ (count_cards cards ++ other_cards cards)) in
    subst (λ (l : List (List ℕ)). BeginsWithS (header_bytes (l ++ others))) (sym (leading cards f)) (simple-begins (drop 8 f.card) others)

none-of : (found : Option ℕ) → is_some found ≡ false → found ≡ None
none-of None e = refl
none-of (Some i) e = absurd cc

second-false : (a b : Bool) → (a && b) ≡ false → a ≡ true → b ≡ false
second-false true b e is = e
second-false false b e is = absurd cc

pub plain_begins : (h : Header) (header : List ℕ) (after_empty : Bool) (i : PackedImage) → image_to_unpack h header after_empty ≡ Ok (Some i) → i.plan.primary ≡ true →
    header_bytes (plain_header (cards_of header)) ≡ 83 ∷ drop 1 (header_bytes (plain_header (cards_of header)))
plain_begins h header after_empty i is primary =
    let pass = passes h header after_empty i is in
    let repeated : Option ℕ = first_repeat table_names counted_name (cards_of header) in
    let none : repeated ≡ None = none-of repeated (second-false (is_packed header h) (is_some repeated) (clear (table_card_checks h header) pass.cards).1.0 pass.packed) in
    plain-begins (cards_of header) (finds [] (cards_of header) none (was-one h header i pass.said primary))
