-- Cards that are found by their index, and by themselves.
use Rattle.std.proofs.Common.{◌≡◌, ℕ, zero, suc, ◌+◌, ◌*◌, ◌<◌, Bool, true, false, cond, ltb, not, List, [], ◌∷◌, ◌++◌, length, drop, map, refl, ap, sym, ◌∙◌, arith, add-zero, zero-add, append-nil}
use Rattle.std.specs.Prelude.{Option, Some, None, slice_get, unwrap_or}
use Rattle.std.specs.Option.{option_map, option_to_list}
use Rattle.std.specs.List.{filter, find, flat_map, position, position_or_len, range_with_len}
use Rattle.std.proofs.lemmas.Bool.{ltb-false, ltb-true}
use Rattle.std.proofs.lemmas.Grind.{flat_map-append}
use Rattle.std.proofs.lemmas.List.{drop-drop, map-append, map-id}
use Rattle.std.proofs.lemmas.List.Folds.{find_at}
use Rattle.std.proofs.lemmas.List.Elements.{filter-append}
use Rattle.std.proofs.lemmas.List.FromFn.{get_or-map-range_with_len, length-map-range_with_len, map-range_with_len_more}
use Rattle.fz_card.specs.Layout.{card_name}
use Rattle.fz_card.specs.Naming.{is_in_some}
use Rattle.fz_card.specs.CardLists.{has_name}
use Rattle.fz_block.specs.Cards.{card_at, end_of, first_among}
use Rattle.fz_block.specs.Hdus.{cards_of}
use Rattle.fz_table.specs.Columns.{first_named}
use Rattle.fz_head.specs.PlainHeader.{is_kept, other_cards_of, part_cards_of, plain_card, whole_names}
use Rattle.fz_head.specs.Written.{Adds, first_cards, found_cards}
use Rattle.fz_head.proofs.CutTiles.{get-past, get-within}
use Rattle.fz_head.proofs.WrittenCards.{adds-same, adds-then}

-- the search over bytes, and that over the list of cards
found-from : ℕ → Option ℕ → Option ℕ
found-from a o = option_map (λ k. a + k) o

find-range : (has : List ℕ → Bool) (header : List ℕ) (a n : ℕ) (o : Option ℕ) → first_among has n (drop (80 * a) header) ≡ o →
    option_to_list (find has (map (card_at header) (range_with_len a n))) ≡ found_cards header (option_map (λ k. a + k) o)
unfolding first_among
find-range has header a zero o e = ap (λ p. found_cards header (option_map (λ k. a + k) p)) e
find-range has header a (suc n) o e =
    let on : 80 * a + 80 ≡ 80 * (a + 1) = omega arith in
    let next : drop 80 (drop (80 * a) header) ≡ drop (80 * (a + 1)) header = drop-drop 80 (80 * a) header ∙ ap (λ k. drop k header) on in
    by_test (has (card_at header a)) (first_among has n (drop 80 (drop (80 * a) header))) refl (find-range has header (a + 1) n (first_among has n (drop (80 * (a + 1)) header)) refl) (ap (first_among has n) next) o e
  where
    shifted : (p : Option ℕ) → option_map (λ k. a + k) (option_map suc p) ≡ option_map (λ k. a + 1 + k) p
    shifted None = refl
    shifted (Some k) = let same : a + suc k ≡ a + 1 + k = omega arith in ap Some same

    by_test : (t : Bool) (p : Option ℕ) → has (card_at header a) ≡ t → option_to_list (find has (map (card_at header) (range_with_len (a + 1) n))) ≡ found_cards header (option_map (λ k. a + 1 + k) (first_among has n (drop (80 * (a + 1)) header))) →
        p ≡ first_among has n (drop (80 * (a + 1)) header) → (o : Option ℕ) → cond t (Some 0) (option_map suc p) ≡ o →
        option_to_list (cond t (Some (card_at header a)) (find has (map (card_at header) (range_with_len (a + 1) n)))) ≡ found_cards header (option_map (λ k. a + k) o)
    by_test true p is rest same o e = ap (λ k. card_at header k ∷ []) (sym (add-zero a)) ∙ ap (λ q. found_cards header (option_map (λ k. a + k) q)) e
    by_test false p is rest same o e =
        rest ∙ (ap (λ q. found_cards header (option_map (λ k. a + 1 + k) q)) (sym same) ∙ (ap (found_cards header) (sym (shifted p)) ∙ ap (λ q. found_cards header (option_map (λ k. a + k) q)) e))

with-zero : (o : Option ℕ) → option_map (λ k. 0 + k) o ≡ o
with-zero None = refl
with-zero (Some k) = ap Some (zero-add k)

-- a card that is found by its name
pub named-cards : (header name : List ℕ) (found : Option ℕ) → found ≡ first_named name header → found_cards header found ≡ option_to_list (find (has_name name) (cards_of header))
unfolding first_named
named-cards header name found e =
    let count = unwrap_or (end_of header) 0 in
    let search : option_to_list (find (has_name name) (cards_of header)) ≡ found_cards header (option_map (λ k. 0 + k) found) = find-range (has_name name) header 0 count found (sym e) in
    ap (found_cards header) (sym (with-zero found)) ∙ sym search

-- a card that is found by a property
found-by : (has : List ℕ → Bool) (header : List ℕ) (n : ℕ) (t : Bool) → ltb (position_or_len has (first_cards header n)) (length (first_cards header n)) ≡ t →
    found_cards header (cond t (Some (position_or_len has (first_cards header n))) None) ≡ option_to_list (slice_get (first_cards header n) (position_or_len has (first_cards header n)))
found-by has header n true e =
    let k = position_or_len has (first_cards header n) in
    let inside = ltb-true k (length (first_cards header n)) e in
    let below : k < n = omega (arith, length-map-range_with_len (card_at header) 0 n) in
    sym (ap option_to_list (get-within (first_cards header n) k [] inside) ∙ ap (λ c. c ∷ []) (get_or-map-range_with_len (card_at header) 0 n k k [] below (zero-add k)))
found-by has header n false e =
    let k = position_or_len has (first_cards header n) in
    sym (ap option_to_list (get-past (first_cards header n) k (ltb-false k (length (first_cards header n)) e)))

pub position-cards : (has : List ℕ → Bool) (header : List ℕ) (n : ℕ) (found : Option ℕ) → found ≡ position has (first_cards header n) → found_cards header found ≡ option_to_list (find has (first_cards header n))
position-cards has header n found e =
    ap (found_cards header) e
    ∙ (found-by has header n (ltb (position_or_len has (first_cards header n)) (length (first_cards header n))) refl
    ∙ ap option_to_list (sym (find_at has (first_cards header n))))

-- cards that are filtered and renamed, one after another
others-append : (primary : Bool) (n : ℕ) (xs ys : List (List ℕ)) → other_cards_of primary n (xs ++ ys) ≡ other_cards_of primary n xs ++ other_cards_of primary n ys
others-append primary n xs ys = ap (map plain_card) (filter-append (is_kept primary n) xs ys) ∙ map-append plain_card (filter (is_kept primary n) xs) (filter (is_kept primary n) ys)

-- a card is kept with a part of the image
abbrev is-part : List ℕ → Bool
is-part card = not (is_in_some whole_names (card_name card))

parts-append : (primary : Bool) (n : ℕ) (xs ys : List (List ℕ)) → part_cards_of primary n (xs ++ ys) ≡ part_cards_of primary n xs ++ part_cards_of primary n ys
parts-append primary n xs ys = ap (filter is-part) (others-append primary n xs ys) ∙ filter-append is-part (other_cards_of primary n xs) (other_cards_of primary n ys)

-- what a list of cards makes, one card more
pub adds-one-more : (F : List (List ℕ) → List (List ℕ)) (buf : List ℕ) (i : ℕ) (card : List ℕ) (n0 n1 n2 : ℕ) (o0 o1 o2 : List ℕ) →
    ((xs ys : List (List ℕ)) → F (xs ++ ys) ≡ F xs ++ F ys) → card ≡ card_at buf i →
    Adds (F (first_cards buf i)) n0 o0 n1 o1 → Adds (F (card ∷ [])) n1 o1 n2 o2 → Adds (F (first_cards buf (i + 1))) n0 o0 n2 o2
adds-one-more F buf i card n0 n1 n2 o0 o1 o2 split is first second =
    adds-same (F (first_cards buf i) ++ F (card ∷ [])) (F (first_cards buf (i + 1))) n0 n2 o0 o2
    (sym (split (first_cards buf i) (card ∷ [])) ∙ (ap (λ c. F (first_cards buf i ++ c ∷ [])) is ∙ ap F (sym (map-range_with_len_more (card_at buf) 0 i i (zero-add i)))))
    (adds-then (F (first_cards buf i)) (F (card ∷ [])) n0 n1 n2 o0 o1 o2 first second)

pub others-more : (primary : Bool) (n : ℕ) (buf : List ℕ) (i : ℕ) (card : List ℕ) (n0 n1 n2 : ℕ) (o0 o1 o2 : List ℕ) → card ≡ card_at buf i →
    Adds (other_cards_of primary n (first_cards buf i)) n0 o0 n1 o1 → Adds (other_cards_of primary n (card ∷ [])) n1 o1 n2 o2 → Adds (other_cards_of primary n (first_cards buf (i + 1))) n0 o0 n2 o2
others-more primary n buf i card n0 n1 n2 o0 o1 o2 is first second = adds-one-more (other_cards_of primary n) buf i card n0 n1 n2 o0 o1 o2 (others-append primary n) is first second

pub parts-more : (primary : Bool) (n : ℕ) (buf : List ℕ) (i : ℕ) (card : List ℕ) (n0 n1 n2 : ℕ) (o0 o1 o2 : List ℕ) → card ≡ card_at buf i →
    Adds (part_cards_of primary n (first_cards buf i)) n0 o0 n1 o1 → Adds (part_cards_of primary n (card ∷ [])) n1 o1 n2 o2 → Adds (part_cards_of primary n (first_cards buf (i + 1))) n0 o0 n2 o2
parts-more primary n buf i card n0 n1 n2 o0 o1 o2 is first second = adds-one-more (part_cards_of primary n) buf i card n0 n1 n2 o0 o1 o2 (parts-append primary n) is first second

-- what numbers make, one number more
flat-more : (g : ℕ → List (List ℕ)) (a i j : ℕ) → a + i ≡ j → flat_map g (range_with_len a (i + 1)) ≡ flat_map g (range_with_len a i) ++ g j
flat-more g a i j at = ap (flat_map g) (range-more a i j at) ∙ (flat_map-append g (range_with_len a i) (j ∷ []) ∙ ap (λ l. flat_map g (range_with_len a i) ++ l) (append-nil (g j)))
  where
    range-more : (a i j : ℕ) → a + i ≡ j → range_with_len a (i + 1) ≡ range_with_len a i ++ j ∷ []
    range-more a i j at = sym (map-id (range_with_len a (i + 1))) ∙ (map-range_with_len_more (λ k. k) a i j at ∙ ap (λ l. l ++ j ∷ []) (map-id (range_with_len a i)))

pub adds-flat : (g : ℕ → List (List ℕ)) (a i j : ℕ) (cards : List (List ℕ)) (n0 n1 n2 : ℕ) (o0 o1 o2 : List ℕ) → a + i ≡ j → cards ≡ g j →
    Adds (flat_map g (range_with_len a i)) n0 o0 n1 o1 → Adds cards n1 o1 n2 o2 → Adds (flat_map g (range_with_len a (i + 1))) n0 o0 n2 o2
adds-flat g a i j cards n0 n1 n2 o0 o1 o2 at is first second =
    adds-same (flat_map g (range_with_len a i) ++ cards) (flat_map g (range_with_len a (i + 1))) n0 n2 o0 o2 (ap (λ l. flat_map g (range_with_len a i) ++ l) is ∙ sym (flat-more g a i j at))
    (adds-then (flat_map g (range_with_len a i)) cards n0 n1 n2 o0 o1 o2 first second)
