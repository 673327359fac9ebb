-- Cards that are found by their index, and by themselves.
use Rattle.std.proofs.Common.{◌≡◌, ℕ, zero, suc, ◌+◌, ◌*◌, Bool, true, false, cond, List, [], ◌∷◌, drop, map, refl, ap, sym, ◌∙◌, arith, add-zero, zero-add}
use Rattle.std.specs.Prelude.{Option, Some, None, unwrap_or}
use Rattle.std.specs.Option.{option_map, option_to_list}
use Rattle.std.specs.List.{find, range_with_len}
use Rattle.std.proofs.lemmas.List.{drop-drop}
use Rattle.fz_card.specs.CardLists.{has_name}
use Rattle.fz_block.specs.Cards.{card_at, end_of, first_among}
use Rattle.fz_block.specs.Hdus.{cards_of}
use Rattle.fz_table.specs.Columns.{first_named}
use Rattle.fz_head.specs.Written.{found_cards}

find-range : (has : List ℕ → Bool) (header : List ℕ) (a n : ℕ) (o : Option ℕ) → first_among has n (drop (80 * a) header) ≡ o →
    option_to_list (find has (map (card_at header) (range_with_len a n))) ≡ found_cards header (option_map (λ k. a + k) o)
unfolding first_among
find-range has header a zero o e = ap (λ p. found_cards header (option_map (λ k. a + k) p)) e
find-range has header a (suc n) o e =
    let on : 80 * a + 80 ≡ 80 * (a + 1) = omega arith in
    let next : drop 80 (drop (80 * a) header) ≡ drop (80 * (a + 1)) header = drop-drop 80 (80 * a) header ∙ ap (λ k. drop k header) on in
    by_test (has (card_at header a)) (first_among has n (drop 80 (drop (80 * a) header))) refl (find-range has header (a + 1) n (first_among has n (drop (80 * (a + 1)) header)) refl) (ap (first_among has n) next) o e
  where
    shifted : (p : Option ℕ) → option_map (λ k. a + k) (option_map suc p) ≡ option_map (λ k. a + 1 + k) p
    shifted None = refl
    shifted (Some k) = let same : a + suc k ≡ a + 1 + k = omega arith in ap Some same

    by_test : (t : Bool) (p : Option ℕ) → has (card_at header a) ≡ t → option_to_list (find has (map (card_at header) (range_with_len (a + 1) n))) ≡ found_cards header (option_map (λ k. a + 1 + k) (first_among has n (drop (80 * (a + 1)) header))) →
        p ≡ first_among has n (drop (80 * (a + 1)) header) → (o : Option ℕ) → cond t (Some 0) (option_map suc p) ≡ o →
        option_to_list (cond t (Some (card_at header a)) (find has (map (card_at header) (range_with_len (a + 1) n)))) ≡ found_cards header (option_map (λ k. a + k) o)
    by_test true p is rest same o e = ap (λ k. card_at header k ∷ []) (sym (add-zero a)) ∙ ap (λ q. found_cards header (option_map (λ k. a + k) q)) e
    by_test false p is rest same o e =
        rest ∙ (ap (λ q. found_cards header (option_map (λ k. a + 1 + k) q)) (sym same) ∙ (ap (found_cards header) (sym (shifted p)) ∙ ap (λ q. found_cards header (option_map (λ k. a + k) q)) e))

with-zero : (o : Option ℕ) → option_map (λ k. 0 + k) o ≡ o
with-zero None = refl
with-zero (Some k) = ap Some (zero-add k)

-- a card that is found by its name
pub named-cards : (header name : List ℕ) (found : Option ℕ) → found ≡ first_named name header → found_cards header found ≡ option_to_list (find (has_name name) (cards_of header))
unfolding first_named
named-cards header name found e =
    let count = unwrap_or (end_of header) 0 in
    let search : option_to_list (find (has_name name) (cards_of header)) ≡ found_cards header (option_map (λ k. 0 + k) found) = find-range (has_name name) header 0 count found (sym e) in
    ap (found_cards header) (sym (with-zero found)) ∙ sym search
