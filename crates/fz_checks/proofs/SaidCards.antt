-- The first card of a name, by its index and by itself.
use Rattle.std.proofs.Common.{◌≡◌, ℕ, zero, suc, ◌+◌, ◌*◌, Bool, true, false, cond, ltb, not, List, [], ◌∷◌, length, drop, map, refl, ap, sym, ◌∙◌, arith}
use Rattle.std.specs.Prelude.{Option, Some, None, IfNone, IfSome, is_none, unwrap_or}
use Rattle.std.specs.Option.{option_map, option_to_list}
use Rattle.std.specs.List.{find, position, position_or_len, range_with_len}
use Rattle.std.proofs.lemmas.Bool.{lt-ltb}
use Rattle.std.proofs.lemmas.Bool.Decides.{nat_tests}
use Rattle.std.proofs.lemmas.List.{drop-drop}
use Rattle.fz_base.specs.Refusal.{first_refusal, refusal}
use Rattle.fz_base.specs.declared.fault.Place.TheVariants.{Card}
use Rattle.fz_base.specs.declared.kind.Kind.TheVariants.{BadCard}
use Rattle.fz_card.specs.Reading.{integer_of, logical_of, text_of}
use Rattle.fz_card.specs.CardLists.{has_name}
use Rattle.fz_block.specs.Cards.{card_at, end_of, first_among}
use Rattle.fz_block.specs.Facts.{IsHeaderOf}
use Rattle.fz_block.specs.declared.header.Header.{Header}
use Rattle.fz_block.specs.Hdus.{cards_of}
use Rattle.fz_table.specs.Columns.{first_named}
use Rattle.fz_head.specs.CardLists.{index_of, the_card}
use Rattle.fz_head.specs.PackedChecks.{missing}
use Rattle.fz_checks.proofs.FoundCards.{named-cards}
use Rattle.fz_checks.proofs.PackAnswers.{cards-count}

one-later : (b : Bool) (n : ℕ) → cond b (Some (1 + n)) None ≡ option_map suc (cond b (Some n) None)
one-later true n = let e : 1 + n ≡ suc n = omega arith in ap Some e
one-later false n = refl

same-bound : (a b : ℕ) → ltb (1 + a) (suc b) ≡ ltb a b
same-bound a b = grind (arith, nat_tests)

pub position-step : {X : Type 0} (has : X → Bool) (x : X) (xs : List X) → position has (x ∷ xs) ≡ cond (has x) (Some 0) (option_map suc (position has xs))
position-step has x xs = by_test (has x)
  where
    by_test : (b : Bool) → cond (ltb (cond (not b) (1 + position_or_len has xs) 0) (suc (length xs))) (Some (cond (not b) (1 + position_or_len has xs) 0)) None ≡ cond b (Some 0) (option_map suc (position has xs))
    by_test true = ap (λ t. cond t (Some 0) None) (lt-ltb 0 (suc (length xs)) (omega arith))
    by_test false = ap (λ t. cond t (Some (1 + position_or_len has xs)) None) (same-bound (position_or_len has xs) (length xs)) ∙ one-later (ltb (position_or_len has xs) (length xs)) (position_or_len has xs)

position-range : (has : List ℕ → Bool) (header : List ℕ) (a n : ℕ) → position has (map (card_at header) (range_with_len a n)) ≡ first_among has n (drop (80 * a) header)
unfolding first_among
position-range has header a zero = refl
position-range has header a (suc n) =
    let on : 80 * a + 80 ≡ 80 * (a + 1) = omega arith in
    let next : drop 80 (drop (80 * a) header) ≡ drop (80 * (a + 1)) header = drop-drop 80 (80 * a) header ∙ ap (λ k. drop k header) on in
    position-step has (card_at header a) (map (card_at header) (range_with_len (a + 1) n))
    ∙ (ap (λ o. cond (has (card_at header a)) (Some 0) (option_map suc o)) (position-range has header (a + 1) n)
    ∙ ap (λ l. cond (has (card_at header a)) (Some 0) (option_map suc (first_among has n l))) (sym next))

pub index-named : (header name : List ℕ) (found : Option ℕ) → found ≡ first_named name header → found ≡ index_of name (cards_of header)
unfolding first_named
index-named header name found e = e ∙ sym (position-range (has_name name) header 0 (unwrap_or (end_of header) 0))

-- the first card itself
only : (o : Option (List ℕ)) (c : List ℕ) → c ∷ [] ≡ option_to_list o → unwrap_or o [] ≡ c
only None c e = cc
only (Some d) c e = cc

nothing : (o : Option (List ℕ)) → [] ≡ option_to_list o → unwrap_or o [] ≡ []
nothing None e = refl
nothing (Some d) e = cc

pub said-card : (header name : List ℕ) (found : Option ℕ) → found ≡ first_named name header → IfSome found (λ i. the_card name (cards_of header) ≡ card_at header i)
said-card header name None e = tt
said-card header name (Some i) e = only (find (has_name name) (cards_of header)) (card_at header i) (named-cards header name (Some i) e)

pub said-none : (header name : List ℕ) (found : Option ℕ) → found ≡ first_named name header → IfNone found (the_card name (cards_of header) ≡ [])
said-none header name None e = nothing (find (has_name name) (cards_of header)) (named-cards header name None e)
said-none header name (Some i) e = tt

-- no bytes say nothing
pub integer-nothing : integer_of [] ≡ None
unfolding integer_of
integer-nothing = refl

pub logical-nothing : logical_of [] ≡ None
unfolding logical_of
logical-nothing = refl

pub text-nothing : text_of [] ≡ None
unfolding text_of
text-nothing = refl

pub ruleset nothing_said = (integer-nothing, logical-nothing, text-nothing)

-- a card that must be there is not
pub missing-found : (k : ℕ) (header name : List ℕ) (h : Header) → IsHeaderOf header h → None ≡ index_of name (cards_of header) → first_refusal (missing k name (cards_of header) ∷ []) ≡ Some (refusal k (Card h.cards) BadCard)
missing-found k header name h is e =
    ap (λ o. first_refusal ((is_none o, refusal k (Card (length (cards_of header))) BadCard) ∷ [])) (sym e)
    ∙ ap (λ n. Some (refusal k (Card n) BadCard)) (cards-count header h is)
