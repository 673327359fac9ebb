-- The checks of an image to be packed, one after another: the first that refuses.
use Rattle.std.proofs.Common.{◌≡◌, ℕ, ◌+◌, ◌-◌, ◌<◌, ◌≤◌, suc, Bool, true, List, [], ◌∷◌, ◌++◌, length, map, ap, sym, ◌∙◌, subst, arith, codes}
use Rattle.std.specs.Prelude.{Option, Some, None, Ok, Err, slice_index}
use Rattle.std.proofs.lemmas.List.{length-append, length-map}
use Rattle.std.proofs.lemmas.List.FromFn.{length-map-range_with_len}
use Rattle.fz_base.specs.Refusal.{first_refusal}
use Rattle.fz_base.specs.declared.fault.Fault.{Fault}
use Rattle.fz_block.specs.Cards.{card_at}
use Rattle.fz_block.specs.Checks.{unless_refused}
use Rattle.fz_block.specs.Facts.{IsHeaderOf, nine_axes}
use Rattle.fz_block.specs.Hdus.{axes_of, cards_of}
use Rattle.fz_block.specs.declared.axes.Axes.{Axes}
use Rattle.fz_block.specs.declared.header.Header.{Header}
use Rattle.fz_grid.specs.Region.{lengths_of}
use Rattle.fz_head.specs.declared.options.PackOptions.{PackOptions}
use Rattle.fz_head.specs.declared.plan.Plan.{Plan}
use Rattle.fz_head.specs.declared.totals.Totals.{Totals}
use Rattle.fz_head.specs.Packable.{is_packable}
use Rattle.fz_head.specs.PackChecks.{name_checks, limit_checks, offset_check, pack_answer}
use Rattle.fz_head.specs.PackedHeader.{table_cards, column_cards, tile_cards, parameter_cards, made_cards, packed_card, packed_header, sum_cards, numbered_number_card}
use Rattle.fz_head.specs.Planned.{AreOptions, asked_tile, cut_tile, pack_plan_of}
use Rattle.fz_head.specs.Written.{first_cards}
use Rattle.fz_head.proofs.FrontCards.{header-cards}
use Rattle.fz_head.proofs.PlannedTiles.{ArePositive, asked-positive, axes-few, cut-between, length-cut_tile, lengths-nine_axes, nine-entry, packable-parts}
use Rattle.fz_head.proofs.RefusalLists.{passed, stopped}

pub in-names : (o : PackOptions) (h : Header) (header : List ℕ) (x : Fault) → first_refusal (name_checks h header) ≡ Some x → pack_answer o h header ≡ Err x
unfolding pack_answer
in-names o h header x e = ap (unless_refused (pack_plan_of o h)) (stopped (name_checks h header) (limit_checks h (pack_plan_of o h) o.sums (cards_of header) ++ offset_check h (pack_plan_of o h).codec (cards_of header) ∷ []) x e)

pub in-limits : (o : PackOptions) (h : Header) (header : List ℕ) (x : Fault) → first_refusal (name_checks h header) ≡ None → first_refusal (limit_checks h (pack_plan_of o h) o.sums (cards_of header)) ≡ Some x → pack_answer o h header ≡ Err x
unfolding pack_answer
in-limits o h header x one e =
    ap (unless_refused (pack_plan_of o h))
    (passed (name_checks h header) (limit_checks h (pack_plan_of o h) o.sums (cards_of header) ++ offset_check h (pack_plan_of o h).codec (cards_of header) ∷ []) one
    ∙ stopped (limit_checks h (pack_plan_of o h) o.sums (cards_of header)) (offset_check h (pack_plan_of o h).codec (cards_of header) ∷ []) x e)

in-rest : (o : PackOptions) (h : Header) (header : List ℕ) → first_refusal (name_checks h header) ≡ None → first_refusal (limit_checks h (pack_plan_of o h) o.sums (cards_of header)) ≡ None →
    pack_answer o h header ≡ unless_refused (pack_plan_of o h) (first_refusal (offset_check h (pack_plan_of o h).codec (cards_of header) ∷ []))
unfolding pack_answer
in-rest o h header one two =
    ap (unless_refused (pack_plan_of o h))
    (passed (name_checks h header) (limit_checks h (pack_plan_of o h) o.sums (cards_of header) ++ offset_check h (pack_plan_of o h).codec (cards_of header) ∷ []) one
    ∙ passed (limit_checks h (pack_plan_of o h) o.sums (cards_of header)) (offset_check h (pack_plan_of o h).codec (cards_of header) ∷ []) two)

pub in-offset : (o : PackOptions) (h : Header) (header : List ℕ) (x : Fault) → first_refusal (name_checks h header) ≡ None → first_refusal (limit_checks h (pack_plan_of o h) o.sums (cards_of header)) ≡ None →
    first_refusal (offset_check h (pack_plan_of o h).codec (cards_of header) ∷ []) ≡ Some x → pack_answer o h header ≡ Err x
in-offset o h header x one two e = in-rest o h header one two ∙ ap (unless_refused (pack_plan_of o h)) e

pub in-none : (o : PackOptions) (h : Header) (header : List ℕ) → first_refusal (name_checks h header) ≡ None → first_refusal (limit_checks h (pack_plan_of o h) o.sums (cards_of header)) ≡ None →
    first_refusal (offset_check h (pack_plan_of o h).codec (cards_of header) ∷ []) ≡ None → pack_answer o h header ≡ Ok (pack_plan_of o h)
in-none o h header one two e = in-rest o h header one two ∙ ap (unless_refused (pack_plan_of o h)) e

-- how many cards there are before END
pub cards-count : (header : List ℕ) (h : Header) → IsHeaderOf header h → length (cards_of header) ≡ h.cards
cards-count header h is = ap length (header-cards header h is) ∙ length-map-range_with_len (card_at header) 0 h.cards

-- the same checks, of the plan as it was made and of the first cards
pub limits-of : (o : PackOptions) (h : Header) (p : Plan) (sums : Bool) (cards : List (List ℕ)) (answer : Option Fault) → p ≡ pack_plan_of o h → first_refusal (limit_checks h p sums cards) ≡ answer → first_refusal (limit_checks h (pack_plan_of o h) sums cards) ≡ answer
limits-of o h p sums cards answer same e = subst (λ q. first_refusal (limit_checks h q sums cards) ≡ answer) same e

pub offset-of : (o : PackOptions) (h : Header) (header : List ℕ) (p : Plan) (answer : Option Fault) → IsHeaderOf header h → p ≡ pack_plan_of o h → first_refusal (offset_check h p.codec (first_cards header h.cards) ∷ []) ≡ answer →
    first_refusal (offset_check h (pack_plan_of o h).codec (cards_of header) ∷ []) ≡ answer
offset-of o h header p answer is same e =
    subst (λ cards. first_refusal (offset_check h (pack_plan_of o h).codec cards ∷ []) ≡ answer) (sym (header-cards header h is)) (subst (λ (q : Plan). first_refusal (offset_check h q.codec (first_cards header h.cards) ∷ []) ≡ answer) same e)

-- what the limits are asked of
pub record HasTile (p : Plan) : Type 0 where
  pub few : p.shape.n ≤ 9
  pub same : p.tile.n ≡ p.shape.n
  pub positive : (i : ℕ) → i < p.shape.n → 1 ≤ slice_index p.tile.len i

pub has-tile : (o : PackOptions) (header : List ℕ) (h : Header) → AreOptions o → IsHeaderOf header h → is_packable h ≡ true → HasTile (pack_plan_of o h)
unfolding pack_plan_of
has-tile o header h options is packable = record {
  few = axes-few header h is;
  same = length-cut_tile (lengths_of h.axes) (asked_tile o.tile (lengths_of h.axes)) ∙ long;
  positive = λ i below.
      let inside : i < length (lengths_of h.axes) = omega (arith, long) in
      subst (λ k. 1 ≤ k) (sym (nine-entry (cut_tile (lengths_of h.axes) (asked_tile o.tile (lengths_of h.axes))) i (omega (arith, length-cut_tile (lengths_of h.axes) (asked_tile o.tile (lengths_of h.axes))))))
      (cut-between (lengths_of h.axes) (asked_tile o.tile (lengths_of h.axes)) all (asked-positive o.tile (lengths_of h.axes) options.tile all) i inside).0;
}
  where
    axes : h.axes ≡ nine_axes (axes_of header)
    axes = ap (λ (f : Header). f.axes) is.facts

    long : length (lengths_of h.axes) ≡ h.axes.n
    long = ap (λ a. length (lengths_of a)) axes ∙ (ap length (lengths-nine_axes (axes_of header)) ∙ sym (ap (λ (a : Axes). a.n) axes))

    all : ArePositive (lengths_of h.axes)
    all = (packable-parts h packable).all

pub tile-of : (p q : Plan) → p ≡ q → HasTile q → HasTile p
tile-of p q same has = subst HasTile (sym same) has

-- how many cards a packed header has
length-tile_cards : (p : Plan) → length (tile_cards p) ≡ 2 + p.shape.n
length-tile_cards p = ap (λ n. suc (suc n)) (length-map-range_with_len (λ i. numbered_number_card (codes "ZTILE") i (slice_index p.tile.len (i - 1))) 1 p.shape.n) ∙ omega arith

pub length-packed_header : (cards : List (List ℕ)) (p : Plan) (s : Totals) → length (packed_header cards p s) ≡ 14 + p.shape.n + length (parameter_cards p.codec) + length cards + length (sum_cards s.sums)
unfolding packed_header
length-packed_header cards p s =
    omega (
      arith,
      length-append (made_cards p s) (map packed_card cards ++ sum_cards s.sums),
      length-append (map packed_card cards) (sum_cards s.sums),
      length-map cards packed_card,
      length-append (table_cards p s) (column_cards p s ++ (tile_cards p ++ parameter_cards p.codec)),
      length-append (column_cards p s) (tile_cards p ++ parameter_cards p.codec),
      length-append (tile_cards p) (parameter_cards p.codec),
      length-tile_cards p,
    )
