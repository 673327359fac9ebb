-- What a plan that the checks of a packed header give says of its cards.
use Rattle.std.proofs.Common.{◌≡◌, ℕ, ◌≤◌, Bool, false, List, [], ◌∷◌, ◌++◌, ap, sym, ◌∙◌, codes, arith}
use Rattle.std.specs.Prelude.{None, is_none}
use Rattle.std.specs.List.{flat_map, range_with_len}
use Rattle.std.proofs.lemmas.Bool.{ltb-false}
use Rattle.std.proofs.lemmas.List.FromFn.{length-map-range_with_len}
use Rattle.fz_base.specs.Refusal.{first_refusal}
use Rattle.fz_card.specs.Layout.{padded}
use Rattle.fz_card.specs.Made.{numbered_name}
use Rattle.fz_block.specs.Hdus.{cards_of}
use Rattle.fz_block.specs.declared.header.Header.{Header}
use Rattle.fz_head.specs.declared.plan.Plan.{Plan}
use Rattle.fz_head.specs.CardLists.{index_of}
use Rattle.fz_head.specs.Conditions.{IsPackedPlan}
use Rattle.fz_head.specs.PackedChecks.{axis_checks, axis_count_checks, bitpix_checks, codec_checks, grid_check, line_list_check, packed_checks, parameter_checks, plan_answer, row_check, scaling_check, shape_checks, sort_checks, tile_check}
use Rattle.fz_head.specs.PackedPlan.{numbered_in, plan_of_cards, size_of}
use Rattle.fz_head.specs.PlainHeader.{axis_count, was_primary}
use Rattle.fz_head.proofs.FrontCards.{clear, clear-each, clear-front, clear-rest}
use Rattle.fz_head.proofs.PlannedTiles.{unless-ok}

-- what checks that refuse nothing say of the cards of the axes and of the codec
record AreChecked (cards : List (List ℕ)) : Type 0 where
  few : axis_count cards ≤ 9
  codec : is_none (index_of (padded (codes "ZCMPTYPE")) cards) ≡ false
  axes : (i : ℕ) → 1 ≤ i → i ≤ axis_count cards → is_none (index_of (numbered_name (codes "ZNAXIS") i) cards) ≡ false

pub record Says (cards : List (List ℕ)) (p : Plan) : Type 0 where
  pub axes : p.shape.n ≡ axis_count cards
  pub primary : p.primary ≡ was_primary cards
  pub few : axis_count cards ≤ 9
  pub has_codec : is_none (index_of (padded (codes "ZCMPTYPE")) cards) ≡ false
  pub has_axes : (i : ℕ) → 1 ≤ i → i ≤ axis_count cards → is_none (index_of (numbered_name (codes "ZNAXIS") i) cards) ≡ false

checked : (k : ℕ) (header : List ℕ) (after_empty : Bool) → first_refusal (packed_checks k header after_empty) ≡ None → AreChecked (cards_of header)
checked k header after_empty e =
    let cards = cards_of header in
    let axes = range_with_len 1 (axis_count cards) in
    let five = sort_checks k cards after_empty ++ (line_list_check k cards ∷ row_check k header ∷ []) in
    let four = parameter_checks k cards ++ five in
    let three = shape_checks k cards ++ four in
    let two = bitpix_checks k cards ++ three in
    let one = codec_checks k cards ++ two in
    let codecs = clear-rest (scaling_check k cards ∷ []) one e in
    let later = clear-rest (bitpix_checks k cards) three (clear-rest (codec_checks k cards) two codecs) in
    let shape = clear-front (shape_checks k cards) four later in
    let tiles = flat_map (λ i. tile_check k cards i ∷ []) axes ++ grid_check k cards ∷ [] in
    let counts = clear-front (axis_count_checks k cards) (flat_map (axis_checks k cards) axes ++ tiles) shape in
    let lengths = clear-front (flat_map (axis_checks k cards) axes) tiles (clear-rest (axis_count_checks k cards) (flat_map (axis_checks k cards) axes ++ tiles) shape) in
    record {
      few = ltb-false 9 (axis_count cards) (clear (axis_count_checks k cards) counts).1.1.0;
      codec = (clear (codec_checks k cards) (clear-front (codec_checks k cards) two codecs)).0;
      axes = λ i low high. (clear (axis_checks k cards i) (clear-each (axis_checks k cards) 1 (axis_count cards) lengths i low (omega arith))).0;
    }

pub says : (header : List ℕ) (h : Header) (p : Plan) → IsPackedPlan header h p → Says (cards_of header) p
unfolding plan_answer plan_of_cards
says header h p planned =
    let ok = unless-ok (plan_of_cards (cards_of header)) p (first_refusal (packed_checks h.hdu header planned.after_empty)) planned.answer in
    let checks = checked h.hdu header planned.after_empty ok.0 in
    record {
      axes = sym (ap (λ (q : Plan). q.shape.n) ok.1) ∙ length-map-range_with_len (λ i. size_of (numbered_in (codes "ZNAXIS") i (cards_of header))) 1 (axis_count (cards_of header));
      primary = sym (ap (λ (q : Plan). q.primary) ok.1);
      few = checks.few;
      has_codec = checks.codec;
      has_axes = checks.axes;
    }
