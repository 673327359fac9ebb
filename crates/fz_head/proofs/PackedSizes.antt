-- How many cards a packed header has.
use Rattle.std.proofs.Common.{◌≡◌, ℕ, ◌+◌, ◌<◌, ◌≤◌, ◌∷◌, [], ◌++◌, List, length, map, sym, ap, ◌∙◌, subst, arith, length-append}
use Rattle.std.specs.Prelude.{Ok}
use Rattle.std.proofs.lemmas.Bool.{ltb-false}
use Rattle.fz_base.specs.Refusal.{first_refusal}
use Rattle.fz_block.specs.Hdus.{cards_of}
use Rattle.fz_block.specs.declared.header.Header.{Header}
use Rattle.fz_head.specs.declared.options.PackOptions.{PackOptions}
use Rattle.fz_head.specs.declared.plan.Plan.{Plan}
use Rattle.fz_head.specs.declared.totals.Totals.{Totals}
use Rattle.fz_head.specs.PackChecks.{pack_answer, pack_checks, name_checks, limit_checks, offset_check, no_totals}
use Rattle.fz_head.specs.PackedHeader.{made_cards, packed_card, packed_header, packed_with, parameter_cards, sum_cards}
use Rattle.fz_head.specs.Planned.{pack_plan_of}
use Rattle.fz_head.specs.ThereAndBack.{IsPacking}
use Rattle.fz_head.proofs.FrontCards.{clear, clear-front, clear-rest}
use Rattle.fz_head.proofs.PackAnswers.{length-packed_header}
use Rattle.fz_head.proofs.PlannedTiles.{unless-ok}

pub same-count : (cards : List (List ℕ)) (p : Plan) (s t : Totals) → s.sums ≡ t.sums → length (packed_header cards p s) ≡ length (packed_header cards p t)
same-count cards p s t same =
    length-packed_header cards p s ∙ (ap (λ b. 14 + p.shape.n + length (parameter_cards p.codec) + length cards + length (sum_cards b)) same ∙ sym (length-packed_header cards p t))

pub few-cards : (o : PackOptions) (h : Header) (header : List ℕ) (p : Plan) (s : Totals) → pack_answer o h header ≡ Ok p → s.sums ≡ o.sums → length (packed_header (cards_of header) p s) < 9216
unfolding pack_answer
few-cards o h header p s answer same =
    let ok = unless-ok (pack_plan_of o h) p (first_refusal (pack_checks o h header)) answer in
    let limits = clear (limit_checks h (pack_plan_of o h) o.sums (cards_of header)) (clear-front (limit_checks h (pack_plan_of o h) o.sums (cards_of header)) (offset_check h (pack_plan_of o h).codec (cards_of header) ∷ []) (clear-rest (name_checks h header) _ ok.0)) in
    let few : length (packed_header (cards_of header) (pack_plan_of o h) (no_totals o.sums)) + 1 ≤ 9216 = ltb-false 9216 _ limits.1.1.1.0 in
    let here : length (packed_header (cards_of header) p (no_totals o.sums)) + 1 ≤ 9216 = subst (λ (q : Plan). length (packed_header (cards_of header) q (no_totals o.sums)) + 1 ≤ 9216) ok.1 few in
    omega (arith, here, same-count (cards_of header) p s (no_totals o.sums) same)

-- any cards of sums, as many as the blank ones
with-sums : (cards : List (List ℕ)) (p : Plan) (s : Totals) (sums : List (List ℕ)) → length sums ≡ length (sum_cards s.sums) → length (packed_with cards p s sums) ≡ length (packed_header cards p s)
unfolding packed_header
with-sums cards p s sums same =
    omega (
      arith,
      same,
      length-append (made_cards p s) (map packed_card cards ++ sums),
      length-append (map packed_card cards) sums,
      length-append (made_cards p s) (map packed_card cards ++ sum_cards s.sums),
      length-append (map packed_card cards) (sum_cards s.sums),
    )

pub packing-few : (header : List ℕ) (h : Header) (p : Plan) (s : Totals) (sums : List (List ℕ)) → IsPacking header h p s sums → length (packed_with (cards_of header) p s sums) < 9216
packing-few header h p s sums is = omega (arith, with-sums (cards_of header) p s sums is.count, few-cards is.plan.options h header p s is.plan.answer (sym is.plan.with_sums))
