use Rattle.std.proofs.Common.{◌≡◌, ℕ, List, [], ◌++◌, map, sym, ap, ◌∙◌, append_assoc, append-nil}
use Rattle.fz_head.specs.declared.plan.Plan.{Plan}
use Rattle.fz_head.specs.declared.totals.Totals.{Totals}
use Rattle.fz_head.specs.PackedHeader.{made_cards, packed_card, packed_with}
use Rattle.fz_head.proofs.MadeCards.{datasum-is, checksum-is, blanks-are, sums-dropped}
use Rattle.fz_head.proofs.law.sum_cards_law.Goals as goal

pub returns-clause-datasum : goal.returns-clause-datasum
returns-clause-datasum c = datasum-is c.card_laws.ensures

pub returns-clause-checksum : goal.returns-clause-checksum
returns-clause-checksum c = checksum-is c.card_laws.ensures

pub returns-clause-blank : goal.returns-clause-blank
returns-clause-blank c = blanks-are c.card_laws.ensures

pub returns-clause-dropped : goal.returns-clause-dropped
returns-clause-dropped c = sums-dropped

comes-last : (cards : List (List ℕ)) (p : Plan) (s : Totals) (sums : List (List ℕ)) → packed_with cards p s sums ≡ packed_with cards p s [] ++ sums
comes-last cards p s sums =
    ap (λ l. made_cards p s ++ (l ++ sums)) (sym (append-nil (map packed_card cards))) ∙ sym (append_assoc (made_cards p s) (map packed_card cards ++ []) sums)

pub returns-clause-last : goal.returns-clause-last
returns-clause-last c = comes-last
