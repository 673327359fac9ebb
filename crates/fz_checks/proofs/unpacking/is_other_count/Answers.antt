-- A card that is there says another count if its number is another.
use Rattle.std.proofs.Common.{◌≡◌, Bool, true, false, not, ◌&&◌, sym, ap, ◌∙◌, w64}
use Rattle.std.specs.Prelude.{is_some}
use Rattle.std.proofs.lemmas.Int.{to_z-of_z}
use Rattle.fz_card.specs.Reading.{integer_of}
use Rattle.fz_block.specs.Hdus.{cards_of}
use Rattle.fz_head.specs.CardLists.{index_of, the_card}
use Rattle.fz_head.specs.PackedChecks.{is_integer}
use Rattle.fz_checks.proofs.unpacking.is_other_count.Goals as goal

-- the first test of two fails, or the second counts
other : (b d x r : Bool) → d ≡ b → d ≡ false → r ≡ x → r ≡ (not b && x)
other b d x r same known is = is ∙ ap (λ t. not t && x) (sym known ∙ same)

none : (b d x : Bool) → d ≡ b → d ≡ true → not d ≡ (not b && x)
none b d x same known = ap not known ∙ ap (λ t. not t && x) (sym known ∙ same)

pub returns-then-not-stands : goal.returns-then-not-stands
returns-then-not-stands c =
    let name = c.args.name.now.bytes in
    let cards = cards_of c.args.buf.now in
    other _ c.stands.result _ c.says_other.result c.stands.ensures c.if-not-stands.true
    (c.says_other.ensures ∙ ap (λ v. is_some (index_of name cards) && not (is_integer v (integer_of (the_card name cards)))) (to_z-of_z w64 c.args.value c.ranges.value))

pub returns-else-not-stands : goal.returns-else-not-stands
returns-else-not-stands c = none _ c.stands.result _ c.stands.ensures c.if-not-stands.false
