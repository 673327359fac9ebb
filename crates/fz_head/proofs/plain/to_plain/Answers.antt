-- The cards of the image, one after another.
use Rattle.std.proofs.Common.{◌≡◌, ℕ, ◌+◌, ◌*◌, ◌≤◌, List, [], ◌++◌, length, sym, ap, ◌∙◌, arith}
use Rattle.std.specs.List.{flat_map, range_with_len}
use Rattle.fz_block.specs.Facts.{IsHeaderOf}
use Rattle.fz_block.specs.Header.{whole_blocks_of}
use Rattle.fz_block.specs.Hdus.{cards_of}
use Rattle.fz_block.specs.declared.header.Header.{Header}
use Rattle.fz_head.specs.declared.plan.Plan.{Plan}
use Rattle.fz_head.specs.PlainHeader.{axis_card, axis_count, count_cards, count_cards_of, leading_card, other_cards, other_cards_of, plain_header, size_cards, was_primary}
use Rattle.fz_head.specs.Written.{AreWritten, Adds, first_cards}
use Rattle.fz_head.proofs.FrontCards.{header-cards, header-end}
use Rattle.fz_head.proofs.PackedPlans.{Says, says}
use Rattle.fz_head.proofs.RestoredHeaders.{plain-short}
use Rattle.fz_head.proofs.WrittenCards.{adds-same, adds-then, blocks-enough, written-none}
use Rattle.fz_head.proofs.plain.to_plain.Goals as goal

pub put_axis_cards-count-requires-clause-few : goal.put_axis_cards-count-requires-clause-few
put_axis_cards-count-requires-clause-few c =
    let said = says c.args.buf.now c.args.header.now c.args.plan.now c.requires.plan in
    let few : c.args.plan.now.shape.n ≤ 9 = omega (arith, said.axes, said.few) in
    let end = (header-end c.args.buf.now c.args.header.now c.requires.header).within in
    omega arith

pub put_axis_cards-count-requires-clause-room : goal.put_axis_cards-count-requires-clause-room
put_axis_cards-count-requires-clause-room c =
    let said = says c.args.buf.now c.args.header.now c.args.plan.now c.requires.plan in
    let few : c.args.plan.now.shape.n ≤ 9 = omega (arith, said.axes, said.few) in
    let end = (header-end c.args.buf.now c.args.header.now c.requires.header).within in
    omega arith

pub put_count_cards-count-requires-clause-room : goal.put_count_cards-count-requires-clause-room
put_count_cards-count-requires-clause-room c =
    let said = says c.args.buf.now c.args.header.now c.args.plan.now c.requires.plan in
    let few : c.args.plan.now.shape.n ≤ 9 = omega (arith, said.axes, said.few) in
    let end = (header-end c.args.buf.now c.args.header.now c.requires.header).within in
    omega arith

pub put_other_cards-count-requires-clause-cards : goal.put_other_cards-count-requires-clause-cards
put_other_cards-count-requires-clause-cards c =
    let said = says c.args.buf.now c.args.header.now c.args.plan.now c.requires.plan in
    let few : c.args.plan.now.shape.n ≤ 9 = omega (arith, said.axes, said.few) in
    let end = (header-end c.args.buf.now c.args.header.now c.requires.header).within in
    omega arith

pub put_other_cards-count-requires-clause-room : goal.put_other_cards-count-requires-clause-room
put_other_cards-count-requires-clause-room c =
    let said = says c.args.buf.now c.args.header.now c.args.plan.now c.requires.plan in
    let few : c.args.plan.now.shape.n ≤ 9 = omega (arith, said.axes, said.few) in
    let end = (header-end c.args.buf.now c.args.header.now c.requires.header).within in
    omega arith

pub finish-requires : goal.finish-requires
finish-requires c =
    let said = says c.args.buf.now c.args.header.now c.args.plan.now c.requires.plan in
    let few : c.args.plan.now.shape.n ≤ 9 = omega (arith, said.axes, said.few) in
    let end = (header-end c.args.buf.now c.args.header.now c.requires.header).within in
    let more : c.put_other_cards-count.result ≤ c.args.header.now.cards + 29 = omega arith in
    let enough = blocks-enough c.requires.header.whole.before c.args.header.now.cards c.put_other_cards-count.result (length c.args.buf.now) c.requires.header.whole.blocks end more in
    omega arith

-- all cards were written
all-written : (buf : List ℕ) (header : Header) (plan : Plan) (n1 n2 n3 n4 n5 : ℕ) (o0 o1 o2 o3 o4 o5 : List ℕ) → IsHeaderOf buf header → Says (cards_of buf) plan →
    Adds (leading_card (cards_of buf)) 0 o0 n1 o1 → Adds (size_cards (cards_of buf)) n1 o1 n2 o2 → Adds (flat_map (axis_card (cards_of buf)) (range_with_len 1 plan.shape.n)) n2 o2 n3 o3 →
    Adds (count_cards_of plan.primary (cards_of buf)) n3 o3 n4 o4 → Adds (other_cards_of plan.primary plan.shape.n (first_cards buf header.cards)) n4 o4 n5 o5 → AreWritten (plain_header (cards_of buf)) n5 o5
unfolding plain_header
all-written buf header plan n1 n2 n3 n4 n5 o0 o1 o2 o3 o4 o5 is said a1 a2 a3 a4 a5 =
    let cards = cards_of buf in
    let axes = flat_map (axis_card cards) (range_with_len 1 (axis_count cards)) in
    let A3 = adds-same (flat_map (axis_card cards) (range_with_len 1 plan.shape.n)) axes n2 n3 o2 o3 (ap (λ n. flat_map (axis_card cards) (range_with_len 1 n)) said.axes) a3 in
    let A4 = adds-same (count_cards_of plan.primary cards) (count_cards cards) n3 n4 o3 o4 (ap (λ b. count_cards_of b cards) said.primary) a4 in
    let A5 = adds-same (other_cards_of plan.primary plan.shape.n (first_cards buf header.cards)) (other_cards cards) n4 n5 o4 o5
    (ap (λ b. other_cards_of b plan.shape.n (first_cards buf header.cards)) said.primary ∙ (ap (λ n. other_cards_of (was_primary cards) n (first_cards buf header.cards)) said.axes ∙ ap (other_cards_of (was_primary cards) (axis_count cards)) (sym (header-cards buf header is)))) a5 in
    let from_counts = adds-then (count_cards cards) (other_cards cards) n3 n4 n5 o3 o4 o5 A4 A5 in
    let from_axes = adds-then axes (count_cards cards ++ other_cards cards) n2 n3 n5 o2 o3 o5 A3 from_counts in
    let from_size = adds-then (size_cards cards) (axes ++ (count_cards cards ++ other_cards cards)) n1 n2 n5 o1 o2 o5 a2 from_axes in
    adds-then (leading_card cards) (size_cards cards ++ (axes ++ (count_cards cards ++ other_cards cards))) 0 n1 n5 o0 o1 o5 a1 from_size [] (written-none o0)

pub returns : goal.returns
returns c =
    let said = says c.args.buf.now c.args.header.now c.args.plan.now c.requires.plan in
    let written = all-written c.args.buf.now c.args.header.now c.args.plan.now c.put_leading_card-count.result c.put_size_cards-count.result c.put_axis_cards-count.result c.put_count_cards-count.result c.put_other_cards-count.result
    c.args.out.now c.put_leading_card-count.new.out c.put_size_cards-count.new.out c.put_axis_cards-count.new.out c.put_count_cards-count.new.out c.put_other_cards-count.new.out c.requires.header said
    c.put_leading_card-count.ensures.written c.put_size_cards-count.ensures.written c.put_axis_cards-count.ensures.written c.put_count_cards-count.ensures.written c.put_other_cards-count.ensures.written in
    let bytes = c.finish.ensures.header (plain_header (cards_of c.args.buf.now)) written in
    let blocks : c.finish.result ≡ whole_blocks_of (80 * (length (plain_header (cards_of c.args.buf.now)) + 1)) = c.finish.ensures.size ∙ ap (λ n. whole_blocks_of (80 * (n + 1))) written.number in
    record { written = bytes.0; size = bytes.1; fits = plain-short c.args.buf.now c.args.header.now c.args.plan.now c.requires.header c.requires.plan c.finish.result blocks }
