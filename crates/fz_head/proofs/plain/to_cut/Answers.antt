-- The cards of a part of the image, one after another.
use Rattle.std.proofs.Common.{◌≡◌, ℕ, ◌+◌, ◌-◌, ◌*◌, ◌≤◌, List, [], ◌++◌, codes, length, map, sym, ap, ◌∙◌, arith}
use Rattle.std.specs.Prelude.{slice_index}
use Rattle.std.specs.List.{range_with_len}
use Rattle.fz_card.specs.Layout.{padded}
use Rattle.fz_block.specs.Facts.{IsHeaderOf}
use Rattle.fz_block.specs.Header.{whole_blocks_of}
use Rattle.fz_block.specs.Hdus.{cards_of}
use Rattle.fz_block.specs.declared.header.Header.{Header}
use Rattle.fz_grid.specs.declared.region.Region.{Region}
use Rattle.fz_head.specs.declared.plan.Plan.{Plan}
use Rattle.fz_head.specs.PackedHeader.{flag_card, numbered_number_card}
use Rattle.fz_head.specs.PlainHeader.{axis_count, cutout_header, or_card, part_cards_of, plain_card, restored_word, size_cards, was_primary}
use Rattle.fz_head.specs.Written.{AreWritten, Adds, first_cards, found_cards}
use Rattle.fz_head.proofs.FoundCards.{named-cards}
use Rattle.fz_head.proofs.FrontCards.{header-cards, header-end}
use Rattle.fz_head.proofs.PackedPlans.{Says, says}
use Rattle.fz_head.proofs.RestoredHeaders.{cutout-short}
use Rattle.fz_head.proofs.WrittenCards.{adds-same, adds-then, blocks-enough, written-none}
use Rattle.fz_head.proofs.plain.to_cut.Goals as goal

pub put_region_cards-count-requires-clause-few : goal.put_region_cards-count-requires-clause-few
put_region_cards-count-requires-clause-few c =
    let said = says c.args.buf.now c.args.header.now c.args.plan.now c.requires.plan in
    let few : c.args.plan.now.shape.n ≤ 9 = omega (arith, said.axes, said.few) in
    let end = (header-end c.args.buf.now c.args.header.now c.requires.header).within in
    omega (arith, c.requires.region.same_axes)

pub put_region_cards-count-requires-clause-room : goal.put_region_cards-count-requires-clause-room
put_region_cards-count-requires-clause-room c =
    let said = says c.args.buf.now c.args.header.now c.args.plan.now c.requires.plan in
    let few : c.args.plan.now.shape.n ≤ 9 = omega (arith, said.axes, said.few) in
    let end = (header-end c.args.buf.now c.args.header.now c.requires.header).within in
    omega (arith, c.requires.region.same_axes)

pub put_part_cards-count-requires-clause-cards : goal.put_part_cards-count-requires-clause-cards
put_part_cards-count-requires-clause-cards c =
    let said = says c.args.buf.now c.args.header.now c.args.plan.now c.requires.plan in
    let few : c.args.plan.now.shape.n ≤ 9 = omega (arith, said.axes, said.few) in
    let end = (header-end c.args.buf.now c.args.header.now c.requires.header).within in
    omega (arith, c.requires.region.same_axes)

pub put_part_cards-count-requires-clause-room : goal.put_part_cards-count-requires-clause-room
put_part_cards-count-requires-clause-room c =
    let said = says c.args.buf.now c.args.header.now c.args.plan.now c.requires.plan in
    let few : c.args.plan.now.shape.n ≤ 9 = omega (arith, said.axes, said.few) in
    let end = (header-end c.args.buf.now c.args.header.now c.requires.header).within in
    omega (arith, c.requires.region.same_axes)

pub finish-requires : goal.finish-requires
finish-requires c =
    let said = says c.args.buf.now c.args.header.now c.args.plan.now c.requires.plan in
    let few : c.args.plan.now.shape.n ≤ 9 = omega (arith, said.axes, said.few) in
    let end = (header-end c.args.buf.now c.args.header.now c.requires.header).within in
    let more : c.put_part_cards-count.result ≤ c.args.header.now.cards + 29 = omega (arith, c.requires.region.same_axes) in
    let enough = blocks-enough c.requires.header.whole.before c.args.header.now.cards c.put_part_cards-count.result (length c.args.buf.now) c.requires.header.whole.blocks end more in
    omega arith

-- all cards were written
all-written : (buf : List ℕ) (header : Header) (plan : Plan) (region : Region) (first : List (List ℕ)) (n1 n2 n3 n4 : ℕ) (o0 o1 o2 o3 o4 : List ℕ) → IsHeaderOf buf header → Says (cards_of buf) plan →
    first ≡ or_card (flag_card (codes "SIMPLE")) (restored_word (codes "ZSIMPLE") (cards_of buf)) →
    Adds first 0 o0 n1 o1 → Adds (size_cards (cards_of buf)) n1 o1 n2 o2 → Adds (map (λ i. numbered_number_card (codes "NAXIS") i (slice_index region.len (i - 1))) (range_with_len 1 region.n)) n2 o2 n3 o3 →
    Adds (part_cards_of plan.primary plan.shape.n (first_cards buf header.cards)) n3 o3 n4 o4 → AreWritten (cutout_header (cards_of buf) region) n4 o4
unfolding cutout_header
all-written buf header plan region first n1 n2 n3 n4 o0 o1 o2 o3 o4 is said same a1 a2 a3 a4 =
    let cards = cards_of buf in
    let lead = or_card (flag_card (codes "SIMPLE")) (restored_word (codes "ZSIMPLE") cards) in
    let axes = map (λ i. numbered_number_card (codes "NAXIS") i (slice_index region.len (i - 1))) (range_with_len 1 region.n) in
    let parts = part_cards_of (was_primary cards) (axis_count cards) cards in
    let A1 = adds-same first lead 0 n1 o0 o1 same a1 in
    let A4 = adds-same (part_cards_of plan.primary plan.shape.n (first_cards buf header.cards)) parts n3 n4 o3 o4
    (ap (λ b. part_cards_of b plan.shape.n (first_cards buf header.cards)) said.primary ∙ (ap (λ n. part_cards_of (was_primary cards) n (first_cards buf header.cards)) said.axes ∙ ap (part_cards_of (was_primary cards) (axis_count cards)) (sym (header-cards buf header is)))) a4 in
    let from_axes = adds-then axes parts n2 n3 n4 o2 o3 o4 a3 A4 in
    let from_size = adds-then (size_cards cards) (axes ++ parts) n1 n2 n4 o1 o2 o4 a2 from_axes in
    adds-then lead (size_cards cards ++ (axes ++ parts)) 0 n1 n4 o0 o1 o4 A1 from_size [] (written-none o0)

pub returns : goal.returns
returns c =
    let buf = c.args.buf.now in
    let said = says buf c.args.header.now c.args.plan.now c.requires.plan in
    let simple = flag_card (codes "SIMPLE") in
    let first = ap (λ k. or_card k (map plain_card (found_cards buf c.first_named.result))) c.logical_card-simple.ensures ∙ ap (λ l. or_card simple (map plain_card l)) (named-cards buf (padded (codes "ZSIMPLE")) c.first_named.result c.first_named.ensures.first) in
    let written = all-written buf c.args.header.now c.args.plan.now c.args.region.now _ c.put_or-count.result c.put_size_cards-count.result c.put_region_cards-count.result c.put_part_cards-count.result
    c.args.out.now c.put_or-count.new.out c.put_size_cards-count.new.out c.put_region_cards-count.new.out c.put_part_cards-count.new.out c.requires.header said first
    c.put_or-count.ensures.written c.put_size_cards-count.ensures.written c.put_region_cards-count.ensures.written c.put_part_cards-count.ensures.written in
    let bytes = c.finish.ensures.header (cutout_header (cards_of buf) c.args.region.now) written in
    let blocks : c.finish.result ≡ whole_blocks_of (80 * (length (cutout_header (cards_of buf) c.args.region.now) + 1)) = c.finish.ensures.size ∙ ap (λ n. whole_blocks_of (80 * (n + 1))) written.number in
    record {
      written = bytes.0;
      size = bytes.1;
      fits = cutout-short buf c.args.header.now c.args.plan.now c.requires.header c.requires.plan c.args.region.now c.finish.result (c.requires.region.same_axes ∙ said.axes) blocks;
    }
