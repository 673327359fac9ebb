-- The cards of the table, of the image and of the sums, one after another.
use Rattle.std.proofs.Common.{◌≡◌, ℕ, ◌+◌, ◌≤◌, Bool, List, [], ◌++◌, length, map, sym, ap, arith}
use Rattle.fz_card.specs.declared.card.Card.{Card}
use Rattle.fz_block.specs.declared.axes.Axes.{Axes}
use Rattle.fz_block.specs.declared.header.Header.{Header}
use Rattle.fz_block.specs.Facts.{IsHeaderOf}
use Rattle.fz_block.specs.Hdus.{cards_of}
use Rattle.fz_head.specs.declared.plan.Plan.{Plan}
use Rattle.fz_head.specs.declared.totals.Totals.{Totals}
use Rattle.fz_head.specs.Conditions.{IsPackPlan}
use Rattle.fz_head.specs.PackedHeader.{table_cards, column_cards, tile_cards, parameter_cards, made_cards, packed_card, packed_header, sum_cards}
use Rattle.fz_head.specs.Written.{AreWritten, Adds, card_list, first_cards}
use Rattle.fz_head.proofs.FrontCards.{header-end, header-cards}
use Rattle.fz_head.proofs.PackedSizes.{few-cards}
use Rattle.fz_head.proofs.PlannedTiles.{planned-divided, planned-shape, axes-few}
use Rattle.fz_head.proofs.WrittenCards.{adds-same, adds-then, blocks-enough, blocks-short, written-none}
use Rattle.fz_head.proofs.packed.to_packed.Goals as goal

few-axes : (buf : List ℕ) (header : Header) (sums : Bool) (plan : Plan) → IsHeaderOf buf header → IsPackPlan buf header sums plan → plan.shape.n ≤ 9
few-axes buf header sums plan is planned = omega (arith, axes-few buf header is, ap (λ (a : Axes). a.n) (planned-shape planned.options buf header plan planned.answer))

pub table_cards-requires-clause-divided : goal.table_cards-requires-clause-divided
table_cards-requires-clause-divided c = planned-divided c.requires.plan.options c.args.buf.now c.args.header.now c.args.plan.now c.requires.plan.allowed c.requires.header c.requires.plan.packable c.requires.plan.answer

pub put_tile_cards-count-requires-clause-axes : goal.put_tile_cards-count-requires-clause-axes
put_tile_cards-count-requires-clause-axes c = few-axes c.args.buf.now c.args.header.now c.args.totals.now.sums c.args.plan.now c.requires.header c.requires.plan

pub put_tile_cards-count-requires-clause-room : goal.put_tile_cards-count-requires-clause-room
put_tile_cards-count-requires-clause-room c =
    let few = few-axes c.args.buf.now c.args.header.now c.args.totals.now.sums c.args.plan.now c.requires.header c.requires.plan in
    let end = (header-end c.args.buf.now c.args.header.now c.requires.header).within in
    omega arith

pub put_parameter_cards-count-requires : goal.put_parameter_cards-count-requires
put_parameter_cards-count-requires c =
    let few = few-axes c.args.buf.now c.args.header.now c.args.totals.now.sums c.args.plan.now c.requires.header c.requires.plan in
    let end = (header-end c.args.buf.now c.args.header.now c.requires.header).within in
    omega arith

pub put_image_cards-count-requires-clause-cards : goal.put_image_cards-count-requires-clause-cards
put_image_cards-count-requires-clause-cards c =
    let end = (header-end c.args.buf.now c.args.header.now c.requires.header).within in
    omega arith

pub put_image_cards-count-requires-clause-room : goal.put_image_cards-count-requires-clause-room
put_image_cards-count-requires-clause-room c =
    let few = few-axes c.args.buf.now c.args.header.now c.args.totals.now.sums c.args.plan.now c.requires.header c.requires.plan in
    let end = (header-end c.args.buf.now c.args.header.now c.requires.header).within in
    omega arith

pub put_sum_cards-count-requires : goal.put_sum_cards-count-requires
put_sum_cards-count-requires c =
    let few = few-axes c.args.buf.now c.args.header.now c.args.totals.now.sums c.args.plan.now c.requires.header c.requires.plan in
    let end = (header-end c.args.buf.now c.args.header.now c.requires.header).within in
    omega arith

pub finish-requires : goal.finish-requires
finish-requires c =
    let few = few-axes c.args.buf.now c.args.header.now c.args.totals.now.sums c.args.plan.now c.requires.header c.requires.plan in
    let end = (header-end c.args.buf.now c.args.header.now c.requires.header).within in
    let more : c.put_sum_cards-count.result ≤ c.args.header.now.cards + 29 = omega arith in
    let enough = blocks-enough c.requires.header.whole.before c.args.header.now.cards c.put_sum_cards-count.result (length c.args.buf.now) c.requires.header.whole.blocks end more in
    omega arith

-- all cards were written
all-written : (buf : List ℕ) (header : Header) (plan : Plan) (totals : Totals) (n1 n2 n3 n4 n5 n6 : ℕ) (o0 o1 o2 o3 o4 o5 o6 : List ℕ) (t1 t2 : List Card) → IsHeaderOf buf header →
    card_list t1 ≡ table_cards plan totals → card_list t2 ≡ column_cards plan totals →
    Adds (card_list t1) 0 o0 n1 o1 → Adds (card_list t2) n1 o1 n2 o2 → Adds (tile_cards plan) n2 o2 n3 o3 → Adds (parameter_cards plan.codec) n3 o3 n4 o4 →
    Adds (map packed_card (first_cards buf header.cards)) n4 o4 n5 o5 → Adds (sum_cards totals.sums) n5 o5 n6 o6 → AreWritten (packed_header (cards_of buf) plan totals) n6 o6
unfolding packed_header
all-written buf header plan totals n1 n2 n3 n4 n5 n6 o0 o1 o2 o3 o4 o5 o6 t1 t2 is e1 e2 a1 a2 a3 a4 a5 a6 =
    let A1 = adds-same (card_list t1) (table_cards plan totals) 0 n1 o0 o1 e1 a1 in
    let A2 = adds-same (card_list t2) (column_cards plan totals) n1 n2 o1 o2 e2 a2 in
    let A5 = adds-same (map packed_card (first_cards buf header.cards)) (map packed_card (cards_of buf)) n4 n5 o4 o5 (ap (map packed_card) (sym (header-cards buf header is))) a5 in
    let M3 = adds-then (tile_cards plan) (parameter_cards plan.codec) n2 n3 n4 o2 o3 o4 a3 a4 in
    let M2 = adds-then (column_cards plan totals) (tile_cards plan ++ parameter_cards plan.codec) n1 n2 n4 o1 o2 o4 A2 M3 in
    let M1 = adds-then (table_cards plan totals) (column_cards plan totals ++ (tile_cards plan ++ parameter_cards plan.codec)) 0 n1 n4 o0 o1 o4 A1 M2 in
    let M5 = adds-then (map packed_card (cards_of buf)) (sum_cards totals.sums) n4 n5 n6 o4 o5 o6 A5 a6 in
    adds-then (made_cards plan totals) (map packed_card (cards_of buf) ++ sum_cards totals.sums) 0 n4 n6 o0 o4 o6 M1 M5 [] (written-none o0)

pub returns : goal.returns
returns c =
    let written = all-written c.args.buf.now c.args.header.now c.args.plan.now c.args.totals.now c.put_all-count.result c.put_all-count-2.result c.put_tile_cards-count.result c.put_parameter_cards-count.result c.put_image_cards-count.result c.put_sum_cards-count.result
    c.args.out.now c.put_all-count.new.out c.put_all-count-2.new.out c.put_tile_cards-count.new.out c.put_parameter_cards-count.new.out c.put_image_cards-count.new.out c.put_sum_cards-count.new.out
    c.table_cards.result c.column_cards.result c.requires.header c.table_cards.ensures c.column_cards.ensures c.put_all-count.ensures.written c.put_all-count-2.ensures.written c.put_tile_cards-count.ensures.written
    c.put_parameter_cards-count.ensures.written c.put_image_cards-count.ensures.written c.put_sum_cards-count.ensures.written in
    let bytes = c.finish.ensures.header (packed_header (cards_of c.args.buf.now) c.args.plan.now c.args.totals.now) written in
    let few = few-cards c.requires.plan.options c.args.header.now c.args.buf.now c.args.plan.now c.args.totals.now c.requires.plan.answer (sym c.requires.plan.with_sums) in
    record { written = bytes.0; size = bytes.1; short = blocks-short c.put_sum_cards-count.result c.finish.result c.finish.ensures.size (omega (arith, written.number, few)) }
