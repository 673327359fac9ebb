-- The writes of the rows, the heap, the fill and then the header make the table.
use Rattle.std.proofs.Common.{◌≡◌, ℕ, ◌+◌, ◌-◌, List, length, take, refl, sym, ap, ◌∙◌, arith, rules}
use Rattle.std.proofs.lemmas.List.{length-take}
use Rattle.fz_block.specs.Hdus.{cards_of, header_bytes}
use Rattle.fz_head.specs.Conditions.{AreShort}
use Rattle.fz_head.specs.declared.plan.Plan.{Plan}
use Rattle.fz_head.specs.declared.totals.Totals.{Totals}
use Rattle.fz_files.specs.Packed.{packed_data, table_header, with_sums}
use Rattle.fz_image.specs.Layout.{rows_len_of}
use Rattle.fz_image.specs.declared.progress.Progress.{Progress}
use Rattle.fz_pack.proofs.WholeTables.{data_small, holds_codes}
use Rattle.fz_pack.proofs.image.write_table.Goals as goal

pub write_fill-requires-clause-near : goal.write_fill-requires-clause-near
write_fill-requires-clause-near g c =
    let l = c.args.writing.now.layout in
    let small = data_small l (g.S.Source.held c.args.source.now) (g.K.Sink.contents c.args.sink.now) (g.K.Sink.contents c.write_tiles.new.sink) c.in_ok-progress.progress c.requires.can.layout c.in_ok-progress.ensures.written.0 in
    omega (arith, c.requires.near, small, c.rows_len.ensures)

pub returns-clause-table : goal.returns-clause-table
returns-clause-table g c =
    let l = c.args.writing.now.layout in
    let buf = c.args.image.now.buf.now in
    let sums = c.args.image.now.sums in
    let at = c.args.image.now.at in
    let w = c.in_ok-progress.progress in
    let was = c.in_ok-progress.ensures.written.0 in
    let tiles = c.in_ok-progress.ensures.written.1 in
    let none : Totals = record { heap = 0; emax_coded = 0; emax_stored = 0; sums = sums } in
    let empty : AreShort none = record { heap = omega arith; coded = omega arith; stored = omega arith } in
    let long : c.make_header-len.result ≡ l.rows_at - at = c.make_header-len.ensures.long (l.rows_at - at) (λ s same short. omega (arith, c.requires.place s same short)) in
    let head : List ℕ = take c.make_header-len.result c.make_header-len.new.made in
    let size : length head ≡ c.make_header-len.result = omega (arith, length-take c.make_header-len.result c.make_header-len.new.made, c.make_header-len.ensures.within) in
    let place : l.rows_at ≡ at + length head = omega (arith, size, long, c.requires.place none refl empty) in
    let count : length was.codes ≡ l.tiles = omega (arith, tiles, ap (λ (q : Progress). q.tiles) was.progress) in
    let head_is : head ≡ header_bytes (with_sums sums (table_header l.plan (cards_of buf) was.codes) (packed_data l.plan was.codes)) =
    c.make_header-len.ensures.header l was.codes c.requires.can.layout c.requires.plan_is was.each count was.progress
    ∙ ap (λ (q : Plan). header_bytes (with_sums sums (table_header q (cards_of buf) was.codes) (packed_data q was.codes))) (sym c.requires.plan_is) in
    let len_is : c.rows_len.result + w.heap ≡ rows_len_of l + w.heap = ap (λ n. n + w.heap) c.rows_len.ensures in
    holds_codes l sums (cards_of buf) (g.S.Source.held c.args.source.now) (g.K.Sink.contents c.args.sink.now) (g.K.Sink.contents c.write_tiles.new.sink) (g.K.Sink.contents c.write_fill.new.sink) (g.K.Sink.contents c.write_behind.new.sink)
    w at c.in_ok-end.end (c.rows_len.result + w.heap) head c.output_law.ensures.next c.output_law.ensures.joined c.requires.can.layout was tiles head_is place len_is c.in_ok-end.ensures.filled c.in_ok-write_behind.ensures.written c.in_ok-end.ensures.end

pub returns-clause-end : goal.returns-clause-end
returns-clause-end g c =
    let l = c.args.writing.now.layout in
    let w = c.in_ok-progress.progress in
    let small = data_small l (g.S.Source.held c.args.source.now) (g.K.Sink.contents c.args.sink.now) (g.K.Sink.contents c.write_tiles.new.sink) w c.requires.can.layout c.in_ok-progress.ensures.written.0 in
    (omega (arith, c.in_ok-end.ensures.end), omega (arith, c.in_ok-end.ensures.end, small, c.rows_len.ensures))

-- ---- what stays

pub returns-in_err-progress-clause-stays : goal.returns-in_err-progress-clause-stays
returns-in_err-progress-clause-stays g c =
    let stays = c.in_err-progress.ensures.stays.1 in
    (search rules, record { source = stays.source; sink = stays.sink; log = stays.log; cause = search rules }, search rules, search rules)

pub returns-in_err-end-clause-stays : goal.returns-in_err-end-clause-stays
returns-in_err-end-clause-stays g c =
    let stays = c.in_ok-progress.ensures.stays.1 in
    (search rules, record { source = stays.source; sink = search rules; log = stays.log; cause = search rules }, search rules, search rules)

pub returns-in_err-write_behind-clause-stays : goal.returns-in_err-write_behind-clause-stays
returns-in_err-write_behind-clause-stays g c =
    let stays = c.in_ok-progress.ensures.stays.1 in
    (search rules, record { source = stays.source; sink = search rules; log = stays.log; cause = search rules }, search rules, search rules)

pub returns-clause-stays : goal.returns-clause-stays
returns-clause-stays g c =
    let stays = c.in_ok-progress.ensures.stays.1 in
    (search rules, record { source = stays.source; sink = search rules; log = stays.log; cause = search rules }, search rules, search rules)
