-- The row of each tile goes after those of the tiles before it.
use Rattle.std.proofs.Common.{◌≡◌, ◌+◌, ◌*◌, ◌≤◌, length, take, refl, sym, ap, ◌∙◌, arith, rules}
use Rattle.std.proofs.lemmas.List.{take_all}
use Rattle.std.proofs.lemmas.Slice.{take-put_mid}
use Rattle.std.proofs.Math.Nat.{mul-suc, mul-zero}
use Rattle.fz_files.specs.Packed.{rows_from}
use Rattle.fz_pool.specs.Round.{coded_tiles}
use Rattle.fz_image.specs.Layout.{pixel_bytes_of}
use Rattle.fz_image.proofs.Codes.{heap_len_more, next_within, no_heap, no_rows, row_len, row_put, slot_within}
use Rattle.fz_image.proofs.Sizes.{pixel_bytes_small}
use Rattle.fz_image.proofs.descriptors.put_rows.Goals as goal

pub loop-i-init : goal.loop-i-init
loop-i-init c = record {
  long = refl;
  from_is = omega (arith, ap length no_heap);
  rows = ap (λ n. take n c.args.into.now) (mul-zero c.args.layout.now.row_len) ∙ sym (no_rows c.args.layout.now.plan c.args.offset);
}

pub put_row-requires-clause-heap : goal.put_row-requires-clause-heap
put_row-requires-clause-heap c =
    let slots = c.args.window.now.slots in
    let x = c.slot-slot.result.now in
    let within = slot_within c.loop-i.i c.args.count slots x c.slot-slot.ensures (omega arith) c.requires.next.lens in
    omega (arith, c.loop-i.invariant.from_is, next_within c.args.offset (pixel_bytes_of c.args.layout.now) c.loop-i.i c.args.count slots x c.slot-slot.ensures within (omega arith) c.requires.next.fits)

pub overflow_add-from : goal.overflow_add-from
overflow_add-from c =
    let slots = c.args.window.now.slots in
    let x = c.slot-slot.result.now in
    let within = slot_within c.loop-i.i c.args.count slots x c.slot-slot.ensures (omega arith) c.requires.next.lens in
    let fits = next_within c.args.offset (pixel_bytes_of c.args.layout.now) c.loop-i.i c.args.count slots x c.slot-slot.ensures within (omega arith) c.requires.next.fits in
    record { fits = omega (arith, c.loop-i.invariant.from_is, fits, pixel_bytes_small c.args.layout.now c.requires.layout, c.from-from.ensures) }

pub loop-i-preserved : goal.loop-i-preserved
loop-i-preserved c =
    let l = c.args.layout.now in
    let slots = c.args.window.now.slots in
    let x = c.slot-slot.result.now in
    let within = slot_within c.loop-i.i c.args.count slots x c.slot-slot.ensures (omega arith) c.requires.next.lens in
    let row_is = c.put_row.ensures in
    let row_size : length c.put_row.new.into ≡ l.row_len = ap length row_is ∙ row_len l.plan c.loop-i.from _ ∙ sym c.requires.layout.row_len in
    let next : l.row_len * (c.loop-i.i + 1) ≡ l.row_len * c.loop-i.i + length c.put_row.new.into = omega (arith, mul-suc l.row_len c.loop-i.i, row_size) in
    record {
      long = search rules;
      from_is = omega (arith, c.loop-i.invariant.from_is, c.from-from.ensures, heap_len_more c.loop-i.i slots x c.slot-slot.ensures within);
      rows = take-put_mid (l.row_len * c.loop-i.i) _ c.loop-i.into c.put_row.new.into (l.row_len * (c.loop-i.i + 1)) next (search rules)
          ∙ row_put l.row_len c.loop-i.i c.args.offset c.loop-i.from l.plan slots x c.loop-i.into c.put_row.new.into c.requires.layout.row_len c.slot-slot.ensures c.loop-i.invariant.from_is row_is c.loop-i.invariant.rows;
    }

pub returns : goal.returns
returns c =
    let l = c.args.layout.now in
    let all : c.loop-i.i ≡ c.args.count = search rules in
    let whole : length c.loop-i.into ≤ l.row_len * c.args.count = omega (arith, c.loop-i.invariant.long, c.requires.room) in
    sym (take_all (l.row_len * c.args.count) c.loop-i.into whole)
    ∙ ap (λ n. take (l.row_len * n) c.loop-i.into) (sym all)
    ∙ c.loop-i.invariant.rows
    ∙ ap (λ n. rows_from l.plan c.args.offset (coded_tiles n c.args.window.now.slots)) all
