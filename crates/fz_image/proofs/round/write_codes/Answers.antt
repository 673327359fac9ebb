-- The bytes of each tile go after those of the tiles before it, now or later.
use Rattle.std.proofs.Common.{◌≡◌, ◌+◌, length, refl, sym, ap, ◌∙◌, arith, rules}
use Rattle.fz_files.specs.Packed.{heap_of}
use Rattle.fz_pool.specs.Round.{coded_tile, coded_tiles}
use Rattle.fz_image.specs.Held.{heap_caught_up}
use Rattle.fz_image.specs.Layout.{heap_at_of, pixel_bytes_of}
use Rattle.fz_image.specs.declared.progress.Progress.{Progress}
use Rattle.fz_image.proofs.Codes.{next_within, slot_within, tiles_more}
use Rattle.fz_image.proofs.Holding.{held_step}
use Rattle.fz_image.proofs.Progresses.{heap_step, no_heap_written, no_more_heap}
use Rattle.fz_image.proofs.Sizes.{heap_at_small, pixel_bytes_small}
use Rattle.fz_image.proofs.round.write_codes.Goals as goal

pub loop-i-init : goal.loop-i-init
loop-i-init g c = record {
  created = refl;
  writes = refl;
  shut = λ shut. shut;
  told_contents = λ told. told;
  progress = no_more_heap c.args.layout.now c.args.underway.now.progress;
  contents = no_heap_written (heap_at_of c.args.layout.now + c.args.underway.now.progress.heap) (heap_caught_up c.args.layout.now c.args.underway.now.progress c.args.underway.now.held_back c.args.held.now (g.K.Sink.contents c.args.sink.now));
  last = c.requires.held;
  room = refl;
}

pub hold_back-requires-clause-within : goal.hold_back-requires-clause-within
hold_back-requires-clause-within g c = c.loop-i.invariant.last.0

pub hold_back-requires-clause-behind : goal.hold_back-requires-clause-behind
hold_back-requires-clause-behind g c = omega (arith, c.loop-i.invariant.last.1, c.heap_at.ensures, c.requires.layout.behind)

pub overflow_add-heap_at : goal.overflow_add-heap_at
overflow_add-heap_at g c =
    let slots = c.args.window.now.slots in
    let x = c.slot-slot.result.now in
    let within = slot_within c.loop-i.i c.args.tiles slots x c.slot-slot.ensures (omega arith) c.requires.next.lens in
    let fits = next_within c.args.underway.now.progress.heap (pixel_bytes_of c.args.layout.now) c.loop-i.i c.args.tiles slots x c.slot-slot.ensures within (omega arith) c.requires.next.fits in
    let heap : c.loop-i.underway.progress.heap ≡ c.args.underway.now.progress.heap + length (heap_of (coded_tiles c.loop-i.i slots)) = ap (λ (q : Progress). q.heap) c.loop-i.invariant.progress in
    record { fits = omega (arith, fits, heap, c.heap_at.ensures, (heap_at_small c.args.layout.now c.requires.layout).1, pixel_bytes_small c.args.layout.now c.requires.layout) }

pub code_of-requires : goal.code_of-requires
code_of-requires g c = slot_within c.loop-i.i c.args.tiles c.args.window.now.slots c.slot-slot.result.now c.slot-slot.ensures (omega arith) c.requires.next.lens

pub add_tile-requires-clause-near : goal.add_tile-requires-clause-near
add_tile-requires-clause-near g c =
    let slots = c.args.window.now.slots in
    let x = c.slot-slot.result.now in
    let within = slot_within c.loop-i.i c.args.tiles slots x c.slot-slot.ensures (omega arith) c.requires.next.lens in
    let fits = next_within c.args.underway.now.progress.heap (pixel_bytes_of c.args.layout.now) c.loop-i.i c.args.tiles slots x c.slot-slot.ensures within (omega arith) c.requires.next.fits in
    let heap : c.loop-i.underway.progress.heap ≡ c.args.underway.now.progress.heap + length (heap_of (coded_tiles c.loop-i.i slots)) = ap (λ (q : Progress). q.heap) c.loop-i.invariant.progress in
    omega (arith, fits, heap, pixel_bytes_small c.args.layout.now c.requires.layout)

pub add_tile-requires-clause-summed : goal.add_tile-requires-clause-summed
add_tile-requires-clause-summed g c =
    let slots = c.args.window.now.slots in
    let x = c.slot-slot.result.now in
    let within = slot_within c.loop-i.i c.args.tiles slots x c.slot-slot.ensures (omega arith) c.requires.next.lens in
    let fits = next_within c.args.underway.now.progress.heap (pixel_bytes_of c.args.layout.now) c.loop-i.i c.args.tiles slots x c.slot-slot.ensures within (omega arith) c.requires.next.fits in
    let count : c.loop-i.underway.progress.sum.count ≡ c.args.underway.now.progress.sum.count + length (heap_of (coded_tiles c.loop-i.i slots)) = ap (λ (q : Progress). q.sum.count) c.loop-i.invariant.progress in
    omega (arith, fits, count, c.requires.summed, pixel_bytes_small c.args.layout.now c.requires.layout)

pub loop-i-preserved : goal.loop-i-preserved
loop-i-preserved g c =
    let l = c.args.layout.now in
    let w = c.args.underway.now.progress in
    let slots = c.args.window.now.slots in
    let x = c.slot-slot.result.now in
    let more = tiles_more c.loop-i.i slots x c.slot-slot.ensures in
    let place : c.heap_at.result + c.loop-i.underway.progress.heap ≡ heap_at_of l + c.loop-i.underway.progress.heap = ap (λ n. n + c.loop-i.underway.progress.heap) c.heap_at.ensures in
    let heap : c.add_tile.new.self.heap ≡ c.loop-i.underway.progress.heap + length c.code_of.result.now =
    ap (λ (q : Progress). q.heap) c.add_tile.ensures ∙ ap (λ k. c.loop-i.underway.progress.heap + length k) (sym c.code_of.ensures.bytes) in
    record {
      created = search rules;
      writes = search rules;
      shut = λ shut. c.in_ok-hold_back.ensures.stays.0.shut (c.loop-i.invariant.shut shut);
      told_contents = λ told. c.in_ok-hold_back.ensures.stays.0.told (c.loop-i.invariant.told_contents told);
      progress = heap_step l w c.loop-i.underway.progress c.add_tile.new.self (coded_tiles c.loop-i.i slots) (coded_tiles (c.loop-i.i + 1) slots) (coded_tile x) c.sum_law.ensures.joined c.loop-i.invariant.progress more c.add_tile.ensures;
      contents = held_step l w c.loop-i.underway.progress c.add_tile.new.self (coded_tiles c.loop-i.i slots) (coded_tiles (c.loop-i.i + 1) slots) (coded_tile x) c.code_of.result.now (c.heap_at.result + c.loop-i.underway.progress.heap)
          c.loop-i.underway.held_back c.hold_back.new.count c.loop-i.held c.hold_back.new.held
          (heap_caught_up l w c.args.underway.now.held_back c.args.held.now (g.K.Sink.contents c.args.sink.now)) (g.K.Sink.contents c.loop-i.sink) (g.K.Sink.contents c.hold_back.new.sink)
          c.output_law.ensures.next c.loop-i.invariant.progress more c.code_of.ensures.bytes place heap c.loop-i.invariant.contents c.in_ok-hold_back.ensures.written;
      last = (c.in_ok-hold_back.ensures.within, omega (arith, c.in_ok-hold_back.ensures.few, c.loop-i.invariant.last.1, heap));
      room = search rules;
    }
