-- One code after another is compared.
use Rattle.std.proofs.Common.{◌≡◌, ℕ, ◌+◌, ◌*◌, ◌≤◌, ◌^◌, List, Option, IfSome, true, false, length, refl, sym, ap, ◌∙◌, subst, arith, rules}
use Rattle.fz_files.specs.Packed.{heap_of}
use Rattle.fz_pool.specs.Round.{coded_tile, coded_tiles}
use Rattle.fz_image.specs.Layout.{heap_at_of, pixel_bytes_of}
use Rattle.fz_image.specs.Progress.{with_heap}
use Rattle.fz_image.specs.declared.progress.Progress.{Progress}
use Rattle.fz_compare.specs.Compared.{has_bytes}
use Rattle.fz_compare.proofs.HeapsCompared.{heap_all, heap_differs, heap_none, heap_same}
use Rattle.fz_compare.proofs.ReadRanges.{then_read}
use Rattle.fz_compare.proofs.RowsAndHeap.{heap_step, next_within, no_more_heap, slot_within, tiles_more}
use Rattle.fz_compare.proofs.Sizes.{heap_at_small, pixel_bytes_small}
use Rattle.fz_compare.proofs.coded.compare_codes.Goals as goal

pub loop-i-init : goal.loop-i-init
loop-i-init g c = record {
  held = refl;
  attached = refl;
  reads = refl;
  told = λ told. told;
  read = c.log_law.ensures.none 0 c.args.coming.end (g.S.Source.ranges c.args.source.now);
  piece = refl;
  written = no_more_heap c.args.layout.now c.args.progress;
  heap = heap_none (g.S.Source.held c.args.source.now) c.args.coming.end c.args.layout.now c.args.progress c.args.window.now.slots;
}

pub overflow_add-at : goal.overflow_add-at
overflow_add-at g c =
    let slots = c.args.window.now.slots in
    let x = c.slot-slot.result.now in
    let within = slot_within c.loop-i.i c.args.coming.count slots x c.slot-slot.ensures (omega arith) c.requires.next.lens in
    let fits = next_within c.args.progress.heap (pixel_bytes_of c.args.layout.now) c.loop-i.i c.args.coming.count slots x c.slot-slot.ensures within (omega arith) c.requires.next.fits in
    let heap : c.loop-i.written.heap ≡ c.args.progress.heap + length (heap_of (coded_tiles c.loop-i.i slots)) = ap (λ (q : Progress). q.heap) c.loop-i.invariant.written in
    record { fits = omega (arith, fits, heap, c.heap_at.ensures, (heap_at_small c.args.layout.now c.requires.layout).1, pixel_bytes_small c.args.layout.now c.requires.layout) }

pub code_of-requires : goal.code_of-requires
code_of-requires g c = slot_within c.loop-i.i c.args.coming.count c.args.window.now.slots c.slot-slot.result.now c.slot-slot.ensures (omega arith) c.requires.next.lens

pub has_bytes-requires-clause-near : goal.has_bytes-requires-clause-near
has_bytes-requires-clause-near g c =
    let slots = c.args.window.now.slots in
    let x = c.slot-slot.result.now in
    let within = slot_within c.loop-i.i c.args.coming.count slots x c.slot-slot.ensures (omega arith) c.requires.next.lens in
    let fits = next_within c.args.progress.heap (pixel_bytes_of c.args.layout.now) c.loop-i.i c.args.coming.count slots x c.slot-slot.ensures within (omega arith) c.requires.next.fits in
    let heap : c.loop-i.written.heap ≡ c.args.progress.heap + length (heap_of (coded_tiles c.loop-i.i slots)) = ap (λ (q : Progress). q.heap) c.loop-i.invariant.written in
    omega (arith, fits, heap, c.heap_at.ensures, c.code_of.ensures.size, (heap_at_small c.args.layout.now c.requires.layout).1, pixel_bytes_small c.args.layout.now c.requires.layout)

pub add_tile-requires-clause-near : goal.add_tile-requires-clause-near
add_tile-requires-clause-near g c =
    let slots = c.args.window.now.slots in
    let x = c.slot-slot.result.now in
    let within = slot_within c.loop-i.i c.args.coming.count slots x c.slot-slot.ensures (omega arith) c.requires.next.lens in
    let fits = next_within c.args.progress.heap (pixel_bytes_of c.args.layout.now) c.loop-i.i c.args.coming.count slots x c.slot-slot.ensures within (omega arith) c.requires.next.fits in
    let heap : c.loop-i.written.heap ≡ c.args.progress.heap + length (heap_of (coded_tiles c.loop-i.i slots)) = ap (λ (q : Progress). q.heap) c.loop-i.invariant.written in
    omega (arith, fits, heap, pixel_bytes_small c.args.layout.now c.requires.layout)

pub add_tile-requires-clause-summed : goal.add_tile-requires-clause-summed
add_tile-requires-clause-summed g c =
    let slots = c.args.window.now.slots in
    let x = c.slot-slot.result.now in
    let within = slot_within c.loop-i.i c.args.coming.count slots x c.slot-slot.ensures (omega arith) c.requires.next.lens in
    let fits = next_within c.args.progress.heap (pixel_bytes_of c.args.layout.now) c.loop-i.i c.args.coming.count slots x c.slot-slot.ensures within (omega arith) c.requires.next.fits in
    let count : c.loop-i.written.sum.count ≡ c.args.progress.sum.count + length (heap_of (coded_tiles c.loop-i.i slots)) = ap (λ (q : Progress). q.sum.count) c.loop-i.invariant.written in
    omega (arith, fits, count, c.requires.summed, pixel_bytes_small c.args.layout.now c.requires.layout)

pub returns-then-not-same-clause-compared : goal.returns-then-not-same-clause-compared
returns-then-not-same-clause-compared g c =
    let held : Option (List ℕ) = g.S.Source.held c.args.source.now in
    let l = c.args.layout.now in
    let at : ℕ = c.heap_at.result + c.loop-i.written.heap in
    let code : List ℕ = c.code_of.result.now in
    let there : IfSome (g.S.Source.held c.loop-i.source) (λ file. false ≡ has_bytes file at c.args.coming.end code) = search rules in
    let other : IfSome held (λ file. false ≡ has_bytes file at c.args.coming.end code) = subst (λ (k : Option (List ℕ)). IfSome k (λ file. false ≡ has_bytes file at c.args.coming.end code)) c.loop-i.invariant.held there in
    heap_differs c.args.coming.end l c.args.progress c.loop-i.written c.loop-i.i c.args.window.now.slots c.slot-slot.result.now c.slot-slot.ensures code c.code_of.ensures.bytes at c.loop-i.invariant.written
    (ap (λ n. n + c.loop-i.written.heap) c.heap_at.ensures) held c.args.coming.count (omega arith) other

pub loop-i-preserved : goal.loop-i-preserved
loop-i-preserved g c =
    let held : Option (List ℕ) = g.S.Source.held c.args.source.now in
    let l = c.args.layout.now in
    let slots = c.args.window.now.slots in
    let x = c.slot-slot.result.now in
    let at : ℕ = c.heap_at.result + c.loop-i.written.heap in
    let code : List ℕ = c.code_of.result.now in
    let there : IfSome (g.S.Source.held c.loop-i.source) (λ file. true ≡ has_bytes file at c.args.coming.end code) = search rules in
    let same : IfSome held (λ file. true ≡ has_bytes file at c.args.coming.end code) = subst (λ (k : Option (List ℕ)). IfSome k (λ file. true ≡ has_bytes file at c.args.coming.end code)) c.loop-i.invariant.held there in
    record {
      held = search rules;
      attached = search rules;
      reads = search rules;
      told = search rules;
      read = then_read c.log_law.ensures.both c.log_law.ensures.wider _ c.args.coming.end c.args.coming.end (g.S.Source.ranges c.args.source.now) (g.S.Source.ranges c.loop-i.source) (g.S.Source.ranges c.has_bytes.new.source) (omega arith) c.loop-i.invariant.read c.in_ok-same.ensures.read;
      piece = search rules;
      written = heap_step l c.args.progress c.loop-i.written c.add_tile.new.self (coded_tiles c.loop-i.i slots) (coded_tiles (c.loop-i.i + 1) slots) (coded_tile x) c.sum_law.ensures.joined c.loop-i.invariant.written (tiles_more c.loop-i.i slots x c.slot-slot.ensures) c.add_tile.ensures;
      heap = heap_same c.args.coming.end l c.args.progress c.loop-i.written c.loop-i.i slots x c.slot-slot.ensures code c.code_of.ensures.bytes at c.loop-i.invariant.written
          (ap (λ n. n + c.loop-i.written.heap) c.heap_at.ensures) held c.loop-i.invariant.heap same;
    }

pub returns-clause-compared : goal.returns-clause-compared
returns-clause-compared g c =
    let all : c.loop-i.i ≡ c.args.coming.count = search rules in
    heap_all (g.S.Source.held c.args.source.now) c.args.coming.end c.args.layout.now c.args.progress c.loop-i.written c.loop-i.i c.args.coming.count c.args.window.now.slots all c.requires.some c.loop-i.invariant.written c.loop-i.invariant.heap

pub returns-clause-progress : goal.returns-clause-progress
returns-clause-progress g c =
    let all : c.loop-i.i ≡ c.args.coming.count = search rules in
    subst (λ n. c.loop-i.written ≡ with_heap c.args.layout.now c.args.progress (coded_tiles n c.args.window.now.slots)) all c.loop-i.invariant.written

pub returns-in_err-same-clause-read : goal.returns-in_err-same-clause-read
returns-in_err-same-clause-read g c =
    then_read c.log_law.ensures.both c.log_law.ensures.wider _ c.args.coming.end c.args.coming.end (g.S.Source.ranges c.args.source.now) (g.S.Source.ranges c.loop-i.source) (g.S.Source.ranges c.has_bytes.new.source) (omega arith) c.loop-i.invariant.read c.in_err-same.ensures.read

pub returns-then-not-same-clause-read : goal.returns-then-not-same-clause-read
returns-then-not-same-clause-read g c =
    then_read c.log_law.ensures.both c.log_law.ensures.wider _ c.args.coming.end c.args.coming.end (g.S.Source.ranges c.args.source.now) (g.S.Source.ranges c.loop-i.source) (g.S.Source.ranges c.has_bytes.new.source) (omega arith) c.loop-i.invariant.read c.in_ok-same.ensures.read
