-- Bytes of a heap that are held back, with those of more tiles, and with none.
use Rattle.std.proofs.Common.{◌≡◌, ℕ, ◌+◌, ◌-◌, ◌*◌, ◌≤◌, List, [], ◌∷◌, ◌++◌, length, take, Option, sym, ap, ◌∙◌, arith}
use Rattle.std.proofs.lemmas.List.{length-map, length-take}
use Rattle.std.proofs.Math.Nat.{mul-add, mul-le-mul_left}
use Rattle.fz_base.specs.Sink.{written}
use Rattle.fz_files.specs.Packed.{heap_of, rows_from}
use Rattle.fz_head.specs.PackedTable.{planned_row}
use Rattle.fz_pool.specs.Round.{coded_tile, coded_tiles}
use Rattle.fz_pool.specs.declared.slot.Slot.{Slot}
use Rattle.fz_tile.specs.TileCode.{TileCode}
use Rattle.fz_job.specs.Held.{caught_up}
use Rattle.fz_image.specs.Held.{heap_caught_up}
use Rattle.fz_image.specs.Layout.{heap_at_of}
use Rattle.fz_image.specs.Progress.{tiles_written, with_heap}
use Rattle.fz_image.specs.declared.layout.Layout.{Layout}
use Rattle.fz_image.specs.declared.progress.Progress.{Progress}
use Rattle.fz_image.proofs.Codes.{heap_more, rows_len}
use Rattle.fz_image.proofs.Progresses.{WritesApart, WritesNext}

-- a write of the bytes of one tile more
pub held_step : (l : Layout) (w p p' : Progress) (cs es : List TileCode) (e : TileCode) (code : List ℕ) (end n m : ℕ) (held held' : List ℕ) (before now now' : Option (List ℕ)) → WritesNext → p ≡ with_heap l w cs → es ≡ cs ++ e ∷ [] →
    code ≡ e.bytes → end ≡ heap_at_of l + p.heap → p'.heap ≡ p.heap + length code → heap_caught_up l p n held now ≡ written (heap_at_of l + w.heap) (heap_of cs) before →
    caught_up (end + length code) m held' now' ≡ written end code (caught_up end n held now) →
    heap_caught_up l p' m held' now' ≡ written (heap_at_of l + w.heap) (heap_of es) before
held_step l w p p' cs es e code end n m held held' before now now' next so_far more code_is place heap was is =
    let to : heap_at_of l + p'.heap ≡ end + length code = omega (arith, place, heap) in
    let at : end ≡ heap_at_of l + w.heap + length (heap_of cs) = place ∙ ap (λ (q : Progress). heap_at_of l + q.heap) so_far ∙ omega arith in
    ap (λ k. caught_up k m held' now') to ∙ is
    ∙ ap (λ k. written end code (caught_up k n held now)) place
    ∙ ap (written end code) was
    ∙ ap (λ k. written k code (written (heap_at_of l + w.heap) (heap_of cs) before)) at
    ∙ next (heap_at_of l + w.heap) (heap_of cs) code before
    ∙ ap (λ k. written (heap_at_of l + w.heap) k before) (ap (λ k. heap_of cs ++ k) code_is ∙ sym (heap_more cs e) ∙ ap heap_of (sym more))

-- rows are written before bytes of the heap that are held back, or after them
pub rows_apart : (l : Layout) (w : Progress) (es : List TileCode) (n : ℕ) (held : List ℕ) (contents : Option (List ℕ)) → WritesApart → l.row_len ≡ planned_row l.plan → w.tiles + length es ≤ l.tiles → n ≤ w.heap →
    heap_caught_up l w n held (written (l.rows_at + l.row_len * w.tiles) (rows_from l.plan w.heap es) contents) ≡ written (l.rows_at + l.row_len * w.tiles) (rows_from l.plan w.heap es) (heap_caught_up l w n held contents)
rows_apart l w es n held contents swap rows few within =
    let size : length (rows_from l.plan w.heap es) ≡ l.row_len * length es = rows_len l.plan w.heap es ∙ ap (λ k. k * length es) (sym rows) in
    let most : l.row_len * (w.tiles + length es) ≤ l.row_len * l.tiles = mul-le-mul_left l.row_len few in
    let apart : l.rows_at + l.row_len * w.tiles + length (rows_from l.plan w.heap es) ≤ heap_at_of l + w.heap - n = omega (arith, size, most, mul-add l.row_len w.tiles (length es), within) in
    sym (swap (l.rows_at + l.row_len * w.tiles) (heap_at_of l + w.heap - n) (rows_from l.plan w.heap es) (take n held) contents apart)

-- so many slots have no more tiles
pub tiles_few : (n : ℕ) (slots : List Slot) → length (coded_tiles n slots) ≤ n
tiles_few n slots = omega (arith, length-map (take n slots) coded_tile, length-take n slots)

-- rows and then bytes of the heap are those of more tiles
pub tiles_held : (l : Layout) (w p p' : Progress) (es : List TileCode) (count n m : ℕ) (held held' : List ℕ) (c0 c1 c2 : Option (List ℕ)) → WritesApart → l.row_len ≡ planned_row l.plan → length es ≤ count → w.tiles + count ≤ l.tiles → n ≤ w.heap →
    c1 ≡ written (l.rows_at + l.row_len * w.tiles) (rows_from l.plan w.heap es) c0 → p.heap ≡ w.heap →
    heap_caught_up l p' m held' c2 ≡ written (heap_at_of l + p.heap) (heap_of es) (heap_caught_up l p n held c1) →
    heap_caught_up l p' m held' c2 ≡ tiles_written l w es (heap_caught_up l w n held c0)
tiles_held l w p p' es count n m held held' c0 c1 c2 swap len size few within first same last =
    let fits : w.tiles + length es ≤ l.tiles = omega (arith, size, few) in
    last
    ∙ ap (λ k. written (heap_at_of l + k) (heap_of es) (caught_up (heap_at_of l + k) n held c1)) same
    ∙ ap (λ (c : Option (List ℕ)). written (heap_at_of l + w.heap) (heap_of es) (heap_caught_up l w n held c)) first
    ∙ ap (written (heap_at_of l + w.heap) (heap_of es)) (rows_apart l w es n held c0 swap len fits within)
