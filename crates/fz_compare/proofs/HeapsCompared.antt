-- The codes of tiles, compared one after another with the heap of the file.
use Rattle.std.proofs.Common.{◌≡◌, ℕ, ◌+◌, ◌<◌, List, ◌++◌, length, slice_get, Option, Some, None, IfSome, true, false, sym, ap, ◌∙◌, subst, arith}
use Rattle.fz_files.specs.Packed.{heap_of}
use Rattle.fz_pool.specs.Round.{coded_tile, coded_tiles}
use Rattle.fz_pool.specs.declared.slot.Slot.{Slot}
use Rattle.fz_image.specs.Layout.{heap_at_of}
use Rattle.fz_image.specs.Progress.{with_heap}
use Rattle.fz_image.specs.declared.layout.Layout.{Layout}
use Rattle.fz_image.specs.declared.progress.Progress.{Progress}
use Rattle.fz_compare.specs.Compared.{ComparesHeap, has_bytes}
use Rattle.fz_compare.proofs.BytesThere.{HasFirst, has_back, has_front, more_first, none_first}
use Rattle.fz_compare.proofs.Pieces.{not_both}
use Rattle.fz_compare.proofs.RowsAndHeap.{heap_more, heap_parts, no_heap, tiles_more}

-- the bytes of the first i tiles are the next ones of the heap
abbrev pub HeapSoFar : Option (List ℕ) → ℕ → Layout → Progress → ℕ → List Slot → Type 0
HeapSoFar held end l w i slots = IfSome held (λ g. HasFirst i g (heap_at_of l + w.heap) end (heap_of (coded_tiles i slots)))

pub heap_none : (held : Option (List ℕ)) (end : ℕ) (l : Layout) (w : Progress) (slots : List Slot) → HeapSoFar held end l w 0 slots
heap_none None end l w slots = tt
heap_none (Some g) end l w slots = none_first g (heap_at_of l + w.heap) end (heap_of (coded_tiles 0 slots)) no_heap

module _ (end : ℕ) (l : Layout) (w p : Progress) (i : ℕ) (slots : List Slot) (x : Slot) (is : slice_get slots i ≡ Some x) (code : List ℕ) (code_is : code ≡ (coded_tile x).bytes) (at : ℕ) (so_far : p ≡ with_heap l w (coded_tiles i slots)) (place : at ≡ heap_at_of l + p.heap) where
  abbrev before : List ℕ
  before = heap_of (coded_tiles i slots)

  next : at ≡ heap_at_of l + w.heap + length before
  next = place ∙ ap (λ (q : Progress). heap_at_of l + q.heap) so_far ∙ omega arith

  with_code : heap_of (coded_tiles (i + 1) slots) ≡ before ++ code
  with_code = ap heap_of (tiles_more i slots x is) ∙ heap_more (coded_tiles i slots) (coded_tile x) ∙ ap (λ k. before ++ k) (sym code_is)

  pub heap_same : (held : Option (List ℕ)) → HeapSoFar held end l w i slots → IfSome held (λ g. true ≡ has_bytes g at end code) → HeapSoFar held end l w (i + 1) slots
  heap_same None old same = tt
  heap_same (Some g) old same = more_first i (i + 1) g (heap_at_of l + w.heap) end at before code (heap_of (coded_tiles (i + 1) slots)) with_code next old (sym same)

  pub heap_differs : (held : Option (List ℕ)) (count : ℕ) → i < count → IfSome held (λ g. false ≡ has_bytes g at end code) → IfSome held (λ g. ComparesHeap g end l w (coded_tiles count slots) None)
  heap_differs None count less other = tt
  heap_differs (Some g) count less other = λ has.
      let parts = heap_parts (i + 1) count slots (omega (arith, less)) in
      let all : heap_of (coded_tiles count slots) ≡ (before ++ code) ++ parts.0 = parts.1 ∙ ap (λ k. k ++ parts.0) with_code in
      let whole : has_bytes g (heap_at_of l + w.heap) end ((before ++ code) ++ parts.0) ≡ true =
      subst (λ k. has_bytes g (heap_at_of l + w.heap) end k ≡ true) all has.heap in
      let here = has_back g (heap_at_of l + w.heap) end before code (has_front g (heap_at_of l + w.heap) end (before ++ code) parts.0 whole) in
      let there : has_bytes g at end code ≡ true = subst (λ n. has_bytes g n end code ≡ true) (sym next) here in
      not_both (sym there ∙ sym other)

pub heap_all : (held : Option (List ℕ)) (end : ℕ) (l : Layout) (w p : Progress) (i count : ℕ) (slots : List Slot) → i ≡ count → 0 < count → p ≡ with_heap l w (coded_tiles i slots) → HeapSoFar held end l w i slots →
    IfSome held (λ g. ComparesHeap g end l w (coded_tiles count slots) (Some p))
heap_all None end l w p i count slots all some is old = tt
heap_all (Some g) end l w p i count slots all some is old =
    subst (λ n. ComparesHeap g end l w (coded_tiles n slots) (Some p)) all (record { heap = old.has (omega (arith, some, all)) }, is)
