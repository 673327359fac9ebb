-- A table while it is written: the rows and the heap of its first tiles (FITS 4.0, sections 7.3.5, 10.1.3 and 4.4.2.7).
use Rattle.std.specs.Prelude.{ℕ, ◌≡◌, ◌+◌, ◌*◌, ◌<◌, ◌≤◌, max, List, length, map, slice_index_or, Option, IfSome}
use Rattle.fz_base.specs.Sink.{written}
use Rattle.fz_sum.specs.Pieces.{nothing, after}
use Rattle.fz_tile.specs.TileCode.{TileCode}
use Rattle.fz_checks.specs.Greatest.{greatest}
use Rattle.fz_files.specs.Packed.{coded_count, heap_of, rows_from, stored_count}
use Rattle.fz_pool.specs.Round.{coded_tiles}
use Rattle.fz_pool.specs.Window.{Pool, IsFilled}
use Rattle.fz_pool.specs.declared.slot.Slot.{Slot}
use Rattle.fz_image.specs.Layout.{heap_at_of, pixel_bytes_of, rows_len_of}
use Rattle.fz_image.specs.Tiles.{AreCodesFrom, codes_from}
use Rattle.fz_image.specs.declared.layout.Layout.{Layout}
use Rattle.fz_image.specs.declared.progress.Progress.{Progress}

-- nothing was written
abbrev pub no_progress : Progress
no_progress = record { tiles = 0; heap = 0; coded = 0; stored = 0; sum = nothing }

-- after the bytes of the rows of so many tiles more
abbrev pub with_row_bytes : Layout → Progress → ℕ → List ℕ → Progress
with_row_bytes l w count rows = record w {
  tiles = w.tiles + count;
  sum = after w.sum (l.row_len * w.tiles) rows;
}

-- after the bytes of one tile more
abbrev pub with_tile : Layout → Progress → TileCode → Progress
with_tile l w e = record w {
  heap = w.heap + length e.bytes;
  coded = max w.coded (coded_count l.plan e);
  stored = max w.stored (stored_count l.plan e);
  sum = after w.sum (rows_len_of l + w.heap) e.bytes;
}

-- after the rows of more tiles
abbrev pub with_rows : Layout → Progress → List TileCode → Progress
with_rows l w codes = with_row_bytes l w (length codes) (rows_from l.plan w.heap codes)

-- after the bytes of more tiles
abbrev pub with_heap : Layout → Progress → List TileCode → Progress
with_heap l w codes = record w {
  heap = w.heap + length (heap_of codes);
  coded = max w.coded (greatest (map (coded_count l.plan) codes));
  stored = max w.stored (greatest (map (stored_count l.plan) codes));
  sum = after w.sum (rows_len_of l + w.heap) (heap_of codes);
}

-- after both
abbrev pub with_tiles : Layout → Progress → List TileCode → Progress
with_tiles l w codes = with_heap l (with_rows l w codes) codes

-- the contents after the rows and the bytes of more tiles
abbrev pub tiles_written : Layout → Progress → List TileCode → Option (List ℕ) → Option (List ℕ)
tiles_written l w codes contents =
    written (heap_at_of l + w.heap) (heap_of codes)
    (written (l.rows_at + l.row_len * w.tiles) (rows_from l.plan w.heap codes) contents)

-- the first tiles of a table are written, whose contents were `before`
pub record IsWritten (l : Layout) (held before now : Option (List ℕ)) (w : Progress) : Type 0 where
  pub codes : List TileCode
  pub each : AreCodesFrom l 0 codes
  pub some : length codes ≤ l.tiles
  pub progress : w ≡ with_tiles l no_progress codes
  pub contents : now ≡ tiles_written l no_progress codes before
  pub told : IfSome held (λ file. codes ≡ codes_from l file 0 (length codes))

-- the first slots have what is written for the next tiles, and after so many bytes of the heap there is room for that in the plain
-- bytes of the image
pub record AreNext (l : Layout) (heap count : ℕ) (pool : Pool) : Type 0 where
  pub filled : IsFilled pool
  pub near : count ≤ 2 * pool.workers
  pub lens : (i : ℕ) (d : Slot) → i < count → (slice_index_or pool.slots i d).job.len ≤ length (slice_index_or pool.slots i d).code
  pub fits : heap + length (heap_of (coded_tiles count pool.slots)) ≤ pixel_bytes_of l
