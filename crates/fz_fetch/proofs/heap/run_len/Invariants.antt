-- The bytes so far are those of records, and there is room for them.
use Rattle.std.proofs.Common.{◌≡◌, ℕ, ◌+◌, ◌≤◌, ◌⊎◌, List, length, Option, IfSome}
use Rattle.fz_fetch.specs.Ahead.{AreOfRows, IsAhead}
use Rattle.fz_fetch.specs.Loaded.{IsRecordIn}
use Rattle.fz_fetch.proofs.heap.run_len.Given as goal

abbrev pub invariant-loop-next : goal.invariant-loop-next
invariant-loop-next l = record {
  least : l.found.read ≤ l.run;
  stop : l.found.start + l.run ≤ l.image.table.heap_at + l.image.table.heap_len;
  room : (l.run ≡ l.found.read) ⊎ (4096 + l.run ≤ length l.buf);
  told : (held : Option (List ℕ)) → IsAhead held l.image.table l.buf l.ahead → IfSome held (λ file. IsRecordIn file l.hdu l.image l.tile l.found)
      → IfSome held (λ file. AreOfRows file l.hdu l.image l.found.start l.run);
}
