-- The target with a longer heap is one too (FITS 4.0, section 7.3.5).
use Rattle.std.proofs.Common.{ℕ, ◌+◌, ◌^◌, ◌≤◌, ap, arith}
use Rattle.fz_laws.specs.Writes.{grown_end}
use Rattle.fz_target.specs.Targets.{IsTarget, grown_by}
use Rattle.fz_target.specs.declared.target.Target.{Target}

pub grown_target : (t : Target) (more : ℕ) → IsTarget t → grown_end t.header more ≤ 2 ^ 62 → IsTarget (grown_by t more)
grown_target t more is near = record {
  end = near;
  readable =
      record {
        table =
            record {
              rows = is.readable.table.rows;
              heap = omega (arith, near, is.heap_at, is.heap_len, is.data_len, is.rows_at);
              coded = is.readable.table.coded;
              stored = is.readable.table.stored;
              gzip = is.readable.table.gzip;
            };
        divided = is.readable.divided;
        codec = is.readable.codec;
        rows = is.readable.rows;
      };
  writable = is.writable;
  coded = is.coded;
  stored = is.stored;
  row = is.row;
  rows_at = is.rows_at;
  heap_at = is.heap_at;
  heap_len = ap (λ n. n + more) is.heap_len;
  data_len = omega (arith, is.data_len);
  sieve = is.sieve;
  step = is.step;
}
