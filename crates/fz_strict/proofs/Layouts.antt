-- The layout of a table that is read.
use Rattle.std.proofs.Common.{ℕ, ◌^◌, ◌<◌, ◌≤◌, refl, arith}
use Rattle.fz_block.specs.Header.{next_start_of}
use Rattle.fz_block.specs.declared.header.Header.{Header}
use Rattle.fz_head.specs.declared.plan.Plan.{Plan}
use Rattle.fz_image.specs.Layout.{IsLayout, IsPlan, layout_of}

pub table_layout : (h : Header) (p : Plan) (rows_at : ℕ) → IsPlan p → 0 < rows_at → rows_at ≤ 2 ^ 63 → next_start_of h ≤ 2 ^ 62 → IsLayout (layout_of h p rows_at)
table_layout h p rows_at plan behind near end = record {
  plan = plan;
  tiles = refl;
  pixel_len = refl;
  row_len = refl;
  behind = behind;
  near = near;
  pixels = omega (arith, end);
}
