-- Where the new codes end, and what is within the file.
use Rattle.std.proofs.Common.{ℕ, ◌-◌, ◌^◌, ◌≤◌, arith}
use Rattle.fz_block.specs.Header.{whole_blocks_of}
use Rattle.fz_target.specs.Targets.{IsTarget}
use Rattle.fz_target.specs.declared.target.Target.{Target}

-- ---- what the room says

whole_at_least : (n : ℕ) → n ≤ whole_blocks_of n
whole_at_least n = omega arith

-- the heap is within the data
pub heap_few : (t : Target) → IsTarget t → t.header.pcount ≤ 2 ^ 62
heap_few t is = omega (arith, is.data_len, is.end, whole_at_least t.header.data_len)
