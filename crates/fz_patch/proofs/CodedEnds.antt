-- Where the new codes end, and what is within the file.
use Rattle.std.proofs.Common.{◌≡◌, ℕ, ◌+◌, ◌-◌, ◌^◌, ◌<◌, ◌≤◌, ◌&&◌, ◌||◌, nat_le, Bool, true, false, arith}
use Rattle.std.proofs.lemmas.Bool.Decides.{nat_tests}
use Rattle.fz_block.specs.Header.{data_start_of, whole_blocks_of}
use Rattle.fz_laws.specs.Writes.{grown_end}
use Rattle.fz_target.specs.Measures.{HasRoom}
use Rattle.fz_target.specs.Targets.{IsTarget}
use Rattle.fz_target.specs.Tiles.{IsBoxTile}
use Rattle.fz_target.specs.declared.measure.Measure.{Measure}
use Rattle.fz_target.specs.declared.target.Target.{Target}
use Rattle.fz_patch.proofs.NewCodes.{heap_end_of}

pub row_of_tile : (t : Target) (tile : ℕ) → IsTarget t → IsBoxTile t tile → tile < t.image.table.rows
row_of_tile t tile is box = omega (arith, is.readable.rows, box.near)

-- ---- what the room says

and_first : (a b : Bool) → (a && b) ≡ true → a ≡ true
and_first true b e = cc
and_first false b e = absurd cc

and_second : (a b : Bool) → (a && b) ≡ true → b ≡ true
and_second true b e = e
and_second false b e = absurd cc

is_le : (a b : ℕ) → nat_le a b ≡ true → a ≤ b
is_le a b e = grind (arith, nat_tests)

-- the heap with the new codes can be said, and the HDU ends at byte 2^62 at most
pub record HasEnds (t : Target) (more : ℕ) : Type 0 where
  pub short : t.header.pcount + more < 10 ^ 18
  pub near : grown_end t.header more ≤ 2 ^ 62
  pub narrow : t.wide ≡ false → t.header.pcount + more ≤ 2147483647

narrow_so : (wide b : Bool) → (wide || b) ≡ true → wide ≡ false → b ≡ true
narrow_so true b e f = absurd cc
narrow_so false b e f = e

pub ends_of : (t : Target) (m : Measure) → HasRoom t m → HasEnds t m.bytes
ends_of t m room =
    let heap : ℕ = t.header.pcount + m.bytes in
    let one : Bool = t.wide || nat_le heap 2147483647 in
    let two : Bool = nat_le heap (10 ^ 18 - 1) in
    let three : Bool = nat_le (grown_end t.header m.bytes) (2 ^ 62) in
    let rest : (two && three) ≡ true = and_second one (two && three) room.room in
    let said : heap ≤ 10 ^ 18 - 1 = is_le heap (10 ^ 18 - 1) (and_first two three rest) in
    record {
      short = omega (arith, said);
      near = is_le (grown_end t.header m.bytes) (2 ^ 62) (and_second two three rest);
      narrow = λ e. is_le heap 2147483647 (narrow_so t.wide (nat_le heap 2147483647) (and_first one (two && three) room.room) e);
    }

-- the heap ends where the data do
pub heap_end_is : (t : Target) → IsTarget t → heap_end_of t ≡ data_start_of t.header + t.header.data_len
heap_end_is t is = omega (arith, is.heap_at, is.heap_len, is.data_len, is.rows_at)

whole_at_least : (n : ℕ) → n ≤ whole_blocks_of n
whole_at_least n = omega arith

whole_near : (n : ℕ) → whole_blocks_of n ≤ n + 2879
whole_near n = omega arith

pub end_near : (t : Target) (m : Measure) → IsTarget t → HasRoom t m → heap_end_of t + m.bytes ≤ 2 ^ 62
end_near t m is room = omega (arith, heap_end_is t is, (ends_of t m room).near, whole_at_least (t.header.data_len + m.bytes))

-- zeros from there on are less than a block
pub zeros_near : (t : Target) (more at : ℕ) → IsTarget t → at ≡ heap_end_of t + more → (at ≤ grown_end t.header more) × (grown_end t.header more ≤ at + 2879)
zeros_near t more at is end =
    let low : at ≤ grown_end t.header more = omega (arith, heap_end_is t is, end, whole_at_least (t.header.data_len + more)) in
    let high : grown_end t.header more ≤ at + 2879 = omega (arith, heap_end_is t is, end, whole_near (t.header.data_len + more)) in
    (low, high)
