-- What is known of the new codes before any is written: how long they are, and the greatest counts (FITS 4.0, section 7.3.5).
use Rattle.std.specs.Prelude.{ℕ, ◌≡◌, ◌+◌, ◌-◌, ◌^◌, ◌≤◌, ◌&&◌, ◌||◌, max, Bool, true, List, length, map, Option, Some, None, nat_le, nat_lt, if◌then◌else◌}
use Rattle.std.specs.List.{range_with_len}
use Rattle.fz_files.specs.Packed.{coded_count, heap_of, stored_count}
use Rattle.fz_checks.specs.Greatest.{greatest}
use Rattle.fz_head.specs.declared.plan.Plan.{Plan}
use Rattle.fz_table.specs.Rows.{row_at}
use Rattle.fz_table.specs.declared.row.Row.{Row}
use Rattle.fz_table.specs.declared.table.Table.{Table}
use Rattle.fz_tile.specs.TileCode.{TileCode}
use Rattle.fz_laws.specs.Writes.{grown_end}
use Rattle.fz_target.specs.declared.measure.Measure.{Measure}
use Rattle.fz_target.specs.declared.target.Target.{Target}

-- of these codes
abbrev pub measure_of : Plan → List TileCode → Measure
measure_of p es = record {
  bytes = length (heap_of es);
  coded = greatest (map (coded_count p) es);
  stored = greatest (map (stored_count p) es);
}

-- with one code more
abbrev pub measured_with : Plan → Measure → TileCode → Measure
measured_with p m e = record {
  bytes = m.bytes + length e.bytes;
  coded = max m.coded (coded_count p e);
  stored = max m.stored (stored_count p e);
}

-- a code has no more elements than was measured, in either column
abbrev pub is_measured : Plan → Measure → TileCode → Bool
is_measured p m e = nat_le (coded_count p e) m.coded && nat_le (stored_count p e) m.stored

-- with the counts of a row
abbrev pub counted_with : Measure → Row → Measure
counted_with m r = record { bytes = m.bytes; coded = max m.coded r.coded.count; stored = max m.stored r.stored.count }

-- with those of some rows
abbrev pub counted_with_all : Measure → List Row → Measure
counted_with_all m rs = record {
  bytes = m.bytes;
  coded = max m.coded (greatest (map (λ (r : Row). r.coded.count) rs));
  stored = max m.stored (greatest (map (λ (r : Row). r.stored.count) rs));
}

-- with those of so many rows of a file, from one on
abbrev pub counted_rows : Measure → List ℕ → Table → ℕ → ℕ → Measure
counted_rows m file t first count = counted_with_all m (map (row_at file t) (range_with_len first count))

-- what a form comes to say, if it says less than the greatest new count
abbrev pub form_for : ℕ → ℕ → ℕ → Option ℕ
form_for said new all = if nat_lt said new then Some all else None

-- a heap that is longer by so many bytes can be said
abbrev pub has_room : Target → ℕ → Bool
has_room t more =
    (t.wide || nat_le (t.header.pcount + more) 2147483647)
    && (nat_le (t.header.pcount + more) (10 ^ 18 - 1)
    && nat_le (grown_end t.header more) (2 ^ 62))

-- the codes have room, and each has fewer elements than can be said
pub record HasRoom (t : Target) (m : Measure) : Type 0 where
  pub room : has_room t m.bytes ≡ true
  pub few : m.bytes ≤ 2 ^ 60
  pub coded : m.coded ≤ m.bytes
  pub stored : m.stored ≤ m.bytes
