-- The column that a row chooses describes bytes.
use Rattle.std.proofs.Common.{◌≡◌, ℕ, ◌+◌, ◌*◌, ◌<◌, ◌≤◌, Bool, true, false, Option, Some, None, IfSome, IfNone, nat_lt, nat_le, if◌then◌else◌, refl, sym, ap, arith}
use Rattle.std.proofs.Math.Nat.{le-mul_of_pos_right}
use Rattle.std.proofs.lemmas.Bool.Decides.{nat_tests}
use Rattle.fz_table.specs.Rows.{heap_range, StandsInRow, IsTable, IsRowOf}
use Rattle.fz_table.specs.Records.{described_in, unit_if, unit_in, has_none}
use Rattle.fz_table.specs.declared.array.Descriptor.{Descriptor}
use Rattle.fz_table.specs.declared.column.Column.{Column}
use Rattle.fz_table.specs.declared.record.TileColumn.TheVariants.{Coded, Stored}
use Rattle.fz_table.specs.declared.row.Row.{Row}
use Rattle.fz_table.specs.declared.table.Table.{Table}

-- elements of a column have bytes
bytes_of : (t : Table) (found : Option Column) (count : ℕ) → 0 < count → IfNone found (count ≡ 0) → IfSome found (λ c. StandsInRow t c × (1 ≤ c.unit)) → 0 < count * unit_if found
bytes_of t None count some none there = absurd (omega arith)
bytes_of t (Some c) count some none there = omega (arith, le-mul_of_pos_right {m = c.unit} count there.1)

-- the row chooses a column in which it describes elements
chosen_by : (t : Table) (r : Row) (b : Bool) → IsTable t → IsRowOf t r → has_none r ≡ false → nat_lt 0 r.coded.count ≡ b →
    0 < (described_in r (if b then Coded else Stored)).count * unit_in t (if b then Coded else Stored)
chosen_by t r true table row some coded =
    let described : 0 < r.coded.count = grind (arith, nat_tests) in
    bytes_of t t.coded r.coded.count described row.coded table.coded
chosen_by t r false table row some coded =
    let described : 0 < r.stored.count = grind (arith, nat_tests) in
    bytes_of t t.stored r.stored.count described row.stored table.stored

pub chosen_bytes : (t : Table) (r : Row) → IsTable t → IsRowOf t r → has_none r ≡ false →
    0 < (described_in r (if nat_lt 0 r.coded.count then Coded else Stored)).count * unit_in t (if nat_lt 0 r.coded.count then Coded else Stored)
chosen_bytes t r table row some = chosen_by t r (nat_lt 0 r.coded.count) table row some refl

-- a range within the heap
pub record InHeap (t : Table) (unit : ℕ) (d : Descriptor) (start total : ℕ) : Type 0 where
  pub start_is : start ≡ t.heap_at + d.offset
  pub total_is : total ≡ d.count * unit
  pub within : d.offset + total ≤ t.heap_len

some_of : (b : Bool) (p q : ℕ × ℕ) → (if b then Some p else None) ≡ Some q → (b ≡ true) × (p ≡ q)
some_of true p q is = (refl, cc)
some_of false p q is = absurd cc

pub in_heap : (t : Table) (unit : ℕ) (d : Descriptor) (start total : ℕ) → heap_range t unit d ≡ Some (start, total) → InHeap t unit d start total
in_heap t unit d start total is =
    let here : ℕ × ℕ = (t.heap_at + d.offset, d.count * unit) in
    let there : ℕ × ℕ = (start, total) in
    let both = some_of (nat_le (d.offset + d.count * unit) t.heap_len) here there is in
    let test : nat_le (d.offset + d.count * unit) t.heap_len ≡ true = both.0 in
    let end : d.offset + d.count * unit ≤ t.heap_len = grind (arith, nat_tests) in
    let start_is : start ≡ t.heap_at + d.offset = sym (ap (λ (p : ℕ × ℕ). p.0) both.1) in
    let total_is : total ≡ d.count * unit = sym (ap (λ (p : ℕ × ℕ). p.1) both.1) in
    record { start_is = start_is; total_is = total_is; within = omega (arith, end, total_is) }
