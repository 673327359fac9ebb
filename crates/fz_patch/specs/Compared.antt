-- Bytes that a file has at a place, and rows that describe such bytes (FITS 4.0, sections 7.3.5 and 10.1.3).
use Rattle.std.specs.Prelude.{ℕ, ◌≡◌, ◌+◌, ◌-◌, true, List, [], ◌∷◌, length, take, drop, Option, ⊤}
use Rattle.fz_base.specs.Counts.{Amend}
use Rattle.fz_base.specs.Source.{has_bytes}
use Rattle.fz_head.specs.declared.plan.Plan.{Plan}
use Rattle.fz_table.specs.declared.table.Table.{Table}
use Rattle.fz_tile.specs.TileCode.{TileCode}
use Rattle.fz_laws.specs.Writes.{row_writes}
use Rattle.fz_target.specs.Measures.{is_measured}
use Rattle.fz_target.specs.Steps.{WroteSome}
use Rattle.fz_target.specs.declared.measure.Measure.{Measure}

-- the heap of a table ends with these bytes
abbrev pub HeapEndsWith : List ℕ → Table → List ℕ → Type 0
HeapEndsWith file t bytes = take (length bytes) (drop (t.heap_at + (t.heap_len - length bytes)) file) ≡ bytes

-- the codes of these rows are in the file, one after another from a place on, and none has more elements than was measured
abbrev pub CodesLie : Plan → Measure → List ℕ → ℕ → List (ℕ × TileCode) → Type 0
CodesLie p m file at [] = ⊤
CodesLie p m file at ((row, e) ∷ more) = (has_bytes file at e.bytes ≡ true) × (is_measured p m e ≡ true) × CodesLie p m file (at + length e.bytes) more

-- Some rows were written, and each describes a code that is in the heap of the file, from this offset on: whatever these codes are.
pub record DescribesCodes
    (t : Table) (p : Plan) (m : Measure) (offset : ℕ) (file : List ℕ) (held held' : Option (List ℕ))
    (writes writes' : Option (List Amend)) : Type 0 where
  pub rows : List (ℕ × TileCode)
  pub lie : CodesLie p m file (t.heap_at + offset) rows
  pub wrote : WroteSome (row_writes t p offset rows) held held' writes writes'
