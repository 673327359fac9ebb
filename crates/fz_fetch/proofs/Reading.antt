-- Rows that were read together, and the ranges that were read for them.
use Rattle.std.proofs.Common.{◌≡◌, ℕ, zero, suc, ◌+◌, ◌*◌, ◌<◌, ◌≤◌, inl, inr, List, [], ◌∷◌, ◌++◌, length, drop, slice_index, Option, Some, None, Result, Ok, Err, IfSome, true, sym, ap, ◌∙◌, subst, arith}
use Rattle.std.proofs.Math.Nat.{mul-le-mul_left}
use Rattle.std.specs.List.{flat_map}
use Rattle.fz_base.specs.Ranges.{LiesIn, Logs, LogsIn, LogsSomeLaw, LogsAllLaw}
use Rattle.fz_base.specs.Source.{Reads}
use Rattle.fz_base.specs.declared.failure.Stop.{Stop}
use Rattle.fz_base.specs.declared.failure.Stop.TheVariants.{Refused, ReadFault, WriteFault, OverLimit, NoMemory}
use Rattle.fz_table.specs.Reads.{FilledLaw, is_filled, row_ranges}
use Rattle.fz_table.specs.Rows.{IsTable, RowInLaw, row_at, row_in, row_start}
use Rattle.fz_table.specs.declared.table.Table.{Table}
use Rattle.fz_fetch.specs.Rows.{AreFrom, HasRowsOf, rows_ranges}

-- each row is after those before it
row_fits : (len count i : ℕ) → i < count → len * (i + 1) ≤ len * count
row_fits len count i near = mul-le-mul_left len (omega (arith, near))

-- of rows that were read together each says what it says in the file
pub rows_read : RowInLaw → (held : Option (List ℕ)) (t : Table) (rows tiles : List ℕ) (first : ℕ) → IsTable t → AreFrom first tiles → length rows ≡ t.row_bytes * length tiles
    → Reads held (row_start t first) rows → HasRowsOf held t rows tiles
rows_read law held t rows tiles first table from size read i near =
    let room : t.row_bytes * (i + 1) ≤ length rows = omega (arith, row_fits t.row_bytes (length tiles) i near, size) in
    record { room = room; told = told held read room }
  where
    told : (held : Option (List ℕ)) → Reads held (row_start t first) rows → t.row_bytes * (i + 1) ≤ length rows → IfSome held (λ file. row_in t (drop (t.row_bytes * i) rows) ≡ row_at file t (slice_index tiles i))
    told None read room = tt
    told (Some file) read room = law file rows t first i table read room ∙ ap (row_at file t) (sym (from i near))

-- ---- ranges

-- a byte of one of two lists of ranges is one of both
pub in_first : (xs ys : List (ℕ × ℕ)) (byte : ℕ) → LiesIn xs byte → LiesIn (xs ++ ys) byte
in_first [] ys byte lies = elim lies [ ]
in_first ((start, count) ∷ xs) ys byte (inl here) = inl here
in_first ((start, count) ∷ xs) ys byte (inr later) = inr (in_first xs ys byte later)

pub in_second : (xs ys : List (ℕ × ℕ)) (byte : ℕ) → LiesIn ys byte → LiesIn (xs ++ ys) byte
in_second [] ys byte lies = lies
in_second ((start, count) ∷ xs) ys byte lies = inr (in_second xs ys byte lies)

-- a byte of one of some lists of ranges is one of all
pub lies_in_one : (ranges : ℕ → List (ℕ × ℕ)) (ts : List ℕ) (k byte : ℕ) → k < length ts → LiesIn (ranges (slice_index ts k)) byte → LiesIn (flat_map ranges ts) byte
lies_in_one ranges [] k byte near lies = absurd (omega (arith, near))
lies_in_one ranges (t ∷ ts) zero byte near lies = in_first (ranges t) (flat_map ranges ts) byte lies
lies_in_one ranges (t ∷ ts) (suc k) byte near lies = in_second (ranges t) (flat_map ranges ts) byte (lies_in_one ranges ts k byte (omega (arith, near)) lies)

-- a byte of rows that are read together is one of their descriptors
pub rows_lie : FilledLaw → (t : Table) (tiles : List ℕ) (first start len byte : ℕ) → IsTable t → is_filled t ≡ true → AreFrom first tiles → start ≡ row_start t first → len ≡ t.row_bytes * length tiles
    → LiesIn ((start, len) ∷ []) byte → LiesIn (rows_ranges t tiles) byte
rows_lie law t tiles first start len byte table filled from begin size (inr none) = elim none [ ]
rows_lie law t tiles first start len byte table filled from begin size (inl here) =
    let found = law t first (length tiles) byte table filled (omega (arith, begin, here.0)) (omega (arith, begin, size, here.1)) in
    lies_in_one (row_ranges t) tiles found.0 byte found.1 (subst (λ (r : ℕ). LiesIn (row_ranges t r) byte) (sym (from found.0 found.1)) found.2)

-- the reads of a call lie in ranges where their bytes do
pub logs_in : LogsSomeLaw → LogsAllLaw → {X : Type 0} (reads ranges : List (ℕ × ℕ)) (old new : Option (List (ℕ × ℕ))) (result : Result X Stop)
    → ((byte : ℕ) → LiesIn reads byte → LiesIn ranges byte) → Logs reads result old new → LogsIn ranges old new
logs_in some all reads ranges old new (Ok x) lie logs = all reads ranges old new lie logs
logs_in some all reads ranges old new (Err (Refused x)) lie logs = all reads ranges old new lie logs
logs_in some all reads ranges old new (Err ReadFault) lie logs = some reads ranges old new lie logs
logs_in some all reads ranges old new (Err WriteFault) lie logs = some reads ranges old new lie logs
logs_in some all reads ranges old new (Err (OverLimit live asked limit)) lie logs = some reads ranges old new lie logs
logs_in some all reads ranges old new (Err NoMemory) lie logs = some reads ranges old new lie logs
