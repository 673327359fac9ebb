-- What a row says, and its record, by slices of the file.
use Rattle.std.proofs.Common.{◌≡◌, ◌⊎◌, inl, inr, ℕ, zero, suc, ◌+◌, ◌-◌, ◌*◌, ◌^◌, ◌<◌, ◌≤◌, ◌==◌, ◌&&◌, not, nat_lt, min, Bool, true, false, List, [], ◌∷◌, length, take, drop, slice_index, Option, Some, None, Result, Ok, Err, refl, sym, ap, ◌∙◌, subst, arith, ltb-false, take-take, drop-drop}
use Rattle.std.proofs.lemmas.List.{drop-take, get_or-drop, get_or-take}
use Rattle.byteorder.specs.Endian.{big_from, big_number}
use Rattle.fz_base.specs.Refusal.{first_refusal, refusal}
use Rattle.fz_base.specs.declared.fault.Fault.{Fault}
use Rattle.fz_block.specs.Checks.{unless_refused}
use Rattle.fz_table.specs.Records.{chosen_column, chosen_record, described_in, has_none, is_plain, record_at, record_bytes, record_of, row_checks, unit_in}
use Rattle.fz_table.specs.Rows.{described_at, descriptor_in, descriptor_len, row_at, row_start}
use Rattle.fz_table.specs.declared.array.Descriptor.{Descriptor}
use Rattle.fz_table.specs.declared.record.Record.{Record}
use Rattle.fz_table.specs.declared.record.Tile.{Tile}
use Rattle.fz_table.specs.declared.row.Row.{Row}
use Rattle.fz_table.specs.declared.table.Table.{Table}
use Rattle.fz_head.specs.declared.plan.Plan.{Plan}
use Rattle.fz_laws.proofs.NewRows.{formed}
use Rattle.fz_laws.proofs.Passes.{PassesAll, all_pass}

-- ---- parts of slices

-- a slice of a slice
pub part_same : (a n s m : ℕ) (x y : List ℕ) → a ≤ s → s + m ≤ a + n → take n (drop a x) ≡ take n (drop a y) → take m (drop s x) ≡ take m (drop s y)
part_same a n s m x y low high same =
    let front : a + (s - a) ≡ s = omega arith in
    let parts : (s - a) + (n - (s - a)) ≡ n = omega arith in
    let cut : (l : List ℕ) → take m (drop s l) ≡ take m (drop (s - a) (take n (drop a l))) =
    λ l.
    ap (λ k. take m (drop k l)) (sym front)
    ∙ (sym (ap (take m) (drop-drop (s - a) a l))
    ∙ (sym (take-take m (n - (s - a)) (drop (s - a) (drop a l)) (omega arith))
    ∙ (sym (ap (take m) (drop-take (s - a) (n - (s - a)) (drop a l)))
    ∙ ap (λ k. take m (drop (s - a) (take k (drop a l)))) parts)))
    in
    cut x ∙ (ap (λ l. take m (drop (s - a) l)) same ∙ sym (cut y))

-- ---- descriptors

big_same : (i n : ℕ) (a b : List ℕ) → ((k : ℕ) → k < i + n → slice_index a k ≡ slice_index b k) → big_from i n a ≡ big_from i n b
big_same i zero a b same = refl
big_same i (suc n) a b same =
    let here = same i (omega arith) in
    let rest = big_same (suc i) n a b (λ k less. same k (omega arith)) in
    λ j. here j * 256 ^ n + rest j

in_front : (n k : ℕ) (a b : List ℕ) → k < n → take n a ≡ take n b → slice_index a k ≡ slice_index b k
in_front n k a b less same = sym (get_or-take n a k 0 less) ∙ (ap (λ l. slice_index l k) same ∙ get_or-take n b k 0 less)

after_front : (n m k : ℕ) (a b : List ℕ) → m + k < n → take n a ≡ take n b → slice_index (drop m a) k ≡ slice_index (drop m b) k
after_front n m k a b less same = get_or-drop m a k 0 ∙ (in_front n (m + k) a b less same ∙ sym (get_or-drop m b k 0))

pub descriptor_same : (wide : Bool) (a b : List ℕ) → take (descriptor_len wide) a ≡ take (descriptor_len wide) b → descriptor_in wide a ≡ descriptor_in wide b
descriptor_same true a b same =
    λ j. record {
      count = big_same 0 8 a b (λ k less. in_front 16 k a b (omega arith) same) j;
      offset = big_same 0 8 (drop 8 a) (drop 8 b) (λ k less. after_front 16 8 k a b (omega arith) same) j;
    }
descriptor_same false a b same =
    λ j. record {
      count = big_same 0 4 a b (λ k less. in_front 8 k a b (omega arith) same) j;
      offset = big_same 0 4 (drop 4 a) (drop 4 b) (λ k less. after_front 8 4 k a b (omega arith) same) j;
    }

-- a row of a table of which a patch could write the rows
pub row_same : (t : Table) (p : Plan) (heap row : ℕ) (x y : List ℕ) → t.row_bytes ≡ descriptor_len p.wide + descriptor_len p.wide →
    take t.row_bytes (drop (row_start t row) x) ≡ take t.row_bytes (drop (row_start t row) y) → row_at x (formed t p heap) row ≡ row_at y (formed t p heap) row
row_same t p heap row x y size same =
    let dl : ℕ = descriptor_len p.wide in
    let s : ℕ = row_start t row in
    let first : take dl (drop (s + 0) x) ≡ take dl (drop (s + 0) y) = part_same s t.row_bytes (s + 0) dl x y (omega arith) (omega arith) same in
    let second : take dl (drop (s + dl) x) ≡ take dl (drop (s + dl) y) = part_same s t.row_bytes (s + dl) dl x y (omega arith) (omega arith) same in
    λ j. record {
      coded = descriptor_same p.wide (drop (s + 0) x) (drop (s + 0) y) first j;
      stored = descriptor_same p.wide (drop (s + dl) x) (drop (s + dl) y) second j;
      gzip = described_at y (formed t p heap) None row;
    }

-- ---- records

-- a record that is found lies in the heap
pub record Lies (t : Table) (found : Record) : Type 0 where
  pub low : t.heap_at ≤ found.start
  pub high : found.start + found.read ≤ t.heap_at + t.heap_len

found_is : (c found : Record) (refused : Option Fault) → unless_refused c refused ≡ Ok found → (refused ≡ None) × (c ≡ found)
found_is c found None e = (refl, cc)
found_is c found (Some x) e = absurd cc

pub record_lies : (hdu row : ℕ) (t : Table) (r : Row) (tile : Tile) (found : Record) → record_of hdu row t r tile ≡ Ok found → Lies t found
unfolding record_of
record_lies hdu row t r tile found e =
    let both = found_is (chosen_record t r tile) found (first_refusal (row_checks hdu row t r tile)) e in
    let d : Descriptor = described_in r (chosen_column r) in
    let len : ℕ = d.count * unit_in t (chosen_column r) in
    let all : PassesAll (row_checks hdu row t r tile) = all_pass (row_checks hdu row t r tile) both.0 in
    let within : d.offset + len ≤ t.heap_len = ltb-false t.heap_len (d.offset + len) all.1.0 in
    let lies : Lies t (chosen_record t r tile) = record { low = omega arith; high = omega arith } in
    subst (Lies t) both.1 lies

-- and is the same in every file with this heap
pub record_same : (t : Table) (found : Record) (x y : List ℕ) → Lies t found → take t.heap_len (drop t.heap_at x) ≡ take t.heap_len (drop t.heap_at y) → record_bytes x found ≡ record_bytes y found
record_same t found x y lies same = part_same t.heap_at t.heap_len found.start found.read x y lies.low lies.high same
