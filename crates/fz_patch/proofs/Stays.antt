-- A row stands for the same numbers in two files in which its header, its bytes and the heap are the same.
use Rattle.std.proofs.Common.{◌≡◌, ℕ, zero, suc, ◌+◌, ◌-◌, ◌*◌, ◌^◌, ◌<◌, ◌≤◌, nat_lt, Bool, true, false, ℤ, List, [], ◌∷◌, take, drop, slice_index, Option, Some, None, Ok, refl, sym, ap, ◌∙◌, subst, arith, ltb-false, take-take, drop-drop}
use Rattle.std.specs.Prelude.{IfSome}
use Rattle.std.proofs.lemmas.List.{drop-take, get_or-drop, get_or-take}
use Rattle.byteorder.specs.Endian.{big_from}
use Rattle.fz_base.specs.Refusal.{first_refusal}
use Rattle.fz_base.specs.declared.fault.Fault.{Fault}
use Rattle.fz_block.specs.Checks.{unless_refused}
use Rattle.fz_block.specs.declared.header.Header.{Header}
use Rattle.fz_table.specs.Records.{chosen_column, chosen_record, described_in, record_at, record_bytes, record_of, row_checks, unit_in}
use Rattle.fz_table.specs.Rows.{IsTable, StandsInRow, described_at, descriptor_in, descriptor_len, row_at, row_start}
use Rattle.fz_table.specs.declared.array.Descriptor.{Descriptor}
use Rattle.fz_table.specs.declared.column.Column.{Column}
use Rattle.fz_table.specs.declared.record.Record.{Record}
use Rattle.fz_table.specs.declared.record.Tile.{Tile}
use Rattle.fz_table.specs.declared.row.Row.{Row}
use Rattle.fz_table.specs.declared.table.Table.{Table}
use Rattle.fz_tile.specs.Record.{IsRecord}
use Rattle.fz_block.specs.Hdus.{cards_of}
use Rattle.fz_table.specs.Tables.{table_in}
use Rattle.fz_head.specs.PackedPlan.{plan_of_cards}
use Rattle.fz_files.specs.Packed.{pixel_bits}
use Rattle.fz_files.specs.Restored.{RecordMeans, RowStandsFor, header_in, image_table, pixels_of, place_in, plan_in, tile_of}

-- ---- parts of slices

-- a slice of a slice
pub part_same : (a n s m : ℕ) (x y : List ℕ) → a ≤ s → s + m ≤ a + n → take n (drop a x) ≡ take n (drop a y) → take m (drop s x) ≡ take m (drop s y)
part_same a n s m x y low high same =
    let front : a + (s - a) ≡ s = omega arith in
    let parts : (s - a) + (n - (s - a)) ≡ n = omega arith in
    let cut : (l : List ℕ) → take m (drop s l) ≡ take m (drop (s - a) (take n (drop a l))) =
    λ l.
    ap (λ k. take m (drop k l)) (sym front)
    ∙ (sym (ap (take m) (drop-drop (s - a) a l))
    ∙ (sym (take-take m (n - (s - a)) (drop (s - a) (drop a l)) (omega arith))
    ∙ (sym (ap (take m) (drop-take (s - a) (n - (s - a)) (drop a l)))
    ∙ ap (λ k. take m (drop (s - a) (take k (drop a l)))) parts)))
    in
    cut x ∙ (ap (λ l. take m (drop (s - a) l)) same ∙ sym (cut y))

-- ---- descriptors

big_same : (i n : ℕ) (a b : List ℕ) → ((k : ℕ) → k < i + n → slice_index a k ≡ slice_index b k) → big_from i n a ≡ big_from i n b
big_same i zero a b same = refl
big_same i (suc n) a b same =
    let here = same i (omega arith) in
    let rest = big_same (suc i) n a b (λ k less. same k (omega arith)) in
    λ j. here j * 256 ^ n + rest j

in_front : (n k : ℕ) (a b : List ℕ) → k < n → take n a ≡ take n b → slice_index a k ≡ slice_index b k
in_front n k a b less same = sym (get_or-take n a k 0 less) ∙ (ap (λ l. slice_index l k) same ∙ get_or-take n b k 0 less)

after_front : (n m k : ℕ) (a b : List ℕ) → m + k < n → take n a ≡ take n b → slice_index (drop m a) k ≡ slice_index (drop m b) k
after_front n m k a b less same = get_or-drop m a k 0 ∙ (in_front n (m + k) a b less same ∙ sym (get_or-drop m b k 0))

descriptor_same : (wide : Bool) (a b : List ℕ) → take (descriptor_len wide) a ≡ take (descriptor_len wide) b → descriptor_in wide a ≡ descriptor_in wide b
descriptor_same true a b same =
    λ j. record {
      count = big_same 0 8 a b (λ k less. in_front 16 k a b (omega arith) same) j;
      offset = big_same 0 8 (drop 8 a) (drop 8 b) (λ k less. after_front 16 8 k a b (omega arith) same) j;
    }
descriptor_same false a b same =
    λ j. record {
      count = big_same 0 4 a b (λ k less. in_front 8 k a b (omega arith) same) j;
      offset = big_same 0 4 (drop 4 a) (drop 4 b) (λ k less. after_front 8 4 k a b (omega arith) same) j;
    }

-- ---- rows

-- the bytes of a row are the same in both files
abbrev pub HasSameRow : Table → ℕ → List ℕ → List ℕ → Type 0
HasSameRow t row x y = take t.row_bytes (drop (row_start t row) x) ≡ take t.row_bytes (drop (row_start t row) y)

-- so are those of the heap
abbrev pub HasSameHeap : Table → List ℕ → List ℕ → Type 0
HasSameHeap t x y = take t.heap_len (drop t.heap_at x) ≡ take t.heap_len (drop t.heap_at y)

described_same : (t : Table) (c : Option Column) (row : ℕ) (x y : List ℕ) → IfSome c (λ c. StandsInRow t c × (1 ≤ c.unit)) → HasSameRow t row x y →
    described_at x t c row ≡ described_at y t c row
described_same t None row x y within same = refl
described_same t (Some c) row x y within same =
    let s : ℕ = row_start t row in
    let len : ℕ = descriptor_len c.wide in
    let stands : c.at + len ≤ t.row_bytes = within.0 in
    descriptor_same c.wide (drop (s + c.at) x) (drop (s + c.at) y) (part_same s t.row_bytes (s + c.at) len x y (omega arith) (omega (arith, stands)) same)

pub row_same : (t : Table) (row : ℕ) (x y : List ℕ) → IsTable t → HasSameRow t row x y → row_at x t row ≡ row_at y t row
row_same t row x y is same =
    let coded = described_same t t.coded row x y is.coded same in
    let stored = described_same t t.stored row x y is.stored same in
    let gzip = described_same t t.gzip row x y is.gzip same in
    λ j. record { coded = coded j; stored = stored j; gzip = gzip j }

-- ---- records

found_is : (c found : Record) (refused : Option Fault) → unless_refused c refused ≡ Ok found → (refused ≡ None) × (c ≡ found)
found_is c found None e = (refl, cc)
found_is c found (Some x) e = absurd cc

second_false : (a b d : Bool) (f g k : Fault) → first_refusal ((a, f) ∷ (b, g) ∷ (d, k) ∷ []) ≡ None → b ≡ false
second_false true b d f g k e = absurd cc
second_false false true d f g k e = absurd cc
second_false false false d f g k e = refl

-- what is read of a record is in the heap
record Lies (t : Table) (found : Record) : Type 0 where
  low : t.heap_at ≤ found.start
  high : found.start + found.read ≤ t.heap_at + t.heap_len

record_lies : (hdu row : ℕ) (t : Table) (r : Row) (tile : Tile) (found : Record) → record_of hdu row t r tile ≡ Ok found → Lies t found
unfolding record_of
record_lies hdu row t r tile found e =
    let both = found_is (chosen_record t r tile) found (first_refusal (row_checks hdu row t r tile)) e in
    let d : Descriptor = described_in r (chosen_column r) in
    let len : ℕ = d.count * unit_in t (chosen_column r) in
    let passes : nat_lt t.heap_len (d.offset + len) ≡ false = second_false _ _ _ _ _ _ both.0 in
    let within : d.offset + len ≤ t.heap_len = ltb-false t.heap_len (d.offset + len) passes in
    let lies : Lies t (chosen_record t r tile) = record { low = omega arith; high = omega arith } in
    subst (Lies t) both.1 lies

-- ---- the numbers

-- The second file has the same header, row and heap.
pub record IsStill (old new : List ℕ) (h : Header) (index : ℕ) : Type 0 where
  pub header : header_in new h ≡ header_in old h
  pub row : HasSameRow (image_table old h) index new old
  pub heap : HasSameHeap (image_table old h) new old

pub plan_still : (old new : List ℕ) (h : Header) → header_in new h ≡ header_in old h → plan_in new h ≡ plan_in old h
plan_still old new h same = ap (λ header. plan_of_cards (cards_of header)) same

pub table_still : (old new : List ℕ) (h : Header) → header_in new h ≡ header_in old h → image_table new h ≡ image_table old h
table_still old new h same = ap (λ header. table_in header h) same

pub stands_still : (old new : List ℕ) (h : Header) (t : ℕ) (xs : List ℤ) → IsTable (image_table old h) → IsStill old new h t → RowStandsFor old h t xs → RowStandsFor new h t xs
stands_still old new h t xs is still row =
    let plan : plan_in new h ≡ plan_in old h = plan_still old new h still.header in
    let table : image_table new h ≡ image_table old h = table_still old new h still.header in
    let lies : Lies (image_table old h) row.found = record_lies h.hdu t (image_table old h) (row_at old (image_table old h) t) (tile_of (plan_in old h) t) row.found row.chosen in
    let bytes : record_bytes new row.found ≡ record_bytes old row.found =
    part_same (image_table old h).heap_at (image_table old h).heap_len row.found.start row.found.read new old lies.low lies.high still.heap in
    record {
      found = row.found;
      chosen =
          (λ j. record_at new h.hdu (table j) t (tile_of (plan j) t))
          ∙ (ap (λ r. record_of h.hdu t (image_table old h) r (tile_of (plan_in old h) t)) (row_same (image_table old h) t new old is still.row)
          ∙ row.chosen);
      count = row.count ∙ sym (ap (λ q. pixels_of q t) plan);
      means =
          subst (λ q. RecordMeans new q row.found xs) (sym plan)
          (subst (λ b. IsRecord (plan_in old h).codec (pixel_bits (plan_in old h)) (place_in row.found.column) row.found.total b xs) (sym bytes) row.means);
    }

pub still_none : (file : List ℕ) (h : Header) (t : ℕ) → IsStill file file h t
still_none file h t = record { header = refl; row = refl; heap = refl }

pub still_then : (a b c : List ℕ) (h : Header) (t : ℕ) → IsStill a b h t → IsStill b c h t → IsStill a c h t
still_then a b c h t first second =
    let table : image_table b h ≡ image_table a h = table_still a b h first.header in
    record {
      header = second.header ∙ first.header;
      row = subst (λ u. HasSameRow u t c b) table second.row ∙ first.row;
      heap = subst (λ u. HasSameHeap u c b) table second.heap ∙ first.heap;
    }
