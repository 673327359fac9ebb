-- Descriptors in the bytes that were read or written.
use Rattle.std.proofs.Common.{◌≡◌, ℕ, ◌+◌, ◌-◌, ◌*◌, ◌<◌, ◌≤◌, ◌^◌, Bool, true, false, List, ◌++◌, length, take, drop, Option, Some, None, IfSome, refl, ap, sym, ◌∙◌, arith}
use Rattle.std.proofs.Math.Nat.{mul-add}
use Rattle.std.proofs.Math.Seq.{drop-append_seam}
use Rattle.std.proofs.lemmas.List.{append_assoc, drop-take, drop-drop}
use Rattle.byteorder.specs.Endian.{big_number, big_bytes}
use Rattle.byteorder.specs.Numbers.{big_number-reads_back, length-bytes_high_first, big_from-take}
use Rattle.fz_table.specs.Rows.{descriptor_len, descriptor_in, descriptor_start, descriptor_at, described_at, row_start, row_at, described_in_row, row_in, descriptor_bytes, FitsDescriptor, StandsInRow, IsTable}
use Rattle.fz_table.specs.declared.column.Column.{Column}
use Rattle.fz_table.specs.declared.table.Table.{Table}
use Rattle.fz_base.specs.Source.{Reads}
use Rattle.fz_table.specs.declared.array.Descriptor.{Descriptor}

-- a descriptor by its numbers
by_parts : (d e : Descriptor) → d.count ≡ e.count → d.offset ≡ e.offset → d ≡ e
by_parts d e count offset = λ i. record { count = count i; offset = offset i }

-- two numbers of n bytes are read again
numbers : (n a b : ℕ) (rest : List ℕ) → a < 256 ^ n → b < 256 ^ n → (big_number n ((big_bytes n a ++ big_bytes n b) ++ rest) ≡ a) × (big_number n (drop n ((big_bytes n a ++ big_bytes n b) ++ rest)) ≡ b)
numbers n a b rest first second =
    let split : (big_bytes n a ++ big_bytes n b) ++ rest ≡ big_bytes n a ++ (big_bytes n b ++ rest) = append_assoc (big_bytes n a) (big_bytes n b) rest in
    let behind : drop n (big_bytes n a ++ (big_bytes n b ++ rest)) ≡ big_bytes n b ++ rest = ap (λ k. drop k (big_bytes n a ++ (big_bytes n b ++ rest))) (sym (length-bytes_high_first n a)) ∙ drop-append_seam (big_bytes n a) (big_bytes n b ++ rest) in (
      ap (big_number n) split ∙ big_number-reads_back n a (big_bytes n b ++ rest) first,
      ap (λ (l : List ℕ). big_number n (drop n l)) split ∙ (ap (big_number n) behind ∙ big_number-reads_back n b rest second),
    )

-- a descriptor that was written is read again
pub read_again : (wide : Bool) (d : Descriptor) (rest : List ℕ) → FitsDescriptor wide d → descriptor_in wide (descriptor_bytes wide d.count d.offset ++ rest) ≡ d
read_again true d rest fits =
    let both = numbers 8 d.count d.offset rest (omega arith) (omega arith) in
    by_parts (descriptor_in true (descriptor_bytes true d.count d.offset ++ rest)) d both.0 both.1
read_again false d rest fits =
    let both = numbers 4 d.count d.offset rest (omega arith) (omega arith) in
    by_parts (descriptor_in false (descriptor_bytes false d.count d.offset ++ rest)) d both.0 both.1

-- one that stands k bytes after the front of n bytes that were read from a place on
number_from : (k at n m : ℕ) (bytes : List ℕ) → k + m ≤ n → big_number m (drop k (take n (drop at bytes))) ≡ big_number m (drop (at + k) bytes)
number_from k at n m bytes within =
    let whole : k + (n - k) ≡ n = omega arith in
    let cut : drop k (take n (drop at bytes)) ≡ take (n - k) (drop k (drop at bytes)) = ap (λ j. drop k (take j (drop at bytes))) (sym whole) ∙ drop-take k (n - k) (drop at bytes) in
    ap (big_number m) cut ∙ (big_from-take 0 m (n - k) (drop k (drop at bytes)) (omega arith) ∙ ap (big_number m) (drop-drop k at bytes))

-- the same of the one after it
second_from : (m k at n : ℕ) (bytes : List ℕ) → k + (m + m) ≤ n → big_number m (drop m (drop k (take n (drop at bytes)))) ≡ big_number m (drop m (drop (at + k) bytes))
second_from m k at n bytes within =
    let sum : at + (k + m) ≡ at + k + m = omega arith in
    ap (big_number m) (drop-drop m k (take n (drop at bytes)))
    ∙ (number_from (k + m) at n m bytes (omega arith)
    ∙ (ap (λ j. big_number m (drop j bytes)) sum ∙ ap (big_number m) (sym (drop-drop m (at + k) bytes))))

-- the same of a descriptor
pub read_from : (wide : Bool) (k at n : ℕ) (bytes : List ℕ) → k + descriptor_len wide ≤ n → descriptor_in wide (drop k (take n (drop at bytes))) ≡ descriptor_in wide (drop (at + k) bytes)
read_from true k at n bytes within =
    by_parts (descriptor_in true (drop k (take n (drop at bytes)))) (descriptor_in true (drop (at + k) bytes)) (number_from k at n 8 bytes (omega arith)) (second_from 8 k at n bytes within)
read_from false k at n bytes within =
    by_parts (descriptor_in false (drop k (take n (drop at bytes)))) (descriptor_in false (drop (at + k) bytes)) (number_from k at n 4 bytes (omega arith)) (second_from 4 k at n bytes within)

-- two that stand together and were read by one reading
pub pair_from : (held : Option (List ℕ)) (t : Table) (first second : Column) (row : ℕ) (buffer : List ℕ) (a b : Descriptor) →
    first.at + descriptor_len first.wide ≡ second.at → length buffer ≡ descriptor_len first.wide + descriptor_len second.wide →
    Reads held (descriptor_start t first row) buffer → a ≡ descriptor_in first.wide buffer → b ≡ descriptor_in second.wide (drop (descriptor_len first.wide) buffer) →
    IfSome held (λ g. (a ≡ descriptor_at g t first row) × (b ≡ descriptor_at g t second row))
pair_from None t first second row buffer a b together len read is_a is_b = tt
pair_from (Some g) t first second row buffer a b together len read is_a is_b =
    let start = descriptor_start t first row in
    let none : start + 0 ≡ start = omega arith in
    let behind : start + descriptor_len first.wide ≡ descriptor_start t second row = omega arith in
    let front : descriptor_in first.wide buffer ≡ descriptor_at g t first row =
    ap (descriptor_in first.wide) read ∙ (read_from first.wide 0 start (length buffer) g (omega arith) ∙ ap (λ j. descriptor_in first.wide (drop j g)) none) in
    let back : descriptor_in second.wide (drop (descriptor_len first.wide) buffer) ≡ descriptor_at g t second row =
    ap (λ l. descriptor_in second.wide (drop (descriptor_len first.wide) l)) read
    ∙ (read_from second.wide (descriptor_len first.wide) start (length buffer) g (omega arith) ∙ ap (λ j. descriptor_in second.wide (drop j g)) behind) in
    (is_a ∙ front, is_b ∙ back)

-- of rows that were read one after another each says what it says in the file
column_in : (column : Option Column) (file rows : List ℕ) (t : Table) (first k : ℕ) → IfSome column (λ c. StandsInRow t c × (1 ≤ c.unit)) → rows ≡ take (length rows) (drop (row_start t first) file) →
    t.row_bytes * (k + 1) ≤ length rows → described_in_row column (drop (t.row_bytes * k) rows) ≡ described_at file t column (first + k)
column_in None file rows t first k stands read within = refl
column_in (Some c) file rows t first k stands read within =
    let next : t.row_bytes * (k + 1) ≡ t.row_bytes * k + t.row_bytes * 1 = mul-add t.row_bytes k 1 in
    let sum : t.row_bytes * (first + k) ≡ t.row_bytes * first + t.row_bytes * k = mul-add t.row_bytes first k in
    let place : row_start t first + (t.row_bytes * k + c.at) ≡ descriptor_start t c (first + k) = omega (arith, sum) in
    ap (descriptor_in c.wide) (drop-drop c.at (t.row_bytes * k) rows)
    ∙ (ap (λ l. descriptor_in c.wide (drop (t.row_bytes * k + c.at) l)) read
    ∙ (read_from c.wide (t.row_bytes * k + c.at) (row_start t first) (length rows) file (omega (arith, stands.0, next, within))
    ∙ ap (λ j. descriptor_in c.wide (drop j file)) place))

pub row_by : (file rows : List ℕ) (t : Table) (first k : ℕ) → IsTable t → rows ≡ take (length rows) (drop (row_start t first) file) →
    t.row_bytes * (k + 1) ≤ length rows → row_in t (drop (t.row_bytes * k) rows) ≡ row_at file t (first + k)
row_by file rows t first k table read within =
    let coded = column_in t.coded file rows t first k table.coded read within in
    let stored = column_in t.stored file rows t first k table.stored read within in
    let gzip = column_in t.gzip file rows t first k table.gzip read within in
    λ i. record { coded = coded i; stored = stored i; gzip = gzip i }
