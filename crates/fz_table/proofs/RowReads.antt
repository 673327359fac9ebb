-- Which bytes the reads of a row have.
use Rattle.std.proofs.Common.{◌≡◌, ℕ, zero, suc, ◌+◌, ◌*◌, ◌<◌, ◌≤◌, ◌==◌, ◌&&◌, ◌||◌, ◌⊎◌, inl, inr, Bool, true, false, if◌then◌else◌, List, [], ◌∷◌, ◌++◌, Option, Some, None, IfSome, refl, arith}
use Rattle.std.proofs.Math.Nat.{mul-add, mul-suc}
use Rattle.std.proofs.lemmas.Bool.Decides.{nat_tests}
use Rattle.fz_table.specs.Rows.{descriptor_len, descriptor_start, row_start, StandsInRow, IsTable}
use Rattle.fz_base.specs.Ranges.{LiesIn}
use Rattle.fz_table.specs.Reads.{descriptor_ranges, follows, two_reads, row_reads, row_ranges, two_fill, is_filled}
use Rattle.fz_table.specs.declared.column.Column.{Column}
use Rattle.fz_table.specs.declared.table.Table.{Table}

-- a byte of two lists of ranges
in_first : (xs ys : List (ℕ × ℕ)) (byte : ℕ) → LiesIn xs byte → LiesIn (xs ++ ys) byte
in_first [] ys byte is = elim is [ ]
in_first ((start, count) ∷ xs) ys byte (inl here) = inl here
in_first ((start, count) ∷ xs) ys byte (inr more) = inr (in_first xs ys byte more)

in_second : (xs ys : List (ℕ × ℕ)) (byte : ℕ) → LiesIn ys byte → LiesIn (xs ++ ys) byte
in_second [] ys byte is = is
in_second ((start, count) ∷ xs) ys byte is = inr (in_second xs ys byte is)

in_either : (xs ys : List (ℕ × ℕ)) (byte : ℕ) → LiesIn (xs ++ ys) byte → LiesIn xs byte ⊎ LiesIn ys byte
in_either [] ys byte is = inr is
in_either ((start, count) ∷ xs) ys byte (inl here) = inl (inl here)
in_either ((start, count) ∷ xs) ys byte (inr more) =
    elim (in_either xs ys byte more) [ inl first ↦ inl (inr first) | inr second ↦ inr second ]

-- a byte of two ranges that stand together
below : (start n m byte : ℕ) → start ≤ byte → byte < start + (n + m) → ((start ≤ byte) × (byte < start + n)) ⊎ ((start + n ≤ byte) × (byte < start + n + m))
below start n m byte from to = grind arith

-- of two columns whose descriptors stand together
together : (t : Table) (c d : Column) (row byte : ℕ) → c.at + descriptor_len c.wide ≡ d.at → descriptor_start t c row ≤ byte → byte < descriptor_start t c row + (descriptor_len c.wide + descriptor_len d.wide) →
    ((descriptor_start t c row ≤ byte) × (byte < descriptor_start t c row + descriptor_len c.wide)) ⊎ ((descriptor_start t d row ≤ byte) × (byte < descriptor_start t d row + descriptor_len d.wide))
together t c d row byte next from to =
    elim (below (descriptor_start t c row) (descriptor_len c.wide) (descriptor_len d.wide) byte from to) [
      | inl first ↦ inl first
      | inr second ↦ inr (omega (arith, second.0, next), omega (arith, second.1, next))
    ]

two_by : (t : Table) (c d : Column) (row byte : ℕ) (b e : Bool) → follows c d ≡ b → follows d c ≡ e →
    LiesIn (if b then (descriptor_start t c row, descriptor_len c.wide + descriptor_len d.wide) ∷ []
    else (if e then (descriptor_start t d row, descriptor_len d.wide + descriptor_len c.wide) ∷ []
    else descriptor_ranges t (Some c) row ++ descriptor_ranges t (Some d) row)) byte →
    LiesIn (descriptor_ranges t (Some c) row ++ descriptor_ranges t (Some d) row) byte
two_by t c d row byte true e first second (inl is) =
    let next : c.at + descriptor_len c.wide ≡ d.at = grind (arith, nat_tests) in
    elim (together t c d row byte next is.0 is.1) [ inl one ↦ inl one | inr other ↦ inr (inl other) ]
two_by t c d row byte true e first second (inr none) = elim none [ ]
two_by t c d row byte false true first second (inr none) = elim none [ ]
two_by t c d row byte false true first second (inl is) =
    let next : d.at + descriptor_len d.wide ≡ c.at = grind (arith, nat_tests) in
    elim (together t d c row byte next is.0 is.1) [ inl one ↦ inr (inl one) | inr other ↦ inl other ]
two_by t c d row byte false false first second is = is

two_lie : (t : Table) (coded stored : Option Column) (row byte : ℕ) → LiesIn (two_reads t coded stored row) byte → LiesIn (descriptor_ranges t coded row ++ descriptor_ranges t stored row) byte
two_lie t None stored row byte is = is
two_lie t (Some c) None row byte is = is
two_lie t (Some c) (Some d) row byte is = two_by t c d row byte (follows c d) (follows d c) refl refl is

three_lie : (t : Table) (coded stored gzip : Option Column) (row byte : ℕ) → LiesIn (two_reads t coded stored row ++ descriptor_ranges t gzip row) byte →
    LiesIn (descriptor_ranges t coded row ++ (descriptor_ranges t stored row ++ descriptor_ranges t gzip row)) byte
three_lie t coded stored gzip row byte is =
    let a = descriptor_ranges t coded row in
    let b = descriptor_ranges t stored row in
    let d = descriptor_ranges t gzip row in
    elim (in_either (two_reads t coded stored row) d byte is) [
      | inl two ↦ elim (in_either a b byte (two_lie t coded stored row byte two)) [
        | inl first ↦ in_first a (b ++ d) byte first
        | inr second ↦ in_second a (b ++ d) byte (in_first b d byte second)
      ]
      | inr third ↦ in_second a (b ++ d) byte (in_second b d byte third)
    ]

pub reads_lie : (t : Table) (row byte : ℕ) → LiesIn (row_reads t row) byte → LiesIn (row_ranges t row) byte
reads_lie t row byte is = three_lie t t.coded t.stored t.gzip row byte is

-- a byte of a row that two columns fill
either : (a b : Bool) → (a || b) ≡ true → (a ≡ true) ⊎ (b ≡ true)
either true b is = inl refl
either false b is = inr is

both : (a b : Bool) → (a && b) ≡ true → (a ≡ true) × (b ≡ true)
both true true is = (refl, refl)
both true false is = absurd cc
both false b is = absurd cc

side : (place byte : ℕ) → (byte < place) ⊎ (place ≤ byte)
side place byte = grind arith

before_other : (t : Table) (c d : Column) (row byte : ℕ) → StandsInRow t c → StandsInRow t d → follows c d ≡ true → descriptor_len c.wide + descriptor_len d.wide ≡ t.row_bytes →
    row_start t row ≤ byte → byte < row_start t row + t.row_bytes → LiesIn (descriptor_ranges t (Some c) row ++ descriptor_ranges t (Some d) row) byte
before_other t c d row byte first second next sum from to =
    let at : c.at + descriptor_len c.wide ≡ d.at = grind (arith, nat_tests) in
    elim (side (descriptor_start t d row) byte) [
      | inl below ↦ inl (omega (arith, second, at, sum), omega (arith, below, at))
      | inr above ↦ inr (inl (above, omega (arith, second, at, sum)))
    ]

fill : (t : Table) (coded stored : Option Column) (row byte : ℕ) → IfSome coded (λ c. StandsInRow t c × (1 ≤ c.unit)) → IfSome stored (λ c. StandsInRow t c × (1 ≤ c.unit)) →
    two_fill coded stored t.row_bytes ≡ true → row_start t row ≤ byte → byte < row_start t row + t.row_bytes → LiesIn (descriptor_ranges t coded row ++ descriptor_ranges t stored row) byte
fill t None None row byte first second is from to = absurd cc
fill t None (Some d) row byte first second is from to =
    let all : descriptor_len d.wide ≡ t.row_bytes = grind (arith, nat_tests) in
    inl (omega (arith, second.0, all), omega (arith, all))
fill t (Some c) None row byte first second is from to =
    let all : descriptor_len c.wide ≡ t.row_bytes = grind (arith, nat_tests) in
    inl (omega (arith, first.0, all), omega (arith, all))
fill t (Some c) (Some d) row byte first second is from to =
    let parts = both (follows c d || follows d c) (descriptor_len c.wide + descriptor_len d.wide == t.row_bytes) is in
    let sum : descriptor_len c.wide + descriptor_len d.wide ≡ t.row_bytes = grind (arith, nat_tests) in
    elim (either (follows c d) (follows d c) parts.0) [
      | inl next ↦ before_other t c d row byte first.0 second.0 next sum from to
      | inr next ↦ elim (before_other t d c row byte second.0 first.0 next (omega (arith, sum)) from to) [ inl one ↦ inr (inl one) | inr (inl other) ↦ inl other | inr (inr none) ↦ elim none [ ] ]
    ]

three_fill : (t : Table) (coded stored gzip : Option Column) (row byte : ℕ) → LiesIn (descriptor_ranges t coded row ++ descriptor_ranges t stored row) byte →
    LiesIn (descriptor_ranges t coded row ++ (descriptor_ranges t stored row ++ descriptor_ranges t gzip row)) byte
three_fill t coded stored gzip row byte is =
    let a = descriptor_ranges t coded row in
    let b = descriptor_ranges t stored row in
    let d = descriptor_ranges t gzip row in
    elim (in_either a b byte is) [
      | inl first ↦ in_first a (b ++ d) byte first
      | inr second ↦ in_second a (b ++ d) byte (in_first b d byte second)
    ]

one_row : (t : Table) (row byte : ℕ) → IsTable t → is_filled t ≡ true → row_start t row ≤ byte → byte < row_start t row + t.row_bytes → LiesIn (row_ranges t row) byte
one_row t row byte table is from to = three_fill t t.coded t.stored t.gzip row byte (fill t t.coded t.stored row byte table.coded table.stored is from to)

more_rows : (t : Table) (first n byte : ℕ) → (k : ℕ) × (k < n) × LiesIn (row_ranges t (first + k)) byte → (k : ℕ) × (k < suc n) × LiesIn (row_ranges t (first + k)) byte
more_rows t first n byte (k, less, lies) = (k, omega arith, lies)

pub rows_fill : (t : Table) (first count byte : ℕ) → IsTable t → is_filled t ≡ true → row_start t first ≤ byte → byte < row_start t first + t.row_bytes * count →
    (k : ℕ) × (k < count) × LiesIn (row_ranges t (first + k)) byte
rows_fill t first zero byte table is from to = absurd (omega (arith, from, to))
rows_fill t first (suc n) byte table is from to =
    let next : t.row_bytes * suc n ≡ t.row_bytes * n + t.row_bytes = mul-suc t.row_bytes n in
    let sum : t.row_bytes * (first + n) ≡ t.row_bytes * first + t.row_bytes * n = mul-add t.row_bytes first n in
    elim (side (row_start t first + t.row_bytes * n) byte) [
      | inl below ↦ more_rows t first n byte (rows_fill t first n byte table is from below)
      | inr here ↦ (n, omega arith, one_row t (first + n) byte table is (omega (arith, sum, here)) (omega (arith, sum, next, to)))
    ]
