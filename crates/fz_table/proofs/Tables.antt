-- The checks of a packed table one after another: the first that refuses; and what a header says that passes them.
use Rattle.std.proofs.Common.{◌≡◌, ℕ, zero, suc, pos, ℤ, ◌+◌, ◌-◌, ◌*◌, ◌==◌, Bool, false, List, ◌++◌, get_or, Option, Some, None, Ok, Err, unwrap_or, refl, ap, sym, ◌∙◌, arith}
use Rattle.std.specs.List.{flat_map, range_with_len}
use Rattle.std.proofs.lemmas.List.{append_assoc}
use Rattle.std.proofs.lemmas.List.FromFn.{length-map-range_with_len}
use Rattle.fz_base.specs.Refusal.{first_refusal}
use Rattle.fz_base.specs.declared.fault.Fault.{Fault}
use Rattle.fz_card.specs.Reading.{integer_of}
use Rattle.fz_block.specs.Cards.{card_at}
use Rattle.fz_block.specs.Hdus.{size_in, size_at, axes_of, array_len, data_len_of, pcount_of, gcount_of}
use Rattle.fz_block.specs.Facts.{IsHeaderOf, nine_axes}
use Rattle.fz_block.specs.Header.{data_start_of}
use Rattle.fz_block.specs.Checks.{unless_refused}
use Rattle.fz_block.specs.declared.header.Header.{Header}
use Rattle.fz_table.proofs.Refusals.{passed, stopped}
use Rattle.fz_table.specs.Columns.{field_count, columns_len, column_called}
use Rattle.fz_table.specs.Tables.{array_checks, field_checks, form_checks, width_checks, heap_checks, column_checks, table_checks, table_in, table_of, row_len_of, row_count_of, rows_len_of, heap_start_of, bad_table, coded_name, stored_name, gzip_name}
use Rattle.fz_table.specs.declared.table.Table.{Table}

-- three lists of checks
pub in_second : (a b c : List (Bool × Fault)) (x : Fault) → first_refusal a ≡ None → first_refusal b ≡ Some x → first_refusal (a ++ (b ++ c)) ≡ Some x
in_second a b c x one two = passed a (b ++ c) one ∙ stopped b c x two

pub after_two : (a b c : List (Bool × Fault)) → first_refusal a ≡ None → first_refusal b ≡ None → first_refusal (a ++ (b ++ c)) ≡ first_refusal c
after_two a b c one two = passed a (b ++ c) one ∙ passed b c two

-- the header is refused, or it is not
refused : (header : List ℕ) (h : Header) (x : Fault) → first_refusal (table_checks header h) ≡ Some x → table_of header h ≡ Err x
unfolding table_of
refused header h x some = ap (unless_refused (table_in header h)) some

accepted : (header : List ℕ) (h : Header) → first_refusal (table_checks header h) ≡ None → table_of header h ≡ Ok (table_in header h)
unfolding table_of
accepted header h none = ap (unless_refused (table_in header h)) none

-- the checks after those of TFIELDS, by the number of columns
abbrev row_checks : List ℕ → Header → ℕ → List (Bool × Fault)
row_checks header h n = flat_map (form_checks header h) (range_with_len 1 n) ++ width_checks header h

abbrev name_checks_to : List ℕ → Header → ℕ → List (Bool × Fault)
name_checks_to header h n = flat_map (column_checks header h) (range_with_len 1 n)

-- the columns do not fill the row
pub wrong_width : (header : List ℕ) (h : Header) (n : ℕ) (x : Fault) → n ≡ field_count header → first_refusal (flat_map (form_checks header h) (range_with_len 1 n)) ≡ None →
    (columns_len header n == row_len_of h) ≡ false → x ≡ bad_table h (Some 3) → first_refusal (row_checks header h n) ≡ Some x
wrong_width header h n x count none other is =
    let test : (columns_len header (field_count header) == row_len_of h) ≡ false = ap (λ k. columns_len header k == row_len_of h) (sym count) ∙ other in
    passed (flat_map (form_checks header h) (range_with_len 1 n)) (width_checks header h) none ∙ rw test (ap Some (sym is))

-- what passes so far
pub record PassesRows (header : List ℕ) (h : Header) (n : ℕ) : Type 0 where
  pub array : first_refusal (array_checks h) ≡ None
  pub fields : first_refusal (field_checks header h) ≡ None
  pub count : n ≡ field_count header
  pub rows : first_refusal (row_checks header h n) ≡ None

pub in_array : (header : List ℕ) (h : Header) (x : Fault) → first_refusal (array_checks h) ≡ Some x → table_of header h ≡ Err x
in_array header h x some = refused header h x (stopped (array_checks h) _ x some)

pub in_fields : (header : List ℕ) (h : Header) (x : Fault) → first_refusal (array_checks h) ≡ None → first_refusal (field_checks header h) ≡ Some x → table_of header h ≡ Err x
in_fields header h x one some = refused header h x (in_second (array_checks h) (field_checks header h) _ x one some)

-- the checks that are left, in two parts
regrouped : (a b rest : List (Bool × Fault)) → first_refusal ((a ++ b) ++ rest) ≡ first_refusal (a ++ (b ++ rest))
regrouped a b rest = ap first_refusal (append_assoc a b rest)

after_fields : (header : List ℕ) (h : Header) (n : ℕ) → first_refusal (array_checks h) ≡ None → first_refusal (field_checks header h) ≡ None → n ≡ field_count header →
    first_refusal (table_checks header h) ≡ first_refusal (row_checks header h n ++ (heap_checks header h ++ name_checks_to header h n))
after_fields header h n one two count =
    after_two (array_checks h) (field_checks header h) _ one two
    ∙ (ap (λ k. first_refusal (flat_map (form_checks header h) (range_with_len 1 k) ++ (width_checks header h ++ (heap_checks header h ++ name_checks_to header h k)))) (sym count)
    ∙ sym (regrouped (flat_map (form_checks header h) (range_with_len 1 n)) (width_checks header h) (heap_checks header h ++ name_checks_to header h n)))

pub in_rows : (header : List ℕ) (h : Header) (n : ℕ) (x : Fault) → first_refusal (array_checks h) ≡ None → first_refusal (field_checks header h) ≡ None → n ≡ field_count header →
    first_refusal (row_checks header h n) ≡ Some x → table_of header h ≡ Err x
in_rows header h n x one two count some = refused header h x (after_fields header h n one two count ∙ stopped (row_checks header h n) _ x some)

after_rows : (header : List ℕ) (h : Header) (n : ℕ) → PassesRows header h n → first_refusal (table_checks header h) ≡ first_refusal (heap_checks header h ++ name_checks_to header h n)
after_rows header h n p = after_fields header h n p.array p.fields p.count ∙ passed (row_checks header h n) _ p.rows

pub in_heap : (header : List ℕ) (h : Header) (n : ℕ) (x : Fault) → PassesRows header h n → first_refusal (heap_checks header h) ≡ Some x → table_of header h ≡ Err x
in_heap header h n x p some = refused header h x (after_rows header h n p ∙ stopped (heap_checks header h) _ x some)

pub in_names : (header : List ℕ) (h : Header) (n : ℕ) (x : Fault) → PassesRows header h n → first_refusal (heap_checks header h) ≡ None → first_refusal (name_checks_to header h n) ≡ Some x → table_of header h ≡ Err x
in_names header h n x p heap some = refused header h x (after_rows header h n p ∙ (passed (heap_checks header h) _ heap ∙ some))

pub in_none : (header : List ℕ) (h : Header) (n : ℕ) → PassesRows header h n → first_refusal (heap_checks header h) ≡ None → first_refusal (name_checks_to header h n) ≡ None → table_of header h ≡ Ok (table_in header h)
in_none header h n p heap none = accepted header h (after_rows header h n p ∙ (passed (heap_checks header h) _ heap ∙ none))

-- the data are the rows, and PCOUNT bytes
said : (v : Option ℤ) → unwrap_or v (pos 0) ≡ pos 8 → size_in v ≡ 8
said None e = absurd cc
said (Some v) e = ap (λ z. size_in (Some z)) e

array_is : (header : List ℕ) (pcount gcount : ℕ) → size_at header 2 ≡ 2 → size_at header 1 ≡ 8 → gcount ≡ 1 → array_len header pcount gcount ≡ size_at header 3 * size_at header 4 + pcount
array_is header pcount gcount two eight one = rw (two, eight, one) (omega arith)

data_is : (k : ℕ) (header : List ℕ) → size_at header 2 ≡ 2 → size_at header 1 ≡ 8 → gcount_of k header ≡ 1 → data_len_of k header ≡ size_at header 3 * size_at header 4 + pcount_of k header
data_is zero header two eight one = array_is header 0 1 two eight refl
data_is (suc k) header two eight one = array_is header (size_at header (3 + size_at header 2)) (size_at header (4 + size_at header 2)) two eight one

first_len : (header : List ℕ) → size_at header 2 ≡ 2 → get_or (nine_axes (axes_of header)).len 0 0 ≡ size_at header 3
first_len header two = rw two refl

second_len : (header : List ℕ) → size_at header 2 ≡ 2 → get_or (nine_axes (axes_of header)).len 1 0 ≡ size_at header 4
second_len header two = rw two refl

pub data_rows : (header : List ℕ) (h : Header) → IsHeaderOf header h → h.bitpix ≡ pos 8 → h.axes.n ≡ 2 → h.gcount ≡ 1 → h.data_len ≡ rows_len_of h + h.pcount
data_rows header h is bits axes one =
    let two : size_at header 2 ≡ 2 = sym (length-map-range_with_len (size_at header) 3 (size_at header 2)) ∙ (sym (ap (λ (k : Header). k.axes.n) is.facts) ∙ axes) in
    let eight : size_at header 1 ≡ 8 = said (integer_of (card_at header 1)) (sym (ap (λ (k : Header). k.bitpix) is.facts) ∙ bits) in
    let once : gcount_of h.hdu header ≡ 1 = sym (ap (λ (k : Header). k.gcount) is.facts) ∙ one in
    let first : get_or h.axes.len 0 0 ≡ size_at header 3 = ap (λ (k : Header). get_or k.axes.len 0 0) is.facts ∙ first_len header two in
    let second : get_or h.axes.len 1 0 ≡ size_at header 4 = ap (λ (k : Header). get_or k.axes.len 1 0) is.facts ∙ second_len header two in
    let more : h.pcount ≡ pcount_of h.hdu header = ap (λ (k : Header). k.pcount) is.facts in
    let product : get_or h.axes.len 0 0 * get_or h.axes.len 1 0 ≡ size_at header 3 * size_at header 4 = ap (λ n. n * get_or h.axes.len 1 0) first ∙ ap (λ n. size_at header 3 * n) second in
    ap (λ (k : Header). k.data_len) is.facts ∙ (data_is h.hdu header two eight once ∙ (ap (λ n. n + pcount_of h.hdu header) (sym product) ∙ ap (λ n. get_or h.axes.len 0 0 * get_or h.axes.len 1 0 + n) (sym more)))

-- a table by its parts
pub table_is : (header : List ℕ) (h : Header) (t : Table) → t.row_bytes ≡ row_len_of h → t.rows ≡ row_count_of h → t.rows_at ≡ data_start_of h →
    t.heap_at ≡ data_start_of h + heap_start_of header h → t.heap_len ≡ rows_len_of h + h.pcount - heap_start_of header h →
    t.coded ≡ column_called coded_name header (field_count header) → t.stored ≡ column_called stored_name header (field_count header) → t.gzip ≡ column_called gzip_name header (field_count header) →
    t ≡ table_in header h
table_is header h t row_bytes rows rows_at heap_at heap_len coded stored gzip =
    λ i. record { row_bytes = row_bytes i; rows = rows i; rows_at = rows_at i; heap_at = heap_at i; heap_len = heap_len i; coded = coded i; stored = stored i; gzip = gzip i }
