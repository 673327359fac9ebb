-- The form of a table by what was read of it (FITS 4.0, section 7.3.5).
use mathlib.Core.Bool.{beq}
use Rattle.std.proofs.Common.{◌≡◌, ℕ, ◌+◌, ◌*◌, ◌==◌, ◌&&◌, not, Bool, true, false, List, Option, Some, None, Ok, if◌then◌else◌, refl, sym, ap, ◌∙◌, arith, eq-eqb, eqb-true}
use Rattle.fz_base.specs.Refusal.{first_refusal}
use Rattle.fz_base.specs.declared.fault.Fault.{Fault}
use Rattle.fz_block.specs.Checks.{unless_refused}
use Rattle.fz_block.specs.Header.{data_start_of}
use Rattle.fz_block.specs.declared.header.Header.{Header}
use Rattle.fz_table.specs.Tables.{heap_start_of, rows_len_of, stored_name, table_checks, table_in, table_of}
use Rattle.fz_table.specs.declared.table.Table.{Table}
use Rattle.fz_laws.specs.PatchForm.{has_heap_after_rows, has_wide, is_wide_column, is_wide_table}

pub table_is : (buf : List ℕ) (h : Header) (table : Table) → table_of buf h ≡ Ok table → table ≡ table_in buf h
unfolding table_of
table_is buf h table e = by_refusal (first_refusal (table_checks buf h)) e
  where
    by_refusal : (r : Option Fault) → unless_refused (table_in buf h) r ≡ Ok table → table ≡ table_in buf h
    by_refusal None is = cc
    by_refusal (Some x) is = absurd cc

same_tests : (x y : Bool) → (x ≡ true → y ≡ true) → (y ≡ true → x ≡ true) → x ≡ y
same_tests true true to from = refl
same_tests false false to from = refl
same_tests true false to from = sym (to refl)
same_tests false true to from = from refl

after : (a b c : ℕ) → (a + b == a + c) ≡ (b == c)
after a b c = same_tests (a + b == a + c) (b == c) (λ e. eq-eqb b c (omega (arith, eqb-true (a + b) (a + c) e))) (λ e. eq-eqb (a + b) (a + c) (ap (λ n. a + n) (eqb-true b c e)))

-- the heap begins directly after the rows
pub heap_after : (buf : List ℕ) (h : Header) (table : Table) → table_of buf h ≡ Ok table → (table.heap_at == table.rows_at + table.row_bytes * table.rows) ≡ has_heap_after_rows buf h
heap_after buf h table e =
    ap (λ (t : Table). t.heap_at == t.rows_at + t.row_bytes * t.rows) (table_is buf h table e)
    ∙ after (data_start_of h) (heap_start_of buf h) (rows_len_of h)

-- the widths of the descriptors
pub coded_wide : (buf : List ℕ) (h : Header) (table : Table) → table_of buf h ≡ Ok table → has_wide table.coded ≡ is_wide_table buf
coded_wide buf h table e = ap (λ (t : Table). has_wide t.coded) (table_is buf h table e)

pub stored_wide : (buf : List ℕ) (h : Header) (table : Table) → table_of buf h ≡ Ok table → has_wide table.stored ≡ is_wide_column buf stored_name
stored_wide buf h table e = ap (λ (t : Table). has_wide t.stored) (table_is buf h table e)

-- ---- tests one after another

-- the widths are the same, after two tests that passed
pub widths_same : (first second coded stored w v : Bool) → first ≡ true → second ≡ true → w ≡ coded → v ≡ stored → beq w v ≡ (first && (second && (if coded then stored else not stored)))
widths_same first second coded stored w v one two wide narrow =
    (λ j. beq (wide j) (narrow j)) ∙ (by_cases coded stored ∙ sym (λ j. one j && (two j && (if coded then stored else not stored))))
  where
    by_cases : (a b : Bool) → beq a b ≡ (if a then b else not b)
    by_cases true true = refl
    by_cases true false = refl
    by_cases false true = refl
    by_cases false false = refl

-- three tests passed, and the last one is the answer
pub all_four : (a b c d r : Bool) → ((a && b) && c) ≡ true → r ≡ d → r ≡ (a && (b && (c && d)))
all_four true true true d r passed is = is
all_four true true false d r passed is = absurd cc
all_four true false c d r passed is = absurd cc
all_four false b c d r passed is = absurd cc

-- one of three did not
pub not_four : (a b c d v : Bool) → v ≡ ((a && b) && c) → v ≡ false → v ≡ (a && (b && (c && d)))
not_four true true true d v is failed = absurd cc
not_four true true false d v is failed = failed
not_four true false c d v is failed = failed
not_four false b c d v is failed = failed
