-- What is known of a column while the columns are gone over: for functions inside the crate.
use Rattle.std.specs.Prelude.{ℕ, ◌≡◌, ◌+◌, ◌≤◌, true, List, Option, Some, IfSome}
use Rattle.fz_table.specs.Columns.{columns_len, column_called, unit_of}
use Rattle.fz_table.specs.Forms.{is_any}
use Rattle.fz_table.specs.Rows.{descriptor_len}
use Rattle.fz_table.specs.Tables.{coded_name, stored_name, gzip_name}
use Rattle.fz_table.specs.declared.column.Column.{Column}
use Rattle.fz_table.specs.declared.columns.Columns.{Columns}

-- the column of this name among the first so many: it is one of them, and its elements have bytes
pub record IsFound (name header : List ℕ) (i : ℕ) (found : Option Column) : Type 0 where
  pub called : found ≡ column_called name header i
  pub within : IfSome found (λ c. (c.at + descriptor_len c.wide ≤ columns_len header i) × (1 ≤ c.unit))

-- the columns of a packed image among the first so many
pub record AreFound (header : List ℕ) (i : ℕ) (found : Columns) : Type 0 where
  pub coded : IsFound coded_name header i found.coded
  pub stored : IsFound stored_name header i found.stored
  pub gzip : IsFound gzip_name header i found.gzip

-- elements of each of these letters have bytes
abbrev pub HaveBytes : List ℕ → Type 0
HaveBytes letters = (letter : ℕ) → is_any letters letter ≡ true → 1 ≤ unit_of (Some letter)
