-- The table of a packed image: its rows, its heap and its columns, or why a header says none (FITS 4.0, sections 7.3.1, 7.3.5
-- and 10.1.3).
use Rattle.std.specs.Prelude.{ℕ, pos, ◌==◌, ◌+◌, ◌-◌, ◌*◌, ◌&&◌, not, Bool, List, [], ◌∷◌, ◌++◌, codes}
use Rattle.std.specs.Prelude.{slice_index, Option, Some, is_none, is_some, unwrap_or, Result, if◌then◌else◌}
use Rattle.std.specs.List.{flat_map, range_with_len}
use Rattle.std.specs.Ordering.{int_eq}
use Rattle.fz_base.specs.Refusal.{refusal, first_refusal}
use Rattle.fz_base.specs.declared.fault.Fault.{Fault}
use Rattle.fz_base.specs.declared.fault.Place.TheVariants.{Card}
use Rattle.fz_base.specs.declared.kind.Kind.TheVariants.{BadTable}
use Rattle.fz_card.specs.Layout.{padded}
use Rattle.fz_block.specs.Hdus.{size_in}
use Rattle.fz_block.specs.Header.{data_start_of}
use Rattle.fz_block.specs.Checks.{unless_refused}
use Rattle.fz_block.specs.declared.header.Header.{Header}
use Rattle.fz_table.specs.Columns.{first_named, integer_at, is_from, tfields_card, field_count, tform_card}
use Rattle.fz_table.specs.Columns.{form_of, ttype_card, title_of, is_called, columns_len, describes, column_called}
use Rattle.fz_table.specs.declared.table.Table.{Table}

-- the bytes of a row are NAXIS1, and the rows NAXIS2
abbrev pub row_len_of : Header → ℕ
row_len_of h = slice_index h.axes.len 0

abbrev pub row_count_of : Header → ℕ
row_count_of h = slice_index h.axes.len 1

-- the bytes of all rows
abbrev pub rows_len_of : Header → ℕ
rows_len_of h = row_len_of h * row_count_of h

-- the byte of the data at which the heap begins: THEAP, or directly after the rows if no card says it
abbrev pub theap_card : List ℕ → Option ℕ
theap_card header = first_named (padded (codes "THEAP")) header

abbrev pub heap_start_of : List ℕ → Header → ℕ
heap_start_of header h = if is_some (theap_card header) then size_in (integer_at header (theap_card header)) else rows_len_of h

-- a fault at this card, or, if there is none, at END
abbrev pub bad_table : Header → Option ℕ → Fault
bad_table h found = refusal h.hdu (Card (unwrap_or found h.cards)) BadTable

-- BITPIX is 8, there are two axes, and one group
abbrev pub array_checks : Header → List (Bool × Fault)
array_checks h =
    (not (int_eq h.bitpix (pos 8)), bad_table h (Some 1))
    ∷ (not (h.axes.n == 2), bad_table h (Some 2))
    ∷ (not (h.gcount == 1), bad_table h (Some 6))
    ∷ []

-- TFIELDS is 1 to 999
abbrev pub field_checks : List ℕ → Header → List (Bool × Fault)
field_checks header h = (not (is_from 1 999 (integer_at header (tfields_card header))), bad_table h (tfields_card header)) ∷ []

-- TFORMi is there, and can be read
abbrev pub form_checks : List ℕ → Header → ℕ → List (Bool × Fault)
form_checks header h i = (is_none (form_of header i), bad_table h (tform_card header i)) ∷ []

-- the columns fill the row
abbrev pub width_checks : List ℕ → Header → List (Bool × Fault)
width_checks header h = (not (columns_len header (field_count header) == row_len_of h), bad_table h (Some 3)) ∷ []

-- the heap begins after the rows, and within the data
abbrev pub heap_checks : List ℕ → Header → List (Bool × Fault)
heap_checks header h = (
  is_some (theap_card header) && not (is_from (rows_len_of h) (rows_len_of h + h.pcount) (integer_at header (theap_card header))),
  bad_table h (theap_card header),
)
    ∷ []

-- if column i has this name, no column before it has, and it is one of descriptors of elements of these letters
abbrev pub name_checks : List ℕ → List ℕ → List ℕ → Header → ℕ → List (Bool × Fault)
name_checks name letters header h i =
    (is_called name (title_of header i) && is_some (column_called name header (i - 1)), bad_table h (ttype_card header i))
    ∷ (is_called name (title_of header i) && not (describes letters (form_of header i)), bad_table h (tform_card header i))
    ∷ []

-- the columns of a packed image, each by its name and the letters that the elements may have: the codes, the plain bytes, and
-- codes of another algorithm, whose elements may be of any letter but those of descriptors
abbrev pub coded_name : List ℕ
coded_name = codes "COMPRESSED_DATA"

abbrev pub stored_name : List ℕ
stored_name = codes "UNCOMPRESSED_DATA"

abbrev pub gzip_name : List ℕ
gzip_name = codes "GZIP_COMPRESSED_DATA"

abbrev pub tile_letters : List ℕ
tile_letters = codes "BIJK"

abbrev pub gzip_letters : List ℕ
gzip_letters = codes "LXBIJKAEDCM"

-- the checks of column i, which has at most one of the names
abbrev pub column_checks : List ℕ → Header → ℕ → List (Bool × Fault)
column_checks header h i =
    name_checks coded_name tile_letters header h i
    ++ (name_checks stored_name tile_letters header h i
    ++ name_checks gzip_name gzip_letters header h i)

-- the checks of the table of a packed image, in order
abbrev pub table_checks : List ℕ → Header → List (Bool × Fault)
table_checks header h =
    array_checks h
    ++ (field_checks header h
    ++ (flat_map (form_checks header h) (range_with_len 1 (field_count header))
    ++ (width_checks header h
    ++ (heap_checks header h
    ++ flat_map (column_checks header h) (range_with_len 1 (field_count header))))))

-- the table that the header says: the heap goes from THEAP to the end of the data, which has PCOUNT bytes after the rows
abbrev pub table_in : List ℕ → Header → Table
table_in header h = record {
  row_bytes = row_len_of h;
  rows = row_count_of h;
  rows_at = data_start_of h;
  heap_at = data_start_of h + heap_start_of header h;
  heap_len = rows_len_of h + h.pcount - heap_start_of header h;
  coded = column_called coded_name header (field_count header);
  stored = column_called stored_name header (field_count header);
  gzip = column_called gzip_name header (field_count header);
}

-- the table of a packed image, or why the header is refused
unfoldable pub table_of : List ℕ → Header → Result Table Fault
table_of header h = unless_refused (table_in header h) (first_refusal (table_checks header h))
