-- The form that the table of a packed image must have to be patched, so that its rows and its heap can take what is written (FITS 4.0,
-- sections 7.3.1, 7.3.5, 10.1.3 and 10.4.1).
use Rattle.std.specs.Prelude.{ℕ, ◌==◌, ◌&&◌, not, Bool, true, false, ℤ, List, Option, Some, None, if◌then◌else◌}
use Rattle.fz_block.specs.declared.header.Header.{Header}
use Rattle.fz_table.specs.Columns.{column_called, describes, field_count, form_of, is_called, title_of}
use Rattle.fz_table.specs.Tables.{coded_name, heap_start_of, rows_len_of, stored_name}
use Rattle.fz_table.specs.declared.column.Column.{Column}
use Rattle.fz_tile.specs.declared.codec.Codec.{Codec}
use Rattle.fz_tile.specs.declared.codec.Codec.TheVariants.{Rice, Plio, Plain}
use Rattle.fz_head.specs.PackedHeader.{coded_letter, stored_letter}
use Rattle.fz_head.specs.Planned.{pixel_len}
use Rattle.fz_head.specs.declared.plan.Plan.{Plan}

-- the column has descriptors of 64 bits (Q), and not of 32 (P)
abbrev pub has_wide : Option Column → Bool
has_wide None = false
has_wide (Some c) = c.wide

abbrev pub is_wide_column : List ℕ → List ℕ → Bool
is_wide_column header name = has_wide (column_called name header (field_count header))

-- all descriptors of a table that can be patched have one width
abbrev pub is_wide_table : List ℕ → Bool
is_wide_table header = is_wide_column header coded_name

-- two columns: first that of the codes and then that of the plain bytes, by their names, in any case of letters
abbrev pub has_two_columns : List ℕ → Bool
has_two_columns header =
    field_count header == 2
    && (is_called coded_name (title_of header 1)
    && is_called stored_name (title_of header 2))

-- their elements are those that the packed table of such an image has, and both have descriptors of the same width
abbrev pub has_letters : List ℕ → Plan → Bool
has_letters header p =
    describes (coded_letter p.codec) (form_of header 1)
    && (describes (stored_letter p.bitpix) (form_of header 2)
    && (if is_wide_table header then is_wide_column header stored_name else not (is_wide_column header stored_name)))

-- the heap begins directly after the rows, whether a card THEAP says so or there is none
abbrev pub has_heap_after_rows : List ℕ → Header → Bool
has_heap_after_rows header h = heap_start_of header h == rows_len_of h

-- the numbers of a Rice code are as long as a pixel, as those that are written
abbrev pub has_pixel_codes : Codec → ℤ → Bool
has_pixel_codes (Rice block bytepix) bitpix = bytepix == pixel_len bitpix
has_pixel_codes Plio bitpix = true
has_pixel_codes Plain bitpix = true

-- the table with this header, of an image with this plan, can be patched
abbrev pub has_form : List ℕ → Header → Plan → Bool
has_form header h p =
    has_two_columns header
    && (has_letters header p
    && (has_heap_after_rows header h
    && has_pixel_codes p.codec p.bitpix))
