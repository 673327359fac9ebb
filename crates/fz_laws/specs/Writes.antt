-- The writes of a patch, in their order: the new codes from the heap's end on, and zeros to a whole block; then PCOUNT, by which they
-- belong to the heap; the forms of the columns, if a count passes what they say; then the rows, which describe the new codes from then
-- on; and then the checksums (FITS 4.0, sections 3.3.2, 4.4.1.2, 4.4.2.7, 7.3.1, 7.3.5 and 10.1.3).
use Rattle.std.specs.Prelude.{ℕ, ◌+◌, ◌-◌, ◌*◌, ◌==◌, ◌&&◌, not, nat_lt, nat_le, ℤ, List, [], ◌∷◌, ◌++◌, length, map, drop, filter, replicate}
use Rattle.std.specs.Prelude.{zip, codes, Option, Some, None, unwrap_or, if◌then◌else◌}
use Rattle.std.specs.List.{list_any, range_with_len}
use Rattle.std.specs.Option.{option_and_then}
use Rattle.std.specs.Str.{byte}
use Rattle.std.specs.Str.Parse.{digits_value}
use Rattle.fz_base.specs.Counts.{Amend}
use Rattle.fz_card.specs.CardLists.{first_of_name}
use Rattle.fz_card.specs.Reading.{text_of}
use Rattle.fz_block.specs.Facts.{facts_of}
use Rattle.fz_block.specs.Hdus.{cards_of, pcount_index}
use Rattle.fz_block.specs.Header.{data_start_of, whole_blocks_of}
use Rattle.fz_block.specs.Walk.{hdu_of}
use Rattle.fz_block.specs.declared.header.Header.{Header}
use Rattle.fz_sum.specs.Cards.{blank_checksum_card, checksum_card, checksum_name, datasum_card, datasum_name, with_card}
use Rattle.fz_sum.specs.Sums.{ones_sum}
use Rattle.fz_sum.specs.Verdicts.{is_some_text}
use Rattle.fz_table.specs.Columns.{text_at, tform_card}
use Rattle.fz_table.specs.Forms.{first_digits}
use Rattle.fz_table.specs.Rows.{row_at, row_start}
use Rattle.fz_table.specs.declared.row.Row.{Row}
use Rattle.fz_table.specs.declared.table.Table.{Table}
use Rattle.fz_tile.specs.TileCode.{TileCode, tile_code}
use Rattle.fz_head.specs.CardLists.{index_of}
use Rattle.fz_checks.specs.Greatest.{greatest}
use Rattle.fz_head.specs.PackedHeader.{coded_letter, descriptor_form, number_card, numbered_word_card, stored_letter}
use Rattle.fz_head.specs.declared.plan.Plan.{Plan}
use Rattle.fz_files.specs.Packed.{coded_count, heap_of, pixel_bits, row_of, stored_count}
use Rattle.fz_files.specs.Restored.{header_in, image_table, plan_in}
use Rattle.fz_laws.specs.Amends.{amend_of, applied}
use Rattle.fz_laws.specs.PatchForm.{is_wide_table}
use Rattle.fz_laws.specs.Given.{Given}
use Rattle.fz_laws.specs.NewNumbers.{box_tiles, new_numbers}

-- ---- what is written for the tiles

-- what is written for each tile with a pixel in the box, which had these numbers: also if no number of it changes
abbrev pub new_codes : Plan → Given → List ℕ → List (List ℤ) → List TileCode
new_codes p g tiles olds = map (λ old. tile_code p.codec (pixel_bits p) (new_numbers p g old.0 old.1)) (zip tiles olds)

-- the plan of an image with descriptors of the width that the columns of its table have, which need not be the one that `pack` takes
abbrev pub table_plan : List ℕ → Header → Plan
table_plan file h = record (plan_in file h) { wide = is_wide_table (header_in file h) }

-- the byte after the heap
abbrev pub heap_end : Table → ℕ
heap_end t = t.heap_at + t.heap_len

-- the byte after the data and their fill, of a heap with so many bytes more
abbrev pub grown_end : Header → ℕ → ℕ
grown_end h more = data_start_of h + whole_blocks_of (h.data_len + more)

-- a code for each tile, one after another from this byte on
abbrev pub code_writes : ℕ → List TileCode → List Amend
code_writes start [] = []
code_writes start (e ∷ es) = amend_of start e.bytes ∷ code_writes (start + length e.bytes) es

-- zeros from one byte to another; none if nothing is between
abbrev pub zero_writes : ℕ → ℕ → List Amend
zero_writes start end = if start == end then [] else amend_of start (replicate (end - start) 0) ∷ []

-- the codes, and zeros to a whole block
abbrev pub heap_writes : List ℕ → Header → List TileCode → List Amend
heap_writes file h es =
    let start = heap_end (image_table file h) in
    let more = length (heap_of es) in
    code_writes start es ++ zero_writes (start + more) (grown_end h more)

-- ---- the cards

-- a card in place of card i
abbrev pub card_write : Header → ℕ → List ℕ → Amend
card_write h i card = amend_of (h.start + 80 * i) card

-- PCOUNT, with so many bytes more
abbrev pub pcount_writes : List ℕ → Header → ℕ → List Amend
pcount_writes file h more = card_write h (pcount_index (header_in file h)) (number_card (codes "PCOUNT") (h.pcount + more)) ∷ []

-- the number of 1 to 18 digits that a text has in parentheses at its front, if it does
abbrev pub closed_number : List ℕ → List ℕ → Option ℕ
closed_number digits [] = None
closed_number digits (b ∷ bs) =
    if b == byte ")" && (nat_lt 0 (length digits) && nat_le (length digits) 18) then Some (digits_value 10 digits) else None

abbrev pub number_in_parentheses : List ℕ → Option ℕ
number_in_parentheses [] = None
number_in_parentheses (b ∷ bs) =
    if b == byte "(" then closed_number (first_digits bs) (drop (length (first_digits bs)) bs) else None

-- the greatest count that the form of a column says, directly after the letter of the elements; 0 if it says none
abbrev pub most_in : Option (List ℕ) → ℕ
most_in None = 0
most_in (Some text) = unwrap_or (number_in_parentheses (drop (length (first_digits text) + 2) text)) 0

abbrev pub said_most : List ℕ → ℕ → ℕ
said_most header i = most_in (text_at header (tform_card header i))

-- TFORMi, if one of the new counts in its column is above what it says: it says the greatest count of all rows then, which have these
-- other counts
abbrev pub form_writes : List ℕ → Header → ℕ → List ℕ → List ℕ → List ℕ → List Amend
form_writes header h i letter news others =
    if nat_lt (said_most header i) (greatest news) then
    card_write h (unwrap_or (tform_card header i) 0)
    (numbered_word_card (codes "TFORM") i (descriptor_form (is_wide_table header) letter (greatest (news ++ others)))) ∷ []
    else []

-- the rows of the tiles that have no pixel in the box
abbrev pub other_rows : List ℕ → Table → List ℕ → List Row
other_rows file t tiles = map (row_at file t) (filter (λ row. not (list_any (λ tile. tile == row) tiles)) (range_with_len 0 t.rows))

-- both forms, that of the codes first
abbrev pub column_writes : List ℕ → Header → List ℕ → List TileCode → List Amend
column_writes file h tiles es =
    let header = header_in file h in
    let p = plan_in file h in
    let others = other_rows file (image_table file h) tiles in
    form_writes header h 1 (coded_letter p.codec) (map (coded_count p) es) (map (λ (r : Row). r.coded.count) others)
    ++ form_writes header h 2 (stored_letter p.bitpix) (map (stored_count p) es) (map (λ (r : Row). r.stored.count) others)

-- ---- the rows

-- the row of each tile, whose bytes are one after another in the heap from this offset on
abbrev pub row_writes : Table → Plan → ℕ → List (ℕ × TileCode) → List Amend
row_writes t p offset [] = []
row_writes t p offset ((row, e) ∷ more) = amend_of (row_start t row) (row_of p offset e) ∷ row_writes t p (offset + length e.bytes) more

-- ---- the checksums

-- the facts of the header of an HDU of a file that was written to
abbrev pub header_now : List ℕ → Header → Header
header_now file h = facts_of h.hdu h.start (header_in file h)

-- the index of the first card of a checksum, if it has a text that is not empty
abbrev pub told_sum : List ℕ → List ℕ → Option ℕ
told_sum name header =
    if is_some_text (option_and_then text_of (first_of_name name (cards_of header))) then index_of name (cards_of header) else None

-- the data of an HDU with their fill
abbrev pub data_now : List ℕ → Header → List ℕ
data_now file h = (hdu_of file (header_now file h)).payload

abbrev pub datasum_write : List ℕ → Header → Option ℕ → List Amend
datasum_write file h None = []
datasum_write file h (Some i) = card_write h i (datasum_card (ones_sum (data_now file h))) ∷ []

-- the card with which the sum of the HDU is all ones
abbrev pub checksum_write : List ℕ → Header → Option ℕ → List Amend
checksum_write file h None = []
checksum_write file h (Some i) =
    card_write h i (checksum_card (ones_sum (with_card i blank_checksum_card (header_in file h) ++ data_now file h))) ∷ []

abbrev pub datasum_writes : List ℕ → Header → List Amend
datasum_writes file h = datasum_write file h (told_sum datasum_name (header_in file h))

abbrev pub checksum_writes : List ℕ → Header → List Amend
checksum_writes file h = checksum_write file h (told_sum checksum_name (header_in file h))

-- DATASUM, and then CHECKSUM, of a file that has all other writes
abbrev pub sum_writes : List ℕ → Header → List Amend
sum_writes file h =
    let first = datasum_writes file h in
    first ++ checksum_writes (applied first file) h

-- ---- all writes

pub record Steps : Type 0 where
  pub heap : List Amend
  pub pcount : List Amend
  pub forms : List Amend
  pub rows : List Amend
  pub sums : List Amend

-- the writes before a row is written, before the checksums are, and all
abbrev pub before_rows : Steps → List Amend
before_rows s = s.heap ++ (s.pcount ++ s.forms)

abbrev pub before_sums : Steps → List Amend
before_sums s = before_rows s ++ s.rows

abbrev pub all_writes : Steps → List Amend
all_writes s = before_sums s ++ s.sums

-- the writes up to the rows, of these tiles with these codes
abbrev pub table_steps : List ℕ → Header → List ℕ → List TileCode → Steps
table_steps file h tiles es =
    let t = image_table file h in
    record {
      heap = heap_writes file h es;
      pcount = pcount_writes file h (length (heap_of es));
      forms = column_writes file h tiles es;
      rows = row_writes t (table_plan file h) t.heap_len (zip tiles es);
      sums = [];
    }

-- the writes of a patch of an image whose tiles with a pixel in the box have these numbers
unfoldable pub steps_of : List ℕ → Header → Given → List (List ℤ) → Steps
steps_of file h g olds =
    let p = plan_in file h in
    let tiles = box_tiles p g in
    let steps = table_steps file h tiles (new_codes p g tiles olds) in
    record steps { sums = sum_writes (applied (before_sums steps) file) h }
