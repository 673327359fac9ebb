-- The lines of the file with checksums, by the definitions.
use Rattle.std.proofs.Common.{◌≡◌, ℕ, ◌*◌, ◌||◌, true, false, pos, List, [], ◌∷◌, ◌++◌, None, Ok, codes, decimal, if◌then◌else◌, append-nil, refl, ◌∙◌, ap, arith}
use Rattle.std.proofs.lemmas.Fmt.{decimal_digit}
use Rattle.std.specs.Fmt.{digits, signed_decimal}
use Rattle.std.specs.List.{flat_map, list_any}
use Rattle.fz_base.specs.Refusal.{first_refusal}
use Rattle.fz_card.specs.Made.{numbered_name}
use Rattle.fz_card.specs.Naming.{number_behind}
use Rattle.fz_card.specs.Quoted.{quoted}
use Rattle.fz_card.specs.Reading.{integer_of, logical_of, text_of}
use Rattle.fz_block.specs.Cards.{end_among, first_among}
use Rattle.fz_block.specs.Checks.{header_blocks_of, header_of, hdu_at, unless_refused, walk_of}
use Rattle.fz_block.specs.Hdus.{cards_of}
use Rattle.fz_block.specs.Header.{whole_blocks_of}
use Rattle.fz_block.specs.Walk.{hdu_of}
use Rattle.fz_block.specs.declared.header.Header.{Header}
use Rattle.fz_block.specs.declared.header.Sort.TheVariants.{BinTable, Image}
use Rattle.fz_grid.specs.Region.{lengths_of}
use Rattle.fz_sum.specs.Sums.{word_total, carried, ones_sum}
use Rattle.fz_sum.specs.Texts.{sum_of_card, sum_of_text}
use Rattle.fz_sum.specs.Verdicts.{checksum_verdict, datasum_verdict, verdict_of}
use Rattle.fz_sum.specs.declared.verdicts.Verdict.{Verdict}
use Rattle.fz_sum.specs.declared.verdicts.Verdict.TheVariants.{Absent, Right, Wrong}
use Rattle.fz_table.specs.Columns.{first_named, columns_len, column_called}
use Rattle.fz_table.specs.Forms.{elements_len, form_in}
use Rattle.fz_table.specs.Tables.{table_checks}
use Rattle.fz_checks.specs.JobChecks.{image_checks, unpack_hdu_checks}
use Rattle.fz_checks.specs.Judges.{unpack_judge}
use Rattle.fz_head.specs.Packable.{is_packed}
use Rattle.fz_head.specs.PackedChecks.{packed_checks}
use Rattle.fz_head.specs.PackedPlan.{plan_of_cards}
use Rattle.fz_head.specs.TableChecks.{table_card_checks}
use Rattle.fz_files.specs.declared.job.Job.TheVariants.{Verify, List as ListHdus}
use Rattle.fz_files.specs.HandMade.{block_of}
use Rattle.fz_files.specs.Lines.{axes_text, has_wrong_sum, has_wrong_sums, is_wrong, lines_behind, list_line, other_text, packed_text, report_lines, sort_word, tiles_text, verdict_word, verify_line}
use Rattle.fz_files.specs.LinesFile.{blanks_cards, lines_file, list_lines, verify_lines}
use Rattle.fz_files.specs.Packed.{tiles_in}
use Rattle.fz_files.specs.PlainFile.{plain_plan}
use Rattle.fz_files.specs.Restored.{is_image, plan_in}
use Rattle.fz_files.specs.Walks.{fault_of_walk, found_headers, header_fault, headers_for, job_walk}
use Rattle.fz_files.proofs.CutFileLemmas.{first_facts, both_none}
use Rattle.fz_files.proofs.WorkedCards.{decimal_2880}
use Rattle.fz_files.proofs.WorkedWalks.{goes_on, ends_with}

-- ---- the headers

-- the header of the table, and that of the image without data
abbrev pub sums_facts : Header
sums_facts = record {
  hdu = 1;
  start = 2880;
  cards = 23;
  blocks = 1;
  sort = BinTable;
  bitpix = pos 8;
  axes = record { n = 2; len = 16 ∷ 6 ∷ 0 ∷ 0 ∷ 0 ∷ 0 ∷ 0 ∷ 0 ∷ 0 ∷ [] };
  pcount = 15;
  gcount = 1;
  data_len = 111;
}

abbrev pub bare_facts : Header
bare_facts = record {
  hdu = 2;
  start = 8640;
  cards = 7;
  blocks = 1;
  sort = Image;
  bitpix = pos 8;
  axes = record { n = 0; len = 0 ∷ 0 ∷ 0 ∷ 0 ∷ 0 ∷ 0 ∷ 0 ∷ 0 ∷ 0 ∷ [] };
  pcount = 0;
  gcount = 1;
  data_len = 0;
}

first_at : hdu_at 0 0 lines_file ≡ Ok first_facts
unfolding hdu_at header_blocks_of header_of end_among first_among integer_of logical_of text_of quoted
first_at = refl

table_at : hdu_at 1 2880 lines_file ≡ Ok sums_facts
unfolding hdu_at header_blocks_of header_of end_among first_among integer_of logical_of text_of quoted numbered_name digits
table_at = refl

bare_at : hdu_at 2 8640 lines_file ≡ Ok bare_facts
unfolding hdu_at header_blocks_of header_of end_among first_among integer_of logical_of text_of quoted
bare_at = refl

cards_are : cards_of (block_of blanks_cards) ≡ blanks_cards
unfolding end_among
cards_are = refl

plan_of : plan_of_cards blanks_cards ≡ plain_plan
unfolding plan_of_cards integer_of text_of quoted number_behind numbered_name digits
plan_of = refl

pub plan_is : plan_in lines_file sums_facts ≡ plain_plan
plan_is = ap plan_of_cards cards_are ∙ plan_of

-- ---- the checks

pub packed : is_packed (block_of blanks_cards) sums_facts ≡ true
unfolding is_packed end_among logical_of
packed = refl

card_checks_none : first_refusal (table_card_checks sums_facts (block_of blanks_cards)) ≡ None
unfolding is_packed end_among logical_of number_behind numbered_name digits
card_checks_none = refl

table_checks_none : first_refusal (table_checks (block_of blanks_cards) sums_facts) ≡ None
unfolding first_among first_named columns_len column_called elements_len form_in integer_of text_of quoted numbered_name digits end_among
table_checks_none = refl

plan_checks_none : first_refusal (packed_checks 1 (block_of blanks_cards) true) ≡ None
unfolding integer_of logical_of text_of quoted number_behind numbered_name digits end_among
plan_checks_none = refl

-- what the checks of the table of a file come to, with these cards after the empty primary
pub table_none :
    first_refusal (table_card_checks sums_facts (block_of blanks_cards) ++ (if is_packed (block_of blanks_cards) sums_facts then image_checks sums_facts (block_of blanks_cards) true else [])) ≡ None
table_none =
    both_none (table_card_checks sums_facts (block_of blanks_cards)) (if is_packed (block_of blanks_cards) sums_facts then image_checks sums_facts (block_of blanks_cards) true else []) card_checks_none
    (ap (λ b. first_refusal (if b then image_checks sums_facts (block_of blanks_cards) true else [])) packed
    ∙ both_none (table_checks (block_of blanks_cards) sums_facts) (packed_checks 1 (block_of blanks_cards) true) table_checks_none plan_checks_none)

checks_none : first_refusal (unpack_hdu_checks lines_file sums_facts) ≡ None
unfolding integer_of
checks_none = table_none

passes_first : unpack_judge lines_file first_facts ≡ Ok false
unfolding is_packed
passes_first = refl

passes_last : unpack_judge lines_file bare_facts ≡ Ok false
unfolding is_packed
passes_last = refl

walk_is : walk_of (unpack_judge lines_file) 65536 lines_file ≡ Ok (first_facts ∷ sums_facts ∷ bare_facts ∷ [])
walk_is =
    goes_on (unpack_judge lines_file) 65535 0 0 lines_file first_facts (Ok (sums_facts ∷ bare_facts ∷ [])) first_at passes_first refl
    (goes_on (unpack_judge lines_file) 65534 1 2880 lines_file sums_facts (Ok (bare_facts ∷ [])) table_at (ap (unless_refused false) checks_none) refl
    (ends_with (unpack_judge lines_file) 65533 2 8640 lines_file bare_facts bare_at passes_last refl))

no_fault : header_fault Verify lines_file ≡ None
unfolding job_walk
no_fault = ap (fault_of_walk Verify lines_file) walk_is

headers_are : headers_for Verify lines_file ≡ first_facts ∷ sums_facts ∷ bare_facts ∷ []
unfolding job_walk
headers_are = ap found_headers walk_is

no_list_fault : header_fault ListHdus lines_file ≡ None
unfolding job_walk
no_list_fault = ap (fault_of_walk ListHdus lines_file) walk_is

list_headers_are : headers_for ListHdus lines_file ≡ first_facts ∷ sums_facts ∷ bare_facts ∷ []
unfolding job_walk
list_headers_are = ap found_headers walk_is

-- ---- the lines of `verify`

-- the line of an HDU by its parts
pub verify_is : (file : List ℕ) (h : Header) (of_data whole : Verdict) (number tiles : List ℕ) →
    datasum_verdict (cards_of (hdu_of file h).header) (hdu_of file h).payload ≡ of_data →
    checksum_verdict (cards_of (hdu_of file h).header) (hdu_of file h).header (hdu_of file h).payload ≡ whole → decimal h.hdu ≡ number →
    tiles_text (is_image file h) (tiles_in (plan_in file h)) ≡ tiles →
    verify_line file h ≡ codes "HDU " ++ number ++ codes " datasum " ++ verdict_word of_data ++ codes " checksum " ++ verdict_word whole ++ codes " tiles " ++ tiles ++ codes "\n"
verify_is file h of_data whole number tiles a b c d =
    λ i. codes "HDU " ++ c i ++ codes " datasum " ++ verdict_word (a i) ++ codes " checksum " ++ verdict_word (b i) ++ codes " tiles " ++ d i ++ codes "\n"

first_datasum : datasum_verdict (cards_of (hdu_of lines_file first_facts).header) (hdu_of lines_file first_facts).payload ≡ Absent
unfolding datasum_verdict verdict_of end_among
first_datasum = refl

first_checksum : checksum_verdict (cards_of (hdu_of lines_file first_facts).header) (hdu_of lines_file first_facts).header (hdu_of lines_file first_facts).payload ≡ Absent
unfolding checksum_verdict verdict_of end_among
first_checksum = refl

first_tiles : tiles_text (is_image lines_file first_facts) (tiles_in (plan_in lines_file first_facts)) ≡ codes "-"
unfolding is_packed
first_tiles = refl

table_datasum : datasum_verdict (cards_of (hdu_of lines_file sums_facts).header) (hdu_of lines_file sums_facts).payload ≡ Right
unfolding datasum_verdict verdict_of end_among text_of quoted sum_of_card sum_of_text ones_sum word_total carried
table_datasum = refl

table_checksum : checksum_verdict (cards_of (hdu_of lines_file sums_facts).header) (hdu_of lines_file sums_facts).header (hdu_of lines_file sums_facts).payload ≡ Wrong
unfolding checksum_verdict verdict_of end_among text_of quoted ones_sum word_total carried
table_checksum = refl

table_tiles : tiles_text (is_image lines_file sums_facts) (tiles_in (plan_in lines_file sums_facts)) ≡ codes "6"
table_tiles = (λ i. tiles_text (packed i) (tiles_in (plan_is i))) ∙ decimal_digit 6 (omega arith)

bare_datasum : datasum_verdict (cards_of (hdu_of lines_file bare_facts).header) (hdu_of lines_file bare_facts).payload ≡ Absent
unfolding datasum_verdict verdict_of end_among text_of quoted
bare_datasum = refl

bare_checksum : checksum_verdict (cards_of (hdu_of lines_file bare_facts).header) (hdu_of lines_file bare_facts).header (hdu_of lines_file bare_facts).payload ≡ Right
unfolding checksum_verdict verdict_of end_among text_of quoted ones_sum word_total carried
bare_checksum = refl

bare_tiles : tiles_text (is_image lines_file bare_facts) (tiles_in (plan_in lines_file bare_facts)) ≡ codes "-"
unfolding is_packed
bare_tiles = refl

-- three lines one after another
three : (a b c : List ℕ) → a ++ (b ++ (c ++ [])) ≡ a ++ (b ++ c)
three a b c = ap (λ l. a ++ (b ++ l)) (append-nil c)

pub verified : report_lines Verify lines_file None ≡ verify_lines
verified =
    let first : verify_line lines_file first_facts ≡ codes "HDU 0 datasum none checksum none tiles -\n" =
    verify_is lines_file first_facts Absent Absent (codes "0") (codes "-") first_datasum first_checksum (decimal_digit 0 (omega arith)) first_tiles in
    let table : verify_line lines_file sums_facts ≡ codes "HDU 1 datasum ok checksum wrong tiles 6\n" =
    verify_is lines_file sums_facts Right Wrong (codes "1") (codes "6") table_datasum table_checksum (decimal_digit 1 (omega arith)) table_tiles in
    let bare : verify_line lines_file bare_facts ≡ codes "HDU 2 datasum none checksum ok tiles -\n" =
    verify_is lines_file bare_facts Absent Right (codes "2") (codes "-") bare_datasum bare_checksum (decimal_digit 2 (omega arith)) bare_tiles in
    ap (λ r. lines_behind r Verify lines_file None) no_fault
    ∙ (ap (flat_map (verify_line lines_file)) headers_are
    ∙ (three (verify_line lines_file first_facts) (verify_line lines_file sums_facts) (verify_line lines_file bare_facts) ∙ (λ i. first i ++ (table i ++ bare i))))

pub one_is_wrong : has_wrong_sums lines_file ≡ true
one_is_wrong =
    ap (list_any (has_wrong_sum lines_file)) headers_are
    ∙ (λ i. (is_wrong (first_datasum i) || is_wrong (first_checksum i)) || ((is_wrong (table_datasum i) || is_wrong (table_checksum i)) || ((is_wrong (bare_datasum i) || is_wrong (bare_checksum i)) || false)))

-- ---- the lines of `list`

-- the line of an HDU by its parts
pub list_is : (file : List ℕ) (h : Header) (number said header filled_data : List ℕ) → decimal h.hdu ≡ number →
    (if is_image file h then packed_text (plan_in file h) else other_text h) ≡ said → decimal (2880 * h.blocks) ≡ header → decimal (whole_blocks_of h.data_len) ≡ filled_data →
    list_line file h ≡ codes "HDU " ++ number ++ codes " " ++ said ++ (codes " header " ++ header ++ codes " data " ++ filled_data) ++ codes "\n"
list_is file h number said header filled_data a b c d = λ i. codes "HDU " ++ a i ++ codes " " ++ b i ++ (codes " header " ++ c i ++ codes " data " ++ d i) ++ codes "\n"

-- the text of an image without axes
bare_text : (h : Header) → sort_word h.sort ≡ codes "IMAGE" → signed_decimal h.bitpix ≡ codes "8" → axes_text (lengths_of h.axes) ≡ codes "-" → other_text h ≡ codes "IMAGE 8 -"
bare_text h a b c = λ i. a i ++ codes " " ++ b i ++ codes " " ++ c i

first_said : (if is_image lines_file first_facts then packed_text (plan_in lines_file first_facts) else other_text first_facts) ≡ codes "IMAGE 8 -"
unfolding is_packed
first_said = bare_text first_facts refl (decimal_digit 8 (omega arith)) refl

bare_said : (if is_image lines_file bare_facts then packed_text (plan_in lines_file bare_facts) else other_text bare_facts) ≡ codes "IMAGE 8 -"
unfolding is_packed
bare_said = bare_text bare_facts refl (decimal_digit 8 (omega arith)) refl

plain_said : packed_text plain_plan ≡ codes "PACKED NOCOMPRESS 8 5x3 tile 2x2 rows 6"
plain_said =
    let eight : decimal 8 ≡ codes "8" = decimal_digit 8 (omega arith) in
    let five : decimal 5 ≡ codes "5" = decimal_digit 5 (omega arith) in
    let three : decimal 3 ≡ codes "3" = decimal_digit 3 (omega arith) in
    let two : decimal 2 ≡ codes "2" = decimal_digit 2 (omega arith) in
    let six : decimal 6 ≡ codes "6" = decimal_digit 6 (omega arith) in
    λ i. codes "PACKED NOCOMPRESS " ++ eight i ++ codes " " ++ (five i ++ codes "x" ++ three i) ++ codes " tile " ++ (two i ++ codes "x" ++ two i) ++ codes " rows " ++ six i

table_said : (if is_image lines_file sums_facts then packed_text (plan_in lines_file sums_facts) else other_text sums_facts) ≡ codes "PACKED NOCOMPRESS 8 5x3 tile 2x2 rows 6"
table_said = ap (λ b. if b then packed_text (plan_in lines_file sums_facts) else other_text sums_facts) packed ∙ (ap packed_text plan_is ∙ plain_said)

pub listed : report_lines ListHdus lines_file None ≡ list_lines
listed =
    let zero : decimal 0 ≡ codes "0" = decimal_digit 0 (omega arith) in
    let first : list_line lines_file first_facts ≡ codes "HDU 0 IMAGE 8 - header 2880 data 0\n" =
    list_is lines_file first_facts (codes "0") (codes "IMAGE 8 -") (codes "2880") (codes "0") zero first_said decimal_2880 zero in
    let table : list_line lines_file sums_facts ≡ codes "HDU 1 PACKED NOCOMPRESS 8 5x3 tile 2x2 rows 6 header 2880 data 2880\n" =
    list_is lines_file sums_facts (codes "1") (codes "PACKED NOCOMPRESS 8 5x3 tile 2x2 rows 6") (codes "2880") (codes "2880") (decimal_digit 1 (omega arith)) table_said decimal_2880 decimal_2880 in
    let bare : list_line lines_file bare_facts ≡ codes "HDU 2 IMAGE 8 - header 2880 data 0\n" =
    list_is lines_file bare_facts (codes "2") (codes "IMAGE 8 -") (codes "2880") (codes "0") (decimal_digit 2 (omega arith)) bare_said decimal_2880 zero in
    ap (λ r. lines_behind r ListHdus lines_file None) no_list_fault
    ∙ (ap (flat_map (list_line lines_file)) list_headers_are
    ∙ (three (list_line lines_file first_facts) (list_line lines_file sums_facts) (list_line lines_file bare_facts) ∙ (λ i. first i ++ (table i ++ bare i))))
