-- The table of an image passes the checks of every job.
use Rattle.std.proofs.Common.{◌≡◌, ℕ, suc, ◌+◌, ◌-◌, ◌*◌, ◌/◌, ◌^◌, ◌<◌, ◌≤◌, ◌==◌, ◌&&◌, not, nat_lt, min, Bool, true, false, List, [], ◌∷◌, ◌++◌, length, take, replicate, bytes_eq, codes, is_some, Option, Some, None, Ok, IsOk, unsigned_abs, refl, sym, subst, ◌∙◌, ap, arith}
use Rattle.std.proofs.Math.Seq.{take-length}
use Rattle.std.proofs.lemmas.Bool.Decides.{nat_tests}
use Rattle.std.proofs.lemmas.List.{length-append, length-replicate}
use Rattle.std.proofs.lemmas.List.FromFn.{length-map-range_with_len}
use Rattle.fz_base.specs.Refusal.{first_refusal}
use Rattle.fz_base.specs.declared.fault.Fault.{Fault}
use Rattle.fz_card.specs.Made.{text_card_bytes}
use Rattle.fz_block.specs.Cards.{end_of}
use Rattle.fz_block.specs.Checks.{block_checks, blocks_to_end, end_checks, ends_in_last_block, header_blocks_of, header_checks, header_of, header_room, hdu_end, unless_refused}
use Rattle.fz_block.specs.Facts.{IsHeaderOf, facts_of}
use Rattle.fz_block.specs.Hdus.{Hdu, IsHeader, cards_of, data_len_of, hdu_bytes, header_bytes}
use Rattle.fz_block.specs.Header.{whole_blocks_of}
use Rattle.fz_block.specs.Mandatory.{mandatory_checks}
use Rattle.fz_block.specs.Walk.{PassesAt, StandsAt, begins_hdu, hdu_of}
use Rattle.fz_block.specs.declared.header.Header.{Header}
use Rattle.fz_grid.specs.Arrays.{product}
use Rattle.fz_grid.specs.Grid.{tile}
use Rattle.fz_grid.specs.Region.{lengths_of}
use Rattle.fz_head.specs.Accepted.{IsAccepted}
use Rattle.fz_head.specs.PackedHeader.{packed_with}
use Rattle.fz_head.specs.PackedTable.{planned_row, planned_rows}
use Rattle.fz_head.specs.Planned.{pack_plan_of}
use Rattle.fz_head.specs.declared.options.PackOptions.{PackOptions}
use Rattle.fz_head.specs.declared.plan.Plan.{Plan}
use Rattle.fz_head.specs.declared.totals.Totals.{Totals}
use Rattle.fz_tile.specs.TileCode.{TileCode, tile_code}
use Rattle.fz_files.specs.Laws.{IsTaken, codes_from, table_hdu, totals_from}
use Rattle.fz_files.specs.Packed.{array_of, heap_of, packed_data, pixel_bits, rows_from, tile_codes, tiles_in, zero_filled}
use Rattle.fz_files.proofs.TableImage.{TableLaws, accepted_is, answer_is, facts_len, le_blocks, made_is, sums_from}
use Rattle.fz_files.proofs.TablePlaces.{rows_len}

-- ---- the header

-- a header that stands is found with its blocks
abbrev pub BlocksAreFound : Type 0
BlocksAreFound = (k start : ℕ) (file header : List ℕ) → StandsAt k start file header → header_blocks_of k start file ≡ Ok (length header / 2880)

room_is : (header : List ℕ) → IsHeader header → length header ≤ 737280 → header_room 0 header ≡ header
room_is header is short =
    let blocks : length header ≡ 2880 * (is.before + 1) = is.blocks in
    let all : 2880 * min 256 ((length header - 0) / 2880) ≡ length header = omega (arith, blocks, short) in
    ap (λ n. take n header) all ∙ take-length header

blocks_are : BlocksAreFound → (k : ℕ) (header : List ℕ) → StandsAt k 0 header header → blocks_to_end (end_of (header_room 0 header)) ≡ length header / 2880
unfolding header_blocks_of
blocks_are found k header is = answer_is (blocks_to_end (end_of (header_room 0 header))) (length header / 2880) (first_refusal (block_checks k 0 header)) (found k 0 header header is)

ends_last : BlocksAreFound → (k : ℕ) (header : List ℕ) → StandsAt k 0 header header → ends_in_last_block header ≡ true
ends_last found k header is =
    let blocks : length header ≡ 2880 * (is.whole.before + 1) = is.whole.blocks in
    let here : blocks_to_end (end_of header) ≡ length header / 2880 = ap (λ l. blocks_to_end (end_of l)) (sym (room_is header is.whole is.short)) ∙ blocks_are found k header is in
    let all : 2880 * blocks_to_end (end_of header) ≡ length header = ap (λ n. 2880 * n) here ∙ omega (arith, blocks) in
    let test : (2880 * blocks_to_end (end_of header) == length header) ≡ true = grind (arith, nat_tests, all) in
    let some : is_some (end_of header) ≡ true = is.whole.has in
    λ i. some i && test i

both_none : (xs ys : List (Bool × Fault)) → first_refusal xs ≡ None → first_refusal ys ≡ None → first_refusal (xs ++ ys) ≡ None
both_none [] ys none rest = rest
both_none ((true, fault) ∷ xs) ys none rest = absurd cc
both_none ((false, fault) ∷ xs) ys none rest = both_none xs ys none rest

ends_none : (k len end : ℕ) → end ≤ len → end ≤ 2 ^ 62 → first_refusal (end_checks k len end) ≡ None
ends_none k len end within few =
    let first : nat_lt (2 ^ 62) end ≡ false = grind (arith, nat_tests, few) in
    let second : nat_lt len end ≡ false = grind (arith, nat_tests, within) in
    rw (first, second) refl

is_ok : {A : Type 0} (answer : A) (refused : Option Fault) → refused ≡ None → IsOk (unless_refused answer refused)
is_ok answer None none = refl
is_ok answer (Some fault) none = absurd cc

checks_none : BlocksAreFound → (k start len : ℕ) (header : List ℕ) → IsHeaderOf header (facts_of (suc k) start header) → begins_hdu (suc k) header ≡ true → suc k < 65536 →
    hdu_end (suc k) start header ≤ len → hdu_end (suc k) start header ≤ 2 ^ 62 → first_refusal (header_checks (suc k) start len header) ≡ None
checks_none found k start len header is begins number within few =
    let last : not (ends_in_last_block header) ≡ false =
    ap not (ends_last found (suc k) header (record { whole = is.whole; short = is.short; place = take-length header; number = number; begins = begins })) in
    rw last (both_none (mandatory_checks (suc k) header) (end_checks (suc k) len (hdu_end (suc k) start header)) is.mandatory (ends_none (suc k) len (hdu_end (suc k) start header) within few))

-- ---- the table

begins_so : (cards : List (List ℕ)) (p : Plan) (s : Totals) (sums : List (List ℕ)) → bytes_eq (take 8 (header_bytes (packed_with cards p s sums))) (codes "XTENSION") ≡ true
unfolding text_card_bytes
begins_so cards p s sums = refl

filled_len : (bytes : List ℕ) → length (zero_filled bytes) ≡ whole_blocks_of (length bytes)
filled_len bytes =
    length-append bytes (replicate (whole_blocks_of (length bytes) - length bytes) 0)
    ∙ (ap (λ n. length bytes + n) (length-replicate (whole_blocks_of (length bytes) - length bytes) 0)
    ∙ back (length bytes) (whole_blocks_of (length bytes)) (le_blocks (length bytes)))
  where
    back : (n whole : ℕ) → n ≤ whole → n + (whole - n) ≡ whole
    back n whole within = omega (arith, within)

codes_count : (p : Plan) (payload : List ℕ) → length (tile_codes p (array_of p payload)) ≡ tiles_in p
unfolding tile_codes
codes_count p payload = length-map-range_with_len (λ t. tile_code p.codec (pixel_bits p) (tile (array_of p payload) (lengths_of p.tile) t)) 0 (tiles_in p)

table_len : (p : Plan) (es : List TileCode) → length es ≡ tiles_in p → length (packed_data p es) ≡ whole_blocks_of (planned_row p * planned_rows p + length (heap_of es))
table_len p es count =
    let both : length (rows_from p 0 es ++ heap_of es) ≡ length (rows_from p 0 es) + length (heap_of es) = length-append (rows_from p 0 es) (heap_of es) in
    let rows : length (rows_from p 0 es) ≡ planned_row p * planned_rows p = rows_len p 0 es ∙ ap (λ n. planned_row p * n) count in
    filled_len (rows_from p 0 es ++ heap_of es) ∙ ap whole_blocks_of (both ∙ ap (λ n. n + length (heap_of es)) rows)

accepted_len : (p : Plan) (s : Totals) (k start : ℕ) (header : List ℕ) → IsAccepted p s header (facts_of (suc k) start header) → data_len_of (suc k) header ≡ planned_row p * planned_rows p + s.heap
accepted_len p s k start header is =
    let some : 1 ≤ (facts_of (suc k) start header).axes.n = subst (λ a. 1 ≤ a.n) (sym is.axes) (omega arith) in
    let order : (row rows heap : ℕ) → 8 / 8 * (1 * (heap + row * (rows * 1))) ≡ row * rows + heap = λ row rows heap. grind arith in
    facts_len (suc k) start header some
    ∙ ((λ i. unsigned_abs (is.bitpix i) / 8 * (is.gcount i * (is.pcount i + product (lengths_of (is.axes i))))) ∙ order (planned_row p) (planned_rows p) s.heap)

pub table_passes : BlocksAreFound → TableLaws → (o : PackOptions) (source : List ℕ) (from : Header) (k start len : ℕ) → IsTaken o source from → suc k < 65536 →
    start + length (hdu_bytes (table_hdu o source from)) ≤ len → len ≤ 2 ^ 62 → PassesAt (suc k) start len (table_hdu o source from)
unfolding header_of
table_passes found l o source from k start len is number within few =
    let p : Plan = pack_plan_of o from in
    let d : Hdu = table_hdu o source from in
    let accepted : IsAccepted p (totals_from o source from) d.header (facts_of (suc k) start d.header) = accepted_is l o source from k start is in
    let begins : begins_hdu (suc k) d.header ≡ true =
    ap (λ b. bytes_eq (take 8 b) (codes "XTENSION")) (made_is l o source from) ∙ begins_so (cards_of (hdu_of source from).header) p (totals_from o source from) (sums_from o source from) in
    let size : data_len_of (suc k) d.header ≡ planned_row p * planned_rows p + length (heap_of (codes_from o source from)) = accepted_len p (totals_from o source from) k start d.header accepted in
    let payload : length d.payload ≡ whole_blocks_of (data_len_of (suc k) d.header) =
    table_len p (codes_from o source from) (codes_count p (hdu_of source from).payload) ∙ ap whole_blocks_of (sym size) in
    let bytes : length (hdu_bytes d) ≡ length d.header + length d.payload = length-append d.header d.payload in
    let end : hdu_end (suc k) start d.header ≤ len = omega (arith, payload, bytes, within) in
    record {
      hdu = record { header = accepted.header_is.whole; payload = payload };
      short = accepted.header_is.short;
      number = number;
      begins = begins;
      checks = is_ok (facts_of (suc k) start d.header) (first_refusal (header_checks (suc k) start len d.header)) (checks_none found k start len d.header accepted.header_is begins number end (omega (arith, end, few)));
    }
