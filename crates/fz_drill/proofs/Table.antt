-- The table that `pack` makes of the image of `drill`.
use Rattle.std.specs.Prelude.{Ok}
use Rattle.std.proofs.Common.{◌≡◌, ℕ, suc, ◌+◌, ◌*◌, ◌/◌, ◌^◌, ◌<◌, ◌≤◌, All, Bool, true, false, List, [], ◌∷◌, ◌++◌, length, map, codes, if◌then◌else◌, refl, sym, ap, ◌∙◌, subst, arith}
use Rattle.std.proofs.Math.Nat.{div-le_self}
use Rattle.std.proofs.lemmas.List.{length-append}
use Rattle.fz_base.specs.Refusal.{first_refusal}
use Rattle.fz_block.specs.Cards.{card_at}
use Rattle.fz_block.specs.Checks.{is_set, unless_refused}
use Rattle.fz_block.specs.Facts.{IsHeaderOf, facts_of}
use Rattle.fz_block.specs.Hdus.{Hdu, IsCardBeforeEnd, cards_of, hdu_bytes, header_bytes}
use Rattle.fz_block.specs.Header.{whole_blocks_of}
use Rattle.fz_block.specs.Walk.{hdu_of}
use Rattle.fz_block.specs.declared.header.Header.{Header}
use Rattle.fz_tile.specs.Plain.{AreBytes}
use Rattle.fz_tile.specs.TileCode.{TileCode}
use Rattle.fz_head.specs.Accepted.{IsAccepted}
use Rattle.fz_head.specs.Conditions.{AreShort}
use Rattle.fz_checks.specs.Greatest.{greatest}
use Rattle.fz_head.specs.PackChecks.{pack_answer, pack_checks}
use Rattle.fz_head.specs.PackedHeader.{packed_header, packed_with}
use Rattle.fz_head.specs.PackedTable.{coded_unit}
use Rattle.fz_head.specs.Planned.{AreOptions, pack_plan_of, pixel_len}
use Rattle.fz_head.specs.ThereAndBack.{IsPacking}
use Rattle.fz_head.specs.declared.options.CodecWord.{CodecWord}
use Rattle.fz_head.specs.declared.options.CodecWord.TheVariants as word
use Rattle.fz_head.specs.declared.options.PackOptions.{PackOptions}
use Rattle.fz_head.specs.declared.plan.Plan.{Plan}
use Rattle.fz_head.specs.declared.totals.Totals.{Totals}
use Rattle.fz_files.specs.Drill.{drill_file, drill_options}
use Rattle.fz_files.specs.Laws.{IsTaken, codes_from, table_hdu, totals_from}
use Rattle.fz_files.specs.Packed.{coded_count, heap_of, is_coded, packed_image, packed_table, stored_count}
use Rattle.fz_drill.specs.Files.{image_cards}
use Rattle.fz_drill.specs.Taken.{TableLaws}
use Rattle.fz_drill.proofs.Packable.{cards_none, none_refused, packable}
use Rattle.fz_drill.proofs.PlainFile.{data_count, drill_is, hdu_is, plain_data, plain_header_of, reads}
use Rattle.fz_drill.proofs.PlainHeader.{begins, image_facts, is_header}

-- ---- no count is more than the heap

coded_within : (p : Plan) (e : TileCode) → coded_count p e ≤ length e.bytes
coded_within p e = by_place (is_coded e.place)
  where
    by_place : (coded : Bool) → (if coded then length e.bytes / coded_unit p.codec else 0) ≤ length e.bytes
    by_place true = div-le_self (length e.bytes) (coded_unit p.codec)
    by_place false = omega arith

stored_within : (p : Plan) (e : TileCode) → stored_count p e ≤ length e.bytes
stored_within p e = by_place (is_coded e.place)
  where
    by_place : (coded : Bool) → (if coded then 0 else length e.bytes / pixel_len p.bitpix) ≤ length e.bytes
    by_place true = omega arith
    by_place false = div-le_self (length e.bytes) (pixel_len p.bitpix)

greatest_within : (count : TileCode → ℕ) (es : List TileCode) → ((e : TileCode) → count e ≤ length e.bytes) → greatest (map count es) ≤ length (heap_of es)
unfolding heap_of
greatest_within count [] each = omega arith
greatest_within count (e ∷ es) each =
    let rest : greatest (map count es) ≤ length (heap_of es) = greatest_within count es each in
    let here : count e ≤ length e.bytes = each e in
    let both : length (e.bytes ++ heap_of es) ≡ length e.bytes + length (heap_of es) = length-append e.bytes (heap_of es) in
    omega arith

-- ---- the table

table_bytes : (o : PackOptions) (file : List ℕ) (h : Header) → packed_image o.sums (pack_plan_of o h) (hdu_of file h) ≡ hdu_bytes (table_hdu o file h)
unfolding packed_table
table_bytes o file h = refl

table_header_is : (codec : CodecWord) (file : List ℕ) (h : Header) →
    (table_hdu (drill_options codec) file h).header ≡ header_bytes (packed_with (cards_of (hdu_of file h).header) (pack_plan_of (drill_options codec) h) (totals_from (drill_options codec) file h) [])
unfolding packed_header
table_header_is codec file h = refl

-- 25 cards with a Rice code, and 21 else
cards_count : (rows : ℕ) (codec : CodecWord) (s : Totals) → whole_blocks_of (80 * (length (packed_with (image_cards 256 rows) (pack_plan_of (drill_options codec) (image_facts 256 rows)) s []) + 1)) ≡ 2880
unfolding pack_plan_of
cards_count rows word.Rice s = refl
cards_count rows word.Plio s = refl
cards_count rows word.None s = refl

module _ (l : TableLaws) (rows : ℕ) (some : 1 ≤ rows) (few : rows ≤ 16384) (codec : CodecWord) (bytes : AreBytes (drill_file rows)) where
  abbrev pub source : List ℕ
  source = drill_file rows

  abbrev pub from : Header
  from = image_facts 256 rows

  abbrev pub o : PackOptions
  o = drill_options codec

  abbrev pub plan : Plan
  plan = pack_plan_of o from

  abbrev pub es : List TileCode
  es = codes_from o source from

  abbrev pub totals : Totals
  totals = totals_from o source from

  abbrev pub table : Hdu
  table = table_hdu o source from

  pub here : hdu_of source from ≡ record { header = plain_header_of l.files rows few; payload = plain_data l.files rows few }
  here = hdu_is l.files rows few source (drill_is rows)

  pub header_here : (hdu_of source from).header ≡ plain_header_of l.files rows few
  header_here = ap (λ (d : Hdu). d.header) here

  pub cards_here : cards_of (hdu_of source from).header ≡ image_cards 256 rows
  cards_here = ap cards_of header_here ∙ (reads l.files rows few).cards

  is_header_here : IsHeaderOf (hdu_of source from).header from
  is_header_here = subst (λ hd. IsHeaderOf hd from) (sym header_here) (is_header l.files.header 256 rows (omega arith) (omega arith) few (plain_header_of l.files rows few) (reads l.files rows few))

  allowed : AreOptions o
  allowed = record { low = omega arith; high = omega arith; tile = tt }

  simple_here : is_set (codes "SIMPLE") (card_at (hdu_of source from).header 0) ≡ true
  simple_here = ap (λ hd. is_set (codes "SIMPLE") (card_at hd 0)) header_here ∙ begins l.files.header 256 rows (omega arith) (omega arith) few (plain_header_of l.files rows few) (reads l.files rows few)

  pub taken : IsTaken o source from
  taken = record {
    image = record { options = allowed; is_header = is_header_here; packable = packable rows some; passed = none_refused l.files rows some few source (drill_is rows) codec };
    bytes = bytes;
    simple = λ first. simple_here;
    whole = ap (λ (d : Hdu). length d.payload) here ∙ data_count l.files rows few;
  }

  answer : pack_answer o from (hdu_of source from).header ≡ Ok plan
  unfolding pack_answer
  answer = ap (unless_refused plan) (ap (λ hd. first_refusal (pack_checks o from hd)) header_here ∙ cards_none l.files rows some few codec)

  module _ (short : length (heap_of es) < 10 ^ 18) where
    totals_short : AreShort totals
    totals_short = record {
      heap = short;
      coded = less_by (greatest_within (coded_count plan) es (coded_within plan)) short;
      stored = less_by (greatest_within (stored_count plan) es (stored_within plan)) short;
    }
      where
        less_by : {a b c : ℕ} → a ≤ b → b < c → a < c
        less_by x y = omega (arith, x, y)

    packing : IsPacking (hdu_of source from).header from plan totals []
    packing = record {
      is_header = is_header_here;
      simple = λ first. simple_here;
      plan = record { options = o; allowed = allowed; with_sums = refl; packable = packable rows some; answer = answer };
      totals = totals_short;
      sums_are = tt;
      count = refl;
    }

    pub accepted_at : (k start : ℕ) → IsAccepted plan totals table.header (facts_of (suc k) start table.header)
    accepted_at k start = l.accepted (hdu_of source from).header from plan totals [] k start table.header packing (table_header_is codec source from)

    abbrev pub made : List (List ℕ)
    made = packed_with (image_cards 256 rows) plan totals []

    made_is : packed_with (cards_of (hdu_of source from).header) plan totals [] ≡ made
    made_is = ap (λ cs. packed_with cs plan totals []) cards_here

    all_whole : All IsCardBeforeEnd made
    all_whole = subst (All IsCardBeforeEnd) made_is (l.whole (hdu_of source from).header from plan totals [] packing)

    pub table_is : table.header ≡ header_bytes made
    table_is = table_header_is codec source from ∙ ap header_bytes made_is

    pub table_cards : cards_of table.header ≡ made
    table_cards = ap cards_of table_is ∙ l.files.header.listed made all_whole

    pub table_block : length table.header ≡ 2880
    table_block = ap length table_is ∙ ((l.files.header.header made all_whole).2 ∙ cards_count rows codec totals)
