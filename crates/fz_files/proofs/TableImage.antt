-- The table of an image that `pack` takes stands for the image.
use Rattle.std.proofs.Common.{◌≡◌, ℕ, zero, suc, ◌+◌, ◌-◌, ◌*◌, ◌/◌, ◌^◌, ◌<◌, ◌≤◌, ◌==◌, ◌&&◌, inl, inr, nat_le, nat_lt, min, Bool, true, false, ℤ, pos, negsuc, List, [], ◌∷◌, ◌++◌, length, take, drop, map, replicate, All, Option, Some, None, unwrap_or, Ok, if◌then◌else◌, unsigned_abs, codes, refl, sym, subst, ◌∙◌, ap, arith}
use Rattle.std.proofs.Math.Nat.{mul-le-mul}
use Rattle.std.proofs.Math.Seq.{take-add, take-append_seam}
use Rattle.std.proofs.lemmas.Bool.Decides.{nat_tests}
use Rattle.std.proofs.lemmas.List.{append_assoc, drop-drop, length-append, length-take, take_all}
use Rattle.std.proofs.lemmas.List.Elements.{All-drop, All-take}
use Rattle.std.proofs.lemmas.List.FromFn.{length-map-range_with_len}
use Rattle.fz_base.specs.Refusal.{first_refusal}
use Rattle.fz_base.specs.declared.fault.Fault.{Fault}
use Rattle.fz_block.specs.Cards.{card_at, is_named}
use Rattle.fz_block.specs.Checks.{unless_refused}
use Rattle.fz_block.specs.Facts.{IsHeaderOf, facts_of, nine_axes}
use Rattle.fz_block.specs.Hdus.{Hdu, HasBlankFill, IsCardBeforeEnd, IsHeader, axes_of, cards_of, data_len_of, gcount_of, hdu_bytes, header_bytes, naxis_of, pcount_of, places, size_at, size_in}
use Rattle.fz_card.specs.Reading.{integer_of, logical_of}
use Rattle.fz_block.specs.Header.{data_start_of, next_start_of, whole_blocks_of}
use Rattle.fz_block.specs.Walk.{hdu_of}
use Rattle.fz_block.specs.declared.header.Header.{Header}
use Rattle.fz_grid.specs.Arrays.{NumberArray, product}
use Rattle.fz_grid.specs.Division.{AreTileLengths}
use Rattle.fz_grid.specs.Grid.{tile, tile_lengths}
use Rattle.fz_grid.specs.Laws.{DividedArraysHaveTiles, TilesAreAtTheirPlaces, TilesHaveAPixel, TilesHaveAllPixels, TilesHaveTheirPixels}
use Rattle.fz_grid.specs.Region.{IsDivided, lengths_of}
use Rattle.fz_sum.specs.Cards.{checksum_card, datasum_card}
use Rattle.fz_sum.specs.Sums.{ones_sum}
use Rattle.fz_table.specs.Rows.{FitsDescriptor}
use Rattle.fz_table.specs.Tables.{table_checks, table_in, table_of}
use Rattle.fz_table.specs.declared.table.Table.{Table}
use Rattle.fz_tile.specs.Codecs.{CanWrite}
use Rattle.fz_tile.specs.Laws.{FillsColumn, GivesBytesAgain, HasPlainLen, SlicesPixels, StoresPixels}
use Rattle.fz_tile.specs.Pixels.{IsBitpix}
use Rattle.fz_tile.specs.Plain.{AreBytes, pixel_of, plain_bytes, stored_pixels}
use Rattle.fz_tile.specs.TileCode.{tile_code}
use Rattle.fz_tile.specs.declared.codec.Codec.{Codec}
use Rattle.fz_bits.specs.Numbers.{IsNumber}
use Rattle.fz_head.specs.Accepted.{IsAccepted}
use Rattle.fz_head.specs.Conditions.{AreShort}
use Rattle.fz_checks.specs.Greatest.{greatest}
use Rattle.fz_checks.specs.JobChecks.{IsImageToPack, fill_in}
use Rattle.fz_head.specs.PackChecks.{limit_checks, name_checks, offset_check, pack_answer, pack_checks}
use Rattle.fz_head.specs.Packable.{has_integers, is_image as is_image_sort, is_primary, is_packable}
use Rattle.std.specs.List.{list_all}
use Rattle.fz_head.specs.PackedChecks.{packed_checks, plan_answer}
use Rattle.fz_head.specs.PackedHeader.{packed_header, packed_with, sum_cards}
use Rattle.fz_head.specs.PackedPlan.{plan_of_cards}
use Rattle.fz_head.specs.PackedTable.{packed_table}
use Rattle.fz_head.specs.PlainHeader.{plain_header, was_primary}
use Rattle.fz_head.specs.Planned.{pack_plan_of, pixel_len}
use Rattle.fz_head.specs.SumCards.{AreDropped, AreSumCards, IsSumCard}
use Rattle.fz_head.specs.ThereAndBack.{IsPacking, MayBePacked}
use Rattle.fz_head.specs.declared.options.PackOptions.{PackOptions}
use Rattle.fz_head.specs.declared.plan.Plan.{Plan}
use Rattle.fz_head.specs.declared.totals.Totals.{Totals}
use Rattle.fz_files.specs.Laws.{IsTableOf, IsTaken, codes_from, table_hdu, totals_from}
use Rattle.fz_files.specs.Packed.{array_of, coded_count, heap_of, packed_data, pixel_bits, stored_count, sum_before, tile_codes, tiles_in, totals_of, with_sums, zero_filled}
use Rattle.fz_files.specs.Restored.{RowStandsFor, StandsForAs, HduStandsFor, image_bytes, image_table, is_image, is_packed_primary, plan_in}
use Rattle.fz_files.proofs.RestoredLemmas.{axes_again}
use Rattle.fz_files.proofs.TableCodes.{IsCodeOf, TileCodesHold, code_is, coded_within, eight_bytes, greatest_within, heap_within, stored_within, tile_is, tile_no_more, zero_is}
use Rattle.fz_files.proofs.TablePlaces.{DescriptorsAreRead}
use Rattle.fz_files.proofs.TableRows.{FitWithin, rows_are, stands_by}

-- ---- the data of an image

abs_is : (v : Option ℤ) → size_in v ≡ unsigned_abs (unwrap_or v (pos 0))
abs_is None = refl
abs_is (Some (pos n)) = refl
abs_is (Some (negsuc n)) = refl

places_are : (ns : List ℕ) → places ns ≡ product ns
places_are [] = refl
places_are (n ∷ ns) = ap (λ m. n * m) (places_are ns)

-- what an image that can be packed has
pub record IsPlainImage (h : Header) : Type 0 where
  pub axes : 1 ≤ h.axes.n
  pub pcount : h.pcount ≡ 0
  pub gcount : h.gcount ≡ 1

first_true : (a b : Bool) → (a && b) ≡ true → a ≡ true
first_true true b e = refl
first_true false b e = absurd cc

second_true : (a b : Bool) → (a && b) ≡ true → b ≡ true
second_true true b e = e
second_true false b e = absurd cc

three_of_six : (a b c d e f : Bool) → (a && (b && (c && (d && (e && f))))) ≡ true → (b ≡ true) × (e ≡ true) × (f ≡ true)
three_of_six a b c d e f is =
    let from_b = second_true a (b && (c && (d && (e && f)))) is in
    let from_c = second_true b (c && (d && (e && f))) from_b in
    let from_d = second_true c (d && (e && f)) from_c in
    let from_e = second_true d (e && f) from_d in
    (first_true b (c && (d && (e && f))) from_b, first_true e f from_e, second_true e f from_e)

plain_image : (h : Header) → is_packable h ≡ true → IsPlainImage h
unfolding is_packable
plain_image h is =
    let three = three_of_six (is_image_sort h.sort) (nat_le 1 h.axes.n) (list_all (nat_le 1) (lengths_of h.axes)) (has_integers h.bitpix) (h.pcount == 0) (h.gcount == 1) is in
    record { axes = grind (arith, nat_tests, three.0); pcount = grind (arith, nat_tests, three.1); gcount = grind (arith, nat_tests, three.2) }

-- the length of the data of an HDU that has an axis
pub facts_len : (k start : ℕ) (header : List ℕ) → 1 ≤ (facts_of k start header).axes.n →
    data_len_of k header ≡ unsigned_abs (facts_of k start header).bitpix / 8 * (gcount_of k header * (pcount_of k header + product (lengths_of (facts_of k start header).axes)))
facts_len k start header axes =
    let count : length (axes_of header) ≡ naxis_of header = length-map-range_with_len (size_at header) 3 (naxis_of header) in
    let has : 1 ≤ length (axes_of header) = axes in
    let some : (naxis_of header == 0) ≡ false = grind (arith, nat_tests, count, has) in
    let size : size_at header 1 ≡ unsigned_abs (facts_of k start header).bitpix = abs_is (integer_of (card_at header 1)) in
    let all : places (axes_of header) ≡ product (lengths_of (nine_axes (axes_of header))) = places_are (axes_of header) ∙ ap product (sym (axes_again (axes_of header))) in
    ap (λ b. if b then 0 else size_at header 1 / 8 * (gcount_of k header * (pcount_of k header + places (axes_of header)))) some
    ∙ (λ i. size i / 8 * (gcount_of k header * (pcount_of k header + all i)))

image_len : (header : List ℕ) (h : Header) → IsHeaderOf header h → is_packable h ≡ true → h.data_len ≡ pixel_len h.bitpix * product (lengths_of h.axes)
image_len header h is packable =
    subst (λ (f : Header). f.data_len ≡ pixel_len f.bitpix * product (lengths_of f.axes)) (sym is.facts)
    (of_facts (plain_image (facts_of h.hdu h.start header) (subst (λ f. is_packable f ≡ true) is.facts packable)))
  where
    one : (b m : ℕ) → b * (1 * (0 + m)) ≡ b * m
    one b m = grind arith

    of_facts : IsPlainImage (facts_of h.hdu h.start header) →
        data_len_of h.hdu header ≡ pixel_len (facts_of h.hdu h.start header).bitpix * product (lengths_of (facts_of h.hdu h.start header).axes)
    of_facts image =
        let pcount : pcount_of h.hdu header ≡ 0 = image.pcount in
        let gcount : gcount_of h.hdu header ≡ 1 = image.gcount in
        facts_len h.hdu h.start header image.axes
        ∙ ((λ i. unsigned_abs (facts_of h.hdu h.start header).bitpix / 8 * (gcount i * (pcount i + product (lengths_of (facts_of h.hdu h.start header).axes))))
        ∙ one (unsigned_abs (facts_of h.hdu h.start header).bitpix / 8) (product (lengths_of (facts_of h.hdu h.start header).axes)))

pub le_blocks : (n : ℕ) → n ≤ whole_blocks_of n
le_blocks n = omega arith

-- the data and the fill of an HDU that stands in its file
pub record DataAndFill (file : List ℕ) (h : Header) : Type 0 where
  pub parts : (hdu_of file h).payload ≡ take h.data_len (drop (data_start_of h) file) ++ fill_in file h
  pub content : length (take h.data_len (drop (data_start_of h) file)) ≡ h.data_len
  pub fill : length (fill_in file h) ≡ whole_blocks_of h.data_len - h.data_len

data_and_fill : (file : List ℕ) (h : Header) → length (hdu_of file h).payload ≡ whole_blocks_of h.data_len → DataAndFill file h
data_and_fill file h whole =
    let L : ℕ = h.data_len in
    let W : ℕ = whole_blocks_of h.data_len in
    let xs : List ℕ = drop (data_start_of h) file in
    let within : L ≤ W = le_blocks L in
    let split : W ≡ L + (W - L) = omega (arith, within) in
    let count : next_start_of h - (data_start_of h + L) ≡ W - L = omega arith in
    let behind : take (W - L) (drop L xs) ≡ fill_in file h = (λ i. take (sym count i) (drop-drop L (data_start_of h) file i)) in
    let parts : take W xs ≡ take L xs ++ fill_in file h = ap (λ n. take n xs) split ∙ (take-add L (W - L) xs ∙ ap (λ l. take L xs ++ l) behind) in
    let long : length (take W xs) ≡ min W (length xs) = length-take W xs in
    let short : length (take L xs) ≡ min L (length xs) = length-take L xs in
    let both : length (take W xs) ≡ length (take L xs) + length (fill_in file h) = ap length parts ∙ length-append (take L xs) (fill_in file h) in
    record { parts = parts; content = omega (arith, within, whole, long, short); fill = omega (arith, within, whole, long, short, both) }

-- the plain bytes of the pixels that the data store, with zeros to whole blocks, are the data with their fill
pub bytes_again : GivesBytesAgain → SlicesPixels → StoresPixels → (bits n : ℕ) (content fill : List ℕ) → IsBitpix (pos bits) → AreBytes content → length content ≡ bits / 8 * n →
    fill ≡ replicate (whole_blocks_of (bits / 8 * n) - bits / 8 * n) 0 → zero_filled (plain_bytes bits (stored_pixels bits n (content ++ fill))) ≡ content ++ fill
bytes_again gives slices stores bits n content fill size bytes len zeros =
    let xs : List ℤ = stored_pixels bits n (content ++ fill) in
    let none : bits / 8 * 0 ≡ 0 = omega arith in
    let all : take n xs ≡ xs = take_all n xs (counted_le (content ++ fill)) in
    let front : take (bits / 8 * n) (content ++ fill) ≡ content = ap (λ k. take k (content ++ fill)) (sym len) ∙ take-append_seam content fill in
    let same : xs ≡ stored_pixels bits n content =
    sym all ∙ (slices_at (content ++ fill) ∙ (ap (λ k. stored_pixels bits n (take (bits / 8 * n) (drop k (content ++ fill)))) none ∙ ap (stored_pixels bits n) front)) in
    let again : plain_bytes bits xs ≡ content = ap (plain_bytes bits) same ∙ gives bits n content size bytes len in
    ap zero_filled again ∙ ap (λ l. content ++ l) (ap (λ k. replicate (whole_blocks_of k - k) 0) len ∙ sym zeros)
  where
    counted_le : (all : List ℕ) → length (stored_pixels bits n all) ≤ n
    counted_le all = omega (arith, length-map-range_with_len (λ i. pixel_of bits (take (bits / 8) (drop (bits / 8 * i) all))) 0 n)

    slices_at : (all : List ℕ) → take n (stored_pixels bits n all) ≡ stored_pixels bits n (take (bits / 8 * n) (drop (bits / 8 * 0) all))
    slices_at all = slices bits 0 n n all (omega arith)

-- ---- the header

first_none : (xs ys : List (Bool × Fault)) → first_refusal (xs ++ ys) ≡ None → first_refusal xs ≡ None
first_none [] ys e = refl
first_none ((true, fault) ∷ xs) ys e = absurd cc
first_none ((false, fault) ∷ xs) ys e = first_none xs ys e

pub answer_is : {A : Type 0} (answer found : A) (refused : Option Fault) → unless_refused answer refused ≡ Ok found → answer ≡ found
answer_is answer found None e = cc
answer_is answer found (Some fault) e = absurd cc

none_refused : {A : Type 0} (answer found : A) (refused : Option Fault) → unless_refused answer refused ≡ Ok found → refused ≡ None
none_refused answer found None e = refl
none_refused answer found (Some fault) e = absurd cc

names_none : (o : PackOptions) (h : Header) (header : List ℕ) (p : Plan) → pack_answer o h header ≡ Ok p → first_refusal (name_checks h header) ≡ None
unfolding pack_answer
names_none o h header p is =
    first_none (name_checks h header) (limit_checks h (pack_plan_of o h) o.sums (cards_of header) ++ offset_check h (pack_plan_of o h).codec (cards_of header) ∷ [])
    (none_refused (pack_plan_of o h) p (first_refusal (pack_checks o h header)) is)

-- the cards of sums of a table
abbrev pub sums_of : Bool → List (List ℕ) → List ℕ → List (List ℕ)
sums_of false cards payload = []
sums_of true cards payload = datasum_card (ones_sum payload) ∷ checksum_card (sum_before cards payload) ∷ []

-- the totals, and whether cards of sums are asked for
abbrev pub totals_with : Bool → Totals → Totals
totals_with sums t = record t { sums = sums }

abbrev pub SumsComeLast : Type 0
SumsComeLast = (cards : List (List ℕ)) (p : Plan) (s : Totals) (sums : List (List ℕ)) → packed_with cards p s sums ≡ packed_with cards p s [] ++ sums

with_sums_are : SumsComeLast → (sums : Bool) (cards : List (List ℕ)) (p : Plan) (t : Totals) (payload : List ℕ) → t.sums ≡ false →
    with_sums sums (packed_header cards p t) payload ≡ packed_with cards p (totals_with sums t) (sums_of sums (packed_header cards p t) payload)
unfolding packed_header
with_sums_are last false cards p t payload none = ap (λ b. packed_with cards p t (sum_cards b)) none
with_sums_are last true cards p t payload none =
    let d : List ℕ = datasum_card (ones_sum payload) in
    let c : List ℕ = checksum_card (sum_before (packed_with cards p t (sum_cards t.sums)) payload) in
    let front : packed_with cards p t (sum_cards t.sums) ≡ packed_with cards p t [] = ap (λ b. packed_with cards p t (sum_cards b)) none in
    append_assoc (packed_with cards p t (sum_cards t.sums)) (d ∷ []) (c ∷ [])
    ∙ (ap (λ l. l ++ d ∷ c ∷ []) front ∙ sym (last cards p (totals_with true t) (d ∷ c ∷ [])))

abbrev pub DatasumIs : Type 0
DatasumIs = (sum : ℕ) → sum < 2 ^ 32 → IsSumCard (datasum_card sum)

abbrev pub ChecksumIs : Type 0
ChecksumIs = (sum : ℕ) → IsSumCard (checksum_card sum)

abbrev pub SumsFit : Type 0
SumsFit = (bytes : List ℕ) → ones_sum bytes < 2 ^ 32

sums_are : DatasumIs → ChecksumIs → SumsFit → (sums : Bool) (cards : List (List ℕ)) (payload : List ℕ) → AreSumCards (sums_of sums cards payload)
sums_are datasum checksum fits false cards payload = tt
sums_are datasum checksum fits true cards payload = (datasum (ones_sum payload) (fits payload), (checksum (sum_before cards payload), tt))

sums_count : (sums : Bool) (cards : List (List ℕ)) (payload : List ℕ) → length (sums_of sums cards payload) ≡ length (sum_cards sums)
sums_count false cards payload = refl
sums_count true cards payload = refl

-- ---- the numbers of the table

-- no number of the heap is too great for a descriptor
fit_within : (most bytes : ℕ) → most ≤ bytes → bytes < 2 ^ 63 → FitWithin (nat_lt 2147483647 bytes) most
fit_within most bytes within few count offset low low' = by_test (nat_lt 2147483647 bytes) refl
  where
    by_test : (wide : Bool) → nat_lt 2147483647 bytes ≡ wide → FitsDescriptor wide (record { count = count; offset = offset })
    by_test true is = (omega (arith, within, few, low), omega (arith, within, few, low'))
    by_test false is = let short : bytes ≤ 2147483647 = grind (arith, nat_tests, is) in (omega (arith, within, short, low), omega (arith, within, short, low'))

-- a codec can write pixels of the plan by their bits
can_write : (codec : Codec) (bitpix : ℤ) → CanWrite codec bitpix → CanWrite codec (pos (unsigned_abs bitpix))
can_write codec bitpix can = by_size can.size
  where
    by_size : IsBitpix bitpix → CanWrite codec (pos (unsigned_abs bitpix))
    by_size (inl e) = subst (λ b. CanWrite codec (pos (unsigned_abs b))) (sym e) (subst (CanWrite codec) e can)
    by_size (inr (inl e)) = subst (λ b. CanWrite codec (pos (unsigned_abs b))) (sym e) (subst (CanWrite codec) e can)
    by_size (inr (inr (inl e))) = subst (λ b. CanWrite codec (pos (unsigned_abs b))) (sym e) (subst (CanWrite codec) e can)
    by_size (inr (inr (inr e))) = subst (λ b. CanWrite codec (pos (unsigned_abs b))) (sym e) (subst (CanWrite codec) e can)

-- ---- the laws that are taken

pub record TableLaws : Type 0 where
  pub read : DescriptorsAreRead
  pub hold : TileCodesHold
  pub fills : FillsColumn
  pub lens : HasPlainLen
  pub gives : GivesBytesAgain
  pub slices : SlicesPixels
  pub stores : StoresPixels
  pub at : TilesAreAtTheirPlaces
  pub pixels : TilesHaveTheirPixels
  pub some : TilesHaveAPixel
  pub all : TilesHaveAllPixels
  pub tiles : DividedArraysHaveTiles
  pub answer : (o : PackOptions) (file : List ℕ) (h : Header) → IsImageToPack o file h → pack_answer o h (hdu_of file h).header ≡ Ok (pack_plan_of o h)
  pub divided : (o : PackOptions) (file : List ℕ) (h : Header) → IsImageToPack o file h → IsDivided (pack_plan_of o h).shape (pack_plan_of o h).tile
  pub writable : (o : PackOptions) (file : List ℕ) (h : Header) → IsImageToPack o file h → CanWrite (pack_plan_of o h).codec (pack_plan_of o h).bitpix
  pub header_fill : (o : PackOptions) (file : List ℕ) (h : Header) → IsImageToPack o file h → HasBlankFill (hdu_of file h).header
  pub data_fill : (o : PackOptions) (file : List ℕ) (h : Header) → IsImageToPack o file h → fill_in file h ≡ replicate (length (fill_in file h)) 0
  pub accepted :
      (header : List ℕ) (h : Header) (p : Plan) (s : Totals) (sums : List (List ℕ)) (k start : ℕ) (bytes : List ℕ) → IsPacking header h p s sums →
      bytes ≡ header_bytes (packed_with (cards_of header) p s sums) → IsAccepted p s bytes (facts_of (suc k) start bytes)
  pub back :
      (header : List ℕ) (h : Header) (p : Plan) (s : Totals) (sums : List (List ℕ)) → MayBePacked header h → p.shape ≡ h.axes → AreDropped sums →
      plain_header (packed_with (cards_of header) p s sums) ≡ cards_of header
  pub dropped : (sums : List (List ℕ)) → AreSumCards sums → AreDropped sums
  pub last : SumsComeLast
  pub datasum : DatasumIs
  pub checksum : ChecksumIs
  pub fits : SumsFit
  pub whole : (header : List ℕ) (h : Header) (p : Plan) (s : Totals) (sums : List (List ℕ)) → IsPacking header h p s sums → All IsCardBeforeEnd (packed_with (cards_of header) p s sums)
  pub bytes : (header : List ℕ) → IsHeader header → HasBlankFill header → header_bytes (cards_of header) ≡ header
  pub cards : (cards : List (List ℕ)) → All IsCardBeforeEnd cards → cards_of (header_bytes cards) ≡ cards

-- ---- the plan of an image

plan_shape : (o : PackOptions) (h : Header) → (pack_plan_of o h).shape ≡ h.axes
unfolding pack_plan_of
plan_shape o h = refl

plan_size : (o : PackOptions) (header : List ℕ) (h : Header) → IsHeaderOf header h → is_packable h ≡ true → h.data_len ≡ pixel_bits (pack_plan_of o h) / 8 * product (lengths_of (pack_plan_of o h).shape)
unfolding pack_plan_of
plan_size o header h is packable = image_len header h is packable

plan_wide : (o : PackOptions) (h : Header) → (pack_plan_of o h).wide ≡ nat_lt 2147483647 (pixel_bits (pack_plan_of o h) / 8 * product (lengths_of (pack_plan_of o h).shape))
unfolding pack_plan_of
plan_wide o h = refl

code_at : TableLaws → (p : Plan) (payload : List ℕ) → AreBytes payload → IsDivided p.shape p.tile → CanWrite p.codec p.bitpix → (t : ℕ) → t < tiles_in p →
    IsCodeOf p (tile (array_of p payload) (lengths_of p.tile) t) (tile_code p.codec (pixel_bits p) (tile (array_of p payload) (lengths_of p.tile) t))
code_at l p payload bytes divided can t less =
    let a : NumberArray = array_of p payload in
    let can_bits : CanWrite p.codec (pos (pixel_bits p)) = can_write p.codec p.bitpix can in
    let are : AreTileLengths (lengths_of p.shape) (lengths_of p.tile) = l.tiles p.shape p.tile divided in
    let count : length (tile a (lengths_of p.tile) t) ≡ product (tile_lengths (lengths_of p.shape) (lengths_of p.tile) t) = l.pixels a (lengths_of p.tile) t in
    let some : 1 ≤ product (tile_lengths (lengths_of p.shape) (lengths_of p.tile) t) = l.some (lengths_of p.shape) (lengths_of p.tile) t are less in
    let most : product (tile_lengths (lengths_of p.shape) (lengths_of p.tile) t) ≤ product (lengths_of p.tile) = tile_no_more (lengths_of p.shape) (lengths_of p.tile) t are in
    let limit : product (lengths_of p.tile) ≤ 2 ^ 26 = divided.tile_pixels in
    code_is l.hold l.fills l.lens p (tile a (lengths_of p.tile) t) can_bits (eight_bytes p.bitpix can.size) (omega (arith, count, some)) (omega (arith, count, most, limit))
    (tile_is l.at (IsNumber (pixel_bits p)) a (lengths_of p.tile) t (l.stores (pixel_bits p) (product (lengths_of p.shape)) payload can_bits.size bytes).1 (zero_is (pixel_bits p) can_bits.size))

heap_most : TableLaws → (p : Plan) (payload : List ℕ) → AreBytes payload → IsDivided p.shape p.tile → CanWrite p.codec p.bitpix →
    length (heap_of (tile_codes p (array_of p payload))) ≤ pixel_bits p / 8 * product (lengths_of p.shape)
heap_most l p payload bytes divided can =
    heap_within l.all l.pixels p (array_of p payload) (l.tiles p.shape p.tile divided) refl (λ t less. (code_at l p payload bytes divided can t less).elements.most)

bytes_few : (p : Plan) → IsDivided p.shape p.tile → CanWrite p.codec p.bitpix → pixel_bits p / 8 * product (lengths_of p.shape) ≤ 8 * 2 ^ 40
bytes_few p divided can = mul-le-mul (eight_bytes p.bitpix can.size) divided.pixels

totals_short : TableLaws → (sums : Bool) (p : Plan) (payload : List ℕ) → AreBytes payload → IsDivided p.shape p.tile → CanWrite p.codec p.bitpix →
    AreShort (totals_with sums (totals_of p (tile_codes p (array_of p payload))))
totals_short l sums p payload bytes divided can =
    let heap : length (heap_of (tile_codes p (array_of p payload))) ≤ pixel_bits p / 8 * product (lengths_of p.shape) = heap_most l p payload bytes divided can in
    let few : pixel_bits p / 8 * product (lengths_of p.shape) ≤ 8 * 2 ^ 40 = bytes_few p divided can in
    let coded : greatest (map (coded_count p) (tile_codes p (array_of p payload))) ≤ length (heap_of (tile_codes p (array_of p payload))) =
    greatest_within (coded_count p) (tile_codes p (array_of p payload)) (coded_within p) in
    let stored : greatest (map (stored_count p) (tile_codes p (array_of p payload))) ≤ length (heap_of (tile_codes p (array_of p payload))) =
    greatest_within (stored_count p) (tile_codes p (array_of p payload)) (stored_within p) in
    let limit : 8 * 2 ^ 40 < 10 ^ 18 = omega arith in
    record { heap = omega (arith, heap, few, limit); coded = omega (arith, heap, few, limit, coded); stored = omega (arith, heap, few, limit, stored) }

-- ---- the table

plan_said : (p : Plan) (k : ℕ) (header : List ℕ) → plan_answer k header true ≡ Ok p → plan_of_cards (cards_of header) ≡ p
unfolding plan_answer
plan_said p k header is = answer_is (plan_of_cards (cards_of header)) p (first_refusal (packed_checks k header true)) is

table_said : (table : Table) (header : List ℕ) (h : Header) → table_of header h ≡ Ok table → table_in header h ≡ table
unfolding table_of
table_said table header h is = answer_is (table_in header h) table (first_refusal (table_checks header h)) is

-- what the table of an image is
pub record IsTableSaid (o : PackOptions) (source : List ℕ) (from : Header) (file : List ℕ) (h : Header) : Type 0 where
  pub packed : is_image file h ≡ true
  pub plan : plan_in file h ≡ pack_plan_of o from
  pub table :
      image_table file h
      ≡ packed_table (pack_plan_of o from) (data_start_of h) (length (heap_of (tile_codes (pack_plan_of o from) (array_of (pack_plan_of o from) (hdu_of source from).payload))))
  pub cards : plain_header (cards_of (hdu_of file h).header) ≡ cards_of (hdu_of source from).header

payload_bytes : (file : List ℕ) (h : Header) → AreBytes file → AreBytes (hdu_of file h).payload
payload_bytes file h bytes = All-take (λ b. b < 256) (whole_blocks_of h.data_len) (drop (data_start_of h) file) (All-drop (λ b. b < 256) (data_start_of h) file bytes)

pub numbered_from_1 : (n : ℕ) → 0 < n → (k : ℕ) × (n ≡ suc k)
numbered_from_1 zero some = absurd omega (arith, some)
numbered_from_1 (suc k) some = (k, refl)

-- the cards of sums of the table
abbrev pub sums_from : PackOptions → List ℕ → Header → List (List ℕ)
sums_from o source from =
    let p = pack_plan_of o from in
    let es = codes_from o source from in
    sums_of o.sums (packed_header (cards_of (hdu_of source from).header) p (totals_of p es)) (packed_data p es)

pub packing_is : TableLaws → (o : PackOptions) (source : List ℕ) (from : Header) → IsTaken o source from → IsPacking (hdu_of source from).header from (pack_plan_of o from) (totals_from o source from) (sums_from o source from)
packing_is l o source from is =
    let p : Plan = pack_plan_of o from in
    let cs : List (List ℕ) = cards_of (hdu_of source from).header in
    let t : Totals = totals_of p (codes_from o source from) in
    let content : List ℕ = packed_data p (codes_from o source from) in
    record {
      is_header = is.image.is_header;
      simple = is.simple;
      plan = record { options = o; allowed = is.image.options; with_sums = refl; packable = is.image.packable; answer = l.answer o source from is.image };
      totals = totals_short l o.sums p (hdu_of source from).payload (payload_bytes source from is.bytes) (l.divided o source from is.image) (l.writable o source from is.image);
      sums_are = sums_are l.datasum l.checksum l.fits o.sums (packed_header cs p t) content;
      count = sums_count o.sums (packed_header cs p t) content;
    }

pub made_is : TableLaws → (o : PackOptions) (source : List ℕ) (from : Header) →
    (table_hdu o source from).header ≡ header_bytes (packed_with (cards_of (hdu_of source from).header) (pack_plan_of o from) (totals_from o source from) (sums_from o source from))
made_is l o source from =
    ap header_bytes
    (with_sums_are l.last o.sums (cards_of (hdu_of source from).header) (pack_plan_of o from) (totals_of (pack_plan_of o from) (codes_from o source from))
    (packed_data (pack_plan_of o from) (codes_from o source from)) refl)

pub accepted_is : TableLaws → (o : PackOptions) (source : List ℕ) (from : Header) (k start : ℕ) → IsTaken o source from →
    IsAccepted (pack_plan_of o from) (totals_from o source from) (table_hdu o source from).header (facts_of (suc k) start (table_hdu o source from).header)
accepted_is l o source from k start is =
    l.accepted (hdu_of source from).header from (pack_plan_of o from) (totals_from o source from) (sums_from o source from) k start (table_hdu o source from).header
    (packing_is l o source from is) (made_is l o source from)

table_is : TableLaws → (o : PackOptions) (source : List ℕ) (from : Header) (file : List ℕ) (h : Header) → IsTableOf o source from file h → IsTableSaid o source from file h
table_is l o source from file h is =
    let p : Plan = pack_plan_of o from in
    let image : List ℕ = (hdu_of source from).header in
    let s : Totals = totals_from o source from in
    let sums : List (List ℕ) = sums_from o source from in
    let header : List ℕ = (hdu_of file h).header in
    let same : header ≡ (table_hdu o source from).header = ap (λ (d : Hdu). d.header) is.table in
    let packing : IsPacking image from p s sums = packing_is l o source from is.taken in
    let number = numbered_from_1 h.hdu is.behind in
    let accepted : IsAccepted p s header h =
    subst (λ f. IsAccepted p s header f) (sym (is.facts ∙ ap (λ n. facts_of n h.start header) number.1))
    (subst (λ bytes. IsAccepted p s bytes (facts_of (suc number.0) h.start bytes)) (sym same) (accepted_is l o source from number.0 h.start is.taken)) in
    let cards : cards_of header ≡ packed_with (cards_of image) p s sums =
    ap cards_of (same ∙ made_is l o source from) ∙ l.cards (packed_with (cards_of image) p s sums) (l.whole image from p s sums packing) in
    let may : MayBePacked image from =
    record {
      is_header = is.taken.image.is_header;
      simple = λ first. first_true (is_named (codes "SIMPLE") (card_at image 0)) (unwrap_or (logical_of (card_at image 0)) false) (is.taken.simple first);
      names = names_none o from image p (l.answer o source from is.taken.image);
    } in
    record {
      packed = accepted.packed;
      plan = plan_said p h.hdu header (accepted.plan true (λ e. refl));
      table = table_said (packed_table p (data_start_of h) s.heap) header h accepted.table;
      cards = ap plain_header cards ∙ l.back image from p s sums may (plan_shape o from) (l.dropped sums packing.sums_are);
    }

-- the image of the table was a primary where the image is one
primary_said : (cards : List (List ℕ)) → (plan_of_cards cards).primary ≡ was_primary cards
unfolding plan_of_cards
primary_said cards = refl

plan_primary : (o : PackOptions) (h : Header) → (pack_plan_of o h).primary ≡ is_primary h.sort
unfolding pack_plan_of
plan_primary o h = refl

pub table_was_primary : TableLaws → (o : PackOptions) (source : List ℕ) (from : Header) (file : List ℕ) (h : Header) → IsTableOf o source from file h → is_packed_primary file h ≡ is_primary from.sort
table_was_primary l o source from file h is =
    let said : IsTableSaid o source from file h = table_is l o source from file h is in
    ap (λ b. b && was_primary (cards_of (hdu_of file h).header)) said.packed
    ∙ (sym (primary_said (cards_of (hdu_of file h).header)) ∙ (ap (λ (p : Plan). p.primary) said.plan ∙ plan_primary o from))

-- ---- the image

image_data : TableLaws → (o : PackOptions) (source : List ℕ) (from : Header) → IsImageToPack o source from → AreBytes source → length (hdu_of source from).payload ≡ whole_blocks_of from.data_len →
    zero_filled (plain_bytes (pixel_bits (pack_plan_of o from)) (array_of (pack_plan_of o from) (hdu_of source from).payload).numbers) ≡ (hdu_of source from).payload
image_data l o source from taken bytes whole =
    let p : Plan = pack_plan_of o from in
    let n : ℕ = product (lengths_of p.shape) in
    let content : List ℕ = take from.data_len (drop (data_start_of from) source) in
    let fill : List ℕ = fill_in source from in
    let both : DataAndFill source from = data_and_fill source from whole in
    let size : from.data_len ≡ pixel_bits p / 8 * n = plan_size o (hdu_of source from).header from taken.is_header taken.packable in
    let zeros : fill ≡ replicate (whole_blocks_of (pixel_bits p / 8 * n) - pixel_bits p / 8 * n) 0 =
    l.data_fill o source from taken ∙ (ap (λ k. replicate k 0) both.fill ∙ ap (λ k. replicate (whole_blocks_of k - k) 0) size) in
    ap (λ bytes. zero_filled (plain_bytes (pixel_bits p) (stored_pixels (pixel_bits p) n bytes))) both.parts
    ∙ (bytes_again l.gives l.slices l.stores (pixel_bits p) n content fill (can_write p.codec p.bitpix (l.writable o source from taken)).size
    (All-take (λ b. b < 256) from.data_len (drop (data_start_of from) source) (All-drop (λ b. b < 256) (data_start_of from) source bytes)) (both.content ∙ size) zeros
    ∙ sym both.parts)

pub table_stands : TableLaws → (o : PackOptions) (source : List ℕ) (from : Header) (file : List ℕ) (h : Header) → IsTableOf o source from file h → HduStandsFor file h (hdu_bytes (hdu_of source from))
table_stands l o source from file h is =
    let p : Plan = pack_plan_of o from in
    let image : List ℕ = (hdu_of source from).header in
    let payload : List ℕ = (hdu_of source from).payload in
    let a : NumberArray = array_of p payload in
    let bytes : AreBytes payload = payload_bytes source from is.taken.bytes in
    let divided : IsDivided p.shape p.tile = l.divided o source from is.taken.image in
    let can : CanWrite p.codec p.bitpix = l.writable o source from is.taken.image in
    let said : IsTableSaid o source from file h = table_is l o source from file h is in
    let most : length (heap_of (tile_codes p a)) ≤ pixel_bits p / 8 * product (lengths_of p.shape) = heap_most l p payload bytes divided can in
    let few : pixel_bits p / 8 * product (lengths_of p.shape) < 2 ^ 63 = let limit : pixel_bits p / 8 * product (lengths_of p.shape) ≤ 8 * 2 ^ 40 = bytes_few p divided can in omega (arith, limit) in
    let fits : FitWithin p.wide (length (heap_of (tile_codes p a))) =
    subst (λ wide. FitWithin wide (length (heap_of (tile_codes p a)))) (sym (plan_wide o from)) (fit_within (length (heap_of (tile_codes p a))) (pixel_bits p / 8 * product (lengths_of p.shape)) most few) in
    let row : (t : ℕ) → t < tiles_in p → RowStandsFor file h t (tile a (lengths_of p.tile) t) =
    λ t less.
    stands_by file h p (packed_table p (data_start_of h) (length (heap_of (tile_codes p a)))) t (tile a (lengths_of p.tile) t) said.plan said.table
    (rows_are l.read file h p a t (ap (λ (d : Hdu). d.payload) is.table) less fits (l.pixels a (lengths_of p.tile) t) (code_at l p payload bytes divided can t less)) in
    let numbers : length a.numbers ≡ product a.lengths = (l.stores (pixel_bits p) (product (lengths_of p.shape)) payload (can_write p.codec p.bitpix can).size bytes).0 in
    let again : image_bytes (plan_in file h) (cards_of (hdu_of file h).header) a ≡ hdu_bytes (hdu_of source from) =
    (λ i. header_bytes (said.cards i) ++ zero_filled (plain_bytes (pixel_bits (said.plan i)) a.numbers))
    ∙ (λ i. l.bytes image is.taken.image.is_header.whole (l.header_fill o source from is.taken.image) i ++ image_data l o source from is.taken.image is.taken.bytes is.taken.whole i) in
    subst (λ b. StandsForAs b file h (hdu_bytes (hdu_of source from))) (sym said.packed)
    (record {
      array = a;
      rows = record {
        lengths = sym (ap (λ (q : Plan). lengths_of q.shape) said.plan);
        whole = numbers;
        tiles = λ t less.
            subst (λ (q : Plan). RowStandsFor file h t (tile a (lengths_of q.tile) t)) (sym said.plan) (row t (subst (λ q. t < tiles_in q) said.plan less));
      };
      image = sym again;
    })
