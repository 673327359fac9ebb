-- The fill behind the data of an image that comes back is zeros.
use Rattle.std.specs.Prelude.{unsigned_abs, unwrap_or}
use Rattle.std.proofs.Common.{◌≡◌, ℕ, zero, suc, ◌+◌, ◌-◌, ◌*◌, ◌/◌, ◌≤◌, ◌==◌, ◌&&◌, not, nat_le, nat_lt, Bool, true, false, cond, ℤ, pos, negsuc, List, [], ◌∷◌, length, take, drop, replicate, Option, Some, None, is_some, position, if◌then◌else◌, refl, sym, subst, ◌∙◌, ap, arith}
use Rattle.std.proofs.lemmas.Bool.Decides.{nat_tests}
use Rattle.std.proofs.lemmas.List.{drop-drop, drop-take, drop_at}
use Rattle.std.proofs.lemmas.List.FromFn.{length-map-range_with_len}
use Rattle.std.specs.List.{prefix_len}
use Rattle.fz_base.specs.Refusal.{first_refusal}
use Rattle.fz_card.specs.Reading.{integer_of}
use Rattle.fz_block.specs.Cards.{card_at}
use Rattle.fz_block.specs.Facts.{facts_of, nine_axes}
use Rattle.fz_block.specs.Hdus.{Hdu, IsHeader, axes_of, cards_of, data_len_of, gcount_of, hdu_bytes, header_bytes, naxis_of, pcount_of, places, size_at, size_in}
use Rattle.fz_block.specs.Header.{data_start_of, next_start_of, whole_blocks_of}
use Rattle.fz_block.specs.Walk.{hdu_of}
use Rattle.fz_block.specs.declared.header.Header.{Header}
use Rattle.fz_grid.specs.Arrays.{NumberArray, product}
use Rattle.fz_grid.specs.Region.{lengths_of}
use Rattle.fz_tile.specs.Codecs.{CanRead}
use Rattle.fz_tile.specs.Laws.{HasPlainLen}
use Rattle.fz_tile.specs.Plain.{plain_bytes}
use Rattle.fz_checks.specs.JobChecks.{data_end_of, data_fill, fill_in}
use Rattle.fz_head.specs.Packable.{has_integers, is_image as holds_image, is_packable}
use Rattle.fz_head.specs.PlainHeader.{plain_header}
use Rattle.fz_head.specs.Planned.{pack_plan_of}
use Rattle.fz_head.specs.declared.options.PackOptions.{PackOptions}
use Rattle.fz_head.specs.declared.plan.Plan.{Plan}
use Rattle.fz_files.specs.Packed.{pixel_bits, zero_filled}
use Rattle.fz_files.specs.Restored.{HduStandsFor, IsImageOf, StandsForAs, header_in, is_image, plan_in}
use Rattle.fz_strict.proofs.HeadersRead.{IsRead}
use Rattle.fz_strict.proofs.OneHdu.{HeaderLaws, bits_are, restored_header}
use Rattle.fz_strict.proofs.Split.{one_split}
use Rattle.fz_strict.proofs.TilesFound.{axes_again, both_true}

-- what is taken of the laws of cards and pixels
pub record FillLaws : Type 0 where
  pub headers : HeaderLaws
  pub len : HasPlainLen

-- ---- the length of the data of an image that can be packed

abs_is : (v : Option ℤ) → size_in v ≡ unsigned_abs (unwrap_or v (pos 0))
abs_is None = refl
abs_is (Some (pos n)) = refl
abs_is (Some (negsuc n)) = refl

places_are : (ns : List ℕ) → places ns ≡ product ns
places_are [] = refl
places_are (n ∷ ns) = ap (λ m. n * m) (places_are ns)

-- what such an image has
record IsPlainImage (h : Header) : Type 0 where
  pub axes : 1 ≤ h.axes.n
  pub pcount : h.pcount ≡ 0
  pub gcount : h.gcount ≡ 1

plain_image : (h : Header) → is_packable h ≡ true → IsPlainImage h
unfolding is_packable
plain_image h is =
    let from_axes = (both_true (holds_image h.sort) _ is).1 in
    let some = (both_true (nat_le 1 h.axes.n) _ from_axes).0 in
    let from_lengths = (both_true (nat_le 1 h.axes.n) _ from_axes).1 in
    let from_bitpix = (both_true _ (has_integers h.bitpix && (h.pcount == 0 && h.gcount == 1)) from_lengths).1 in
    let counts = both_true (h.pcount == 0) (h.gcount == 1) (both_true (has_integers h.bitpix) (h.pcount == 0 && h.gcount == 1) from_bitpix).1 in
    record { axes = grind (arith, nat_tests, some); pcount = grind (arith, nat_tests, counts.0); gcount = grind (arith, nat_tests, counts.1) }

facts_len : (k start : ℕ) (header : List ℕ) → 1 ≤ (facts_of k start header).axes.n →
    data_len_of k header ≡ unsigned_abs
    (facts_of k start header).bitpix / 8 * (gcount_of k header * (pcount_of k header + product (lengths_of (facts_of k start header).axes)))
facts_len k start header axes =
    let count : length (axes_of header) ≡ naxis_of header = length-map-range_with_len (size_at header) 3 (naxis_of header) in
    let has : 1 ≤ length (axes_of header) = axes in
    let some : (naxis_of header == 0) ≡ false = grind (arith, nat_tests, count, has) in
    let size : size_at header 1 ≡ unsigned_abs (facts_of k start header).bitpix = abs_is (integer_of (card_at header 1)) in
    let all : places (axes_of header) ≡ product (lengths_of (nine_axes (axes_of header))) =
    places_are (axes_of header) ∙ ap product (sym (axes_again (axes_of header))) in
    ap (λ b. if b then 0 else size_at header 1 / 8 * (gcount_of k header * (pcount_of k header + places (axes_of header)))) some
    ∙ (λ i. size i / 8 * (gcount_of k header * (pcount_of k header + all i)))

image_len : (k start : ℕ) (header : List ℕ) → is_packable (facts_of k start header) ≡ true →
    data_len_of k header ≡ unsigned_abs (facts_of k start header).bitpix / 8 * product (lengths_of (facts_of k start header).axes)
image_len k start header packable =
    let image = plain_image (facts_of k start header) packable in
    let pcount : pcount_of k header ≡ 0 = image.pcount in
    let gcount : gcount_of k header ≡ 1 = image.gcount in
    let f : Header = facts_of k start header in
    facts_len k start header image.axes
    ∙ ((λ i. unsigned_abs f.bitpix / 8 * (gcount i * (pcount i + product (lengths_of f.axes)))) ∙ one (unsigned_abs f.bitpix / 8) (product (lengths_of f.axes)))
  where
    one : (b m : ℕ) → b * (1 * (0 + m)) ≡ b * m
    one b m = grind arith

-- ---- the data of an image that a packed one stands for

-- the pixels of its data
pub record HasPixels (file : List ℕ) (h : Header) (d : Hdu) : Type 0 where
  pub array : NumberArray
  pub lengths : array.lengths ≡ lengths_of (plan_in file h).shape
  pub whole : length array.numbers ≡ product array.lengths
  pub payload : d.payload ≡ zero_filled (plain_bytes (pixel_bits (plan_in file h)) array.numbers)

has_pixels : FillLaws → (file : List ℕ) (h : Header) (d : Hdu) → IsRead file h → is_image file h ≡ true → HduStandsFor file h (hdu_bytes d) →
    IsHeader d.header → HasPixels file h d
has_pixels laws file h d is packed stands header =
    let image : IsImageOf file h (hdu_bytes d) = subst (λ b. StandsForAs b file h (hdu_bytes d)) packed stands in
    let cards : List (List ℕ) = cards_of (header_in file h) in
    let restored : IsHeader (header_bytes (plain_header cards)) = restored_header laws.headers (header_in file h) is.header.whole in
    let pixels : List ℕ = zero_filled (plain_bytes (pixel_bits (plan_in file h)) image.array.numbers) in
    record {
      array = image.array;
      lengths = image.rows.lengths;
      whole = image.rows.whole;
      payload = (one_split d.header (header_bytes (plain_header cards)) d.payload pixels header restored image.image).1;
    }

plan_shape : (o : PackOptions) (f : Header) → (pack_plan_of o f).shape ≡ f.axes
unfolding pack_plan_of
plan_shape o f = refl

plan_bitpix : (o : PackOptions) (f : Header) → (pack_plan_of o f).bitpix ≡ f.bitpix
unfolding pack_plan_of
plan_bitpix o f = refl

-- they are as long as the header says, where it asks for the plan of the packed image
pub pixels_len : HasPlainLen → (o : PackOptions) (file : List ℕ) (h : Header) (k start : ℕ) (d : Hdu) → CanRead (plan_in file h).codec (plan_in file h).bitpix →
    is_packable (facts_of k start d.header) ≡ true →
    pack_plan_of o (facts_of k start d.header) ≡ plan_in file h → (has : HasPixels file h d) →
    length (plain_bytes (pixel_bits (plan_in file h)) has.array.numbers) ≡ data_len_of k d.header
pixels_len law o file h k start d can packable plan has =
    let f : Header = facts_of k start d.header in
    let p : Plan = plan_in file h in
    let shape : p.shape ≡ f.axes = ap (λ (q : Plan). q.shape) (sym plan) ∙ plan_shape o f in
    let bitpix : p.bitpix ≡ f.bitpix = ap (λ (q : Plan). q.bitpix) (sym plan) ∙ plan_bitpix o f in
    let count : length has.array.numbers ≡ product (lengths_of f.axes) = has.whole ∙ (ap product has.lengths ∙ ap (λ a. product (lengths_of a)) shape) in
    law (pixel_bits p) has.array.numbers (bits_are p.codec p.bitpix can).size
    ∙ ((λ i. unsigned_abs (bitpix i) / 8 * count i) ∙ sym (image_len k start d.header packable))

-- ---- the fill

fill_is : (source : List ℕ) (f : Header) → fill_in source f ≡ drop f.data_len (hdu_of source f).payload
fill_is source f =
    let n : ℕ = f.data_len in
    let m : ℕ = whole_blocks_of n - n in
    let start : ℕ = data_start_of f in
    let many : next_start_of f - data_end_of f ≡ m = omega arith in
    let whole : n + m ≡ whole_blocks_of n = omega arith in
    ap (λ j. take j (drop (start + n) source)) many
    ∙ (ap (take m) (sym (drop-drop n start source)) ∙ (sym (drop-take n m (drop start source)) ∙ ap (λ j. drop n (take j (drop start source))) whole))

zeros_behind : (xs payload : List ℕ) (n : ℕ) → payload ≡ zero_filled xs → length xs ≡ n → drop n payload ≡ replicate (whole_blocks_of (length xs) - length xs) 0
zeros_behind xs payload n is len = ap (drop n) is ∙ drop_at xs (replicate (whole_blocks_of (length xs) - length xs) 0) n len

lt_more : (m n : ℕ) → nat_lt (1 + m) (suc n) ≡ nat_lt m n
lt_more m n = by_test (nat_lt m n) refl
  where
    by_test : (less : Bool) → nat_lt m n ≡ less → nat_lt (1 + m) (suc n) ≡ less
    by_test true e = grind (arith, nat_tests, e)
    by_test false e = grind (arith, nat_tests, e)

zeros : ℕ → List ℕ
zeros n = replicate n 0

none_among : (n : ℕ) → nat_lt (prefix_len (λ (b : ℕ). not (not (b == 0))) (zeros n)) (length (zeros n)) ≡ false
unfolding zeros
none_among zero = refl
none_among (suc n) = lt_more (prefix_len (λ (b : ℕ). not (not (b == 0))) (zeros n)) (length (zeros n)) ∙ none_among n

no_other : (n : ℕ) → is_some (position (λ (b : ℕ). not (b == 0)) (zeros n)) ≡ false
no_other n = ap (λ b. is_some (cond b (Some (prefix_len (λ (b : ℕ). not (not (b == 0))) (zeros n))) None)) (none_among n)

fill_none : (f : Header) (fill : List ℕ) (n : ℕ) → fill ≡ replicate n 0 → first_refusal (data_fill f fill ∷ []) ≡ None
unfolding zeros
fill_none f fill n is = ap (λ b. first_refusal ((b, (data_fill f fill).1) ∷ [])) (ap (λ l. is_some (position (λ b. not (b == 0)) l)) is ∙ no_other n)

-- no check refuses it
pub image_fill : FillLaws → (o : PackOptions) (file source : List ℕ) (h : Header) (k start : ℕ) (d : Hdu) → IsRead file h → is_image file h ≡ true →
    HduStandsFor file h (hdu_bytes d) → IsHeader d.header →
    is_packable (facts_of k start d.header) ≡ true → pack_plan_of o (facts_of k start d.header) ≡ plan_in file h →
    hdu_of source (facts_of k start d.header) ≡ d →
    first_refusal (data_fill (facts_of k start d.header) (fill_in source (facts_of k start d.header)) ∷ []) ≡ None
image_fill laws o file source h k start d is packed stands header packable plan here =
    let f : Header = facts_of k start d.header in
    let has : HasPixels file h d = has_pixels laws file h d is packed stands header in
    let xs : List ℕ = plain_bytes (pixel_bits (plan_in file h)) has.array.numbers in
    let len : length xs ≡ data_len_of k d.header = pixels_len laws.len o file h k start d (is.image packed).readable packable plan has in
    let fill : fill_in source f ≡ replicate (whole_blocks_of (length xs) - length xs) 0 =
    fill_is source f ∙ (ap (λ (x : Hdu). drop f.data_len x.payload) here ∙ zeros_behind xs d.payload f.data_len has.payload len) in
    fill_none f (fill_in source f) (whole_blocks_of (length xs) - length xs) fill
