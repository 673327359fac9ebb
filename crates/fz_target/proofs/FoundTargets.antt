-- The target that is found: its box, its table, and what is put in (FITS 4.0, sections 3.3.2, 4.4.1, 7.3.5 and 10.1).
use Rattle.std.proofs.Common.{◌≡◌, inl, inr, ℕ, zero, suc, ◌+◌, ◌-◌, ◌*◌, ◌/◌, ◌<◌, ◌≤◌, ◌==◌, ◌&&◌, nat_le, Bool, true, false, ℤ, pos, negsuc, List, [], ◌∷◌, ◌++◌, length, take, drop, replicate, slice_index, unsigned_abs, All, Option, Some, None, Ok, unwrap_or, if◌then◌else◌, refl, sym, ap, ◌∙◌, subst, arith, eqb-true}
use Rattle.std.specs.List.{list_all}
use Rattle.std.specs.Ordering.{int_eq}
use Rattle.std.proofs.lemmas.Bool.Decides.{Decides-int_eq, nat_tests}
use Rattle.std.proofs.lemmas.List.{get_or_append_left, length-replicate, take-take}
use Rattle.std.proofs.lemmas.List.Elements.{All-drop}
use Rattle.std.proofs.lemmas.List.FromFn.{length-map-range_with_len}
use Rattle.std.proofs.Math.Seq.{take-append_seam}
use Rattle.fz_card.specs.Reading.{integer_of}
use Rattle.fz_block.specs.Cards.{card_at}
use Rattle.fz_block.specs.Facts.{IsHeaderOf, facts_of, nine_axes}
use Rattle.fz_block.specs.Hdus.{axes_of, naxis_of, places, size_at, size_in}
use Rattle.fz_block.specs.Header.{data_start_of, whole_blocks_of}
use Rattle.fz_block.specs.Walk.{hdu_of}
use Rattle.fz_block.specs.declared.axes.Axes.{Axes}
use Rattle.fz_block.specs.declared.header.Header.{Header}
use Rattle.fz_grid.specs.Arrays.{product}
use Rattle.fz_grid.specs.Region.{IsWithin, lengths_of}
use Rattle.fz_grid.specs.Sieve.{IsSieveOf, pick_counts, sieve_lengths}
use Rattle.fz_grid.specs.declared.region.Region.{Region}
use Rattle.fz_grid.specs.declared.sieve.Sieve.{Sieve}
use Rattle.fz_grid.specs.Cutout.{Sifts}
use Rattle.fz_tile.specs.Codecs.{CanRead, CanWrite}
use Rattle.fz_tile.specs.Laws.{SlicesPixels, StoresPixels}
use Rattle.fz_tile.specs.Pixels.{IsBitpix}
use Rattle.fz_tile.specs.Plain.{AreBytes, stored_pixels}
use Rattle.fz_tile.specs.declared.codec.Codec.{Codec}
use Rattle.fz_tile.specs.declared.codec.Codec.TheVariants.{Rice, Plio, Plain}
use Rattle.fz_bits.specs.Numbers.{IsNumber}
use Rattle.fz_files.specs.Packed.{pixel_bits}
use Rattle.fz_head.specs.PackedPlan.{plan_of_cards, said_axes}
use Rattle.fz_head.specs.declared.plan.Plan.{Plan}
use Rattle.fz_laws.specs.PatchChecks.{may_be_given}
use Rattle.fz_laws.specs.PatchForm.{has_pixel_codes}
use Rattle.fz_laws.specs.Given.{array_if, array_in, box_region, box_sieve, given_header, last_along, nine_numbers}
use Rattle.fz_laws.specs.PatchLaws.{IsGivenFor}
use Rattle.fz_target.specs.Targets.{IsGivenImage, IsGivenTo, given_at, placed, region_sieve}
use Rattle.fz_target.specs.declared.target.Target.{Target}
use Rattle.fz_target.proofs.Pieces.{stored_front, stored_len}

-- ---- tables of nine numbers

front_is : (n : ℕ) (front rest : List ℕ) → length front ≡ n → take n (front ++ rest) ≡ front
front_is n front rest long = ap (λ k. take k (front ++ rest)) (sym long) ∙ take-append_seam front rest

nine_at : (numbers : List ℕ) (i : ℕ) → i < length numbers → slice_index (nine_numbers numbers) i ≡ slice_index numbers i
nine_at numbers i less = get_or_append_left numbers (replicate (9 - length numbers) 0) 0 i less

last_len : (os ns : List ℕ) → length ns ≡ length os → length (last_along os ns) ≡ length os
last_len [] ns same = refl
last_len (o ∷ os) [] same = absurd (omega (arith, same))
last_len (o ∷ os) (n ∷ ns) same = ap suc (last_len os ns (omega (arith, same)))

last_at : (os ns : List ℕ) (i : ℕ) → length ns ≡ length os → i < length os → slice_index (last_along os ns) i ≡ slice_index os i + slice_index ns i - 1
last_at [] ns i same less = absurd (omega (arith, less))
last_at (o ∷ os) [] i same less = absurd (omega (arith, same))
last_at (o ∷ os) (n ∷ ns) zero same less = refl
last_at (o ∷ os) (n ∷ ns) (suc i) same less = last_at os ns i (omega (arith, same)) (omega (arith, less))

one_at : (n i : ℕ) → i < n → slice_index (replicate n 1) i ≡ 1
one_at zero i less = absurd (omega (arith, less))
one_at (suc n) zero less = refl
one_at (suc n) (suc i) less = one_at n i (omega (arith, less))

-- ---- the box

module _ (corner : List ℕ) (axes : Axes) (same : length (lengths_of axes) ≡ length corner) where
  -- the sieve of its region
  pub box_is : region_sieve (box_region (placed corner axes)) ≡ box_sieve (placed corner axes)
  box_is =
      let n : ℕ = length corner in
      let lens : List ℕ = lengths_of axes in
      let first : take n (nine_numbers corner) ≡ corner = front_is n corner (replicate (9 - n) 0) refl in
      let second : take n (nine_numbers lens) ≡ lens = front_is n lens (replicate (9 - length lens) 0) same in
      λ j. record { n = n; lo = nine_numbers corner; hi = nine_numbers (last_along (first j) (second j)); step = nine_numbers (replicate n 1) }

  -- it is within an image, if it ends within each axis
  pub box_within : (shape : Axes) → length corner ≡ shape.n → ((i : ℕ) → i < length (lengths_of axes) → 1 ≤ slice_index (lengths_of axes) i) →
      ((i : ℕ) → i < shape.n → slice_index (nine_numbers corner) i + slice_index (nine_numbers (lengths_of axes)) i ≤ slice_index shape.len i) → IsWithin shape (box_region (placed corner axes))
  box_within shape count some ends = record {
    same_axes = count;
    positive = λ i less.
        let low : i < length (lengths_of axes) = omega (arith, less, count, same) in
        let one : 1 ≤ slice_index (lengths_of axes) i = some i low in
        let here : slice_index (nine_numbers (lengths_of axes)) i ≡ slice_index (lengths_of axes) i = nine_at (lengths_of axes) i low in
        omega (arith, one, here);
    inside = ends;
  }

  pub is_sieve : (shape : Axes) → IsWithin shape (box_region (placed corner axes)) → IsSieveOf shape (box_sieve (placed corner axes))
  is_sieve shape within = record {
    same_axes = within.same_axes;
    ordered = λ i less. (at_axis i less).0;
    inside = λ i less. (at_axis i less).1;
    positive = λ i less. omega (arith, step_at i less);
  }
    where
      below : (i : ℕ) → i < shape.n → i < length corner
      below i less = omega (arith, less, within.same_axes)

      step_at : (i : ℕ) → i < shape.n → slice_index (nine_numbers (replicate (length corner) 1)) i ≡ 1
      step_at i less =
          let long : length {A = ℕ} (replicate (length corner) 1) ≡ length corner = length-replicate (length corner) 1 in
          nine_at (replicate (length corner) 1) i (omega (arith, long, below i less)) ∙ one_at (length corner) i (below i less)

      at_axis : (i : ℕ) → i < shape.n → (slice_index (nine_numbers corner) i ≤ slice_index (nine_numbers (last_along corner (lengths_of axes))) i)
          × (slice_index (nine_numbers (last_along corner (lengths_of axes))) i < slice_index shape.len i)
      at_axis i less =
          let lens : List ℕ = lengths_of axes in
          let low : i < length corner = below i less in
          let long : length (last_along corner lens) ≡ length corner = last_len corner lens same in
          let last : slice_index (nine_numbers (last_along corner lens)) i ≡ slice_index corner i + slice_index lens i - 1 = nine_at (last_along corner lens) i (omega (arith, long, low)) ∙ last_at corner lens i same low in
          let first : slice_index (nine_numbers corner) i ≡ slice_index corner i = nine_at corner i low in
          let size : slice_index (nine_numbers lens) i ≡ slice_index lens i = nine_at lens i (omega (arith, same, low)) in
          let some : 1 ≤ slice_index (nine_numbers lens) i = within.positive i less in
          let end : slice_index (nine_numbers corner) i + slice_index (nine_numbers lens) i ≤ slice_index shape.len i = within.inside i less in
          (omega (arith, last, first, size, some), omega (arith, last, first, size, some, end))

  pub first_step : 1 ≤ length corner → slice_index (box_sieve (placed corner axes)).step 0 ≡ 1
  first_step some =
      let long : length {A = ℕ} (replicate (length corner) 1) ≡ length corner = length-replicate (length corner) 1 in
      nine_at (replicate (length corner) 1) 0 (omega (arith, long, some)) ∙ one_at (length corner) 0 (omega (arith, some))

  -- the lengths of what the sieve picks
  pub lengths_are : ((i : ℕ) → i < length (lengths_of axes) → 1 ≤ slice_index (lengths_of axes) i) → sieve_lengths (box_sieve (placed corner axes)) ≡ lengths_of axes
  lengths_are some =
      let n : ℕ = length corner in
      let lens : List ℕ = lengths_of axes in
      let first : take n (nine_numbers corner) ≡ corner = front_is n corner (replicate (9 - n) 0) refl in
      let last : take n (nine_numbers (last_along corner lens)) ≡ last_along corner lens = front_is n (last_along corner lens) (replicate (9 - length (last_along corner lens)) 0) (last_len corner lens same) in
      let ones : take n (nine_numbers (replicate n 1)) ≡ replicate n 1 = ones_front n in
      (λ j. pick_counts (first j) (last j) (ones j)) ∙ counts_are corner lens same some
    where
      ones_front : (n : ℕ) → take n (nine_numbers (replicate n 1)) ≡ replicate n 1
      ones_front n =
          let ones : List ℕ = replicate n 1 in
          front_is n ones (replicate (9 - length ones) 0) (length-replicate n 1)

      counts_are : (os ns : List ℕ) → length ns ≡ length os → ((i : ℕ) → i < length ns → 1 ≤ slice_index ns i) → pick_counts os (last_along os ns) (replicate (length os) 1) ≡ ns
      counts_are [] [] long each = refl
      counts_are [] (n ∷ ns) long each = absurd (omega (arith, long))
      counts_are (o ∷ os) [] long each = absurd (omega (arith, long))
      counts_are (o ∷ os) (n ∷ ns) long each =
          let one : 1 ≤ n = each 0 (omega arith) in
          let here : (o + n - 1 - o) / 1 + 1 ≡ n = omega (arith, one) in
          let rest = counts_are os ns (omega (arith, long)) (λ i less. each (suc i) (omega (arith, less))) in
          λ j. here j ∷ rest j

-- ---- what may be given

and_left : (a b : Bool) → (a && b) ≡ true → a ≡ true
and_left true b e = refl
and_left false b e = absurd cc

and_right : (a b : Bool) → (a && b) ≡ true → b ≡ true
and_right true b e = e
and_right false b e = absurd cc

-- An image that may be given has pixels of the same bits, as many axes, and a pixel along each.
pub record MayBeGiven (p : Plan) (q : Header) : Type 0 where
  pub bits : q.bitpix ≡ p.bitpix
  pub axes : q.axes.n ≡ p.shape.n
  pub some : (i : ℕ) → i < length (lengths_of q.axes) → 1 ≤ slice_index (lengths_of q.axes) i

each_one : (ns : List ℕ) → list_all (nat_le 1) ns ≡ true → (i : ℕ) → i < length ns → 1 ≤ slice_index ns i
each_one [] all i less = absurd (omega (arith, less))
each_one (n ∷ ns) all zero less = one_or_more n (and_left (nat_le 1 n) (list_all (nat_le 1) ns) all)
  where
    one_or_more : (k : ℕ) → nat_le 1 k ≡ true → 1 ≤ k
    one_or_more k e = grind (arith, nat_tests)
each_one (n ∷ ns) all (suc i) less = each_one ns (and_right (nat_le 1 n) (list_all (nat_le 1) ns) all) i (omega (arith, less))

pub given_parts : (p : Plan) (q : Header) → may_be_given p (Ok q) ≡ true → MayBeGiven p q
given_parts p q e =
    let same : Bool = int_eq q.bitpix p.bitpix in
    let axes : Bool = q.axes.n == p.shape.n in
    let all : Bool = list_all (nat_le 1) (lengths_of q.axes) in
    let rest : (axes && all) ≡ true = and_right same (axes && all) e in
    record {
      bits = (Decides-int_eq q.bitpix p.bitpix).0 (and_left same (axes && all) e);
      axes = eqb-true q.axes.n p.shape.n (and_left axes all rest);
      some = each_one (lengths_of q.axes) (and_right axes all rest);
    }

-- ---- the length of the data of the first HDU of PATCH

abs_is : (v : Option ℤ) → size_in v ≡ unsigned_abs (unwrap_or v (pos 0))
abs_is None = refl
abs_is (Some (pos n)) = refl
abs_is (Some (negsuc n)) = refl

places_are : (ns : List ℕ) → places ns ≡ product ns
places_are [] = refl
places_are (n ∷ ns) = ap (λ m. n * m) (places_are ns)

axes_again : (lengths : List ℕ) → lengths_of (nine_axes lengths) ≡ lengths
axes_again lengths = take-append_seam lengths (replicate (9 - length lengths) 0)

-- its axes, and its data by them
pub record IsFirstData (q : Header) : Type 0 where
  pub axes : length (lengths_of q.axes) ≡ q.axes.n
  pub data_is : 1 ≤ q.axes.n → q.data_len ≡ unsigned_abs q.bitpix / 8 * product (lengths_of q.axes)

pub first_data : (header : List ℕ) (q : Header) → IsHeaderOf header q → q.hdu ≡ 0 → IsFirstData q
first_data header q is first = subst IsFirstData (sym (is.facts ∙ ap (λ k. facts_of k q.start header) first)) of_facts
  where
    one : (b m : ℕ) → b * (1 * (0 + m)) ≡ b * m
    one b m = grind arith

    of_facts : IsFirstData (facts_of 0 q.start header)
    of_facts = record {
      axes = ap length (axes_again (axes_of header));
      data_is = λ some.
          let count : length (axes_of header) ≡ naxis_of header = length-map-range_with_len (size_at header) 3 (naxis_of header) in
          let has : 1 ≤ length (axes_of header) = some in
          let test : (naxis_of header == 0) ≡ false = grind (arith, nat_tests, count, has) in
          let size : size_at header 1 ≡ unsigned_abs (facts_of 0 q.start header).bitpix = abs_is (integer_of (card_at header 1)) in
          let all : places (axes_of header) ≡ product (lengths_of (nine_axes (axes_of header))) = places_are (axes_of header) ∙ ap product (sym (axes_again (axes_of header))) in
          ap (λ b. if b then 0 else size_at header 1 / 8 * (1 * (0 + places (axes_of header)))) test
          ∙ ((λ i. size i / 8 * (1 * (0 + all i)))
          ∙ one (unsigned_abs (facts_of 0 q.start header).bitpix / 8) (product (lengths_of (facts_of 0 q.start header).axes)));
    }

-- an image that fits may be given
pub given_image : (p : Plan) (header : List ℕ) (q : Header) → IsHeaderOf header q → q.hdu ≡ 0 → 1 ≤ p.shape.n → may_be_given p (Ok q) ≡ true → IsGivenImage p q
given_image p header q is first some may =
    let parts = given_parts p q may in
    let whole = first_data header q is first in
    record {
      may = may;
      axes = whole.axes;
      data_is = whole.data_is (omega (arith, parts.axes, some)) ∙ ap (λ (z : ℤ). unsigned_abs z / 8 * product (lengths_of q.axes)) parts.bits;
    }

-- ---- what is given

-- where its pixels are in PATCH
pub whole_more : (n : ℕ) → n ≤ whole_blocks_of n
whole_more n = omega arith

-- The header of PATCH, whose image may be given.
pub record IsGivenHeader (p : Plan) (corner : List ℕ) (q : Header) (patch : List ℕ) : Type 0 where
  pub found : given_header patch ≡ Ok q
  pub may : MayBeGiven p q
  pub axes : length (lengths_of q.axes) ≡ length corner
  pub data_is : q.data_len ≡ pixel_bits p / 8 * product (lengths_of q.axes)

module _ (slices : SlicesPixels) (stores : StoresPixels) (p : Plan) (corner : List ℕ) (q : Header) (patch : List ℕ) (bytes : AreBytes patch) (size : IsBitpix (pos (pixel_bits p))) (is : IsGivenHeader p corner q patch) where
  abbrev payload : List ℕ
  payload = (hdu_of patch q).payload

  abbrev count : ℕ
  count = product (lengths_of q.axes)

  array_is : array_if patch (given_header patch) ≡ array_in patch q
  array_is = ap (array_if patch) is.found

  bits_are : unsigned_abs q.bitpix ≡ pixel_bits p
  bits_are = ap unsigned_abs is.may.bits

  -- they are stored from the start of the data on
  numbers_are : (array_in patch q).numbers ≡ stored_pixels (pixel_bits p) count (drop (data_start_of q) patch)
  numbers_are =
      let b : ℕ = pixel_bits p in
      let n : ℕ = b / 8 * count in
      let room : n ≤ whole_blocks_of q.data_len = subst (λ k. k ≤ whole_blocks_of q.data_len) is.data_is (whole_more q.data_len) in
      let front : take n payload ≡ take n (drop (data_start_of q) patch) = take-take n (whole_blocks_of q.data_len) (drop (data_start_of q) patch) room in
      ap (λ k. stored_pixels k count payload) bits_are
      ∙ (sym (stored_front slices b count payload)
      ∙ (ap (stored_pixels b count) front
      ∙ stored_front slices b count (drop (data_start_of q) patch)))

  pub given_to : (t : Target) → t.image.plan ≡ p → t.sieve ≡ box_sieve (placed corner q.axes) → Sifts (lengths_of p.shape) t.sieve → t.pixels_at ≡ data_start_of q → IsGivenTo corner patch t
  given_to t plan sieve sifts at =
      let same : t.sieve ≡ box_sieve (given_at corner patch) = sieve ∙ ap (λ a. box_sieve (record { corner = corner; array = a })) (sym array_is) in
      let lens : sieve_lengths t.sieve ≡ lengths_of q.axes = ap sieve_lengths sieve ∙ lengths_are corner q.axes is.axes is.may.some in
      let numbers : (given_at corner patch).array.numbers ≡ stored_pixels (pixel_bits p) count (drop (data_start_of q) patch) = ap (λ a. a.numbers) array_is ∙ numbers_are in
      record {
        sieve = same;
        fits = subst (λ k. IsGivenFor k (given_at corner patch)) (sym plan) (fits (subst (Sifts (lengths_of p.shape)) same sifts));
        numbers = numbers ∙ (λ j. stored_pixels (pixel_bits (sym plan j)) (product (sym lens j)) (drop (sym at j) patch));
      }
    where
      of_array : length (array_in patch q).numbers ≡ count
      of_array = stored_len (unsigned_abs q.bitpix) count payload

      all_numbers : All (IsNumber (pixel_bits p)) (array_in patch q).numbers
      all_numbers =
          subst (λ l. All (IsNumber (pixel_bits p)) l) (sym numbers_are) (stores (pixel_bits p) count (drop (data_start_of q) patch) size (All-drop (λ byte. byte < 256) (data_start_of q) patch bytes)).1

      fits : Sifts (lengths_of p.shape) (box_sieve (given_at corner patch)) → IsGivenFor p (given_at corner patch)
      fits sifted = record {
        whole = subst (λ a. length a.numbers ≡ product a.lengths) (sym array_is) of_array;
        axes = ap (λ a. length a.lengths) array_is ∙ is.axes;
        positive = subst (λ a. (i : ℕ) → i < length a.lengths → 1 ≤ slice_index a.lengths i) (sym array_is) is.may.some;
        sifts = sifted;
        numbers = subst (λ a. All (IsNumber (pixel_bits p)) a.numbers) (sym array_is) all_numbers;
      }

-- ---- the box of what is given

module _ (corner : List ℕ) (p : Plan) (q : Header) (region : Region) (given : IsGivenImage p q) (count : length corner ≡ p.shape.n) (is : region ≡ box_region (placed corner q.axes))
    (inside : (k : ℕ) → k < p.shape.n → slice_index region.lo k + slice_index region.len k ≤ slice_index p.shape.len k) where
  many : length (lengths_of q.axes) ≡ length corner
  many = given.axes ∙ ((given_parts p q given.may).axes ∙ sym count)

  -- it is within the image, if it ends within each axis
  pub within_given : IsWithin p.shape (box_region (placed corner q.axes))
  within_given =
      box_within corner q.axes many p.shape count (given_parts p q given.may).some
      (subst (λ (r : Region). (k : ℕ) → k < p.shape.n → slice_index r.lo k + slice_index r.len k ≤ slice_index p.shape.len k) is inside)

  -- and so is its sieve
  pub sieve_given : (sieve : Sieve) → sieve ≡ region_sieve region → (sieve ≡ box_sieve (placed corner q.axes)) × IsSieveOf p.shape sieve
  sieve_given sieve made =
      let same : sieve ≡ box_sieve (placed corner q.axes) = made ∙ (ap region_sieve is ∙ box_is corner q.axes many) in
      (same, subst (IsSieveOf p.shape) (sym same) (is_sieve corner q.axes many p.shape within_given))

-- ---- the codec

pub can_write : (codec : Codec) (bitpix : ℤ) → CanRead codec bitpix → has_pixel_codes codec bitpix ≡ true → CanWrite codec bitpix
can_write (Rice block bytepix) bitpix can e = record { size = can.size; plain = can.plain; codes = (can.codes.0, eqb-true bytepix (unsigned_abs bitpix / 8) e) }
can_write Plio bitpix can e = record { size = can.size; plain = can.plain; codes = tt }
can_write Plain bitpix can e = record { size = can.size; plain = can.plain; codes = tt }

pub bits_of : (bitpix : ℤ) → IsBitpix bitpix → IsBitpix (pos (unsigned_abs bitpix))
bits_of bitpix (inl e) = inl (ap (λ z. pos (unsigned_abs z)) e)
bits_of bitpix (inr (inl e)) = inr (inl (ap (λ z. pos (unsigned_abs z)) e))
bits_of bitpix (inr (inr (inl e))) = inr (inr (inl (ap (λ z. pos (unsigned_abs z)) e)))
bits_of bitpix (inr (inr (inr e))) = inr (inr (inr (ap (λ z. pos (unsigned_abs z)) e)))

-- the shape of the image is that of the cards
pub shape_is : (cards : List (List ℕ)) → (plan_of_cards cards).shape ≡ nine_axes (said_axes cards)
unfolding plan_of_cards
shape_is cards = refl
