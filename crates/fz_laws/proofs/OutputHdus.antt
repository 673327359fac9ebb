-- What an HDU of a packed file stands for passes the checks of every job in its place, and is no packed image.
use Rattle.std.proofs.Common.{◌≡◌, ◌⊎◌, inl, inr, ℕ, zero, suc, ◌+◌, ◌-◌, ◌*◌, ◌/◌, ◌^◌, ◌<◌, ◌≤◌, ◌&&◌, ◌||◌, Bool, true, false, List, [], ◌∷◌, length, drop, replicate, pos, unsigned_abs, is_some, Some, None, All, if◌then◌else◌, codes, refl, sym, subst, ◌∙◌, ap, arith}
use Rattle.std.proofs.lemmas.List.{length-append, length-replicate, take_at}
use Rattle.std.specs.List.{list_any}
use Rattle.std.specs.Ordering.{int_eq}
use Rattle.std.proofs.lemmas.Bool.Decides.{Decides-int_eq}
use Rattle.fz_base.specs.Refusal.{first_refusal}
use Rattle.fz_block.specs.Checks.{is_set, unless_refused}
use Rattle.fz_block.specs.Facts.{IsHeaderOf, facts_of, sort_named, sort_of}
use Rattle.fz_block.specs.Hdus.{Hdu, IsCardBeforeEnd, cards_of, hdu_bytes, header_bytes}
use Rattle.fz_block.specs.Header.{whole_blocks_of}
use Rattle.fz_block.specs.Walk.{PassesAt, hdu_of}
use Rattle.fz_block.specs.declared.header.Header.{Header}
use Rattle.fz_grid.specs.Arrays.{NumberArray, product}
use Rattle.fz_grid.specs.Region.{lengths_of}
use Rattle.fz_tile.specs.Pixels.{IsBitpix}
use Rattle.fz_tile.specs.Plain.{plain_bytes}
use Rattle.fz_checks.specs.JobChecks.{image_checks, image_in, image_to_unpack, is_after_empty, unpack_checks, unpack_hdu_checks}
use Rattle.fz_head.specs.Packable.{has_integers, is_packed, is_table}
use Rattle.fz_head.specs.PackedPlan.{plan_of_cards, said_axes}
use Rattle.fz_head.specs.PlainHeader.{plain_header, was_primary}
use Rattle.fz_head.specs.Repeats.{counted_name, first_repeat, table_names}
use Rattle.fz_head.specs.TableChecks.{compressed_table, repeated_table_names, table_card_checks}
use Rattle.fz_files.specs.Packed.{pixel_bits, zero_filled}
use Rattle.fz_files.specs.Restored.{HduStandsFor, RowsStandFor, StandsForAs, header_in, is_image, plan_in}
use Rattle.fz_laws.specs.OutputsTaken.{OutLaws}
use Rattle.fz_laws.proofs.Front.{HasFront, both_none, front_passes, one_none}
use Rattle.fz_laws.proofs.Made.{made_ends, made_header}
use Rattle.fz_laws.proofs.PlainCards.{bits, bits_are, front_extension, front_primary}
use Rattle.fz_laws.proofs.Said.{Says, checked_says, first_part, head_false, packed_none}

-- an HDU of a file in which `unpack` finds no fault
pub record IsIn (file : List ℕ) (k : ℕ) (h : Header) : Type 0 where
  pub number : h.hdu ≡ k
  pub is_header : IsHeaderOf (hdu_of file h).header h
  pub start : ℕ
  pub passes : PassesAt k start (length file) (hdu_of file h)
  pub none : first_refusal (unpack_hdu_checks file h) ≡ None

-- no check of `unpack` refuses a header, which is not that of a packed image
pub record IsUnpacked (header : List ℕ) (f : Header) : Type 0 where
  pub plain : is_packed header f ≡ false
  pub none : (after_empty : Bool) → first_refusal (unpack_checks f header after_empty) ≡ None

-- HDU k of a file that comes out
pub record IsOut (k : ℕ) (d : Hdu) : Type 0 where
  pub passes : (start len : ℕ) → start + length (hdu_bytes d) ≤ len → len ≤ 2 ^ 62 → k < 65536 → PassesAt k start len d
  pub unpacked : (start : ℕ) → IsUnpacked d.header (facts_of k start d.header)

-- the two numbers are one, or both those of an extension
abbrev pub AreAlike : ℕ → ℕ → Type 0
AreAlike j k = (j ≡ k) ⊎ ((0 < j) × (0 < k))

-- ---- an HDU that is copied

same_sort : (j k : ℕ) (header : List ℕ) → AreAlike j k → sort_of j header ≡ sort_of k header
same_sort j k header (inl same) = ap (λ n. sort_of n header) same
same_sort zero k header (inr both) = absurd (omega (arith, both.0))
same_sort (suc j) zero header (inr both) = absurd (omega (arith, both.1))
same_sort (suc j) (suc k) header (inr both) = refl

moved_out : OutLaws → (file : List ℕ) (j k start len : ℕ) (h : Header) → IsIn file j h → AreAlike j k → start + length (hdu_bytes (hdu_of file h)) ≤ len → len ≤ 2 ^ 62 → k < 65536 → PassesAt k start len (hdu_of file h)
moved_out laws file j k start len h is alike within few number = by_alike alike
  where
    there : PassesAt j start len (hdu_of file h)
    there = laws.moved j is.start (length file) start len (hdu_of file h) is.passes within (omega (arith, within, few))

    by_alike : AreAlike j k → PassesAt k start len (hdu_of file h)
    by_alike (inl same) = subst (λ n. PassesAt n start len (hdu_of file h)) same there
    by_alike (inr both) = laws.numbered j k start len (hdu_of file h) there both.0 both.1 number

not_packed_same : (header : List ℕ) (h f : Header) → h.sort ≡ f.sort → is_packed header h ≡ false → is_packed header f ≡ false
unfolding is_packed
not_packed_same header h f same plain = sym (ap (λ s. is_table s && list_any (is_set (codes "ZIMAGE")) (cards_of header)) same) ∙ plain

still_none : (header : List ℕ) (h f : Header) (before after : Bool) → h.sort ≡ f.sort → is_packed header f ≡ false → first_refusal (unpack_checks h header before) ≡ None → first_refusal (unpack_checks f header after) ≡ None
still_none header h f before after same plain none =
    both_none (if is_table f.sort then table_card_checks f header else []) (if is_packed header f then image_checks f header after else []) (by_table (is_table f.sort) cards)
    (ap (λ b. first_refusal (if b then image_checks f header after else [])) plain)
  where
    cards : first_refusal (if is_table f.sort then table_card_checks h header else []) ≡ None
    cards =
        sym (ap (λ s. first_refusal (if is_table s then table_card_checks h header else [])) same)
        ∙ first_part (if is_table h.sort then table_card_checks h header else []) (if is_packed header h then image_checks h header before else []) none

    by_table : (b : Bool) → first_refusal (if b then table_card_checks h header else []) ≡ None → first_refusal (if b then table_card_checks f header else []) ≡ None
    by_table true none =
        one_none (compressed_table f header).0 (compressed_table f header).1 (repeated_table_names f header ∷ []) (head_false (compressed_table h header).0 (compressed_table h header).1 (repeated_table_names h header ∷ []) none)
        (one_none (repeated_table_names f header).0 (repeated_table_names f header).1 [] (ap (λ b. b && is_some (first_repeat table_names counted_name (cards_of header))) plain) refl)
    by_table false none = refl

copied_out : OutLaws → (file : List ℕ) (j k : ℕ) (h : Header) → IsIn file j h → is_image file h ≡ false → AreAlike j k → IsOut k (hdu_of file h)
copied_out laws file j k h is plain alike = record {
  passes = λ start len within few number. moved_out laws file j k start len h is alike within few number;
  unpacked = λ start.
      let header : List ℕ = (hdu_of file h).header in
      let f : Header = facts_of k start header in
      let sort : h.sort ≡ sort_of j header = ap (λ (g : Header). g.sort) is.is_header.facts ∙ ap (λ n. sort_of n header) is.number in
      let same : h.sort ≡ f.sort = sort ∙ same_sort j k header alike in
      let other : is_packed header f ≡ false = not_packed_same header h f same plain in
      record { plain = other; none = λ after. still_none header h f (is_after_empty file h) after same other is.none };
}

-- ---- an image that is restored

pub filled_len : (bytes : List ℕ) → length (zero_filled bytes) ≡ whole_blocks_of (length bytes)
filled_len bytes =
    let n : ℕ = length bytes in
    let fill : length (zero_filled bytes) ≡ n + length (replicate (whole_blocks_of n - n) 0) = length-append bytes (replicate (whole_blocks_of n - n) 0) in
    let zeros : length (replicate (whole_blocks_of n - n) 0) ≡ whole_blocks_of n - n = length-replicate {A = ℕ} (whole_blocks_of n - n) 0 in
    omega (arith, fill, zeros)

no_table : (k start : ℕ) (header : List ℕ) (bits : ℕ) (lens : List ℕ) → HasFront k header bits lens → is_table (facts_of k start header).sort ≡ false
no_table zero start header bits lens front = refl
no_table (suc k) start header bits lens front = ap (λ o. is_table (sort_named o)) (front.extension (omega arith)).1

pub image_unpacked : (k start : ℕ) (header : List ℕ) (bits : ℕ) (lens : List ℕ) → HasFront k header bits lens → IsUnpacked header (facts_of k start header)
unfolding is_packed
image_unpacked k start header bits lens front =
    let f : Header = facts_of k start header in
    let no : is_table f.sort ≡ false = no_table k start header bits lens front in
    let plain : is_packed header f ≡ false = ap (λ b. b && list_any (is_set (codes "ZIMAGE")) (cards_of header)) no in
    record {
      plain = plain;
      none = λ after.
          both_none (if is_table f.sort then table_card_checks f header else []) (if is_packed header f then image_checks f header after else [])
          (ap (λ b. first_refusal (if b then table_card_checks f header else [])) no) (ap (λ b. first_refusal (if b then image_checks f header after else [])) plain);
    }

pub bitpix_of : (bits : ℕ) → has_integers (pos bits) ≡ true → IsBitpix (pos bits)
bitpix_of bits is = by_tests (int_eq (pos bits) (pos 8)) (int_eq (pos bits) (pos 16)) (int_eq (pos bits) (pos 32)) (int_eq (pos bits) (pos 64)) refl refl refl refl is
  where
    by_tests : (a b c d : Bool) → int_eq (pos bits) (pos 8) ≡ a → int_eq (pos bits) (pos 16) ≡ b → int_eq (pos bits) (pos 32) ≡ c → int_eq (pos bits) (pos 64) ≡ d → (a || (b || (c || d))) ≡ true → IsBitpix (pos bits)
    by_tests true b c d e8 e16 e32 e64 some = inl ((Decides-int_eq (pos bits) (pos 8)).0 e8)
    by_tests false true c d e8 e16 e32 e64 some = inr (inl ((Decides-int_eq (pos bits) (pos 16)).0 e16))
    by_tests false false true d e8 e16 e32 e64 some = inr (inr (inl ((Decides-int_eq (pos bits) (pos 32)).0 e32)))
    by_tests false false false true e8 e16 e32 e64 some = inr (inr (inr ((Decides-int_eq (pos bits) (pos 64)).0 e64)))
    by_tests false false false false e8 e16 e32 e64 some = absurd cc

module _ (laws : OutLaws) (file : List ℕ) (j : ℕ) (h : Header) (is : IsIn file j h) (packed : is_image file h ≡ true) where
  abbrev head : List ℕ
  head = header_in file h

  abbrev cards : List (List ℕ)
  cards = cards_of head

  abbrev after_empty : Bool
  after_empty = is_after_empty file h

  pub says : Says cards after_empty
  says = checked_says h.hdu head after_empty (packed_none h head after_empty packed is.none)

  pub whole : All IsCardBeforeEnd (plain_header cards)
  whole = laws.plain cards (laws.read head is.is_header.whole)

  abbrev bytes_of : List ℕ
  bytes_of = header_bytes (plain_header cards)

  abbrev the_bits : ℕ
  the_bits = (bits laws.values cards after_empty says).0

  pub begins : was_primary cards ≡ true → bytes_of ≡ 83 ∷ drop 1 bytes_of
  unfolding image_to_unpack plan_of_cards
  begins primary =
      laws.begins h head after_empty (image_in h head)
      ((λ i. unless_refused (if packed i then Some (image_in h head) else None) (is.none i))) primary

  pub front_of : (k : ℕ) → ((was_primary cards ≡ true) × (k ≡ 0)) ⊎ ((was_primary cards ≡ false) × (0 < k)) → HasFront k bytes_of the_bits (said_axes cards)
  front_of k (inl primary) = subst (λ n. HasFront n bytes_of the_bits (said_axes cards)) (sym primary.1) (front_primary laws.values cards after_empty says whole primary.0 (begins primary.0))
  front_of zero (inr other) = absurd (omega (arith, other.1))
  front_of (suc k) (inr other) = front_extension laws.values cards after_empty says whole k other.0

  pub short : length bytes_of ≤ 737280
  short =
      let image = laws.images h head after_empty is.is_header packed is.none in
      let fits = laws.fits head h (image_in h head).plan is.is_header image.planned in
      let size : length bytes_of ≡ whole_blocks_of (80 * (length (plain_header cards) + 1)) = (laws.values.made.header (plain_header cards) whole).2 in
      omega (arith, fits, size, is.is_header.short)

  module _ (a : NumberArray) (rows : RowsStandFor file h a) where
    abbrev out : Hdu
    out = record { header = bytes_of; payload = zero_filled (plain_bytes (pixel_bits (plan_in file h)) a.numbers) }

    axes_same : lengths_of (plan_in file h).shape ≡ said_axes cards
    unfolding plan_of_cards
    axes_same = take_at (said_axes cards) (replicate (9 - length (said_axes cards)) 0) (length (said_axes cards)) refl

    bits_same : pixel_bits (plan_in file h) ≡ the_bits
    unfolding plan_of_cards
    bits_same = ap unsigned_abs (bits_are laws.values cards after_empty says)

    data_len : length out.payload ≡ whole_blocks_of (the_bits / 8 * product (said_axes cards))
    data_len =
        filled_len (plain_bytes (pixel_bits (plan_in file h)) a.numbers)
        ∙ ap (λ n. whole_blocks_of (length (plain_bytes n a.numbers))) bits_same
        ∙ ap whole_blocks_of (laws.len the_bits a.numbers (bitpix_of the_bits (bits laws.values cards after_empty says).1.integers)
        ∙ ap (λ n. the_bits / 8 * n) (rows.whole ∙ ap product (rows.lengths ∙ axes_same)))

    pub image_out : (k : ℕ) → ((was_primary cards ≡ true) × (k ≡ 0)) ⊎ ((was_primary cards ≡ false) × (0 < k)) → IsOut k out
    image_out k place = record {
      passes = λ start len within few number.
          front_passes k start len out the_bits (said_axes cards) (front_of k place) (made_header laws.values.made (plain_header cards) whole) (made_ends laws.values.made (plain_header cards) whole)
          short data_len number within few;
      unpacked = λ start. image_unpacked k start bytes_of the_bits (said_axes cards) (front_of k place);
    }

-- ---- one of the two

-- the place of an image: HDU 0 of a primary, and a later one of an extension
abbrev pub IsPlaced : List ℕ → Header → ℕ → Type 0
IsPlaced file h k = is_image file h ≡ true → ((was_primary (cards_of (header_in file h)) ≡ true) × (k ≡ 0)) ⊎ ((was_primary (cards_of (header_in file h)) ≡ false) × (0 < k))

pub one_out : OutLaws → (file : List ℕ) (j k : ℕ) (h : Header) (front : List ℕ) → IsIn file j h → HduStandsFor file h front → (is_image file h ≡ false → AreAlike j k) → IsPlaced file h k → (d : Hdu) × (hdu_bytes d ≡ front) × IsOut k d
one_out laws file j k h front is stands alike placed = by_image (is_image file h) refl stands
  where
    by_image : (b : Bool) → is_image file h ≡ b → StandsForAs b file h front → (d : Hdu) × (hdu_bytes d ≡ front) × IsOut k d
    by_image true packed image = (out laws file j h is packed image.array image.rows, sym image.image, image_out laws file j h is packed image.array image.rows k (placed packed))
    by_image false plain same = (hdu_of file h, sym same, copied_out laws file j k h is plain (alike plain))
