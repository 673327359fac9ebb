-- What a file of bytes stands for are bytes.
use Rattle.std.specs.Prelude.{unwrap_or}
use Rattle.std.proofs.Common.{◌≡◌, inl, inr, ℕ, zero, suc, ◌+◌, ◌-◌, ◌*◌, ◌<◌, ◌≤◌, ◌==◌, ◌&&◌, nat_lt, Bool, true, false, cond, ℤ, List, [], ◌∷◌, ◌++◌, length, map, take, drop, replicate, codes, Option, Some, None, if◌then◌else◌, refl, sym, subst, arith}
use Rattle.std.proofs.lemmas.Nat.{mod_below}
use Rattle.std.proofs.lemmas.Bool.Decides.{nat_tests}
use Rattle.std.proofs.lemmas.Fmt.{decimal_digit}
use Rattle.std.proofs.lemmas.List.Elements.{All-from_recursion, recursion_from_All}
use Rattle.std.specs.Fmt.{digits}
use Rattle.std.specs.Int.{cast_unsigned, to_be_bytes, w16, w32, w64, w8}
use Rattle.std.specs.List.{AllByRecursion, filter, find, flat_map, list_all, range_with_len}
use Rattle.std.specs.Option.{option_to_list}
use Rattle.fz_card.specs.CardLists.{first_of_name, has_name}
use Rattle.fz_card.specs.Laws.{CardLaws}
use Rattle.fz_card.specs.Layout.{card_name, padded}
use Rattle.fz_card.specs.Made.{int_card_bytes, numbered_name, text_card_bytes}
use Rattle.fz_card.specs.Naming.{plain_name}
use Rattle.fz_card.specs.Tables.{IsRenamed, Renames, Renaming, SomeRenames, renamings}
use Rattle.fz_card.specs.Tables.Renaming.{Stems, Words}
use Rattle.fz_block.specs.Cards.{card_at, end_of}
use Rattle.fz_block.specs.Hdus.{cards_of, header_bytes}
use Rattle.fz_block.specs.Header.{whole_blocks_of}
use Rattle.fz_block.specs.Walk.{hdu_of}
use Rattle.fz_block.specs.declared.header.Header.{Header}
use Rattle.fz_tile.specs.Plain.{pixel_bytes, pixel_width, plain_bytes}
use Rattle.fz_head.specs.PackedHeader.{number_card, word_card}
use Rattle.fz_head.specs.PlainHeader.{axis_card, axis_count, count_cards, count_cards_of, is_kept, leading_card, or_card, other_cards, plain_card, plain_header, restored_word, says_what, size_cards, was_primary}
use Rattle.fz_files.specs.Packed.{pixel_bits, zero_filled}
use Rattle.fz_files.specs.Restored.{HduStandsFor, HdusStandFor, StandsForAs, header_in, is_image, plan_in, standing}
use Rattle.fz_files.specs.Walks.{headers_for}
use Rattle.fz_files.specs.declared.job.Job.TheVariants.{Unpack}
use Rattle.fz_laws.specs.RoundTrip.{RestoredAreBytes}

-- ---- lists of bytes

abbrev Bytes : List ℕ → Type 0
Bytes xs = AllByRecursion (λ b. b < 256) xs

append_bytes : (xs ys : List ℕ) → Bytes xs → Bytes ys → Bytes (xs ++ ys)
append_bytes [] ys a b = b
append_bytes (x ∷ xs) ys a b = (a.0, append_bytes xs ys a.1 b)

take_bytes : (n : ℕ) (xs : List ℕ) → Bytes xs → Bytes (take n xs)
take_bytes zero xs a = tt
take_bytes (suc n) [] a = tt
take_bytes (suc n) (x ∷ xs) a = (a.0, take_bytes n xs a.1)

drop_bytes : (n : ℕ) (xs : List ℕ) → Bytes xs → Bytes (drop n xs)
drop_bytes zero xs a = a
drop_bytes (suc n) [] a = tt
drop_bytes (suc n) (x ∷ xs) a = drop_bytes n xs a.1

fill_bytes : (n b : ℕ) → b < 256 → Bytes (replicate n b)
fill_bytes zero b less = tt
fill_bytes (suc n) b less = (less, fill_bytes n b less)

bytes_by : (xs : List ℕ) → list_all (λ b. nat_lt b 256) xs ≡ true → Bytes xs
bytes_by [] few = tt
bytes_by (b ∷ xs) few = by_test (nat_lt b 256) refl few (bytes_by xs)
  where
    by_test : (less : Bool) → nat_lt b 256 ≡ less → (less && list_all (λ b. nat_lt b 256) xs) ≡ true → (list_all (λ b. nat_lt b 256) xs ≡ true → Bytes xs) →
        Bytes (b ∷ xs)
    by_test true e few rest = (grind (arith, nat_tests, e), rest few)
    by_test false e few rest = absurd cc

-- ---- lists of cards

abbrev Cards : List (List ℕ) → Type 0
Cards cards = AllByRecursion Bytes cards

append_cards : (xs ys : List (List ℕ)) → Cards xs → Cards ys → Cards (xs ++ ys)
append_cards [] ys a b = b
append_cards (x ∷ xs) ys a b = (a.0, append_cards xs ys a.1 b)

filter_cards : (p : List ℕ → Bool) (xs : List (List ℕ)) → Cards xs → Cards (filter p xs)
filter_cards p [] a = tt
filter_cards p (x ∷ xs) a = by_test (p x) (filter_cards p xs a.1)
  where
    by_test : (b : Bool) → Cards (filter p xs) → Cards (cond b (x ∷ filter p xs) (filter p xs))
    by_test true rest = (a.0, rest)
    by_test false rest = rest

find_cards : (p : List ℕ → Bool) (xs : List (List ℕ)) → Cards xs → Cards (option_to_list (find p xs))
find_cards p [] a = tt
find_cards p (x ∷ xs) a = by_test (p x) (find_cards p xs a.1)
  where
    by_test : (b : Bool) → Cards (option_to_list (find p xs)) → Cards (option_to_list (if b then Some x else find p xs))
    by_test true rest = (a.0, tt)
    by_test false rest = rest

flat_cards : (f : ℕ → List (List ℕ)) (ns : List ℕ) → ((n : ℕ) → Cards (f n)) → Cards (flat_map f ns)
flat_cards f [] each = tt
flat_cards f (n ∷ ns) each = append_cards (f n) (flat_map f ns) (each n) (flat_cards f ns each)

joined_cards : (cards : List (List ℕ)) → Cards cards → Bytes (flat_map (λ c. c) cards)
joined_cards [] a = tt
joined_cards (c ∷ cs) a = append_bytes c (flat_map (λ c. c) cs) a.0 (joined_cards cs a.1)

header_are : (cards : List (List ℕ)) → Cards cards → Bytes (header_bytes cards)
header_are cards a =
    let text : List ℕ = flat_map (λ c. c) cards ++ codes "END" in
    let front : Bytes text = append_bytes (flat_map (λ c. c) cards) (codes "END") (joined_cards cards a) (bytes_by (codes "END") refl) in
    append_bytes text (replicate (whole_blocks_of (80 * (length cards + 1)) - length text) 32) front
    (fill_bytes (whole_blocks_of (80 * (length cards + 1)) - length text) 32 (omega arith))

cards_are : (header : List ℕ) → Bytes header → Cards (cards_of header)
cards_are header a = each (range_with_len 0 (unwrap_or (end_of header) 0))
  where
    each : (ns : List ℕ) → Cards (map (card_at header) ns)
    each [] = tt
    each (n ∷ ns) = (take_bytes 80 (drop (80 * n) header) (drop_bytes (80 * n) header a), each ns)

-- ---- cards of the image

-- a name of the table of names is one of bytes
name_digit : (i : ℕ) → i ≤ 9 → Bytes (numbered_name (codes "NAXIS") i)
unfolding numbered_name
name_digit i most =
    let less : i < 10 = omega (arith, most) in
    let few : 48 + i < 256 = omega (arith, most) in
    subst (λ l. Bytes (padded (codes "NAXIS" ++ l))) (sym (decimal_digit i less)) (named i few)
  where
    named : (i : ℕ) → 48 + i < 256 → Bytes (padded (codes "NAXIS" ++ ((48 + i) ∷ [])))
    named i few = (omega arith, (omega arith, (omega arith, (omega arith, (omega arith, (few, (omega arith, (omega arith, tt))))))))

LineOfBytes : Renaming → Type 0
LineOfBytes (Words plain packed) = Bytes (padded plain)
LineOfBytes (Stems plain packed last) = (i : ℕ) → i ≤ last → Bytes (numbered_name plain i)

AreOfBytes : List Renaming → Type 0
AreOfBytes [] = Unit {0}
AreOfBytes (line ∷ lines) = LineOfBytes line × AreOfBytes lines

name_by : (line : Renaming) (a b : List ℕ) → LineOfBytes line → Renames line a b → Bytes a
unfolding LineOfBytes
name_by (Words plain packed) a b of is = subst Bytes (sym is.0) of
name_by (Stems plain packed last) a b of is = subst Bytes (sym is.plain_made) (of is.number is.high)

name_in : (lines : List Renaming) (a b : List ℕ) → AreOfBytes lines → SomeRenames lines a b → Bytes a
unfolding AreOfBytes
name_in [] a b of is = absurd is
name_in (line ∷ lines) a b of (inl is) = name_by line a b of.0 is
name_in (line ∷ lines) a b of (inr is) = name_in lines a b of.1 is

plain_name_are : CardLaws → (a b : List ℕ) → plain_name b ≡ Some a → Bytes a
unfolding IsRenamed renamings LineOfBytes AreOfBytes
plain_name_are laws a b e =
    name_in renamings a b (
      bytes_by (padded (codes "SIMPLE")) refl,
      (
        bytes_by (padded (codes "XTENSION")) refl,
        (
          bytes_by (padded (codes "BITPIX")) refl,
          (
            bytes_by (padded (codes "NAXIS")) refl,
            (
              bytes_by (padded (codes "EXTEND")) refl,
              (
                bytes_by (padded (codes "BLOCKED")) refl,
                (
                  bytes_by (padded (codes "PCOUNT")) refl,
                  (
                    bytes_by (padded (codes "GCOUNT")) refl,
                    (bytes_by (padded (codes "CHECKSUM")) refl, (bytes_by (padded (codes "DATASUM")) refl, (name_digit, tt))),
                  ),
                ),
              ),
            ),
          ),
        ),
      ),
    )
    (laws.names.plain_renamed a b e)

plain_card_are : CardLaws → (card : List ℕ) → Bytes card → Bytes (plain_card card)
plain_card_are laws card a =
    append_bytes (unwrap_or (plain_name (card_name card)) (card_name card)) (drop 8 card) (by_name (plain_name (card_name card)) refl) (drop_bytes 8 card a)
  where
    by_name : (o : Option (List ℕ)) → plain_name (card_name card) ≡ o → Bytes (unwrap_or o (card_name card))
    by_name None e = take_bytes 8 card a
    by_name (Some name) e = plain_name_are laws name (card_name card) e

plain_cards_are : CardLaws → (cards : List (List ℕ)) → Cards cards → Cards (map plain_card cards)
plain_cards_are laws [] a = tt
plain_cards_are laws (c ∷ cs) a = (plain_card_are laws c a.0, plain_cards_are laws cs a.1)

or_card_are : (card : List ℕ) (cards : List (List ℕ)) → Bytes card → Cards cards → Cards (or_card card cards)
or_card_are card [] a b = (a, tt)
or_card_are card (c ∷ cs) a b = b

image_card : Bytes (word_card (codes "XTENSION") (codes "IMAGE"))
unfolding text_card_bytes
image_card = bytes_by (word_card (codes "XTENSION") (codes "IMAGE")) refl

pcount_card : Bytes (number_card (codes "PCOUNT") 0)
unfolding int_card_bytes digits
pcount_card = bytes_by (number_card (codes "PCOUNT") 0) refl

gcount_card : Bytes (number_card (codes "GCOUNT") 1)
unfolding int_card_bytes digits
gcount_card = bytes_by (number_card (codes "GCOUNT") 1) refl

module _ (laws : CardLaws) (cards : List (List ℕ)) (all : Cards cards) where
  word_are : (word : List ℕ) → Cards (restored_word word cards)
  word_are word = plain_cards_are laws (option_to_list (first_of_name (padded word) cards)) (find_cards (has_name (padded word)) cards all)

  axis_are : (i : ℕ) → Cards (axis_card cards i)
  axis_are i = plain_cards_are laws (option_to_list (first_of_name (numbered_name (codes "ZNAXIS") i) cards))
      (find_cards (has_name (numbered_name (codes "ZNAXIS") i)) cards all)

  leading_are : Cards (leading_card cards)
  leading_are =
      or_card_are (word_card (codes "XTENSION") (codes "IMAGE")) (map plain_card (option_to_list (find says_what cards))) image_card
      (plain_cards_are laws (option_to_list (find says_what cards)) (find_cards says_what cards all))

  counts_are : (primary : Bool) → Cards (count_cards_of primary cards)
  counts_are true = tt
  counts_are false =
      append_cards (or_card (number_card (codes "PCOUNT") 0) (restored_word (codes "ZPCOUNT") cards))
      (or_card (number_card (codes "GCOUNT") 1) (restored_word (codes "ZGCOUNT") cards))
      (or_card_are (number_card (codes "PCOUNT") 0) (restored_word (codes "ZPCOUNT") cards) pcount_card (word_are (codes "ZPCOUNT")))
      (or_card_are (number_card (codes "GCOUNT") 1) (restored_word (codes "ZGCOUNT") cards) gcount_card (word_are (codes "ZGCOUNT")))

  plain_header_are : Cards (plain_header cards)
  unfolding plain_header
  plain_header_are =
      let axes : List (List ℕ) = flat_map (axis_card cards) (range_with_len 1 (axis_count cards)) in
      append_cards (leading_card cards) (size_cards cards ++ (axes ++ (count_cards cards ++ other_cards cards))) leading_are
      (append_cards (size_cards cards) (axes ++ (count_cards cards ++ other_cards cards))
      (append_cards (restored_word (codes "ZBITPIX") cards) (restored_word (codes "ZNAXIS") cards) (word_are (codes "ZBITPIX")) (word_are (codes "ZNAXIS")))
      (append_cards axes (count_cards cards ++ other_cards cards) (flat_cards (axis_card cards) (range_with_len 1 (axis_count cards)) axis_are)
      (append_cards (count_cards cards) (other_cards cards) (counts_are (was_primary cards))
      (plain_cards_are laws (filter (is_kept (was_primary cards) (axis_count cards)) cards)
      (filter_cards (is_kept (was_primary cards) (axis_count cards)) cards all)))))

-- ---- pixels

width_bytes : (bitpix : ℕ) (v : ℕ) → Bytes (to_be_bytes (pixel_width bitpix) v)
width_bytes bitpix v = by_size (bitpix == 8) (bitpix == 16) (bitpix == 32)
  where
    by_size : (a b c : Bool) → Bytes (to_be_bytes (if a then w8 else (if b then w16 else (if c then w32 else w64))) v)
    by_size true b c = (mod_below _ 256 (omega arith), tt)
    by_size false true c = (mod_below _ 256 (omega arith), (mod_below _ 256 (omega arith), tt))
    by_size false false true = (
      mod_below _ 256 (omega arith),
      (mod_below _ 256 (omega arith), (mod_below _ 256 (omega arith), (mod_below _ 256 (omega arith), tt))),
    )
    by_size false false false = (
      mod_below _ 256 (omega arith),
      (
        mod_below _ 256 (omega arith),
        (
          mod_below _ 256 (omega arith),
          (
            mod_below _ 256 (omega arith),
            (mod_below _ 256 (omega arith), (mod_below _ 256 (omega arith), (mod_below _ 256 (omega arith), (mod_below _ 256 (omega arith), tt)))),
          ),
        ),
      ),
    )

pixels_are : (bitpix : ℕ) (xs : List ℤ) → Bytes (plain_bytes bitpix xs)
pixels_are bitpix [] = tt
pixels_are bitpix (x ∷ xs) =
    append_bytes (pixel_bytes bitpix x) (plain_bytes bitpix xs) (width_bytes bitpix (cast_unsigned (pixel_width bitpix) x)) (pixels_are bitpix xs)

filled_are : (xs : List ℕ) → Bytes xs → Bytes (zero_filled xs)
filled_are xs a = append_bytes xs (replicate (whole_blocks_of (length xs) - length xs) 0) a
    (fill_bytes (whole_blocks_of (length xs) - length xs) 0 (omega arith))

-- ---- HDUs

header_bytes_are : (file : List ℕ) (h : Header) → Bytes file → Bytes (header_in file h)
header_bytes_are file h all = take_bytes (2880 * h.blocks) (drop h.start file) (drop_bytes h.start file all)

hdu_are : CardLaws → (file : List ℕ) (h : Header) (x : List ℕ) → Bytes file → HduStandsFor file h x → Bytes x
hdu_are laws file h x all is = by_packed (is_image file h) is
  where
    by_packed : (packed : Bool) → StandsForAs packed file h x → Bytes x
    by_packed true image =
        let cards : List (List ℕ) = cards_of (header_in file h) in
        let pixels : List ℕ = plain_bytes (pixel_bits (plan_in file h)) image.array.numbers in
        subst Bytes (sym image.image)
        (append_bytes (header_bytes (plain_header cards)) (zero_filled pixels)
        (header_are (plain_header cards) (plain_header_are laws cards (cards_are (header_in file h) (header_bytes_are file h all))))
        (filled_are pixels (pixels_are (pixel_bits (plan_in file h)) image.array.numbers)))
    by_packed false copied =
        subst Bytes (sym copied)
        (append_bytes (header_in file h) (hdu_of file h).payload (header_bytes_are file h all) (take_bytes _ (drop _ file) (drop_bytes _ file all)))

hdus_are : CardLaws → (file : List ℕ) (hs : List Header) (x : List ℕ) → Bytes file → HdusStandFor file hs x → Bytes x
hdus_are laws file [] x all is = subst Bytes (sym is) tt
hdus_are laws file (h ∷ hs) x all (front, back, parts, here, rest) =
    subst Bytes (sym parts) (append_bytes front back (hdu_are laws file h front all here) (hdus_are laws file hs back all rest))

pub restored_are_bytes : CardLaws → RestoredAreBytes
restored_are_bytes laws file restored all is =
    All-from_recursion (λ b. b < 256) restored
    (hdus_are laws file (standing file (headers_for Unpack file)) restored (recursion_from_All (λ b. b < 256) file all) is.parts)
