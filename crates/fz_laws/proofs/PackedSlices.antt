-- A cutout of a packed file is a part of the file that was packed.
use Rattle.std.proofs.Common.{◌≡◌, inl, inr, ℕ, zero, suc, ◌+◌, ◌-◌, ◌*◌, ◌/◌, ◌<◌, ◌≤◌, ◌&&◌, Bool, true, false, pos, List, ◌++◌, length, take, drop, map, replicate, unsigned_abs, codes, bytes_eq, Option, Some, None, Result, Ok, refl, sym, subst, ◌∙◌, ap, arith}
use Rattle.std.proofs.Math.Seq.{take-append_seam}
use Rattle.std.proofs.lemmas.List.{length-append, take-append-le}
use Rattle.std.proofs.lemmas.List.Elements.{All-drop, All-take}
use Rattle.std.proofs.lemmas.List.FromFn.{length-map-range_with_len}
use Rattle.fz_base.specs.declared.fault.Fault.{Fault}
use Rattle.fz_block.specs.Cards.{card_at}
use Rattle.fz_block.specs.Checks.{header_blocks_of, is_set}
use Rattle.fz_block.specs.Hdus.{Hdu, IsHeader, cards_of, hdu_bytes, header_bytes}
use Rattle.fz_block.specs.Header.{data_start_of, whole_blocks_of}
use Rattle.fz_block.specs.Walk.{StandsAt, begins_hdu, hdu_of}
use Rattle.fz_block.specs.declared.header.Header.{Header}
use Rattle.fz_grid.specs.Arrays.{NumberArray, product}
use Rattle.fz_grid.specs.Laws.{BoxesAreInOrder, NumbersHavePlaces}
use Rattle.fz_grid.specs.Region.{lengths_of}
use Rattle.fz_grid.specs.declared.sieve.Sieve.{Sieve}
use Rattle.fz_grid.specs.Cutout.{picked_numbers}
use Rattle.fz_tile.specs.Laws.{GivesBytesAgain, SlicesPixels}
use Rattle.fz_tile.specs.Pixels.{IsBitpix}
use Rattle.fz_tile.specs.Plain.{AreBytes, pixel_of, plain_bytes}
use Rattle.fz_head.specs.Packable.{is_primary}
use Rattle.fz_head.specs.PackedPlan.{numbered_in, plan_of_cards, size_of}
use Rattle.fz_head.specs.PlainHeader.{axis_count, cutout_header, plain_header, was_primary}
use Rattle.fz_head.specs.Planned.{pack_plan_of}
use Rattle.fz_head.specs.declared.options.PackOptions.{PackOptions}
use Rattle.fz_head.specs.declared.plan.Plan.{Plan}
use Rattle.fz_files.specs.CutoutBytes.{IsCutout, cutout_bytes, moved_card, picked_region}
use Rattle.fz_files.specs.Laws.{IsTableOf, PicksCutOneFile, TablesWerePrimary}
use Rattle.fz_files.specs.Packed.{pixel_bits, zero_filled}
use Rattle.fz_files.specs.Picks.{HasNinePlaces, HasPicks}
use Rattle.fz_files.specs.Restored.{IsImageOf, header_in, is_image, plan_in}
use Rattle.fz_files.specs.Walks.{header_fault}
use Rattle.fz_files.specs.declared.job.Job.TheVariants.{Cut}
use Rattle.fz_laws.specs.RoundTrip.{HasCutout}
use Rattle.fz_laws.specs.PackedCuts.{CutoutsAreAlike, CutoutsAreParts, IsPickedPart, PicksAll, PartsAreCutouts, WholeCutoutsHaveAll, asked_hdu, hdus_in, stored_array, picked_cards, picked_part, region_cards}
use Rattle.fz_laws.specs.OutputsTaken.{CutsLaws, OutLaws}
use Rattle.fz_laws.proofs.CutRefusals.{axes_are, lengths_are, plan_is}
use Rattle.fz_laws.proofs.CutWalks.{accepted_of}
use Rattle.fz_laws.proofs.Made.{made_header}
use Rattle.fz_laws.proofs.OutputHdus.{IsIn, begins, bitpix_of, front_of, says, short, whole}
use Rattle.fz_laws.proofs.PackedCuts.{asked_is, cuts_are_sound, found_is, image_of, last_is, picked_below, stopped}
use Rattle.fz_laws.proofs.PlainCards.{bits, bits_are}
use Rattle.fz_laws.proofs.SliceCards.{region_is}
use Rattle.fz_laws.proofs.SlicePixels.{picks_same, split_same, stored_again}
use Rattle.fz_laws.proofs.WholeSieves.{whole_picks}

-- what is taken of the laws of headers, images and cutouts
pub record SliceLaws : Type 0 where
  pub cuts : CutsLaws
  pub outs : OutLaws
  pub blocks : (k start : ℕ) (file header : List ℕ) → StandsAt k start file header → header_blocks_of k start file ≡ Ok (length header / 2880)
  pub picks : PicksCutOneFile
  pub again : GivesBytesAgain
  pub slices : SlicesPixels
  pub primary : TablesWerePrimary
  pub order : BoxesAreInOrder
  pub numbers : NumbersHavePlaces
  pub some : HasCutout

-- ---- two headers at one place

first_card : (x p : List ℕ) → 80 ≤ length x → card_at (x ++ p) 0 ≡ card_at x 0
first_card x p long =
    let none : 80 * 0 ≡ 0 = omega arith in
    ap (λ n. take 80 (drop n (x ++ p))) none ∙ take-append-le 80 x p long ∙ sym (ap (λ n. take 80 (drop n x)) none)

begins_too : (k : ℕ) (x p y q : List ℕ) → 80 ≤ length x → 80 ≤ length y → x ++ p ≡ y ++ q → begins_hdu k y ≡ true → begins_hdu k x ≡ true
begins_too zero x p y q long_x long_y same is = ap (is_set (codes "SIMPLE")) (sym (first_card x p long_x) ∙ ap (λ l. card_at l 0) same ∙ first_card y q long_y) ∙ is
begins_too (suc k) x p y q long_x long_y same is =
    ap (λ l. bytes_eq l (codes "XTENSION")) (sym (take-append-le 8 x p (omega (arith, long_x))) ∙ ap (take 8) same ∙ take-append-le 8 y q (omega (arith, long_y))) ∙ is

same_blocks : (a b : ℕ) (r : Result ℕ Fault) → r ≡ Ok a → r ≡ Ok b → a ≡ b
same_blocks a b r one two = cc

one_header : SliceLaws → (k : ℕ) (x p y q : List ℕ) → k < 65536 → IsHeader x → length x ≤ 737280 → IsHeader y → length y ≤ 737280 → begins_hdu k y ≡ true → x ++ p ≡ y ++ q → (x ≡ y) × (p ≡ q)
one_header laws k x p y q number x_is x_short y_is y_short begins_y same =
    let long_x = x_is.blocks in
    let long_y = y_is.blocks in
    let x_stands : StandsAt k 0 (x ++ p) x =
    record { whole = x_is; short = x_short; place = take-append_seam x p; number = number; begins = begins_too k x p y q (omega (arith, long_x)) (omega (arith, long_y)) same begins_y } in
    let y_stands : StandsAt k 0 (x ++ p) y =
    record { whole = y_is; short = y_short; place = ap (take (length y)) same ∙ take-append_seam y q; number = number; begins = begins_y } in
    let count : length x / 2880 ≡ length y / 2880 = same_blocks (length x / 2880) (length y / 2880) (header_blocks_of k 0 (x ++ p)) (laws.blocks k 0 (x ++ p) x x_stands) (laws.blocks k 0 (x ++ p) y y_stands) in
    let long : length x ≡ length y = omega (arith, count, long_x, long_y) in
    split_same x p y q long same

-- ---- the image and its table

both_true : (a b : Bool) → a ≡ true → (a && b) ≡ b
both_true true b is = refl
both_true false b is = absurd cc

module _ (laws : SliceLaws) (o : PackOptions) (file g : List ℕ) (from h : Header) (table : IsTableOf o file from g h) (j : ℕ) (is : IsIn g j h) (image : IsImageOf g h (hdu_bytes (hdu_of file from))) where
  abbrev d : Hdu
  d = hdu_of file from

  abbrev cards : List (List ℕ)
  cards = cards_of (header_in g h)

  packed : is_image g h ≡ true
  packed = (accepted_of laws.cuts.tables o file from g h table).packed

  primary_is : was_primary cards ≡ is_primary from.sort
  primary_is = sym (both_true (is_image g h) (was_primary cards) packed) ∙ laws.primary o file from g h table

  plain_is_header : IsHeader (header_bytes (plain_header cards))
  plain_is_header = made_header laws.outs.values.made (plain_header cards) (whole laws.outs g j h is packed)

  begins_at : (k : ℕ) × (k < 65536) × (begins_hdu k (header_bytes (plain_header cards)) ≡ true)
  begins_at = by_primary (was_primary cards) refl
    where
      by_primary : (b : Bool) → was_primary cards ≡ b → (k : ℕ) × (k < 65536) × (begins_hdu k (header_bytes (plain_header cards)) ≡ true)
      by_primary true primary = (0, omega arith, (front_of laws.outs g j h is packed 0 (inl (primary, refl))).begins)
      by_primary false other = (1, omega arith, (front_of laws.outs g j h is packed 1 (inr (other, omega arith))).begins)

  abbrev content : List ℕ
  content = zero_filled (plain_bytes (pixel_bits (plan_in g h)) image.array.numbers)

  parts : (d.header ≡ header_bytes (plain_header cards)) × (d.payload ≡ content)
  parts =
      one_header laws begins_at.0 d.header d.payload (header_bytes (plain_header cards)) content begins_at.1 table.taken.image.is_header.whole table.taken.image.is_header.short
      plain_is_header (short laws.outs g j h is packed) begins_at.2 image.image

  -- the cards
  cards_back : cards_of d.header ≡ plain_header cards
  cards_back = ap cards_of parts.0 ∙ laws.outs.values.made.cards (plain_header cards) (whole laws.outs g j h is packed)

  axes_count_is : axis_count cards ≡ from.axes.n
  axes_count_is =
      sym (length-map-range_with_len (λ i. size_of (numbered_in (codes "ZNAXIS") i cards)) 1 (axis_count cards))
      ∙ ap (λ a. a.n) (axes_are laws.cuts.tables o file from g h table)

  pub cards_are : (sieve : Sieve) → cutout_header cards (picked_region sieve) ≡ region_cards (is_primary from.sort) from.axes.n (cards_of d.header) (picked_region sieve)
  cards_are sieve =
      region_is laws.outs.values cards _ (says laws.outs g j h is packed) (picked_region sieve) (begins laws.outs g j h is packed)
      ∙ (λ i. region_cards (primary_is i) (axes_count_is i) (sym cards_back i) (picked_region sieve))

  -- the pixels
  abbrev bits_of : ℕ
  bits_of = unsigned_abs from.bitpix

  bits_same : pixel_bits (plan_in g h) ≡ bits_of
  unfolding pack_plan_of
  bits_same = ap (λ (p : Plan). unsigned_abs p.bitpix) (plan_is laws.cuts.tables o file from g h table)

  shape_same : lengths_of (plan_in g h).shape ≡ lengths_of from.axes
  unfolding pack_plan_of
  shape_same = ap (λ (p : Plan). lengths_of p.shape) (plan_is laws.cuts.tables o file from g h table)

  said_same : pixel_bits (plan_in g h) ≡ (bits laws.outs.values cards _ (says laws.outs g j h is packed)).0
  unfolding plan_of_cards
  said_same = ap unsigned_abs (bits_are laws.outs.values cards _ (says laws.outs g j h is packed))

  is_bitpix : IsBitpix (pos bits_of)
  is_bitpix =
      subst (λ n. IsBitpix (pos n)) (sym said_same ∙ bits_same)
      (bitpix_of (bits laws.outs.values cards _ (says laws.outs g j h is packed)).0 (bits laws.outs.values cards _ (says laws.outs g j h is packed)).1.integers)

  abbrev a : NumberArray
  a = image.array

  abbrev b : NumberArray
  b = stored_array from d.payload

  abbrev count : ℕ
  count = product (lengths_of from.axes)

  a_lengths : a.lengths ≡ lengths_of from.axes
  a_lengths = image.rows.lengths ∙ shape_same

  a_count : length a.numbers ≡ count
  a_count = image.rows.whole ∙ ap product a_lengths

  b_count : length b.numbers ≡ count
  b_count = length-map-range_with_len (λ i. pixel_of bits_of (take (bits_of / 8) (drop (bits_of / 8 * i) d.payload))) 0 count

  a_len : length (plain_bytes bits_of a.numbers) ≡ bits_of / 8 * count
  a_len = laws.outs.len bits_of a.numbers is_bitpix ∙ ap (λ n. bits_of / 8 * n) a_count

  payload_is : d.payload ≡ zero_filled (plain_bytes bits_of a.numbers)
  payload_is = parts.1 ∙ ap (λ n. zero_filled (plain_bytes n a.numbers)) bits_same

  abbrev fill : List ℕ
  fill = replicate (whole_blocks_of (length (plain_bytes bits_of a.numbers)) - length (plain_bytes bits_of a.numbers)) 0

  a_front : take (bits_of / 8 * count) d.payload ≡ plain_bytes bits_of a.numbers
  a_front = (λ i. take (sym a_len i) (payload_is i)) ∙ take-append_seam (plain_bytes bits_of a.numbers) fill

  enough : bits_of / 8 * count ≤ length d.payload
  enough =
      let size : length d.payload ≡ length (plain_bytes bits_of a.numbers) + length fill = ap length payload_is ∙ length-append (plain_bytes bits_of a.numbers) fill in
      omega (arith, size, a_len)

  payload_bytes : AreBytes d.payload
  payload_bytes = All-take (λ byte. byte < 256) (whole_blocks_of from.data_len) (drop (data_start_of from) file) (All-drop (λ byte. byte < 256) (data_start_of from) file table.taken.bytes)

  pub pixels_are : (sieve : Sieve) → plain_bytes (pixel_bits (plan_in g h)) (picked_numbers a sieve) ≡ plain_bytes bits_of (picked_numbers b sieve)
  pixels_are sieve =
      ap (λ n. plain_bytes n (picked_numbers a sieve)) bits_same
      ∙ picks_same laws.outs.len bits_of is_bitpix a b sieve a_lengths (a_count ∙ sym b_count)
      (sym a_front ∙ sym (stored_again laws.outs.len bits_of is_bitpix laws.again laws.slices count d.payload payload_bytes enough))

  -- all data of the image
  all_is : zero_filled (plain_bytes bits_of b.numbers) ≡ d.payload
  all_is = ap zero_filled (stored_again laws.outs.len bits_of is_bitpix laws.again laws.slices count d.payload payload_bytes enough ∙ a_front) ∙ sym payload_is

  lengths_long : length (lengths_of from.axes) ≡ from.axes.n
  lengths_long =
      ap length (sym (lengths_are laws.cuts.tables o file from g h table))
      ∙ length-map-range_with_len (λ i. size_of (numbered_in (codes "ZNAXIS") i cards)) 1 (axis_count cards) ∙ axes_count_is

  pub whole_part : (sieve : Sieve) → HasNinePlaces sieve → HasPicks sieve → PicksAll sieve from → picked_part sieve from d ≡ header_bytes (picked_cards sieve from d) ++ d.payload
  whole_part sieve nine picks whole =
      ap (λ xs. header_bytes (picked_cards sieve from d) ++ zero_filled (plain_bytes bits_of xs)) (whole_picks laws.order laws.numbers sieve nine picks from whole lengths_long b refl b_count)
      ∙ ap (λ l. header_bytes (picked_cards sieve from d) ++ l) all_is

  pub part_is : (sieve : Sieve) → cutout_bytes (plan_in g h) cards sieve (picked_numbers a sieve) ≡ picked_part sieve from d
  part_is sieve = λ i. header_bytes (map (moved_card sieve) (cards_are sieve i)) ++ zero_filled (pixels_are sieve i)

-- ---- the cutout

pub cutouts_are_parts : SliceLaws → CutoutsAreParts
cutouts_are_parts laws o file g wanted sieve part is nine picks cut =
    let none : header_fault (Cut wanted sieve) g ≡ None = sym (found_is laws.cuts o file g is wanted sieve None cut.sound) in
    let stop = stopped laws.cuts o file g is wanted sieve none in
    let image : IsImageOf g stop.h (hdu_bytes (hdu_of file stop.image)) = image_of laws.cuts o file g is wanted sieve stop.image stop.h stop.table in
    let of_image : IsCutout wanted sieve g (cutout_bytes (plan_in g stop.h) (cards_of (header_in g stop.h)) sieve (picked_numbers image.array sieve)) =
    record {
      sound = cut.sound;
      header = stop.h;
      last = last_is laws.cuts o file g is wanted sieve none;
      numbers = picked_numbers image.array sieve;
      cut = record {
        array = image.array;
        rows = record {
          lengths = image.rows.lengths;
          whole = image.rows.whole;
          tiles = λ t here. image.rows.tiles t (picked_below (lengths_of (plan_in g stop.h).shape) (lengths_of (plan_in g stop.h).tile) sieve t here);
        };
        picked = refl;
      };
      made = refl;
    } in
    record {
      image = stop.image;
      asked = sym (asked_is laws.cuts o file g is wanted sieve) ∙ stop.asked;
      packable = stop.packable;
      made = laws.picks wanted sieve g part _ nine picks cut of_image ∙ part_is laws o file g stop.image stop.h stop.table _ stop.is image sieve;
    }

one_image : (x y : Header) (r : Option Header) → r ≡ Some x → r ≡ Some y → x ≡ y
one_image x y r a b = cc

-- two parts are one
one_part : (wanted : Option ℕ) (sieve : Sieve) (file part other : List ℕ) → IsPickedPart wanted sieve file part → IsPickedPart wanted sieve file other → part ≡ other
one_part wanted sieve file part other one two =
    let same : one.image ≡ two.image = one_image one.image two.image (asked_hdu wanted (hdus_in file)) one.asked two.asked in
    one.made ∙ ap (λ h. picked_part sieve h (hdu_of file h)) same ∙ sym two.made

pub cutouts_are_alike : SliceLaws → CutoutsAreAlike
cutouts_are_alike laws o p file g others wanted sieve part other is is_too nine picks cut cut_too =
    one_part wanted sieve file part other (cutouts_are_parts laws o file g wanted sieve part is nine picks cut) (cutouts_are_parts laws p file others wanted sieve other is_too nine picks cut_too)

pub parts_are_cutouts : SliceLaws → PartsAreCutouts
parts_are_cutouts laws o file g wanted sieve part is nine picks none part_is =
    let one = laws.some wanted sieve g ((cuts_are_sound laws.cuts o file g wanted sieve is).1 none) in
    subst (IsCutout wanted sieve g) (one_part wanted sieve file one.0 part (cutouts_are_parts laws o file g wanted sieve one.0 is nine picks one.1) part_is) one.1

pub whole_cutouts : SliceLaws → WholeCutoutsHaveAll
whole_cutouts laws o file g wanted sieve part image is nine picks cut asked whole =
    let none : header_fault (Cut wanted sieve) g ≡ None = sym (found_is laws.cuts o file g is wanted sieve None cut.sound) in
    let stop = stopped laws.cuts o file g is wanted sieve none in
    let same : stop.image ≡ image = one_image stop.image image (asked_hdu wanted (hdus_in file)) (sym (asked_is laws.cuts o file g is wanted sieve) ∙ stop.asked) asked in
    let all = whole_part laws o file g stop.image stop.h stop.table _ stop.is (image_of laws.cuts o file g is wanted sieve stop.image stop.h stop.table) sieve nine picks (subst (PicksAll sieve) (sym same) whole) in
    let one : IsPickedPart wanted sieve file part = cutouts_are_parts laws o file g wanted sieve part is nine picks cut in
    let same_image : one.image ≡ image = one_image one.image image (asked_hdu wanted (hdus_in file)) one.asked asked in
    one.made ∙ ap (λ h. picked_part sieve h (hdu_of file h)) same_image
    ∙ subst (λ h. picked_part sieve h (hdu_of file h) ≡ header_bytes (picked_cards sieve h (hdu_of file h)) ++ (hdu_of file h).payload) same all
