-- An image that comes back is packed as the table of the same plan.
use Rattle.std.specs.Prelude.{All, slice_index_or}
use Rattle.std.proofs.Common.{◌≡◌, ℕ, zero, suc, ◌+◌, ◌-◌, ◌*◌, ◌/◌, ◌^◌, ◌<◌, ◌≤◌, ◌==◌, Bool, true, false, true≢false, ℤ, pos, List, [], ◌∷◌, ◌++◌, length, map, take, drop, replicate, slice_index, bytes_eq, codes, not, Option, Some, None, Result, Ok, Err, IsOk, ◌↔◌, if◌then◌else◌, refl, sym, subst, ◌∙◌, ap, arith, length-append}
use Rattle.std.proofs.lemmas.Bool.Decides.{nat_tests}
use Rattle.std.proofs.lemmas.List.{length-replicate, take-take, take_all, take_at}
use Rattle.std.proofs.lemmas.List.Elements.{All-from_get_or, All-from_recursion, All-get_or}
use Rattle.std.proofs.lemmas.List.FromFn.{length-map-range_with_len}
use Rattle.std.specs.List.{AllByRecursion}
use Rattle.fz_base.specs.Refusal.{first_refusal}
use Rattle.fz_base.specs.declared.fault.Fault.{Fault}
use Rattle.fz_bits.specs.Numbers.{IsNumber}
use Rattle.fz_block.specs.Cards.{card_at, is_named}
use Rattle.fz_block.specs.Checks.{end_checks, group_checks, hdu_end, header_checks, header_of, is_set, unless_refused}
use Rattle.fz_block.specs.Facts.{IsHeaderOf, facts_of}
use Rattle.fz_block.specs.Hdus.{Hdu, IsCardBeforeEnd, cards_of, data_len_of, hdu_bytes, header_bytes}
use Rattle.fz_block.specs.Header.{whole_blocks_of}
use Rattle.fz_block.specs.Mandatory.{mandatory_checks}
use Rattle.fz_block.specs.Walk.{PassesAt, begins_hdu, hdu_of}
use Rattle.fz_block.specs.declared.header.Header.{Header}
use Rattle.fz_grid.specs.Arrays.{NumberArray, product}
use Rattle.fz_grid.specs.Division.{AreTileLengths, tile_places}
use Rattle.fz_grid.specs.Grid.{tile_count}
use Rattle.fz_grid.specs.Laws.{DividedArraysHaveTiles, NumbersAreInOneTile, TilesAreAtTheirPlaces}
use Rattle.fz_grid.specs.Region.{lengths_of}
use Rattle.fz_tile.specs.Laws.{GivesPixelsAgain, HasPlainLen, SlicesPixels}
use Rattle.fz_tile.specs.Pixels.{IsBitpix}
use Rattle.fz_tile.specs.Plain.{pixel_of, plain_bytes, stored_pixels}
use Rattle.fz_checks.specs.JobChecks.{IsImageOf, already_packed, image_in, pack_header_checks, plan_to_pack}
use Rattle.fz_head.specs.PackChecks.{pack_checks}
use Rattle.fz_head.specs.Packable.{is_packable}
use Rattle.fz_head.specs.PlainHeader.{plain_header}
use Rattle.fz_head.specs.Planned.{pack_plan_of}
use Rattle.fz_head.specs.declared.options.PackOptions.{PackOptions}
use Rattle.fz_head.specs.declared.plan.Plan.{Plan}
use Rattle.fz_files.specs.Packed.{array_of, before_table, packed_hdu, packed_image, packed_table, pixel_bits, tile_codes, zero_filled}
use Rattle.fz_files.specs.Restored.{HduStandsFor, RowsStandFor, StandsForAs, header_in, is_image, plan_in}
use Rattle.fz_files.specs.Walks.{headers_for}
use Rattle.fz_files.specs.declared.job.Job.TheVariants.{Unpack}
use Rattle.fz_strict.specs.Laws.{HdusAreDecided}
use Rattle.fz_strict.specs.SameHdus.{ComesBackAs, IsDecided, IsPlainAs, IsSame, IsSameCopy, IsSameImage, StandsForOne, plain_image, plan_again, table_again}
use Rattle.fz_strict.proofs.Each.{front_none}
use Rattle.fz_strict.proofs.Ends.{behind_none, first_false, passes_ends}
use Rattle.fz_strict.proofs.Fill.{FillLaws, HasPixels, pixels_len}
use Rattle.fz_strict.proofs.HeadersRead.{IsRead, answer_none, are_read}
use Rattle.fz_strict.proofs.OneHdu.{ImageLaws, bits_are, one_of, restored_header}
use Rattle.fz_strict.specs.Taken.{WalkLaws}
use Rattle.fz_strict.proofs.TilesFound.{both_true}
use Rattle.fz_strict.proofs.Whole.{is_planned, plan_ok}

-- what is taken of the laws of tiles and pixels
pub record PixelLaws : Type 0 where
  pub tiles : DividedArraysHaveTiles
  pub len : HasPlainLen
  pub numbers : NumbersAreInOneTile
  pub places : TilesAreAtTheirPlaces
  pub pixels : GivesPixelsAgain
  pub slices : SlicesPixels

-- and of other laws
pub record PackLaws : Type 0 where
  pub walks : WalkLaws
  pub images : ImageLaws
  pub fill : FillLaws
  pub pixels : PixelLaws
  pub cards : (cards : List (List ℕ)) → All IsCardBeforeEnd cards → cards_of (header_bytes cards) ≡ cards
  pub moved : (k start len start' len' : ℕ) (h : Hdu) → PassesAt k start len h → start' + length (hdu_bytes h) ≤ len' →
      start' + length (hdu_bytes h) ≤ 2 ^ 62 → PassesAt k start' len' h
  pub numbered : (j k start len : ℕ) (h : Hdu) → PassesAt j start len h → 0 < j → 0 < k → k < 65536 → PassesAt k start len h

-- ---- the numbers of an array whose tiles were read

at_map : (f : ℕ → ℤ) (ps : List ℕ) (k : ℕ) → k < length ps → slice_index_or (map f ps) k (pos 0) ≡ f (slice_index ps k)
at_map f [] k less = absurd omega (arith, less)
at_map f (p ∷ ps) zero less = refl
at_map f (p ∷ ps) (suc k) less = at_map f ps k (omega (arith, less))

module _ (laws : PixelLaws) (file : List ℕ) (h : Header) (image : IsImageOf (header_in file h) h (image_in h (header_in file h))) (a : NumberArray) (rows : RowsStandFor file h a) where
  abbrev p : Plan
  p = plan_in file h

  divides : AreTileLengths a.lengths (lengths_of p.tile)
  divides = subst (λ l. AreTileLengths l (lengths_of p.tile)) (sym rows.lengths) (laws.tiles p.shape p.tile image.divided)

  is_number : (i : ℕ) → i < length a.numbers → IsNumber (pixel_bits p) (slice_index_or a.numbers i (pos 0))
  is_number i less =
      let within : i < product a.lengths = subst (λ n. i < n) rows.whole less in
      let once = laws.numbers a.lengths (lengths_of p.tile) i divides within in
      let t : ℕ = once.tile_number in
      let k : ℕ = once.pixel_number in
      let places : List ℕ = tile_places a.lengths (lengths_of p.tile) t in
      let f : ℕ → ℤ = λ place. slice_index_or a.numbers place (pos 0) in
      let inside : t < tile_count (lengths_of p.shape) (lengths_of p.tile) =
      subst (λ l. t < tile_count l (lengths_of p.tile)) rows.lengths once.found.tile_in in
      let row = rows.tiles t inside in
      let all : All (IsNumber (pixel_bits p)) (map f places) = subst (All (IsNumber (pixel_bits p))) (laws.places a (lengths_of p.tile) t) row.means.pixels in
      let many : k < length (map f places) = subst (λ n. k < n) (sym (map_len f places)) once.found.pixel_in in
      subst (IsNumber (pixel_bits p)) (at_map f places k once.found.pixel_in
      ∙ ap f once.found.here) (All-get_or (IsNumber (pixel_bits p)) (map f places) k (pos 0) many all)
    where
      map_len : (f : ℕ → ℤ) (ps : List ℕ) → length (map f ps) ≡ length ps
      map_len f [] = refl
      map_len f (q ∷ ps) = let rest = map_len f ps in omega (arith, rest)

  bitpix : IsBitpix (pos (pixel_bits p))
  bitpix = (bits_are p.codec p.bitpix image.readable).size

  -- the data of the image store them
  stored_is : stored_pixels (pixel_bits p) (product (lengths_of p.shape)) (zero_filled (plain_bytes (pixel_bits p) a.numbers)) ≡ a.numbers
  stored_is =
      let b : ℕ = pixel_bits p in
      let xs : List ℕ = plain_bytes b a.numbers in
      let n : ℕ = length a.numbers in
      let fill : List ℕ = replicate (whole_blocks_of (length xs) - length xs) 0 in
      let count : n ≡ product (lengths_of p.shape) = rows.whole ∙ ap product rows.lengths in
      let len : length xs ≡ b / 8 * n = laws.len b a.numbers bitpix in
      let many : length (stored_pixels b n (xs ++ fill)) ≡ n = length-map-range_with_len (λ i. pixel_of b (take (b / 8) (drop (b / 8 * i) (xs ++ fill)))) 0 n in
      let front : take (b / 8 * n) (drop (b / 8 * 0) (xs ++ fill)) ≡ xs =
      ap (λ m. take (b / 8 * n) (drop m (xs ++ fill))) (none (b / 8)) ∙ take_at xs fill (b / 8 * n) len in
      ap (λ m. stored_pixels b m (xs ++ fill)) (sym count)
      ∙ (sym (take_all n (stored_pixels b n (xs ++ fill)) (omega (arith, many)))
      ∙ (laws.slices b 0 n n (xs ++ fill) (omega arith)
      ∙ (ap (stored_pixels b n) front ∙ laws.pixels b a.numbers bitpix (All-from_get_or (IsNumber b) a.numbers (pos 0) is_number))))
    where
      none : (m : ℕ) → m * 0 ≡ 0
      none m = grind arith

  pub array_is : array_of p (plain_image file h a).payload ≡ a
  array_is = λ i. record { lengths = sym rows.lengths i; numbers = stored_is i }

cards_are : PackLaws → (file : List ℕ) (h : Header) (a : NumberArray) → IsRead file h → cards_of (plain_image file h a).header ≡ plain_header (cards_of (header_in file h))
cards_are laws file h a read =
    let cards : List (List ℕ) = cards_of (header_in file h) in
    laws.cards (plain_header cards) (laws.images.headers.plain cards (laws.images.headers.read (header_in file h) read.header.whole))

-- ---- an HDU that passes the checks of every job

passes_header : (k start len : ℕ) (d : Hdu) → PassesAt k start len d → IsHeaderOf d.header (facts_of k start d.header)
unfolding header_of
passes_header k start len d is =
    let none : first_refusal (header_checks k start len d.header) ≡ None =
    answer_none (facts_of k start d.header) (first_refusal (header_checks k start len d.header)) is.checks in
    let rest = group_checks k d.header ++ end_checks k len (hdu_end k start d.header) in
    record {
      whole = is.hdu.header;
      short = is.short;
      mandatory = front_none (mandatory_checks k d.header) rest (behind_none ((_, _) ∷ []) (mandatory_checks k d.header ++ rest) none);
      facts = refl;
    }

-- ---- a packed image

blocks_len : (xs : List ℕ) → length (zero_filled xs) ≡ whole_blocks_of (length xs)
blocks_len xs =
    let w : ℕ = whole_blocks_of (length xs) in
    let fill : List ℕ = replicate (w - length xs) 0 in
    let zeros : length fill ≡ w - length xs = length-replicate (w - length xs) 0 in
    let both : length (xs ++ fill) ≡ length xs + length fill = length-append xs fill in
    omega (arith, zeros, both)

-- where its header begins as that of HDU k
begins_there : (k : ℕ) (header : List ℕ) → (k ≡ 0 → is_set (codes "SIMPLE") (card_at header 0) ≡ true) → first_refusal (mandatory_checks k header) ≡ None →
    begins_hdu k header ≡ true
begins_there zero header simple none = simple refl
begins_there (suc k) header simple none =
    ap (λ l. bytes_eq l (codes "XTENSION")) (sym (take-take 8 80 (drop (80 * 0) header) (omega arith)))
    ∙ (both_true (is_named (codes "XTENSION") (card_at header 0)) _ (not_false _ (first_false _ _ _ none))).0
  where
    not_false : (b : Bool) → not b ≡ false → b ≡ true
    not_false true e = refl
    not_false false e = absurd cc

module _ (laws : PackLaws) (o : PackOptions) (file : List ℕ) (h : Header) (read : IsRead file h) (image : is_image file h
    ≡ true) (a : NumberArray) (rows : RowsStandFor file h a) where
  abbrev d : Hdu
  d = plain_image file h a

  again : plan_again file h ≡ Some (plan_in file h)
  again = ap (λ b. if b then Some (plan_in file h) else None) image

  -- the image passes with its header, and asks for the plan
  comes_there : (k start : ℕ) → PassesAt k start (2 ^ 62) d → plan_to_pack o (facts_of k start d.header) d.header ≡ Ok (plan_again file h) →
      ComesBackAs o file k start h
  unfolding header_of
  comes_there k start passes plan = record {
    number = passes.number;
    short = passes.short;
    simple = λ first. subst (λ n. begins_hdu n d.header ≡ true) first passes.begins;
    facts = facts_of k start d.header;
    found = ap (unless_refused (facts_of k start d.header))
        (answer_none (facts_of k start d.header) (first_refusal (header_checks k start (2 ^ 62) d.header)) passes.checks);
    plan = plan ∙ ap Ok again;
  }

  plan_there : (k start : ℕ) → ComesBackAs o file k start h → plan_to_pack o (facts_of k start d.header) d.header ≡ Ok (plan_again file h)
  unfolding header_of
  plan_there k start is =
      let facts : facts_of k start d.header ≡ is.facts =
      (plan_ok (facts_of k start d.header) is.facts (first_refusal (header_checks k start (2 ^ 62) d.header)) is.found).1 in
      ap (λ f. plan_to_pack o f d.header) facts ∙ (is.plan ∙ ap Ok (sym again))

  passes_there : (k start : ℕ) → ComesBackAs o file k start h → PassesAt k start (2 ^ 62) d
  unfolding header_of
  passes_there k start is =
      let f : Header = facts_of k start d.header in
      let none : first_refusal (header_checks k start (2 ^ 62) d.header) ≡ None =
      (plan_ok f is.facts (first_refusal (header_checks k start (2 ^ 62) d.header)) is.found).0 in
      let rest = group_checks k d.header ++ end_checks k (2 ^ 62) (hdu_end k start d.header) in
      let mandatory : first_refusal (mandatory_checks k d.header) ≡ None =
      front_none (mandatory_checks k d.header) rest (behind_none ((_, _) ∷ []) (mandatory_checks k d.header ++ rest) none) in
      let planned = is_planned o file h f d.header (plan_there k start is) in
      let packable : is_packable f ≡ true = planned.packs ∙ image in
      let has : HasPixels file h d = record { array = a; lengths = rows.lengths; whole = rows.whole; payload = refl } in
      let xs : List ℕ = plain_bytes (pixel_bits (plan_in file h)) a.numbers in
      let len : length xs ≡ data_len_of k d.header = pixels_len laws.fill.len o file h k start d (read.image image).readable packable (planned.plan packable) has in
      record {
        hdu = record { header = restored_header laws.images.headers (header_in file h) read.header.whole; payload = blocks_len xs ∙ ap whole_blocks_of len };
        short = is.short;
        number = is.number;
        begins = begins_there k d.header is.simple mandatory;
        checks = ok_of (header_of k start (2 ^ 62) d.header) is.facts is.found;
      }
    where
      ok_of : (r : Result Header Fault) (f : Header) → r ≡ Ok f → IsOk r
      ok_of (Ok f) g e = refl
      ok_of (Err fault) g e = absurd cc

  packs_again : (k start : ℕ) → ComesBackAs o file k start h → packed_hdu o k d ≡ before_table k ++ table_again o file h a
  packs_again k start is =
      let f : Header = facts_of k start d.header in
      let planned = is_planned o file h f d.header (plan_there k start is) in
      let packable : is_packable f ≡ true = planned.packs ∙ image in
      laws.walks.packed o d f (passes_header k start (2 ^ 62) d (passes_there k start is))
      ∙ (ap (λ b. if b then before_table k ++ packed_image o.sums (pack_plan_of o f) d else hdu_bytes d) packable
      ∙ (ap (λ q. before_table k ++ packed_image o.sums q d) (planned.plan packable)
      ∙ (λ i. before_table k ++ packed_table o.sums (plan_in file h) (cards_are laws file h a read i)
      (tile_codes (plan_in file h) (array_is laws.pixels file h (read.image image) a rows i)))))

image_stands : (file : List ℕ) (h : Header) (a : NumberArray) → is_image file h ≡ true → RowsStandFor file h a →
    HduStandsFor file h (hdu_bytes (plain_image file h a))
image_stands file h a image rows =
    subst (λ b. StandsForAs b file h (hdu_bytes (plain_image file h a))) (sym image) (record { array = a; rows = rows; image = refl })

plain_is : (file : List ℕ) (h : Header) (d : Hdu) (a : NumberArray) (packed : Bool) → packed ≡ true → IsPlainAs packed file h d → RowsStandFor file h a →
    d ≡ plain_image file h a
plain_is file h d a true e is rows = is a rows
plain_is file h d a false e is rows = absurd cc

copy_is : (file : List ℕ) (h : Header) (d : Hdu) (packed : Bool) → packed ≡ false → IsPlainAs packed file h d → d ≡ hdu_of file h
copy_is file h d true e is = absurd cc
copy_is file h d false e is = is

module _ (laws : PackLaws) (o : PackOptions) (file : List ℕ) (h : Header) (read : IsRead file h) (one : StandsForOne file h) where
  image_decided : (front : List ℕ) (k start : ℕ) (d : Hdu) (a : NumberArray) → is_image file h ≡ true → RowsStandFor file h a →
      IsSame o file front k start h d ↔ ((d ≡ plain_image file h a) × IsSameImage o file front k start h a)
  image_decided front k start d a image rows = (there, back)
    where
      there : IsSame o file front k start h d → (d ≡ plain_image file h a) × IsSameImage o file front k start h a
      there same =
          let plain : d ≡ plain_image file h a = plain_is file h d a (is_image file h) image (one.hdu d same.passes.hdu.header same.stands) rows in
          let this : IsSame o file front k start h (plain_image file h a) = subst (IsSame o file front k start h) plain same in
          let comes : ComesBackAs o file k start h = comes_there laws o file h read image a rows k start this.passes this.plan in
          (plain, record { back = comes; table = sym (packs_again laws o file h read image a rows k start comes) ∙ this.packed })

      back : (d ≡ plain_image file h a) × IsSameImage o file front k start h a → IsSame o file front k start h d
      back (plain, is) =
          subst (IsSame o file front k start h) (sym plain)
          (record {
            stands = image_stands file h a image rows;
            passes = passes_there laws o file h read image a rows k start is.back;
            plan = plan_there laws o file h read image a rows k start is.back;
            packed = packs_again laws o file h read image a rows k start is.back ∙ is.table;
          })

-- ---- another HDU

-- `pack` copies it: the test of its first check, and that it can not be packed
copied_tests : (o : PackOptions) (f : Header) (header : List ℕ) → plan_to_pack o f header ≡ Ok None →
    ((already_packed f header).0 ≡ false) × (is_packable f ≡ false)
unfolding plan_to_pack
copied_tests o f header e =
    let ok = plan_ok (if is_packable f then Some (pack_plan_of o f) else None) None (first_refusal (pack_header_checks o f header)) e in
    (first_false (already_packed f header).0 (already_packed f header).1 _ ok.0, by_test (is_packable f) ok.1)
  where
    by_test : (packable : Bool) → (if packable then Some (pack_plan_of o f) else None) ≡ None → packable ≡ false
    by_test true e = absurd cc
    by_test false e = refl

tests_copied : (o : PackOptions) (f : Header) (header : List ℕ) → (already_packed f header).0 ≡ false → is_packable f ≡ false →
    plan_to_pack o f header ≡ Ok None
unfolding plan_to_pack
tests_copied o f header packed packable =
    ap (λ b. unless_refused (if b then Some (pack_plan_of o f) else None)
    (first_refusal (already_packed f header ∷ (if b then pack_checks o f header else [])))) packable
    ∙ ap (λ b. unless_refused {A = Option Plan} None (first_refusal ((b, (already_packed f header).1) ∷ []))) packed

apart : (k : ℕ) → (zero == 0) ≡ (suc k == 0) → ⊥
apart k e =
    let first : (zero == 0) ≡ true = refl in
    let later : (suc k == 0) ≡ false = grind (arith, nat_tests) in
    true≢false (sym first ∙ (e ∙ later))

-- wherever it begins, and whatever its number, if it is the first of both files or of neither
copied_there : (o : PackOptions) (header : List ℕ) (j s k t : ℕ) → (j == 0) ≡ (k == 0) → plan_to_pack o (facts_of j s header) header ≡ Ok None →
    plan_to_pack o (facts_of k t header) header ≡ Ok None
unfolding is_packable
copied_there o header zero s zero t same e = let tests =
    copied_tests o (facts_of 0 s header) header e in tests_copied o (facts_of 0 t header) header tests.0 tests.1
copied_there o header zero s (suc k) t same e = absurd (apart k same)
copied_there o header (suc j) s zero t same e = absurd (apart j (sym same))
copied_there o header (suc j) s (suc k) t same e =
    let tests = copied_tests o (facts_of (suc j) s header) header e in tests_copied o (facts_of (suc k) t header) header tests.0 tests.1

nothing_in_front : (front rest : List ℕ) → rest ≡ front ++ rest → front ≡ []
nothing_in_front [] rest e = refl
nothing_in_front (b ∷ front) rest e =
    let long : length rest ≡ length (b ∷ (front ++ rest)) = ap length e in
    let both : length (front ++ rest) ≡ length front + length rest = length-append front rest in
    absurd omega (arith, long, both)

passes_moved : PackLaws → (j s k t len : ℕ) (x : Hdu) → (k == 0) ≡ (j == 0) → k < 65536 → t + length (hdu_bytes x) ≤ 2 ^ 62 → PassesAt j s len x →
    PassesAt k t (2 ^ 62) x
passes_moved laws zero s zero t len x same number end passes = laws.moved 0 s len t (2 ^ 62) x passes end end
passes_moved laws (suc j) s zero t len x same number end passes = absurd (apart j same)
passes_moved laws zero s (suc k) t len x same number end passes = absurd (apart k (sym same))
passes_moved laws (suc j) s (suc k) t len x same number end passes =
    laws.moved (suc k) s len t (2 ^ 62) x (laws.numbered (suc j) (suc k) s len x passes (omega arith) (omega arith) number) end end

module _ (laws : PackLaws) (o : PackOptions) (file : List ℕ) (h : Header) (read : IsRead file h) (one : StandsForOne file h) where
  copies_again : (k start : ℕ) → is_image file h ≡ false → PassesAt k start (2 ^ 62) (hdu_of file h) →
      plan_to_pack o (facts_of k start (hdu_of file h).header) (hdu_of file h).header ≡ Ok (plan_again file h) →
      packed_hdu o k (hdu_of file h) ≡ hdu_bytes (hdu_of file h)
  copies_again k start copied passes plan =
      let d : Hdu = hdu_of file h in
      let f : Header = facts_of k start d.header in
      let packable : is_packable f ≡ false = (is_planned o file h f d.header plan).packs ∙ copied in
      laws.walks.packed o d f (passes_header k start (2 ^ 62) d passes)
      ∙ ap (λ b. if b then before_table k ++ packed_image o.sums (pack_plan_of o f) d else hdu_bytes d) packable

  copy_decided : (front : List ℕ) (k start : ℕ) (d : Hdu) → is_image file h ≡ false → (k == 0) ≡ (h.hdu == 0) →
      IsSame o file front k start h d ↔ ((d ≡ hdu_of file h) × IsSameCopy o file front k start h)
  copy_decided front k start d copied first = (there, back)
    where
      header : List ℕ
      header = (hdu_of file h).header

      again : plan_again file h ≡ None
      again = ap (λ b. if b then Some (plan_in file h) else None) copied

      there : IsSame o file front k start h d → (d ≡ hdu_of file h) × IsSameCopy o file front k start h
      there same =
          let plain : d ≡ hdu_of file h = copy_is file h d (is_image file h) copied (one.hdu d same.passes.hdu.header same.stands) in
          let this : IsSame o file front k start h (hdu_of file h) = subst (IsSame o file front k start h) plain same in
          let bytes : hdu_bytes (hdu_of file h) ≡ front ++ hdu_bytes (hdu_of file h) =
          sym (copies_again k start copied this.passes this.plan) ∙ this.packed in (
            plain,
            record {
              number = this.passes.number;
              end = passes_ends k start (2 ^ 62) (hdu_of file h) this.passes;
              plan =
                  ap (λ f. plan_to_pack o f header) read.header.facts
                  ∙ copied_there o header k start h.hdu h.start first (this.plan ∙ ap Ok again);
              alone = nothing_in_front front (hdu_bytes (hdu_of file h)) bytes;
            },
          )

      back : (d ≡ hdu_of file h) × IsSameCopy o file front k start h → IsSame o file front k start h d
      back (plain, is) =
          let own : plan_to_pack o (facts_of h.hdu h.start header) header ≡ Ok None = ap (λ f. plan_to_pack o f header) (sym read.header.facts) ∙ is.plan in
          let plan = copied_there o header h.hdu h.start k start (sym first) own ∙ ap Ok (sym again) in
          let passes : PassesAt k start (2 ^ 62) (hdu_of file h) =
          passes_moved laws h.hdu read.start k start (length file) (hdu_of file h) first is.number is.end read.passes in
          subst (IsSame o file front k start h) (sym plain)
          (record {
            stands = subst (λ b. StandsForAs b file h (hdu_bytes (hdu_of file h))) (sym copied) refl;
            passes = passes;
            plan = plan;
            packed = copies_again k start copied passes plan ∙ ap (λ l. l ++ hdu_bytes (hdu_of file h)) (sym is.alone);
          })

all_decided : PackLaws → (o : PackOptions) (file : List ℕ) (hs : List Header) → AllByRecursion (IsRead file) hs → AllByRecursion (IsDecided o file) hs
all_decided laws o file [] are = tt
all_decided laws o file (h ∷ hs) are =
    let one : StandsForOne file h = one_of laws.images file h are.0 in
    (record { image = image_decided laws o file h are.0 one; copy = copy_decided laws o file h are.0 one }, all_decided laws o file hs are.1)

pub hdus_are_decided : PackLaws → HdusAreDecided
hdus_are_decided laws o file sound =
    let hs : List Header = headers_for Unpack file in
    All-from_recursion (IsDecided o file) hs (all_decided laws o file hs (are_read laws.walks laws.images.images file sound))
