-- The worked files by the definitions.
use Rattle.std.proofs.Common.{◌≡◌, ℕ, zero, suc, ◌<◌, ◌≤◌, ◌==◌, ◌||◌, ◌&&◌, nat_lt, Bool, true, false, List, [], ◌∷◌, ◌++◌, length, Ok, if◌then◌else◌, slice_index, refl, sym, subst, ◌∙◌, ap, arith, rules}
use Rattle.std.proofs.lemmas.Bool.Decides.{nat_tests}
use Rattle.std.proofs.lemmas.List.Elements.{All-from_recursion}
use Rattle.std.specs.Fmt.{digits}
use Rattle.std.specs.List.{AllByRecursion, list_all, list_any}
use Rattle.fz_card.specs.Made.{int_card_bytes, logical_card_bytes, numbered_name}
use Rattle.fz_card.specs.Naming.{is_reserved, number_behind, plain_name}
use Rattle.fz_card.specs.Quoted.{quoted}
use Rattle.fz_card.specs.Reading.{integer_of, logical_of, text_of}
use Rattle.fz_card.specs.Tables.{foreign_names, packed_names, renamings}
use Rattle.fz_block.specs.Cards.{end_among, first_among}
use Rattle.fz_block.specs.Checks.{Judge, by_judgement, followed_by, hdu_at, header_blocks_of, header_of, judged, walk_from}
use Rattle.fz_block.specs.Facts.{facts_of}
use Rattle.fz_block.specs.Hdus.{AreHdusOf, Hdu, IsHeader, data_len_of, header_bytes, size_at}
use Rattle.fz_block.specs.Header.{next_start_of, whole_blocks_of}
use Rattle.fz_block.specs.declared.header.Header.{Header}
use Rattle.fz_tile.specs.Plain.{AreBytes}
use Rattle.fz_head.specs.EmptyPrimary.{empty_primary}
use Rattle.fz_checks.specs.Judges.{pack_judge}
use Rattle.fz_head.specs.Packable.{is_packable}
use Rattle.fz_head.specs.PackedHeader.{packed_header}
use Rattle.fz_head.specs.Planned.{pack_plan_of}
use Rattle.fz_head.specs.declared.options.PackOptions.{PackOptions}
use Rattle.fz_files.specs.Laws.{StandsForOneFile}
use Rattle.fz_files.specs.Packed.{IsPackedFile, before_table, packed_file, packed_from, packed_image}
use Rattle.fz_files.specs.PlainFile.{grid_file, grid_hdu, plain_file, plain_options}
use Rattle.fz_files.specs.Restored.{is_image}
use Rattle.fz_files.specs.StandsFor.{IsProfileFile, StandsFor}
use Rattle.fz_files.specs.SumFile.{sum_file, sum_options}
use Rattle.fz_files.specs.Walks.{headers_for}
use Rattle.fz_files.specs.declared.job.Job.TheVariants.{Unpack}
use Rattle.fz_laws.specs.RoundTrip.{ComesBack, UnpackCopies}
use Rattle.fz_strict.specs.Strict.{IsStrict}
use Rattle.fz_strict.proofs.Images.{first_plain}
use Rattle.fz_strict.specs.Taken.{WalkLaws}
use Rattle.fz_strict.proofs.Same.{sound_by}
use Rattle.fz_strict.proofs.WorkedHeaders.{PassingWalk, headers_in}

-- ---- the image in tiles

header_is : IsHeader grid_hdu.header
unfolding end_among
header_is = record { before = 0; blocks = refl; none = refl; has = search rules }

payload_is : length grid_hdu.payload ≡ whole_blocks_of (data_len_of 0 grid_hdu.header)
unfolding integer_of
payload_is = refl

pub is_alone : AreHdusOf grid_file (grid_hdu ∷ [])
is_alone = record { parts = refl; each = (record { header = header_is; payload = payload_is }, tt) }

pub bytes_by : (bytes : List ℕ) → list_all (λ b. nat_lt b 256) bytes ≡ true → AllByRecursion (λ b. b < 256) bytes
bytes_by [] few = tt
bytes_by (b ∷ bytes) few = by_test (nat_lt b 256) refl few (bytes_by bytes)
  where
    by_test : (less : Bool) → nat_lt b 256 ≡ less → (less && list_all (λ b. nat_lt b 256) bytes) ≡ true →
        (list_all (λ b. nat_lt b 256) bytes ≡ true → AllByRecursion (λ b. b < 256) bytes) →
        AllByRecursion (λ b. b < 256) (b ∷ bytes)
    by_test true e few rest = (grind (arith, nat_tests, e), rest few)
    by_test false e few rest = absurd cc

are_bytes : AreBytes grid_file
are_bytes = All-from_recursion (λ b. b < 256) grid_file (bytes_by grid_file refl)

abbrev grid_facts : Header
grid_facts = facts_of 0 0 grid_hdu.header

grid_at : hdu_at 0 0 grid_file ≡ Ok grid_facts
unfolding hdu_at header_blocks_of header_of end_among first_among integer_of logical_of text_of quoted numbered_name digits
grid_at = refl

-- the only HDU of a file
pub ends_with : (judge : Judge) (more : ℕ) (file : List ℕ) (h : Header) → hdu_at 0 0 file ≡ Ok h → judge h ≡ Ok false →
    (next_start_of h == length file) ≡ true →
    walk_from judge (suc more) 0 0 file ≡ Ok (h ∷ [])
unfolding walk_from
ends_with judge more file h here says last =
    ap (judged file judge (λ h. walk_from judge more 1 (next_start_of h) file)) here
    ∙ (ap (by_judgement file h (walk_from judge more 1 (next_start_of h) file)) says
    ∙ ap (λ b. if b then Ok (h ∷ []) else followed_by h (walk_from judge more 1 (next_start_of h) file)) last)

plain_takes : pack_judge plain_options grid_file grid_facts ≡ Ok false
unfolding is_packable end_among integer_of logical_of is_reserved plain_name packed_names foreign_names renamings number_behind numbered_name digits text_of
    quoted pack_plan_of packed_header
plain_takes = refl

sum_takes : pack_judge sum_options grid_file grid_facts ≡ Ok false
unfolding is_packable end_among integer_of logical_of is_reserved plain_name packed_names foreign_names renamings number_behind numbered_name digits text_of
    quoted pack_plan_of packed_header
sum_takes = refl

last_is : (next_start_of grid_facts == length grid_file) ≡ true
unfolding integer_of
last_is = refl

pub tile_is : (i : ℕ) → i < 2 → 1 ≤ slice_index (2 ∷ 2 ∷ 0 ∷ 0 ∷ 0 ∷ 0 ∷ 0 ∷ 0 ∷ 0 ∷ []) i
tile_is zero less = omega arith
tile_is (suc zero) less = omega arith
tile_is (suc (suc i)) less = absurd omega (arith, less)

plain_taken : IsProfileFile plain_options grid_file
plain_taken = record {
  bytes = are_bytes;
  options = record { low = omega arith; high = omega arith; tile = (omega arith, omega arith, tile_is) };
  sound = sound_by plain_options grid_file (grid_facts ∷ [])
      (ends_with (pack_judge plain_options grid_file) 65534 grid_file grid_facts grid_at plain_takes last_is);
}

sum_taken : IsProfileFile sum_options grid_file
sum_taken = record {
  bytes = are_bytes;
  options = record { low = omega arith; high = omega arith; tile = (omega arith, omega arith, tile_is) };
  sound = sound_by sum_options grid_file (grid_facts ∷ []) (ends_with (pack_judge sum_options grid_file) 65534 grid_file grid_facts grid_at sum_takes last_is);
}

pub plain_strict : StandsFor plain_file grid_file → IsPackedFile plain_options grid_file plain_file → IsStrict plain_file
plain_strict stands packed = record { options = plain_options; strict = record { restored = grid_file; stands = stands; taken = plain_taken; packed = packed } }

sum_count : length sum_file ≡ 8640
sum_count = refl

pub sum_stands : ComesBack → IsPackedFile sum_options grid_file sum_file → StandsFor sum_file grid_file
sum_stands back packed = back sum_options grid_file sum_file sum_taken packed (omega (arith, sum_count))

pub sum_strict : ComesBack → IsPackedFile sum_options grid_file sum_file → IsStrict sum_file
sum_strict back packed = record
    { options = sum_options; strict = record { restored = grid_file; stands = sum_stands back packed; taken = sum_taken; packed = packed } }

-- ---- the file of the image

packable : is_packable grid_facts ≡ true
unfolding is_packable integer_of
packable = refl

two_axes : size_at grid_file 2 ≡ 2
unfolding integer_of digits
two_axes = refl

no_axes : (rest : List ℕ) → size_at ((header_bytes empty_primary ++ rest) ++ []) 2 ≡ 0
unfolding integer_of int_card_bytes logical_card_bytes digits
no_axes rest = refl

packed_is : (o : PackOptions) → packed_file o (grid_hdu ∷ []) ≡ (header_bytes empty_primary ++ packed_image o.sums (pack_plan_of o grid_facts) grid_hdu) ++ []
unfolding packed_from
packed_is o = ap (λ b. (if b then before_table 0 ++ packed_image o.sums (pack_plan_of o grid_facts) grid_hdu else grid_file) ++ []) packable

pub grid_not_strict : WalkLaws → PassingWalk → UnpackCopies → StandsForOneFile →
    ((file : List ℕ) (hs ks : List Hdu) → AreHdusOf file hs → AreHdusOf file ks → hs ≡ ks) → IsStrict grid_file → ⊥
grid_not_strict w passing copies one_file one_list is =
    let s = is.strict in
    let o : PackOptions = is.options in
    let headers = headers_in w passing grid_file (grid_hdu ∷ []) is_alone s.stands.sound in
    let none : list_any (is_image grid_file) (headers_for Unpack grid_file) ≡ false =
    ap (list_any (is_image grid_file)) headers.0 ∙ ap (λ b. b || false) (first_plain grid_file grid_facts refl) in
    let same : s.restored ≡ grid_file = one_file grid_file s.restored grid_file s.stands (copies grid_file s.stands.sound none) in
    let hdus : s.packed.hdus ≡ grid_hdu ∷ [] =
    one_list grid_file s.packed.hdus (grid_hdu ∷ []) (subst (λ f. AreHdusOf f s.packed.hdus) same s.packed.parts) is_alone in
    let bytes = s.packed.packed ∙ (ap (packed_file o) hdus ∙ packed_is o) in
    let clash : 2 ≡ 0 = sym two_axes ∙ (ap (λ l. size_at l 2) bytes ∙ no_axes (packed_image o.sums (pack_plan_of o grid_facts) grid_hdu)) in
    absurd omega (arith, clash)
