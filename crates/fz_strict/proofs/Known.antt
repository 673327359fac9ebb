-- What is known of the headers of a file in which `unpack` finds no fault, of each of them (FITS 4.0, sections 3.1 and 10.1).
use Rattle.std.specs.Prelude.{All}
use Rattle.std.proofs.Common.{◌≡◌, ℕ, ◌+◌, ◌*◌, ◌/◌, ◌==◌, ◌&&◌, Bool, true, false, true≢false, List, [], ◌∷◌, ◌++◌, take, drop, Option, Some, None, Ok, if◌then◌else◌, refl, sym, subst, ◌∙◌, ap, arith}
use Rattle.std.proofs.lemmas.Bool.Decides.{Decides-eqb}
use Rattle.std.proofs.lemmas.List.Elements.{recursion_from_All}
use Rattle.std.specs.List.{AllByRecursion}
use Rattle.fz_base.specs.declared.fault.Fault.{Fault}
use Rattle.fz_block.specs.Facts.{facts_of}
use Rattle.fz_block.specs.Header.{next_start_of, whole_blocks_of}
use Rattle.fz_block.specs.Hdus.{IsHeader, axes_of, cards_of, data_len_of, gcount_of, naxis_of, pcount_of, places, size_at}
use Rattle.fz_block.specs.declared.header.Header.{Header}
use Rattle.fz_block.specs.declared.header.Sort.TheVariants.{Primary}
use Rattle.fz_grid.specs.Arrays.{NumberArray}
use Rattle.fz_checks.specs.JobChecks.{image_in, image_to_unpack, is_after_empty}
use Rattle.fz_head.specs.PackedPlan.{plan_of_cards}
use Rattle.fz_head.specs.PlainHeader.{was_primary}
use Rattle.fz_checks.specs.declared.job_checks.PackedImage.{PackedImage}
use Rattle.fz_head.specs.declared.options.PackOptions.{PackOptions}
use Rattle.fz_files.specs.FirstFault.{IsFirstFault, IsFirstRowFault, IsFaultBehind, all_rows}
use Rattle.fz_files.specs.Restored.{HdusStandFor, RowsStandFor, StandsForAs, header_in, is_image, is_packed_primary, plan_in, standing}
use Rattle.fz_files.specs.Walks.{headers_for}
use Rattle.fz_files.specs.declared.job.Job.TheVariants.{Unpack}
use Rattle.fz_laws.specs.RoundTrip.{HasRestoredFile}
use Rattle.fz_job.specs.declared.survey.Survey.{Survey}
use Rattle.fz_job.specs.Again.{WasSeen, WereSeen}
use Rattle.fz_job.specs.Known.{IsKnown}
use Rattle.fz_strict.specs.Laws.{HdusAreDecided, HdusStandForOne}
use Rattle.fz_strict.specs.SameHdus.{IsDecided, StandsForOne}
use Rattle.fz_strict.proofs.Flags.{naxis_is}
use Rattle.fz_strict.proofs.Images.{first_plain}
use Rattle.fz_strict.proofs.Said.{image_if}

-- ---- all of some headers, and those of them

pub all_front : (P : Header → Type 0) (hs ks : List Header) → AllByRecursion P (hs ++ ks) → AllByRecursion P hs
all_front P [] ks all = tt
all_front P (h ∷ hs) ks all = (all.0, all_front P hs ks all.1)

pub all_at : (P : Header → Type 0) (hs ks : List Header) (h : Header) → AllByRecursion P ((hs ++ h ∷ []) ++ ks) → P h
all_at P [] ks h all = all.0
all_at P (g ∷ hs) ks h all = all_at P hs ks h all.1

-- ---- a packed image was a primary only in HDU 1

-- what is taken of the law of packed primaries
abbrev pub PrimariesAreSecond : Type 0
PrimariesAreSecond = (h : Header) (header : List ℕ) (after_empty : Bool) (i : PackedImage) → image_to_unpack h header after_empty ≡ Ok (Some i) → i.plan.primary ≡ true → after_empty ≡ true

first_true : (a b : Bool) → (a && b) ≡ true → a ≡ true
first_true true b is = refl
first_true false b is = absurd cc

second_true : (a b : Bool) → (a && b) ≡ true → b ≡ true
second_true true b is = is
second_true false b is = absurd cc

pub says_primary : (cards : List (List ℕ)) → (plan_of_cards cards).primary ≡ was_primary cards
unfolding plan_of_cards
says_primary cards = refl

after_empty : PrimariesAreSecond → (file : List ℕ) (k start header_len tile : ℕ) (h : Header) → WasSeen file k start header_len tile h → is_packed_primary file h ≡ true → is_after_empty file h ≡ true
after_empty law file k start header_len tile h seen is =
    let packed : is_image file h ≡ true = first_true (is_image file h) (was_primary (cards_of (header_in file h))) is in
    let was : (plan_in file h).primary ≡ true = says_primary (cards_of (header_in file h)) ∙ second_true (is_image file h) (was_primary (cards_of (header_in file h))) is in
    let image : seen.image ≡ Some (image_in h (header_in file h)) =
    image_if h (header_in file h) (is_after_empty file h) seen.image seen.said ∙ ap (λ b. if b then Some (image_in h (header_in file h)) else None) packed in
    law h (header_in file h) (is_after_empty file h) (image_in h (header_in file h)) (seen.said ∙ ap Ok image) was

pub primary_second : PrimariesAreSecond → (file : List ℕ) (k start header_len tile : ℕ) (h : Header) → WasSeen file k start header_len tile h → is_packed_primary file h ≡ true → k ≡ 1
primary_second law file k start header_len tile h seen is =
    let after : is_after_empty file h ≡ true = after_empty law file k start header_len tile h seen is in
    let one : h.hdu ≡ 1 = (Decides-eqb h.hdu 1).0 (first_true (h.hdu == 1) (size_at file 2 == 0) after) in
    sym seen.number ∙ one

-- what stands before it is a header, of a primary without data
pub header_before : PrimariesAreSecond → (file : List ℕ) (header_len tile : ℕ) (g h : Header) → WasSeen file 0 0 header_len tile g → WasSeen file 1 (next_start_of g) header_len tile h → is_packed_primary file h ≡ true → IsHeader (take h.start file)
header_before law file header_len tile g h first second is =
    let header : List ℕ = header_in file g in
    let after : is_after_empty file h ≡ true = after_empty law file 1 (next_start_of g) header_len tile h second is in
    let none : size_at file 2 ≡ 0 = (Decides-eqb (size_at file 2) 0).0 (second_true (h.hdu == 1) (size_at file 2 == 0) after) in
    let axes : naxis_of header ≡ 0 = naxis_is file header_len tile g first ∙ none in
    let none_there : data_len_of g.hdu header ≡ 0 =
    ap (λ n. if n == 0 then 0 else size_at header 1 / 8 * (gcount_of g.hdu header * (pcount_of g.hdu header + places (axes_of header)))) axes in
    let len : g.data_len ≡ 0 = ap (λ (f : Header). f.data_len) first.is_header.facts ∙ none_there in
    let blocks : whole_blocks_of g.data_len ≡ 0 = ap whole_blocks_of len in
    let size : h.start ≡ 2880 * g.blocks = let place = second.place in let begin = first.place in omega (arith, place, begin, blocks) in
    subst IsHeader ((λ i. take (2880 * g.blocks) (drop (first.place i) file)) ∙ ap (λ n. take n file) (sym size)) first.is_header.whole

-- ---- the tiles of a packed image are those of an array

abbrev pub HasArray : List ℕ → Header → Type 0
HasArray file h = is_image file h ≡ true → (a : NumberArray) × RowsStandFor file h a

image_array : (file : List ℕ) (h : Header) (bytes : List ℕ) (packed : Bool) → StandsForAs packed file h bytes → packed ≡ true → (a : NumberArray) × RowsStandFor file h a
image_array file h bytes true stands is = (stands.array, stands.rows)
image_array file h bytes false stands is = absurd cc

arrays_standing : (file : List ℕ) (hs : List Header) (bytes : List ℕ) → HdusStandFor file hs bytes → AllByRecursion (HasArray file) hs
arrays_standing file [] bytes stand = tt
arrays_standing file (h ∷ hs) bytes stand = (image_array file h stand.0 (is_image file h) stand.3, arrays_standing file hs stand.1 stand.4)

-- HDU 0 is no table
first_is_plain : (file : List ℕ) (start header_len tile : ℕ) (h : Header) → WasSeen file 0 start header_len tile h → is_image file h ≡ false
first_is_plain file start header_len tile h seen =
    let primary : h.sort ≡ Primary = ap (λ (f : Header). f.sort) (seen.is_header.facts ∙ ap (λ n. facts_of n h.start (header_in file h)) seen.number) in
    first_plain file h primary

arrays_of : (file : List ℕ) (header_len tile : ℕ) (hs : List Header) → WereSeen file header_len tile 0 0 hs → AllByRecursion (HasArray file) (standing file hs) → AllByRecursion (HasArray file) hs
arrays_of file header_len tile [] seen all = tt
arrays_of file header_len tile (h ∷ []) seen all = all
arrays_of file header_len tile (h ∷ k ∷ hs) seen all = by_test (is_packed_primary file k) all
  where
    plain : HasArray file h
    plain = λ packed. absurd (true≢false (sym packed ∙ first_is_plain file 0 header_len tile h seen.0))

    by_test : (first : Bool) → AllByRecursion (HasArray file) (if first then k ∷ hs else h ∷ k ∷ hs) → AllByRecursion (HasArray file) (h ∷ k ∷ hs)
    by_test true all = (plain, all)
    by_test false all = all

-- ---- all that is known

pub record IsAllKnown (o : PackOptions) (file : List ℕ) (hs : List Header) : Type 0 where
  pub one : AllByRecursion (StandsForOne file) hs
  pub decided : AllByRecursion (IsDecided o file) hs
  pub arrays : AllByRecursion (HasArray file) hs

-- no row of a file is refused whose headers have no fault
pub is_sound : (file : List ℕ) (s : Survey) (known : IsKnown Unpack file s) → IsFirstRowFault file (all_rows file known.headers) None → IsFirstFault Unpack file None
is_sound file s known rows =
    let those : IsFaultBehind None Unpack file None = subst (λ (hs : List Header). IsFirstRowFault file (all_rows file hs) None) (sym known.are) rows in
    subst (λ (f : Option Fault). IsFaultBehind f Unpack file None) (sym known.no_fault) those

pub all_known : HdusStandForOne → HdusAreDecided → HasRestoredFile → (o : PackOptions) (file : List ℕ) (s : Survey) (known : IsKnown Unpack file s) → IsFirstFault Unpack file None → IsAllKnown o file known.headers
all_known one decided restored o file s known sound =
    let hs : List Header = known.headers in
    let stands = restored file sound in
    let arrays : AllByRecursion (HasArray file) (standing file hs) =
    subst (λ l. AllByRecursion (HasArray file) (standing file l)) known.are (arrays_standing file (standing file (headers_for Unpack file)) stands.0 stands.1.parts) in
    record {
      one = recursion_from_All (StandsForOne file) hs (subst (All (StandsForOne file)) known.are (one file sound));
      decided = recursion_from_All (IsDecided o file) hs (subst (All (IsDecided o file)) known.are (decided o file sound));
      arrays = arrays_of file s.header_len s.tile hs known.seen.seen arrays;
    }
