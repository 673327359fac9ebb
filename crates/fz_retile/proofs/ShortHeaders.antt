-- The HDUs of the file that a packed file stands for, with headers that are no longer than those of the packed file (FITS 4.0, sections 3.3.1
-- and 10.1).
use Rattle.std.specs.Prelude.{⊤}
use Rattle.std.proofs.Common.{◌≡◌, inl, inr, ℕ, zero, suc, ◌+◌, ◌*◌, ◌^◌, ◌==◌, ◌<◌, ◌≤◌, ◌&&◌, Bool, true, false, List, [], ◌∷◌, ◌++◌, length, map, codes, All, if◌then◌else◌, true≢false, refl, sym, ap, ◌∙◌, subst, arith}
use Rattle.std.proofs.lemmas.Bool.Decides.{nat_tests}
use Rattle.std.proofs.lemmas.List.{length-append}
use Rattle.std.specs.List.{flat_map}
use Rattle.fz_card.specs.CardLists.{has_name}
use Rattle.fz_card.specs.Layout.{padded}
use Rattle.fz_block.specs.Hdus.{AreHdus, Hdu, IsCardBeforeEnd, IsHdu, cards_of, hdu_bytes, header_bytes, size_at}
use Rattle.fz_block.specs.Header.{whole_blocks_of}
use Rattle.fz_block.specs.Walk.{hdu_of}
use Rattle.fz_block.specs.declared.header.Header.{Header}
use Rattle.fz_grid.specs.Arrays.{NumberArray}
use Rattle.fz_tile.specs.Plain.{plain_bytes}
use Rattle.fz_checks.specs.JobChecks.{image_in, is_after_empty}
use Rattle.fz_head.specs.PackedChecks.{has_word}
use Rattle.fz_head.specs.PlainHeader.{plain_header, was_primary}
use Rattle.fz_files.specs.Packed.{pixel_bits, zero_filled}
use Rattle.fz_files.specs.Restored.{HduStandsFor, HdusStandFor, StandsForAs, header_in, is_image, is_packed_primary, plan_in, standing}
use Rattle.fz_laws.specs.OutputsTaken.{OutLaws}
use Rattle.fz_laws.proofs.Finds.{position_find}
use Rattle.fz_laws.proofs.OutputHdus.{AreAlike, IsIn, IsPlaced, image_out, says}
use Rattle.fz_laws.proofs.RestoredFile.{AreIn, first_plain}

-- ---- one HDU

-- HDU k, with a header of at most so many bytes
pub record IsShort (k most : ℕ) (d : Hdu) : Type 0 where
  pub is : IsHdu k d
  pub short : length d.header ≤ most

-- as another extension it is as long
as_number : (j k : ℕ) (d : Hdu) → AreAlike j k → IsHdu j d → IsHdu k d
as_number j k d (inl same) is = subst (λ n. IsHdu n d) same is
as_number zero k d (inr both) is = absurd (omega (arith, both.0))
as_number (suc j) zero d (inr both) is = absurd (omega (arith, both.1))
as_number (suc j) (suc k) d (inr both) is = record { header = is.header; payload = is.payload }

-- the image that a packed HDU stands for
abbrev image_of : List ℕ → Header → NumberArray → Hdu
image_of file h a = record {
  header = header_bytes (plain_header (cards_of (header_in file h)));
  payload = zero_filled (plain_bytes (pixel_bits (plan_in file h)) a.numbers);
}

image_short : OutLaws → (file : List ℕ) (j : ℕ) (h : Header) → IsIn file j h → is_image file h ≡ true →
    length (header_bytes (plain_header (cards_of (header_in file h)))) ≤ length (header_in file h)
image_short laws file j h is packed =
    let head : List ℕ = header_in file h in
    let cards : List (List ℕ) = cards_of head in
    let whole : All IsCardBeforeEnd (plain_header cards) = laws.plain cards (laws.read head is.is_header.whole) in
    let image = laws.images h head (is_after_empty file h) is.is_header packed is.none in
    let fits = laws.fits head h (image_in h head).plan is.is_header image.planned in
    let size : length (header_bytes (plain_header cards)) ≡ whole_blocks_of (80 * (length (plain_header cards) + 1)) = (laws.values.made.header (plain_header cards) whole).2 in
    omega (arith, fits, size)

self_within : (n : ℕ) → 0 + n ≤ n
self_within n = omega arith

same_most : (n : ℕ) → n ≤ n
same_most n = omega arith

-- what an HDU of the packed file becomes
one_short : OutLaws → (file : List ℕ) (j k : ℕ) (h : Header) (front : List ℕ) → length front ≤ 2 ^ 62 → k < 65536 → IsIn file j h → HduStandsFor file h front →
    (is_image file h ≡ false → AreAlike j k) → IsPlaced file h k → (d : Hdu) × (hdu_bytes d ≡ front) × IsShort k (length (header_in file h)) d
one_short laws file j k h front few number is stands alike placed = by_image (is_image file h) refl stands
  where
    by_image : (b : Bool) → is_image file h ≡ b → StandsForAs b file h front → (d : Hdu) × (hdu_bytes d ≡ front) × IsShort k (length (header_in file h)) d
    by_image true packed image =
        let d : Hdu = image_of file h image.array in
        let bytes : hdu_bytes d ≡ front = sym image.image in
        let most : length (hdu_bytes d) ≤ 2 ^ 62 = subst (λ (l : List ℕ). length l ≤ 2 ^ 62) (sym bytes) few in
        let passes = (image_out laws file j h is packed image.array image.rows k (placed packed)).passes 0 (length (hdu_bytes d)) (self_within (length (hdu_bytes d))) most number in
        (d, bytes, record { is = passes.hdu; short = image_short laws file j h is packed })
    by_image false plain same = (hdu_of file h, sym same, record { is = as_number j k (hdu_of file h) (alike plain) is.passes.hdu; short = same_most (length (header_in file h)) })

-- ---- one after another

abbrev pub AreShort : ℕ → ℕ → List Hdu → Type 0
AreShort k most [] = ⊤
AreShort k most (d ∷ ds) = IsShort k most d × AreShort (suc k) most ds

-- no header of a file is longer
abbrev pub EachShort : List ℕ → ℕ → List Header → Type 0
EachShort file most [] = ⊤
EachShort file most (h ∷ hs) = (length (header_in file h) ≤ most) × EachShort file most hs

-- the HDUs from number k on that these bytes are
pub record Shorts (k most : ℕ) (bytes : List ℕ) : Type 0 where
  pub hdus : List Hdu
  pub parts : flat_map hdu_bytes hdus ≡ bytes
  pub each : AreShort k most hdus

pub are_hdus : (k most : ℕ) (ds : List Hdu) → AreShort k most ds → AreHdus k ds
are_hdus k most [] are = tt
are_hdus k most (d ∷ ds) are = (are.0.is, are_hdus (suc k) most ds are.1)

pub headers_short : (file : List ℕ) (k most : ℕ) (hs : List Header) → AreShort k most (map (hdu_of file) hs) → EachShort file most hs
headers_short file k most [] are = tt
headers_short file k most (h ∷ hs) are = (are.0.short, headers_short file (suc k) most hs are.1)

-- the first of some
no_longer : (k most n : ℕ) (d : Hdu) → IsShort k n d → n ≤ most → IsShort k most d
no_longer k most n d is less = let short : length d.header ≤ n = is.short in record { is = is.is; short = omega (arith, short, less) }

-- an image after HDU 1 is an extension
late_after : (file : List ℕ) (j : ℕ) (h : Header) → IsIn file j h → 2 ≤ j → is_after_empty file h ≡ false
late_after file j h is late = ap (λ b. b && size_at file 2 == 0) (not_one h.hdu (omega (arith, is.number, late)))
  where
    not_one : (n : ℕ) → 2 ≤ n → (n == 1) ≡ false
    not_one n late = grind (arith, nat_tests, late)

late_extension : OutLaws → (file : List ℕ) (j : ℕ) (h : Header) → IsIn file j h → 2 ≤ j → is_image file h ≡ true → was_primary (cards_of (header_in file h)) ≡ false
late_extension laws file j h is late packed = by_primary (was_primary (cards_of (header_in file h))) refl
  where
    by_primary : (b : Bool) → was_primary (cards_of (header_in file h)) ≡ b → b ≡ false
    by_primary false other = refl
    by_primary true primary =
        let has : has_word (codes "ZSIMPLE") (cards_of (header_in file h)) ≡ true = position_find (has_name (padded (codes "ZSIMPLE"))) (cards_of (header_in file h)) ∙ primary in
        absurd (true≢false (sym ((says laws file j h is packed).simple has).1 ∙ late_after file j h is late))

late_short : OutLaws → (file : List ℕ) (most j k : ℕ) (hs : List Header) (bytes : List ℕ) → 2 ≤ j → 0 < k → k + length hs ≤ 65536 → length bytes ≤ 2 ^ 62 →
    AreIn file j hs → EachShort file most hs → HdusStandFor file hs bytes → Shorts k most bytes
late_short laws file most j k [] bytes late some number few are each stands = record { hdus = []; parts = sym stands; each = tt }
late_short laws file most j k (h ∷ hs) bytes late some number few are each (front, back, parts, here, later) =
    let both : length bytes ≡ length front + length back = ap length parts ∙ length-append front back in
    let one = one_short laws file j k h front (omega (arith, both, few)) (omega (arith, number)) are.0 here (λ plain. inr (omega (arith, late), some)) (λ packed. inr (late_extension laws file j h are.0 late packed, some)) in
    let more : Shorts (suc k) most back = late_short laws file most (suc j) (suc k) hs back (omega (arith, late)) (omega arith) (omega (arith, number)) (omega (arith, both, few)) are.1 each.1 later in
    record {
      hdus = one.0 ∷ more.hdus;
      parts = (λ i. one.1 i ++ more.parts i) ∙ sym parts;
      each = (no_longer k most (length (header_in file h)) one.0 one.2 each.0, more.each);
    }

-- from HDU 1 on, if it was no primary
second_short : OutLaws → (file : List ℕ) (most : ℕ) (h : Header) (hs : List Header) (bytes : List ℕ) → 2 + length hs ≤ 65536 → length bytes ≤ 2 ^ 62 → AreIn file 1 (h ∷ hs) →
    EachShort file most (h ∷ hs) → HdusStandFor file (h ∷ hs) bytes → is_packed_primary file h ≡ false → Shorts 1 most bytes
second_short laws file most h hs bytes number few are each (front, back, parts, here, later) other =
    let both : length bytes ≡ length front + length back = ap length parts ∙ length-append front back in
    let one = one_short laws file 1 1 h front (omega (arith, both, few)) (omega arith) are.0 here (λ plain. inl refl) (λ packed. inr (extension packed, omega arith)) in
    let more : Shorts 2 most back = late_short laws file most 2 2 hs back (omega arith) (omega arith) number (omega (arith, both, few)) are.1 each.1 later in
    record {
      hdus = one.0 ∷ more.hdus;
      parts = (λ i. one.1 i ++ more.parts i) ∙ sym parts;
      each = (no_longer 1 most (length (header_in file h)) one.0 one.2 each.0, more.each);
    }
  where
    extension : is_image file h ≡ true → was_primary (cards_of (header_in file h)) ≡ false
    extension packed = sym (ap (λ b. b && was_primary (cards_of (header_in file h))) packed) ∙ other

both_true : (a b : Bool) → (a && b) ≡ true → (a ≡ true) × (b ≡ true)
both_true true true e = (refl, refl)
both_true true false e = absurd cc
both_true false b e = absurd cc

-- all of them
pub all_short : OutLaws → (file : List ℕ) (most : ℕ) (hs : List Header) (bytes : List ℕ) → 0 < length hs → length hs ≤ 65536 → length bytes ≤ 2 ^ 62 → AreIn file 0 hs →
    EachShort file most hs → HdusStandFor file (standing file hs) bytes → Shorts 0 most bytes
all_short laws file most [] bytes some number few are each stands = absurd (omega (arith, some))
all_short laws file most (h ∷ []) bytes some number few are each (front, back, parts, here, later) =
    let both : length bytes ≡ length front + length back = ap length parts ∙ length-append front back in
    let one = one_short laws file 0 0 h front (omega (arith, both, few)) (omega arith) are.0 here (λ plain. inl refl) (λ packed. absurd (never packed)) in
    record { hdus = one.0 ∷ []; parts = (λ i. one.1 i ++ sym later i) ∙ sym parts; each = (no_longer 0 most (length (header_in file h)) one.0 one.2 each.0, tt) }
  where
    never : is_image file h ≡ true → ⊥
    never packed = true≢false (sym packed ∙ first_plain file h are.0)
all_short laws file most (h ∷ (k ∷ hs)) bytes some number few are each stands = by_test (is_packed_primary file k) refl stands
  where
    never : is_image file h ≡ true → ⊥
    never packed = true≢false (sym packed ∙ first_plain file h are.0)

    by_test : (b : Bool) → is_packed_primary file k ≡ b → HdusStandFor file (if b then k ∷ hs else h ∷ k ∷ hs) bytes → Shorts 0 most bytes
    by_test true primary (front, back, parts, here, later) =
        let length_is : length bytes ≡ length front + length back = ap length parts ∙ length-append front back in
        let both = both_true (is_image file k) (was_primary (cards_of (header_in file k))) primary in
        let one = one_short laws file 1 0 k front (omega (arith, length_is, few)) (omega arith) are.1.0 here (λ plain. absurd (true≢false (sym both.0 ∙ plain))) (λ packed. inl (both.1, refl)) in
        let more : Shorts 1 most back = late_short laws file most 2 1 hs back (omega arith) (omega arith) (omega (arith, number)) (omega (arith, length_is, few)) are.1.1 each.1.1 later in
        record {
          hdus = one.0 ∷ more.hdus;
          parts = (λ i. one.1 i ++ more.parts i) ∙ sym parts;
          each = (no_longer 0 most (length (header_in file k)) one.0 one.2 each.1.0, more.each);
        }
    by_test false other (front, back, parts, here, later) =
        let length_is : length bytes ≡ length front + length back = ap length parts ∙ length-append front back in
        let one = one_short laws file 0 0 h front (omega (arith, length_is, few)) (omega arith) are.0 here (λ plain. inl refl) (λ packed. absurd (never packed)) in
        let more : Shorts 1 most back = second_short laws file most k hs back (omega (arith, number)) (omega (arith, length_is, few)) are.1 each.1 later other in
        record {
          hdus = one.0 ∷ more.hdus;
          parts = (λ i. one.1 i ++ more.parts i) ∙ sym parts;
          each = (no_longer 0 most (length (header_in file h)) one.0 one.2 each.0, more.each);
        }
