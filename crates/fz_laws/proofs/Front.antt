-- A header that begins with the mandatory cards of an image of integers passes the checks of every job.
use Rattle.std.proofs.Common.{◌≡◌, ℕ, zero, suc, ◌+◌, ◌*◌, ◌/◌, ◌^◌, ◌==◌, ◌<◌, ◌≤◌, ◌&&◌, ◌||◌, not, nat_lt, Bool, true, false, ℤ, List, [], ◌∷◌, ◌++◌, length, map, pos, negsuc, is_some, Option, Some, None, IsOk, if◌then◌else◌, codes, refl, sym, subst, ◌∙◌, ap, arith}
use Rattle.std.specs.Prelude.{slice_index}
use Rattle.std.proofs.lemmas.Bool.Decides.{nat_tests}
use Rattle.std.proofs.lemmas.List.{length-append}
use Rattle.std.specs.List.{flat_map, range_with_len}
use Rattle.std.specs.Ordering.{int_eq}
use Rattle.fz_base.specs.Refusal.{first_refusal}
use Rattle.fz_base.specs.declared.fault.Fault.{Fault}
use Rattle.fz_card.specs.Reading.{integer_of, text_of}
use Rattle.fz_block.specs.Cards.{card_at, is_named, is_numbered}
use Rattle.fz_block.specs.Checks.{end_checks, ends_in_last_block, group_checks, header_checks, header_of, hdu_end, unless_refused}
use Rattle.fz_block.specs.Facts.{facts_of}
use Rattle.fz_block.specs.Hdus.{Hdu, IsHeader, array_len, axes_of, data_len_of, gcount_of, hdu_bytes, naxis_of, pcount_of, places, size_at, size_in}
use Rattle.fz_block.specs.Header.{whole_blocks_of}
use Rattle.fz_block.specs.Mandatory.{axis_checks, bitpix_check, count_checks, extension_checks, is_bitpix, is_size, mandatory_checks, naxis_checks}
use Rattle.fz_block.specs.Walk.{PassesAt, begins_hdu}
use Rattle.fz_block.specs.declared.header.Header.{Header}
use Rattle.fz_grid.specs.Arrays.{product}
use Rattle.fz_head.specs.Packable.{has_integers}

-- a card has this name and this size
pub record SaysSize (word card : List ℕ) (n : ℕ) : Type 0 where
  pub named : is_named word card ≡ true
  pub value : integer_of card ≡ Some (pos n)

-- card i of an axis has its number and a length
pub record SaysAxis (card : List ℕ) (i n : ℕ) : Type 0 where
  pub named : is_numbered (codes "NAXIS") i card ≡ true
  pub value : integer_of card ≡ Some (pos n)
  pub some : 1 ≤ n
  pub few : n ≤ 2147483647

-- The header of HDU k begins with the mandatory cards of an image of integers of so many bits, with axes of these lengths.
pub record HasFront (k : ℕ) (header : List ℕ) (bits : ℕ) (lens : List ℕ) : Type 0 where
  pub begins : begins_hdu k header ≡ true
  pub extension : 0 < k → (is_named (codes "XTENSION") (card_at header 0) ≡ true) × (text_of (card_at header 0) ≡ Some (codes "IMAGE"))
  pub bitpix : SaysSize (codes "BITPIX") (card_at header 1) bits
  pub integers : has_integers (pos bits) ≡ true
  pub naxis : SaysSize (codes "NAXIS") (card_at header 2) (length lens)
  pub some : 1 ≤ length lens
  pub few : length lens ≤ 9
  pub axes : (j : ℕ) → j < length lens → SaysAxis (card_at header (2 + (1 + j))) (1 + j) (slice_index lens j)
  pub pcount : 0 < k → SaysSize (codes "PCOUNT") (card_at header (3 + length lens)) 0
  pub gcount : 0 < k → SaysSize (codes "GCOUNT") (card_at header (4 + length lens)) 1

-- ---- checks that refuse nothing

pub both_none : (xs ys : List (Bool × Fault)) → first_refusal xs ≡ None → first_refusal ys ≡ None → first_refusal (xs ++ ys) ≡ None
both_none [] ys none rest = rest
both_none ((true, fault) ∷ xs) ys none rest = absurd cc
both_none ((false, fault) ∷ xs) ys none rest = both_none xs ys none rest

pub one_none : (b : Bool) (fault : Fault) (ys : List (Bool × Fault)) → b ≡ false → first_refusal ys ≡ None → first_refusal ((b, fault) ∷ ys) ≡ None
one_none true fault ys is rest = absurd cc
one_none false fault ys is rest = rest

pub each_none : (checks : ℕ → List (Bool × Fault)) (a n : ℕ) → ((j : ℕ) → j < n → first_refusal (checks (a + j)) ≡ None) → first_refusal (flat_map checks (range_with_len a n)) ≡ None
each_none checks a zero each = refl
each_none checks a (suc n) each =
    let here : a + 0 ≡ a = omega arith in
    both_none (checks a) (flat_map checks (range_with_len (a + 1) n)) (sym (ap (λ i. first_refusal (checks i)) here) ∙ each 0 (omega arith))
    (each_none checks (a + 1) n (λ j less.
    let at : a + suc j ≡ a + 1 + j = omega arith in
    sym (ap (λ i. first_refusal (checks i)) at) ∙ each (suc j) (omega (arith, less))))

-- a card that must be there
must_none : (named value : Bool) → named ≡ true → value ≡ true → not (named && value) ≡ false
must_none true true a b = refl
must_none true false a b = absurd cc
must_none false value a b = absurd cc

is_size_said : (o : Option ℤ) (n : ℕ) → o ≡ Some (pos n) → is_size o ≡ true
is_size_said o n is = ap is_size is

size_said : (o : Option ℤ) (n : ℕ) → o ≡ Some (pos n) → size_in o ≡ n
size_said o n is = ap size_in is

-- ---- the mandatory cards

lt_false : (m n : ℕ) → n ≤ m → nat_lt m n ≡ false
lt_false m n le = by_test (nat_lt m n) refl
  where
    by_test : (b : Bool) → nat_lt m n ≡ b → nat_lt m n ≡ false
    by_test true e = grind (arith, nat_tests, e, le)
    by_test false e = e

integers_are : (a b c d e f : Bool) → (a || (b || (c || d))) ≡ true → (a || (b || (c || (d || (e || f))))) ≡ true
integers_are true b c d e f is = refl
integers_are false true c d e f is = refl
integers_are false false true d e f is = refl
integers_are false false false true e f is = refl
integers_are false false false false e f is = absurd cc

module _ (k : ℕ) (header : List ℕ) (bits : ℕ) (lens : List ℕ) (front : HasFront k header bits lens) where
  pub count_is : naxis_of header ≡ length lens
  count_is = size_said (integer_of (card_at header 2)) (length lens) front.naxis.value

  axis_none : (j : ℕ) → j < length lens → first_refusal (axis_checks k header (1 + j)) ≡ None
  axis_none j less =
      let axis = front.axes j less in
      let card : List ℕ = card_at header (2 + (1 + j)) in
      let size : size_at header (2 + (1 + j)) ≡ slice_index lens j = size_said (integer_of card) (slice_index lens j) axis.value in
      one_none _ _ _ (must_none (is_numbered (codes "NAXIS") (1 + j) card) (is_size (integer_of card)) axis.named (is_size_said _ _ axis.value))
      (one_none _ _ _ (ap (nat_lt 2147483647) size ∙ lt_false 2147483647 (slice_index lens j) axis.few) refl)

  bitpix_none : (bitpix_check k header).0 ≡ false
  bitpix_none =
      must_none (is_named (codes "BITPIX") (card_at header 1)) (is_bitpix (integer_of (card_at header 1))) front.bitpix.named
      (ap is_bitpix front.bitpix.value ∙ integers_are (int_eq (pos bits) (pos 8)) (int_eq (pos bits) (pos 16)) (int_eq (pos bits) (pos 32)) (int_eq (pos bits) (pos 64)) (int_eq (pos bits) (negsuc 31)) (int_eq (pos bits) (negsuc 63)) front.integers)

  naxis_none : first_refusal (naxis_checks k header) ≡ None
  naxis_none =
      one_none _ _ _ (must_none (is_named (codes "NAXIS") (card_at header 2)) (is_size (integer_of (card_at header 2))) front.naxis.named (is_size_said _ _ front.naxis.value))
      (one_none _ _ _ (ap (nat_lt 9) count_is ∙ lt_false 9 (length lens) front.few) refl)

  axes_none : first_refusal (flat_map (axis_checks k header) (range_with_len 1 (naxis_of header))) ≡ None
  axes_none = ap (λ n. first_refusal (flat_map (axis_checks k header) (range_with_len 1 n))) count_is ∙ each_none (axis_checks k header) 1 (length lens) axis_none

extension_none : (k : ℕ) (header : List ℕ) (bits : ℕ) (lens : List ℕ) → HasFront k header bits lens → first_refusal (extension_checks k header) ≡ None
extension_none zero header bits lens front = refl
extension_none (suc k) header bits lens front =
    let first = front.extension (omega arith) in
    one_none _ _ _ (must_none (is_named (codes "XTENSION") (card_at header 0)) (is_some (text_of (card_at header 0))) first.0 (ap is_some first.1)) refl

counts_none : (k : ℕ) (header : List ℕ) (bits : ℕ) (lens : List ℕ) → HasFront k header bits lens → first_refusal (count_checks k header) ≡ None
counts_none zero header bits lens front = refl
counts_none (suc k) header bits lens front =
    let count : naxis_of header ≡ length lens = count_is (suc k) header bits lens front in
    let p : SaysSize (codes "PCOUNT") (card_at header (3 + naxis_of header)) 0 = subst (λ n. SaysSize (codes "PCOUNT") (card_at header (3 + n)) 0) (sym count) (front.pcount (omega arith)) in
    let g : SaysSize (codes "GCOUNT") (card_at header (4 + naxis_of header)) 1 = subst (λ n. SaysSize (codes "GCOUNT") (card_at header (4 + n)) 1) (sym count) (front.gcount (omega arith)) in
    one_none _ _ _ (must_none (is_named (codes "PCOUNT") (card_at header (3 + naxis_of header))) (is_size (integer_of (card_at header (3 + naxis_of header)))) p.named (is_size_said _ _ p.value))
    (one_none _ _ _ (must_none (is_named (codes "GCOUNT") (card_at header (4 + naxis_of header))) (is_size (integer_of (card_at header (4 + naxis_of header)))) g.named (is_size_said _ _ g.value)) refl)

pub front_mandatory : (k : ℕ) (header : List ℕ) (bits : ℕ) (lens : List ℕ) → HasFront k header bits lens → first_refusal (mandatory_checks k header) ≡ None
front_mandatory k header bits lens front =
    let axes : List (Bool × Fault) = flat_map (axis_checks k header) (range_with_len 1 (naxis_of header)) in
    both_none (extension_checks k header) (bitpix_check k header ∷ (naxis_checks k header ++ (axes ++ count_checks k header))) (extension_none k header bits lens front)
    (one_none (bitpix_check k header).0 (bitpix_check k header).1 (naxis_checks k header ++ (axes ++ count_checks k header)) (bitpix_none k header bits lens front)
    (both_none (naxis_checks k header) (axes ++ count_checks k header) (naxis_none k header bits lens front)
    (both_none axes (count_checks k header) (axes_none k header bits lens front) (counts_none k header bits lens front))))

-- ---- the length of the data

map_is : (f : ℕ → ℕ) (a : ℕ) (lens : List ℕ) → ((j : ℕ) → j < length lens → f (a + j) ≡ slice_index lens j) → map f (range_with_len a (length lens)) ≡ lens
map_is f a [] each = refl
map_is f a (n ∷ ns) each =
    let here : a + 0 ≡ a = omega arith in
    λ i. (sym (ap f here) ∙ each 0 (omega arith)) i ∷ map_is f (a + 1) ns (λ j less.
    let at : a + suc j ≡ a + 1 + j = omega arith in
    sym (ap f at) ∙ each (suc j) (omega (arith, less))) i

places_are : (lens : List ℕ) → places lens ≡ product lens
places_are [] = refl
places_are (n ∷ ns) = ap (λ m. n * m) (places_are ns)

pub axes_said : (k : ℕ) (header : List ℕ) (bits : ℕ) (lens : List ℕ) → HasFront k header bits lens → axes_of header ≡ lens
axes_said k header bits lens front =
    ap (λ n. map (size_at header) (range_with_len 3 n)) (count_is k header bits lens front)
    ∙ map_is (size_at header) 3 lens (λ j less.
    let at : 3 + j ≡ 2 + (1 + j) = omega arith in
    ap (size_at header) at ∙ size_said (integer_of (card_at header (2 + (1 + j)))) (slice_index lens j) (front.axes j less).value)

pcount_said : (k : ℕ) (header : List ℕ) (bits : ℕ) (lens : List ℕ) → HasFront k header bits lens → pcount_of k header ≡ 0
pcount_said zero header bits lens front = refl
pcount_said (suc k) header bits lens front =
    ap (λ n. size_at header (3 + n)) (count_is (suc k) header bits lens front) ∙ size_said (integer_of (card_at header (3 + length lens))) 0 (front.pcount (omega arith)).value

gcount_said : (k : ℕ) (header : List ℕ) (bits : ℕ) (lens : List ℕ) → HasFront k header bits lens → gcount_of k header ≡ 1
gcount_said zero header bits lens front = refl
gcount_said (suc k) header bits lens front =
    ap (λ n. size_at header (4 + n)) (count_is (suc k) header bits lens front) ∙ size_said (integer_of (card_at header (4 + length lens))) 1 (front.gcount (omega arith)).value

has_axes : (n : ℕ) (x : ℕ) → 1 ≤ n → (if n == 0 then 0 else x) ≡ x
has_axes zero x some = absurd (omega (arith, some))
has_axes (suc n) x some = let other : (suc n == 0) ≡ false = grind (arith, nat_tests) in ap (λ b. if b then 0 else x) other

one_group : (x b : ℕ) → b * (1 * (0 + x)) ≡ b * x
one_group x b = let same : 1 * (0 + x) ≡ x = omega arith in ap (λ m. b * m) same

pub data_len_said : (k : ℕ) (header : List ℕ) (bits : ℕ) (lens : List ℕ) → HasFront k header bits lens → data_len_of k header ≡ bits / 8 * product lens
data_len_said k header bits lens front =
    let size : size_at header 1 ≡ bits = size_said (integer_of (card_at header 1)) bits front.bitpix.value in
    (λ i. array_len header (pcount_said k header bits lens front i) (gcount_said k header bits lens front i))
    ∙ (λ i. if count_is k header bits lens front i == 0 then 0 else size i / 8 * (1 * (0 + places (axes_said k header bits lens front i))))
    ∙ has_axes (length lens) (bits / 8 * (1 * (0 + places lens))) front.some
    ∙ one_group (places lens) (bits / 8) ∙ ap (λ m. bits / 8 * m) (places_are lens)

-- ---- the checks of every job

zero_false : (n : ℕ) → 1 ≤ n → (n == 0) ≡ false
zero_false zero some = absurd (omega (arith, some))
zero_false (suc n) some = grind (arith, nat_tests)

and_false : (a b c : Bool) → b ≡ false → (a && (b && c)) ≡ false
and_false true true c is = absurd cc
and_false true false c is = refl
and_false false b c is = refl

groups_none : (k : ℕ) (header : List ℕ) (bits : ℕ) (lens : List ℕ) → HasFront k header bits lens → first_refusal (group_checks k header) ≡ None
groups_none zero header bits lens front =
    let axis = front.axes 0 (omega (arith, front.some)) in
    let size : size_at header 3 ≡ slice_index lens 0 = size_said (integer_of (card_at header 3)) (slice_index lens 0) axis.value in
    one_none _ _ _ (and_false (nat_lt 0 (naxis_of header)) (size_at header 3 == 0) _ (ap (λ n. n == 0) size ∙ zero_false (slice_index lens 0) axis.some)) refl
groups_none (suc k) header bits lens front = refl

ok_of : (h : Header) (o : Option Fault) → o ≡ None → IsOk (unless_refused h o)
ok_of h None is = refl
ok_of h (Some fault) is = absurd cc

-- an HDU with such a header, and data of its length
pub front_passes : (k start len : ℕ) (d : Hdu) (bits : ℕ) (lens : List ℕ) → HasFront k d.header bits lens → IsHeader d.header → ends_in_last_block d.header ≡ true → length d.header ≤ 737280 →
    length d.payload ≡ whole_blocks_of (bits / 8 * product lens) → k < 65536 → start + length (hdu_bytes d) ≤ len → len ≤ 2 ^ 62 → PassesAt k start len d
unfolding header_of
front_passes k start len d bits lens front is ends short size number within few =
    let size_is : length d.payload ≡ whole_blocks_of (data_len_of k d.header) = size ∙ ap whole_blocks_of (sym (data_len_said k d.header bits lens front)) in
    let both : length (hdu_bytes d) ≡ length d.header + length d.payload = length-append d.header d.payload in
    let end : ℕ = hdu_end k start d.header in
    let at : end ≤ len = omega (arith, size_is, both, within) in
    let low : end ≤ 2 ^ 62 = omega (arith, at, few) in
    let none : first_refusal (header_checks k start len d.header) ≡ None =
    one_none _ _ _ (ap not ends)
    (both_none (mandatory_checks k d.header) (group_checks k d.header ++ end_checks k len end) (front_mandatory k d.header bits lens front)
    (both_none (group_checks k d.header) (end_checks k len end) (groups_none k d.header bits lens front)
    (one_none _ _ _ (lt_false (2 ^ 62) end low) (one_none _ _ _ (lt_false len end at) refl)))) in
    record {
      hdu = record { header = is; payload = size_is };
      short = short;
      number = number;
      begins = front.begins;
      checks = ok_of (facts_of k start d.header) (first_refusal (header_checks k start len d.header)) none;
    }
