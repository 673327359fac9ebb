-- The cards that a patch writes: each has the name of the card in whose place it is, and is one that a patch may change.
use Rattle.std.specs.Prelude.{⊤}
use Rattle.std.proofs.Common.{◌≡◌, ◌⊎◌, inl, inr, ℕ, zero, suc, ◌+◌, ◌-◌, ◌*◌, ◌/◌, ◌^◌, ◌<◌, ◌≤◌, ◌==◌, ◌&&◌, nat_lt, Bool, true, false, pos, List, [], ◌∷◌, ◌++◌, length, take, map, codes, bytes_eq, Option, Some, None, is_some, unwrap_or, slice_index_or, if◌then◌else◌, refl, sym, ap, ◌∙◌, subst, arith}
use Rattle.std.specs.List.{range_with_len}
use Rattle.std.specs.Option.{option_and_then}
use Rattle.std.proofs.lemmas.List.FromFn.{get_or-map-range_with_len, length-map-range_with_len}
use Rattle.std.proofs.lemmas.List.Quantifiers.{position-Some}
use Rattle.std.proofs.lemmas.Bool.{cases_lt}
use Rattle.fz_base.specs.Counts.{Amend}
use Rattle.fz_base.specs.Refusal.{first_refusal}
use Rattle.fz_card.specs.CardLists.{first_of_name, has_name}
use Rattle.fz_card.specs.Laws.{CardLaws}
use Rattle.fz_card.specs.Layout.{card_name, padded}
use Rattle.fz_card.specs.Made.{FitsName, IsCardText, numbered_name, text_card_bytes}
use Rattle.fz_card.specs.Reading.{integer_of, text_of}
use Rattle.fz_block.specs.Cards.{card_at, end_among, end_of, first_card, is_named}
use Rattle.fz_block.specs.Facts.{IsHeaderOf, facts_of}
use Rattle.fz_block.specs.Hdus.{cards_of, naxis_of, pcount_index, size_at, size_in}
use Rattle.fz_block.specs.Mandatory.{is_size, mandatory_checks}
use Rattle.fz_block.specs.declared.header.Header.{Header}
use Rattle.fz_sum.specs.Cards.{checksum_name, datasum_name}
use Rattle.fz_table.specs.Columns.{first_named, form_of, text_at, tform_card}
use Rattle.fz_sum.specs.Verdicts.{is_some_text}
use Rattle.fz_table.specs.Forms.{form_in}
use Rattle.fz_head.specs.CardLists.{index_of}
use Rattle.fz_head.specs.PackedHeader.{descriptor_form, number_card, numbered_word_card}
use Rattle.fz_files.specs.Restored.{header_in}
use Rattle.fz_laws.specs.PatchHeaders.{IsAmendedCard, IsChanged}
use Rattle.fz_laws.specs.Writes.{card_write, told_sum}
use Rattle.fz_laws.proofs.AmendedFacts.{HasMandatory, has_mandatory}
use Rattle.fz_laws.proofs.Between.{IsCardWrite}
use Rattle.fz_laws.proofs.CardPlaces.{end_below, first_has}
use Rattle.fz_laws.proofs.FormTexts.{form_is_text}
use Rattle.fz_laws.proofs.Passes.{and_left, is_named_so}
use Rattle.fz_laws.proofs.TargetFacts.{HasTarget}

-- a card before END is whole
pub whole_card : (a : List ℕ) (i : ℕ) → i < unwrap_or (end_of a) 0 → 80 * (i + 1) ≤ length a
whole_card a i below = by_end (end_of a) refl below
  where
    by_end : (o : Option ℕ) → end_of a ≡ o → i < unwrap_or o 0 → 80 * (i + 1) ≤ length a
    by_end None same less = absurd (omega arith)
    by_end (Some e) same less =
        let within : e < length a / 80 = end_below (length a / 80) a e same in
        omega arith

-- ---- PCOUNT

some_blocks : (header : List ℕ) (h : Header) → IsHeaderOf header h → 1 ≤ h.blocks
some_blocks header h is =
    let blocks = is.whole.blocks in
    let same : h.blocks ≡ length header / 2880 = ap (λ (x : Header). x.blocks) is.facts in
    omega arith

pub pcount_named : (header : List ℕ) (h : Header) → IsHeaderOf header h → 0 < h.hdu → card_name (card_at header (pcount_index header)) ≡ padded (codes "PCOUNT")
pcount_named header h is later = by_number h.hdu refl later
  where
    by_number : (n : ℕ) → h.hdu ≡ n → 0 < n → card_name (card_at header (pcount_index header)) ≡ padded (codes "PCOUNT")
    by_number zero same some = absurd (omega arith)
    by_number (suc k) same some =
        let i : ℕ = pcount_index header in
        let had : HasMandatory k header = has_mandatory k header (subst (λ n. first_refusal (mandatory_checks n header) ≡ None) same is.mandatory) in
        is_named_so (card_name (card_at header i)) (padded (codes "PCOUNT")) (and_left (is_named (codes "PCOUNT") (card_at header i)) (is_size (integer_of (card_at header i))) had.pcount)

pub pcount_said : (header : List ℕ) (h : Header) → IsHeaderOf header h → 0 < h.hdu → h.pcount ≡ size_at header (pcount_index header)
pcount_said header h is later = by_number h.hdu refl later
  where
    by_number : (n : ℕ) → h.hdu ≡ n → 0 < n → h.pcount ≡ size_at header (pcount_index header)
    by_number zero same some = absurd (omega arith)
    by_number (suc k) same some = ap (λ (x : Header). x.pcount) is.facts ∙ ap (λ n. (facts_of n h.start header).pcount) same

pub pcount_within : (header : List ℕ) (h : Header) → IsHeaderOf header h → 0 < h.hdu → 80 * (pcount_index header + 1) ≤ 2880 * h.blocks
pcount_within header h is later = by_number h.hdu refl later
  where
    by_number : (n : ℕ) → h.hdu ≡ n → 0 < n → 80 * (pcount_index header + 1) ≤ 2880 * h.blocks
    by_number zero same some = absurd (omega arith)
    by_number (suc k) same some =
        let had : HasMandatory k header = has_mandatory k header (subst (λ n. first_refusal (mandatory_checks n header) ≡ None) same is.mandatory) in
        let few = had.few in
        let blocks = some_blocks header h is in
        omega arith

-- writes that leave the card at this byte as it is
abbrev pub AreApart : ℕ → List Amend → Type 0
AreApart place [] = ⊤
AreApart place (w ∷ ws) = ((w.at + length w.bytes ≤ place) ⊎ (place + 80 ≤ w.at)) × AreApart place ws

pub apart_both : (place : ℕ) (xs ys : List Amend) → AreApart place xs → AreApart place ys → AreApart place (xs ++ ys)
apart_both place [] ys one two = two
apart_both place (x ∷ xs) ys one two = (one.0, apart_both place xs ys one.1 two)

-- cards with two names are apart
pub card_apart : (start i j : ℕ) (header card name other : List ℕ) → length card ≡ 80 → card_name (card_at header i) ≡ name → card_name (card_at header j) ≡ other → (name ≡ other → ⊥) →
    (start + 80 * i + length card ≤ start + 80 * j) ⊎ (start + 80 * j + 80 ≤ start + 80 * i)
card_apart start i j header card name other long one two differ = by_order (cases_lt i j) (cases_lt j i)
  where
    by_order : (i < j) ⊎ (j ≤ i) → (j < i) ⊎ (i ≤ j) → (start + 80 * i + length card ≤ start + 80 * j) ⊎ (start + 80 * j + 80 ≤ start + 80 * i)
    by_order (inl less) other = inl (omega arith)
    by_order (inr low) (inl less) = inr (omega arith)
    by_order (inr low) (inr high) = let same : i ≡ j = omega arith in absurd (differ (sym one ∙ (ap (λ k. card_name (card_at header k)) same ∙ two)))

tests_differ : (name other : List ℕ) → bytes_eq (take 3 name) (codes "PCO") ≡ false → bytes_eq (take 3 other) (codes "PCO") ≡ true → name ≡ other → ⊥
tests_differ name other fails passes same =
    let both : true ≡ false = sym passes ∙ (ap (λ n. bytes_eq (take 3 n) (codes "PCO")) (sym same) ∙ fails) in
    cc

form_test : (i : ℕ) → bytes_eq (take 3 (numbered_name (codes "TFORM") i)) (codes "PCO") ≡ false
unfolding numbered_name
form_test i = refl

pub form_differs : (i : ℕ) → numbered_name (codes "TFORM") i ≡ padded (codes "PCOUNT") → ⊥
form_differs i = tests_differ (numbered_name (codes "TFORM") i) (padded (codes "PCOUNT")) (form_test i) refl

pub sum_differs : (name : List ℕ) → (name ≡ datasum_name) ⊎ (name ≡ checksum_name) → name ≡ padded (codes "PCOUNT") → ⊥
sum_differs name (inl e) = tests_differ name (padded (codes "PCOUNT")) (ap (λ n. bytes_eq (take 3 n) (codes "PCO")) e) refl
sum_differs name (inr e) = tests_differ name (padded (codes "PCOUNT")) (ap (λ n. bytes_eq (take 3 n) (codes "PCO")) e) refl

pub pcount_card : CardLaws → (file : List ℕ) (h : Header) (count : ℕ) → IsHeaderOf (header_in file h) h → 0 < h.hdu → h.pcount ≤ count → count < 10 ^ 18 →
    IsCardWrite file h (card_write h (pcount_index (header_in file h)) (number_card (codes "PCOUNT") count))
pcount_card laws file h count is later grows short = by_number h.hdu refl later
  where
    by_number : (n : ℕ) → h.hdu ≡ n → 0 < n → IsCardWrite file h (card_write h (pcount_index (header_in file h)) (number_card (codes "PCOUNT") count))
    by_number zero same some = absurd (omega arith)
    by_number (suc k) same some =
        let header : List ℕ = header_in file h in
        let i : ℕ = pcount_index header in
        let had : HasMandatory k header = has_mandatory k header (subst (λ n. first_refusal (mandatory_checks n header) ≡ None) same is.mandatory) in
        let named : card_name (card_at header i) ≡ padded (codes "PCOUNT") =
        is_named_so (card_name (card_at header i)) (padded (codes "PCOUNT")) (and_left (is_named (codes "PCOUNT") (card_at header i)) (is_size (integer_of (card_at header i))) had.pcount) in
        let few = had.few in
        let blocks = some_blocks header h is in
        let was : h.pcount ≡ size_at header i = ap (λ (x : Header). x.pcount) is.facts ∙ ap (λ n. (facts_of n h.start header).pcount) same in
        record {
          index = i;
          place = refl;
          long = laws.made.integer_length (padded (codes "PCOUNT")) (pos count) refl short;
          within = omega arith;
          amends =
              inr (
                laws.made.integer_name (padded (codes "PCOUNT")) (pos count) refl ∙ sym named,
                inr (inr (inr (record {
                  name = named;
                  count = count;
                  says = (laws.values.integer (number_card (codes "PCOUNT") count) (pos count)).0 (laws.made.integer_value (padded (codes "PCOUNT")) (pos count) refl short);
                  grows = omega arith;
                }))),
              );
        }

-- ---- TFORMi

-- the card of a form is there, if it can be read
pub record HasFormCard (header : List ℕ) (i : ℕ) : Type 0 where
  pub index : ℕ
  pub is : tform_card header i ≡ Some index
  pub within : 80 * (index + 1) ≤ length header
  pub name : card_name (card_at header index) ≡ numbered_name (codes "TFORM") i

named_first : (name header : List ℕ) (i : ℕ) → first_named name header ≡ Some i → (80 * (i + 1) ≤ length header) × (card_name (card_at header i) ≡ name)
unfolding first_named
named_first name header i e =
    let found = first_has (λ card. bytes_eq (card_name card) name) (unwrap_or (end_of header) 0) header i e in
    (whole_card header i found.0, is_named_so (card_name (card_at header i)) name found.1)

pub form_card_there : (header : List ℕ) (i : ℕ) (text : List ℕ) → is_some (form_in text) ≡ true → form_of header i ≡ form_in text → HasFormCard header i
form_card_there header i text some e = by_card (tform_card header i) refl e
  where
    by_card : (o : Option ℕ) → tform_card header i ≡ o → option_and_then form_in (text_at header o) ≡ form_in text → HasFormCard header i
    by_card None same is = let none : false ≡ true = ap is_some is ∙ some in absurd cc
    by_card (Some k) same is =
        let found = named_first (numbered_name (codes "TFORM") i) header k same in
        record { index = k; is = same; within = found.0; name = found.1 }

fits_name : (i : ℕ) → 1 ≤ i → i < 10 → FitsName (codes "TFORM") i
fits_name i low high = (omega arith, omega arith)

pub form_card : CardLaws → (file : List ℕ) (h : Header) (i : ℕ) (letters : List ℕ) (most : ℕ) (wide : Bool) → (has : HasFormCard (header_in file h) i) → length (header_in file h) ≤ 2880 * h.blocks → 1 ≤ i → i < 10 →
    IsCardText (descriptor_form wide letters most) → form_of (header_in file h) i ≡ form_in (descriptor_form wide letters most) →
    IsCardWrite file h (card_write h (unwrap_or (tform_card (header_in file h) i) 0) (numbered_word_card (codes "TFORM") i (descriptor_form wide letters most)))
form_card laws file h i letters most wide has room low high text says =
    let header : List ℕ = header_in file h in
    let name : List ℕ = numbered_name (codes "TFORM") i in
    let words : List ℕ = descriptor_form wide letters most in
    let eight : length name ≡ 8 = laws.numbers.eight_bytes (codes "TFORM") i (fits_name i low high) in
    let within = has.within in
    let reads : text_of (text_card_bytes name words) ≡ Some words = (laws.values.text (text_card_bytes name words) words).0 (laws.made.text_value name words eight text) in
    record {
      index = has.index;
      place = ap (λ o. h.start + 80 * unwrap_or o 0) has.is;
      long = laws.made.text_length name words eight text.fits;
      within = omega arith;
      amends =
          inr (
            laws.made.text_name name words eight ∙ sym has.name,
            inr (inr (inl (record {
              name = record { number = i; low = low; high = omega arith; made = has.name };
              form = ap (option_and_then form_in) reads ∙ (sym says ∙ ap (λ o. option_and_then form_in (text_at header o)) has.is);
            }))),
          );
    }

-- ---- DATASUM and CHECKSUM

-- the card of a sum that is told has its name, and lies before END
pub told_card : (name header : List ℕ) (i : ℕ) → told_sum name header ≡ Some i → (80 * (i + 1) ≤ length header) × (80 * i < length header) × (card_name (card_at header i) ≡ name)
told_card name header i e = by_test (is_some_text (option_and_then text_of (first_of_name name (cards_of header)))) e
  where
    by_test : (b : Bool) → (if b then index_of name (cards_of header) else None) ≡ Some i → (80 * (i + 1) ≤ length header) × (80 * i < length header) × (card_name (card_at header i) ≡ name)
    by_test false is = absurd cc
    by_test true is =
        let n : ℕ = unwrap_or (end_of header) 0 in
        let found = position-Some (has_name name) (cards_of header) i [] is in
        let many : length (cards_of header) ≡ n = length-map-range_with_len (card_at header) 0 n in
        let below : i < n = subst (λ m. i < m) many found.0 in
        let same : slice_index_or (cards_of header) i [] ≡ card_at header i = get_or-map-range_with_len (card_at header) 0 n i i [] below (omega arith) in
        let whole = whole_card header i below in
        (whole, omega arith, is_named_so (card_name (card_at header i)) name (sym (ap (has_name name) same) ∙ found.1))

-- a card of a sum in its place, by the names of the cards of the file as it was
pub sum_card : (base new : List ℕ) (h : Header) (i : ℕ) (name card : List ℕ) → (name ≡ datasum_name) ⊎ (name ≡ checksum_name) → length card ≡ 80 → card_name card ≡ name →
    length (header_in new h) ≤ 2880 * h.blocks → 80 * (i + 1) ≤ length (header_in new h) → card_name (card_at (header_in new h) i) ≡ name → card_name (card_at (header_in new h) i) ≡ card_name (card_at (header_in base h) i) →
    IsCardWrite base h (card_write h i card)
sum_card base new h i name card which long named room within there same = record {
  index = i;
  place = refl;
  long = long;
  within = omega arith;
  amends = inr (named ∙ was, by_name which);
}
  where
    was : name ≡ card_name (card_at (header_in base h) i)
    was = sym there ∙ same

    by_name : (name ≡ datasum_name) ⊎ (name ≡ checksum_name) → IsChanged (card_at (header_in base h) i) card
    by_name (inl e) = inl (sym was ∙ e)
    by_name (inr e) = inr (inl (sym was ∙ e))
