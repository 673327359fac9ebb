-- The cards, codes and rows that a patch writes have places beside the bytes that are kept (FITS 4.0, sections 4.4.2.7, 7.3.1 and 7.3.5).
use Rattle.std.proofs.Common.{◌≡◌, ◌⊎◌, inl, inr, ℕ, ◌+◌, ◌-◌, ◌*◌, ◌^◌, ◌<◌, ◌≤◌, ◌==◌, Bool, true, false, List, [], ◌∷◌, ◌++◌, length, replicate, map, All, Option, Some, None, if◌then◌else◌, refl, sym, ap, ◌∙◌, subst, arith}
use Rattle.std.specs.Prelude.{IfSome}
use Rattle.std.specs.List.{AllByRecursion}
use Rattle.std.proofs.lemmas.Bool.{cases_lt}
use Rattle.std.proofs.lemmas.List.Elements.{All-append, All-cons, All-nil}
use Rattle.fz_base.specs.Counts.{Amend}
use Rattle.fz_base.specs.Ranges.{LiesIn}
use Rattle.fz_block.specs.Hdus.{cards_of, pcount_index}
use Rattle.fz_block.specs.Walk.{hdu_of}
use Rattle.fz_block.specs.declared.header.Header.{Header}
use Rattle.fz_sum.specs.Cards.{blank_checksum_card, checksum_card, checksum_name, datasum_card, datasum_name, with_card}
use Rattle.fz_sum.specs.Sums.{ones_sum}
use Rattle.fz_table.specs.Rows.{row_start}
use Rattle.fz_table.specs.declared.table.Table.{Table}
use Rattle.fz_head.specs.PackedHeader.{coded_letter, stored_letter}
use Rattle.fz_head.specs.PackedPlan.{plan_of_cards}
use Rattle.fz_head.specs.declared.plan.Plan.{Plan}
use Rattle.fz_files.specs.FirstFault.{picked_tiles_of}
use Rattle.fz_laws.specs.Amends.{IsOutside, amend_of}
use Rattle.fz_laws.specs.Grown.{IsFormFor, form_index}
use Rattle.fz_laws.specs.Writes.{card_write, told_sum, zero_writes}
use Rattle.fz_patch.specs.Cards.{HasPlaces, checksum_write, datasum_write, form_card_of, form_write, forms_writes, pcount_at, pcount_card, sums_writes, with_datasum}
use Rattle.fz_patch.specs.Kept.{card_range, form_ranges, row_ranges, sum_ranges, told_range}
use Rattle.fz_patch.specs.declared.column.Forms.{Forms}
use Rattle.fz_patch.specs.declared.places.Places.{Places}
use Rattle.fz_target.specs.Measures.{HasRoom}
use Rattle.fz_target.specs.Targets.{IsFoundBy, IsTarget}
use Rattle.fz_target.specs.declared.measure.Measure.{Measure}
use Rattle.fz_target.specs.declared.target.Target.{Target}
use Rattle.fz_patch.proofs.CodedEnds.{ends_of}
use Rattle.fz_patch.proofs.StepHeaders.{StepLaws, bits, card_long, form, pcount_place}

-- ---- ranges

pub lies_left : (xs ys : List (ℕ × ℕ)) (i : ℕ) → LiesIn xs i → LiesIn (xs ++ ys) i
lies_left [] ys i lies = absurd lies
lies_left (x ∷ xs) ys i (inl here) = inl here
lies_left (x ∷ xs) ys i (inr later) = inr (lies_left xs ys i later)

pub lies_right : (xs ys : List (ℕ × ℕ)) (i : ℕ) → LiesIn ys i → LiesIn (xs ++ ys) i
lies_right [] ys i lies = lies
lies_right (x ∷ xs) ys i lies = inr (lies_right xs ys i lies)

outside : (start len i : ℕ) → ¬ ((start ≤ i) × (i < start + len)) → (i < start) ⊎ (start + len ≤ i)
outside start len i not = by_order (cases_lt i start) (cases_lt i (start + len))
  where
    by_order : (i < start) ⊎ (start ≤ i) → (i < start + len) ⊎ (start + len ≤ i) → (i < start) ⊎ (start + len ≤ i)
    by_order (inl low) other = inl low
    by_order (inr from) (inl to) = absurd (not (from, to))
    by_order (inr from) (inr high) = inr high

-- ---- a card

card_outside : (h : Header) (k i : ℕ) (card : List ℕ) → length card ≡ 80 → ¬ LiesIn (card_range h k ∷ []) i → IsOutside i (card_write h k card)
card_outside h k i card eighty not =
    subst (λ n. (i < h.start + 80 * k) ⊎ (h.start + 80 * k + n ≤ i)) (sym eighty) (outside (h.start + 80 * k) 80 i (λ here. not (inl here)))

told_outside : (h : Header) (o : Option ℕ) (i k : ℕ) → o ≡ Some k → ¬ LiesIn (told_range h o) i → ¬ LiesIn (card_range h k ∷ []) i
told_outside h o i k is not = subst (λ (p : Option ℕ). ¬ LiesIn (told_range h p) i) is not

-- ---- the cards of the checksums

-- what is taken of the cards of checksums: all have 80 bytes
pub record SumCardsAreWhole : Type 0 where
  pub datasum : (sum : ℕ) → sum < 2 ^ 32 → length (datasum_card sum) ≡ 80
  pub checksum : (sum : ℕ) → length (checksum_card sum) ≡ 80
  pub fits : (bytes : List ℕ) → ones_sum bytes < 2 ^ 32

module _ (whole : SumCardsAreWhole) (h : Header) (i : ℕ) where
  datasum_outside : (o : Option ℕ) (bytes : List ℕ) → ¬ LiesIn (told_range h o) i → All (IsOutside i) (datasum_write h o (ones_sum bytes))
  datasum_outside None bytes not = All-nil (IsOutside i)
  datasum_outside (Some k) bytes not =
      All-cons (IsOutside i) _ [] (card_outside h k i (datasum_card (ones_sum bytes)) (whole.datasum (ones_sum bytes) (whole.fits bytes)) not) (All-nil (IsOutside i))

  checksum_outside : (o : Option ℕ) (payload header : List ℕ) → ¬ LiesIn (told_range h o) i → All (IsOutside i) (checksum_write h o payload header)
  checksum_outside None payload header not = All-nil (IsOutside i)
  checksum_outside (Some k) payload header not =
      All-cons (IsOutside i) _ [] (card_outside h k i (checksum_card (ones_sum (with_card k blank_checksum_card header ++ payload))) (whole.checksum _) not) (All-nil (IsOutside i))

  both_outside : (file new : List ℕ) → ¬ LiesIn (sum_ranges new h) i → All (IsOutside i) (sums_writes h file new)
  both_outside file new not =
      let payload : List ℕ = (hdu_of file h).payload in
      let first : Option ℕ = told_sum datasum_name new in
      let second : Option ℕ = told_sum checksum_name new in
      All-append (IsOutside i) (datasum_write h first (ones_sum payload)) (checksum_write h second payload (with_datasum first (ones_sum payload) new))
      (datasum_outside first payload (λ lies. not (lies_left (told_range h first) (told_range h second) i lies)))
      (checksum_outside second payload (with_datasum first (ones_sum payload) new) (λ lies. not (lies_right (told_range h first) (told_range h second) i lies)))

  -- which are told as before
  pub sums_outside : (file new header : List ℕ) → told_sum datasum_name new ≡ told_sum datasum_name header → told_sum checksum_name new ≡ told_sum checksum_name header → ¬ LiesIn (sum_ranges header h) i →
      All (IsOutside i) (sums_writes h file new)
  sums_outside file new header first second not =
      both_outside file new (subst (λ (o : Option ℕ). ¬ LiesIn (told_range h o ++ told_range h (told_sum checksum_name new)) i) (sym first)
      (subst (λ (o : Option ℕ). ¬ LiesIn (told_range h (told_sum datasum_name header) ++ told_range h o) i) (sym second) not))

-- ---- codes and zeros

pub zeros_outside : (at end start i : ℕ) → start ≤ at → i < start → All (IsOutside i) (zero_writes at end)
zeros_outside at end start i high low = by_test (at == end)
  where
    by_test : (b : Bool) → All (IsOutside i) (if b then [] else amend_of at (replicate (end - at) 0) ∷ [])
    by_test true = All-nil (IsOutside i)
    by_test false = All-cons (IsOutside i) _ [] (inl (omega (arith, high, low))) (All-nil (IsOutside i))

-- ---- rows

-- a byte is in none of the rows of the tiles in the box
abbrev pub IsNoBoxRow : Target → ℕ → Type 0
IsNoBoxRow t i = ¬ LiesIn (row_ranges t.image.table (picked_tiles_of t.image.plan t.sieve)) i

row_lies : (t : Table) (front : List ℕ) (tile : ℕ) (after : List ℕ) (i : ℕ) → (row_start t tile ≤ i) × (i < row_start t tile + t.row_bytes) → LiesIn (row_ranges t (front ++ tile ∷ after)) i
row_lies t [] tile after i here = inl here
row_lies t (x ∷ front) tile after i here = inr (row_lies t front tile after i here)

-- the row of one of these tiles
pub row_outside : (t : Table) (tiles front after : List ℕ) (tile : ℕ) (row : List ℕ) (i : ℕ) → tiles ≡ front ++ tile ∷ after → length row ≡ t.row_bytes → ¬ LiesIn (row_ranges t tiles) i →
    IsOutside i (amend_of (row_start t tile) row)
row_outside t tiles front after tile row i parts long not =
    let out : (i < row_start t tile) ⊎ (row_start t tile + t.row_bytes ≤ i) =
    outside (row_start t tile) t.row_bytes i (λ here. not (subst (λ l. LiesIn (row_ranges t l) i) (sym parts) (row_lies t front tile after i here))) in
    subst (λ n. (i < row_start t tile) ⊎ (row_start t tile + n ≤ i)) (sym long) out

-- ---- PCOUNT and the forms

three_left : (a b c : ℕ × ℕ) (i : ℕ) → ¬ LiesIn (a ∷ (b ∷ (c ∷ []))) i → ¬ LiesIn (a ∷ []) i
three_left a b c i not (inl here) = not (inl here)
three_left a b c i not (inr none) = absurd none

three_mid : (a b c : ℕ × ℕ) (i : ℕ) → ¬ LiesIn (a ∷ (b ∷ (c ∷ []))) i → ¬ LiesIn (b ∷ []) i
three_mid a b c i not (inl here) = not (inr (inl here))
three_mid a b c i not (inr none) = absurd none

three_right : (a b c : ℕ × ℕ) (i : ℕ) → ¬ LiesIn (a ∷ (b ∷ (c ∷ []))) i → ¬ LiesIn (c ∷ []) i
three_right a b c i not (inl here) = not (inr (inr (inl here)))
three_right a b c i not (inr none) = absurd none

at_place : (h : Header) (k n i : ℕ) → k ≡ n → ¬ LiesIn (card_range h n ∷ []) i → ¬ LiesIn (card_range h k ∷ []) i
at_place h k n i same not = subst (λ j. ¬ LiesIn (card_range h j ∷ []) i) (sym same) not

module _ (laws : StepLaws) (t : Target) (header : List ℕ) (places : Places) (m : Measure) (forms : Forms) (is : IsTarget t) (by : IsFoundBy header t) (at : HasPlaces header places) (room : HasRoom t m) (small : IfSome forms.coded (λ n. n < 2 ^ 64) × IfSome forms.stored (λ n. n < 2 ^ 64)) (i : ℕ) where
  form_outside : (column place : ℕ) (letter : List ℕ) (most : Option ℕ) → ((n : ℕ) → n < 2 ^ 64 → length (form_card_of t column letter n) ≡ 80) → IfSome most (λ n. n < 2 ^ 64) → ¬ LiesIn (card_range t.header place ∷ []) i →
      All (IsOutside i) (form_write t column place letter most)
  form_outside column place letter None long few not = All-nil (IsOutside i)
  form_outside column place letter (Some n) long few not = All-cons (IsOutside i) _ [] (card_outside t.header place i (form_card_of t column letter n) (long n few) not) (All-nil (IsOutside i))

  pub forms_outside : ¬ LiesIn (form_ranges header t.header) i → All (IsOutside i) (forms_writes t places m forms)
  forms_outside not =
      let h = t.header in
      let a : ℕ × ℕ = card_range h (pcount_index header) in
      let b : ℕ × ℕ = card_range h (form_index header 1) in
      let c : ℕ × ℕ = card_range h (form_index header 2) in
      let p = plan_of_cards (cards_of header) in
      let ends = ends_of t m room in
      let count = (laws.count header h (h.pcount + m.bytes) by.found (omega arith) ends.short).0 in
      let first = form_write t 1 places.coded (coded_letter t.image.plan.codec) forms.coded in
      let second = form_write t 2 places.stored (stored_letter t.image.plan.bitpix) forms.stored in
      let one = form_outside 1 places.coded (coded_letter t.image.plan.codec) forms.coded
      (λ n few. card_long laws t header places m forms is by at room small 1 (coded_letter t.image.plan.codec) n
      (subst (λ (q : Plan). IsFormFor header 1 (coded_letter q.codec) n) by.plan (laws.forms header h n by.found (bits laws t header places m forms is by at room small) (form laws t header places m forms is by at room small) few).0)) small.0
      (at_place h places.coded (form_index header 1) i at.coded (three_mid a b c i not)) in
      let two = form_outside 2 places.stored (stored_letter t.image.plan.bitpix) forms.stored
      (λ n few. card_long laws t header places m forms is by at room small 2 (stored_letter t.image.plan.bitpix) n
      (subst (λ (q : Plan). IsFormFor header 2 (stored_letter q.bitpix) n) by.plan (laws.forms header h n by.found (bits laws t header places m forms is by at room small) (form laws t header places m forms is by at room small) few).1)) small.1
      (at_place h places.stored (form_index header 2) i at.stored (three_right a b c i not)) in
      All-cons (IsOutside i) (card_write h (pcount_at t) (pcount_card t m)) (first ++ second)
      (card_outside h (pcount_at t) i (pcount_card t m) count.long (at_place h (pcount_at t) (pcount_index header) i (pcount_place header h by.found.is_header) (three_left a b c i not)))
      (All-append (IsOutside i) first second one two)
