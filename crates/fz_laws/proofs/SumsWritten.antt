-- After all writes of a patch no checksum of the image is wrong.
use Rattle.std.proofs.Common.{◌≡◌, ◌≢◌, ◌⊎◌, inl, inr, ℕ, zero, suc, ◌+◌, ◌-◌, ◌*◌, ◌^◌, ◌<◌, ◌≤◌, ◌↔◌, ◌==◌, ◌&&◌, ◌||◌, not, nat_lt, cond, max, Bool, true, false, List, [], ◌∷◌, ◌++◌, length, take, drop, map, slice_index, slice_index_or, bytes_eq, codes, decimal, Option, Some, None, unwrap_or, IsTrue, if◌then◌else◌, refl, sym, ap, ◌∙◌, subst, arith, append_assoc, length-drop, length-take-le, lt-ltb, eqb-true}
use Rattle.std.specs.Char.{is_ascii_alphanumeric}
use Rattle.std.specs.List.{list_all, position, position_or_len, range_with_len}
use Rattle.std.specs.Option.{option_and_then}
use Rattle.std.specs.Str.{byte}
use Rattle.std.proofs.Math.Seq.{drop-append-add, drop-append_seam, take-append_seam}
use Rattle.std.proofs.lemmas.Bool.{cases_lt}
use Rattle.std.proofs.lemmas.List.{drop-append-le, take-append-le}
use Rattle.std.proofs.lemmas.List.Folds.{list_all_at}
use Rattle.std.proofs.lemmas.List.FromFn.{get_or-map-range_with_len, length-map-range_with_len}
use Rattle.std.proofs.lemmas.List.Quantifiers.{position-Some}
use Rattle.std.proofs.lemmas.Slice.Eq.{bytes_eq-Decides}
use Rattle.fz_base.specs.Counts.{Amend}
use Rattle.fz_block.specs.Cards.{card_at, end_of}
use Rattle.fz_block.specs.Hdus.{cards_of}
use Rattle.fz_block.specs.Header.{data_start_of, whole_blocks_of}
use Rattle.fz_block.specs.Walk.{hdu_of}
use Rattle.fz_block.specs.declared.header.Header.{Header}
use Rattle.fz_card.specs.CardLists.{IsFirstOfName, first_of_name, has_name}
use Rattle.fz_card.specs.Laws.{CardLaws}
use Rattle.fz_card.specs.Layout.{card_name}
use Rattle.fz_card.specs.Made.{IsCardText}
use Rattle.fz_card.specs.Reading.{text_of}
use Rattle.fz_sum.specs.Cards.{blank_checksum_card, checksum_card, checksum_name, datasum_card, datasum_name, with_card}
use Rattle.fz_sum.specs.Characters.{byte_characters, characters}
use Rattle.fz_sum.specs.Sums.{ones_sum}
use Rattle.fz_sum.specs.Texts.{CardGivesSum}
use Rattle.fz_sum.specs.Verdicts.{HasSumText, IsChecksumVerdict, IsDatasumVerdict, checksum_verdict, datasum_verdict, is_some_text}
use Rattle.fz_sum.specs.declared.verdicts.Verdict.{Verdict}
use Rattle.fz_sum.specs.declared.verdicts.Verdict.TheVariants.{Absent, Right}
use Rattle.fz_head.specs.CardLists.{index_of}
use Rattle.fz_laws.specs.Writes.{told_sum}
use Rattle.fz_laws.proofs.Passes.{and_left, and_right, is_named_so}

-- what is taken of the laws of sums
pub record VerdictLaws : Type 0 where
  pub cards : CardLaws
  pub found : (name card : List ℕ) (cards : List (List ℕ)) → (first_of_name name cards ≡ Some card) ↔ IsFirstOfName name cards card
  pub gives : (sum : ℕ) → sum < 2 ^ 32 → CardGivesSum (datasum_card sum) sum
  pub ones : (i : ℕ) (bytes : List ℕ) → take 80 (drop (80 * i) bytes) ≡ blank_checksum_card → ones_sum (with_card i (checksum_card (ones_sum bytes)) bytes) ≡ 4294967295
  pub letters : (sum : ℕ) → IsTrue (list_all is_ascii_alphanumeric (characters sum))
  pub data_verdict : (cards : List (List ℕ)) (payload : List ℕ) (v : Verdict) → IsDatasumVerdict cards payload v ↔ (datasum_verdict cards payload ≡ v)
  pub hdu_verdict : (cards : List (List ℕ)) (header payload : List ℕ) (v : Verdict) → IsChecksumVerdict cards header payload v ↔ (checksum_verdict cards header payload ≡ v)
  pub there : (i : ℕ) (card bytes : List ℕ) → length card ≡ 80 → 80 * (i + 1) ≤ length bytes → take 80 (drop (80 * i) (with_card i card bytes)) ≡ card

-- ---- the card CHECKSUM has a text

characters_len : (sum : ℕ) → length (characters sum) ≡ 16
unfolding characters byte_characters
characters_len sum = refl

letter_unquoted : (b : ℕ) → is_ascii_alphanumeric b ≡ true → not (b == byte "'") ≡ true
letter_unquoted b e = by_test (b == byte "'") refl
  where
    by_test : (quote : Bool) → (b == byte "'") ≡ quote → not quote ≡ true
    by_test true is = let clash : is_ascii_alphanumeric 39 ≡ true = ap is_ascii_alphanumeric (sym (eqb-true b 39 is)) ∙ e in absurd cc
    by_test false is = refl

letters_unquoted : (text : List ℕ) → list_all is_ascii_alphanumeric text ≡ true → list_all (λ b. not (b == byte "'")) text ≡ true
letters_unquoted [] e = refl
letters_unquoted (b ∷ text) e =
    let one = and_left (is_ascii_alphanumeric b) (list_all is_ascii_alphanumeric text) e in
    let rest = and_right (is_ascii_alphanumeric b) (list_all is_ascii_alphanumeric text) e in
    λ i. letter_unquoted b one i && letters_unquoted text rest i

no_clash : (b : Bool) → b ≡ true → b ≡ false → ⊥
no_clash true e f = absurd cc
no_clash false e f = absurd cc

letters_trimmed : (text : List ℕ) → 0 < length text → list_all is_ascii_alphanumeric text ≡ true → slice_index text (length text - 1) ≢ byte " "
letters_trimmed text some e is =
    let last : length text - 1 < length text = omega (arith, some) in
    let none : is_ascii_alphanumeric (slice_index text (length text - 1)) ≡ false = ap is_ascii_alphanumeric is in
    no_clash (list_all is_ascii_alphanumeric text) e (list_all_at is_ascii_alphanumeric text (length text - 1) 0 last none)

characters_are : VerdictLaws → (sum : ℕ) → IsCardText (characters sum)
characters_are laws sum =
    let len = characters_len sum in
    let few : length (characters sum) ≤ 68 = omega (arith, len) in
    let some : 0 < length (characters sum) = omega (arith, len) in
    record { fits = few; unquoted = letters_unquoted (characters sum) (laws.letters sum); trimmed = letters_trimmed (characters sum) some (laws.letters sum) }

checksum_tells : VerdictLaws → (sum : ℕ) → HasSumText (checksum_card sum)
unfolding checksum_card
checksum_tells laws sum = record {
  text = characters sum;
  has = laws.cards.made.text_value checksum_name (characters sum) refl (characters_are laws sum);
  some = λ none. let zero : length (characters sum) ≡ 0 = ap length none in absurd (omega (arith, zero, characters_len sum));
}

-- ---- a card in place of another

with_twice : (i : ℕ) (c d h : List ℕ) → length c ≡ 80 → 80 * (i + 1) ≤ length h → with_card i d (with_card i c h) ≡ with_card i d h
with_twice i c d h size room =
    let a : ℕ = 80 * i in
    let rest : List ℕ = drop (80 * (i + 1)) h in
    let front_len : length (take a h) ≡ a = length-take-le a h (omega arith) in
    let front : take a (take a h ++ (c ++ rest)) ≡ take a h = ap (λ n. take n (take a h ++ (c ++ rest))) (sym front_len) ∙ take-append_seam (take a h) (c ++ rest) in
    let place : 80 * (i + 1) ≡ length (take a h) + length c = omega arith in
    let behind : drop (80 * (i + 1)) (take a h ++ (c ++ rest)) ≡ rest =
    ap (λ n. drop n (take a h ++ (c ++ rest))) place ∙ (drop-append-add (take a h) (c ++ rest) (length c) ∙ drop-append_seam c rest) in
    λ j. front j ++ (d ++ behind j)

with_behind : (i : ℕ) (c h p : List ℕ) → 80 * (i + 1) ≤ length h → with_card i c (h ++ p) ≡ with_card i c h ++ p
with_behind i c h p room =
    let front : take (80 * i) (h ++ p) ≡ take (80 * i) h = take-append-le (80 * i) h p (omega arith) in
    let behind : drop (80 * (i + 1)) (h ++ p) ≡ drop (80 * (i + 1)) h ++ p = drop-append-le (80 * (i + 1)) h p room in
    (λ j. front j ++ (c ++ behind j))
    ∙ (ap (λ l. take (80 * i) h ++ l) (sym (append_assoc c (drop (80 * (i + 1)) h) p))
    ∙ sym (append_assoc (take (80 * i) h) (c ++ drop (80 * (i + 1)) h) p))

-- ---- the first card of a name

pub record IsFirst (name header : List ℕ) (i : ℕ) : Type 0 where
  pub below : i < unwrap_or (end_of header) 0
  pub named : card_name (card_at header i) ≡ name
  pub first : (k : ℕ) → k < i → card_name (card_at header k) ≢ name

card_of : (header : List ℕ) (i : ℕ) → i < unwrap_or (end_of header) 0 → slice_index_or (cards_of header) i [] ≡ card_at header i
card_of header i below = get_or-map-range_with_len (card_at header) 0 (unwrap_or (end_of header) 0) i i [] below (omega arith)

cards_count : (header : List ℕ) → length (cards_of header) ≡ unwrap_or (end_of header) 0
cards_count header = length-map-range_with_len (card_at header) 0 (unwrap_or (end_of header) 0)

pub is_first : (name header : List ℕ) (i : ℕ) → IsFirst name header i → IsFirstOfName name (cards_of header) (card_at header i)
is_first name header i is = record {
  index = i;
  within = subst (λ n. i < n) (sym (cards_count header)) is.below;
  stands = card_of header i is.below;
  named = is.named;
  first = λ k less same. let low = is.below in is.first k less (ap card_name (sym (card_of header k (omega arith))) ∙ same);
}

pub first_is : (name header card : List ℕ) → (f : IsFirstOfName name (cards_of header) card) → IsFirst name header f.index × (card ≡ card_at header f.index)
first_is name header card f =
    let below : f.index < unwrap_or (end_of header) 0 = subst (λ n. f.index < n) (cards_count header) f.within in
    let card_here : card ≡ card_at header f.index = sym f.stands ∙ card_of header f.index below in (
      record {
        below = below;
        named = ap card_name (sym card_here) ∙ f.named;
        first = λ k less same. f.first k less (ap card_name (card_of header k (omega arith)) ∙ same);
      },
      card_here,
    )

-- there is one first card at most
pub one_first : (name header : List ℕ) (i j : ℕ) → IsFirst name header i → IsFirst name header j → i ≡ j
one_first name header i j a b = by_order (cases_lt i j) (cases_lt j i)
  where
    by_order : (i < j) ⊎ (j ≤ i) → (j < i) ⊎ (i ≤ j) → i ≡ j
    by_order (inl less) other = absurd (b.first i less a.named)
    by_order (inr low) (inl less) = absurd (a.first j less b.named)
    by_order (inr low) (inr high) = omega arith

named_test : (name other : List ℕ) → other ≡ name → bytes_eq other name ≡ true
named_test name other same = (bytes_eq-Decides other name).1 same

pub told_first : (name header : List ℕ) (i : ℕ) → told_sum name header ≡ Some i → IsFirst name header i
told_first name header i e = by_test (is_some_text (option_and_then text_of (first_of_name name (cards_of header)))) e
  where
    by_test : (b : Bool) → (if b then index_of name (cards_of header) else None) ≡ Some i → IsFirst name header i
    by_test false is = absurd cc
    by_test true is =
        let found = position-Some (has_name name) (cards_of header) i [] is in
        let below : i < unwrap_or (end_of header) 0 = subst (λ m. i < m) (cards_count header) found.0 in
        record {
          below = below;
          named = is_named_so (card_name (card_at header i)) name (sym (ap (has_name name) (card_of header i below)) ∙ found.1);
          first = λ k less same.
              let not_here : has_name name (card_at header k) ≡ false = sym (ap (has_name name) (card_of header k (omega arith))) ∙ found.2 k less in
              let here : has_name name (card_at header k) ≡ true = named_test name (card_name (card_at header k)) same in
              no_clash (has_name name (card_at header k)) here not_here;
        }

-- where no sum is told, the first card of the name has no text
len_low : (p : List ℕ → Bool) (xs : List (List ℕ)) (i : ℕ) → i < length xs → p (slice_index_or xs i []) ≡ true → position_or_len p xs ≤ i
len_low p [] i less e = absurd (omega arith)
len_low p (x ∷ xs) zero less e = subst (λ b. cond (not b) (1 + position_or_len p xs) 0 ≤ 0) (sym e) (omega arith)
len_low p (x ∷ xs) (suc i) less e =
    let rest : position_or_len p xs ≤ i = len_low p xs i (omega arith) e in
    by_test (p x) rest
  where
    by_test : (b : Bool) → position_or_len p xs ≤ i → cond (not b) (1 + position_or_len p xs) 0 ≤ suc i
    by_test true rest = omega arith
    by_test false rest = omega arith

never_none : (p : List ℕ → Bool) (xs : List (List ℕ)) (i : ℕ) → i < length xs → p (slice_index_or xs i []) ≡ true → position p xs ≡ None → ⊥
never_none p xs i less e none =
    let low : position_or_len p xs ≤ i = len_low p xs i less e in
    let test : nat_lt (position_or_len p xs) (length xs) ≡ true = lt-ltb (position_or_len p xs) (length xs) (omega arith) in
    let some : Some (position_or_len p xs) ≡ None = sym (ap (λ b. cond b (Some (position_or_len p xs)) None) test) ∙ none in
    cc

some_bytes : (text : List ℕ) → text ≢ [] → nat_lt 0 (length text) ≡ true
some_bytes [] none = absurd (none refl)
some_bytes (b ∷ text) some = lt-ltb 0 (length (b ∷ text)) (omega arith)

pub told_none : VerdictLaws → (name header : List ℕ) (i : ℕ) → told_sum name header ≡ None → IsFirst name header i → HasSumText (card_at header i) → ⊥
told_none laws name header i none is text =
    let card : List ℕ = card_at header i in
    let cards : List (List ℕ) = cards_of header in
    let first : first_of_name name cards ≡ Some card = (laws.found name card cards).1 (is_first name header i is) in
    let reads : text_of card ≡ Some text.text = (laws.cards.values.text card text.text).0 text.has in
    let tells : is_some_text (option_and_then text_of (first_of_name name cards)) ≡ true =
    ap (λ o. is_some_text (option_and_then text_of o)) first ∙ (ap is_some_text reads ∙ some_bytes text.text text.some) in
    let found : position (has_name name) cards ≡ None = sym (ap (λ b. if b then index_of name cards else None) tells) ∙ none in
    never_none (has_name name) cards i (subst (λ n. i < n) (sym (cards_count header)) is.below)
    (ap (has_name name) (card_of header i is.below) ∙ named_test name (card_name card) is.named) found

-- ---- the verdicts, by two headers whose cards have the same names

pub record AreNamedAlike (old new : List ℕ) : Type 0 where
  pub ends : end_of new ≡ end_of old
  pub names : (i : ℕ) → i < unwrap_or (end_of old) 0 → card_name (card_at new i) ≡ card_name (card_at old i)

pub first_back : (name old new : List ℕ) (i : ℕ) → AreNamedAlike old new → IsFirst name new i → IsFirst name old i
first_back name old new i alike is =
    let below : i < unwrap_or (end_of old) 0 = subst (λ o. i < unwrap_or o 0) alike.ends is.below in
    record {
      below = below;
      named = sym (alike.names i below) ∙ is.named;
      first = λ k less same. is.first k less (alike.names k (omega arith) ∙ same);
    }

pub first_on : (name old new : List ℕ) (i : ℕ) → AreNamedAlike old new → IsFirst name old i → IsFirst name new i
first_on name old new i alike is =
    let low = is.below in
    record {
      below = subst (λ o. i < unwrap_or o 0) (sym alike.ends) is.below;
      named = alike.names i is.below ∙ is.named;
      first = λ k less same. is.first k less (sym (alike.names k (omega arith)) ∙ same);
    }

-- no sum told, and the card stays: none is wrong
pub data_absent : VerdictLaws → (old new payload : List ℕ) → AreNamedAlike old new → told_sum datasum_name old ≡ None → ((i : ℕ) → IsFirst datasum_name old i → card_at new i ≡ card_at old i) →
    datasum_verdict (cards_of new) payload ≡ Absent
data_absent laws old new payload alike none stays =
    (laws.data_verdict (cards_of new) payload Absent).0
    (λ card first text.
    let found = first_is datasum_name new card first in
    let was : IsFirst datasum_name old first.index = first_back datasum_name old new first.index alike found.0 in
    told_none laws datasum_name old first.index none was (subst HasSumText (found.1 ∙ stays first.index was) text))

pub hdu_absent : VerdictLaws → (old new payload : List ℕ) → AreNamedAlike old new → told_sum checksum_name old ≡ None → ((i : ℕ) → IsFirst checksum_name old i → card_at new i ≡ card_at old i) →
    checksum_verdict (cards_of new) new payload ≡ Absent
hdu_absent laws old new payload alike none stays =
    (laws.hdu_verdict (cards_of new) new payload Absent).0
    (λ card first text.
    let found = first_is checksum_name new card first in
    let was : IsFirst checksum_name old first.index = first_back checksum_name old new first.index alike found.0 in
    told_none laws checksum_name old first.index none was (subst HasSumText (found.1 ∙ stays first.index was) text))

-- the sum of the data is in the card
pub data_right : VerdictLaws → (old new payload : List ℕ) (i : ℕ) → AreNamedAlike old new → told_sum datasum_name old ≡ Some i → card_at new i ≡ datasum_card (ones_sum payload) → ones_sum payload < 2 ^ 32 →
    datasum_verdict (cards_of new) payload ≡ Right
data_right laws old new payload i alike told there fits =
    let is : IsFirst datasum_name new i = first_on datasum_name old new i alike (told_first datasum_name old i told) in
    (laws.data_verdict (cards_of new) payload Right).0
    (datasum_card (ones_sum payload), subst (IsFirstOfName datasum_name (cards_of new)) there (is_first datasum_name new i is), laws.gives (ones_sum payload) fits)

-- and that of the HDU is all ones
pub hdu_right : VerdictLaws → (old new payload : List ℕ) (i : ℕ) → AreNamedAlike old new → told_sum checksum_name old ≡ Some i → 80 * (i + 1) ≤ length old →
    length blank_checksum_card ≡ 80 → length (checksum_card (ones_sum (with_card i blank_checksum_card old ++ payload))) ≡ 80 →
    length (with_card i blank_checksum_card old) ≡ length old →
    new ≡ with_card i (checksum_card (ones_sum (with_card i blank_checksum_card old ++ payload))) old → checksum_verdict (cards_of new) new payload ≡ Right
hdu_right laws old new payload i alike told room blank long same_len new_is =
    let b : List ℕ = with_card i blank_checksum_card old in
    let bytes : List ℕ = b ++ payload in
    let card : List ℕ = checksum_card (ones_sum bytes) in
    let room_b : 80 * (i + 1) ≤ length b = omega arith in
    let is : IsFirst checksum_name new i = first_on checksum_name old new i alike (told_first checksum_name old i told) in
    let there : card_at new i ≡ card = ap (λ l. card_at l i) new_is ∙ laws.there i card old long room in
    let blank_there : take 80 (drop (80 * i) bytes) ≡ blank_checksum_card =
    ap (take 80) (drop-append-le (80 * i) b payload (omega arith))
    ∙ (take-append-le 80 (drop (80 * i) b) payload (let left : length (drop (80 * i) b) ≡ length b - 80 * i = length-drop (80 * i) b in omega arith)
    ∙ laws.there i blank_checksum_card old blank room) in
    let whole : with_card i card bytes ≡ new ++ payload =
    with_behind i card b payload room_b
    ∙ (ap (λ l. l ++ payload) (with_twice i blank_checksum_card card old blank room)
    ∙ ap (λ l. l ++ payload) (sym new_is)) in
    let all_ones : ones_sum (new ++ payload) ≡ 4294967295 = sym (ap ones_sum whole) ∙ laws.ones i bytes blank_there in
    (laws.hdu_verdict (cards_of new) new payload Right).0
    (card, subst (IsFirstOfName checksum_name (cards_of new)) there (is_first checksum_name new i is), checksum_tells laws (ones_sum bytes), all_ones)
