-- Whether numbers are in the range of BITPIX, and whether bytes are a line list, is decided by tests.
use Rattle.std.proofs.Common.{◌≡◌, ℕ, ◌-◌, ◌%◌, ◌^◌, ◌<◌, ◌≤◌, inl, inr, ◌==◌, ◌&&◌, ◌||◌, not, nat_lt, nat_le, Bool, true, false, ℤ, pos, negsuc, List, [], ◌∷◌, length, slice_index, Option, Some, None, if◌then◌else◌, refl, arith}
use Rattle.std.specs.Prelude.{⊤, All, Any, MatchOption}
use Rattle.std.specs.List.{list_any}
use Rattle.std.proofs.lemmas.List.Elements.{All-from_recursion, recursion_from_All}
use Rattle.std.proofs.lemmas.List.Folds.{Any-from_list_any, list_any-from_Any}
use Rattle.fz_bits.specs.Numbers.{IsNumber}
use Rattle.fz_plio.specs.Instructions.{Instruction}
use Rattle.fz_plio.specs.Meaning.{effect, expand, LeavesRange, SomeLeavesRange, AreRefused, past_end, out_of_range, no_high, unknown, no_second, IsRefused, odd, short, header_length, old_header, length_low, length_high, too_short, too_long, instruction, instructions_of, list_len}
use Rattle.fz_plio.specs.Words.{words}
use Rattle.fz_files.specs.RecordPixels.{any_of, are_numbers, has_no_high, has_no_second, instruction_tests, is_no_second, is_number, is_unknown, leaves_range, list_tests, some_leaves_range}
use Rattle.fz_laws.proofs.Tests.{AreFalse, and_false, and_true, eq_false, eq_true, le_false, le_true, lt_false, lt_true, none_of_them, not_false, not_true, one_of_them, or_false, or_true}

-- ---- the range of BITPIX

number_is : (w : ℕ) (x : ℤ) → is_number w x ≡ true → IsNumber w x
number_is w (pos n) e = lt_true n (if w == 8 then 2 ^ w else 2 ^ (w - 1)) e
number_is w (negsuc n) e =
    let both = and_true (not (w == 8)) (nat_lt n (2 ^ (w - 1))) e in
    (eq_false w 8 (not_true (w == 8) both.0), lt_true n (2 ^ (w - 1)) both.1)

number_is_not : (w : ℕ) (x : ℤ) → is_number w x ≡ false → IsNumber w x → ⊥
number_is_not w (pos n) e is =
    let more : (if w == 8 then 2 ^ w else 2 ^ (w - 1)) ≤ n = lt_false n (if w == 8 then 2 ^ w else 2 ^ (w - 1)) e in
    below_above n (if w == 8 then 2 ^ w else 2 ^ (w - 1)) is more
  where
    below_above : (a b : ℕ) → a < b → b ≤ a → ⊥
    below_above a b less more = absurd (omega (arith, less, more))
number_is_not w (negsuc n) e is = elim (and_false (not (w == 8)) (nat_lt n (2 ^ (w - 1))) e) [
  | inl same ↦ is.0 (eq_true w 8 (not_false (w == 8) same))
  | inr more ↦ let most = lt_false n (2 ^ (w - 1)) more in absurd (omega (arith, most, is.1))
]

abbrev Each : ℕ → List ℤ → Type 0
Each w [] = ⊤
Each w (x ∷ xs) = IsNumber w x × Each w xs

each_is : (w : ℕ) (xs : List ℤ) → are_numbers w xs ≡ true → Each w xs
unfolding are_numbers
each_is w [] e = tt
each_is w (x ∷ xs) e = let both = and_true (is_number w x) (are_numbers w xs) e in (number_is w x both.0, each_is w xs both.1)

each_is_not : (w : ℕ) (xs : List ℤ) → are_numbers w xs ≡ false → Each w xs → ⊥
unfolding are_numbers
each_is_not w [] e each = absurd cc
each_is_not w (x ∷ xs) e each = elim (and_false (is_number w x) (are_numbers w xs) e) [
  | inl none ↦ number_is_not w x none each.0
  | inr later ↦ each_is_not w xs later each.1
]

pub are_in_range : (w : ℕ) (xs : List ℤ) → are_numbers w xs ≡ true → All (IsNumber w) xs
are_in_range w xs e = All-from_recursion (IsNumber w) xs (each_is w xs e)

pub are_not_in_range : (w : ℕ) (xs : List ℤ) → are_numbers w xs ≡ false → All (IsNumber w) xs → ⊥
are_not_in_range w xs e all = each_is_not w xs e (recursion_from_All (IsNumber w) xs all)

-- ---- instructions

leaves : (h : ℕ) (i : Instruction) → leaves_range h i ≡ true → LeavesRange h i
leaves h i e = elim (or_true (((i.operation == 3) || (i.operation == 7)) && nat_lt h i.number) (nat_le (2 ^ 24) (effect h i).high) e) [
  | inl low ↦
      let both = and_true ((i.operation == 3) || (i.operation == 7)) (nat_lt h i.number) low in
      inl (elim (or_true (i.operation == 3) (i.operation == 7) both.0) [ inl a ↦ inl (eq_true i.operation 3 a) | inr b ↦ inr (eq_true i.operation 7 b) ], lt_true h i.number both.1)
  | inr high ↦ inr (le_true (2 ^ 24) (effect h i).high high)
]

leaves_not : (h : ℕ) (i : Instruction) → leaves_range h i ≡ false → LeavesRange h i → ⊥
leaves_not h i e is =
    let none = or_false (((i.operation == 3) || (i.operation == 7)) && nat_lt h i.number) (nat_le (2 ^ 24) (effect h i).high) e in
    elim is [
      | inl low ↦ elim (and_false ((i.operation == 3) || (i.operation == 7)) (nat_lt h i.number) none.0) [
        | inl other ↦
            let neither = or_false (i.operation == 3) (i.operation == 7) other in
            elim low.0 [ inl a ↦ eq_false i.operation 3 neither.0 a | inr b ↦ eq_false i.operation 7 neither.1 b ]
        | inr enough ↦ let most = lt_false h i.number enough in absurd (omega (arith, most, low.1))
      ]
      | inr high ↦ let below = le_false (2 ^ 24) (effect h i).high none.1 in absurd (omega (arith, below, high))
    ]

some_leaves : (h : ℕ) (is : List Instruction) → some_leaves_range h is ≡ true → SomeLeavesRange h is
unfolding some_leaves_range SomeLeavesRange
some_leaves h [] e = absurd cc
some_leaves h (i ∷ rest) e = elim (or_true (leaves_range h i) (some_leaves_range (effect h i).high rest) e) [
  | inl here ↦ inl (leaves h i here)
  | inr later ↦ inr (some_leaves (effect h i).high rest later)
]

none_leaves : (h : ℕ) (is : List Instruction) → some_leaves_range h is ≡ false → SomeLeavesRange h is → ⊥
unfolding some_leaves_range SomeLeavesRange
none_leaves h [] e is = is
none_leaves h (i ∷ rest) e is =
    let none = or_false (leaves_range h i) (some_leaves_range (effect h i).high rest) e in
    elim is [ inl here ↦ leaves_not h i none.0 here | inr later ↦ none_leaves (effect h i).high rest none.1 later ]

some_is : (p : Instruction → Bool) (P : Instruction → Type 0) → ((i : Instruction) → p i ≡ true → P i) → (is : List Instruction) → list_any p is ≡ true → Any P is
some_is p P to is e = let found = Any-from_list_any p is e in (found.0, found.1, found.2, found.3, to found.1 found.4)

none_is : (p : Instruction → Bool) (P : Instruction → Type 0) → ((i : Instruction) → p i ≡ false → P i → ⊥) → (is : List Instruction) → list_any p is ≡ false → Any P is → ⊥
none_is p P never is e found = by_test (p found.1) refl
  where
    by_test : (b : Bool) → p found.1 ≡ b → ⊥
    by_test true e' = let some : list_any p is ≡ true = list_any-from_Any p is (found.0, found.1, found.2, found.3, e') in absurd (let clash : ⊥ = cc in clash)
    by_test false none = never found.1 none found.4

no_high_is : (i : Instruction) → has_no_high i ≡ true → (i.operation ≡ 5) × (i.number ≡ 0)
no_high_is i e = let both = and_true (i.operation == 5) (i.number == 0) e in (eq_true i.operation 5 both.0, eq_true i.number 0 both.1)

no_high_not : (i : Instruction) → has_no_high i ≡ false → (i.operation ≡ 5) × (i.number ≡ 0) → ⊥
no_high_not i e is = elim (and_false (i.operation == 5) (i.number == 0) e) [ inl a ↦ eq_false i.operation 5 a is.0 | inr b ↦ eq_false i.number 0 b is.1 ]

second_is : (second : Option ℕ) → is_no_second second ≡ true → MatchOption second ⊤ (λ (n : ℕ). 4095 < n)
second_is None e = tt
second_is (Some n) e = lt_true 4095 n e

second_not : (second : Option ℕ) → is_no_second second ≡ false → MatchOption second ⊤ (λ (n : ℕ). 4095 < n) → ⊥
second_not None e is = absurd cc
second_not (Some n) e is = let most = lt_false 4095 n e in absurd (omega (arith, most, is))

no_second_is : (i : Instruction) → has_no_second i ≡ true → (i.operation ≡ 1) × MatchOption i.second ⊤ (λ (n : ℕ). 4095 < n)
no_second_is i e = let both = and_true (i.operation == 1) (is_no_second i.second) e in (eq_true i.operation 1 both.0, second_is i.second both.1)

no_second_not : (i : Instruction) → has_no_second i ≡ false → (i.operation ≡ 1) × MatchOption i.second ⊤ (λ (n : ℕ). 4095 < n) → ⊥
no_second_not i e is = elim (and_false (i.operation == 1) (is_no_second i.second) e) [ inl a ↦ eq_false i.operation 1 a is.0 | inr b ↦ second_not i.second b is.1 ]

refused_are : (n h : ℕ) (is : List Instruction) → any_of (instruction_tests n h is) ≡ true → AreRefused n h is
refused_are n h is e =
    one_of_them (AreRefused n h is) (instruction_tests n h is) e (
      (λ a. past_end (lt_true n (length (expand h is)) a)),
      (
        (λ a. out_of_range (some_leaves h is a)),
        (
          (λ a. no_high (some_is has_no_high _ no_high_is is a)),
          (
            (λ a. unknown (some_is is_unknown _ (λ i b. le_true 8 i.operation b) is a)),
            ((λ a. no_second (some_is has_no_second _ no_second_is is a)), tt),
          ),
        ),
      ),
    )

refused_are_not : (n h : ℕ) (is : List Instruction) → AreFalse (instruction_tests n h is) → AreRefused n h is → ⊥
refused_are_not n h is e (past_end p) = let most = lt_false n (length (expand h is)) e.0 in absurd (omega (arith, most, p))
refused_are_not n h is e (out_of_range p) = none_leaves h is e.1.0 p
refused_are_not n h is e (no_high p) = none_is has_no_high _ no_high_not is e.1.1.0 p
refused_are_not n h is e (unknown p) = none_is is_unknown _ (λ i b k. let less = le_false 8 i.operation b in absurd (omega (arith, less, k))) is e.1.1.1.0 p
refused_are_not n h is e (no_second p) = none_is has_no_second _ no_second_not is e.1.1.1.1.0 p

-- ---- line lists

new_header : (word : ℕ) → (nat_lt 0 word && nat_lt word (2 ^ 15)) ≡ false → 0 < word → word < 2 ^ 15 → ⊥
new_header word e some less = elim (and_false (nat_lt 0 word) (nat_lt word (2 ^ 15)) e) [
  | inl a ↦ let most = lt_false 0 word a in absurd (omega (arith, most, some))
  | inr b ↦ let most = lt_false word (2 ^ 15) b in absurd (omega (arith, most, less))
]

pub list_is_refused : (n : ℕ) (code : List ℕ) → any_of (list_tests n code) ≡ true → IsRefused n code
list_is_refused n code e =
    one_of_them (IsRefused n code) (list_tests n code) e (
      (λ a. odd (eq_true (length code % 2) 1 a)),
      (
        (λ a. short (lt_true (length code) 14 a)),
        (
          (λ a. header_length (eq_false (slice_index (words code) 1) 7 (not_true (slice_index (words code) 1 == 7) a))),
          (
            (λ a. let both = and_true (nat_lt 0 (slice_index (words code) 2)) (nat_lt (slice_index (words code) 2) (2 ^ 15)) a in
                old_header (lt_true 0 (slice_index (words code) 2) both.0) (lt_true (slice_index (words code) 2) (2 ^ 15) both.1)),
            (
              (λ a. length_low (lt_true 32767 (slice_index (words code) 3) a)),
              (
                (λ a. length_high (lt_true 32767 (slice_index (words code) 4) a)),
                (
                  (λ a. too_short (lt_true (list_len code) 7 a)),
                  (
                    (λ a. too_long (lt_true (length (words code)) (list_len code) a)),
                    ((λ a. instruction (refused_are n 1 (instructions_of code) a)), tt),
                  ),
                ),
              ),
            ),
          ),
        ),
      ),
    )

passes : (n : ℕ) (code : List ℕ) → AreFalse (list_tests n code) → IsRefused n code → ⊥
passes n code t (odd p) = eq_false (length code % 2) 1 t.0 p
passes n code t (short p) = let most = lt_false (length code) 14 t.1.0 in absurd (omega (arith, most, p))
passes n code t (header_length p) = p (eq_true (slice_index (words code) 1) 7 (not_false (slice_index (words code) 1 == 7) t.1.1.0))
passes n code t (old_header p q) = new_header (slice_index (words code) 2) t.1.1.1.0 p q
passes n code t (length_low p) = let most = lt_false 32767 (slice_index (words code) 3) t.1.1.1.1.0 in absurd (omega (arith, most, p))
passes n code t (length_high p) = let most = lt_false 32767 (slice_index (words code) 4) t.1.1.1.1.1.0 in absurd (omega (arith, most, p))
passes n code t (too_short p) = let most = lt_false (list_len code) 7 t.1.1.1.1.1.1.0 in absurd (omega (arith, most, p))
passes n code t (too_long p) = let most = lt_false (length (words code)) (list_len code) t.1.1.1.1.1.1.1.0 in absurd (omega (arith, most, p))
passes n code t (instruction p) = refused_are_not n 1 (instructions_of code) (none_of_them (instruction_tests n 1 (instructions_of code)) t.1.1.1.1.1.1.1.1.0) p

pub list_is_lawful : (n : ℕ) (code : List ℕ) → any_of (list_tests n code) ≡ false → IsRefused n code → ⊥
list_is_lawful n code e refused = passes n code (none_of_them (list_tests n code) e) refused

-- and what it writes fits in the line
pub list_fits : (n : ℕ) (code : List ℕ) → any_of (list_tests n code) ≡ false → length (expand 1 (instructions_of code)) ≤ n
list_fits n code e =
    let tests = none_of_them (list_tests n code) e in
    let body = none_of_them (instruction_tests n 1 (instructions_of code)) tests.1.1.1.1.1.1.1.1.0 in
    lt_false n (length (expand 1 (instructions_of code))) body.0
