-- The characters of a byte: what a test of all 256 bytes shows, and that no smaller shift evens a pair.
use Rattle.std.proofs.Common.{◌≡◌, ℕ, zero, suc, ◌+◌, ◌-◌, ◌*◌, ◌%◌, ◌<◌, ◌≤◌, ◌⊎◌, inl, inr, Bool, true, false, cond, eqb, List, [], ◌∷◌, sym, refl, ◌∙◌, subst, arith}
use Rattle.std.specs.Prelude.{◌&&◌, ◌||◌, slice_index}
use Rattle.std.specs.Char.{is_ascii_alphanumeric}
use Rattle.std.specs.List.{list_all}
use Rattle.std.proofs.lemmas.Bool.{cases_lt}
use Rattle.std.proofs.lemmas.Bool.Decides.{nat_tests}
use Rattle.fz_sum.specs.Characters.{IsPunctuation, IsEvened, quarter, AreByteCharacters, is_punctuation, shift_from, byte_characters}

pub and-true : (a b : Bool) → (a && b) ≡ true → (a ≡ true) × (b ≡ true)
and-true true true e = (refl, refl)
and-true true false e = cc
and-true false b e = cc

eqb-same : (a b : ℕ) → eqb a b ≡ true → a ≡ b
eqb-same a b e = grind (arith, nat_tests)

-- a test of all numbers below another
unfoldable all_below : ℕ → (ℕ → Bool) → Bool
all_below zero test = true
all_below (suc n) test = test n && all_below n test

all_below-at : (n i : ℕ) (test : ℕ → Bool) → all_below n test ≡ true → i < n → test i ≡ true
unfolding all_below
all_below-at zero i test e lt = absurd (omega arith)
all_below-at (suc n) i test e lt =
    let parts = and-true (test n) (all_below n test) e in
    by_place (cases_lt i n) (λ below. all_below-at n i test parts.1 below) parts.0
  where
    by_place : (i < n) ⊎ (n ≤ i) → (i < n → test i ≡ true) → test n ≡ true → test i ≡ true
    by_place (inl below) before here = before below
    by_place (inr above) before here =
        let same : n ≡ i = omega arith in
        subst (λ (k : ℕ). test k ≡ true) same here

-- four characters, and the totals of their pairs
abbrev is_fine : ℕ → List ℕ → Bool
is_fine byte codes =
    list_all is_ascii_alphanumeric codes && (eqb (slice_index codes 0 + slice_index codes 1) (quarter byte + byte % 4 + quarter byte) && eqb (slice_index codes 2 + slice_index codes 3) (quarter byte + quarter byte))

all_fine : all_below 256 (λ byte. is_fine byte (byte_characters byte)) ≡ true
unfolding all_below byte_characters
all_fine = refl

-- the test of one byte
pub record Fine (byte : ℕ) (codes : List ℕ) : Type 0 where
  pub letters : list_all is_ascii_alphanumeric codes ≡ true
  pub front : slice_index codes 0 + slice_index codes 1 ≡ quarter byte + byte % 4 + quarter byte
  pub back : slice_index codes 2 + slice_index codes 3 ≡ quarter byte + quarter byte

fine-parts : (byte : ℕ) (codes : List ℕ) → is_fine byte codes ≡ true → Fine byte codes
fine-parts byte codes e =
    let parts = and-true (list_all is_ascii_alphanumeric codes) (eqb (slice_index codes 0 + slice_index codes 1) (quarter byte + byte % 4 + quarter byte) && eqb (slice_index codes 2 + slice_index codes 3) (quarter byte + quarter byte)) e in
    let pairs = and-true (eqb (slice_index codes 0 + slice_index codes 1) (quarter byte + byte % 4 + quarter byte)) (eqb (slice_index codes 2 + slice_index codes 3) (quarter byte + quarter byte)) parts.1 in
    record { letters = parts.0; front = eqb-same _ _ pairs.0; back = eqb-same _ _ pairs.1 }

pub fine : (byte : ℕ) → byte < 256 → Fine byte (byte_characters byte)
fine byte small = fine-parts byte (byte_characters byte) (all_below-at 256 byte (λ (b : ℕ). is_fine b (byte_characters b)) all_fine small)

-- the four characters have the total of the byte and of four times the character `0`
pub byte-total : (byte : ℕ) → byte < 256 → slice_index (byte_characters byte) 0 + slice_index (byte_characters byte) 1 + slice_index (byte_characters byte) 2 + slice_index (byte_characters byte) 3 ≡ byte + 4 * 48
byte-total byte small = let tested = fine byte small in omega (arith, tested.front, tested.back)

-- no punctuation
letter-is : (c : ℕ) → is_ascii_alphanumeric c ≡ true → ¬ (IsPunctuation c)
letter-is c letter (inl between) = grind (arith, nat_tests)
letter-is c letter (inr between) = grind (arith, nat_tests)

punctuation-is : (x y : ℕ) → (is_punctuation x || is_punctuation y) ≡ true → IsPunctuation x ⊎ IsPunctuation y
punctuation-is x y e = grind (arith, nat_tests)

-- no number below the shift evens the pair
unfoldable AllBefore : ℕ → ℕ → ℕ → Type 0
AllBefore first second shift = (less : ℕ) → less < shift → IsPunctuation (first + less) ⊎ IsPunctuation (second - less)

one-more : (first second shift : ℕ) → AllBefore first second shift → IsPunctuation (first + shift) ⊎ IsPunctuation (second - shift) → AllBefore first second (shift + 1)
unfolding AllBefore
one-more first second shift before here = λ less lt. by_place less lt (cases_lt less shift)
  where
    by_place : (less : ℕ) → less < shift + 1 → (less < shift) ⊎ (shift ≤ less) → IsPunctuation (first + less) ⊎ IsPunctuation (second - less)
    by_place less lt (inl below) = before less below
    by_place less lt (inr above) =
        let same : shift ≡ less = omega arith in
        subst (λ (n : ℕ). IsPunctuation (first + n) ⊎ IsPunctuation (second - n)) same here

by-test : (test : Bool) (first second shift further : ℕ) → AllBefore first second shift → (test ≡ true → AllBefore first second further) → AllBefore first second (cond test further shift)
by-test false first second shift further before more = before
by-test true first second shift further before more = more refl

shift-least : (few shift first second : ℕ) → AllBefore first second shift → AllBefore first second (shift_from few shift first second)
shift-least zero shift first second before = before
shift-least (suc few) shift first second before =
    by-test (is_punctuation (first + shift) || is_punctuation (second - shift)) first second shift (shift_from few (shift + 1) first second) before (λ e. shift-least few (shift + 1) first second (one-more first second shift before (punctuation-is (first + shift) (second - shift) e)))

evened-is : (first second : ℕ) → ¬ (IsPunctuation (first + shift_from 8 0 first second)) → ¬ (IsPunctuation (second - shift_from 8 0 first second)) → first + shift_from 8 0 first second + (second - shift_from 8 0 first second) ≡ first + second → IsEvened first second (first + shift_from 8 0 first second) (second - shift_from 8 0 first second)
unfolding AllBefore
evened-is first second x_is y_is total =
    record {
      shift = shift_from 8 0 first second;
      raised = refl;
      lowered = omega arith;
      x_is = x_is;
      y_is = y_is;
      least = shift-least 8 0 first second (λ less lt. absurd (omega arith));
    }

-- four letters are no punctuation
record AreLetters (a b c d : ℕ) : Type 0 where
  a_is : ¬ (IsPunctuation a)
  b_is : ¬ (IsPunctuation b)
  c_is : ¬ (IsPunctuation c)
  d_is : ¬ (IsPunctuation d)

letters-are : (a b c d : ℕ) → list_all is_ascii_alphanumeric (a ∷ b ∷ c ∷ d ∷ []) ≡ true → AreLetters a b c d
letters-are a b c d e =
    let first = and-true (is_ascii_alphanumeric a) (list_all is_ascii_alphanumeric (b ∷ c ∷ d ∷ [])) e in
    let second = and-true (is_ascii_alphanumeric b) (list_all is_ascii_alphanumeric (c ∷ d ∷ [])) first.1 in
    let third = and-true (is_ascii_alphanumeric c) (list_all is_ascii_alphanumeric (d ∷ [])) second.1 in
    let last = and-true (is_ascii_alphanumeric d) true third.1 in
    record { a_is = letter-is a first.0; b_is = letter-is b second.0; c_is = letter-is c third.0; d_is = letter-is d last.0 }

-- the characters of a byte are those of the rule
pub byte-characters : (byte : ℕ) → byte < 256 → AreByteCharacters byte (byte_characters byte)
unfolding byte_characters
byte-characters byte small =
    let tested = fine byte small in
    let first = quarter byte + byte % 4 in
    let second = quarter byte in
    let front = shift_from 8 0 first second in
    let back = shift_from 8 0 second second in
    let letters = letters-are (first + front) (second - front) (second + back) (second - back) tested.letters in
    record {
      a = first + front;
      b = second - front;
      c = second + back;
      d = second - back;
      are = refl;
      front = evened-is first second letters.a_is letters.b_is tested.front;
      back = evened-is second second letters.c_is letters.d_is tested.back;
    }

-- a pair is evened in one way
shift-same : (first second x y z w : ℕ) (p : IsEvened first second x y) (q : IsEvened first second z w) → ¬ (p.shift < q.shift)
shift-same first second x y z w p q less = by_mark (q.least p.shift less)
  where
    by_mark : IsPunctuation (first + p.shift) ⊎ IsPunctuation (second - p.shift) → ⊥
    by_mark (inl mark) = p.x_is (subst IsPunctuation (sym p.raised) mark)
    by_mark (inr mark) =
        let e : second - p.shift ≡ y = omega (arith, p.lowered) in
        p.y_is (subst IsPunctuation e mark)

-- the pairs that two ways give
record SamePair (x y z w : ℕ) : Type 0 where
  x_is : x ≡ z
  y_is : y ≡ w

evened-once : (first second x y z w : ℕ) → IsEvened first second x y → IsEvened first second z w → SamePair x y z w
evened-once first second x y z w p q =
    let low = shift-same first second x y z w p q in
    let high = shift-same first second z w x y q p in
    by_place p.shift q.shift (cases_lt p.shift q.shift) (cases_lt q.shift p.shift) low high p.raised q.raised p.lowered q.lowered
  where
    by_place : (s t : ℕ) → (s < t) ⊎ (t ≤ s) → (t < s) ⊎ (s ≤ t) → ¬ (s < t) → ¬ (t < s) → x ≡ first + s → z ≡ first + t → y + s ≡ second → w + t ≡ second → SamePair x y z w
    by_place s t (inl less) order low high e f g h = absurd (low less)
    by_place s t (inr above) (inl less) low high e f g h = absurd (high less)
    by_place s t (inr above) (inr below) low high e f g h = record { x_is = omega arith; y_is = omega arith }

pub byte-characters-once : (byte : ℕ) (text : List ℕ) → byte < 256 → AreByteCharacters byte text → text ≡ byte_characters byte
byte-characters-once byte text small are =
    let by_rule = byte-characters byte small in
    let front = evened-once _ _ _ _ _ _ are.front by_rule.front in
    let back = evened-once _ _ _ _ _ _ are.back by_rule.back in
    are.are ∙ ((λ i. front.x_is i ∷ front.y_is i ∷ back.x_is i ∷ back.y_is i ∷ []) ∙ sym by_rule.are)
