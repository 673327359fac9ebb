-- What was read, as a test and as a fact.
use Rattle.std.proofs.Common.{◌≡◌, ℕ, zero, suc, ◌+◌, ◌<◌, ◌≤◌, ◌==◌, ◌&&◌, ◌||◌, nat_le, nat_lt, Bool, true, false, List, [], ◌∷◌, ◌++◌, Option, Some, None, IfSome, refl, sym, ap, ◌∙◌, subst, arith, inl, inr}
use Rattle.std.specs.Prelude.{All}
use Rattle.std.specs.List.{list_all, range_with_len}
use Rattle.std.specs.Option.{ForSome}
use Rattle.std.proofs.lemmas.Bool.{cases_lt}
use Rattle.std.proofs.lemmas.List.Elements.{All-cons, All-nil}
use Rattle.std.proofs.lemmas.Option.{same_Some}
use Rattle.fz_base.specs.Ranges.{LiesIn, LogsIn, LogsJoinLaw}
use Rattle.fz_retile.specs.Views.{adds_in, lies_in, reads_in}
use Rattle.fz_retile.proofs.Tests.{and_true, eq_true, le_true, lt_true, or_true, true_and, true_eq, true_le, true_lt, true_or}

pub lies_is : (ranges : List (ℕ × ℕ)) (byte : ℕ) → lies_in ranges byte ≡ true → LiesIn ranges byte
lies_is [] byte e = absurd cc
lies_is ((start, count) ∷ ranges) byte e = by_front (lies_is ranges byte) (nat_le start byte && nat_lt byte (start + count)) refl e
  where
    by_front : (lies_in ranges byte ≡ true → LiesIn ranges byte) → (b : Bool) → (nat_le start byte && nat_lt byte (start + count)) ≡ b → (b || lies_in ranges byte) ≡ true → LiesIn ((start, count) ∷ ranges) byte
    by_front later true is e = let both = and_true (nat_le start byte) (nat_lt byte (start + count)) is in inl (le_true start byte both.0, lt_true byte (start + count) both.1)
    by_front later false is e = inr (later e)

pub is_lies : (ranges : List (ℕ × ℕ)) (byte : ℕ) → LiesIn ranges byte → lies_in ranges byte ≡ true
is_lies [] byte lies = absurd lies
is_lies ((start, count) ∷ ranges) byte (inl near) =
    true_or (nat_le start byte && nat_lt byte (start + count)) (lies_in ranges byte) (true_and (nat_le start byte) (nat_lt byte (start + count)) (true_le start byte near.0) (true_lt byte (start + count) near.1))
is_lies ((start, count) ∷ ranges) byte (inr later) = or_true (nat_le start byte && nat_lt byte (start + count)) (lies_in ranges byte) (is_lies ranges byte later)

-- ---- ranges, each of whose bytes lies in some others

in_range : (ranges : List (ℕ × ℕ)) (a n : ℕ) → list_all (lies_in ranges) (range_with_len a n) ≡ true → (byte : ℕ) → a ≤ byte → byte < a + n → LiesIn ranges byte
in_range ranges a zero all byte low high = absurd (omega (arith, low, high))
in_range ranges a (suc n) all byte low high =
    let both = and_true (lies_in ranges a) (list_all (lies_in ranges) (range_with_len (a + 1) n)) all in
    elim (cases_lt byte (a + 1)) [
      | inl below ↦ let here : a ≡ byte = omega (arith, low, below) in subst (LiesIn ranges) here (lies_is ranges a both.0)
      | inr above ↦ in_range ranges (a + 1) n both.1 byte above (omega (arith, high))
    ]

range_in : (ranges : List (ℕ × ℕ)) (a n : ℕ) → ((byte : ℕ) → a ≤ byte → byte < a + n → LiesIn ranges byte) → list_all (lies_in ranges) (range_with_len a n) ≡ true
range_in ranges a zero lies = refl
range_in ranges a (suc n) lies =
    true_and (lies_in ranges a) (list_all (lies_in ranges) (range_with_len (a + 1) n)) (is_lies ranges a (lies a (omega arith) (omega arith)))
    (range_in ranges (a + 1) n (λ byte low high. lies byte (omega (arith, low)) (omega (arith, high))))

-- what was read lies in the ranges
abbrev pub ReadsIn : List (ℕ × ℕ) → ℕ × ℕ → Type 0
ReadsIn ranges read = (byte : ℕ) → read.0 ≤ byte → byte < read.0 + read.1 → LiesIn ranges byte

abbrev reads_test : List (ℕ × ℕ) → ℕ × ℕ → Bool
reads_test ranges read = list_all (lies_in ranges) (range_with_len read.0 read.1)

all_read : (ranges more : List (ℕ × ℕ)) → list_all (reads_test ranges) more ≡ true → All (ReadsIn ranges) more
all_read ranges [] is = All-nil (ReadsIn ranges)
all_read ranges (r ∷ more) is =
    let both = and_true (reads_test ranges r) (list_all (reads_test ranges) more) is in
    All-cons (ReadsIn ranges) r more (in_range ranges r.0 r.1 both.0) (all_read ranges more both.1)

read_all : (ranges more : List (ℕ × ℕ)) → All (ReadsIn ranges) more → list_all (reads_test ranges) more ≡ true
read_all ranges [] all = refl
read_all ranges (r ∷ more) all =
    true_and (reads_test ranges r) (list_all (reads_test ranges) more) (range_in ranges r.0 r.1 (all 0 r (omega arith)))
    (read_all ranges more (λ k d low. all (suc k) d (omega (arith, low))))

-- ---- logs

same_range : (r s : ℕ × ℕ) → r.0 ≡ s.0 → r.1 ≡ s.1 → r ≡ s
same_range r s one two = λ i. (one i, two i)

adds_logs : (ranges old new : List (ℕ × ℕ)) → adds_in ranges old new ≡ true → (more : List (ℕ × ℕ)) × All (ReadsIn ranges) more × (new ≡ old ++ more)
adds_logs ranges [] new is = (new, all_read ranges new is, refl)
adds_logs ranges (r ∷ rs) [] is = absurd cc
adds_logs ranges (r ∷ rs) (s ∷ ss) is =
    let both = and_true (r.0 == s.0 && r.1 == s.1) (adds_in ranges rs ss) is in
    let ends = and_true (r.0 == s.0) (r.1 == s.1) both.0 in
    let rest = adds_logs ranges rs ss both.1 in
    let same : s ≡ r = sym (same_range r s (eq_true r.0 s.0 ends.0) (eq_true r.1 s.1 ends.1)) in
    (rest.0, rest.1, λ i. same i ∷ rest.2 i)

logs_add : (ranges old more : List (ℕ × ℕ)) → All (ReadsIn ranges) more → adds_in ranges old (old ++ more) ≡ true
logs_add ranges [] more all = read_all ranges more all
logs_add ranges (r ∷ rs) more all =
    true_and (r.0 == r.0 && r.1 == r.1) (adds_in ranges rs (rs ++ more)) (true_and (r.0 == r.0) (r.1 == r.1) (true_eq r.0 r.0 refl) (true_eq r.1 r.1 refl)) (logs_add ranges rs more all)

pub is_logs : (ranges : List (ℕ × ℕ)) (old new : Option (List (ℕ × ℕ))) → reads_in ranges old new ≡ true → LogsIn ranges old new
is_logs ranges None None is = ([], All-nil (ReadsIn ranges), refl)
is_logs ranges None (Some new) is = absurd cc
is_logs ranges (Some old) None is = absurd cc
is_logs ranges (Some old) (Some new) is = let rest = adds_logs ranges old new is in (rest.0, rest.1, ap Some rest.2)

pub logs_is : (ranges : List (ℕ × ℕ)) (old new : Option (List (ℕ × ℕ))) → LogsIn ranges old new → reads_in ranges old new ≡ true
logs_is ranges None new logs = ap (reads_in ranges None) logs.2
logs_is ranges (Some old) new logs = ap (reads_in ranges (Some old)) logs.2 ∙ logs_add ranges old logs.0 logs.1

-- more that is read in them
pub reads_more : LogsJoinLaw → (R : List ℕ → List (ℕ × ℕ)) (held : Option (List ℕ)) (start mid new : Option (List (ℕ × ℕ))) → ForSome held (λ g. reads_in (R g) start mid ≡ true) → IfSome held (λ g. LogsIn (R g) mid new) →
    ForSome held (λ g. reads_in (R g) start new ≡ true)
reads_more join R None start mid new was read g is = absurd cc
reads_more join R (Some h) start mid new was read g is =
    subst (λ x. reads_in (R x) start new ≡ true) (same_Some h g is) (logs_is (R h) start new (join (R h) start mid new (is_logs (R h) start mid (was h refl)) read))
