-- Headers that are numbered one after another: one of them is found by its number, and those of lower numbers stand before it.
use Rattle.std.proofs.Common.{◌≡◌, ℕ, suc, ◌+◌, ◌≤◌, ◌==◌, nat_lt, Bool, true, false, cond, List, [], ◌∷◌, ◌++◌, length, Some, refl, ap, ◌∙◌, subst, arith}
use Rattle.std.specs.Prelude.{⊤}
use Rattle.std.specs.List.{filter, find}
use Rattle.std.proofs.lemmas.Option.{same_Some}
use Rattle.fz_block.specs.declared.header.Header.{Header}
use Rattle.fz_look.proofs.Tests.{eq_true, false_eq, false_lt, true_eq, true_lt}

abbrev pub AreNumbered : ℕ → List Header → Type 0
AreNumbered k [] = ⊤
AreNumbered k (h ∷ hs) = (h.hdu ≡ k) × AreNumbered (suc k) hs

pub number_at : (k : ℕ) (front : List Header) (h : Header) (back : List Header) → AreNumbered k (front ++ h ∷ back) → h.hdu ≡ k + length front
number_at k [] h back are = let here = are.0 in omega (arith, here)
number_at k (f ∷ front) h back are = let later = number_at (suc k) front h back are.1 in omega (arith, later)

none_below : (k n : ℕ) (hs : List Header) → AreNumbered k hs → n ≤ k → filter (λ (o : Header). nat_lt o.hdu n) hs ≡ []
none_below k n [] are few = refl
none_below k n (h ∷ hs) are few =
    let here = are.0 in
    ap (λ (b : Bool). cond b (h ∷ filter (λ (o : Header). nat_lt o.hdu n) hs) (filter (λ (o : Header). nat_lt o.hdu n) hs)) (false_lt h.hdu n (omega (arith, here, few)))
    ∙ none_below (suc k) n hs are.1 (omega (arith, few))

pub front_below : (k : ℕ) (front : List Header) (h : Header) (back : List Header) → AreNumbered k (front ++ h ∷ back) → filter (λ (o : Header). nat_lt o.hdu h.hdu) (front ++ h ∷ back) ≡ front
front_below k [] h back are =
    let here = are.0 in
    ap (λ (b : Bool). cond b (h ∷ filter (λ (o : Header). nat_lt o.hdu h.hdu) back) (filter (λ (o : Header). nat_lt o.hdu h.hdu) back)) (false_lt h.hdu h.hdu (omega arith))
    ∙ none_below (suc k) h.hdu back are.1 (omega (arith, here))
front_below k (f ∷ front) h back are =
    let here = are.0 in
    let later = number_at (suc k) front h back are.1 in
    let rest : List Header = filter (λ (o : Header). nat_lt o.hdu h.hdu) (front ++ h ∷ back) in
    ap (λ (b : Bool). cond b (f ∷ rest) rest) (true_lt f.hdu h.hdu (omega (arith, here, later))) ∙ ap (λ l. f ∷ l) (front_below (suc k) front h back are.1)

pub found_at : (k : ℕ) (front : List Header) (h : Header) (back : List Header) → AreNumbered k (front ++ h ∷ back) → find (λ (o : Header). o.hdu == h.hdu) (front ++ h ∷ back) ≡ Some h
found_at k [] h back are = ap (λ (b : Bool). cond b (Some h) (find (λ (o : Header). o.hdu == h.hdu) back)) (true_eq h.hdu h.hdu refl)
found_at k (f ∷ front) h back are =
    let here = are.0 in
    let later = number_at (suc k) front h back are.1 in
    ap (λ (b : Bool). cond b (Some f) (find (λ (o : Header). o.hdu == h.hdu) (front ++ h ∷ back))) (false_eq f.hdu h.hdu (λ same. absurd (omega (arith, here, later, same)))) ∙ found_at (suc k) front h back are.1

-- one that is found stands between two parts
pub found_splits : (n : ℕ) (hs : List Header) (h : Header) → find (λ (o : Header). o.hdu == n) hs ≡ Some h → (front : List Header) × (back : List Header) × (hs ≡ front ++ h ∷ back) × (h.hdu ≡ n)
found_splits n [] h e = absurd cc
found_splits n (x ∷ xs) h e = by_test (found_splits n xs h) (x.hdu == n) refl e
  where
    by_test : (find (λ (o : Header). o.hdu == n) xs ≡ Some h → (front : List Header) × (back : List Header) × (xs ≡ front ++ h ∷ back) × (h.hdu ≡ n)) →
        (t : Bool) → (x.hdu == n) ≡ t → cond t (Some x) (find (λ (o : Header). o.hdu == n) xs) ≡ Some h → (front : List Header) × (back : List Header) × (x ∷ xs ≡ front ++ h ∷ back) × (h.hdu ≡ n)
    by_test later true is e = let same : x ≡ h = same_Some x h e in ([], xs, ap (λ y. y ∷ xs) same, subst (λ (y : Header). y.hdu ≡ n) same (eq_true x.hdu n is))
    by_test later false is e = let rest = later e in (x ∷ rest.0, rest.1, ap (λ l. x ∷ l) rest.2, rest.3)

-- the parts around the next one
pub seam : (front : List Header) (h : Header) (rest : List Header) → (front ++ h ∷ []) ++ rest ≡ front ++ h ∷ rest
seam [] h rest = refl
seam (f ∷ front) h rest = ap (λ l. f ∷ l) (seam front h rest)
