-- Headers that are numbered one after another: one of them is found by its number, and those of lower numbers stand before it.
use Rattle.std.proofs.Common.{◌≡◌, ℕ, ◌+◌, ◌==◌, Bool, true, false, cond, List, [], ◌∷◌, ◌++◌, Some, refl, ap, subst}
use Rattle.std.specs.List.{find}
use Rattle.std.proofs.lemmas.Option.{same_Some}
use Rattle.fz_block.specs.declared.header.Header.{Header}
use Rattle.fz_retile.proofs.Tests.{eq_true}

-- one that is found stands between two parts
pub found_splits : (n : ℕ) (hs : List Header) (h : Header) → find (λ (o : Header). o.hdu == n) hs ≡ Some h → (front : List Header) × (back : List Header) × (hs ≡ front ++ h ∷ back) × (h.hdu ≡ n)
found_splits n [] h e = absurd cc
found_splits n (x ∷ xs) h e = by_test (found_splits n xs h) (x.hdu == n) refl e
  where
    by_test : (find (λ (o : Header). o.hdu == n) xs ≡ Some h → (front : List Header) × (back : List Header) × (xs ≡ front ++ h ∷ back) × (h.hdu ≡ n)) →
        (t : Bool) → (x.hdu == n) ≡ t → cond t (Some x) (find (λ (o : Header). o.hdu == n) xs) ≡ Some h → (front : List Header) × (back : List Header) × (x ∷ xs ≡ front ++ h ∷ back) × (h.hdu ≡ n)
    by_test later true is e = let same : x ≡ h = same_Some x h e in ([], xs, ap (λ y. y ∷ xs) same, subst (λ (y : Header). y.hdu ≡ n) same (eq_true x.hdu n is))
    by_test later false is e = let rest = later e in (x ∷ rest.0, rest.1, ap (λ l. x ∷ l) rest.2, rest.3)
