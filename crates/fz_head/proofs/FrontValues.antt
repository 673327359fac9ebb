-- What the mandatory cards of a header say, where its checks pass.
use Rattle.std.proofs.Common.{◌≡◌, ℕ, zero, suc, ◌+◌, ◌≤◌, Bool, true, false, List, ◌∷◌, ◌++◌, refl, ap, ◌∙◌, arith}
use Rattle.std.specs.Prelude.{ℤ, pos, negsuc, not, ◌&&◌, Option, Some, None}
use Rattle.std.specs.List.{AllByRecursion, flat_map, range_with_len}
use Rattle.std.proofs.lemmas.Bool.{and_parts, lt-ltb, ltb-false, not-false}
use Rattle.fz_base.specs.Refusal.{first_refusal}
use Rattle.fz_base.specs.declared.fault.Fault.{Fault}
use Rattle.fz_card.specs.Reading.{integer_of}
use Rattle.fz_block.specs.Cards.{card_at}
use Rattle.fz_block.specs.Hdus.{size_at, size_in}
use Rattle.fz_block.specs.Mandatory.{mandatory_checks, extension_checks, bitpix_check, naxis_checks, axis_checks, count_checks, is_size}
use Rattle.fz_head.specs.PackedChecks.{is_positive}
use Rattle.fz_head.proofs.FrontCards.{clear, clear-front, clear-rest, clear-each, is_first_hdu}

-- a card that must be so has such a value
must-value : (named value : Bool) → not (named && value) ≡ false → value ≡ true
must-value named value e = (and_parts named value (not-false (named && value) e)).1

-- the values of the mandatory cards of a header with so many axes
pub record HasValues (header : List ℕ) (k n : ℕ) : Type 0 where
  pub naxis : is_size (integer_of (card_at header 2)) ≡ true
  pub axis : (i : ℕ) → 1 ≤ i → i ≤ n → is_size (integer_of (card_at header (2 + i))) ≡ true
  pub short : (i : ℕ) → 1 ≤ i → i ≤ n → size_at header (2 + i) ≤ 2147483647
  pub pcount : is_first_hdu k ≡ false → is_size (integer_of (card_at header (3 + n))) ≡ true
  pub gcount : is_first_hdu k ≡ false → is_size (integer_of (card_at header (4 + n))) ≡ true

pub has_values : (k : ℕ) (header : List ℕ) → first_refusal (mandatory_checks k header) ≡ None → HasValues header k (size_at header 2)
has_values k header e = record {
  naxis = must-value _ _ sizes.1.0;
  axis = λ i low high. must-value _ _ (each i low high).0;
  short = λ i low high. ltb-false 2147483647 (size_at header (2 + i)) (each i low high).1.0;
  pcount = pcount k (clear-rest axes (count_checks k header) lengths);
  gcount = gcount k (clear-rest axes (count_checks k header) lengths);
}
  where
    axes : List (Bool × Fault)
    axes = flat_map (axis_checks k header) (range_with_len 1 (size_at header 2))

    later : first_refusal (bitpix_check k header ∷ naxis_checks k header ++ (axes ++ count_checks k header)) ≡ None
    later = clear-rest (extension_checks k header) (bitpix_check k header ∷ naxis_checks k header ++ (axes ++ count_checks k header)) e

    sizes : AllByRecursion (λ check. check.0 ≡ false) (bitpix_check k header ∷ naxis_checks k header)
    sizes = clear (bitpix_check k header ∷ naxis_checks k header) (clear-front (bitpix_check k header ∷ naxis_checks k header) (axes ++ count_checks k header) later)

    lengths : first_refusal (axes ++ count_checks k header) ≡ None
    lengths = clear-rest (bitpix_check k header ∷ naxis_checks k header) (axes ++ count_checks k header) later

    each : (i : ℕ) → 1 ≤ i → i ≤ size_at header 2 → AllByRecursion (λ check. check.0 ≡ false) (axis_checks k header i)
    each i low high = clear (axis_checks k header i) (clear-each (axis_checks k header) 1 (size_at header 2) (clear-front axes (count_checks k header) lengths) i low (omega arith))

    pcount : (k : ℕ) → first_refusal (count_checks k header) ≡ None → is_first_hdu k ≡ false → is_size (integer_of (card_at header (3 + size_at header 2))) ≡ true
    pcount zero none primary = cc
    pcount (suc k) none primary = must-value _ _ (clear (count_checks (suc k) header) none).0

    gcount : (k : ℕ) → first_refusal (count_checks k header) ≡ None → is_first_hdu k ≡ false → is_size (integer_of (card_at header (4 + size_at header 2))) ≡ true
    gcount zero none primary = cc
    gcount (suc k) none primary = must-value _ _ (clear (count_checks (suc k) header) none).1.0

-- an integer of a size is that size
pub sized : (o : Option ℤ) → is_size o ≡ true → o ≡ Some (pos (size_in o))
sized None e = cc
sized (Some (pos n)) e = refl
sized (Some (negsuc n)) e = cc

pub sized-as : (o : Option ℤ) (n : ℕ) → is_size o ≡ true → size_in o ≡ n → o ≡ Some (pos n)
sized-as o n e size = sized o e ∙ ap (λ k. Some (pos k)) size

pub positive-size : (o : Option ℤ) → is_size o ≡ true → 1 ≤ size_in o → is_positive o ≡ true
positive-size o e some = ap is_positive (sized o e) ∙ lt-ltb 0 (size_in o) (omega arith)
