-- An extension under another number.
use Rattle.std.proofs.Common.{◌≡◌, ℕ, zero, suc, ◌+◌, ◌<◌, Bool, true, false, List, [], ◌∷◌, ◌++◌, map, Option, Some, None, refl, sym, ◌∙◌, ap, arith, not}
use Rattle.std.specs.List.{flat_map, range_with_len}
use Rattle.std.specs.Option.{option_map}
use Rattle.std.specs.Result.{result_map_both}
use Rattle.std.proofs.lemmas.List.{map-append}
use Rattle.fz_base.specs.Refusal.{refusal, first_refusal}
use Rattle.fz_base.specs.declared.fault.Fault.{Fault}
use Rattle.fz_base.specs.declared.fault.Place.TheVariants.{Card}
use Rattle.fz_base.specs.declared.kind.Kind.TheVariants.{BadCard}
use Rattle.fz_block.specs.Checks.{unless_refused, fault_as, ends_in_last_block, hdu_end, end_checks, header_checks, header_of}
use Rattle.fz_block.specs.Facts.{IsHeaderOf, facts_of, facts_as}
use Rattle.fz_block.specs.Hdus.{naxis_of}
use Rattle.fz_block.specs.Mandatory.{extension_checks, axis_checks, count_checks, bitpix_check, naxis_checks, mandatory_checks}
use Rattle.fz_block.specs.declared.header.Header.{Header}

-- the same check of HDU k
abbrev check_as : ℕ → Bool × Fault → Bool × Fault
check_as k c = (c.0, fault_as k c.1)

first_as : (k : ℕ) (checks : List (Bool × Fault)) → first_refusal (map (check_as k) checks) ≡ option_map (fault_as k) (first_refusal checks)
first_as k [] = refl
first_as k ((true, fault) ∷ checks) = refl
first_as k ((false, fault) ∷ checks) = first_as k checks

unless_as : (k : ℕ) (h : Header) (refused : Option Fault) → unless_refused (facts_as k h) (option_map (fault_as k) refused) ≡ result_map_both (facts_as k) (fault_as k) (unless_refused h refused)
unless_as k h None = refl
unless_as k h (Some fault) = refl

axes_as : (j k : ℕ) (header : List ℕ) (a n : ℕ) → map (check_as k) (flat_map (axis_checks j header) (range_with_len a n)) ≡ flat_map (axis_checks k header) (range_with_len a n)
axes_as j k header a zero = refl
axes_as j k header a (suc n) = ap (λ l. axis_checks k header a ++ l) (axes_as j k header (a + 1) n)

mandatory_as : (j k : ℕ) (header : List ℕ) → map (check_as (suc k)) (mandatory_checks (suc j) header) ≡ mandatory_checks (suc k) header
mandatory_as j k header =
    let axes : List (Bool × Fault) = flat_map (axis_checks (suc j) header) (range_with_len 1 (naxis_of header)) in
    ap (λ l. extension_checks (suc k) header ++ (bitpix_check (suc k) header ∷ naxis_checks (suc k) header ++ l))
    (map-append (check_as (suc k)) axes (count_checks (suc j) header) ∙ ap (λ l. l ++ count_checks (suc k) header) (axes_as (suc j) (suc k) header 1 (naxis_of header)))

all_as : (j k start len : ℕ) (header : List ℕ) → map (check_as (suc k)) (header_checks (suc j) start len header) ≡ header_checks (suc k) start len header
all_as j k start len header =
    let end : List (Bool × Fault) = end_checks (suc j) len (hdu_end (suc j) start header) in
    let end' : List (Bool × Fault) = end_checks (suc k) len (hdu_end (suc k) start header) in
    ap (λ l. (not (ends_in_last_block header), refusal (suc k) (Card 0) BadCard) ∷ l)
    (map-append (check_as (suc k)) (mandatory_checks (suc j) header) end ∙ ap (λ l. l ++ end') (mandatory_as j k header))

pub mandatory_renumbered : (j k : ℕ) (header : List ℕ) → 0 < j → 0 < k → first_refusal (mandatory_checks k header) ≡ option_map (fault_as k) (first_refusal (mandatory_checks j header))
mandatory_renumbered zero k header some_j some_k = absurd (omega (arith, some_j))
mandatory_renumbered (suc j) zero header some_j some_k = absurd (omega (arith, some_k))
mandatory_renumbered (suc j) (suc k) header some_j some_k =
    ap first_refusal (sym (mandatory_as j k header)) ∙ first_as (suc k) (mandatory_checks (suc j) header)

pub checks_renumbered : (j k start len : ℕ) (header : List ℕ) → 0 < j → 0 < k → header_of k start len header ≡ result_map_both (facts_as k) (fault_as k) (header_of j start len header)
unfolding header_of
checks_renumbered zero k start len header some_j some_k = absurd (omega (arith, some_j))
checks_renumbered (suc j) zero start len header some_j some_k = absurd (omega (arith, some_k))
checks_renumbered (suc j) (suc k) start len header some_j some_k =
    let first : first_refusal (header_checks (suc k) start len header) ≡ option_map (fault_as (suc k)) (first_refusal (header_checks (suc j) start len header)) =
    ap first_refusal (sym (all_as j k start len header)) ∙ first_as (suc k) (header_checks (suc j) start len header) in
    ap (unless_refused (facts_of (suc k) start header)) first ∙ unless_as (suc k) (facts_of (suc j) start header) (first_refusal (header_checks (suc j) start len header))

pub facts_renumbered : (header : List ℕ) (h : Header) (k : ℕ) → IsHeaderOf header h → 0 < h.hdu → 0 < k → IsHeaderOf header (facts_as k h)
facts_renumbered header h k is some_h some_k = record {
  whole = is.whole;
  short = is.short;
  mandatory = mandatory_renumbered h.hdu k header some_h some_k ∙ ap (option_map (fault_as k)) is.mandatory;
  facts = ap (facts_as k) is.facts ∙ same h.hdu k some_h some_k;
}
  where
    same : (j k : ℕ) → 0 < j → 0 < k → facts_as k (facts_of j h.start header) ≡ facts_of k h.start header
    same zero k some_j some_k = absurd (omega (arith, some_j))
    same (suc j) zero some_j some_k = absurd (omega (arith, some_k))
    same (suc j) (suc k) some_j some_k = refl
