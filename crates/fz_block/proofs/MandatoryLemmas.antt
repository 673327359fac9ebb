-- The mandatory cards one after another: the first that refuses.
use Rattle.std.proofs.Common.{◌≡◌, ℕ, ◌-◌, List, [], ◌∷◌, ◌++◌, length, map, replicate, Some, None, ap, sym, ◌∙◌}
use Rattle.std.specs.List.{flat_map, range_with_len}
use Rattle.fz_base.specs.Refusal.{first_refusal}
use Rattle.fz_base.specs.declared.fault.Fault.{Fault}
use Rattle.fz_block.specs.Hdus.{size_at, axes_of}
use Rattle.fz_block.specs.Facts.{nine_axes}
use Rattle.fz_block.specs.Mandatory.{mandatory_checks, extension_checks, bitpix_check, naxis_checks, axis_checks, count_checks}
use Rattle.fz_block.specs.declared.axes.Axes.{Axes}
use Rattle.fz_block.proofs.AxisLists.{axes_count}
use Rattle.fz_block.proofs.Refusals.{passed, stopped}

after_extension : (k : ℕ) (header : List ℕ) → first_refusal (extension_checks k header) ≡ None →
    first_refusal (mandatory_checks k header) ≡ first_refusal (bitpix_check k header ∷ naxis_checks k header ++ (flat_map (axis_checks k header) (range_with_len 1 (size_at header 2)) ++ count_checks k header))
after_extension k header none = passed (extension_checks k header) _ none

pub in_extension : (k : ℕ) (header : List ℕ) (x : Fault) → first_refusal (extension_checks k header) ≡ Some x → first_refusal (mandatory_checks k header) ≡ Some x
in_extension k header x some =
    stopped (extension_checks k header) (bitpix_check k header ∷ naxis_checks k header ++ (flat_map (axis_checks k header) (range_with_len 1 (size_at header 2)) ++ count_checks k header)) x some

pub in_bitpix : (k : ℕ) (header : List ℕ) (x : Fault) → first_refusal (extension_checks k header) ≡ None → first_refusal (bitpix_check k header ∷ []) ≡ Some x → first_refusal (mandatory_checks k header) ≡ Some x
in_bitpix k header x one some = after_extension k header one ∙ stopped (bitpix_check k header ∷ []) (naxis_checks k header ++ (flat_map (axis_checks k header) (range_with_len 1 (size_at header 2)) ++ count_checks k header)) x some

after_bitpix : (k : ℕ) (header : List ℕ) → first_refusal (extension_checks k header) ≡ None → first_refusal (bitpix_check k header ∷ []) ≡ None →
    first_refusal (mandatory_checks k header) ≡ first_refusal (naxis_checks k header ++ (flat_map (axis_checks k header) (range_with_len 1 (size_at header 2)) ++ count_checks k header))
after_bitpix k header one two = after_extension k header one ∙ passed (bitpix_check k header ∷ []) (naxis_checks k header ++ (flat_map (axis_checks k header) (range_with_len 1 (size_at header 2)) ++ count_checks k header)) two

pub in_naxis : (k : ℕ) (header : List ℕ) (x : Fault) → first_refusal (extension_checks k header) ≡ None → first_refusal (bitpix_check k header ∷ []) ≡ None →
    first_refusal (naxis_checks k header) ≡ Some x → first_refusal (mandatory_checks k header) ≡ Some x
in_naxis k header x one two some = after_bitpix k header one two ∙ stopped (naxis_checks k header) (flat_map (axis_checks k header) (range_with_len 1 (size_at header 2)) ++ count_checks k header) x some

after_naxis : (k : ℕ) (header : List ℕ) → first_refusal (extension_checks k header) ≡ None → first_refusal (bitpix_check k header ∷ []) ≡ None → first_refusal (naxis_checks k header) ≡ None →
    first_refusal (mandatory_checks k header) ≡ first_refusal (flat_map (axis_checks k header) (range_with_len 1 (size_at header 2)) ++ count_checks k header)
after_naxis k header one two three = after_bitpix k header one two ∙ passed (naxis_checks k header) (flat_map (axis_checks k header) (range_with_len 1 (size_at header 2)) ++ count_checks k header) three

pub in_axes : (k : ℕ) (header : List ℕ) (n : ℕ) (x : Fault) → n ≡ size_at header 2 → first_refusal (extension_checks k header) ≡ None → first_refusal (bitpix_check k header ∷ []) ≡ None →
    first_refusal (naxis_checks k header) ≡ None → first_refusal (flat_map (axis_checks k header) (range_with_len 1 n)) ≡ Some x → first_refusal (mandatory_checks k header) ≡ Some x
in_axes k header n x count one two three some =
    after_naxis k header one two three
    ∙ stopped (flat_map (axis_checks k header) (range_with_len 1 (size_at header 2))) (count_checks k header) x (ap (λ m. first_refusal (flat_map (axis_checks k header) (range_with_len 1 m))) (sym count) ∙ some)

pub after_axes : (k : ℕ) (header : List ℕ) (n : ℕ) → n ≡ size_at header 2 → first_refusal (extension_checks k header) ≡ None → first_refusal (bitpix_check k header ∷ []) ≡ None →
    first_refusal (naxis_checks k header) ≡ None → first_refusal (flat_map (axis_checks k header) (range_with_len 1 n)) ≡ None → first_refusal (mandatory_checks k header) ≡ first_refusal (count_checks k header)
after_axes k header n count one two three four =
    after_naxis k header one two three
    ∙ passed (flat_map (axis_checks k header) (range_with_len 1 (size_at header 2))) (count_checks k header) (ap (λ m. first_refusal (flat_map (axis_checks k header) (range_with_len 1 m))) (sym count) ∙ four)

-- the table of nine lengths, written by the number of axes
pub nine_written : (header : List ℕ) (n : ℕ) (len : List ℕ) (axes : Axes) → axes.n ≡ n → axes.len ≡ len → n ≡ size_at header 2 → len ≡ map (size_at header) (range_with_len 3 n) ++ replicate (9 - n) 0 →
    axes ≡ nine_axes (axes_of header)
nine_written header n len axes at_n at_len count written = λ i. record { n = same_n i; len = same_len i }
  where
    same_n : axes.n ≡ length (axes_of header)
    same_n = at_n ∙ (count ∙ sym (axes_count header))

    same_len : axes.len ≡ axes_of header ++ replicate (9 - length (axes_of header)) 0
    same_len =
        at_len
        ∙ (written
        ∙ (ap (λ k. map (size_at header) (range_with_len 3 k) ++ replicate (9 - k) 0) count
        ∙ ap (λ k. axes_of header ++ replicate (9 - k) 0) (sym (axes_count header))))
