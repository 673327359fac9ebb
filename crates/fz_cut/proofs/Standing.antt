-- Where a packed primary may stand is one check, which refuses nothing after an empty primary (FITS 4.0, section 10.1.1).
use Rattle.std.proofs.Common.{◌≡◌, ℕ, Bool, true, false, ◌&&◌, List, [], ◌∷◌, ◌++◌, refl, ap, sym, ◌∙◌}
use Rattle.std.specs.Prelude.{not, pos, unwrap_or, None, Option, Some, Ok, codes}
use Rattle.fz_base.specs.Refusal.{first_refusal}
use Rattle.fz_base.specs.declared.fault.Fault.{Fault}
use Rattle.fz_block.specs.Checks.{unless_refused}
use Rattle.fz_block.specs.Hdus.{cards_of}
use Rattle.fz_block.specs.declared.header.Header.{Header}
use Rattle.fz_grid.specs.declared.region.Region.{Region}
use Rattle.fz_table.specs.Tables.{table_checks}
use Rattle.fz_checks.specs.JobChecks.{box_checks, cut_checks, image_checks, image_in, image_to_cut, packed_card_checks}
use Rattle.fz_head.specs.PackedChecks.{at_word, bitpix_checks, codec_checks, has_word, line_list_check, must_be, packed_checks, parameter_checks, row_check, scaling_check, shape_checks, sort_checks}
use Rattle.fz_head.specs.PackedPlan.{word_in}
use Rattle.fz_base.specs.declared.kind.Kind.TheVariants.{BadCard, MisplacedPrimary}
use Rattle.fz_card.specs.Reading.{is_text, logical_of, text_of}
use Rattle.fz_checks.specs.declared.job_checks.PackedImage.{PackedImage}

-- ---- checks of two lists, of which none refuses

passed : (xs ys : List (Bool × Fault)) → first_refusal xs ≡ None → first_refusal (xs ++ ys) ≡ first_refusal ys
passed [] ys none = refl
passed ((true, fault) ∷ xs) ys none = absurd cc
passed ((false, fault) ∷ xs) ys none = passed xs ys none

front_passed : (xs ys : List (Bool × Fault)) → first_refusal (xs ++ ys) ≡ None → first_refusal xs ≡ None
front_passed [] ys none = refl
front_passed ((true, fault) ∷ xs) ys none = none
front_passed ((false, fault) ∷ xs) ys none = front_passed xs ys none

pub back_passed : (xs ys : List (Bool × Fault)) → first_refusal (xs ++ ys) ≡ None → first_refusal ys ≡ None
back_passed xs ys none = sym (passed xs ys (front_passed xs ys none)) ∙ none

-- other checks in the place of some, which refuse nothing where these do not
behind : (xs ys zs : List (Bool × Fault)) → (first_refusal ys ≡ None → first_refusal zs ≡ None) → first_refusal (xs ++ ys) ≡ None → first_refusal (xs ++ zs) ≡ None
behind xs ys zs weaker none = passed xs zs (front_passed xs ys none) ∙ weaker (back_passed xs ys none)

before : (xs ys zs : List (Bool × Fault)) → (first_refusal xs ≡ None → first_refusal ys ≡ None) → first_refusal (xs ++ zs) ≡ None → first_refusal (ys ++ zs) ≡ None
before xs ys zs weaker none = passed ys zs (weaker (front_passed xs zs none)) ∙ back_passed xs zs none

never : (stands : Bool) (x : Fault) → first_refusal ((stands && not true, x) ∷ []) ≡ None
never true x = refl
never false x = refl

third : (a b : Bool × Fault) (stands after : Bool) (x : Fault) (d e : Bool × Fault) → first_refusal (a ∷ b ∷ (stands && not after, x) ∷ d ∷ e ∷ []) ≡ None →
    first_refusal (a ∷ b ∷ (stands && not true, x) ∷ d ∷ e ∷ []) ≡ None
third a b stands after x d e none =
    behind (a ∷ b ∷ []) ((stands && not after, x) ∷ d ∷ e ∷ []) ((stands && not true, x) ∷ d ∷ e ∷ [])
    (before ((stands && not after, x) ∷ []) ((stands && not true, x) ∷ []) (d ∷ e ∷ []) (λ is. never stands x)) none

module _ (k : ℕ) (header : List ℕ) (after_empty : Bool) where
  sorts : first_refusal (sort_checks k (cards_of header) after_empty) ≡ None → first_refusal (sort_checks k (cards_of header) true) ≡ None
  sorts none =
      let cards : List (List ℕ) = cards_of header in
      third (has_word (codes "ZSIMPLE") cards && not (unwrap_or (logical_of (word_in (codes "ZSIMPLE") cards)) false), at_word k (codes "ZSIMPLE") cards BadCard)
      (has_word (codes "ZTENSION") cards && not (is_text (codes "IMAGE") (text_of (word_in (codes "ZTENSION") cards))), at_word k (codes "ZTENSION") cards BadCard)
      (has_word (codes "ZSIMPLE") cards) after_empty (at_word k (codes "ZSIMPLE") cards MisplacedPrimary)
      (must_be k cards (codes "ZPCOUNT") (pos 0)) (must_be k cards (codes "ZGCOUNT") (pos 1)) none

  plans : first_refusal (packed_checks k header after_empty) ≡ None → first_refusal (packed_checks k header true) ≡ None
  plans none =
      let cards : List (List ℕ) = cards_of header in
      let rest : List (Bool × Fault) = line_list_check k cards ∷ row_check k header ∷ [] in
      behind (scaling_check k cards ∷ []) (codec_checks k cards ++ (bitpix_checks k cards ++ (shape_checks k cards ++ (parameter_checks k cards ++ (sort_checks k cards after_empty ++ rest))))) _
      (behind (codec_checks k cards) (bitpix_checks k cards ++ (shape_checks k cards ++ (parameter_checks k cards ++ (sort_checks k cards after_empty ++ rest)))) _
      (behind (bitpix_checks k cards) (shape_checks k cards ++ (parameter_checks k cards ++ (sort_checks k cards after_empty ++ rest))) _
      (behind (shape_checks k cards) (parameter_checks k cards ++ (sort_checks k cards after_empty ++ rest)) _
      (behind (parameter_checks k cards) (sort_checks k cards after_empty ++ rest) (sort_checks k cards true ++ rest)
      (before (sort_checks k cards after_empty) (sort_checks k cards true) rest sorts))))) none

module _ (h : Header) (header : List ℕ) (after_empty : Bool) (region : Region) where
  pub checks_behind : first_refusal (cut_checks h header after_empty region) ≡ None → first_refusal (cut_checks h header true region) ≡ None
  checks_behind none =
      behind (packed_card_checks h header) (image_checks h header after_empty ++ box_checks h.hdu (cards_of header) region) (image_checks h header true ++ box_checks h.hdu (cards_of header) region)
      (before (image_checks h header after_empty) (image_checks h header true) (box_checks h.hdu (cards_of header) region)
      (behind (table_checks header h) (packed_checks h.hdu header after_empty) (packed_checks h.hdu header true) (plans h.hdu header after_empty))) none

  pub answer : (r : Option Fault) (image : PackedImage) → unless_refused (image_in h header) r ≡ Ok image → (r ≡ None) × (image_in h header ≡ image)
  answer None image is = (refl, cc)
  answer (Some x) image is = absurd cc

  -- what passes the checks where it stands passes them after an empty primary
  pub cut_behind : (image : PackedImage) → image_to_cut h header after_empty region ≡ Ok image → image_to_cut h header true region ≡ Ok image
  unfolding image_to_cut
  cut_behind image is =
      let parts = answer (first_refusal (cut_checks h header after_empty region)) image is in
      ap (unless_refused (image_in h header)) (checks_behind parts.0) ∙ ap Ok parts.1
