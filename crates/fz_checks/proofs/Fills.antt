-- Fill of which no byte is another than it has to be.
use Rattle.std.proofs.Common.{◌≡◌, ℕ, false, not, ◌==◌, List, [], ◌∷◌, length, drop, replicate, refl, ap, sym, ◌∙◌}
use Rattle.std.specs.Prelude.{None, is_some}
use Rattle.std.specs.List.{list_any, position}
use Rattle.std.proofs.lemmas.Bool.{eqb-true, not-false, or_parts}
use Rattle.std.proofs.lemmas.List.{length-drop}
use Rattle.fz_base.specs.Refusal.{first_refusal}
use Rattle.fz_card.specs.Layout.{blanks}
use Rattle.fz_block.specs.Hdus.{HasBlankFill, behind_end}
use Rattle.fz_block.specs.declared.header.Header.{Header}
use Rattle.fz_checks.specs.JobChecks.{data_fill}
use Rattle.fz_head.specs.PackChecks.{name_checks}
use Rattle.fz_checks.proofs.FrontCards.{clear}
use Rattle.fz_checks.proofs.Positions.{some-position}

all-same : (b : ℕ) (bytes : List ℕ) → list_any (λ x. not (x == b)) bytes ≡ false → bytes ≡ replicate (length bytes) b
all-same b [] none = refl
all-same b (x ∷ xs) none =
    let parts = or_parts (not (x == b)) (list_any (λ y. not (y == b)) xs) none in
    ap (λ y. y ∷ xs) (eqb-true x b (not-false (x == b) parts.0)) ∙ ap (λ l. b ∷ l) (all-same b xs parts.1)

no-other : (b : ℕ) (bytes : List ℕ) → is_some (position (λ x. not (x == b)) bytes) ≡ false → bytes ≡ replicate (length bytes) b
no-other b bytes none = all-same b bytes (sym (some-position (λ x. not (x == b)) bytes) ∙ none)

-- the fill of a header
pub blank-fill : (h : Header) (header : List ℕ) → first_refusal (name_checks h header) ≡ None → HasBlankFill header
blank-fill h header none = no-other 32 (drop (behind_end header) header) (clear (name_checks h header) none).1.1.0 ∙ ap blanks (length-drop (behind_end header) header)

-- the fill of data
pub zero-fill : (h : Header) (fill : List ℕ) → first_refusal (data_fill h fill ∷ []) ≡ None → fill ≡ replicate (length fill) 0
zero-fill h fill none = no-other 0 fill (clear (data_fill h fill ∷ []) none).0
