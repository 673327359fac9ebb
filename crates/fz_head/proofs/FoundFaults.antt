-- Checks that refuse where something is found.
use Rattle.std.proofs.Common.{◌≡◌, ℕ, ◌+◌, ◌*◌, not, ◌==◌, List, [], ◌∷◌, drop, ap, ◌∙◌, arith}
use Rattle.std.specs.Prelude.{Option, Some, None, is_some, unwrap_or, position}
use Rattle.fz_base.specs.Refusal.{first_refusal, refusal}
use Rattle.fz_base.specs.declared.fault.Fault.{Fault}
use Rattle.fz_base.specs.declared.fault.Place.TheVariants.{Byte}
use Rattle.fz_base.specs.declared.kind.Kind.TheVariants.{HeaderFill}
use Rattle.fz_block.specs.Facts.{IsHeaderOf}
use Rattle.fz_block.specs.Hdus.{behind_end}
use Rattle.fz_block.specs.declared.header.Header.{Header}
use Rattle.fz_head.specs.PackChecks.{fill_place, header_fill}
use Rattle.fz_head.proofs.FrontCards.{header-end}

-- found, and not found
pub at-found : (fault : ℕ → Fault) (found : Option ℕ) (i : ℕ) → found ≡ Some i → first_refusal ((is_some found, fault (unwrap_or found 0)) ∷ []) ≡ Some (fault i)
at-found fault found i e = ap (λ o. first_refusal ((is_some o, fault (unwrap_or o 0)) ∷ [])) e

pub not-found : (fault : ℕ → Fault) (found : Option ℕ) → found ≡ None → first_refusal ((is_some found, fault (unwrap_or found 0)) ∷ []) ≡ None
not-found fault found e = ap (λ o. first_refusal ((is_some o, fault (unwrap_or o 0)) ∷ [])) e

-- where END of a header that was read ends
pub end-place : (header : List ℕ) (h : Header) → IsHeaderOf header h → behind_end header ≡ 80 * h.cards + 3
end-place header h is = ap (λ end. 80 * unwrap_or end 0 + 3) (header-end header h is).found

fill-at : (header : List ℕ) (h : Header) → IsHeaderOf header h → fill_place header ≡ position (λ b. not (b == 32)) (drop (80 * h.cards + 3) header)
fill-at header h is = ap (λ n. position (λ b. not (b == 32)) (drop n header)) (end-place header h is)

pub fill-found : (header : List ℕ) (h : Header) (i : ℕ) → IsHeaderOf header h → position (λ b. not (b == 32)) (drop (80 * h.cards + 3) header) ≡ Some i →
    first_refusal (header_fill h header ∷ []) ≡ Some (refusal h.hdu (Byte (h.start + (80 * h.cards + 3 + i))) HeaderFill)
fill-found header h i is e =
    let place : h.start + behind_end header + i ≡ h.start + (80 * h.cards + 3 + i) = omega (arith, end-place header h is) in
    at-found (λ k. refusal h.hdu (Byte (h.start + behind_end header + k)) HeaderFill) (fill_place header) i (fill-at header h is ∙ e)
    ∙ ap (λ k. Some (refusal h.hdu (Byte k) HeaderFill)) place

pub fill-none : (header : List ℕ) (h : Header) → IsHeaderOf header h → position (λ b. not (b == 32)) (drop (80 * h.cards + 3) header) ≡ None → first_refusal (header_fill h header ∷ []) ≡ None
fill-none header h is e = not-found (λ k. refusal h.hdu (Byte (h.start + behind_end header + k)) HeaderFill) (fill_place header) (fill-at header h is ∙ e)
