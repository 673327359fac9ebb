-- A header at another place of a file.
use Rattle.std.proofs.Common.{◌≡◌, ℕ, ◌≤◌, ◌^◌, not, nat_lt, Bool, false, List, [], ◌∷◌, ◌++◌, None, Ok, refl, ◌∙◌, ap, arith}
use Rattle.std.proofs.lemmas.Bool.Decides.{nat_tests}
use Rattle.fz_base.specs.Refusal.{refusal, first_refusal}
use Rattle.fz_base.specs.declared.fault.Fault.{Fault}
use Rattle.fz_base.specs.declared.fault.Place.TheVariants.{Byte, Card}
use Rattle.fz_base.specs.declared.kind.Kind.TheVariants.{Truncated, BadCard, Limit}
use Rattle.fz_block.specs.Checks.{unless_refused, ends_in_last_block, group_checks, hdu_end, end_checks, header_checks, header_of}
use Rattle.fz_block.specs.Facts.{IsHeaderOf, facts_of, begun_at}
use Rattle.fz_block.specs.Mandatory.{mandatory_checks}
use Rattle.fz_block.specs.declared.header.Header.{Header}
use Rattle.fz_block.proofs.HduLemmas.{answered}
use Rattle.fz_block.proofs.Refusals.{passed, front_passed, back_passed}

pub facts_again : (header : List ℕ) (h : Header) (start : ℕ) → IsHeaderOf header h → IsHeaderOf header (begun_at start h)
facts_again header h start is = record {
  whole = is.whole;
  short = is.short;
  mandatory = is.mandatory;
  facts = ap (begun_at start) is.facts;
}

-- an HDU that ends within the file
neither : (a b : Bool) (x y : Fault) → a ≡ false → b ≡ false → first_refusal ((a, x) ∷ (b, y) ∷ []) ≡ None
neither a b x y one two = rw (one, two) refl

ends_clear : (k len end : ℕ) → end ≤ len → end ≤ 2 ^ 62 → first_refusal (end_checks k len end) ≡ None
ends_clear k len end within low =
    let one : nat_lt (2 ^ 62) end ≡ false = grind (arith, nat_tests) in
    let two : nat_lt len end ≡ false = grind (arith, nat_tests) in
    neither (nat_lt (2 ^ 62) end) (nat_lt len end) (refusal k (Card 2) Limit) (refusal k (Byte len) Truncated) one two

pub checks_again : (k start len : ℕ) (header : List ℕ) (h : Header) (start' len' : ℕ) → header_of k start len header ≡ Ok h →
    hdu_end k start' header ≤ len' → hdu_end k start' header ≤ 2 ^ 62 → header_of k start' len' header ≡ Ok (begun_at start' h)
unfolding header_of
checks_again k start len header h start' len' is within low =
    let all = answered (facts_of k start header) h (first_refusal (header_checks k start len header)) is in
    let w : List (Bool × Fault) = (not (ends_in_last_block header), refusal k (Card 0) BadCard) ∷ [] in
    let m : List (Bool × Fault) = mandatory_checks k header in
    let g : List (Bool × Fault) = group_checks k header in
    let e : List (Bool × Fault) = end_checks k len (hdu_end k start header) in
    let e' : List (Bool × Fault) = end_checks k len' (hdu_end k start' header) in
    let whole = front_passed w (m ++ (g ++ e)) all.0 in
    let later = back_passed w (m ++ (g ++ e)) all.0 in
    let mandatory = front_passed m (g ++ e) later in
    let groups = front_passed g e (back_passed m (g ++ e) later) in
    let ends : first_refusal e' ≡ None = ends_clear k len' (hdu_end k start' header) within low in
    let none : first_refusal (header_checks k start' len' header) ≡ None = passed w (m ++ (g ++ e')) whole ∙ (passed m (g ++ e') mandatory ∙ (passed g e' groups ∙ ends)) in
    ap (unless_refused (facts_of k start' header)) none ∙ ap (λ (x : Header). Ok (begun_at start' x)) all.1
