-- What checks that refuse nothing say of the cards of a header.
use Rattle.std.proofs.Common.{◌≡◌, ℕ, zero, suc, ◌+◌, ◌*◌, ◌/◌, ◌<◌, ◌≤◌, Bool, true, false, cond, List, [], ◌∷◌, ◌++◌, length, take, drop, map, sym, refl, ap, ◌∙◌, subst, arith, inl, inr}
use Rattle.std.specs.Prelude.{Option, Some, None, IsSome, unwrap_or, codes}
use Rattle.std.specs.Option.{option_map}
use Rattle.std.specs.List.{AllByRecursion, flat_map, range_with_len}
use Rattle.std.proofs.lemmas.Bool.{cases_lt, cases_eq, ltb-false}
use Rattle.std.proofs.lemmas.List.{drop-drop}
use Rattle.std.proofs.lemmas.Slice.Eq.{bytes_eq-Decides}
use Rattle.fz_base.specs.Refusal.{first_refusal}
use Rattle.fz_base.specs.declared.fault.Fault.{Fault}
use Rattle.fz_card.specs.Layout.{card_name, padded}
use Rattle.fz_card.specs.Made.{numbered_name}
use Rattle.fz_block.specs.Cards.{card_at, is_named, end_among, end_of}
use Rattle.fz_block.specs.Facts.{IsHeaderOf}
use Rattle.fz_block.specs.declared.header.Header.{Header}
use Rattle.fz_block.specs.Hdus.{cards_of, size_at}
use Rattle.fz_block.specs.Mandatory.{mandatory_checks, extension_checks, bitpix_check, naxis_checks, axis_checks, count_checks}
use Rattle.fz_checks.proofs.Ranges.{Between}

-- no check of a list refuses
pub clear : (checks : List (Bool × Fault)) → first_refusal checks ≡ None → AllByRecursion (λ check. check.0 ≡ false) checks
clear [] e = tt
clear ((true, fault) ∷ checks) e = cc
clear ((false, fault) ∷ checks) e = (refl, clear checks e)

pub clear-front : (front rest : List (Bool × Fault)) → first_refusal (front ++ rest) ≡ None → first_refusal front ≡ None
clear-front [] rest e = refl
clear-front ((true, fault) ∷ front) rest e = cc
clear-front ((false, fault) ∷ front) rest e = clear-front front rest e

pub clear-rest : (front rest : List (Bool × Fault)) → first_refusal (front ++ rest) ≡ None → first_refusal rest ≡ None
clear-rest [] rest e = e
clear-rest ((true, fault) ∷ front) rest e = cc
clear-rest ((false, fault) ∷ front) rest e = clear-rest front rest e

pub clear-each : (checks : ℕ → List (Bool × Fault)) (a n : ℕ) → first_refusal (flat_map checks (range_with_len a n)) ≡ None → Between a n (λ i. first_refusal (checks i) ≡ None)
clear-each checks a zero e i low high = absurd (omega arith)
clear-each checks a (suc n) e i low high = by_place (λ (same : a ≡ i). subst (λ k. first_refusal (checks k) ≡ None) same here) (λ above. clear-each checks (a + 1) n there i above (omega arith))
  where
    here : first_refusal (checks a) ≡ None
    here = clear-front (checks a) (flat_map checks (range_with_len (a + 1) n)) e

    there : first_refusal (flat_map checks (range_with_len (a + 1) n)) ≡ None
    there = clear-rest (checks a) (flat_map checks (range_with_len (a + 1) n)) e

    by_place : (a ≡ i → first_refusal (checks i) ≡ None) → (a + 1 ≤ i → first_refusal (checks i) ≡ None) → first_refusal (checks i) ≡ None
    by_place at above = elim (cases_lt a i) [ inl less ↦ above (omega arith) | inr more ↦ at (omega arith) ]

-- the mandatory cards of a header: the first card, and how many there are
abbrev pub first_word : Bool → List ℕ
first_word primary = padded (cond primary (codes "SIMPLE") (codes "XTENSION"))

abbrev pub front_count : Bool → ℕ → ℕ
front_count primary n = 3 + n + cond primary 0 2

pub record HasFront (header : List ℕ) (primary : Bool) (n : ℕ) : Type 0 where
  pub few : n ≤ 9
  pub first : card_name (card_at header 0) ≡ first_word primary
  pub bitpix : card_name (card_at header 1) ≡ padded (codes "BITPIX")
  pub naxis : card_name (card_at header 2) ≡ padded (codes "NAXIS")
  pub axis : (i : ℕ) → 1 ≤ i → i ≤ n → card_name (card_at header (2 + i)) ≡ numbered_name (codes "NAXIS") i
  pub pcount : primary ≡ false → card_name (card_at header (3 + n)) ≡ padded (codes "PCOUNT")
  pub gcount : primary ≡ false → card_name (card_at header (4 + n)) ≡ padded (codes "GCOUNT")

-- a header has at most nine axes
pub few-axes : (k : ℕ) (header : List ℕ) → first_refusal (mandatory_checks k header) ≡ None → size_at header 2 ≤ 9
few-axes k header e =
    let axes = flat_map (axis_checks k header) (range_with_len 1 (size_at header 2)) in
    let later = clear-rest (extension_checks k header) (bitpix_check k header ∷ naxis_checks k header ++ (axes ++ count_checks k header)) e in
    let sizes = clear (bitpix_check k header ∷ naxis_checks k header) (clear-front (bitpix_check k header ∷ naxis_checks k header) (axes ++ count_checks k header) later) in
    ltb-false 9 (size_at header 2) sizes.1.1.0

-- HDU 0 is the primary
abbrev pub is_first_hdu : ℕ → Bool
is_first_hdu zero = true
is_first_hdu (suc k) = false

-- the search for END: it is the card that was found
found_more : (o : Option ℕ) (last : ℕ) → option_map suc o ≡ Some last → (i : ℕ) × (o ≡ Some i) × (last ≡ suc i)
found_more None last e = cc
found_more (Some i) last e = (i, refl, cc)

pub end-found : (count : ℕ) (cards : List ℕ) (last : ℕ) → end_among count cards ≡ Some last → (last < count) × (is_named (codes "END") (card_at cards last) ≡ true)
unfolding end_among
end-found zero cards last e = cc
end-found (suc n) cards last e = by_test (is_named (codes "END") (take 80 cards)) refl e (λ i found. end-found n (drop 80 cards) i found)
  where
    by_test : (b : Bool) → is_named (codes "END") (take 80 cards) ≡ b → cond b (Some 0) (option_map suc (end_among n (drop 80 cards))) ≡ Some last →
        ((i : ℕ) → end_among n (drop 80 cards) ≡ Some i → (i < n) × (is_named (codes "END") (card_at (drop 80 cards) i) ≡ true)) → (last < suc n) × (is_named (codes "END") (card_at cards last) ≡ true)
    by_test true t h rest = let none : 0 ≡ last = cc in (omega arith, subst (λ k. is_named (codes "END") (card_at cards k) ≡ true) none t)
    by_test false t h rest =
        let more = found_more (end_among n (drop 80 cards)) last h in
        let inner = rest more.0 more.1 in
        let place : 80 + 80 * more.0 ≡ 80 * last = omega (arith, more.2) in
        let same : card_at (drop 80 cards) more.0 ≡ card_at cards last = ap (take 80) (drop-drop (80 * more.0) 80 cards ∙ ap (λ k. drop k cards) place) in
        (omega (arith, inner.0, more.2), ap (is_named (codes "END")) (sym same) ∙ inner.1)

pub record HasEnd (header : List ℕ) (last : ℕ) : Type 0 where
  pub found : end_of header ≡ Some last
  pub within : 80 * (last + 1) ≤ length header
  pub named : card_name (card_at header last) ≡ padded (codes "END")

end-of-by : (header : List ℕ) (o : Option ℕ) → end_of header ≡ o → IsSome o → (last : ℕ) × HasEnd header last
end-of-by header None e some = cc
end-of-by header (Some last) e some =
    let is = end-found (length header / 80) header last e in
    (last, record { found = e; within = omega (arith, is.0); named = (bytes_eq-Decides (card_name (card_at header last)) (padded (codes "END"))).0 is.1 })

pub has_end : (header : List ℕ) → IsSome (end_of header) → (last : ℕ) × HasEnd header last
has_end header some = end-of-by header (end_of header) refl some

-- the place of a mandatory card
pub data Place (primary : Bool) (n i : ℕ) : Type 0 where
  At_first : i ≡ 0 → Place primary n i
  At_bitpix : i ≡ 1 → Place primary n i
  At_naxis : i ≡ 2 → Place primary n i
  At_axis : (k : ℕ) → 1 ≤ k → k ≤ n → i ≡ 2 + k → Place primary n i
  At_pcount : primary ≡ false → i ≡ 3 + n → Place primary n i
  At_gcount : primary ≡ false → i ≡ 4 + n → Place primary n i

pub place : (primary : Bool) (n i : ℕ) → i < front_count primary n → Place primary n i
place primary n zero below = At_first refl
place primary n (suc zero) below = At_bitpix refl
place primary n (suc (suc zero)) below = At_naxis refl
place true n (suc (suc (suc j))) below = At_axis (j + 1) (omega arith) (omega arith) (omega arith)
place false n (suc (suc (suc j))) below = elim (cases_lt j n) [
  | inl axis ↦ At_axis (j + 1) (omega arith) (omega arith) (omega arith)
  | inr behind ↦ elim (cases_eq j n) [
    | inl same ↦ At_pcount refl (omega arith)
    | inr other ↦ At_gcount refl (omega arith)
  ]
]

-- END of a header that was read, and its length
pub header-end : (header : List ℕ) (h : Header) → IsHeaderOf header h → HasEnd header h.cards
header-end header h is =
    let end = has_end header is.whole.has in
    let same : h.cards ≡ end.0 = ap (λ (f : Header). f.cards) is.facts ∙ ap (λ o. unwrap_or o 0) end.1.found in
    subst (HasEnd header) (sym same) end.1

pub header-cards : (header : List ℕ) (h : Header) → IsHeaderOf header h → cards_of header ≡ map (card_at header) (range_with_len 0 h.cards)
header-cards header h is = ap (λ o. map (card_at header) (range_with_len 0 (unwrap_or o 0))) (header-end header h is).found
