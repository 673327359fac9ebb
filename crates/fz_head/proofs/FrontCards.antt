-- What checks that refuse nothing say of the cards of a header.
use Rattle.std.proofs.Common.{◌≡◌, ℕ, zero, suc, ◌+◌, ◌*◌, ◌/◌, ◌<◌, ◌≤◌, Bool, true, false, cond, List, [], ◌∷◌, ◌++◌, length, get_or, take, drop, map, sym, refl, ap, ◌∙◌, subst, arith, inl, inr, zero-add}
use Rattle.std.specs.Prelude.{◌&&◌, not, Option, Some, None, IsSome, unwrap_or, codes, bytes_eq}
use Rattle.std.specs.Option.{option_map}
use Rattle.std.specs.List.{AllByRecursion, flat_map, list_any, range_with_len}
use Rattle.std.proofs.lemmas.Bool.{cases_lt, cases_eq, ltb-false, and_parts, and_from, both_ways, not-false}
use Rattle.std.proofs.lemmas.List.{drop-drop, length-take-le, length-drop}
use Rattle.std.proofs.lemmas.List.FromFn.{length-range_with_len, get_or-range_with_len, length-map-range_with_len, get_or-map-range_with_len, take-map-range_with_len}
use Rattle.std.proofs.lemmas.Slice.Eq.{bytes_eq-Decides}
use Rattle.fz_base.specs.Refusal.{first_refusal}
use Rattle.fz_base.specs.declared.fault.Fault.{Fault}
use Rattle.fz_card.specs.Laws.{CardLaws}
use Rattle.fz_card.specs.Layout.{card_name, padded}
use Rattle.fz_card.specs.Made.{numbered_name}
use Rattle.fz_card.specs.Naming.{is_in_some, number_behind}
use Rattle.fz_block.specs.Cards.{card_at, is_named, end_among, end_of}
use Rattle.fz_block.specs.Facts.{IsHeaderOf}
use Rattle.fz_block.specs.declared.header.Header.{Header}
use Rattle.fz_block.specs.Hdus.{cards_of, size_at}
use Rattle.fz_block.specs.Mandatory.{mandatory_checks, extension_checks, bitpix_check, naxis_checks, axis_checks, count_checks}
use Rattle.fz_head.specs.Repeats.{repeats, first_repeat, image_names, itself}
use Rattle.fz_head.proofs.Ranges.{Between, position_none, any_of}

-- no check of a list refuses
pub clear : (checks : List (Bool × Fault)) → first_refusal checks ≡ None → AllByRecursion (λ check. check.0 ≡ false) checks
clear [] e = tt
clear ((true, fault) ∷ checks) e = cc
clear ((false, fault) ∷ checks) e = (refl, clear checks e)

pub clear-front : (front rest : List (Bool × Fault)) → first_refusal (front ++ rest) ≡ None → first_refusal front ≡ None
clear-front [] rest e = refl
clear-front ((true, fault) ∷ front) rest e = cc
clear-front ((false, fault) ∷ front) rest e = clear-front front rest e

pub clear-rest : (front rest : List (Bool × Fault)) → first_refusal (front ++ rest) ≡ None → first_refusal rest ≡ None
clear-rest [] rest e = e
clear-rest ((true, fault) ∷ front) rest e = cc
clear-rest ((false, fault) ∷ front) rest e = clear-rest front rest e

pub clear-each : (checks : ℕ → List (Bool × Fault)) (a n : ℕ) → first_refusal (flat_map checks (range_with_len a n)) ≡ None → Between a n (λ i. first_refusal (checks i) ≡ None)
clear-each checks a zero e i low high = absurd (omega arith)
clear-each checks a (suc n) e i low high = by_place (λ (same : a ≡ i). subst (λ k. first_refusal (checks k) ≡ None) same here) (λ above. clear-each checks (a + 1) n there i above (omega arith))
  where
    here : first_refusal (checks a) ≡ None
    here = clear-front (checks a) (flat_map checks (range_with_len (a + 1) n)) e

    there : first_refusal (flat_map checks (range_with_len (a + 1) n)) ≡ None
    there = clear-rest (checks a) (flat_map checks (range_with_len (a + 1) n)) e

    by_place : (a ≡ i → first_refusal (checks i) ≡ None) → (a + 1 ≤ i → first_refusal (checks i) ≡ None) → first_refusal (checks i) ≡ None
    by_place at above = elim (cases_lt a i) [ inl less ↦ above (omega arith) | inr more ↦ at (omega arith) ]

-- a card that must be so is so
pub must-name : (name card : List ℕ) (value : Bool) → not (bytes_eq (card_name card) name && value) ≡ false → card_name card ≡ name
must-name name card value e =
    (bytes_eq-Decides (card_name card) name).0 (and_parts (bytes_eq (card_name card) name) value (not-false (bytes_eq (card_name card) name && value) e)).0

-- the mandatory cards of a header: the first card, and how many there are
abbrev pub first_word : Bool → List ℕ
first_word primary = padded (cond primary (codes "SIMPLE") (codes "XTENSION"))

abbrev pub front_count : Bool → ℕ → ℕ
front_count primary n = 3 + n + cond primary 0 2

pub record HasFront (header : List ℕ) (primary : Bool) (n : ℕ) : Type 0 where
  pub few : n ≤ 9
  pub first : card_name (card_at header 0) ≡ first_word primary
  pub bitpix : card_name (card_at header 1) ≡ padded (codes "BITPIX")
  pub naxis : card_name (card_at header 2) ≡ padded (codes "NAXIS")
  pub axis : (i : ℕ) → 1 ≤ i → i ≤ n → card_name (card_at header (2 + i)) ≡ numbered_name (codes "NAXIS") i
  pub pcount : primary ≡ false → card_name (card_at header (3 + n)) ≡ padded (codes "PCOUNT")
  pub gcount : primary ≡ false → card_name (card_at header (4 + n)) ≡ padded (codes "GCOUNT")

-- a header has at most nine axes
pub few-axes : (k : ℕ) (header : List ℕ) → first_refusal (mandatory_checks k header) ≡ None → size_at header 2 ≤ 9
few-axes k header e =
    let axes = flat_map (axis_checks k header) (range_with_len 1 (size_at header 2)) in
    let later = clear-rest (extension_checks k header) (bitpix_check k header ∷ naxis_checks k header ++ (axes ++ count_checks k header)) e in
    let sizes = clear (bitpix_check k header ∷ naxis_checks k header) (clear-front (bitpix_check k header ∷ naxis_checks k header) (axes ++ count_checks k header) later) in
    ltb-false 9 (size_at header 2) sizes.1.1.0

-- cards 1 and 2 are BITPIX and NAXIS
pub size-names : (k : ℕ) (header : List ℕ) → first_refusal (mandatory_checks k header) ≡ None → (card_name (card_at header 1) ≡ padded (codes "BITPIX")) × (card_name (card_at header 2) ≡ padded (codes "NAXIS"))
size-names k header e =
    let axes = flat_map (axis_checks k header) (range_with_len 1 (size_at header 2)) in
    let later = clear-rest (extension_checks k header) (bitpix_check k header ∷ naxis_checks k header ++ (axes ++ count_checks k header)) e in
    let sizes = clear (bitpix_check k header ∷ naxis_checks k header) (clear-front (bitpix_check k header ∷ naxis_checks k header) (axes ++ count_checks k header) later) in
    (must-name (padded (codes "BITPIX")) (card_at header 1) _ sizes.0, must-name (padded (codes "NAXIS")) (card_at header 2) _ sizes.1.0)

-- HDU 0 is the primary
abbrev pub is_first_hdu : ℕ → Bool
is_first_hdu zero = true
is_first_hdu (suc k) = false

pub has_front : (k : ℕ) (header : List ℕ) → (k ≡ 0 → is_named (codes "SIMPLE") (card_at header 0) ≡ true) → first_refusal (mandatory_checks k header) ≡ None → HasFront header (is_first_hdu k) (size_at header 2)
has_front k header simple e = record {
  few = few-axes k header e;
  first = first k simple (clear-front (extension_checks k header) behind e);
  bitpix = (size-names k header e).0;
  naxis = (size-names k header e).1;
  axis = λ i low high. must-name (numbered_name (codes "NAXIS") i) (card_at header (2 + i)) _ (clear (axis_checks k header i) (clear-each (axis_checks k header) 1 (size_at header 2) (clear-front axes (count_checks k header) lengths) i low (omega arith))).0;
  pcount = pcount k (clear-rest axes (count_checks k header) lengths);
  gcount = gcount k (clear-rest axes (count_checks k header) lengths);
}
  where
    axes : List (Bool × Fault)
    axes = flat_map (axis_checks k header) (range_with_len 1 (size_at header 2))

    behind : List (Bool × Fault)
    behind = bitpix_check k header ∷ naxis_checks k header ++ (axes ++ count_checks k header)

    later : first_refusal behind ≡ None
    later = clear-rest (extension_checks k header) behind e

    lengths : first_refusal (axes ++ count_checks k header) ≡ None
    lengths = clear-rest (bitpix_check k header ∷ naxis_checks k header) (axes ++ count_checks k header) later

    first : (k : ℕ) → (k ≡ 0 → is_named (codes "SIMPLE") (card_at header 0) ≡ true) → first_refusal (extension_checks k header) ≡ None → card_name (card_at header 0) ≡ first_word (is_first_hdu k)
    first zero simple none = (bytes_eq-Decides (card_name (card_at header 0)) (padded (codes "SIMPLE"))).0 (simple refl)
    first (suc k) simple none = must-name (padded (codes "XTENSION")) (card_at header 0) _ (clear (extension_checks (suc k) header) none).0

    pcount : (k : ℕ) → first_refusal (count_checks k header) ≡ None → is_first_hdu k ≡ false → card_name (card_at header (3 + size_at header 2)) ≡ padded (codes "PCOUNT")
    pcount zero none primary = cc
    pcount (suc k) none primary = must-name (padded (codes "PCOUNT")) (card_at header (3 + size_at header 2)) _ (clear (count_checks (suc k) header) none).0

    gcount : (k : ℕ) → first_refusal (count_checks k header) ≡ None → is_first_hdu k ≡ false → card_name (card_at header (4 + size_at header 2)) ≡ padded (codes "GCOUNT")
    gcount zero none primary = cc
    gcount (suc k) none primary = must-name (padded (codes "GCOUNT")) (card_at header (4 + size_at header 2)) _ (clear (count_checks (suc k) header) none).1.0

-- the search for END: it is the card that was found
found_more : (o : Option ℕ) (last : ℕ) → option_map suc o ≡ Some last → (i : ℕ) × (o ≡ Some i) × (last ≡ suc i)
found_more None last e = cc
found_more (Some i) last e = (i, refl, cc)

pub end-found : (count : ℕ) (cards : List ℕ) (last : ℕ) → end_among count cards ≡ Some last → (last < count) × (is_named (codes "END") (card_at cards last) ≡ true)
unfolding end_among
end-found zero cards last e = cc
end-found (suc n) cards last e = by_test (is_named (codes "END") (take 80 cards)) refl e (λ i found. end-found n (drop 80 cards) i found)
  where
    by_test : (b : Bool) → is_named (codes "END") (take 80 cards) ≡ b → cond b (Some 0) (option_map suc (end_among n (drop 80 cards))) ≡ Some last →
        ((i : ℕ) → end_among n (drop 80 cards) ≡ Some i → (i < n) × (is_named (codes "END") (card_at (drop 80 cards) i) ≡ true)) → (last < suc n) × (is_named (codes "END") (card_at cards last) ≡ true)
    by_test true t h rest = let none : 0 ≡ last = cc in (omega arith, subst (λ k. is_named (codes "END") (card_at cards k) ≡ true) none t)
    by_test false t h rest =
        let more = found_more (end_among n (drop 80 cards)) last h in
        let inner = rest more.0 more.1 in
        let place : 80 + 80 * more.0 ≡ 80 * last = omega (arith, more.2) in
        let same : card_at (drop 80 cards) more.0 ≡ card_at cards last = ap (take 80) (drop-drop (80 * more.0) 80 cards ∙ ap (λ k. drop k cards) place) in
        (omega (arith, inner.0, more.2), ap (is_named (codes "END")) (sym same) ∙ inner.1)

pub record HasEnd (header : List ℕ) (last : ℕ) : Type 0 where
  pub found : end_of header ≡ Some last
  pub within : 80 * (last + 1) ≤ length header
  pub named : card_name (card_at header last) ≡ padded (codes "END")

end-of-by : (header : List ℕ) (o : Option ℕ) → end_of header ≡ o → IsSome o → (last : ℕ) × HasEnd header last
end-of-by header None e some = cc
end-of-by header (Some last) e some =
    let is = end-found (length header / 80) header last e in
    (last, record { found = e; within = omega (arith, is.0); named = (bytes_eq-Decides (card_name (card_at header last)) (padded (codes "END"))).0 is.1 })

pub has_end : (header : List ℕ) → IsSome (end_of header) → (last : ℕ) × HasEnd header last
has_end header some = end-of-by header (end_of header) refl some

-- a card before END has 80 bytes
pub eighty : (header : List ℕ) (last i : ℕ) → HasEnd header last → i < last → length (card_at header i) ≡ 80
eighty header last i end before = length-take-le 80 (drop (80 * i) header) (omega (arith, end.within, length-drop (80 * i) header))

-- the mandatory cards have names that stand once
once-word : (name word : List ℕ) → name ≡ padded word → is_in_some image_names (padded word) ≡ true → is_in_some image_names name ≡ true
once-word name word e is = ap (is_in_some image_names) e ∙ is

-- the place of a mandatory card
pub data Place (primary : Bool) (n i : ℕ) : Type 0 where
  At_first : i ≡ 0 → Place primary n i
  At_bitpix : i ≡ 1 → Place primary n i
  At_naxis : i ≡ 2 → Place primary n i
  At_axis : (k : ℕ) → 1 ≤ k → k ≤ n → i ≡ 2 + k → Place primary n i
  At_pcount : primary ≡ false → i ≡ 3 + n → Place primary n i
  At_gcount : primary ≡ false → i ≡ 4 + n → Place primary n i

pub place : (primary : Bool) (n i : ℕ) → i < front_count primary n → Place primary n i
place primary n zero below = At_first refl
place primary n (suc zero) below = At_bitpix refl
place primary n (suc (suc zero)) below = At_naxis refl
place true n (suc (suc (suc j))) below = At_axis (j + 1) (omega arith) (omega arith) (omega arith)
place false n (suc (suc (suc j))) below = elim (cases_lt j n) [
  | inl axis ↦ At_axis (j + 1) (omega arith) (omega arith) (omega arith)
  | inr behind ↦ elim (cases_eq j n) [
    | inl same ↦ At_pcount refl (omega arith)
    | inr other ↦ At_gcount refl (omega arith)
  ]
]

once-pcount : is_in_some image_names (padded (codes "PCOUNT")) ≡ true
unfolding number_behind
once-pcount = refl

once-gcount : is_in_some image_names (padded (codes "GCOUNT")) ≡ true
unfolding number_behind
once-gcount = refl

end-is-other : is_in_some image_names (padded (codes "END")) ≡ false
unfolding number_behind
end-is-other = refl

once-first : (primary : Bool) → is_in_some image_names (first_word primary) ≡ true
once-first true = refl
once-first false = refl

repeated : (header card card' : List ℕ) (earlier : List (List ℕ)) (i j : ℕ) → card' ≡ card → earlier ≡ map (card_at header) (range_with_len 0 i) → j < i →
    is_in_some image_names (card_name card) ≡ true → card_name (card_at header j) ≡ card_name card →
    (is_in_some image_names (card_name card') && list_any (λ c. bytes_eq (itself (card_name c)) (itself (card_name card'))) earlier) ≡ false → ⊥
repeated header card card' earlier i j same front before single name test =
    let here : (is_in_some image_names (card_name card) && list_any (λ c. bytes_eq (card_name c) (card_name card)) (map (card_at header) (range_with_len 0 i))) ≡ false = rw (same, front) at test in
    let found : list_any (λ c. bytes_eq (card_name c) (card_name card)) (map (card_at header) (range_with_len 0 i)) ≡ true =
    any_of (λ c. bytes_eq (card_name c) (card_name card)) (card_at header) 0 i j (omega arith) (omega arith) ((bytes_eq-Decides (card_name (card_at header j)) (card_name card)).1 name) in
    both_ways (is_in_some image_names (card_name card) && list_any (λ c. bytes_eq (card_name c) (card_name card)) (map (card_at header) (range_with_len 0 i))) here
    (and_from (is_in_some image_names (card_name card)) (list_any (λ c. bytes_eq (card_name c) (card_name card)) (map (card_at header) (range_with_len 0 i))) single found)

-- no card repeats the name of an earlier one, where that name stands once
pub no_repeat : (header : List ℕ) (count j i : ℕ) → first_repeat image_names itself (map (card_at header) (range_with_len 0 count)) ≡ None → j < i → i < count →
    is_in_some image_names (card_name (card_at header i)) ≡ true → ¬ (card_name (card_at header j) ≡ card_name (card_at header i))
no_repeat header count j i none before within single same =
    let cards = map (card_at header) (range_with_len 0 count) in
    let long : length cards ≡ count = length-map-range_with_len (card_at header) 0 count in
    let test : repeats image_names itself cards (get_or (range_with_len 0 (length cards)) i 0) ≡ false =
    position_none (repeats image_names itself cards) (range_with_len 0 (length cards)) i 0 none (omega (arith, length-range_with_len 0 (length cards))) in
    let index : get_or (range_with_len 0 (length cards)) i 0 ≡ i = get_or-range_with_len 0 (length cards) i 0 (omega arith) ∙ zero-add i in
    let card : get_or cards i [] ≡ card_at header i = get_or-map-range_with_len (card_at header) 0 count i i [] within (zero-add i) in
    let front : take i cards ≡ map (card_at header) (range_with_len 0 i) = take-map-range_with_len (card_at header) 0 count i (omega arith) in
    repeated header (card_at header i) (get_or cards i []) (take i cards) i j card front before single same (ap (repeats image_names itself cards) (sym index) ∙ test)

-- END of a header that was read, and its length
pub header-end : (header : List ℕ) (h : Header) → IsHeaderOf header h → HasEnd header h.cards
header-end header h is =
    let end = has_end header is.whole.has in
    let same : h.cards ≡ end.0 = ap (λ (f : Header). f.cards) is.facts ∙ ap (λ o. unwrap_or o 0) end.1.found in
    subst (HasEnd header) (sym same) end.1

pub header-cards : (header : List ℕ) (h : Header) → IsHeaderOf header h → cards_of header ≡ map (card_at header) (range_with_len 0 h.cards)
header-cards header h is = ap (λ o. map (card_at header) (range_with_len 0 (unwrap_or o 0))) (header-end header h is).found

-- by the laws of cards
module _ (laws : CardLaws) where
  pub once-axis : (i : ℕ) → 1 ≤ i → i ≤ 9 → is_in_some image_names (numbered_name (codes "NAXIS") i) ≡ true
  once-axis i low high =
      laws.names.named_list image_names (numbered_name (codes "NAXIS") i) (tt, (tt, (tt, (tt, (omega arith, (tt, (tt, tt)))))))
      (inr (inr (inr (inr (inl (record { number = i; low = low; high = omega arith; made = refl }))))))

  pub once : (header : List ℕ) (primary : Bool) (n i : ℕ) → HasFront header primary n → Place primary n i → is_in_some image_names (card_name (card_at header i)) ≡ true
  once header primary n i front (At_first e) = ap (λ k. is_in_some image_names (card_name (card_at header k))) e ∙ (ap (is_in_some image_names) front.first ∙ once-first primary)
  once header primary n i front (At_bitpix e) = ap (λ k. is_in_some image_names (card_name (card_at header k))) e ∙ ap (is_in_some image_names) front.bitpix
  once header primary n i front (At_naxis e) = ap (λ k. is_in_some image_names (card_name (card_at header k))) e ∙ ap (is_in_some image_names) front.naxis
  once header primary n i front (At_axis k low high e) =
      ap (λ k. is_in_some image_names (card_name (card_at header k))) e ∙ (ap (is_in_some image_names) (front.axis k low high) ∙ once-axis k low (omega (arith, front.few)))
  once header primary n i front (At_pcount p e) = ap (λ k. is_in_some image_names (card_name (card_at header k))) e ∙ (ap (is_in_some image_names) (front.pcount p) ∙ once-pcount)
  once header primary n i front (At_gcount p e) = ap (λ k. is_in_some image_names (card_name (card_at header k))) e ∙ (ap (is_in_some image_names) (front.gcount p) ∙ once-gcount)

  -- END is after the mandatory cards
  pub front-before-end : (header : List ℕ) (primary : Bool) (n last : ℕ) → HasFront header primary n → HasEnd header last → front_count primary n ≤ last
  front-before-end header primary n last front end = elim (cases_lt last (front_count primary n)) [
    | inl inside ↦
        let yes = once header primary n last front (place primary n last inside) in
        let no : is_in_some image_names (card_name (card_at header last)) ≡ false = ap (is_in_some image_names) end.named ∙ end-is-other in
        absurd (cc)
    | inr behind ↦ behind
  ]
