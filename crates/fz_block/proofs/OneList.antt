-- A file has at most one list of HDUs.
use Rattle.std.proofs.Common.{◌≡◌, ℕ, suc, ◌+◌, ◌-◌, ◌*◌, ◌/◌, ◌<◌, inl, inr, List, [], ◌∷◌, ◌++◌, length, take, Some, None, refl, sym, ◌∙◌, ap, arith}
use Rattle.std.specs.List.{flat_map}
use Rattle.std.proofs.lemmas.Bool.{cases_lt}
use Rattle.std.proofs.lemmas.List.{append_assoc, append_cancel_left, take_at, take-append-le, length-append}
use Rattle.fz_block.specs.Cards.{end_of, end_among}
use Rattle.fz_block.specs.Hdus.{Hdu, hdu_bytes, IsHeader, IsHdu, AreHdus, data_len_of}
use Rattle.fz_block.specs.Header.{whole_blocks_of}
use Rattle.fz_block.proofs.Among.{found_first, among_take}
use Rattle.fz_block.proofs.Room.{end_of_blocks}
use Rattle.fz_block.proofs.Wholes.{some_in}

-- a header does not begin with a shorter one
not_shorter : (a b x y : List ℕ) → (one : IsHeader a) → (two : IsHeader b) → a ++ x ≡ b ++ y → one.before < two.before → ⊥
not_shorter a b x y one two same less =
    let m = one.before in
    let n = two.before in
    let long_a : length a ≡ 2880 * (m + 1) = one.blocks in
    let long_b : length b ≡ 2880 * (n + 1) = two.blocks in
    let front : take (2880 * n) b ≡ take (2880 * n) (a ++ x) = sym (take-append-le (2880 * n) b y (omega arith)) ∙ ap (take (2880 * n)) (sym same) in
    let begins : take (2880 * (m + 1)) (a ++ x) ≡ a = take_at a x (2880 * (m + 1)) long_a in
    let found = some_in (end_of a) one.has in
    let i = found.0 in
    let cards_a : length a / 80 ≡ 36 * (m + 1) = omega (arith, long_a) in
    let in_a : end_among (36 * (m + 1)) a ≡ Some i = ap (λ c. end_among c a) (sym cards_a) ∙ found.1 in
    let in_both : end_among (36 * (m + 1)) (a ++ x) ≡ Some i = sym (among_take (36 * (m + 1)) (2880 * (m + 1)) (a ++ x) (omega arith)) ∙ (ap (end_among (36 * (m + 1))) begins ∙ in_a) in
    let more : 36 * (m + 1) + (36 * n - 36 * (m + 1)) ≡ 36 * n = omega (arith, less) in
    let in_front : end_among (36 * n) (a ++ x) ≡ Some i = ap (λ c. end_among c (a ++ x)) (sym more) ∙ found_first (36 * (m + 1)) (36 * n - 36 * (m + 1)) i (a ++ x) in_both in
    let in_b : end_among (36 * n) b ≡ Some i =
    sym (among_take (36 * n) (2880 * n) b (omega arith)) ∙ (ap (end_among (36 * n)) front ∙ (among_take (36 * n) (2880 * n) (a ++ x) (omega arith) ∙ in_front)) in
    let none : end_among (36 * n) b ≡ None = sym (end_of_blocks n b (omega arith)) ∙ two.none in
    let clash : Some i ≡ None = sym in_b ∙ none in
    cc

-- two headers at one place are the same
pub one_header : (a b x y : List ℕ) → IsHeader a → IsHeader b → a ++ x ≡ b ++ y → a ≡ b
one_header a b x y one two same = elim (cases_lt one.before two.before) as (λ _. a ≡ b) [
  | inl less ↦ absurd (not_shorter a b x y one two same less)
  | inr more ↦ elim (cases_lt two.before one.before) as (λ _. a ≡ b) [
    | inl less ↦ absurd (not_shorter b a y x two one (sym same) less)
    | inr again ↦
        let equal : one.before ≡ two.before = omega arith in
        let long_b : length b ≡ 2880 * (one.before + 1) = two.blocks ∙ ap (λ n. 2880 * (n + 1)) (sym equal) in
        sym (take_at a x (2880 * (one.before + 1)) one.blocks) ∙ (ap (take (2880 * (one.before + 1))) same ∙ take_at b y (2880 * (one.before + 1)) long_b)
  ]
]

-- two HDUs at one place are the same
pub one_hdu : (k : ℕ) (h j : Hdu) (x y : List ℕ) → IsHdu k h → IsHdu k j → hdu_bytes h ++ x ≡ hdu_bytes j ++ y → (h ≡ j) × (x ≡ y)
one_hdu k h j x y one two same =
    let apart : h.header ++ (h.payload ++ x) ≡ j.header ++ (j.payload ++ y) = sym (append_assoc h.header h.payload x) ∙ (same ∙ append_assoc j.header j.payload y) in
    let headers : h.header ≡ j.header = one_header h.header j.header (h.payload ++ x) (j.payload ++ y) one.header two.header apart in
    let behind : h.payload ++ x ≡ j.payload ++ y = append_cancel_left j.header (h.payload ++ x) (j.payload ++ y) (ap (λ l. l ++ (h.payload ++ x)) (sym headers) ∙ apart) in
    let len : ℕ = whole_blocks_of (data_len_of k h.header) in
    let len_j : length j.payload ≡ len = two.payload ∙ ap (λ l. whole_blocks_of (data_len_of k l)) (sym headers) in
    let payloads : h.payload ≡ j.payload = sym (take_at h.payload x len one.payload) ∙ (ap (take len) behind ∙ take_at j.payload y len len_j) in
    let rest : x ≡ y = append_cancel_left j.payload x y (ap (λ l. l ++ x) (sym payloads) ∙ behind) in
    ((λ i. record { header = headers i; payload = payloads i }), rest)

-- an HDU has bytes
pub some_bytes : (k : ℕ) (h : Hdu) (x : List ℕ) → IsHdu k h → [] ≡ hdu_bytes h ++ x → ⊥
some_bytes k h x one none =
    let long : length h.header ≡ 2880 * (one.header.before + 1) = one.header.blocks in
    let lengths : 0 ≡ length (hdu_bytes h ++ x) = ap length none in
    omega (arith, lengths, long, length-append (hdu_bytes h) x, length-append h.header h.payload)

pub one_list : (k : ℕ) (hs ks : List Hdu) → AreHdus k hs → AreHdus k ks → flat_map hdu_bytes hs ≡ flat_map hdu_bytes ks → hs ≡ ks
one_list k [] [] one two same = refl
one_list k [] (j ∷ ks) one two same = absurd (some_bytes k j (flat_map hdu_bytes ks) two.0 same)
one_list k (h ∷ hs) [] one two same = absurd (some_bytes k h (flat_map hdu_bytes hs) one.0 (sym same))
one_list k (h ∷ hs) (j ∷ ks) one two same =
    let first = one_hdu k h j (flat_map hdu_bytes hs) (flat_map hdu_bytes ks) one.0 two.0 same in
    ap (λ x. x ∷ hs) first.0 ∙ ap (λ l. j ∷ l) (one_list (suc k) hs ks one.1 two.1 first.1)
