-- Totals of bytes by their positions: of joined bytes, at positions that lie whole words apart, of words, of pieces in any order.
use Rattle.std.proofs.Common.{◌≡◌, ℕ, zero, suc, ◌+◌, ◌-◌, ◌*◌, ◌/◌, ◌%◌, ◌^◌, ◌<◌, ◌≤◌, ◌⊎◌, inl, inr, List, [], ◌∷◌, ◌++◌, length, take, drop, get_or, sym, refl, ap, ◌∙◌, arith, add-one, length-append}
use Rattle.std.specs.Prelude.{replicate}
use Rattle.std.specs.List.{concat, sum_by}
use Rattle.std.specs.List.Sorted.{IsPermutation}
use Rattle.std.proofs.Math.Nat.{add-mod, mul-add-mod_self_left}
use Rattle.std.proofs.Math.Seq.{take-add, drop-cons}
use Rattle.std.proofs.lemmas.List.{take_all, take_more, length-take-le, take-append-drop, drop_all}
use Rattle.std.proofs.lemmas.List.Sums.{sum_by-cons}
use Rattle.std.proofs.lemmas.List.Sorted.{sum_by-IsPermutation}
use Rattle.byteorder.specs.Endian.{big_number}
use Rattle.fz_sum.specs.Sums.{word, word_total, carried, ones_sum}
use Rattle.fz_sum.specs.Pieces.{weight, total_at, Added, nothing, after, Piece, after_all, placed}

next-mod : (m n : ℕ) → m % 4 ≡ n % 4 → (m + 1) % 4 ≡ (n + 1) % 4
next-mod m n same = rw (add-mod m 1 4, same, ← add-mod n 1 4) refl

-- only what is left of the position by division by 4 counts
pub total_at-same : (m n : ℕ) (bytes : List ℕ) → m % 4 ≡ n % 4 → total_at m bytes ≡ total_at n bytes
unfolding total_at
total_at-same m n [] same = refl
total_at-same m n (b ∷ bs) same =
    let rest = total_at-same (m + 1) (n + 1) bs (next-mod m n same) in
    rw (same, rest) refl

pub words-mod : (at n : ℕ) → (at + 4 * n) % 4 ≡ at % 4
words-mod at n = let e : at + 4 * n ≡ 4 * n + at = omega arith in rw (e, mul-add-mod_self_left 4 n at) refl

pub total_at-words : (at n : ℕ) (bytes : List ℕ) → total_at (at + 4 * n) bytes ≡ total_at at bytes
total_at-words at n bytes = total_at-same (at + 4 * n) at bytes (words-mod at n)

pub total_at-append : (at : ℕ) (a b : List ℕ) → total_at at (a ++ b) ≡ total_at at a + total_at (at + length a) b
unfolding total_at
total_at-append at [] b = let e : at + 0 ≡ at = omega arith in let f : 0 + total_at at b ≡ total_at at b = omega arith in rw e (sym f)
total_at-append at (x ∷ a) b =
    let rest = total_at-append (at + 1) a b in
    let e : at + 1 + length a ≡ at + suc (length a) = omega arith in
    rw (rest, e) (omega arith)

pub total_at-nil : (at : ℕ) → total_at at [] ≡ 0
unfolding total_at
total_at-nil at = refl

pub total_at-one : (at b : ℕ) → total_at at (b ∷ []) ≡ weight at * b
unfolding total_at
total_at-one at b = omega arith

-- a word
pub total_at-word : (a b c d : ℕ) → total_at 0 (a ∷ b ∷ c ∷ d ∷ []) ≡ word a b c d
unfolding total_at
total_at-word a b c d = omega arith

four-more : (a b c d : ℕ) (rest : List ℕ) → total_at 0 (a ∷ b ∷ c ∷ d ∷ rest) ≡ word a b c d + total_at 0 rest
four-more a b c d rest =
    total_at-append 0 (a ∷ b ∷ c ∷ d ∷ []) rest ∙ rw (total_at-word a b c d, total_at-same 4 0 rest refl) refl

-- the total is that of the words
pub total_at-word_total : (bytes : List ℕ) → total_at 0 bytes ≡ word_total bytes
unfolding total_at word_total
total_at-word_total [] = refl
total_at-word_total (a ∷ []) = omega arith
total_at-word_total (a ∷ b ∷ []) = omega arith
total_at-word_total (a ∷ b ∷ c ∷ []) = omega arith
total_at-word_total (a ∷ b ∷ c ∷ d ∷ rest) = four-more a b c d rest ∙ ap (λ (n : ℕ). word a b c d + n) (total_at-word_total rest)

-- pieces one after another
piece_total : Piece → ℕ
piece_total p = total_at p.0 p.1

piece_count : Piece → ℕ
piece_count p = length p.1

added-equal : (s t : Added) → s.total ≡ t.total → s.count ≡ t.count → s ≡ t
added-equal s t e f = λ i. record { total = e i; count = f i }

after_all-total : (added : Added) (pieces : List Piece) → (after_all added pieces).total ≡ added.total + sum_by piece_total pieces
unfolding after_all piece_total
after_all-total added [] = omega arith
after_all-total added (p ∷ ps) =
    after_all-total (after added p.0 p.1) ps ∙ (let e = sum_by-cons piece_total p ps in rw e (omega arith))

after_all-count : (added : Added) (pieces : List Piece) → (after_all added pieces).count ≡ added.count + sum_by piece_count pieces
unfolding after_all piece_count
after_all-count added [] = omega arith
after_all-count added (p ∷ ps) =
    after_all-count (after added p.0 p.1) ps ∙ (let e = sum_by-cons piece_count p ps in rw e (omega arith))

placed-total : (at : ℕ) (parts : List (List ℕ)) → sum_by piece_total (placed at parts) ≡ total_at at (concat parts)
unfolding placed piece_total total_at
placed-total at [] = refl
placed-total at (p ∷ ps) =
    sum_by-cons piece_total (at, p) (placed (at + length p) ps) ∙ (ap (λ (n : ℕ). total_at at p + n) (placed-total (at + length p) ps) ∙ sym (total_at-append at p (concat ps)))

placed-count : (at : ℕ) (parts : List (List ℕ)) → sum_by piece_count (placed at parts) ≡ length (concat parts)
unfolding placed piece_count
placed-count at [] = refl
placed-count at (p ∷ ps) =
    sum_by-cons piece_count (at, p) (placed (at + length p) ps) ∙ (ap (λ (n : ℕ). length p + n) (placed-count (at + length p) ps) ∙ sym (length-append p (concat ps)))

pub pieces-added : (added : Added) (at : ℕ) (parts : List (List ℕ)) (pieces : List Piece) → IsPermutation (placed at parts) pieces → after_all added pieces ≡ after added at (concat parts)
pieces-added added at parts pieces moved =
    let total : (after_all added pieces).total ≡ added.total + total_at at (concat parts) =
    after_all-total added pieces ∙ ap (λ (n : ℕ). added.total + n) (sum_by-IsPermutation piece_total (placed at parts) pieces moved ∙ placed-total at parts) in
    let count : (after_all added pieces).count ≡ added.count + length (concat parts) =
    after_all-count added pieces ∙ ap (λ (n : ℕ). added.count + n) (sum_by-IsPermutation piece_count (placed at parts) pieces moved ∙ placed-count at parts) in
    added-equal (after_all added pieces) (after added at (concat parts)) total count

-- a list that begins with a word
pub total_at-words_of : (at : ℕ) (bytes : List ℕ) → at % 4 ≡ 0 → total_at at bytes ≡ word_total bytes
total_at-words_of at bytes whole = total_at-same at 0 bytes whole ∙ total_at-word_total bytes

pub pieces-sum : (at : ℕ) (parts : List (List ℕ)) (pieces : List Piece) → at % 4 ≡ 0 → IsPermutation (placed at parts) pieces → carried (after_all nothing pieces).total ≡ ones_sum (concat parts)
unfolding ones_sum
pieces-sum at parts pieces whole moved =
    let added = pieces-added nothing at parts pieces moved in
    let total : (after_all nothing pieces).total ≡ 0 + total_at at (concat parts) = ap (λ (s : Added). s.total) added in
    let same = total_at-words_of at (concat parts) whole in
    let e : (after_all nothing pieces).total ≡ word_total (concat parts) = omega (arith, total, same) in
    ap carried e

-- the next four bytes of a list
drop-next : (w : List ℕ) (j k : ℕ) → j + 1 ≡ k → j < length w → drop j w ≡ get_or w j 0 ∷ drop k w
drop-next w j k e within = rw (← e, add-one, drop-cons w j 0 within) refl

four : (w : List ℕ) (j : ℕ) → j + 4 ≤ length w → take 4 (drop j w) ≡ get_or w j 0 ∷ get_or w (j + 1) 0 ∷ get_or w (j + 2) 0 ∷ get_or w (j + 3) 0 ∷ []
four w j within =
    rw (drop-next w j (j + 1) refl (omega arith), drop-next w (j + 1) (j + 2) (omega arith) (omega arith), drop-next w (j + 2) (j + 3) (omega arith) (omega arith), drop-next w (j + 3) (j + 4) (omega arith) (omega arith)) refl

-- a word that is read
pub word-read : (w : List ℕ) (j n : ℕ) → j + 4 ≡ n → n ≤ length w → big_number 4 (take (n - j) (drop j w)) ≡ word (get_or w j 0) (get_or w (j + 1) 0) (get_or w (j + 2) 0) (get_or w (j + 3) 0)
word-read w j n end within =
    let long : n - j ≡ 4 = omega arith in
    rw (long, four w j (omega arith)) (omega arith)

-- a word more
pub total_at-next_word : (w : List ℕ) (i : ℕ) → 4 * i + 4 ≤ length w → total_at 0 (take (4 * (i + 1)) w) ≡ total_at 0 (take (4 * i) w) + word (get_or w (4 * i) 0) (get_or w (4 * i + 1) 0) (get_or w (4 * i + 2) 0) (get_or w (4 * i + 3) 0)
total_at-next_word w i within =
    let e : 4 * (i + 1) ≡ 4 * i + 4 = omega arith in
    let long : length (take (4 * i) w) ≡ 4 * i = length-take-le (4 * i) w (omega arith) in
    let place : 0 + length (take (4 * i) w) ≡ 0 + 4 * i = omega arith in
    let next : total_at (0 + length (take (4 * i) w)) (take 4 (drop (4 * i) w)) ≡ word (get_or w (4 * i) 0) (get_or w (4 * i + 1) 0) (get_or w (4 * i + 2) 0) (get_or w (4 * i + 3) 0) =
    rw (place, total_at-words 0 i, four w (4 * i) within) (total_at-word (get_or w (4 * i) 0) (get_or w (4 * i + 1) 0) (get_or w (4 * i + 2) 0) (get_or w (4 * i + 3) 0)) in
    rw (e, take-add (4 * i) 4 w, total_at-append 0 (take (4 * i) w) (take 4 (drop (4 * i) w)), next) refl

-- a byte more
pub total_at-next_byte : (at : ℕ) (w : List ℕ) (i : ℕ) → i < length w → total_at at (take (i + 1) w) ≡ total_at at (take i w) + weight (at + i) * get_or w i 0
total_at-next_byte at w i within =
    let long : length (take i w) ≡ i = length-take-le i w (omega arith) in
    rw (take_more w i 0 within, total_at-append at (take i w) (get_or w i 0 ∷ []), long, total_at-one (at + i) (get_or w i 0)) refl

-- all words of a list of whole words
pub total_at-whole : (w : List ℕ) → length w % 4 ≡ 0 → total_at 0 (take (4 * (length w / 4)) w) ≡ total_at 0 w
total_at-whole w whole = ap (total_at 0) (take_all (4 * (length w / 4)) w (omega arith))

-- a list that is cut
pub total_at-cut : (at n : ℕ) (w : List ℕ) → n ≤ length w → total_at at w ≡ total_at at (take n w) + total_at (at + n) (drop n w)
total_at-cut at n w within =
    ap (total_at at) (sym (take-append-drop n w)) ∙ (total_at-append at (take n w) (drop n w) ∙ ap (λ (k : ℕ). total_at at (take n w) + total_at (at + k) (drop n w)) (length-take-le n w within))

-- a list that is cut where a word begins
pub total_at-cut_words : (at n : ℕ) (w : List ℕ) → n ≤ length w → (at + n) % 4 ≡ 0 → total_at at w ≡ total_at at (take n w) + total_at 0 (drop n w)
total_at-cut_words at n w within whole =
    total_at-cut at n w within ∙ ap (λ (k : ℕ). total_at at (take n w) + k) (total_at-same (at + n) 0 (drop n w) whole)

-- a byte moved to its place in a word
pub shifted : (b r : ℕ) → b < 256 → r < 4 → (b * 2 ^ (24 - 8 * r) % 2 ^ 64 ≡ 256 ^ (3 - r) * b) × (256 ^ (3 - r) * b < 2 ^ 32)
shifted b zero small place = (omega arith, omega arith)
shifted b (suc zero) small place = (omega arith, omega arith)
shifted b (suc (suc zero)) small place = (omega arith, omega arith)
shifted b (suc (suc (suc zero))) small place = (omega arith, omega arith)
shifted b (suc (suc (suc (suc r)))) small place = absurd (omega arith)

-- a list that is cut where a word begins, or at its end
total_at-cut_or_all : (at n : ℕ) (w : List ℕ) → n ≤ length w → ((at + n) % 4 ≡ 0) ⊎ (n ≡ length w) → total_at at w ≡ total_at at (take n w) + total_at 0 (drop n w)
total_at-cut_or_all at n w within (inl whole) = total_at-cut_words at n w within whole
total_at-cut_or_all at n w within (inr all) =
    let none : drop n w ≡ [] = drop_all n w (omega arith) in
    total_at-cut at n w within ∙ rw (none, total_at-nil (at + n), total_at-nil 0) refl

-- the bytes before the first word, the words, and the bytes after the last
pub total_at-parts : (at n m : ℕ) (w rest : List ℕ) → n ≤ length w → ((at % 4 + n) % 4 ≡ 0) ⊎ (n ≡ length w) → rest ≡ drop n w → m ≤ length rest → m % 4 ≡ 0 → total_at at w ≡ total_at (at % 4) (take n w) + total_at 0 (take m rest) + total_at 0 (drop m rest)
total_at-parts at n m w rest within front e short whole =
    let same : total_at at w ≡ total_at (at % 4) w = total_at-same at (at % 4) w (omega arith) in
    let outer = total_at-cut_or_all (at % 4) n w within front in
    let inner = total_at-cut_words 0 m rest short (omega arith) in
    let f = ap (total_at 0) e in
    omega (arith, same, outer, inner, f)

-- zeros add nothing
pub total_at-zeros : (at n : ℕ) → total_at at (replicate n 0) ≡ 0
unfolding total_at
total_at-zeros at zero = refl
total_at-zeros at (suc n) = let rest = total_at-zeros (at + 1) n in rw rest (omega arith)

pub ones_sum-filled : (bytes : List ℕ) (n : ℕ) → ones_sum (bytes ++ replicate n 0) ≡ ones_sum bytes
unfolding ones_sum
ones_sum-filled bytes n =
    let joined = total_at-append 0 bytes (replicate n 0) in
    let none = total_at-zeros (0 + length bytes) n in
    let all = total_at-word_total (bytes ++ replicate n 0) in
    let own = total_at-word_total bytes in
    let e : word_total (bytes ++ replicate n 0) ≡ word_total bytes = omega (arith, joined, none, all, own) in
    ap carried e
