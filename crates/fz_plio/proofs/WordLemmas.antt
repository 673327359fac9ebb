-- The words of a list of bytes, one by one and in ranges.
use Rattle.std.proofs.Common.{◌≡◌, ℕ, zero, suc, ◌+◌, ◌*◌, ◌/◌, ◌<◌, ◌≤◌, List, [], ◌∷◌, length, take, drop, get_or, refl, ap, ◌∙◌, arith}
use Rattle.std.proofs.lemmas.List.{get_or-drop, get_or-take}
use Rattle.byteorder.specs.Endian.{big_number}
use Rattle.fz_plio.specs.Words.{words}

-- the first word, and the words of the bytes after it
pub words-cons : (bytes : List ℕ) → 2 ≤ length bytes → words bytes ≡ (256 * get_or bytes 0 0 + get_or bytes 1 0) ∷ words (drop 2 bytes)
unfolding words
words-cons [] h = absurd (omega arith)
words-cons (a ∷ []) h = absurd (omega arith)
words-cons (a ∷ b ∷ bytes) h = refl

-- too few bytes for a word
pub words_nil : (bytes : List ℕ) → length bytes < 2 → words bytes ≡ []
unfolding words
words_nil [] h = refl
words_nil (a ∷ []) h = refl
words_nil (a ∷ b ∷ bytes) h = absurd (omega arith)

-- the word at an index
pub get_or-words : (k : ℕ) (bytes : List ℕ) → 2 * k + 2 ≤ length bytes → get_or (words bytes) k 0 ≡ 256 * get_or bytes (2 * k) 0 + get_or bytes (2 * k + 1) 0
unfolding words
get_or-words k [] h = absurd (omega arith)
get_or-words k (a ∷ []) h = absurd (omega arith)
get_or-words zero (a ∷ b ∷ bytes) h = refl
get_or-words (suc k) (a ∷ b ∷ bytes) h =
    let one : 2 * suc k ≡ suc (suc (2 * k)) = omega arith in
    let two : 2 * suc k + 1 ≡ suc (suc (2 * k + 1)) = omega arith in
    rw (two, one) (get_or-words k bytes (omega arith))

-- half as many words as bytes
pub length-words : (bytes : List ℕ) → length (words bytes) ≡ length bytes / 2
unfolding words
length-words [] = refl
length-words (a ∷ []) = refl
length-words (a ∷ b ∷ bytes) = omega (arith, length-words bytes)

-- the words after the first so many
pub words-drop : (k : ℕ) (bytes : List ℕ) → words (drop (2 * k) bytes) ≡ drop k (words bytes)
unfolding words
words-drop zero bytes = refl
words-drop (suc k) [] = let e : 2 * suc k ≡ suc (suc (2 * k)) = omega arith in rw e refl
words-drop (suc k) (a ∷ []) = let e : 2 * suc k ≡ suc (suc (2 * k)) = omega arith in rw e refl
words-drop (suc k) (a ∷ b ∷ bytes) = let e : 2 * suc k ≡ suc (suc (2 * k)) = omega arith in rw e (words-drop k bytes)

-- the first so many words
pub words-take : (k : ℕ) (bytes : List ℕ) → words (take (2 * k) bytes) ≡ take k (words bytes)
unfolding words
words-take zero bytes = refl
words-take (suc k) [] = let e : 2 * suc k ≡ suc (suc (2 * k)) = omega arith in rw e refl
words-take (suc k) (a ∷ []) = let e : 2 * suc k ≡ suc (suc (2 * k)) = omega arith in rw e refl
words-take (suc k) (a ∷ b ∷ bytes) =
    let e : 2 * suc k ≡ suc (suc (2 * k)) = omega arith in
    rw e (ap (λ ws. (256 * a + b) ∷ ws) (words-take k bytes))

-- the number of the two bytes at an index
pub big-word : (k m : ℕ) (bytes : List ℕ) → 2 ≤ m → big_number 2 (take m (drop (2 * k) bytes)) ≡ 256 * get_or bytes (2 * k) 0 + get_or bytes (2 * k + 1) 0
big-word k m bytes two =
    let rest = drop (2 * k) bytes in
    let here : 2 * k + 0 ≡ 2 * k = omega arith in
    let high : get_or (take m rest) 0 0 ≡ get_or bytes (2 * k) 0 = get_or-take m rest 0 0 (omega arith) ∙ (get_or-drop (2 * k) bytes 0 0 ∙ ap (λ n. get_or bytes n 0) here) in
    let low : get_or (take m rest) 1 0 ≡ get_or bytes (2 * k + 1) 0 = get_or-take m rest 1 0 (omega arith) ∙ get_or-drop (2 * k) bytes 1 0 in
    omega (arith, high, low)
