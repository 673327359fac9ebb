-- A card that is written in place is in the header of the file.
use Rattle.std.proofs.Common.{◌≡◌, ℕ, ◌+◌, ◌-◌, ◌*◌, ◌<◌, ◌≤◌, List, [], ◌∷◌, ◌++◌, length, take, drop, replicate, refl, sym, ap, ◌∙◌, arith, length-take-le, length-take, length-drop, take-take, drop-drop, append-nil, append_assoc}
use Rattle.std.proofs.lemmas.List.{drop-append-le, drop-take}
use Rattle.std.proofs.Math.Seq.{take-append-add}
use Rattle.fz_base.specs.Sink.{overwrite}
use Rattle.fz_files.specs.Restored.{header_in}
use Rattle.fz_laws.specs.PatchLaws.{CardsStandInPlace}

-- bytes that are written within a file
pub overwrite_within : (at : ℕ) (bytes file : List ℕ) → 0 < length bytes → at + length bytes ≤ length file → overwrite at bytes file ≡ take at file ++ (bytes ++ drop (at + length bytes) file)
overwrite_within at [] file some within = absurd (omega arith)
overwrite_within at (b ∷ bytes) file some within =
    let none : at - length file ≡ 0 = omega arith in
    let rest : List ℕ = drop (at + length (b ∷ bytes)) file in
    ap (λ m. take at file ++ replicate m 0 ++ (b ∷ bytes) ++ rest) none ∙ (rw (append-nil, append_assoc) refl)

-- the front of what follows some bytes
front_after : (n : ℕ) (xs ys : List ℕ) → length xs ≤ n → take n (xs ++ ys) ≡ xs ++ take (n - length xs) ys
front_after n xs ys long =
    let parts : length xs + (n - length xs) ≡ n = omega arith in
    ap (λ m. take m (xs ++ ys)) (sym parts) ∙ take-append-add xs ys (n - length xs)

-- a slice of a file in whose middle other bytes were written
pub slice_written : (s a m : ℕ) (bytes file : List ℕ) → 0 < length bytes → a + length bytes ≤ m → s + m ≤ length file →
    take m (drop s (overwrite (s + a) bytes file)) ≡ take a (take m (drop s file)) ++ (bytes ++ drop (a + length bytes) (take m (drop s file)))
slice_written s a m bytes file some within whole =
    let n : ℕ = length bytes in
    let written : overwrite (s + a) bytes file ≡ take (s + a) file ++ (bytes ++ drop (s + a + n) file) = overwrite_within (s + a) bytes file some (omega arith) in
    let long : length (take (s + a) file) ≡ s + a = length-take-le (s + a) file (omega arith) in
    let behind : drop s (take (s + a) file ++ (bytes ++ drop (s + a + n) file)) ≡ take a (drop s file) ++ (bytes ++ drop (s + a + n) file) =
    drop-append-le s (take (s + a) file) (bytes ++ drop (s + a + n) file) (omega arith) ∙ ap (λ l. l ++ (bytes ++ drop (s + a + n) file)) (drop-take s a file) in
    let rest_long : length (drop s file) ≡ length file - s = length-drop s file in
    let first_long : length (take a (drop s file)) ≡ a = length-take-le a (drop s file) (omega arith) in
    let first : take m (take a (drop s file) ++ (bytes ++ drop (s + a + n) file)) ≡ take a (drop s file) ++ take (m - a) (bytes ++ drop (s + a + n) file) =
    front_after m (take a (drop s file)) (bytes ++ drop (s + a + n) file) (omega arith) ∙ ap (λ k. take a (drop s file) ++ take (m - k) (bytes ++ drop (s + a + n) file)) first_long in
    let next : take (m - a) (bytes ++ drop (s + a + n) file) ≡ bytes ++ take (m - a - n) (drop (s + a + n) file) = front_after (m - a) bytes (drop (s + a + n) file) (omega arith) in
    let front : take a (take m (drop s file)) ≡ take a (drop s file) = take-take a m (drop s file) (omega arith) in
    let all : a + n + (m - a - n) ≡ m = omega arith in
    let place : s + (a + n) ≡ s + a + n = omega arith in
    let last : drop (a + n) (take m (drop s file)) ≡ take (m - a - n) (drop (s + a + n) file) =
    ap (λ k. drop (a + n) (take k (drop s file))) (sym all)
    ∙ (drop-take (a + n) (m - a - n) (drop s file)
    ∙ ap (take (m - a - n)) (drop-drop (a + n) s file ∙ ap (λ k. drop k file) place)) in
    ap (λ l. take m (drop s l)) written
    ∙ (ap (take m) behind
    ∙ (first
    ∙ (ap (λ l. take a (drop s file) ++ l) next
    ∙ (λ j. sym front j ++ (bytes ++ sym last j)))))

pub cards_stand_in_place : CardsStandInPlace
cards_stand_in_place file h i card long within whole =
    let place : 80 * i + length card ≡ 80 * (i + 1) = omega arith in
    slice_written h.start (80 * i) (2880 * h.blocks) card file (omega arith) (omega arith) whole
    ∙ ap (λ k. take (80 * i) (header_in file h) ++ (card ++ drop k (header_in file h))) place
