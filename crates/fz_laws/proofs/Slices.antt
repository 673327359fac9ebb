-- Slices of bytes in which others were written.
use Rattle.std.proofs.Common.{◌≡◌, ℕ, ◌+◌, ◌-◌, ◌*◌, ◌<◌, ◌≤◌, max, List, [], ◌∷◌, ◌++◌, length, take, drop, replicate, refl, sym, ap, ◌∙◌, arith, length-take-le, length-append, length-drop, take-take, drop-drop, append-nil, append_assoc}
use Rattle.std.proofs.lemmas.List.{drop-append-le, drop-take, take-append-le}
use Rattle.std.proofs.Math.Seq.{drop-append-add, drop-append_seam, take-append_seam}
use Rattle.fz_base.specs.Sink.{overwrite}

pub overwrite_is : (at : ℕ) (bytes file : List ℕ) → 0 < length bytes → at ≤ length file → overwrite at bytes file ≡ take at file ++ (bytes ++ drop (at + length bytes) file)
overwrite_is at [] file some within = absurd (omega arith)
overwrite_is at (b ∷ bytes) file some within =
    let none : at - length file ≡ 0 = omega arith in
    let rest : List ℕ = drop (at + length (b ∷ bytes)) file in
    ap (λ m. take at file ++ replicate m 0 ++ (b ∷ bytes) ++ rest) none ∙ (rw (append-nil, append_assoc) refl)

-- the file reaches to the end of what was written, or as far as before
pub long_written : (at : ℕ) (bytes file : List ℕ) → 0 < length bytes → at ≤ length file → length (overwrite at bytes file) ≡ max (length file) (at + length bytes)
long_written at bytes file some within =
    let first : length (take at file) ≡ at = length-take-le at file within in
    let last : length (drop (at + length bytes) file) ≡ length file - (at + length bytes) = length-drop (at + length bytes) file in
    let two : length (bytes ++ drop (at + length bytes) file) ≡ length bytes + length (drop (at + length bytes) file) = length-append bytes (drop (at + length bytes) file) in
    let all : length (take at file ++ (bytes ++ drop (at + length bytes) file)) ≡ length (take at file) + length (bytes ++ drop (at + length bytes) file) =
    length-append (take at file) (bytes ++ drop (at + length bytes) file) in
    let whole : length (overwrite at bytes file) ≡ length (take at file ++ (bytes ++ drop (at + length bytes) file)) = ap length (overwrite_is at bytes file some within) in
    omega arith

-- a slice before what was written
pub slice_before : (at : ℕ) (bytes file : List ℕ) (s m : ℕ) → 0 < length bytes → at ≤ length file → s + m ≤ at → take m (drop s (overwrite at bytes file)) ≡ take m (drop s file)
slice_before at bytes file s m some within before =
    let rest : List ℕ = bytes ++ drop (at + length bytes) file in
    let first : length (take at file) ≡ at = length-take-le at file within in
    let parts : s + (at - s) ≡ at = omega arith in
    let front : drop s (take at file) ≡ take (at - s) (drop s file) = ap (λ k. drop s (take k file)) (sym parts) ∙ drop-take s (at - s) file in
    let left : length (drop s file) ≡ length file - s = length-drop s file in
    let long : length (take (at - s) (drop s file)) ≡ at - s = length-take-le (at - s) (drop s file) (omega arith) in
    ap (λ l. take m (drop s l)) (overwrite_is at bytes file some within)
    ∙ (ap (take m) (drop-append-le s (take at file) rest (omega arith) ∙ ap (λ l. l ++ rest) front)
    ∙ (take-append-le m (take (at - s) (drop s file)) rest (omega arith)
    ∙ take-take m (at - s) (drop s file) (omega arith)))

-- all that follows it
pub rest_after : (at : ℕ) (bytes file : List ℕ) (s : ℕ) → 0 < length bytes → at ≤ length file → at + length bytes ≤ s → drop s (overwrite at bytes file) ≡ drop s file
rest_after at bytes file s some within after =
    let rest : List ℕ = drop (at + length bytes) file in
    let first : length (take at file) ≡ at = length-take-le at file within in
    let both : length (take at file ++ bytes) ≡ length (take at file) + length bytes = length-append (take at file) bytes in
    let parts : length (take at file ++ bytes) + (s - (at + length bytes)) ≡ s = omega arith in
    let again : at + length bytes + (s - (at + length bytes)) ≡ s = omega arith in
    ap (drop s) (overwrite_is at bytes file some within ∙ sym (append_assoc (take at file) bytes rest))
    ∙ (ap (λ k. drop k ((take at file ++ bytes) ++ rest)) (sym parts)
    ∙ (drop-append-add (take at file ++ bytes) rest (s - (at + length bytes))
    ∙ (drop-drop (s - (at + length bytes)) (at + length bytes) file
    ∙ ap (λ k. drop k file) again)))

-- and what was written
pub slice_here : (at : ℕ) (bytes file : List ℕ) → 0 < length bytes → at ≤ length file → take (length bytes) (drop at (overwrite at bytes file)) ≡ bytes
slice_here at bytes file some within =
    let rest : List ℕ = drop (at + length bytes) file in
    let first : length (take at file) ≡ at = length-take-le at file within in
    ap (λ l. take (length bytes) (drop at l)) (overwrite_is at bytes file some within)
    ∙ (ap (take (length bytes)) (ap (λ k. drop k (take at file ++ (bytes ++ rest))) (sym first) ∙ drop-append_seam (take at file) (bytes ++ rest))
    ∙ take-append_seam bytes rest)
