-- The pixels of a region, written run by run.
use Rattle.std.proofs.Common.{◌≡◌, ℕ, zero, suc, ◌+◌, ◌-◌, ◌*◌, ◌≤◌, List, [], ◌∷◌, ◌++◌, length, take, drop, Option, Some, None, refl, sym, ap, ◌∙◌, subst, arith}
use Rattle.std.specs.List.{flat_map, range_with_len}
use Rattle.std.proofs.lemmas.List.{drop-drop, length-drop, length-take}
use Rattle.std.proofs.Math.Seq.{take-add}
use Rattle.std.proofs.Math.Nat.{mul-add, mul-le-mul_left, mul-suc, mul-zero}
use Rattle.fz_base.specs.Sink.{written}
use Rattle.fz_grid.specs.Runs.{EndWithin, total_length}
use Rattle.fz_pixels.specs.Pieces.{pieces_written}

-- the places of runs
abbrev pub run_places : List (ℕ × ℕ) → List ℕ
run_places runs = flat_map (λ (run : ℕ × ℕ). range_with_len run.0 run.1) runs

-- writes one after another are one write
abbrev pub JoinsWrites : Type 0
JoinsWrites = (at : ℕ) (front back : List ℕ) (contents : Option (List ℕ)) → written (at + length front) back (written at front contents) ≡ written at (front ++ back) contents

-- no bytes change nothing
pub written_none : (at : ℕ) (contents : Option (List ℕ)) → written at [] contents ≡ contents
written_none at None = refl
written_none at (Some c) = refl

-- the pixels of a run are one write
pub run_written : JoinsWrites → (w at first count : ℕ) (rest bytes : List ℕ) (contents : Option (List ℕ)) → w * count ≤ length bytes →
    pieces_written w at (range_with_len first count ++ rest) bytes contents
    ≡ pieces_written w at rest (drop (w * count) bytes) (written (at + w * first) (take (w * count) bytes) contents)
run_written joins w at first zero rest bytes contents room =
    sym (ap (λ n. pieces_written w at rest (drop n bytes) (written (at + w * first) (take n bytes) contents)) (mul-zero w)
    ∙ ap (λ c. pieces_written w at rest bytes c) (written_none (at + w * first) contents))
run_written joins w at first (suc count) rest bytes contents room =
    let size : w * suc count ≡ w + w * count = omega (arith, mul-suc w count) in
    let behind : length (drop w bytes) ≡ length bytes - w = length-drop w bytes in
    let more : w * count ≤ length (drop w bytes) = omega (arith, behind, size, room) in
    let one : length (take w bytes) ≡ w = length-take w bytes ∙ omega (arith, size, room) in
    let next : at + w * (first + 1) ≡ at + w * first + length (take w bytes) = omega (arith, mul-suc w first, one) in
    let front : take (w * suc count) bytes ≡ take w bytes ++ take (w * count) (drop w bytes) = ap (λ n. take n bytes) size ∙ take-add w (w * count) bytes in
    let back : drop (w * count) (drop w bytes) ≡ drop (w * suc count) bytes = drop-drop (w * count) w bytes ∙ ap (λ n. drop n bytes) (omega (arith, size)) in
    run_written joins w at (first + 1) count rest (drop w bytes) (written (at + w * first) (take w bytes) contents) more
    ∙ ap (λ l. pieces_written w at rest l (written (at + w * (first + 1)) (take (w * count) (drop w bytes)) (written (at + w * first) (take w bytes) contents))) back
    ∙ ap (λ n. pieces_written w at rest (drop (w * suc count) bytes) (written n (take (w * count) (drop w bytes)) (written (at + w * first) (take w bytes) contents))) next
    ∙ ap (λ c. pieces_written w at rest (drop (w * suc count) bytes) c) (joins (at + w * first) (take w bytes) (take (w * count) (drop w bytes)) contents)
    ∙ ap (λ l. pieces_written w at rest (drop (w * suc count) bytes) (written (at + w * first) l contents)) (sym front)

-- ---- where the next run stands

pub next_inside : (most first count : ℕ) (left left' : List (ℕ × ℕ)) → left ≡ (first, count) ∷ left' → EndWithin most left → (first + count ≤ most) × EndWithin most left'
next_inside most first count left left' next inside = subst (EndWithin most) next inside

pub next_total : (first count : ℕ) (left left' : List (ℕ × ℕ)) → left ≡ (first, count) ∷ left' → total_length left ≡ count + total_length left'
next_total first count left left' next = ap total_length next

-- a run ends within the pixels
pub run_within : (w at first count most n : ℕ) → first + count ≤ most → at + w * most ≤ n → at + w * first + w * count ≤ n
run_within w at first count most n inside within =
    let end : w * (first + count) ≤ w * most = mul-le-mul_left w inside in
    omega (arith, end, mul-add w first count, within)

-- and the bytes that are left begin with it
pub run_fits : (w done count rest size : ℕ) → done + w * (count + rest) ≡ size → (done + w * count ≤ size) × (done + w * count + w * rest ≡ size)
run_fits w done count rest size whole = (omega (arith, mul-add w count rest, whole), omega (arith, mul-add w count rest, whole))

-- one run more is written, and the pixels after it are left
pub write_more : JoinsWrites → (w at done first count from len : ℕ) (bytes run : List ℕ) (left left' : List (ℕ × ℕ)) (contents contents' goal : Option (List ℕ)) →
    left ≡ (first, count) ∷ left' → from ≡ at + w * first → len ≡ w * count → done + len ≤ length bytes → run ≡ take len (drop done bytes)
    → contents' ≡ written from run contents → pieces_written w at (run_places left) (drop done bytes) contents ≡ goal
    → pieces_written w at (run_places left') (drop (done + len) bytes) contents' ≡ goal
write_more joins w at done first count from len bytes run left left' contents contents' goal next place size room piece put so_far =
    let long : length (drop done bytes) ≡ length bytes - done = length-drop done bytes in
    let fits : w * count ≤ length (drop done bytes) = omega (arith, long, size, room) in
    let back : drop (done + len) bytes ≡ drop (w * count) (drop done bytes) = sym (drop-drop (w * count) done bytes ∙ ap (λ n. drop n bytes) (omega (arith, size))) in
    let now : contents' ≡ written (at + w * first) (take (w * count) (drop done bytes)) contents =
    put ∙ ap (λ l. written from l contents) piece ∙ ap (λ n. written n (take len (drop done bytes)) contents) place ∙ ap (λ n. written (at + w * first) (take n (drop done bytes)) contents) size in
    ap (λ l. pieces_written w at (run_places left') l contents') back
    ∙ ap (λ c. pieces_written w at (run_places left') (drop (w * count) (drop done bytes)) c) now
    ∙ sym (run_written joins w at first count (run_places left') (drop done bytes) contents fits)
    ∙ sym (ap (λ l. pieces_written w at (run_places l) (drop done bytes) contents) next)
    ∙ so_far
