-- The picks of a tile, written run by run: lines that stand together in the cutout are one run.
use Rattle.std.proofs.Common.{◌≡◌, ℕ, zero, suc, ◌+◌, ◌-◌, ◌*◌, ◌<◌, ◌≤◌, ◌^◌, List, [], ◌∷◌, ◌++◌, length, take, drop, Option, refl, sym, ap, ◌∙◌, subst, arith}
use Rattle.std.specs.List.{AllByRecursion, range_with_len}
use Rattle.std.proofs.lemmas.List.{append_assoc, drop-drop, length-append, length-drop}
use Rattle.std.proofs.lemmas.List.FromFn.{length-range_with_len}
use Rattle.std.proofs.Math.Nat.{mul-add, mul-le-mul_left, mul-le-mul_right}
use Rattle.fz_base.specs.Sink.{written}
use Rattle.fz_grid.specs.Line.{IsLineWithin, lines_in_cutout}
use Rattle.fz_grid.specs.declared.line.Line.{Line}
use Rattle.fz_pixels.specs.Pieces.{pieces_written}
use Rattle.fz_pixels.proofs.Running.{JoinsWrites, run_written}

-- the places of a run, and those of the lines after it
abbrev pub run_and : ℕ → ℕ → List Line → List ℕ
run_and first count lines = range_with_len first count ++ lines_in_cutout lines

pub line_count : (line : Line) (left left' : List Line) → left ≡ line ∷ left' → length (lines_in_cutout left) ≡ line.count + length (lines_in_cutout left')
line_count line left left' next =
    ap (λ l. length (lines_in_cutout l)) next ∙ length-append (range_with_len line.in_cutout line.count) (lines_in_cutout left')
    ∙ ap (λ n. n + length (lines_in_cutout left')) (length-range_with_len line.in_cutout line.count)

range_join : (a m n : ℕ) → range_with_len a m ++ range_with_len (a + m) n ≡ range_with_len a (m + n)
range_join a zero n =
    let place : a + 0 ≡ a = omega arith in
    let count : n ≡ 0 + n = omega arith in
    ap (λ k. range_with_len k n) place ∙ ap (range_with_len a) count
range_join a (suc m) n =
    let place : a + suc m ≡ a + 1 + m = omega arith in
    let count : suc (m + n) ≡ suc m + n = omega arith in
    ap (λ l. a ∷ l) (ap (λ k. range_with_len (a + 1) m ++ range_with_len k n) place ∙ range_join (a + 1) m n) ∙ ap (range_with_len a) count

-- a line that is left begins with its places
line_starts : (more : ℕ) (line : Line) (left left' : List Line) → left ≡ line ∷ left' → more ≡ line.count → lines_in_cutout left ≡ run_and line.in_cutout more left'
line_starts more line left left' next size = ap lines_in_cutout next ∙ ap (λ n. run_and line.in_cutout n left') (sym size)

-- a line that begins where the run ends makes it longer
line_joins : (first count more : ℕ) (line : Line) (left left' : List Line) → left ≡ line ∷ left' → line.in_cutout ≡ first + count → more ≡ line.count
    → run_and first count left ≡ run_and first (count + more) left'
line_joins first count more line left left' next place size =
    ap (run_and first count) next
    ∙ ap (λ k. range_with_len first count ++ (range_with_len k line.count ++ lines_in_cutout left')) place
    ∙ sym (append_assoc (range_with_len first count) (range_with_len (first + count) line.count) (lines_in_cutout left'))
    ∙ ap (λ l. l ++ lines_in_cutout left') (range_join first count line.count)
    ∙ ap (λ n. run_and first (count + n) left') (sym size)

pub run_longer : (w at first count more : ℕ) (line : Line) (left left' : List Line) (rest : List ℕ) (contents goal : Option (List ℕ)) → left ≡ line ∷ left' → line.in_cutout ≡ first + count → more ≡ line.count
    → pieces_written w at (run_and first count left) rest contents ≡ goal → pieces_written w at (run_and first (count + more) left') rest contents ≡ goal
run_longer w at first count more line left left' rest contents goal next place size so_far =
    sym (ap (λ l. pieces_written w at l rest contents) (line_joins first count more line left left' next place size)) ∙ so_far

-- the run is written, and the places after it are left
run_more : JoinsWrites → (w at done end from first count : ℕ) (bytes run : List ℕ) (left : List Line) (contents contents' goal : Option (List ℕ)) →
    from ≡ at + w * first → end ≡ done + w * count → end ≤ length bytes → run ≡ take (w * count) (drop done bytes)
    → contents' ≡ written from run contents → pieces_written w at (run_and first count left) (drop done bytes) contents ≡ goal
    → pieces_written w at (lines_in_cutout left) (drop end bytes) contents' ≡ goal
run_more joins w at done end from first count bytes run left contents contents' goal place size room piece put so_far =
    let long : length (drop done bytes) ≡ length bytes - done = length-drop done bytes in
    let fits : w * count ≤ length (drop done bytes) = omega (arith, long, size, room) in
    let back : drop end bytes ≡ drop (w * count) (drop done bytes) = sym (drop-drop (w * count) done bytes ∙ ap (λ n. drop n bytes) (omega (arith, size))) in
    let now : contents' ≡ written (at + w * first) (take (w * count) (drop done bytes)) contents =
    put ∙ ap (λ l. written from l contents) piece ∙ ap (λ n. written n (take (w * count) (drop done bytes)) contents) place in
    ap (λ l. pieces_written w at (lines_in_cutout left) l contents') back
    ∙ ap (λ c. pieces_written w at (lines_in_cutout left) (drop (w * count) (drop done bytes)) c) now
    ∙ sym (run_written joins w at first count (lines_in_cutout left) (drop done bytes) contents fits)
    ∙ so_far

-- and the next run is the line there
pub run_next : JoinsWrites → (w at done end from first count more : ℕ) (line : Line) (bytes run : List ℕ) (left left' : List Line) (contents contents' goal : Option (List ℕ)) →
    left ≡ line ∷ left' → more ≡ line.count → from ≡ at + w * first → end ≡ done + w * count → end ≤ length bytes → run ≡ take (w * count) (drop done bytes)
    → contents' ≡ written from run contents → pieces_written w at (run_and first count left) (drop done bytes) contents ≡ goal
    → pieces_written w at (run_and line.in_cutout more left') (drop end bytes) contents' ≡ goal
run_next joins w at done end from first count more line bytes run left left' contents contents' goal next long place size room piece put so_far =
    sym (ap (λ l. pieces_written w at l (drop end bytes) contents') (line_starts more line left left' next long))
    ∙ run_more joins w at done end from first count bytes run left contents contents' goal place size room piece put so_far

-- the last run is written, and none is left
pub run_last : JoinsWrites → (w at done from first count : ℕ) (bytes run : List ℕ) (left : List Line) (contents contents' goal : Option (List ℕ)) →
    left ≡ [] → from ≡ at + w * first → done + w * (count + length (lines_in_cutout left)) ≡ length bytes → run ≡ take (length bytes - done) (drop done bytes)
    → contents' ≡ written from run contents → pieces_written w at (run_and first count left) (drop done bytes) contents ≡ goal → contents' ≡ goal
run_last joins w at done from first count bytes run left contents contents' goal none place whole is put so_far =
    let over : count + length (lines_in_cutout left) ≡ count = ap (λ l. count + length (lines_in_cutout l)) none ∙ omega arith in
    let size : done + w * count ≡ length bytes = sym (ap (λ n. done + w * n) over) ∙ whole in
    let same : length bytes - done ≡ w * count = omega (arith, size) in
    sym (ap (λ l. pieces_written w at (lines_in_cutout l) (drop (done + w * count) bytes) contents') none)
    ∙ run_more joins w at done (done + w * count) from first count bytes run left contents contents' goal place refl (omega (arith, size)) (is ∙ ap (λ n. take n (drop done bytes)) same) put so_far

-- a line that is left lies within the cutout
pub line_near : (line : Line) (all left left' : List Line) (tile cutout : ℕ) → AllByRecursion (IsLineWithin tile cutout) all
    → ((tile cutout : ℕ) → AllByRecursion (IsLineWithin tile cutout) all → AllByRecursion (IsLineWithin tile cutout) left) → left ≡ line ∷ left'
    → line.in_cutout + line.count ≤ cutout
line_near line all left left' tile cutout lines keep next =
    let here = (subst (AllByRecursion (IsLineWithin tile cutout)) next (keep tile cutout lines)).0 in here.cutout

-- a run within the cutout ends at a number and at a byte that are small
pub run_near : (w at first count : ℕ) (all : List Line) → 1 ≤ w → (tile : ℕ) × ((cutout : ℕ) × AllByRecursion (IsLineWithin tile cutout) all × (at + w * cutout < 2 ^ 64))
    → ((tile cutout : ℕ) → AllByRecursion (IsLineWithin tile cutout) all → first + count ≤ cutout)
    → (first + count < 2 ^ 64) × (at + w * first + w * count < 2 ^ 64)
run_near w at first count all some (tile, (cutout, lines, near)) keep =
    let inside : first + count ≤ cutout = keep tile cutout lines in
    let times : w * (first + count) ≤ w * cutout = mul-le-mul_left w inside in
    let parts : w * (first + count) ≡ w * first + w * count = mul-add w first count in
    let unit : 1 * (first + count) ≤ w * (first + count) = mul-le-mul_right (first + count) some in
    (omega (arith, unit, times, near), omega (arith, times, parts, near))
