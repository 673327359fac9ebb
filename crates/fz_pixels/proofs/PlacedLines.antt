-- The picks of lines, put to their places in a buffer, one line after another.
use Rattle.std.proofs.Common.{◌≡◌, ℕ, ◌+◌, ◌-◌, ◌*◌, ◌≤◌, List, [], ◌∷◌, ◌++◌, length, take, drop, replicate, Option, Some, sym, ap, ◌∙◌, arith}
use Rattle.std.proofs.lemmas.List.{append-nil, append_assoc, length-append, take-append-drop}
use Rattle.std.proofs.Math.Seq.{drop-append_seam, take-append_seam}
use Rattle.fz_base.specs.Sink.{overwrite, written}
use Rattle.fz_grid.specs.Line.{lines_in_cutout}
use Rattle.fz_grid.specs.declared.line.Line.{Line}
use Rattle.fz_pixels.specs.Pieces.{pieces_written}
use Rattle.fz_pixels.proofs.Running.{JoinsWrites, run_written}

-- what is written within contents takes the place of as many bytes
write_inside : (at : ℕ) (bytes contents : List ℕ) → at + length bytes ≤ length contents → overwrite at bytes contents ≡ take at contents ++ (bytes ++ drop (at + length bytes) contents)
write_inside at [] contents room =
    let same : at ≡ at + 0 = omega arith in
    sym (take-append-drop at contents) ∙ ap (λ n. take at contents ++ drop n contents) same
write_inside at (b ∷ bytes) contents room =
    let none : at - length contents ≡ 0 = omega (arith, room) in
    let behind : List ℕ = drop (at + length (b ∷ bytes)) contents in
    ap (λ n. ((take at contents ++ replicate n 0) ++ (b ∷ bytes)) ++ behind) none
    ∙ ap (λ l. (l ++ (b ∷ bytes)) ++ behind) (append-nil (take at contents))
    ∙ append_assoc (take at contents) (b ∷ bytes) behind

-- one line more is put to its place, and those after it are left
pub line_placed : JoinsWrites → (w : ℕ) (line : Line) (left left' : List Line) (piece rest out out' : List ℕ) (goal : Option (List ℕ)) → left ≡ line ∷ left' → length piece ≡ w * line.count
    → w * line.in_cutout + w * line.count ≤ length out → out' ≡ take (w * line.in_cutout) out ++ (piece ++ drop (w * line.in_cutout + w * line.count) out)
    → pieces_written w 0 (lines_in_cutout left) (piece ++ rest) (Some out) ≡ goal → pieces_written w 0 (lines_in_cutout left') rest (Some out') ≡ goal
line_placed joins w line left left' piece rest out out' goal next long room put so_far =
    let at : ℕ = w * line.in_cutout in
    let bytes : List ℕ = piece ++ rest in
    let many : length bytes ≡ length piece + length rest = length-append piece rest in
    let fits : w * line.count ≤ length bytes = omega (arith, many, long) in
    let front : take (w * line.count) bytes ≡ piece = ap (λ n. take n bytes) (sym long) ∙ take-append_seam piece rest in
    let back : drop (w * line.count) bytes ≡ rest = ap (λ n. drop n bytes) (sym long) ∙ drop-append_seam piece rest in
    let place : 0 + at ≡ at = omega arith in
    let inside : at + length piece ≤ length out = omega (arith, room, long) in
    let is : out' ≡ overwrite at piece out = put ∙ ap (λ n. take at out ++ (piece ++ drop (at + n) out)) (sym long) ∙ sym (write_inside at piece out inside) in
    let now : ◌≡◌ {A = Option (List ℕ)} (Some out') (written (0 + at) (take (w * line.count) bytes) (Some out)) =
    ap Some is ∙ sym (ap (λ n. written n piece (Some out)) place) ∙ sym (ap (λ l. written (0 + at) l (Some out)) front) in
    sym (ap (λ l. pieces_written w 0 (lines_in_cutout left') l (Some out')) back)
    ∙ ap (λ (c : Option (List ℕ)). pieces_written w 0 (lines_in_cutout left') (drop (w * line.count) bytes) c) now
    ∙ sym (run_written joins w 0 line.in_cutout line.count (lines_in_cutout left') bytes (Some out) fits)
    ∙ sym (ap (λ l. pieces_written w 0 (lines_in_cutout l) bytes (Some out)) next)
    ∙ so_far
