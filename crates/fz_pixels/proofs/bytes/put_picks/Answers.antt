-- One line after another.
use Rattle.std.proofs.Common.{◌≡◌, ℕ, ◌+◌, ◌*◌, ◌/◌, ◌≤◌, ℤ, pos, List, [], ◌∷◌, ◌++◌, length, take, drop, unsigned_abs, w32, of_z, to_z, sym, ap, subst, ◌∙◌, arith}
use Rattle.std.proofs.lemmas.Int.{to_z-of_z}
use Rattle.std.proofs.lemmas.List.{take_all}
use Rattle.std.proofs.Math.Nat.{mul-zero}
use Rattle.std.proofs.Math.Seq.{take-append_seam}
use Rattle.fz_grid.specs.Cutout.{numbers_at}
use Rattle.fz_grid.specs.Line.{IsLineWithin, line_in_tile, lines_in_tile}
use Rattle.fz_grid.specs.LineWalks.{lines_left}
use Rattle.fz_grid.specs.declared.line.Line.{Line}
use Rattle.fz_tile.specs.Pixels.{HoldPixels, IsBitpix}
use Rattle.fz_tile.specs.Plain.{plain_bytes}
use Rattle.fz_pixels.proofs.PixelBytes.{all_len, front_more, line_first, line_len, lines_next, lines_room, next_piece, numbers_split, tile_count}
use Rattle.fz_pixels.proofs.Wholes.{bits_of}
use Rattle.fz_pixels.proofs.bytes.put_picks.Goals as goal

pub put_line-requires-clause-pixels : goal.put_line-requires-clause-pixels
put_line-requires-clause-pixels c =
    let back : to_z w32 (of_z w32 c.args.bitpix) ≡ c.args.bitpix = to_z-of_z w32 c.args.bitpix c.ranges.bitpix in
    let next : lines_left c.loop-line.line-iterator ≡ c.in-Some.line ∷ lines_left c.next.new.self = c.in-Some.ensures.steps in
    lines_next (unsigned_abs c.args.bitpix) (unsigned_abs (to_z w32 (of_z w32 c.args.bitpix))) c.args.numbers.now (lines_left c.args.lines) (lines_left c.loop-line.line-iterator) (lines_left c.next.new.self) c.in-Some.line
    (ap unsigned_abs (sym back)) c.requires.pixels c.loop-line.invariant.within next

pub put_line-requires-clause-room : goal.put_line-requires-clause-room
put_line-requires-clause-room c =
    let z : ℤ = to_z w32 (of_z w32 c.args.bitpix) in
    let back : z ≡ c.args.bitpix = to_z-of_z w32 c.args.bitpix c.ranges.bitpix in
    let next : lines_left c.loop-line.line-iterator ≡ c.in-Some.line ∷ lines_left c.next.new.self = c.in-Some.ensures.steps in
    let total : ℕ = length (lines_in_tile (lines_left c.args.lines)) in
    let room : unsigned_abs z / 8 * total ≤ length c.args.code.now = subst (λ (y : ℤ). unsigned_abs y / 8 * total ≤ length c.args.code.now) (sym back) c.requires.room in
    let fits = lines_room (unsigned_abs z / 8) c.loop-line.done (length (lines_in_tile (lines_left c.loop-line.line-iterator))) total c.in-Some.line.count (length (lines_in_tile (lines_left c.next.new.self)))
    c.loop-line.invariant.room (tile_count c.in-Some.line _ _ next) in
    omega (arith, fits.0, room, c.loop-line.invariant.size)

pub loop-line-preserved : goal.loop-line-preserved
loop-line-preserved c =
    let z : ℤ = to_z w32 (of_z w32 c.args.bitpix) in
    let back : z ≡ c.args.bitpix = to_z-of_z w32 c.args.bitpix c.ranges.bitpix in
    let bits : ℕ = unsigned_abs z in
    let w : ℕ = bits / 8 in
    let size : IsBitpix (pos bits) = bits_of z (subst IsBitpix (sym back) c.requires.size) in
    let line : Line = c.in-Some.line in
    let next : lines_left c.loop-line.line-iterator ≡ line ∷ lines_left c.next.new.self = c.in-Some.ensures.steps in
    let done : ℕ = c.loop-line.done in
    let added : c.plain_len-done.result ≡ w * line.count = c.plain_len-done.ensures ∙ ap (λ n. w * n) c.from.ensures in
    let total : ℕ = length (lines_in_tile (lines_left c.args.lines)) in
    let fits = lines_room w done (length (lines_in_tile (lines_left c.loop-line.line-iterator))) total line.count (length (lines_in_tile (lines_left c.next.new.self)))
    c.loop-line.invariant.room (tile_count line _ _ next) in
    record {
      size = c.put_line.ensures.len ∙ c.loop-line.invariant.size;
      within = λ n cutout all. (line_first (IsLineWithin n cutout) line _ _ next (c.loop-line.invariant.within n cutout all)).1;
      room = omega (arith, fits.1, added);
      so_far = λ xs held.
          let whole : List ℕ = plain_bytes bits (numbers_at xs (lines_in_tile (lines_left c.args.lines))) in
          let piece : List ℕ = plain_bytes bits (numbers_at xs (line_in_tile line)) in
          let long : length piece ≡ w * line.count = all_len c.plain_law.ensures.len bits xs (line_in_tile line) size ∙ ap (λ n. w * n) (line_len line) in
          let len : length piece ≡ c.plain_len-done.result = long ∙ sym added in
          let here = next_piece done whole piece (plain_bytes bits (numbers_at xs (lines_in_tile (lines_left c.next.new.self)))) (numbers_split bits xs line _ _ next ∙ c.loop-line.invariant.rest xs held) in
          let is : piece ≡ take c.plain_len-done.result (drop done whole) = here.0 ∙ ap (λ n. take n (drop done whole)) len in
          let put : c.put_line.new.code ≡ take done c.loop-line.code ++ (piece ++ drop (done + c.plain_len-done.result) c.loop-line.code) =
          c.put_line.ensures.bytes xs held ∙ ap (λ n. take done c.loop-line.code ++ (piece ++ drop (done + n) c.loop-line.code)) (sym added) in
          front_more done c.plain_len-done.result whole piece c.args.code.now c.loop-line.code c.put_line.new.code is
          (omega (arith, fits.0, all_len c.plain_law.ensures.len bits xs (lines_in_tile (lines_left c.args.lines)) size)) (c.loop-line.invariant.so_far xs held) put;
      rest = λ xs held.
          let whole : List ℕ = plain_bytes bits (numbers_at xs (lines_in_tile (lines_left c.args.lines))) in
          let piece : List ℕ = plain_bytes bits (numbers_at xs (line_in_tile line)) in
          let long : length piece ≡ w * line.count = all_len c.plain_law.ensures.len bits xs (line_in_tile line) size ∙ ap (λ n. w * n) (line_len line) in
          let len : length piece ≡ c.plain_len-done.result = long ∙ sym added in
          let here = next_piece done whole piece (plain_bytes bits (numbers_at xs (lines_in_tile (lines_left c.next.new.self)))) (numbers_split bits xs line _ _ next ∙ c.loop-line.invariant.rest xs held) in
          here.1 ∙ ap (λ n. drop (done + n) whole) len;
    }

pub returns-clause-count : goal.returns-clause-count
returns-clause-count c =
    let z : ℤ = to_z w32 (of_z w32 c.args.bitpix) in
    let back : z ≡ c.args.bitpix = to_z-of_z w32 c.args.bitpix c.ranges.bitpix in
    let none : lines_left c.loop-line.line-iterator ≡ [] = c.in-None.ensures.steps.0 in
    let total : ℕ = length (lines_in_tile (lines_left c.args.lines)) in
    let over : unsigned_abs z / 8 * length (lines_in_tile (lines_left c.loop-line.line-iterator)) ≡ 0 = ap (λ l. unsigned_abs z / 8 * length (lines_in_tile l)) none ∙ mul-zero (unsigned_abs z / 8) in
    let all : c.loop-line.done ≡ unsigned_abs z / 8 * total = omega (arith, c.loop-line.invariant.room, over) in
    all ∙ ap (λ (y : ℤ). unsigned_abs y / 8 * total) back

pub returns-clause-bytes : goal.returns-clause-bytes
returns-clause-bytes c xs held =
    let z : ℤ = to_z w32 (of_z w32 c.args.bitpix) in
    let back : z ≡ c.args.bitpix = to_z-of_z w32 c.args.bitpix c.ranges.bitpix in
    let b : ℕ = unsigned_abs c.args.bitpix in
    let none : lines_left c.loop-line.line-iterator ≡ [] = c.in-None.ensures.steps.0 in
    let total : ℕ = length (lines_in_tile (lines_left c.args.lines)) in
    let over : unsigned_abs z / 8 * length (lines_in_tile (lines_left c.loop-line.line-iterator)) ≡ 0 = ap (λ l. unsigned_abs z / 8 * length (lines_in_tile l)) none ∙ mul-zero (unsigned_abs z / 8) in
    let last : c.loop-line.done ≡ unsigned_abs z / 8 * total = omega (arith, c.loop-line.invariant.room, over) in
    let done : c.loop-line.done ≡ b / 8 * total = last ∙ ap (λ (y : ℤ). unsigned_abs y / 8 * total) back in
    let whole : List ℕ = plain_bytes b (numbers_at xs (lines_in_tile (lines_left c.args.lines))) in
    let so_far : c.loop-line.code ≡ take c.loop-line.done whole ++ drop c.loop-line.done c.args.code.now =
    subst (λ (y : ℤ). c.loop-line.code ≡ take c.loop-line.done (plain_bytes (unsigned_abs y) (numbers_at xs (lines_in_tile (lines_left c.args.lines)))) ++ drop c.loop-line.done c.args.code.now) back
    (c.loop-line.invariant.so_far xs (subst (λ (y : ℤ). HoldPixels (unsigned_abs y) c.args.numbers.now xs) (sym back) held)) in
    let size : length whole ≡ b / 8 * total = all_len c.plain_law.ensures.len b xs (lines_in_tile (lines_left c.args.lines)) (bits_of c.args.bitpix c.requires.size) in
    let front : take c.loop-line.done whole ≡ whole = take_all c.loop-line.done whole (omega (arith, size, done)) in
    ap (take (b / 8 * total)) (so_far ∙ ap (λ l. l ++ drop c.loop-line.done c.args.code.now) front)
    ∙ ap (λ n. take n (whole ++ drop c.loop-line.done c.args.code.now)) (sym size) ∙ take-append_seam whole (drop c.loop-line.done c.args.code.now)
