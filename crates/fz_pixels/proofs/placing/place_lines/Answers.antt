-- One line after another.
use Rattle.std.proofs.Common.{◌≡◌, ℕ, ◌+◌, ◌*◌, ◌/◌, ◌≤◌, ℤ, pos, List, [], ◌∷◌, ◌++◌, length, take, drop, Option, Some, unsigned_abs, w32, of_z, to_z, sym, ap, subst, ◌∙◌, arith}
use Rattle.std.proofs.lemmas.Int.{to_z-of_z}
use Rattle.fz_grid.specs.Line.{line_in_tile, lines_in_cutout, lines_in_tile}
use Rattle.fz_grid.specs.LineWalks.{lines_left}
use Rattle.fz_grid.specs.declared.line.Line.{Line}
use Rattle.fz_tile.specs.Pixels.{HoldPixels, IsBitpix}
use Rattle.fz_tile.specs.Plain.{plain_bytes}
use Rattle.fz_pixels.specs.Parts.{IsLineBetween, pixels_from}
use Rattle.fz_pixels.specs.Pieces.{pieces_written}
use Rattle.fz_pixels.proofs.PixelBytes.{line_first}
use Rattle.fz_pixels.proofs.PlacedLines.{line_placed}
use Rattle.fz_pixels.proofs.SpanLemmas.{after_len, after_split, line_between, line_fits_in, line_held, pixels_of_line}
use Rattle.fz_pixels.proofs.Wholes.{bits_of}
use Rattle.fz_pixels.proofs.placing.place_lines.Goals as goal

pub overflow_sub-in_tile : goal.overflow_sub-in_tile
overflow_sub-in_tile c =
    let b : ℕ = unsigned_abs c.args.bitpix in
    let next : lines_left c.loop-line.line-iterator ≡ c.in-Some.line ∷ lines_left c.next.new.self = c.in-Some.ensures.steps in
    let here = line_between b (b / 8) (length c.args.out.now) c.args.first c.args.numbers.now c.in-Some.line (lines_left c.args.lines) (lines_left c.loop-line.line-iterator) (lines_left c.next.new.self) c.requires.pixels
    c.loop-line.invariant.within next in
    omega (arith, here.first)

pub put_line-requires-clause-pixels : goal.put_line-requires-clause-pixels
put_line-requires-clause-pixels c =
    let b : ℕ = unsigned_abs c.args.bitpix in
    let back : to_z w32 (of_z w32 c.args.bitpix) ≡ c.args.bitpix = to_z-of_z w32 c.args.bitpix c.ranges.bitpix in
    let next : lines_left c.loop-line.line-iterator ≡ c.in-Some.line ∷ lines_left c.next.new.self = c.in-Some.ensures.steps in
    line_held b (b / 8) (length c.args.out.now) c.args.first c.args.numbers.now c.in-Some.line (lines_left c.args.lines) (lines_left c.loop-line.line-iterator) (lines_left c.next.new.self) c.requires.pixels
    c.loop-line.invariant.within next (unsigned_abs (to_z w32 (of_z w32 c.args.bitpix))) (ap unsigned_abs (sym back))

pub overflow_mul-len : goal.overflow_mul-len
overflow_mul-len c =
    let b : ℕ = unsigned_abs c.args.bitpix in
    let back : to_z w32 (of_z w32 c.args.bitpix) ≡ c.args.bitpix = to_z-of_z w32 c.args.bitpix c.ranges.bitpix in
    let next : lines_left c.loop-line.line-iterator ≡ c.in-Some.line ∷ lines_left c.next.new.self = c.in-Some.ensures.steps in
    let size : c.from-len.result ≡ b / 8 = c.from-len.ensures ∙ c.pixel_len.ensures.len ∙ ap (λ (y : ℤ). unsigned_abs y / 8) back in
    let place : c.from-len.result * c.in-Some.line.in_cutout ≡ b / 8 * c.in-Some.line.in_cutout = ap (λ n. n * c.in-Some.line.in_cutout) size in
    let room = line_fits_in b (b / 8) (length c.args.out.now) c.args.first c.args.numbers.now c.in-Some.line (lines_left c.args.lines) (lines_left c.loop-line.line-iterator) (lines_left c.next.new.self) c.requires.pixels
    c.loop-line.invariant.within next in
    record { fits = omega (arith, room, place) }

pub put_line-requires-clause-room : goal.put_line-requires-clause-room
put_line-requires-clause-room c =
    let b : ℕ = unsigned_abs c.args.bitpix in
    let z : ℤ = to_z w32 (of_z w32 c.args.bitpix) in
    let back : z ≡ c.args.bitpix = to_z-of_z w32 c.args.bitpix c.ranges.bitpix in
    let next : lines_left c.loop-line.line-iterator ≡ c.in-Some.line ∷ lines_left c.next.new.self = c.in-Some.ensures.steps in
    let size : c.from-len.result ≡ b / 8 = c.from-len.ensures ∙ c.pixel_len.ensures.len ∙ ap (λ (y : ℤ). unsigned_abs y / 8) back in
    let place : c.from-len.result * c.in-Some.line.in_cutout ≡ b / 8 * c.in-Some.line.in_cutout = ap (λ n. n * c.in-Some.line.in_cutout) size in
    let long : unsigned_abs z / 8 * c.in-Some.line.count ≡ b / 8 * c.in-Some.line.count = ap (λ (y : ℤ). unsigned_abs y / 8 * c.in-Some.line.count) back in
    let room = line_fits_in b (b / 8) (length c.args.out.now) c.args.first c.args.numbers.now c.in-Some.line (lines_left c.args.lines) (lines_left c.loop-line.line-iterator) (lines_left c.next.new.self) c.requires.pixels
    c.loop-line.invariant.within next in
    omega (arith, room, place, long, c.loop-line.invariant.size)

pub loop-line-preserved : goal.loop-line-preserved
loop-line-preserved c =
    let z : ℤ = to_z w32 (of_z w32 c.args.bitpix) in
    let back : z ≡ c.args.bitpix = to_z-of_z w32 c.args.bitpix c.ranges.bitpix in
    let b : ℕ = unsigned_abs c.args.bitpix in
    let bits : ℕ = unsigned_abs z in
    let w : ℕ = bits / 8 in
    let first : ℕ = c.args.first in
    let size : IsBitpix (pos bits) = bits_of z (subst IsBitpix (sym back) c.requires.size) in
    let line : Line = c.in-Some.line in
    let out : List ℕ = c.loop-line.out in
    let next : lines_left c.loop-line.line-iterator ≡ line ∷ lines_left c.next.new.self = c.in-Some.ensures.steps in
    let wide : w ≡ b / 8 = ap (λ (y : ℤ). unsigned_abs y / 8) back in
    let place : c.from-len.result * line.in_cutout ≡ w * line.in_cutout = ap (λ n. n * line.in_cutout) (c.from-len.ensures ∙ c.pixel_len.ensures.len) in
    let here = line_between b (b / 8) (length c.args.out.now) first c.args.numbers.now line (lines_left c.args.lines) (lines_left c.loop-line.line-iterator) (lines_left c.next.new.self) c.requires.pixels
    c.loop-line.invariant.within next in
    let room = line_fits_in b (b / 8) (length c.args.out.now) first c.args.numbers.now line (lines_left c.args.lines) (lines_left c.loop-line.line-iterator) (lines_left c.next.new.self) c.requires.pixels
    c.loop-line.invariant.within next in
    let fits : w * line.in_cutout + w * line.count ≤ length out = omega (arith, room, ap (λ n. n * line.in_cutout) wide, ap (λ n. n * line.count) wide, c.loop-line.invariant.size) in
    record {
      size = c.put_line.ensures.len ∙ c.loop-line.invariant.size;
      within = λ i j cutout all. (line_first (IsLineBetween i j cutout) line _ _ next (c.loop-line.invariant.within i j cutout all)).1;
      rest = λ xs held.
          let piece : List ℕ = plain_bytes bits (pixels_from first xs (line_in_tile line)) in
          let others : List ℕ = plain_bytes bits (pixels_from first xs (lines_in_tile (lines_left c.next.new.self))) in
          let long : length piece ≡ w * line.count = after_len c.plain_law.ensures.len bits first xs line size in
          let put : c.put_line.new.code ≡ take (w * line.in_cutout) out ++ (piece ++ drop (w * line.in_cutout + w * line.count) out) =
          c.put_line.ensures.bytes xs held
          ∙ ap (λ l. take (c.from-len.result * line.in_cutout) out ++ (plain_bytes bits l ++ drop (c.from-len.result * line.in_cutout + w * line.count) out)) (pixels_of_line first xs line here.first)
          ∙ ap (λ n. take n out ++ (piece ++ drop (n + w * line.count) out)) place in
          let split : piece ++ others ≡ plain_bytes bits (pixels_from first xs (lines_in_tile (lines_left c.loop-line.line-iterator))) = after_split bits first xs line _ _ next in
          line_placed c.output_law.ensures.next w line (lines_left c.loop-line.line-iterator) (lines_left c.next.new.self) piece others out c.put_line.new.code _ next long fits put
          (ap (λ l. pieces_written w 0 (lines_in_cutout (lines_left c.loop-line.line-iterator)) l (Some out)) split ∙ c.loop-line.invariant.rest xs held);
    }

pub returns-clause-placed : goal.returns-clause-placed
returns-clause-placed c xs held =
    let z : ℤ = to_z w32 (of_z w32 c.args.bitpix) in
    let back : z ≡ c.args.bitpix = to_z-of_z w32 c.args.bitpix c.ranges.bitpix in
    let first : ℕ = c.args.first in
    let none : lines_left c.loop-line.line-iterator ≡ [] = c.in-None.ensures.steps.0 in
    let wanted : List ℕ → ℤ → Option (List ℕ) = λ out y.
    pieces_written (unsigned_abs y / 8) 0 (lines_in_cutout (lines_left c.args.lines)) (plain_bytes (unsigned_abs y) (pixels_from first xs (lines_in_tile (lines_left c.args.lines)))) (Some out) in
    let rest = c.loop-line.invariant.rest xs (subst (λ (y : ℤ). HoldPixels (unsigned_abs y) c.args.numbers.now xs) (sym back) held) in
    let last : ◌≡◌ {A = Option (List ℕ)} (Some c.loop-line.out) (wanted c.args.out.now z) =
    sym (ap (λ l. pieces_written (unsigned_abs z / 8) 0 (lines_in_cutout l) (plain_bytes (unsigned_abs z) (pixels_from first xs (lines_in_tile l))) (Some c.loop-line.out)) none) ∙ rest in
    last ∙ ap (wanted c.args.out.now) back
