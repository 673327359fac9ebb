-- A line whose picks are neighbours is one piece of the pixels.
use Rattle.std.proofs.Common.{◌≡◌, ℕ, ◌+◌, ◌*◌, ◌/◌, ◌≤◌, ℤ, List, ◌++◌, length, take, drop, unsigned_abs, w32, of_z, to_z, sym, ap, subst, ◌∙◌, arith}
use Rattle.std.proofs.lemmas.Int.{to_z-of_z}
use Rattle.fz_grid.specs.declared.line.Line.{Line}
use Rattle.fz_tile.specs.Pixels.{HoldPixels}
use Rattle.fz_tile.specs.Plain.{plain_bytes}
use Rattle.fz_pixels.proofs.PixelBytes.{line_ends, line_fits, line_whole}
use Rattle.fz_pixels.proofs.bytes.put_line.Goals as goal

pub returns-then-line-eq1-clause-bytes : goal.returns-then-line-eq1-clause-bytes
returns-then-line-eq1-clause-bytes c xs held =
    let back : to_z w32 (of_z w32 c.args.bitpix) ≡ c.args.bitpix = to_z-of_z w32 c.args.bitpix c.ranges.bitpix in
    let b : ℕ = unsigned_abs c.args.bitpix in
    let line : Line = c.args.line.now in
    let at : ℕ = c.args.at in
    let code : List ℕ = c.args.code.now in
    let one : line.step ≡ 1 = omega (arith, c.if-line-eq1.true) in
    let fits = line_fits b c.args.numbers.now line c.requires.pixels xs held in
    let within : line.in_tile + line.count ≤ length xs = line_ends line.in_tile line.count line.step (length xs) one fits.0 fits.1 in
    let put : c.put_pixels.new.code ≡ take at code ++ (plain_bytes b (take c.from.result (drop line.in_tile xs)) ++ drop (at + b / 8 * c.from.result) code) =
    subst (λ (y : ℤ). c.put_pixels.new.code ≡ take at code ++ (plain_bytes (unsigned_abs y) (take c.from.result (drop line.in_tile xs)) ++ drop (at + unsigned_abs y / 8 * c.from.result) code)) back
    (c.put_pixels.ensures.bytes xs (subst (λ (y : ℤ). HoldPixels (unsigned_abs y) c.args.numbers.now xs) (sym back) held) (omega (arith, within, c.from.ensures))) in
    put ∙ ap (λ n. take at code ++ (plain_bytes b (take n (drop line.in_tile xs)) ++ drop (at + b / 8 * n) code)) c.from.ensures
    ∙ ap (λ l. take at code ++ (plain_bytes b l ++ drop (at + b / 8 * line.count) code)) (line_whole line.in_tile line.step line.count xs one within)
