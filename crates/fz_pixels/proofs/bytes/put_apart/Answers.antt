-- One pick after another.
use Rattle.std.proofs.Common.{◌≡◌, ℕ, ◌+◌, ◌*◌, ◌/◌, ◌<◌, ◌≤◌, ℤ, pos, List, ◌++◌, length, take, drop, unsigned_abs, w32, of_z, to_z, sym, ap, subst, ◌∙◌, arith}
use Rattle.std.proofs.lemmas.Int.{to_z-of_z}
use Rattle.std.proofs.Math.Nat.{mul-add, mul-le-mul_left}
use Rattle.fz_grid.specs.Cutout.{numbers_at}
use Rattle.fz_grid.specs.Line.{line_in_tile}
use Rattle.fz_grid.specs.declared.line.Line.{Line}
use Rattle.fz_tile.specs.Pixels.{HoldPixels, IsBitpix}
use Rattle.fz_tile.specs.Plain.{plain_bytes}
use Rattle.fz_pixels.proofs.PixelBytes.{behind, behind_all, behind_len, behind_piece, bytes_len, front_more, line_fits, one_pick, pick_near}
use Rattle.fz_pixels.proofs.Wholes.{bits_of}
use Rattle.fz_pixels.proofs.bytes.put_apart.Goals as goal

pub put_pixels-requires-clause-pixels : goal.put_pixels-requires-clause-pixels
put_pixels-requires-clause-pixels c =
    let back : to_z w32 (of_z w32 c.args.bitpix) ≡ c.args.bitpix = to_z-of_z w32 c.args.bitpix c.ranges.bitpix in
    let line : Line = c.args.line.now in
    let k : ℕ = c.loop-k.k in
    let xs : List ℤ = c.requires.pixels.0 in
    let held : HoldPixels (unsigned_abs c.args.bitpix) c.args.numbers.now xs = c.requires.pixels.1 in
    let low : k < line.count = omega (arith, c.loop-k-test.true) in
    let near : line.in_tile + k * line.step < length xs =
    pick_near line.in_tile line.count line.step (length xs) k low (line_fits (unsigned_abs c.args.bitpix) c.args.numbers.now line c.requires.pixels xs held).1 in
    let place : c.from.result * c.from-in-loop-k.result ≡ k * line.step = ap (λ n. n * c.from-in-loop-k.result) c.from.ensures ∙ ap (λ n. k * n) c.from-in-loop-k.ensures in
    (xs, subst (λ (y : ℤ). HoldPixels (unsigned_abs y) c.args.numbers.now xs) (sym back) held, omega (arith, near, place))

pub loop-k-preserved : goal.loop-k-preserved
loop-k-preserved c =
    let z : ℤ = to_z w32 (of_z w32 c.args.bitpix) in
    let back : z ≡ c.args.bitpix = to_z-of_z w32 c.args.bitpix c.ranges.bitpix in
    let bits : ℕ = unsigned_abs z in
    let w : ℕ = bits / 8 in
    let size : IsBitpix (pos bits) = bits_of z (subst IsBitpix (sym back) c.requires.size) in
    let line : Line = c.args.line.now in
    let at : ℕ = c.args.at in
    let k : ℕ = c.loop-k.k in
    let code : List ℕ = c.args.code.now in
    let low : k < line.count = omega (arith, c.loop-k-test.true) in
    let room : at ≤ length code = omega (arith, c.requires.room) in
    record {
      size = c.put_pixels.ensures.len ∙ c.loop-k.invariant.size;
      so_far = λ xs held.
          let plain : HoldPixels (unsigned_abs c.args.bitpix) c.args.numbers.now xs = subst (λ (y : ℤ). HoldPixels (unsigned_abs y) c.args.numbers.now xs) back held in
          let near : line.in_tile + k * line.step < length xs =
          pick_near line.in_tile line.count line.step (length xs) k low (line_fits (unsigned_abs c.args.bitpix) c.args.numbers.now line c.requires.pixels xs plain).1 in
          let whole : List ℕ = plain_bytes bits (numbers_at xs (line_in_tile line)) in
          let place : c.from.result * c.from-in-loop-k.result ≡ k * line.step = ap (λ n. n * c.from-in-loop-k.result) c.from.ensures ∙ ap (λ n. k * n) c.from-in-loop-k.ensures in
          let from_is : line.in_tile + c.from.result * c.from-in-loop-k.result ≡ line.in_tile + k * line.step = omega (arith, place) in
          let len_is : c.from-len.result ≡ w = c.from-len.ensures ∙ c.pixel_len.ensures.len in
          let start : c.from-len.result * c.from-in-loop-k-2.result ≡ w * k = ap (λ n. n * c.from-in-loop-k-2.result) len_is ∙ ap (λ n. w * n) c.from-in-loop-k-2.ensures in
          let at_is : at + c.from-len.result * c.from-in-loop-k-2.result ≡ at + w * k = omega (arith, start) in
          let put : c.put_pixels.new.code ≡ take (at + w * k) c.loop-k.code ++ (plain_bytes bits (take 1 (drop (line.in_tile + k * line.step) xs)) ++ drop (at + w * k + w * 1) c.loop-k.code) =
          c.put_pixels.ensures.bytes xs held (omega (arith, near, place))
          ∙ ap (λ n. take n c.loop-k.code ++ (plain_bytes bits (take 1 (drop (line.in_tile + c.from.result * c.from-in-loop-k.result) xs)) ++ drop (n + w * 1) c.loop-k.code)) at_is
          ∙ ap (λ n. take (at + w * k) c.loop-k.code ++ (plain_bytes bits (take 1 (drop n xs)) ++ drop (at + w * k + w * 1) c.loop-k.code)) from_is in
          let piece : plain_bytes bits (take 1 (drop (line.in_tile + k * line.step) xs)) ≡ take (w * 1) (drop (at + w * k) (behind at code whole)) =
          one_pick c.slice_law.ensures.bytes bits line.in_tile line.step line.count k xs size low near ∙ behind_piece at (w * k) (w * 1) code whole room in
          let most : w * k ≤ w * line.count = mul-le-mul_left w (omega (arith, low)) in
          let fits : at + w * k ≤ length (behind at code whole) =
          omega (arith, most, behind_len at code whole room, bytes_len c.plain_law.ensures.len bits line.in_tile line.step line.count xs size) in
          let next : at + w * k + w * 1 ≡ at + w * (k + 1) = omega (arith, mul-add w k 1) in
          front_more (at + w * k) (w * 1) (behind at code whole) (plain_bytes bits (take 1 (drop (line.in_tile + k * line.step) xs))) code c.loop-k.code c.put_pixels.new.code piece fits (c.loop-k.invariant.so_far xs held) put
          ∙ ap (λ n. take n (behind at code whole) ++ drop n code) next;
    }

pub returns-clause-bytes : goal.returns-clause-bytes
returns-clause-bytes c xs held =
    let back : to_z w32 (of_z w32 c.args.bitpix) ≡ c.args.bitpix = to_z-of_z w32 c.args.bitpix c.ranges.bitpix in
    let b : ℕ = unsigned_abs c.args.bitpix in
    let line : Line = c.args.line.now in
    let at : ℕ = c.args.at in
    let code : List ℕ = c.args.code.now in
    let done : c.loop-k.k ≡ line.count = omega (arith, c.loop-k-test.false, c.loop-k.auto.k-end) in
    let whole : List ℕ = plain_bytes b (numbers_at xs (line_in_tile line)) in
    let room : at ≤ length code = omega (arith, c.requires.room) in
    let so_far : c.loop-k.code ≡ take (at + b / 8 * c.loop-k.k) (behind at code whole) ++ drop (at + b / 8 * c.loop-k.k) code =
    subst (λ (y : ℤ). c.loop-k.code ≡ take (at + unsigned_abs y / 8 * c.loop-k.k) (behind at code (plain_bytes (unsigned_abs y) (numbers_at xs (line_in_tile line)))) ++ drop (at + unsigned_abs y / 8 * c.loop-k.k) code) back
    (c.loop-k.invariant.so_far xs (subst (λ (y : ℤ). HoldPixels (unsigned_abs y) c.args.numbers.now xs) (sym back) held)) in
    let all : c.loop-k.code ≡ take (at + b / 8 * line.count) (behind at code whole) ++ drop (at + b / 8 * line.count) code =
    so_far ∙ ap (λ n. take (at + b / 8 * n) (behind at code whole) ++ drop (at + b / 8 * n) code) done in
    let size : length whole ≡ b / 8 * line.count = bytes_len c.plain_law.ensures.len b line.in_tile line.step line.count xs (bits_of c.args.bitpix c.requires.size) in
    behind_all at (at + b / 8 * line.count) code whole c.loop-k.code room (omega (arith, size)) all
