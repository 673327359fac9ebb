-- A code that fits into one byte less than the plain bytes is shorter than these.
use Rattle.std.proofs.Common.{◌≡◌, ◌-◌, ◌*◌, ◌/◌, length, ap, ◌∙◌, unsigned_abs}
use Rattle.std.specs.Int.{w32}
use Rattle.std.proofs.lemmas.Int.{to_z-of_z}
use Rattle.fz_tile.specs.Pixels.{pixel_count}
use Rattle.fz_tile.proofs.EncodeLemmas.{code_written, plain_written, room_for}
use Rattle.fz_tile.proofs.encode.encode_tile.Goals as goal

pub returns-in-Some-clause-code : goal.returns-in-Some-clause-code
returns-in-Some-clause-code c =
    let len = c.plain_len-len.result in
    let count = rw (to_z-of_z w32 c.args.bitpix c.ranges.bitpix) at c.pixels_in-pixels.ensures in
    let bytes = rw (to_z-of_z w32 c.args.bitpix c.ranges.bitpix) at c.plain_len-len.ensures in
    let e : len ≡ unsigned_abs c.args.bitpix / 8 * pixel_count (unsigned_abs c.args.bitpix) (length c.args.numbers.now) = bytes ∙ ap (λ n. unsigned_abs c.args.bitpix / 8 * n) count in
    let room : length c.write_code.new.out ≡ len - 1 = c.write_code.auto.out ∙ room_for c.args.bitpix _ len c.args.out.now c.requires.codec.size e c.requires.room in
    λ xs hold. code_written c.args.codec c.args.bitpix c.args.numbers.now xs len c.in-Some.len c.write_code.new.out _ c.requires.codec hold e c.requires.tile.some room c.in-Some.ensures

pub returns-clause-code : goal.returns-clause-code
returns-clause-code c =
    let len = c.plain_len-len.result in
    let count = rw (to_z-of_z w32 c.args.bitpix c.ranges.bitpix) at c.pixels_in-pixels.ensures in
    let bytes = rw (to_z-of_z w32 c.args.bitpix c.ranges.bitpix) at c.plain_len-len.ensures in
    let e : len ≡ unsigned_abs c.args.bitpix / 8 * pixel_count (unsigned_abs c.args.bitpix) (length c.args.numbers.now) = bytes ∙ ap (λ n. unsigned_abs c.args.bitpix / 8 * n) count in
    let w = rw (to_z-of_z w32 c.args.bitpix c.ranges.bitpix) at c.write_plain.ensures in
    let room : length c.write_code.new.out ≡ len - 1 = c.write_code.auto.out ∙ room_for c.args.bitpix _ len c.args.out.now c.requires.codec.size e c.requires.room in
    λ xs hold. plain_written c.args.codec c.args.bitpix c.args.numbers.now xs len (length c.write_code.new.out) c.write_plain.new.out _ c.requires.codec hold e room c.in_default.ensures (w xs hold)
