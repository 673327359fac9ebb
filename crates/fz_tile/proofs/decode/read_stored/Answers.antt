-- The record has the length of the plain bytes, and these were read.
use Rattle.std.proofs.Common.{◌≡◌, ◌*◌, ◌/◌, length, ap, ◌∙◌, rules, unsigned_abs}
use Rattle.std.specs.Int.{w32}
use Rattle.std.proofs.lemmas.Int.{to_z-of_z}
use Rattle.fz_tile.specs.Pixels.{pixel_count}
use Rattle.fz_tile.proofs.PlaceLemmas.{stored_read}
use Rattle.fz_tile.proofs.decode.read_stored.Goals as goal

pub returns : goal.returns
returns c =
    let b = unsigned_abs c.args.bitpix in
    let count = rw (to_z-of_z w32 c.args.bitpix c.ranges.bitpix) at c.pixels_in-pixels.ensures in
    let bytes = rw (to_z-of_z w32 c.args.bitpix c.ranges.bitpix) at c.plain_len.ensures in
    let same : c.args.total ≡ c.plain_len.result = search rules in
    let pixels = rw (to_z-of_z w32 c.args.bitpix c.ranges.bitpix) at c.read_plain.ensures.pixels in
    let read = rw (to_z-of_z w32 c.args.bitpix c.ranges.bitpix) at c.read_plain.ensures.bytes in
    stored_read b c.args.total (pixel_count b (length c.args.numbers.now)) c.args.code.now c.read_plain.new.numbers (same ∙ bytes ∙ ap (λ n. b / 8 * n) count) (pixels, read)
