-- What the decoder says, of the BITPIX and the place that it was given.
use Rattle.std.proofs.Common.{◌≡◌, ℕ, ℤ, length, unsigned_abs, w32, of_z, to_z, subst}
use Rattle.fz_tile.specs.Pixels.{pixel_count}
use Rattle.fz_tile.specs.declared.coded.Place2.{Place2}
use Rattle.fz_files.specs.Restored.{place_in}
use Rattle.fz_pixels.specs.Decoded.{Decodes}
use Rattle.fz_pixels.proofs.OneTile.{decoded_as}
use Rattle.fz_pixels.proofs.PartWrites.{back_of}
use Rattle.fz_pixels.proofs.one.decode_numbers.Goals as goal

pub returns : goal.returns
returns c =
    let p = c.args.plan.now in
    let z : ℤ = to_z w32 (of_z w32 p.bitpix) in
    let back : z ≡ p.bitpix = back_of p.bitpix c.requires.codec.size in
    let count : ℕ = length c.args.numbers.now in
    let total : ℕ = c.args.found.now.total in
    let raw = decoded_as p.codec (unsigned_abs z) c.place_in.result total (pixel_count (unsigned_abs z) count) c.args.code.now c.decode_tile.new.numbers c.decode_tile.result
    c.decode_tile.ensures.pixels c.decode_tile.ensures.fault in
    let placed = subst (λ (q : Place2). Decodes p.codec (unsigned_abs z) q total (pixel_count (unsigned_abs z) count) c.args.code.now c.decode_tile.new.numbers c.decode_tile.result) c.place_in.ensures raw in
    subst (λ (y : ℤ). Decodes p.codec (unsigned_abs y) (place_in c.args.found.now.column) total (pixel_count (unsigned_abs y) count) c.args.code.now c.decode_tile.new.numbers c.decode_tile.result) back placed
