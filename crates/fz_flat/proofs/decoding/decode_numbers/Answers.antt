-- What the decoder says, of the BITPIX and the place that it was given.
use Rattle.std.proofs.Common.{◌≡◌, ℤ, length, w32, of_z, to_z}
use Rattle.fz_flat.proofs.DecodedLemmas.{back_of, decoded_as}
use Rattle.fz_flat.proofs.decoding.decode_numbers.Goals as goal

pub returns-clause-decodes : goal.returns-clause-decodes
returns-clause-decodes c =
    let p = c.args.plan.now in
    let z : ℤ = to_z w32 (of_z w32 p.bitpix) in
    let back : z ≡ p.bitpix = back_of p.bitpix c.requires.codec.size in
    decoded_as p c.args.found.now c.args.code.now (length c.args.numbers.now) c.decode_tile.new.numbers c.decode_tile.result z c.place_in.result back c.place_in.ensures c.decode_tile.ensures.pixels c.decode_tile.ensures.fault
