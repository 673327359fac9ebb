-- What encode_tile ensures, and each test, is what the answer says.
use Rattle.std.proofs.Common.{rules, ◌≡◌, length, refl, Some, unsigned_abs}
use Rattle.std.specs.Int.{w32}
use Rattle.std.proofs.lemmas.Int.{to_z-of_z}
use Rattle.fz_c.specs.Asked.{codec_of, column_of, HasWriter, HoldSome}
use Rattle.fz_c.specs.Tiles.{CanEncode, HasRoom}
use Rattle.fz_c.specs.Tiles.Encodes.{done, no_tile, no_room, out_of_range}
use Rattle.fz_c.proofs.tile.fz_encode_tile.Goals as goal

pub returns-in_default-tile_pixels-clause-answer : goal.returns-in_default-tile_pixels-clause-answer
returns-in_default-tile_pixels-clause-answer c =
    let codec : HasWriter (codec_of c.args.codec c.args.block c.args.bytepix) c.args.bitpix c.in-Some.codec = search rules in
    no_tile (search rules) c.in-Some.codec codec (search rules)

pub returns-then-out-room_for-clause-answer : goal.returns-then-out-room_for-clause-answer
returns-then-out-room_for-clause-answer c =
    let codec : HasWriter (codec_of c.args.codec c.args.block c.args.bytepix) c.args.bitpix c.in-Some.codec = search rules in
    let can : CanEncode (codec_of c.args.codec c.args.block c.args.bytepix) c.args.bitpix (length c.args.numbers.now) c.in-Some.codec = record { codec_is = codec; tile = search rules } in
    no_room (search rules) c.in-Some.codec can (search rules)

pub returns-then-not-hold_pixels-clause-answer : goal.returns-then-not-hold_pixels-clause-answer
returns-then-not-hold_pixels-clause-answer c =
    let codec : HasWriter (codec_of c.args.codec c.args.block c.args.bytepix) c.args.bitpix c.in-Some.codec = search rules in
    let can : CanEncode (codec_of c.args.codec c.args.block c.args.bytepix) c.args.bitpix (length c.args.numbers.now) c.in-Some.codec = record { codec_is = codec; tile = search rules } in
    let room : HasRoom c.args.bitpix (length c.args.numbers.now) (length c.args.out.now) = search rules in
    out_of_range (search rules) c.in-Some.codec can room (search rules)

pub returns-clause-answer : goal.returns-clause-answer
returns-clause-answer c =
    let codec : HasWriter (codec_of c.args.codec c.args.block c.args.bytepix) c.args.bitpix c.in-Some.codec = search rules in
    let can : CanEncode (codec_of c.args.codec c.args.block c.args.bytepix) c.args.bitpix (length c.args.numbers.now) c.in-Some.codec = record { codec_is = codec; tile = search rules } in
    let room : HasRoom c.args.bitpix (length c.args.numbers.now) (length c.args.out.now) = search rules in
    let held : HoldSome (unsigned_abs c.args.bitpix) c.args.numbers.now = search rules in
    let column : column_of c.number_of.result ≡ Some c.encode_tile-place.result.place = search rules in
    let code = rw (to_z-of_z w32 c.args.bitpix c.ranges.bitpix) at c.encode_tile-place.ensures.code in
    done refl c.in-Some.codec c.encode_tile-place.result.place can room held column code
