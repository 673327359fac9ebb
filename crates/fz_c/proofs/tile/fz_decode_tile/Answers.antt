-- What decode_tile ensures, and each test, is what the answer says.
use Rattle.std.proofs.Common.{rules, ◌≡◌, length, refl, Some, None, pos, to_z, of_z}
use Rattle.std.specs.Int.{w32}
use Rattle.std.proofs.lemmas.Int.{to_z-of_z}
use Rattle.fz_c.specs.Asked.{codec_of, column_of, HasReader}
use Rattle.fz_c.specs.Tiles.{Decodes, IsTile, HasRead}
use Rattle.fz_c.specs.Tiles.Decodes.{done, refused, no_column, no_tile, few_bytes}
use Rattle.fz_c.proofs.TileLemmas.{IsReadLen, means, faulty}
use Rattle.fz_c.proofs.tile.fz_decode_tile.Goals as goal

pub returns-in_default-column_from : goal.returns-in_default-column_from
returns-in_default-column_from c =
    let codec : HasReader (codec_of c.args.codec c.args.block c.args.bytepix) c.args.bitpix c.in-Some.codec = search rules in
    let none : column_of c.args.column ≡ None = search rules in
    let answer : Decodes (codec_of c.args.codec c.args.block c.args.bytepix) c.args.bitpix (column_of c.args.column) c.args.code.now c.args.total (length c.args.numbers.now) c.args.numbers.now (to_z w32 (of_z w32 c.answer-in_default-column_from.result)) = no_column (search rules) c.in-Some.codec codec none in
    record { answer = answer }

pub returns-in_default-tile_pixels : goal.returns-in_default-tile_pixels
returns-in_default-tile_pixels c =
    let codec : HasReader (codec_of c.args.codec c.args.block c.args.bytepix) c.args.bitpix c.in-Some.codec = search rules in
    let column : column_of c.args.column ≡ Some c.in-Some-column_from.column = search rules in
    let answer : Decodes (codec_of c.args.codec c.args.block c.args.bytepix) c.args.bitpix (column_of c.args.column) c.args.code.now c.args.total (length c.args.numbers.now) c.args.numbers.now (to_z w32 (of_z w32 c.answer-in_default-tile_pixels.result)) = no_tile (search rules) c.in-Some.codec c.in-Some-column_from.column codec column (search rules) in
    record { answer = answer }

pub returns-then-code-len : goal.returns-then-code-len
returns-then-code-len c =
    let codec : HasReader (codec_of c.args.codec c.args.block c.args.bytepix) c.args.bitpix c.in-Some.codec = search rules in
    let column : column_of c.args.column ≡ Some c.in-Some-column_from.column = search rules in
    let tile : IsTile (codec_of c.args.codec c.args.block c.args.bytepix) c.args.bitpix (column_of c.args.column) (length c.args.numbers.now) c.in-Some.codec c.in-Some-column_from.column = record { codec_is = codec; column_is = column; tile = search rules } in
    let answer : Decodes (codec_of c.args.codec c.args.block c.args.bytepix) c.args.bitpix (column_of c.args.column) c.args.code.now c.args.total (length c.args.numbers.now) c.args.numbers.now (to_z w32 (of_z w32 c.answer-then-code-len.result)) = few_bytes (search rules) c.in-Some.codec c.in-Some-column_from.column tile (search rules) in
    record { answer = answer }

pub returns-in-Ok : goal.returns-in-Ok
returns-in-Ok c =
    let codec : HasReader (codec_of c.args.codec c.args.block c.args.bytepix) c.args.bitpix c.in-Some.codec = search rules in
    let column : column_of c.args.column ≡ Some c.in-Some-column_from.column = search rules in
    let tile : IsTile (codec_of c.args.codec c.args.block c.args.bytepix) c.args.bitpix (column_of c.args.column) (length c.args.numbers.now) c.in-Some.codec c.in-Some-column_from.column = record { codec_is = codec; column_is = column; tile = search rules } in
    let has : HasRead c.args.bitpix (length c.args.numbers.now) c.args.total c.args.code.now = search rules in
    let len : IsReadLen c.args.bitpix c.args.total (length c.args.numbers.now) c.record_len-len.result = search rules in
    let read = rw (to_z-of_z w32 c.args.bitpix c.ranges.bitpix) at c.in-Ok.ensures.pixels in
    let pixels = means c.in-Some.codec c.args.bitpix c.in-Some-column_from.column c.args.code.now c.args.total (length c.args.numbers.now) c.record_len-len.result c.decode_tile.new.numbers len read in
    let answer : Decodes (codec_of c.args.codec c.args.block c.args.bytepix) c.args.bitpix (column_of c.args.column) c.args.code.now c.args.total (length c.args.numbers.now) c.decode_tile.new.numbers (pos 0) = done refl c.in-Some.codec c.in-Some-column_from.column tile has pixels in
    record { answer = answer }

pub returns-in-Err : goal.returns-in-Err
returns-in-Err c =
    let codec : HasReader (codec_of c.args.codec c.args.block c.args.bytepix) c.args.bitpix c.in-Some.codec = search rules in
    let column : column_of c.args.column ≡ Some c.in-Some-column_from.column = search rules in
    let tile : IsTile (codec_of c.args.codec c.args.block c.args.bytepix) c.args.bitpix (column_of c.args.column) (length c.args.numbers.now) c.in-Some.codec c.in-Some-column_from.column = record { codec_is = codec; column_is = column; tile = search rules } in
    let has : HasRead c.args.bitpix (length c.args.numbers.now) c.args.total c.args.code.now = search rules in
    let len : IsReadLen c.args.bitpix c.args.total (length c.args.numbers.now) c.record_len-len.result = search rules in
    let faults = rw (to_z-of_z w32 c.args.bitpix c.ranges.bitpix) at c.in-Err.ensures.fault in
    let fault = faulty c.in-Some.codec c.args.bitpix c.in-Some-column_from.column c.args.code.now c.args.total (length c.args.numbers.now) c.record_len-len.result c.in-Err.fault len ((faults c.in-Err.fault).0 refl) in
    let answer : Decodes (codec_of c.args.codec c.args.block c.args.bytepix) c.args.bitpix (column_of c.args.column) c.args.code.now c.args.total (length c.args.numbers.now) c.decode_tile.new.numbers (to_z w32 (of_z w32 c.answer-in-Err.result)) = refused c.in-Err.fault (search rules) c.in-Some.codec c.in-Some-column_from.column tile has fault in
    record { answer = answer }
