-- What first_part_mark ensures is what the answer says.
use Rattle.std.proofs.Common.{rules, refl}
use Rattle.std.specs.Int.{w32}
use Rattle.std.proofs.lemmas.Int.{to_z-of_z}
use Rattle.fz_c.specs.Asked.{codec_of, HasReader}
use Rattle.fz_c.specs.Parts.{CanReadOn}
use Rattle.fz_c.specs.Parts.FindsMark.{done, no_part, many_bytes}
use Rattle.fz_c.proofs.part.fz_first_mark.Goals as goal

pub returns-then-code-gt-MOST_BYTES-clause-answer : goal.returns-then-code-gt-MOST_BYTES-clause-answer
returns-then-code-gt-MOST_BYTES-clause-answer c =
    let codec : HasReader (codec_of c.args.codec c.args.block c.args.bytepix) c.args.bitpix c.in-Some.codec = search rules in
    many_bytes (search rules) c.in-Some.codec codec (search rules)

pub returns-in-Some-first_part_mark-clause-answer : goal.returns-in-Some-first_part_mark-clause-answer
returns-in-Some-first_part_mark-clause-answer c =
    let codec : HasReader (codec_of c.args.codec c.args.block c.args.bytepix) c.args.bitpix c.in-Some.codec = search rules in
    let can : CanReadOn (codec_of c.args.codec c.args.block c.args.bytepix) c.args.bitpix c.args.code.now c.in-Some.codec = record { codec_is = codec; most = search rules } in
    done refl c.in-Some.codec can c.in-Some-first_part_mark.ensures

pub returns-in-None-clause-answer : goal.returns-in-None-clause-answer
returns-in-None-clause-answer c =
    let codec : HasReader (codec_of c.args.codec c.args.block c.args.bytepix) c.args.bitpix c.in-Some.codec = search rules in
    let can : CanReadOn (codec_of c.args.codec c.args.block c.args.bytepix) c.args.bitpix c.args.code.now c.in-Some.codec = record { codec_is = codec; most = search rules } in
    let none = rw (to_z-of_z w32 c.args.bitpix c.ranges.bitpix) at c.in-None.ensures in
    no_part (search rules) c.in-Some.codec can none
