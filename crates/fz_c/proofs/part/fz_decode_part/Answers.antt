-- What decode_part ensures is what the answer says.
use Rattle.std.proofs.Common.{rules, refl}
use Rattle.std.specs.Int.{w32}
use Rattle.std.proofs.lemmas.Int.{to_z-of_z}
use Rattle.fz_c.specs.Asked.{codec_of, HasReader}
use Rattle.fz_c.specs.Parts.{CanReadOn}
use Rattle.fz_c.specs.Parts.ReadsNext.{done, no_part, many_bytes}
use Rattle.fz_c.proofs.part.fz_decode_part.Goals as goal

pub returns-then-code-gt-MOST_BYTES-clause-answer : goal.returns-then-code-gt-MOST_BYTES-clause-answer
returns-then-code-gt-MOST_BYTES-clause-answer c =
    let codec : HasReader (codec_of c.args.codec c.args.block c.args.bytepix) c.args.bitpix c.in-Some.codec = search rules in
    many_bytes (search rules) c.in-Some.codec codec (search rules)

pub returns-in-Some-decode_part-clause-answer : goal.returns-in-Some-decode_part-clause-answer
returns-in-Some-decode_part-clause-answer c =
    let codec : HasReader (codec_of c.args.codec c.args.block c.args.bytepix) c.args.bitpix c.in-Some.codec = search rules in
    let can : CanReadOn (codec_of c.args.codec c.args.block c.args.bytepix) c.args.bitpix c.args.code.now c.in-Some.codec = record { codec_is = codec; most = search rules } in
    let part = rw (to_z-of_z w32 c.args.bitpix c.ranges.bitpix) at c.in-Some-decode_part.ensures.part in
    let range = rw (to_z-of_z w32 c.args.bitpix c.ranges.bitpix) at c.in-Some-decode_part.ensures.range in
    done refl c.in-Some.codec can part range c.in-Some-decode_part.ensures.place

pub returns-in-None-clause-answer : goal.returns-in-None-clause-answer
returns-in-None-clause-answer c =
    let codec : HasReader (codec_of c.args.codec c.args.block c.args.bytepix) c.args.bitpix c.in-Some.codec = search rules in
    let can : CanReadOn (codec_of c.args.codec c.args.block c.args.bytepix) c.args.bitpix c.args.code.now c.in-Some.codec = record { codec_is = codec; most = search rules } in
    let part = rw (to_z-of_z w32 c.args.bitpix c.ranges.bitpix) at c.in-None.ensures.part in
    no_part (search rules) c.in-Some.codec can part
