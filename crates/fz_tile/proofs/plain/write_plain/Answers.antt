-- At 64 bits the bytes of the pixels are those of their halves.
use Rattle.std.proofs.Common.{length, rules, ◌∙◌}
use Rattle.fz_tile.proofs.PlaceLemmas.{words_room, words_written}
use Rattle.fz_tile.proofs.plain.write_plain.Goals as goal

pub write_words-requires : goal.write_words-requires
write_words-requires c = record { room = words_room c.args.bitpix (length c.args.out.now) c.args.numbers.now c.requires.pixels.0 c.requires.size (search rules) (search rules) c.requires.pixels.1 c.requires.room }

pub returns-in_default : goal.returns-in_default
returns-in_default c = λ xs hold. c.write_words.ensures ∙ words_written c.args.bitpix c.args.numbers.now xs c.requires.size (search rules) (search rules) hold
