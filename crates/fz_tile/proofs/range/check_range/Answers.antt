-- Each size by itself.
use Rattle.std.proofs.Common.{sym, ◌∙◌, rules}
use Rattle.fz_tile.proofs.RangeLemmas.{in_bytes, in_shorts, in_words}
use Rattle.fz_tile.proofs.range.check_range.Goals as goal
use Rattle.fz_tile.proofs.range.check_range.Goals.{in-8, in-16, in_default}

pub returns-then-lawful : goal.returns-then-lawful
returns-then-lawful c = elim c.match-bitpix.branch [
  | in-8 w ↦ in_bytes c.args.bitpix c.args.numbers.now (search rules) (w.are_bytes-lawful.ensures.0 (sym w.lawful-is ∙ c.if-lawful.true))
  | in-16 w ↦ in_shorts c.args.bitpix c.args.numbers.now (search rules) (w.are_short-lawful.ensures.0 (sym w.lawful-is ∙ c.if-lawful.true))
  | in_default w ↦ in_words c.args.bitpix c.args.numbers.now c.requires.size (search rules) (search rules) c.requires.words
]
