-- The number of the two bytes is the word of its index.
use Rattle.std.proofs.Common.{◌≤◌, ◌-◌, ◌*◌, length, arith}
use Rattle.fz_plio.proofs.WordLemmas.{get_or-words, big-word}
use Rattle.fz_plio.proofs.word.word_at.Goals as goal

pub returns : goal.returns
returns c =
    let room : 2 ≤ length c.args.bytes.now - 2 * c.args.index = omega arith in
    let number = big-word c.args.index (length c.args.bytes.now - 2 * c.args.index) c.args.bytes.now room in
    omega (arith, c.read_u16.ensures, number, get_or-words c.args.index c.args.bytes.now c.requires)
