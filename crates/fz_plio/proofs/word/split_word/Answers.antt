-- The first word, and the words of the bytes after it.
use Rattle.fz_plio.proofs.WordLemmas.{words-cons, get_or-words}
use Rattle.fz_plio.proofs.word.split_word.Goals as goal

pub returns-clause-words : goal.returns-clause-words
returns-clause-words c =
    let first = get_or-words 0 c.args.bytes.now c.requires in
    let all = words-cons c.args.bytes.now c.requires in
    cc
