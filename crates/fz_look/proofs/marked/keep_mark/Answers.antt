-- Four places are written; those of other marks are apart from them.
use Rattle.std.proofs.Common.{◌≡◌, length, ◌∙◌}
use Rattle.fz_look.proofs.Marking.{keeps_none, keeps_put}
use Rattle.fz_look.proofs.marked.keep_mark.Goals as goal

pub returns-then-not-has_room-clause-kept : goal.returns-then-not-has_room-clause-kept
returns-then-not-has_room-clause-kept c = keeps_none c.args.tile c.args.mark c.args.table.now

pub returns-clause-kept : goal.returns-clause-kept
returns-clause-kept c =
    let long : length c.put_word-4.new.table ≡ length c.args.table.now = c.put_word-4.ensures.len ∙ c.put_word-3.ensures.len ∙ c.put_word-2.ensures.len ∙ c.put_word.ensures.len in
    keeps_put c.args.table.now c.put_word.new.table c.put_word-2.new.table c.put_word-3.new.table c.put_word-4.new.table c.args.tile c.place_of-at.result c.args.mark long c.place_of-at.ensures.place
    c.put_word.ensures.word c.put_word-2.ensures.word c.put_word-3.ensures.word c.put_word-4.ensures.word
    c.put_word.ensures.others c.put_word-2.ensures.others c.put_word-3.ensures.others c.put_word-4.ensures.others
