-- The mark at the place of the tile is its own, if the number of the tile is there.
use Rattle.std.proofs.Common.{◌≡◌, ◌+◌, ◌≤◌, length, ◌∙◌, arith}
use Rattle.fz_look.specs.Marked.{word_at}
use Rattle.fz_look.proofs.Marking.{kept_at}
use Rattle.fz_look.proofs.marked.mark_before.Goals as goal

pub returns-clause-kept : goal.returns-clause-kept
returns-clause-kept c =
    let m = c.mark_at-mark.ensures in
    let room : 4 ≤ length c.args.table.now = omega arith in
    let tile : word_at c.args.table.now c.place_of-at.result ≡ c.args.tile + 1 = c.word.ensures.word ∙ omega arith in
    kept_at c.args.table.now c.args.tile c.place_of-at.result c.mark_at-mark.result c.place_of-at.ensures.place room tile m.pixel m.bit m.last
