-- The block that was read follows those before it, or is alone.
use Rattle.std.proofs.Common.{ℕ, List}
use Rattle.fz_block.proofs.Kept.{one_last, one_more}
use Rattle.fz_block.proofs.blocks.has_end.Goals as goal

pub returns-clause-kept : goal.returns-clause-kept
returns-clause-kept g c =
    let ys : List ℕ = c.read_block.new.block in
    one_more (g.S.Source.held c.args.source.now) c.args.start c.args.b c.min-at.result c.args.buf.now ys c.read_block.result
    c.min-at.ensures c.requires.room c.read_block.ensures.len c.read_block.ensures.read

pub returns-clause-last : goal.returns-clause-last
returns-clause-last g c =
    let ys : List ℕ = c.read_block.new.block in
    one_last (g.S.Source.held c.args.source.now) c.args.start c.args.b c.min-at.result c.args.buf.now ys c.read_block.result
    c.min-at.ensures c.requires.room c.read_block.ensures.len c.read_block.ensures.read
