use Rattle.std.proofs.Common.{◌∙◌}
use Rattle.fz_pool.specs.declared.task.Task.TheVariants.{Encode}
use Rattle.fz_cases_codes.proofs.pool.put_tiles.Goals as goal

pub loop-i-preserved : goal.loop-i-preserved
loop-i-preserved c = let before = c.loop-i.invariant in let now = c.put_tile.ensures in let put = now.1 in
    (put.workers ∙ before.0, put.sizes ∙ before.1, c.put_law.ensures.ready Encode c.loop-i.i c.loop-i.window c.put_tile.new.window now.0 before.2 put now.2)
