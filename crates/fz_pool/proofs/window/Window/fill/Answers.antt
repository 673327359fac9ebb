use Rattle.std.proofs.Common.{rules}
use Rattle.fz_pool.proofs.WindowLemmas.{refused_back}
use Rattle.fz_pool.proofs.window.Window.fill.Goals as goal

pub returns-then-is_err-clause-refused : goal.returns-then-is_err-clause-refused
returns-then-is_err-clause-refused c = refused_back c.args.meter.now _ _ _ _ c.args.n c.fill_slots-answer.new.slots.items _ (search rules) c.fill_slots-answer.ensures.refused c.give_slots.ensures.given
