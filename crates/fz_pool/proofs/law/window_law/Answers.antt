use Rattle.std.proofs.Common.{sym, ◌∙◌}
use Rattle.fz_pool.proofs.CoreLemmas.{once_is, own_is, complete_is, ticket_is}
use Rattle.fz_pool.proofs.law.window_law.Goals as goal

pub returns : goal.returns
returns c = record {
  once = once_is;
  own_result = own_is;
  complete = complete_is;
  ticket = ticket_is;
  same = λ workers others count result es fs some more is are k near.
      (complete_is workers count result es some is).0 k near ∙ sym ((complete_is others count result fs more are).0 k near);
}
