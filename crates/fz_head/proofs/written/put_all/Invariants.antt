use Rattle.std.proofs.Common.{◌≡◌, ◌+◌, take}
use Rattle.fz_head.specs.Written.{Adds, card_list}
use Rattle.fz_head.proofs.written.put_all.Given as goal

abbrev pub invariant-loop-card : goal.invariant-loop-card
invariant-loop-card l = record {
  adds : Adds (card_list (take l.card-index l.cards)) l.fn.count l.fn.out l.written l.out;
  number : l.written ≡ l.fn.count + l.card-index;
}
