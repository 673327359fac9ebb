-- The bytes written are those of the list.
use Rattle.std.proofs.Common.{length, subst, sym, ◌<◌, ℕ}
use Rattle.fz_tile.proofs.CodeLemmas.{line_written, line_full}
use Rattle.fz_tile.proofs.encode.write_line.Goals as goal

pub returns-in-Ok : goal.returns-in-Ok
returns-in-Ok c = line_written c.can_hold_law.ensures c.in-Ok.len c.args.numbers.now c.args.out.now c.encode.new.out c.in-Ok.ensures.in_range c.in-Ok.ensures.len c.in-Ok.ensures.list

pub returns-in-Err : goal.returns-in-Err
returns-in-Err c = λ bytes is.
    subst (λ (n : ℕ). n < length bytes) (sym c.encode.auto.out)
    (line_full c.can_hold_law.ensures (length c.args.out.now) c.args.numbers.now c.in-Err.field-0 c.in-Err.ensures.range c.in-Err.ensures.full bytes is)
