use Rattle.std.proofs.Common.{◌≡◌, ℕ, Bool, List, replicate, sym, subst}
use Rattle.fz_bits.specs.Bits.{number_bits}
use Rattle.fz_rice.specs.Code.{row, differences}
use Rattle.fz_rice.specs.Writing.{Writes}
use Rattle.fz_rice.proofs.OnesLemmas.{zero_block}
use Rattle.fz_rice.proofs.full_block.write_full_block.Goals as goal

pub returns-then-repeats : goal.returns-then-repeats
returns-then-repeats g c =
    let w = g.row.W in
    let vs = differences w c.args.last c.args.numbers.now in
    let n = (row w).id_len in
    let r = c.write_number.result in
    let old = c.args.writer.now in
    let new = c.write_number.new.writer in
    let first : Writes r (number_bits n 0) old new = subst (λ (m : ℕ). Writes r (number_bits m 0) old new) c.id_len.ensures c.write_number.ensures in
    let zeros : vs ≡ replicate 32 0 = c.repeats.ensures c.if-repeats.true in
    subst (λ (x : List Bool). Writes r x old new) (sym (zero_block w vs zeros)) first
