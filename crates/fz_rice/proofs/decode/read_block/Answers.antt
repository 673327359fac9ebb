use Rattle.std.proofs.Common.{length, replicate, sym, ◌∙◌}
use Rattle.fz_bits.specs.Reader.{left}
use Rattle.fz_rice.proofs.BlockReaders.{values_at-zero}
use Rattle.fz_rice.proofs.HalfwayLemmas.{block_read, numbers_from-zeros, last_of-zeros}
use Rattle.fz_rice.proofs.decode.read_block.Goals as goal

pub returns-then-id-eq0-clause-numbers : goal.returns-then-id-eq0-clause-numbers
returns-then-id-eq0-clause-numbers g c =
    let w = g.row.W in
    let n = length c.args.numbers.now in
    let bits = left c.args.reader.now in
    let rest = left c.read_id.new.reader in
    record {
      values = replicate n 0;
      is = block_read w n c.in_ok-id.id bits rest c.in_ok-id.ensures.id ∙ values_at-zero w n c.in_ok-id.id rest c.if-id-eq0.true;
      numbers_are = c.repeat.ensures ∙ sym (numbers_from-zeros w c.args.last n c.requires.last);
      last_is = sym (last_of-zeros w c.args.last n c.requires.last);
    }
