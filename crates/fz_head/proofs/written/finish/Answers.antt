use Rattle.std.proofs.Common.{◌≡◌, ◌*◌, ◌+◌, arith}
use Rattle.fz_block.specs.Header.{whole_blocks_of}
use Rattle.fz_head.proofs.WrittenCards.{end-written}
use Rattle.fz_head.proofs.written.finish.Goals as goal

pub returns-clause-header : goal.returns-clause-header
returns-clause-header c = λ cards is.
    let size : c.div_ceil-end.result * 2880 ≡ whole_blocks_of (80 * (c.args.count + 1)) = omega (arith, c.div_ceil-end.ensures) in
    end-written cards c.args.count (c.div_ceil-end.result * 2880) c.args.out.now c.write_end.new.out c.write_blanks.new.out is size (omega (arith, c.requires, size)) (omega (arith, c.write_blanks.auto.out, c.write_end.auto.out)) c.write_end.ensures c.write_blanks.ensures
