-- The header of the part is made, and then written without byte 0.
use Rattle.std.proofs.Common.{ap, ◌∙◌, arith}
use Rattle.fz_base.specs.Sink.{written}
use Rattle.fz_cut.proofs.PartBytes.{behind_first}
use Rattle.fz_cut.proofs.file.write_header.Goals as goal

pub returns-clause-header : goal.returns-clause-header
returns-clause-header g c = record {
  contents = c.in_ok-write_behind.ensures.written
      ∙ ap (λ l. written 1 l (g.K.Sink.contents c.args.sink.now))
      (behind_first c.make_header-len.result c.make_header-len.new.out _ (omega (arith, c.make_header-len.ensures.some)) c.make_header-len.ensures.made);
  behind = omega (arith, c.make_header-len.ensures.size);
}

pub returns-clause-end : goal.returns-clause-end
returns-clause-end g c =
    (omega (arith, c.make_header-len.ensures.some), omega (arith, c.make_header-len.ensures.fits, c.requires.header.short))
