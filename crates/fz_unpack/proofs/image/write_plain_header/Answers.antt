-- The header of the image is made, and then written.
use Rattle.std.proofs.Common.{ℕ, List, ap, ◌∙◌, arith}
use Rattle.fz_block.specs.Hdus.{cards_of}
use Rattle.fz_head.specs.PlainHeader.{plain_header}
use Rattle.fz_job.specs.Behind.{written_behind}
use Rattle.fz_unpack.proofs.ImageBytes.{some_header}
use Rattle.fz_unpack.proofs.image.write_plain_header.Goals as goal

pub returns-clause-header : goal.returns-clause-header
returns-clause-header g c = record {
  contents = c.in_ok-write_header.ensures.written ∙ ap (λ (l : List ℕ). written_behind c.args.at l (g.K.Sink.contents c.args.sink.now)) c.to_plain-len.ensures.written;
  behind = omega (arith, c.to_plain-len.ensures.size);
}

pub returns-clause-end : goal.returns-clause-end
returns-clause-end g c =
    let some = some_header (plain_header (cards_of c.args.buf.now)) in
    (omega (arith, some, c.to_plain-len.ensures.size), omega (arith, c.to_plain-len.ensures.fits, c.requires.header.short))
