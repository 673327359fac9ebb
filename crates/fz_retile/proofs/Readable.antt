-- A header that was read, and the image that stands in it (FITS 4.0, sections 3.3.1 and 10.1).
use Rattle.std.proofs.Common.{◌≡◌, ℕ, ◌+◌, ◌-◌, ◌*◌, ◌/◌, List, length, take, ap, ◌∙◌, arith}
use Rattle.fz_block.specs.Cards.{end_of}
use Rattle.fz_block.specs.Facts.{IsHeaderOf}
use Rattle.fz_block.specs.declared.header.Header.{Header}
use Rattle.fz_look.specs.Here.{IsReadHeader}

pub read_of : (header : List ℕ) (h : Header) → IsHeaderOf header h → IsReadHeader header h
read_of header h is =
    let blocks : h.blocks ≡ length header / 2880 = ap (λ (j : Header). j.blocks) is.facts in
    let some : h.blocks ≡ is.whole.before + 1 = omega (arith, blocks, is.whole.blocks) in
    record {
      some = omega (arith, some);
      blocks = omega (arith, some, is.whole.blocks);
      none = ap (λ n. end_of (take (2880 * n) header)) (omega (arith, some)) ∙ is.whole.none;
      has = is.whole.has;
      short = is.short;
      mandatory = is.mandatory;
      facts = is.facts;
    }
