use Rattle.std.proofs.Common.{◌≡◌, ◌++◌, take, drop, sym, ap, ◌∙◌}
use Rattle.std.proofs.lemmas.List.{take-append-drop}
use Rattle.fz_bits.specs.Bits.{number_bits}
use Rattle.fz_bits.specs.Reader.{left}
use Rattle.fz_bits.proofs.ReaderLemmas.{pending_front}
use Rattle.fz_bits.proofs.reader.BitReader.get.Goals as goal

pub returns-clause-bits : goal.returns-clause-bits
returns-clause-bits c =
    let r = c.load.new.self in
    let width = c.args.width in
    let front : take width (left r) ≡ number_bits width c.first-value.result = sym (c.first-value.ensures.bits ∙ pending_front r width c.if-self-width.false) in
    sym c.load.ensures.unmoved.left ∙ sym (take-append-drop width (left r)) ∙ ap (λ l. l ++ drop width (left r)) front ∙ ap (λ l. number_bits width c.first-value.result ++ l) (sym c.skip.ensures.left)
