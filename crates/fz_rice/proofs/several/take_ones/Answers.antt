use Rattle.std.proofs.Common.{◌≡◌, take, drop, sym, ap, ◌∙◌, arith}
use Rattle.fz_bits.specs.Bits.{number_bits}
use Rattle.fz_bits.specs.Reader.{left}
use Rattle.fz_rice.proofs.OnesLemmas.{ones_taken}
use Rattle.fz_rice.proofs.several.take_ones.Goals as goal

pub returns-clause-ones : goal.returns-clause-ones
returns-clause-ones c =
    let old = c.args.reader.now in
    let ahead = c.load_word.new.self in
    let ready = c.ready.result in
    let word = c.word.result in
    let same : take ready (number_bits 64 word) ≡ take ready (left old) = ap (λ i. take i (number_bits 64 word)) c.ready.ensures.ready ∙ c.word.ensures ∙ ap (λ i. take i (left ahead)) (sym c.ready.ensures.ready) ∙ ap (take ready) c.load_word.ensures.unmoved.left in
    ones_taken c.min-taken.result ready c.ones_of.result word (left old) (left c.skip.new.self) (omega arith) (omega arith) same c.ones_of.ensures.ones (c.skip.ensures.left ∙ ap (drop c.min-taken.result) c.load_word.ensures.unmoved.left)
