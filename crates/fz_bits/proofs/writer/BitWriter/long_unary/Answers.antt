use Rattle.std.proofs.Common.{◌≡◌, ◌+◌, ◌*◌, ◌%◌, true, false, [], ◌∷◌, ◌++◌, length, replicate, ap, ◌∙◌, arith, length-append}
use Rattle.std.proofs.lemmas.Nat.{pow_below}
use Rattle.fz_bits.specs.Bits.{number_bits}
use Rattle.fz_bits.specs.Writer.{written, buffer}
use Rattle.fz_bits.proofs.WriterLemmas.{zeros_more, one_more, SameBehind-more}
use Rattle.fz_bits.proofs.writer.BitWriter.long_unary.Goals as goal

pub loop-word-preserved : goal.loop-word-preserved
loop-word-preserved c =
    let old = c.args.self.now in
    let was = c.loop-word.self in
    let now = c.push.new.self in
    let kept = c.loop-word.invariant in
    let next : 32 * c.loop-word._word + 32 ≡ 32 * (c.loop-word._word + 1) = omega arith in
    let longer = ap length c.push.ensures.ok ∙ length-append (written was) (number_bits 32 0) in
    record {
      same = c.push.ensures.same ∙ kept.same;
      room = c.push.ensures.room ∙ kept.room;
      zeros = c.push.ensures.ok ∙ ap (λ bits. bits ++ number_bits 32 0) kept.zeros ∙ zeros_more (written old) (32 * c.loop-word._word) 32 ∙ ap (λ k. written old ++ replicate k false) next;
      behind = c.push.ensures.behind ∙ SameBehind-more (length (written was)) (length (written now)) (buffer old) (buffer was) (omega (arith, longer)) kept.behind;
    }

pub push-requires-2-clause-fits : goal.push-requires-2-clause-fits
push-requires-2-clause-fits c = pow_below 0 (c.args.zeros % 32 + 1) (omega arith)

pub returns-clause-ok : goal.returns-clause-ok
returns-clause-ok c =
    let old = c.args.self.now in
    let all : 32 * c.loop-word._word + c.args.zeros % 32 ≡ c.args.zeros = omega arith in
    c.push-2.ensures.ok ∙ ap (λ bits. bits ++ number_bits (c.args.zeros % 32 + 1) 1) c.loop-word.invariant.zeros ∙ one_more (written old) (32 * c.loop-word._word) (c.args.zeros % 32) ∙ ap (λ k. written old ++ (replicate k false ++ true ∷ [])) all

pub returns-clause-behind : goal.returns-clause-behind
returns-clause-behind c =
    let old = c.args.self.now in
    let was = c.loop-word.self in
    let now = c.push-2.new.self in
    let longer = ap length c.push-2.ensures.ok ∙ length-append (written was) (number_bits (c.args.zeros % 32 + 1) 1) in
    c.push-2.ensures.behind ∙ SameBehind-more (length (written was)) (length (written now)) (buffer old) (buffer was) (omega (arith, longer)) c.loop-word.invariant.behind
