-- The two bytes of a word stand at its place.
use Rattle.std.proofs.Common.{◌≡◌, ℕ, ◌+◌, ◌-◌, ◌/◌, ◌%◌, ◌∙◌, List, [], ◌∷◌, length, take, drop, ap, arith}
use Rattle.fz_plio.specs.Words.{word_bytes}
use Rattle.fz_plio.proofs.WritingLemmas.{no_more, puts_word, length-overwritten, length-word_bytes}
use Rattle.fz_plio.proofs.list_writer.ListWriter.put_word.Goals as goal

pub returns-clause-puts : goal.returns-clause-puts
returns-clause-puts c =
    let old = c.args.self.now.out.now in
    let at = c.args.self.now.at in
    let word = c.args.word in
    let written : c.write_u16.new.buf ≡ (word / 256 % 256) ∷ (word % 256) ∷ drop 2 (take (at + 2 - at) (drop at old)) = c.write_u16.ensures in
    let alone = written ∙ ap (λ (rest : List ℕ). (word / 256 % 256) ∷ (word % 256) ∷ rest) (no_more old at) in
    let bytes = puts_word old c.write_u16.new.buf at word (omega arith) (omega arith) alone in
    record {
      len = ap length bytes ∙ length-overwritten at (word_bytes (word ∷ [])) old (omega (arith, length-word_bytes (word ∷ [])));
      place = omega arith;
      fits = omega arith;
      bytes = bytes;
      full = λ e. cc;
    }
