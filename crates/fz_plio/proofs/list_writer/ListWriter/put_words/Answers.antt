-- One more word is put.
use Rattle.std.proofs.Common.{◌≡◌, ◌+◌, [], ◌∷◌, ◌++◌, ◌∙◌, take, drop, get_or, sym, ap, refl, arith, ℕ, List}
use Rattle.std.proofs.lemmas.List.{take_more, take-append-drop}
use Rattle.std.proofs.lemmas.Result.{err_from_is_err_and}
use Rattle.fz_plio.proofs.WritingLemmas.{puts_nothing, puts_then, puts_stop}
use Rattle.fz_plio.proofs.list_writer.ListWriter.put_words.Goals as goal

pub loop-word-init : goal.loop-word-init
loop-word-init c = record {
  same = refl;
  puts = puts_nothing c.args.self.now.out.now c.args.self.now.at tt c.args.self.now.within;
}

pub loop-word-preserved : goal.loop-word-preserved
loop-word-preserved c =
    let words = c.args.words.now in
    let index = c.loop-word.word-index in
    let more = take_more words index 0 (omega arith) in
    record {
      same = c.put_word.ensures.same ∙ c.loop-word.invariant.same;
      puts = rw more (puts_then _ _ _ _ _ _ (take index words) _ _ _ c.loop-word.invariant.puts c.in_ok-put_word.ensures.puts);
    }

pub returns-in_err-put_word-clause-puts : goal.returns-in_err-put_word-clause-puts
returns-in_err-put_word-clause-puts c =
    let p = err_from_is_err_and c.from_residual.result c.from_residual.ensures.1 in
    let words = c.args.words.now in
    let index = c.loop-word.word-index in
    let split : take index words ++ get_or words index 0 ∷ [] ++ drop (index + 1) words ≡ words =
    ap (λ (ws : List ℕ). ws ++ drop (index + 1) words) (sym (take_more words index 0 (omega arith))) ∙ take-append-drop (index + 1) words in
    rw p.1 (rw (← split) (puts_stop _ _ _ _ _ (take index words ++ get_or words index 0 ∷ []) (drop (index + 1) words) _ _
    (puts_then _ _ _ _ _ _ (take index words) _ _ _ c.loop-word.invariant.puts c.in_err-put_word.ensures.puts)))
