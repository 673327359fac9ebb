use Rattle.std.proofs.Common.{rules, tests, ◌∙◌}
use Rattle.std.specs.Prelude.{string_bytes}
use Rattle.std.proofs.lemmas.Iterator.{YieldsList-from_slice}
use Rattle.std.proofs.lemmas.Iterator.Search.{position_from_yields_List}
use Rattle.fz_words.specs.Parts.{is_mark}
use Rattle.fz_words.proofs.WordLemmas.{position-map}
use Rattle.fz_words.proofs.line.mark_in.Goals as goal

pub returns : goal.returns
returns c =
    let words = c.args.words.now in
    position_from_yields_List (λ word. is_mark (string_bytes word)) _ _ c.position.result c.position.ensures.ran (YieldsList-from_slice words cc) (λ x b q k. search (rules, tests)) ∙ position-map string_bytes is_mark words
