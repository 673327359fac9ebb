use Rattle.std.proofs.Common.{◌≡◌, [], drop}
use denote.Text.{Utf8}
use denote.Shadow.{shadow}
use Rattle.std.specs.List.{cons_option}
use Rattle.std.specs.Option.{option_copied}
use Rattle.fz_words.specs.Parts.{parts_behind, texts_of, values_in}
use Rattle.fz_words.proofs.line.Line.value.Given as goal

-- the values are what was found and those of the words from this one on
abbrev pub invariant-loop-word : goal.invariant-loop-word
invariant-loop-word l =
    shadow (Utf8 l.before)
    × (values_in l.option (parts_behind l.self.command [] (texts_of l.self.words.now)) ≡ cons_option (option_copied l.found) (values_in l.option (parts_behind l.self.command l.before (texts_of (drop l.word-index l.self.words.now)))))
