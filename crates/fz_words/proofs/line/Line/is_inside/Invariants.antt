use Rattle.std.proofs.Common.{◌≡◌, [], drop}
use denote.Text.{Utf8}
use denote.Shadow.{shadow}
use Rattle.std.specs.List.{list_all}
use Rattle.fz_words.specs.Parts.{is_inside, parts_behind, texts_of}
use Rattle.fz_words.proofs.line.Line.is_inside.Given as goal

-- the words from this one on are inside where all are
abbrev pub invariant-loop-word : goal.invariant-loop-word
invariant-loop-word l =
    shadow (Utf8 l.before)
    × (list_all is_inside (parts_behind l.self.command [] (texts_of l.self.words.now)) ≡ list_all is_inside (parts_behind l.self.command l.before (texts_of (drop l.word-index l.self.words.now))))
