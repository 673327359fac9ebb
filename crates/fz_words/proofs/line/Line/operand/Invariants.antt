use Rattle.std.proofs.Common.{◌≡◌, [], ◌++◌, drop}
use denote.Text.{Utf8}
use denote.Shadow.{shadow}
use Rattle.std.specs.Prelude.{slice_get}
use Rattle.fz_words.specs.Parts.{operands_in, parts_behind, texts_of}
use Rattle.fz_words.proofs.line.Line.operand.Given as goal

-- the operand is the one behind so many more of the words from this one on
abbrev pub invariant-loop-word : goal.invariant-loop-word
invariant-loop-word l =
    shadow (Utf8 l.before)
    × (slice_get (operands_in (parts_behind l.self.command [] (texts_of l.self.words.now)) ++ texts_of l.self.others.now) l.number ≡ slice_get (operands_in (parts_behind l.self.command l.before (texts_of (drop l.word-index l.self.words.now))) ++ texts_of l.self.others.now) l.left)
