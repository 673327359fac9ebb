use Rattle.std.proofs.Common.{sym, ap, ◌∙◌}
use Rattle.std.specs.Option.{option_copied}
use Rattle.fz_words.specs.Parts.{value_in}
use Rattle.fz_words.proofs.PartLemmas.{IsWord, no-value, values-next, values-end}
use Rattle.fz_words.proofs.line.Line.value.Goals as goal
use Rattle.fz_words.proofs.line.Line.value.Goals.{in-Some+else-is_some, in_default}

pub loop-word-preserved : goal.loop-word-preserved
loop-word-preserved c =
    let line = c.args.self.now in
    let i = c.loop-word.word-index in
    let text = c.as_str-word.result.now in
    let word : IsWord line.words.now i c.word-item.result text = record { within = c.loop-word-test.true; there = c.word-item.is; text_is = c.as_str-word.ensures.value } in
    let given = c.value_of.ensures ∙ ap (value_in c.args.option) c.part_of.ensures in
    let step = values-next c.args.option (option_copied c.loop-word.found) _ line.command c.loop-word.before.now line.words.now i c.word-item.result text (option_copied c.value_of.result) word given c.loop-word.invariant.1 in
    elim c.match-value_of.branch [
      | in-Some+else-is_some w ↦
          let none = no-value c.loop-word.found (sym w.is_some.ensures ∙ w.if-is_some.false) in
          rw (w.before-is, w.found-is) (c.as_str-word.utf8, rw (none, w.in-Some.is) at step)
      | in_default w ↦ rw (w.before-is, w.found-is) (c.as_str-word.utf8, rw w.in_default.is at step)
    ]

pub returns : goal.returns
returns c =
    let line = c.args.self.now in
    values-end c.args.option _ _ line.command c.loop-word.before.now line.words.now c.loop-word.word-index c.loop-word-test.false c.loop-word.invariant.1
