-- The lines are those of the definition.
use Rattle.std.proofs.Common.{◌≡◌, ◌∙◌, rules}
use Rattle.std.specs.Prelude.{OnOk, OnErr}
use Rattle.fz_base.specs.Sink.{MayAppend, appended}
use Rattle.fz_files.specs.Drill.{drill_lines}
use Rattle.fz_drill.proofs.Drilled.{lines_are}
use Rattle.fz_drill.proofs.drilling.drill.Goals as goal

pub returns-clause-lines : goal.returns-clause-lines
returns-clause-lines g c =
    let lines : c.as_bytes.result.now ≡ drill_lines c.args.rows =
    c.as_bytes.ensures.value ∙ (c.as_str.ensures.value ∙ (c.lines_of.ensures ∙ lines_are c.args.rows c.in_ok-all.all c.in_ok-all.ensures.outcomes)) in
    let all : OnOk c.put.result (g.T.Text.contents c.put.new.self ≡ appended (drill_lines c.args.rows) (g.T.Text.contents c.args.text.now)) = rw lines at c.put.ensures.appended in
    let front : OnErr c.put.result (MayAppend (drill_lines c.args.rows) (g.T.Text.contents c.args.text.now) (g.T.Text.contents c.put.new.self)) = rw lines at c.put.ensures.partly in
    search rules
