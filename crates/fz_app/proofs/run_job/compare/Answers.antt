-- The line says whether the file is strict.
use Rattle.std.proofs.Common.{◌≡◌, rules}
use Rattle.fz_base.specs.Sink.{appended}
use Rattle.fz_app.specs.Lines.{strict_text}
use Rattle.fz_app.proofs.StrictLines.{whole_line}
use Rattle.fz_app.proofs.run_job.compare.Goals as goal

pub returns-clause-front : goal.returns-clause-front
returns-clause-front g c =
    let line : g.T.Text.contents c.put.new.self ≡ appended (strict_text c.in_ok-same.same) (g.T.Text.contents c.args.text.now) = search rules in
    whole_line (g.S.Source.held c.args.source.now) (g.T.Text.contents c.args.text.now) (g.T.Text.contents c.put.new.self) c.in_ok-same.same c.in_ok-same.ensures.right line
