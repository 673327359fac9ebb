-- What drill says of the meter that was narrowed, it says of the meter as it was before.
use Rattle.std.proofs.Common.{◌≡◌, min, refl, sym, ap, subst, rules}
use Rattle.fz_base.specs.Meter.{Gauge, narrowed}
use Rattle.fz_files.specs.declared.job.Job.{Job}
use Rattle.fz_app.specs.Ends.{Ends, TextIs}
use Rattle.fz_app.specs.Names.{JobNames}
use Rattle.fz_app.specs.Promised.{IsPromised}
use Rattle.fz_app.proofs.DrillAnswers.{drilled}
use Rattle.fz_app.proofs.run_job.run_drill.Goals as goal

pub returns : goal.returns
returns g c = record {
  promised = λ held ranges source sink empty.
      let meter : c.narrow.new.self ≡ narrowed c.args.meter.now c.args.request.now.memory = c.narrow.ensures in
      let limit : c.narrow.new.self.limit ≡ min c.args.meter.now.limit c.args.request.now.memory = ap (λ (m : Gauge). m.limit) meter in
      let none : c.narrow.new.self.peak ≡ 0 = search rules in
      let text : TextIs = record { contents = g.T.Text.contents c.args.text.now; tally = g.T.Text.tally c.args.text.now } in
      let text' : TextIs = record { contents = g.T.Text.contents c.drill.new.text; tally = g.T.Text.tally c.drill.new.text } in
      let old : Ends = record { held = held; ranges = ranges; source = source; sink = sink; text = text; meter = c.args.meter.now } in
      let new : Ends = record { held = held; ranges = ranges; source = source; sink = sink; text = text'; meter = c.drill.new.meter } in
      subst (λ (j : Job). IsPromised (record { job = j; workers = c.args.request.now.workers; strict = c.args.request.now.strict; memory = c.args.request.now.memory; input = c.args.request.now.input.now; output = c.args.request.now.output.now }) old new c.drill.result) (sym c.requires.job)
      (drilled c.args.rows c.args.request.now.workers c.args.request.now.strict c.args.request.now.memory c.args.request.now.input.now c.args.request.now.output.now held ranges source sink text text' c.args.meter.now c.drill.new.meter c.drill.result empty
      (record {
        lines = c.drill.ensures.lines;
        answered = rw limit at c.drill.ensures.answered;
        cause = rw limit at c.drill.ensures.cause;
        silent = rw limit at c.drill.ensures.silent;
        live = c.drill.ensures.buffers.live;
        limit_is = rw limit at c.drill.ensures.buffers.limit;
        peak = rw none at c.drill.ensures.buffers.peak;
        exact = rw none at c.drill.ensures.exact_peak;
        told = c.drill.ensures.told_contents;
      }));
  names = λ opened made. subst (λ (j : Job). JobNames (record { job = j; workers = c.args.request.now.workers; strict = c.args.request.now.strict; memory = c.args.request.now.memory; input = c.args.request.now.input.now; output = c.args.request.now.output.now }) opened opened made made c.drill.result) (sym c.requires.job) (record { source = refl; sink = refl });
}
