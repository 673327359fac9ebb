-- By what the run promises of the bytes, and of its end.
use Rattle.std.proofs.Common.{◌≡◌, ◌^◌, rules, refl}
use Rattle.std.specs.Prelude.{Some, IfOk, min}
use Rattle.fz_base.specs.Counts.{tally_of}
use Rattle.fz_words.specs.Parts.{texts_of}
use Rattle.fz_app.specs.Memory.{words_for}
use Rattle.fz_app.proofs.MemoryRuns.{Ran, cause_at, if_ok, makes_at}
use Rattle.fz_app.proofs.memory_run.run_between.Goals as goal

pub returns-in-Done-clause-makes : goal.returns-in-Done-clause-makes
returns-in-Done-clause-makes g c =
    let words : texts_of c.deref.result.now ≡ words_for c.args.command.now = search rules in
    let held : Some c.in_ok-source.source.bytes.items ≡ Some c.args.file.now = search rules in
    let got : IfOk c.map_err-in-Done.result (λ bytes. Some c.run-status.new.sink.sink.data.items ≡ Some bytes.items) = search rules in
    if_ok (λ bytes is.
    makes_at (texts_of c.deref.result.now) (words_for c.args.command.now) (Some c.in_ok-source.source.bytes.items) (Some c.run-status.new.sink.sink.data.items) c.args.file.now bytes.items c.run-status.new.sink.sink.finished
    words held is c.in-Done.ensures.output c.in-Done.ensures.first_fault)
    c.map_err-in-Done.result got

pub returns : goal.returns
returns g c =
    let words : texts_of c.deref.result.now ≡ words_for c.args.command.now = search rules in
    let held : Some c.in_ok-source.source.bytes.items ≡ Some c.args.file.now = search rules in
    let least : min c.new-meter.result.limit (2 ^ 32) ≡ 2 ^ 32 = search rules in
    let ends = c.run-status.ensures in
    record {
      makes = tt;
      cause = cause_at (texts_of c.deref.result.now) (words_for c.args.command.now) (Some c.in_ok-source.source.bytes.items) c.args.file.now (tally_of c.new-sink.result.sink.calls.counts) (tally_of c.run-status.new.sink.sink.calls.counts) _ _ _ _ c.new-meter.result.limit c.run-status.result words held least c.in_default.not-Done
          (record {
            usage = ends.usage;
            different = ends.different;
            fault = ends.first_fault;
            read = ends.read_fault;
            write = ends.write_fault;
            over = ends.over_limit;
          });
    }
