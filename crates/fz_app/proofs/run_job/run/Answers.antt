-- The promises are those of the answer to what the words ask for.
use Rattle.std.proofs.Common.{◌≡◌, ap}
use Rattle.fz_base.specs.Counts.{nameless}
use Rattle.fz_words.specs.Jobs.{job_of}
use Rattle.fz_words.specs.Parts.{texts_of}
use Rattle.fz_app.proofs.FirstBytes.{first_byte}
use Rattle.fz_app.proofs.Fronts.{front}
use Rattle.fz_app.proofs.Limits.{over_limit}
use Rattle.fz_app.proofs.RunPromises.{complete, counts, done, lines, refused, restored, unmade, usage_line, write_fault}
use Rattle.fz_app.proofs.Tallies.{kept_by}
use Rattle.fz_app.proofs.run_job.run.Goals as goal

pub returns-clause-restored : goal.returns-clause-restored
returns-clause-restored g c = restored c.round_trip_law.ensures (texts_of c.args.words.now) _ _ c.answer_to-status.result c.answer_to-status.ensures.promised

pub returns-clause-text : goal.returns-clause-text
returns-clause-text g c = record {
  between = record { contents = g.T.Text.contents c.answer_to-status.new.text; tally = g.T.Text.tally c.answer_to-status.new.text };
  lines = lines c.first_fault_law.ensures.only _ _ (job_of (texts_of c.args.words.now)) c.answer_to-status.result c.answer_to-status.ensures.promised (λ e. ap (λ x. record { contents = g.T.Text.contents x; tally = g.T.Text.tally x }) (c.answer_to-status.ensures.untouched e).2);
  front = front c.first_fault_law.ensures.some c.first_fault_law.ensures.only (job_of (texts_of c.args.words.now)) _ _ c.answer_to-status.result (g.met.S.Source.octets c.args.source.now) c.answer_to-status.ensures.promised;
  reported = c.answer_to-status.ensures.reported;
  line = c.report.ensures.line;
}

pub returns-clause-complete : goal.returns-clause-complete
returns-clause-complete g c = complete c.first_fault_law.ensures.only _ _ (texts_of c.args.words.now) c.answer_to-status.result (g.T.Text.tally c.report.new.text) c.report.ensures.counts c.answer_to-status.ensures.promised c.answer_to-status.ensures.ended

pub returns-clause-done : goal.returns-clause-done
returns-clause-done g c = done c.first_fault_law.ensures.only _ _ (job_of (texts_of c.args.words.now)) c.answer_to-status.result _ _ (g.T.Text.tally c.report.new.text) c.report.ensures.line c.answer_to-status.ensures.promised

pub returns-clause-refused : goal.returns-clause-refused
returns-clause-refused g c = refused c.first_fault_law.ensures.only _ _ (job_of (texts_of c.args.words.now)) c.answer_to-status.result c.answer_to-status.ensures.promised

pub returns-clause-write_fault : goal.returns-clause-write_fault
returns-clause-write_fault g c = write_fault c.first_fault_law.ensures.only _ _ (job_of (texts_of c.args.words.now)) c.answer_to-status.result (g.T.Text.tally c.report.new.text) c.report.ensures.counts c.answer_to-status.ensures.promised

pub returns-clause-counts : goal.returns-clause-counts
returns-clause-counts g c =
    counts (job_of (texts_of c.args.words.now)) _ _ c.answer_to-status.result c.answer_to-status.ensures.promised
    (λ e. kept_by _ _ (ap (λ s. nameless (g.S.Source.tally s)) (c.answer_to-status.ensures.untouched e).0))
    (λ e. kept_by _ _ (ap (λ k. nameless (g.K.Sink.tally k)) (c.answer_to-status.ensures.untouched e).1))
    (λ e. kept_by _ _ (ap g.T.Text.tally (c.answer_to-status.ensures.untouched e).2))
    (g.T.Text.tally c.report.new.text) c.report.ensures.counts

pub returns-clause-over_limit : goal.returns-clause-over_limit
returns-clause-over_limit g c = over_limit c.takings_law.ensures.within c.buffers_law.ensures.bounded (texts_of c.args.words.now) _ _ c.answer_to-status.result c.answer_to-status.ensures.promised

pub returns-clause-unmade : goal.returns-clause-unmade
returns-clause-unmade g c = unmade (texts_of c.args.words.now) _ _ c.answer_to-status.result c.answer_to-status.ensures.promised

pub returns-clause-first_byte : goal.returns-clause-first_byte
returns-clause-first_byte g c =
    first_byte _ _ (c.answer_to-status.new.sink ≡ c.args.sink.now) (ap g.K.Sink.contents) c.requires.empty (job_of (texts_of c.args.words.now)) c.answer_to-status.result
    c.answer_to-status.ensures.promised c.answer_to-status.ensures.ended c.answer_to-status.ensures.left (λ e. (c.answer_to-status.ensures.untouched e).1)

pub returns-clause-untouched : goal.returns-clause-untouched
returns-clause-untouched g c = record {
  by_usage = λ e.
      let same = c.answer_to-status.ensures.untouched e in
      (same.0, same.1, same.3, usage_line c.answer_to-status.result _ _ _ (ap (λ x. record { contents = g.T.Text.contents x; tally = g.T.Text.tally x }) same.2) e c.report.ensures.line);
  sink = c.answer_to-status.ensures.left;
  source = c.answer_to-status.ensures.unread;
}

pub returns-clause-names : goal.returns-clause-names
returns-clause-names g c = record {
  asked = c.answer_to-status.ensures.names;
  by_usage = λ e.
      let same = c.answer_to-status.ensures.untouched e in
      (ap (λ s. (g.S.Source.tally s).names) same.0, ap (λ k. (g.K.Sink.tally k).names) same.1);
}
