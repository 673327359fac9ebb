-- The promises are those of the answer to what the words ask for.
use Rattle.std.proofs.Common.{ap, subst, ℕ, ◌≤◌}
use Rattle.fz_words.specs.Parts.{texts_of}
use Rattle.fz_app.proofs.PatchRuns as runs
use Rattle.fz_app.proofs.patch_words.run_patch.Goals as goal

pub returns-clause-usage : goal.returns-clause-usage
returns-clause-usage g c = runs.usage _ _ _ _ _ _ _ _ _ (texts_of c.args.words.now) c.answer_to-status.result c.answer_to-status.ensures.promised _ _ _ c.answer_to-status.ensures.untouched c.answer_to-status.ensures.never_different

pub returns-clause-patched : goal.returns-clause-patched
returns-clause-patched g c = runs.patched _ _ _ _ _ _ _ _ _ (texts_of c.args.words.now) c.answer_to-status.result c.answer_to-status.ensures.promised

pub returns-clause-replaced : goal.returns-clause-replaced
returns-clause-replaced g c = runs.replaced _ _ _ _ _ _ _ _ _ (texts_of c.args.words.now) c.answer_to-status.result c.answer_to-status.ensures.promised c.whole_patch_law.ensures (g.met.D.Source.octets c.args.store.now) (g.met.S.Source.octets c.args.patch.now)

pub returns-clause-safe : goal.returns-clause-safe
returns-clause-safe g c = runs.safe _ _ _ _ _ _ _ _ _ (texts_of c.args.words.now) c.answer_to-status.result c.answer_to-status.ensures.promised

pub returns-clause-unwritten : goal.returns-clause-unwritten
returns-clause-unwritten g c = runs.unwritten _ _ _ _ _ _ _ _ _ (texts_of c.args.words.now) c.answer_to-status.result c.answer_to-status.ensures.promised

pub returns-clause-unread : goal.returns-clause-unread
returns-clause-unread g c = c.answer_to-status.ensures.unread

pub returns-clause-first_fault : goal.returns-clause-first_fault
returns-clause-first_fault g c = runs.first_fault _ _ _ _ _ _ _ _ _ (texts_of c.args.words.now) c.answer_to-status.result c.answer_to-status.ensures.promised

pub returns-clause-complete : goal.returns-clause-complete
returns-clause-complete g c = runs.complete _ _ _ _ _ _ _ _ _ (texts_of c.args.words.now) c.answer_to-status.result c.answer_to-status.ensures.promised

pub returns-clause-cause : goal.returns-clause-cause
returns-clause-cause g c = runs.cause _ _ _ _ _ _ _ _ _ (texts_of c.args.words.now) c.answer_to-status.result c.answer_to-status.ensures.promised c.takings_law.ensures.within c.patch_buffers_law.ensures

pub returns-clause-buffers : goal.returns-clause-buffers
returns-clause-buffers g c = runs.buffers _ _ _ _ _ _ _ _ _ (texts_of c.args.words.now) c.answer_to-status.result c.answer_to-status.ensures.promised (subst (λ (n : ℕ). n ≤ c.answer_to-status.new.meter.limit) c.peak-peak.ensures.value c.peak-peak.ensures.below_limit)

pub returns-clause-names : goal.returns-clause-names
returns-clause-names g c = runs.names _ _ _ _ _ _ _ _ _ (texts_of c.args.words.now) c.answer_to-status.result c.answer_to-status.ensures.promised

pub returns-clause-counts : goal.returns-clause-counts
returns-clause-counts g c =
    runs.counts _ _ _ _ _ _ _ _ _ (texts_of c.args.words.now) c.answer_to-status.result c.answer_to-status.ensures.promised _ _
    (λ is. ap (λ s. g.D.Source.tally s) (c.answer_to-status.ensures.untouched is).0)
    (λ is. ap (λ s. g.S.Source.tally s) (c.answer_to-status.ensures.untouched is).1)
    c.report.ensures.counts

pub returns-clause-kept : goal.returns-clause-kept
returns-clause-kept g c = c.answer_to-status.ensures.kept

pub returns-clause-given_touched : goal.returns-clause-given_touched
returns-clause-given_touched g c = c.answer_to-status.ensures.given_touched
