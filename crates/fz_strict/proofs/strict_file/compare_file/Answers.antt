-- The options are found, and then the HDUs are compared.
use Rattle.std.proofs.Common.{◌≡◌, ℕ, Bool, List, Option, IfSome, Result, Err, sym, ap, ◌∙◌, subst, rules}
use Rattle.fz_base.specs.Counts.{Tally}
use Rattle.fz_base.specs.Stop.{IfRefused}
use Rattle.fz_base.specs.declared.failure.Stop.{Stop}
use Rattle.fz_files.specs.declared.job.Job.TheVariants.{Verify}
use Rattle.fz_job.specs.Clauses.{ComesLate}
use Rattle.fz_fetch.specs.Stops.{Fetches}
use Rattle.fz_compare.specs.Reads.{ReadsKnown}
use Rattle.fz_strict.specs.Rows.{ComparesFound, ComparesSeen}
use Rattle.fz_strict.proofs.FoundThere.{changed_late, finds_fetch, found_compared, stopped_compared}
use Rattle.fz_strict.proofs.ReadHdus.{options_read, then_compared}
use Rattle.fz_strict.proofs.strict_file.compare_file.Goals as goal

pub returns-in_err-options-clause-compared : goal.returns-in_err-options-clause-compared
returns-in_err-options-clause-compared g c =
    let held : Option (List ℕ) = g.S.Source.held c.args.source.now in
    let stopped : c.from_residual.result ≡ Err c.in_err-options.field-0.0 = search rules in
    subst (λ (r : Result Bool Stop). IfSome held (λ file. ComparesFound file c.args.survey.now r)) (sym stopped) (stopped_compared held c.args.survey.now c.in_err-options.field-0.0 c.in_err-options.ensures.options)

pub returns-in_err-options-clause-late : goal.returns-in_err-options-clause-late
returns-in_err-options-clause-late g c =
    let stopped : c.from_residual.result ≡ Err c.in_err-options.field-0.0 = search rules in
    subst (λ (r : Result Bool Stop). IfRefused r (ComesLate Verify)) (sym stopped) (changed_late c.in_err-options.field-0.0 c.in_err-options.ensures.changed)

pub returns-in_err-options-clause-cause : goal.returns-in_err-options-clause-cause
returns-in_err-options-clause-cause g c =
    let stopped : c.from_residual.result ≡ Err c.in_err-options.field-0.0 = search rules in
    let before : Tally = g.S.Source.tally c.args.source.now in
    let now : Tally = g.S.Source.tally c.find_options.new.source in
    subst (λ (r : Result Bool Stop). Fetches before now r) (sym stopped) (finds_fetch before now c.in_err-options.field-0.0 c.in_err-options.ensures.cause)

pub returns-clause-compared : goal.returns-clause-compared
returns-clause-compared g c =
    let held : Option (List ℕ) = g.S.Source.held c.args.source.now in
    let same : g.S.Source.held c.find_options.new.source ≡ held = c.in_ok-options.ensures.stays.0.held_is in
    let compared : IfSome held (λ file. ComparesSeen c.in_ok-options.options file c.args.survey.now c.compare_hdus.result) = rw same at c.compare_hdus.ensures.compared in
    found_compared held c.args.survey.now c.in_ok-options.options c.compare_hdus.result c.in_ok-options.ensures.options compared

pub returns-in_err-options-clause-read : goal.returns-in_err-options-clause-read
returns-in_err-options-clause-read g c =
    options_read c.args.survey.now (g.S.Source.ranges c.args.source.now) (g.S.Source.held c.args.source.now) (g.S.Source.ranges c.find_options.new.source) c.in_err-options.ensures.read

pub returns-clause-read : goal.returns-clause-read
returns-clause-read g c =
    let held : Option (List ℕ) = g.S.Source.held c.args.source.now in
    let old : Option (List (ℕ × ℕ)) = g.S.Source.ranges c.args.source.now in
    let mid : Option (List (ℕ × ℕ)) = g.S.Source.ranges c.find_options.new.source in
    let new : Option (List (ℕ × ℕ)) = g.S.Source.ranges c.compare_hdus.new.source in
    let same : g.S.Source.held c.find_options.new.source ≡ held = c.in_ok-options.ensures.stays.0.held_is in
    let next : IfSome held (λ file. ReadsKnown file c.args.survey.now mid new) = rw same at c.compare_hdus.ensures.read in
    then_compared c.args.survey.now old c.ranges_law.ensures.join held mid new c.in_ok-options.ensures.read next
