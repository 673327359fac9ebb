-- One codec after another.
use Rattle.std.proofs.Common.{◌≡◌, ℕ, max, List, ◌++◌, length, refl, sym, ap, ◌∙◌, subst, rules}
use Rattle.std.specs.Prelude.{Err}
use Rattle.fz_base.specs.Takings.{highest}
use Rattle.fz_base.specs.declared.failure.Stop.{Stop}
use Rattle.fz_head.specs.declared.options.CodecWord.TheVariants as word
use Rattle.fz_files.specs.Buffers.{drill_takings}
use Rattle.fz_files.specs.Drill.{drill_file}
use Rattle.fz_drill.specs.Bound.{takings_of}
use Rattle.fz_drill.specs.Outcomes.{IsOutcome, Stops}
use Rattle.fz_drill.proofs.Takings.{at_limit, of_rows, peak_of_three, stops_first, stops_later, stops_none}
use Rattle.fz_pool.specs.Window.{IsEmpty, Pool}
use Rattle.fz_drill.proofs.codecs.try_codecs.Goals as goal

pub returns-clause-outcomes : goal.returns-clause-outcomes
returns-clause-outcomes g c =
    let same : c.in_ok-files.files.rows ≡ c.args.rows = search (rules, c.make_files.ensures, c.in_ok-files) in
    record {
      plain = search (rules, c.len.ensures, c.in_ok-files.files.plain_is, same);
      rice = subst (λ n. IsOutcome n word.Rice c.in_ok-rice.rice) same c.in_ok-rice.ensures.outcome;
      plio = subst (λ n. IsOutcome n word.Plio c.in_ok-plio.plio) same c.in_ok-plio.ensures.outcome;
      none = subst (λ n. IsOutcome n word.None c.in_ok-none.none) same c.in_ok-none.ensures.outcome;
    }

pub returns-in_err-rice-clause-stops : goal.returns-in_err-rice-clause-stops
returns-in_err-rice-clause-stops g c =
    let rows : ℕ = c.args.rows in
    let limit : ℕ = c.args.meter.now.limit in
    let rice : List (ℕ × ℕ) = drill_takings rows word.Rice in
    let plio : List (ℕ × ℕ) = drill_takings rows word.Plio in
    let none : List (ℕ × ℕ) = drill_takings rows word.None in
    let same : c.in_ok-files.files.rows ≡ rows = search rules in
    let stop : Stop = c.in_err-rice.field-0.0 in
    let is : c.from_residual-in_err-rice.result ≡ Err stop = search rules in
    subst (λ r. Stops rows (takings_of rows) limit r) (sym is)
    (stops_first c.takings_law.ensures.first rows limit rice (plio ++ none) _ _ stop (at_limit rows rice refl (of_rows word.Rice same c.in_err-rice.ensures.stops)))

pub returns-in_err-plio-clause-stops : goal.returns-in_err-plio-clause-stops
returns-in_err-plio-clause-stops g c =
    let rows : ℕ = c.args.rows in
    let limit : ℕ = c.args.meter.now.limit in
    let rice : List (ℕ × ℕ) = drill_takings rows word.Rice in
    let plio : List (ℕ × ℕ) = drill_takings rows word.Plio in
    let none : List (ℕ × ℕ) = drill_takings rows word.None in
    let same : c.in_ok-files.files.rows ≡ rows = search rules in
    let stop : Stop = c.in_err-plio.field-0.0 in
    let is : c.from_residual-in_err-plio.result ≡ Err stop = search rules in
    subst (λ r. Stops rows (takings_of rows) limit r) (sym is)
    (stops_later c.takings_law.ensures.second rows limit rice (plio ++ none) _ (Unit {0}) _ _ stop (at_limit rows rice refl (of_rows word.Rice same c.in_ok-rice.ensures.stops)) (stops_first c.takings_law.ensures.first rows limit plio none _ (Unit {0}) stop (at_limit rows plio c.in_ok-rice.ensures.kept.limit (of_rows word.Plio same c.in_err-plio.ensures.stops))))

pub returns-in_err-none-clause-stops : goal.returns-in_err-none-clause-stops
returns-in_err-none-clause-stops g c =
    let rows : ℕ = c.args.rows in
    let limit : ℕ = c.args.meter.now.limit in
    let rice : List (ℕ × ℕ) = drill_takings rows word.Rice in
    let plio : List (ℕ × ℕ) = drill_takings rows word.Plio in
    let none : List (ℕ × ℕ) = drill_takings rows word.None in
    let same : c.in_ok-files.files.rows ≡ rows = search (rules, c.make_files.ensures, c.in_ok-files) in
    let stop : Stop = c.in_err-none.field-0.0 in
    let is : c.from_residual-in_err-none.result ≡ Err stop = search rules in
    subst (λ r. Stops rows (takings_of rows) limit r) (sym is)
    (stops_later c.takings_law.ensures.second rows limit rice (plio ++ none) _ (Unit {0}) _ _ stop (at_limit rows rice refl (of_rows word.Rice same c.in_ok-rice.ensures.stops)) (stops_later c.takings_law.ensures.second rows limit plio none _ _ (Unit {0}) _ stop (at_limit rows plio c.in_ok-rice.ensures.kept.limit (of_rows word.Plio same c.in_ok-plio.ensures.stops)) (at_limit rows none (c.in_ok-plio.ensures.kept.limit ∙ c.in_ok-rice.ensures.kept.limit) (of_rows word.None same c.in_err-none.ensures.stops))))

pub returns-clause-stops : goal.returns-clause-stops
returns-clause-stops g c =
    let rows : ℕ = c.args.rows in
    let limit : ℕ = c.args.meter.now.limit in
    let rice : List (ℕ × ℕ) = drill_takings rows word.Rice in
    let plio : List (ℕ × ℕ) = drill_takings rows word.Plio in
    let none : List (ℕ × ℕ) = drill_takings rows word.None in
    let same : c.in_ok-files.files.rows ≡ rows = search (rules, c.make_files.ensures, c.in_ok-files) in
    stops_none c.takings_law.ensures.second rows limit rice (plio ++ none) _ _ _ _ _ _ (at_limit rows rice refl (of_rows word.Rice same c.in_ok-rice.ensures.stops)) (stops_none c.takings_law.ensures.second rows limit plio none _ _ (Unit {0}) _ _ tt (at_limit rows plio c.in_ok-rice.ensures.kept.limit (of_rows word.Plio same c.in_ok-plio.ensures.stops)) (at_limit rows none (c.in_ok-plio.ensures.kept.limit ∙ c.in_ok-rice.ensures.kept.limit) (of_rows word.None same c.in_ok-none.ensures.stops)))

pub returns-clause-exact_peak : goal.returns-clause-exact_peak
returns-clause-exact_peak g c =
    let rows : ℕ = c.args.rows in
    let same : c.in_ok-files.files.rows ≡ rows = search (rules, c.make_files.ensures, c.in_ok-files) in
    let first : c.try_codec.new.meter.peak ≡ max c.args.meter.now.peak (highest (drill_takings rows word.Rice)) =
    subst (λ n. c.try_codec.new.meter.peak ≡ max c.args.meter.now.peak (highest (drill_takings n word.Rice))) same c.in_ok-rice.ensures.exact_peak in
    let second : c.try_codec-2.new.meter.peak ≡ max c.try_codec.new.meter.peak (highest (drill_takings rows word.Plio)) =
    subst (λ n. c.try_codec-2.new.meter.peak ≡ max c.try_codec.new.meter.peak (highest (drill_takings n word.Plio))) same c.in_ok-plio.ensures.exact_peak in
    let third : c.try_codec-3.new.meter.peak ≡ max c.try_codec-2.new.meter.peak (highest (drill_takings rows word.None)) =
    subst (λ n. c.try_codec-3.new.meter.peak ≡ max c.try_codec-2.new.meter.peak (highest (drill_takings n word.None))) same c.in_ok-none.ensures.exact_peak in
    peak_of_three (drill_takings rows word.Rice) (drill_takings rows word.Plio) (drill_takings rows word.None) _ _ _ _ first second third

-- ---- each codec leaves what the next one asks for

pub try_codec-requires-2-clause-ready : goal.try_codec-requires-2-clause-ready
try_codec-requires-2-clause-ready g c = λ lifetimes lives.
    let kept = c.in_ok-rice.ensures.kept in
    record {
      live = kept.live;
      empty = subst IsEmpty (sym kept.window_is) c.requires.ready.empty;
      workers = ap (λ (w : Pool). w.workers) kept.window_is ∙ c.requires.ready.workers;
    }

pub try_codec-requires-3-clause-ready : goal.try_codec-requires-3-clause-ready
try_codec-requires-3-clause-ready g c = λ lifetimes lives.
    let kept = c.in_ok-plio.ensures.kept in
    let same : c.try_codec-2.new.window ≡ c.args.window.now = kept.window_is ∙ c.in_ok-rice.ensures.kept.window_is in
    record {
      live = kept.live;
      empty = subst IsEmpty (sym same) c.requires.ready.empty;
      workers = ap (λ (w : Pool). w.workers) same ∙ c.requires.ready.workers;
    }
