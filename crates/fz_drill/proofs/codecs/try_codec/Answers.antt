-- One job after another.
use Rattle.std.proofs.Common.{◌≡◌, ℕ, max, List, ◌++◌, sym, ap, ◌∙◌, subst, rules}
use Rattle.std.specs.Prelude.{None, Err}
use Rattle.fz_base.specs.Takings.{highest}
use Rattle.fz_base.specs.declared.failure.Stop.{Stop}
use Rattle.fz_files.specs.Buffers.{drill_takings, file_takings}
use Rattle.fz_files.specs.Drill.{drill_file, drill_options, drill_packed, drill_sieve}
use Rattle.fz_files.specs.declared.job.Job.TheVariants.{Cut, Pack, Unpack}
use Rattle.fz_drill.specs.Outcomes.{Stops}
use Rattle.fz_drill.proofs.Takings.{at_limit, of_file, peak_of_three, stops_first, stops_later, stops_none}
use Rattle.fz_pool.specs.Window.{IsEmpty, Pool}
use Rattle.fz_drill.proofs.codecs.try_codec.Goals as goal

pub returns-in_err-packed-clause-stops : goal.returns-in_err-packed-clause-stops
returns-in_err-packed-clause-stops g c =
    let rows : ℕ = c.args.files.now.rows in
    let packed : List ℕ = drill_packed rows c.args.codec in
    let limit : ℕ = c.args.meter.now.limit in
    let stop : Stop = c.in_err-packed.field-0.0 in
    let is : c.from_residual.result ≡ Err stop = search rules in
    subst (λ r. Stops rows (drill_takings rows c.args.codec) limit r) (sym is)
    (stops_first c.takings_law.ensures.first rows limit (file_takings (Pack (drill_options c.args.codec)) (drill_file rows) 4) (file_takings Unpack packed 4 ++ file_takings (Cut None (drill_sieve rows)) packed 4) _ _ stop c.in_err-packed.ensures.stops)

pub returns-in_err-unpacked-clause-stops : goal.returns-in_err-unpacked-clause-stops
returns-in_err-unpacked-clause-stops g c =
    let rows : ℕ = c.args.files.now.rows in
    let packed : List ℕ = drill_packed rows c.args.codec in
    let limit : ℕ = c.args.meter.now.limit in
    let stop : Stop = c.in_err-unpacked.field-0.0 in
    let is : c.from_residual-in_err-unpacked.result ≡ Err stop = search rules in
    let same : c.packed_by.new.meter.limit ≡ limit = c.in_ok-packed.ensures.kept.limit in
    let file : c.deref.result.now ≡ packed = search rules in
    subst (λ r. Stops rows (drill_takings rows c.args.codec) limit r) (sym is)
    (stops_later c.takings_law.ensures.second rows limit (file_takings (Pack (drill_options c.args.codec)) (drill_file rows) 4) (file_takings Unpack packed 4 ++ file_takings (Cut None (drill_sieve rows)) packed 4) _ (Unit {0}) _ _ stop c.in_ok-packed.ensures.stops
    (stops_first c.takings_law.ensures.first rows limit (file_takings Unpack packed 4) (file_takings (Cut None (drill_sieve rows)) packed 4) _ (Unit {0}) stop
    (at_limit rows (file_takings Unpack packed 4) same (of_file rows (λ f. file_takings Unpack f 4) file c.in_err-unpacked.ensures.stops))))

pub returns-in_err-cut-clause-stops : goal.returns-in_err-cut-clause-stops
returns-in_err-cut-clause-stops g c =
    let rows : ℕ = c.args.files.now.rows in
    let packed : List ℕ = drill_packed rows c.args.codec in
    let limit : ℕ = c.args.meter.now.limit in
    let stop : Stop = c.in_err-cut.field-0.0 in
    let is : c.from_residual-in_err-cut.result ≡ Err stop = search rules in
    let same : c.packed_by.new.meter.limit ≡ limit = c.in_ok-packed.ensures.kept.limit in
    let also : c.unpacks_to_file.new.meter.limit ≡ limit = c.in_ok-unpacked.ensures.kept.limit ∙ same in
    let file : c.deref.result.now ≡ packed = search rules in
    let again : c.deref-2.result.now ≡ packed = search rules in
    subst (λ r. Stops rows (drill_takings rows c.args.codec) limit r) (sym is)
    (stops_later c.takings_law.ensures.second rows limit (file_takings (Pack (drill_options c.args.codec)) (drill_file rows) 4) (file_takings Unpack packed 4 ++ file_takings (Cut None (drill_sieve rows)) packed 4) _ (Unit {0}) _ _ stop c.in_ok-packed.ensures.stops
    (stops_later c.takings_law.ensures.second rows limit (file_takings Unpack packed 4) (file_takings (Cut None (drill_sieve rows)) packed 4) _ _ (Unit {0}) _ stop
    (at_limit rows (file_takings Unpack packed 4) same (of_file rows (λ f. file_takings Unpack f 4) file c.in_ok-unpacked.ensures.stops))
    (at_limit rows (file_takings (Cut None (drill_sieve rows)) packed 4) also (of_file rows (λ f. file_takings (Cut None (drill_sieve rows)) f 4) again c.in_err-cut.ensures.stops))))

pub returns-clause-stops : goal.returns-clause-stops
returns-clause-stops g c =
    let rows : ℕ = c.args.files.now.rows in
    let packed : List ℕ = drill_packed rows c.args.codec in
    let limit : ℕ = c.args.meter.now.limit in
    let same : c.packed_by.new.meter.limit ≡ limit = c.in_ok-packed.ensures.kept.limit in
    let also : c.unpacks_to_file.new.meter.limit ≡ limit = c.in_ok-unpacked.ensures.kept.limit ∙ same in
    let file : c.deref.result.now ≡ packed = search rules in
    let again : c.deref-2.result.now ≡ packed = search rules in
    stops_none c.takings_law.ensures.second rows limit (file_takings (Pack (drill_options c.args.codec)) (drill_file rows) 4) (file_takings Unpack packed 4 ++ file_takings (Cut None (drill_sieve rows)) packed 4) _ _ _ _ _ _ c.in_ok-packed.ensures.stops
    (stops_none c.takings_law.ensures.second rows limit (file_takings Unpack packed 4) (file_takings (Cut None (drill_sieve rows)) packed 4) _ _ (Unit {0}) _ _ tt
    (at_limit rows (file_takings Unpack packed 4) same (of_file rows (λ f. file_takings Unpack f 4) file c.in_ok-unpacked.ensures.stops))
    (at_limit rows (file_takings (Cut None (drill_sieve rows)) packed 4) also (of_file rows (λ f. file_takings (Cut None (drill_sieve rows)) f 4) again c.in_ok-cut.ensures.stops)))

pub returns-clause-exact_peak : goal.returns-clause-exact_peak
returns-clause-exact_peak g c =
    let rows : ℕ = c.args.files.now.rows in
    let packed : List ℕ = drill_packed rows c.args.codec in
    let file : c.deref.result.now ≡ packed = search rules in
    let again : c.deref-2.result.now ≡ packed = search rules in
    let second : c.unpacks_to_file.new.meter.peak ≡ max c.packed_by.new.meter.peak (highest (file_takings Unpack packed 4)) =
    subst (λ f. c.unpacks_to_file.new.meter.peak ≡ max c.packed_by.new.meter.peak (highest (file_takings Unpack f 4))) file c.in_ok-unpacked.ensures.exact_peak in
    let third : c.cuts_to_part.new.meter.peak ≡ max c.unpacks_to_file.new.meter.peak (highest (file_takings (Cut None (drill_sieve rows)) packed 4)) =
    subst (λ f. c.cuts_to_part.new.meter.peak ≡ max c.unpacks_to_file.new.meter.peak (highest (file_takings (Cut None (drill_sieve rows)) f 4))) again c.in_ok-cut.ensures.exact_peak in
    peak_of_three (file_takings (Pack (drill_options c.args.codec)) (drill_file rows) 4) (file_takings Unpack packed 4) (file_takings (Cut None (drill_sieve rows)) packed 4) _ _ _ _ c.in_ok-packed.ensures.exact_peak second third

-- ---- each job leaves what the next one asks for

pub unpacks_to_file-requires-clause-ready : goal.unpacks_to_file-requires-clause-ready
unpacks_to_file-requires-clause-ready g c = λ lifetimes lives.
    let kept = c.in_ok-packed.ensures.kept in
    record {
      live = kept.live;
      empty = subst IsEmpty (sym kept.window_is) c.requires.ready.empty;
      workers = ap (λ (w : Pool). w.workers) kept.window_is ∙ c.requires.ready.workers;
    }

pub cuts_to_part-requires-clause-ready : goal.cuts_to_part-requires-clause-ready
cuts_to_part-requires-clause-ready g c = λ lifetimes lives.
    let kept = c.in_ok-unpacked.ensures.kept in
    let same : c.unpacks_to_file.new.window ≡ c.args.window.now = kept.window_is ∙ c.in_ok-packed.ensures.kept.window_is in
    record {
      live = kept.live;
      empty = subst IsEmpty (sym same) c.requires.ready.empty;
      workers = ap (λ (w : Pool). w.workers) same ∙ c.requires.ready.workers;
    }
