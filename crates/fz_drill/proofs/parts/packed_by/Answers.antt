-- Nothing is refused of the file.
use Rattle.std.proofs.Common.{◌≡◌, ℕ, List, ap, sym, ◌∙◌, subst, rules}
use Rattle.std.specs.Prelude.{Some, Err}
use Rattle.fz_files.specs.Buffers.{file_takings}
use Rattle.fz_files.specs.Drill.{drill_file, drill_options}
use Rattle.fz_files.specs.declared.job.Job.TheVariants.{Pack}
use Rattle.fz_drill.specs.Jobs.{Packs}
use Rattle.fz_drill.specs.Outcomes.{Stops}
use Rattle.fz_drill.proofs.Ends.{IsSafe, stops_from}
use Rattle.fz_drill.proofs.parts.packed_by.Goals as goal

pub returns-clause-stops : goal.returns-clause-stops
returns-clause-stops g c =
    let rows : ℕ = c.args.files.now.rows in
    let file : List ℕ = drill_file rows in
    let packs : Packs rows c.args.codec = c.packs_law.ensures rows c.args.codec c.args.files.now.few in
    let safe : IsSafe (Pack (drill_options c.args.codec)) file rows = record { of_file = tt; sound = packs.sound; bound = packs.bound } in
    let told : Some c.in_ok-source.source.bytes.items ≡ Some file = c.in_ok-source.ensures.held ∙ ap Some (search rules) in
    let held : c.in_ok-source.source.bytes.items ≡ file = cc in
    subst (λ s. Stops rows (file_takings (Pack (drill_options c.args.codec)) file 4) c.args.meter.now.limit (Err s)) (sym c.in_memory.ensures)
    (stops_from c.takings_law.ensures.within c.buffers_law.ensures.bounded c.one_first_fault_law.ensures (Pack (drill_options c.args.codec)) file rows c.args.meter.now.limit safe _ c.in_ok-source.source.bytes.items c.args.window.now.workers c.in-Err.stop held
    c.requires.ready.workers c.in-Err.ensures.first_fault c.in-Err.ensures.cause)
