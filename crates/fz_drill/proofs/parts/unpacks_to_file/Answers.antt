-- Nothing is refused of the packed file.
use Rattle.std.proofs.Common.{◌≡◌, ℕ, ◌^◌, ◌≤◌, arith, length, List, ap, sym, subst, rules}
use Rattle.std.specs.Prelude.{Some, Err}
use Rattle.fz_files.specs.Buffers.{file_takings}
use Rattle.fz_tile.specs.Plain.{AreBytes}
use Rattle.fz_head.specs.declared.options.CodecWord.{CodecWord}
use Rattle.fz_files.specs.Drill.{drill_file, drill_packed}
use Rattle.fz_files.specs.declared.job.Job.TheVariants.{Unpack}
use Rattle.fz_drill.specs.Jobs.{Unpacks}
use Rattle.fz_drill.specs.Outcomes.{Stops}
use Rattle.fz_drill.proofs.Ends.{IsSafe, stops_from}
use Rattle.fz_drill.proofs.parts.unpacks_to_file.Goals as goal

pub returns-clause-stops : goal.returns-clause-stops
returns-clause-stops g c =
    let rows : ℕ = c.args.files.now.rows in
    let file : List ℕ = c.args.packed.now in
    let codec : CodecWord = c.requires.packed.0 in
    let is : file ≡ drill_packed rows codec = c.requires.packed.1 in
    let few : length (drill_packed rows codec) ≤ 2 ^ 40 = omega (arith, ap length is, c.in_ok-source.ensures.length, c.in_ok-source.ensures.most) in
    let bytes : AreBytes (drill_file rows) = subst AreBytes (search rules) c.bytes_law.ensures in
    let does : Unpacks rows codec = c.unpacks_law.ensures rows codec c.args.files.now.few bytes few in
    let safe : IsSafe Unpack file rows =
    subst (λ f. IsSafe Unpack f rows) (sym is) (record { of_file = tt; sound = does.sound; bound = does.bound }) in
    let told : Some c.in_ok-source.source.bytes.items ≡ Some file = c.in_ok-source.ensures.held in
    let held : c.in_ok-source.source.bytes.items ≡ file = cc in
    subst (λ s. Stops rows (file_takings Unpack file 4) c.args.meter.now.limit (Err s)) (sym c.in_memory.ensures)
    (stops_from c.takings_law.ensures.within c.buffers_law.ensures.bounded c.one_first_fault_law.ensures Unpack file rows c.args.meter.now.limit safe _ c.in_ok-source.source.bytes.items c.args.window.now.workers c.in-Err.stop held
    c.requires.ready.workers c.in-Err.ensures.first_fault c.in-Err.ensures.cause)
