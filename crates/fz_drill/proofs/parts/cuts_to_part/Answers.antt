-- Nothing is refused of the packed file.
use Rattle.std.proofs.Common.{Bool, ◌≡◌, ℕ, ◌^◌, ◌≤◌, arith, length, List, ap, sym, subst, rules}
use Rattle.std.specs.Prelude.{None, Some, Err}
use Rattle.fz_files.specs.Buffers.{file_takings}
use Rattle.fz_grid.specs.declared.sieve.Sieve.{Sieve}
use Rattle.fz_tile.specs.Plain.{AreBytes}
use Rattle.fz_head.specs.declared.options.CodecWord.{CodecWord}
use Rattle.fz_files.specs.Drill.{drill_file, drill_packed, drill_sieve}
use Rattle.fz_files.specs.declared.job.Job.TheVariants.{Cut}
use Rattle.fz_drill.specs.Jobs.{Cuts}
use Rattle.fz_drill.specs.Outcomes.{Stops}
use Rattle.fz_drill.proofs.Ends.{IsSafe, stops_from}
use Rattle.fz_drill.proofs.parts.cuts_to_part.Goals as goal

pub returns-clause-stops : goal.returns-clause-stops
returns-clause-stops g c =
    let rows : ℕ = c.args.files.now.rows in
    let file : List ℕ = c.args.packed.now in
    let codec : CodecWord = c.requires.packed.0 in
    let is : file ≡ drill_packed rows codec = c.requires.packed.1 in
    let few : length (drill_packed rows codec) ≤ 2 ^ 40 = omega (arith, ap length is, c.in_ok-source.ensures.length, c.in_ok-source.ensures.most) in
    let bytes : AreBytes (drill_file rows) = subst AreBytes (search rules) c.bytes_law.ensures in
    let does : Cuts rows codec = c.cuts_law.ensures rows codec c.args.files.now.few bytes few in
    let safe : IsSafe (Cut None (drill_sieve rows)) file rows =
    subst (λ f. IsSafe (Cut None (drill_sieve rows)) f rows) (sym is) (record { of_file = tt; sound = does.sound; bound = does.bound }) in
    let told : Some c.in_ok-source.source.bytes.items ≡ Some file = c.in_ok-source.ensures.held in
    let held : c.in_ok-source.source.bytes.items ≡ file = cc in
    let sieve : Sieve = c.sieve_of-sieve.result in
    let drills : sieve ≡ drill_sieve rows = c.sieve_of-sieve.ensures in
    subst (λ v. Stops {X = Bool} rows (file_takings (Cut None v) file 4) c.args.meter.now.limit (Err c.in_memory.result)) drills
    (subst (λ s. Stops {X = Bool} rows (file_takings (Cut None sieve) file 4) c.args.meter.now.limit (Err s)) (sym c.in_memory.ensures)
    (stops_from c.takings_law.ensures.within c.buffers_law.ensures.bounded c.one_first_fault_law.ensures (Cut None sieve) file rows c.args.meter.now.limit (subst (λ v. IsSafe (Cut None v) file rows) (sym drills) safe) _
    c.in_ok-source.source.bytes.items c.args.window.now.workers c.in-Err.stop held c.requires.ready.workers c.in-Err.ensures.first_fault c.in-Err.ensures.cause))
