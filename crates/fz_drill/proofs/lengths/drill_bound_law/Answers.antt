-- By the bounds of the jobs that `drill` runs.
use Rattle.std.proofs.Common.{◌^◌, ◌≤◌, length}
use Rattle.fz_tile.specs.Plain.{AreBytes}
use Rattle.fz_files.specs.Drill.{drill_file, drill_packed}
use Rattle.fz_drill.proofs.Bytes.{drill_bytes}
use Rattle.fz_drill.proofs.PackedLengths.{short_held}
use Rattle.fz_drill.proofs.lengths.drill_bound_law.Goals as goal

pub returns : goal.returns
returns c = λ rows file asked is.
    let bytes : AreBytes (drill_file rows) = drill_bytes rows is.most in
    c.buffers_law.ensures.drill rows file asked
    (λ codec.
    let held : length (drill_packed rows codec) ≤ 2 ^ 40 = short_held rows (length (drill_packed rows codec)) is.most (c.lengths_law.ensures.packed rows codec is).1 in
    record { packs = (c.packs_law.ensures rows codec is).bound; unpacks = (c.unpacks_law.ensures rows codec is bytes held).bound; cuts = (c.cuts_law.ensures rows codec is bytes held).bound })
