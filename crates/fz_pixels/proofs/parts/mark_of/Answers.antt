-- The mark without the bits of the bytes before it.
use Rattle.std.proofs.Common.{◌≡◌, ◌-◌, ◌*◌, ◌≤◌, ℤ, Option, Some, unsigned_abs, w32, of_z, to_z, sym, subst, arith}
use Rattle.fz_tile.specs.Parts.{HasFirstMark}
use Rattle.fz_files.specs.Packed.{pixel_bits}
use Rattle.fz_pixels.specs.Parts.{AreBefore, IsMarkOf}
use Rattle.fz_pixels.specs.declared.marks.TileMark.{TileMark}
use Rattle.fz_pixels.proofs.PartLemmas.{mark_given}
use Rattle.fz_pixels.proofs.PartWrites.{back_of}
use Rattle.fz_pixels.proofs.parts.mark_of.Goals as goal

pub overflow_sub-bit : goal.overflow_sub-bit
overflow_sub-bit c =
    let below : 8 * c.args.skipped ≤ c.in-Some.before.mark.bit = subst (λ (f : Option TileMark). AreBefore f c.args.skipped) c.in-Some.is c.requires.before in
    omega (arith, below)

pub returns-in-Some : goal.returns-in-Some
returns-in-Some c =
    let p = c.args.plan.now in
    let m : TileMark = c.in-Some.before in
    let below : 8 * c.args.skipped ≤ m.mark.bit = subst (λ (f : Option TileMark). AreBefore f c.args.skipped) c.in-Some.is c.requires.before in
    subst (λ (f : Option TileMark). IsMarkOf p.codec (pixel_bits p) c.args.code.now c.args.skipped f (Some (record { bit = m.mark.bit - 8 * c.args.skipped; last = m.mark.last }))) (sym c.in-Some.is)
    (mark_given c.args.skipped m.mark below)

pub returns-in-None : goal.returns-in-None
returns-in-None c =
    let p = c.args.plan.now in
    let back : to_z w32 (of_z w32 p.bitpix) ≡ p.bitpix = back_of p.bitpix c.requires.codec.size in
    subst (λ (f : Option TileMark). IsMarkOf p.codec (pixel_bits p) c.args.code.now c.args.skipped f c.first_part_mark.result) (sym c.in-None.is)
    (subst (λ (y : ℤ). HasFirstMark p.codec (unsigned_abs y) c.args.code.now c.first_part_mark.result) back c.first_part_mark.ensures)
