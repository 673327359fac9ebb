-- What the row says of the image that the plan says.
use Rattle.std.proofs.Common.{rules, ◌≡◌, ◌<◌, ◌≤◌, length, refl, sym, ap, ◌∙◌, Ok, Err, to_z, of_z}
use Rattle.std.specs.Int.{w32}
use Rattle.fz_checks.specs.declared.job_checks.PackedImage.{PackedImage}
use Rattle.fz_flat.specs.Lawful.{IsLawful, IsPlanOfIts}
use Rattle.fz_flat.specs.Plans.{image_there}
use Rattle.fz_flat.specs.Rows.{row_says}
use Rattle.fz_c.specs.declared.fault.Fault.TheVariants.{Rejected}
use Rattle.fz_c.specs.Faults.{answer_of}
use Rattle.fz_c.specs.Images.SaysRow.{done, refused}
use Rattle.fz_c.proofs.ImageLemmas.{tile_of_plan}
use Rattle.fz_c.proofs.image.fz_row.Goals as goal

pub returns-in-Ok-clause-answer : goal.returns-in-Ok-clause-answer
returns-in-Ok-clause-answer c =
    let lawful : IsLawful c.args.plan.now = search rules in
    let its : IsPlanOfIts c.args.plan.now = search rules in
    let below : c.args.tile < c.args.plan.now.rows = search rules in
    let long : c.args.plan.now.row_bytes ≤ length c.args.row.now = search rules in
    let says : row_says 0 (image_there c.args.plan.now) c.args.row.now c.args.tile ≡ Ok c.in-Ok.found =
    ap (λ (i : PackedImage). row_says 0 i c.args.row.now c.args.tile) (sym c.image_of.ensures) ∙ sym c.in-Ok.ensures.exact in
    done refl (tile_of_plan c.args.plan.now c.args.tile lawful its below) long c.in-Ok.found says c.flat_record.ensures

pub returns-in-Err-clause-answer : goal.returns-in-Err-clause-answer
returns-in-Err-clause-answer c =
    let lawful : IsLawful c.args.plan.now = search rules in
    let its : IsPlanOfIts c.args.plan.now = search rules in
    let below : c.args.tile < c.args.plan.now.rows = search rules in
    let long : c.args.plan.now.row_bytes ≤ length c.args.row.now = search rules in
    let says : row_says 0 (image_there c.args.plan.now) c.args.row.now c.args.tile ≡ Err c.in-Err.fault =
    ap (λ (i : PackedImage). row_says 0 i c.args.row.now c.args.tile) (sym c.image_of.ensures) ∙ sym c.in-Err.ensures.exact in
    let said : to_z w32 (of_z w32 c.answer-in-Err.result) ≡ answer_of (Rejected c.in-Err.fault.kind) = search rules in
    refused c.in-Err.fault said (tile_of_plan c.args.plan.now c.args.tile lawful its below) long says
