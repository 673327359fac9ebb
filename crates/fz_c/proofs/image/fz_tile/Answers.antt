-- The record is that of a tile of the image that the plan says.
use Rattle.std.proofs.Common.{rules, ◌≡◌, ◌<◌, ◌≤◌, length, refl, sym, ap, ◌∙◌, arith, pos, to_z, of_z, Some}
use Rattle.std.specs.Int.{w32}
use Rattle.fz_tile.specs.Record.{read_len}
use Rattle.fz_checks.specs.declared.job_checks.PackedImage.{PackedImage}
use Rattle.fz_flat.specs.Lawful.{IsLawful, IsPlanOfIts, IsTileOf}
use Rattle.fz_flat.specs.Rows.{read_of, record_there}
use Rattle.fz_flat.specs.Tiles.{pixels_of, places_of}
use Rattle.fz_c.specs.declared.fault.Fault.TheVariants.{Refused}
use Rattle.fz_c.specs.Faults.{answer_of}
use Rattle.fz_c.specs.Images.{HasRoomFor, ReadsTile, plan_there}
use Rattle.fz_c.specs.Images.ReadsTile.{done, refused, few_bytes, few_places}
use Rattle.fz_c.proofs.ImageLemmas.{faulty, means, tile_of_plan}
use Rattle.fz_c.proofs.image.fz_tile.Goals as goal

pub returns-then-code-len : goal.returns-then-code-len
returns-then-code-len c =
    let p = c.args.plan.now in
    let t = c.args.tile in
    let found = c.in-Some.found in
    let lawful : IsLawful p = search rules in
    let its : IsPlanOfIts p = search rules in
    let below : t < p.rows = search rules in
    let tile : IsTileOf p t = tile_of_plan p t lawful its below in
    let there : record_there c.args.chosen.now ≡ Some found = search rules in
    let pixels : c.tile_pixels.result ≡ pixels_of (plan_there p) t = c.tile_pixels.ensures.pixels ∙ ap (λ (i : PackedImage). pixels_of i.plan t) c.image_of-image.ensures in
    let len : c.record_len-len.result ≡ read_of (plan_there p) t found = c.record_len-len.ensures ∙ ap (λ n. read_len n found.total) pixels in
    let short : length c.args.code.now < c.record_len-len.result = search rules in
    let answer : ReadsTile p t c.args.chosen.now c.args.code.now c.args.numbers.now c.args.numbers.now (to_z w32 (of_z w32 c.answer-then-code-len.result)) = few_bytes (search rules) tile found there (omega (arith, short, len)) in
    record { answer = answer }

pub returns-then-numbers-places_of : goal.returns-then-numbers-places_of
returns-then-numbers-places_of c =
    let p = c.args.plan.now in
    let t = c.args.tile in
    let found = c.in-Some.found in
    let lawful : IsLawful p = search rules in
    let its : IsPlanOfIts p = search rules in
    let below : t < p.rows = search rules in
    let tile : IsTileOf p t = tile_of_plan p t lawful its below in
    let there : record_there c.args.chosen.now ≡ Some found = search rules in
    let pixels : c.tile_pixels.result ≡ pixels_of (plan_there p) t = c.tile_pixels.ensures.pixels ∙ ap (λ (i : PackedImage). pixels_of i.plan t) c.image_of-image.ensures in
    let len : c.record_len-len.result ≡ read_of (plan_there p) t found = c.record_len-len.ensures ∙ ap (λ n. read_len n found.total) pixels in
    let places : c.places_of.result ≡ places_of (plan_there p) t = c.places_of.ensures.places ∙ ap (λ (i : PackedImage). places_of i.plan t) c.image_of-image.ensures in
    let code_there : c.record_len-len.result ≤ length c.args.code.now = search rules in
    let short : length c.args.numbers.now < c.places_of.result = search rules in
    let answer : ReadsTile p t c.args.chosen.now c.args.code.now c.args.numbers.now c.args.numbers.now (to_z w32 (of_z w32 c.answer-then-numbers-places_of.result)) = few_places (search rules) tile found there (omega (arith, code_there, len)) (omega (arith, short, places)) in
    record { answer = answer }

pub returns-in-Ok : goal.returns-in-Ok
returns-in-Ok c =
    let p = c.args.plan.now in
    let t = c.args.tile in
    let found = c.in-Some.found in
    let lawful : IsLawful p = search rules in
    let its : IsPlanOfIts p = search rules in
    let below : t < p.rows = search rules in
    let tile : IsTileOf p t = tile_of_plan p t lawful its below in
    let there : record_there c.args.chosen.now ≡ Some found = search rules in
    let pixels : c.tile_pixels.result ≡ pixels_of (plan_there p) t = c.tile_pixels.ensures.pixels ∙ ap (λ (i : PackedImage). pixels_of i.plan t) c.image_of-image.ensures in
    let len : c.record_len-len.result ≡ read_of (plan_there p) t found = c.record_len-len.ensures ∙ ap (λ n. read_len n found.total) pixels in
    let places : c.places_of.result ≡ places_of (plan_there p) t = c.places_of.ensures.places ∙ ap (λ (i : PackedImage). places_of i.plan t) c.image_of-image.ensures in
    let code_there : c.record_len-len.result ≤ length c.args.code.now = search rules in
    let places_there : c.places_of.result ≤ length c.args.numbers.now = search rules in
    let room : HasRoomFor p t found c.args.code.now (length c.args.numbers.now) = record { code_there = omega (arith, code_there, len); places_there = omega (arith, places_there, places) } in
    let answer : ReadsTile p t c.args.chosen.now c.args.code.now c.args.numbers.now c.decode_record.new.numbers (pos 0) = done refl tile found there room (means p c.image_of-image.result t found c.args.code.now c.record_len-len.result c.image_of-image.ensures len c.args.numbers.now c.decode_record.new.numbers c.in-Ok.ensures.pixels) in
    record { answer = answer }

pub returns-in-Err : goal.returns-in-Err
returns-in-Err c =
    let p = c.args.plan.now in
    let t = c.args.tile in
    let found = c.in-Some.found in
    let lawful : IsLawful p = search rules in
    let its : IsPlanOfIts p = search rules in
    let below : t < p.rows = search rules in
    let tile : IsTileOf p t = tile_of_plan p t lawful its below in
    let there : record_there c.args.chosen.now ≡ Some found = search rules in
    let pixels : c.tile_pixels.result ≡ pixels_of (plan_there p) t = c.tile_pixels.ensures.pixels ∙ ap (λ (i : PackedImage). pixels_of i.plan t) c.image_of-image.ensures in
    let len : c.record_len-len.result ≡ read_of (plan_there p) t found = c.record_len-len.ensures ∙ ap (λ n. read_len n found.total) pixels in
    let places : c.places_of.result ≡ places_of (plan_there p) t = c.places_of.ensures.places ∙ ap (λ (i : PackedImage). places_of i.plan t) c.image_of-image.ensures in
    let code_there : c.record_len-len.result ≤ length c.args.code.now = search rules in
    let places_there : c.places_of.result ≤ length c.args.numbers.now = search rules in
    let room : HasRoomFor p t found c.args.code.now (length c.args.numbers.now) = record { code_there = omega (arith, code_there, len); places_there = omega (arith, places_there, places) } in
    let answer : ReadsTile p t c.args.chosen.now c.args.code.now c.args.numbers.now c.decode_record.new.numbers (to_z w32 (of_z w32 c.answer-in-Err.result)) = refused c.in-Err.fault (search rules) tile found there room (faulty p c.image_of-image.result t found c.args.code.now c.record_len-len.result c.image_of-image.ensures len c.in-Err.fault c.in-Err.ensures.fault) in
    record { answer = answer }
