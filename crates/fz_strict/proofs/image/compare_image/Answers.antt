-- The image is decoded and compared, and then the rest of its table.
use Rattle.std.proofs.Common.{◌≡◌, ℕ, ◌+◌, ◌*◌, ◌≤◌, List, length, take, Option, Some, IfSome, Result, Err, refl, sym, ap, ◌∙◌, subst, arith, rules}
use Rattle.std.proofs.lemmas.List.{length-take}
use Rattle.std.proofs.lemmas.Result.{IfOk-weaker}
use Rattle.fz_base.specs.Stop.{IfRefused}
use Rattle.fz_base.specs.declared.failure.Stop.{Stop}
use Rattle.fz_block.specs.Facts.{IsHeaderOf}
use Rattle.fz_block.specs.Header.{next_start_of}
use Rattle.fz_block.specs.Hdus.{cards_of}
use Rattle.fz_head.specs.Conditions.{IsPackedPlan}
use Rattle.fz_files.specs.FirstFault.{IsFirstRowFault, rows_of}
use Rattle.fz_job.specs.declared.again.ReadHdu.{ReadHdu}
use Rattle.fz_image.specs.declared.progress.Progress.{Progress}
use Rattle.fz_strict.specs.Backs.{ComparesRest, IsBack, Restores}
use Rattle.fz_compare.specs.Compared.{ComparesTable, IsSoFar}
use Rattle.fz_compare.specs.Reads.{table_ranges}
use Rattle.fz_strict.specs.Rows.{IsHduFault}
use Rattle.fz_strict.specs.SameImages.{origin_before}
use Rattle.fz_strict.specs.declared.origin.Origin.{Origin}
use Rattle.fz_strict.proofs.BackImages.{image_told, layout_back, on_ok_any, refused_as, said_back, some_weaker, written_back}
use Rattle.fz_strict.proofs.ReadRanges.{bytes_read, join_told}
use Rattle.fz_strict.proofs.Said.{rows_faulty, rows_sound, said_there}
use Rattle.fz_strict.proofs.image.compare_image.Goals as goal

pub restored_image-restored-requires-clause-header : goal.restored_image-restored-requires-clause-header
restored_image-restored-requires-clause-header g c =
    let h = c.args.packed.header.now in
    subst (λ (l : List ℕ). IsHeaderOf (take (2880 * h.blocks) l) h) (sym c.as_slice.ensures) c.requires.again.3.header

pub restored_image-restored-requires-clause-end : goal.restored_image-restored-requires-clause-end
restored_image-restored-requires-clause-end g c = c.requires.again.3.near

pub restored_image-restored-requires-clause-plan : goal.restored_image-restored-requires-clause-plan
restored_image-restored-requires-clause-plan g c =
    let h = c.args.packed.header.now in
    subst (λ (l : List ℕ). IsPackedPlan (take (2880 * h.blocks) l) h c.args.packed.image.now.plan) (sym c.as_slice.ensures) c.requires.again.3.usable.said.planned

pub restored_image-restored-requires-clause-room : goal.restored_image-restored-requires-clause-room
restored_image-restored-requires-clause-room g c =
    omega (arith, length-take (2880 * c.args.packed.header.now.blocks) c.as_slice.result.now, ap length c.as_slice.ensures, c.requires.plain, c.requires.room)

pub compare_tiles-requires-clause-image : goal.compare_tiles-requires-clause-image
compare_tiles-requires-clause-image g c κs within = c.requires.again.3.usable.readable

pub compare_tiles-requires-clause-within : goal.compare_tiles-requires-clause-within
compare_tiles-requires-clause-within g c κs within = (c.requires.again.0, c.requires.again.1, c.requires.again.2, c.requires.again.3.usable.inside)

pub compare_tiles-requires-clause-inside : goal.compare_tiles-requires-clause-inside
compare_tiles-requires-clause-inside g c κs within = (c.requires.again.0, c.requires.again.2, c.requires.again.3.inside)

pub compare_tiles-requires-clause-end : goal.compare_tiles-requires-clause-end
compare_tiles-requires-clause-end g c κs within = c.requires.again.3.near

pub compare_tiles-requires-clause-said : goal.compare_tiles-requires-clause-said
compare_tiles-requires-clause-said g c κs within =
    let a : ReadHdu = record { header = c.args.packed.header.now; image = Some c.args.packed.image.now } in
    said_there (g.S.Source.held c.args.source.now) c.requires.again.0 c.args.space.now.header a c.requires.again.3 c.args.packed.image.now refl

pub compare_tiles-requires-clause-layout : goal.compare_tiles-requires-clause-layout
compare_tiles-requires-clause-layout g c κs within =
    let front : List ℕ = take (2880 * c.args.packed.header.now.blocks) c.as_slice.result.now in
    layout_back c.args.asked.now.options.sums (cards_of front) c.args.packed.image.now.plan c.restored_image-restored.new.plain c.restored_image-restored.result c.layout_of-layout.result c.layout_of-layout.ensures c.restored_image-restored.ensures.back

pub compare_rest-requires-clause-within : goal.compare_rest-requires-clause-within
compare_rest-requires-clause-within g c = (c.requires.again.0, c.in_ok-written.ensures.stays.0.attached_is ∙ c.requires.again.2, c.requires.again.3.inside)

pub compare_rest-requires-clause-end : goal.compare_rest-requires-clause-end
compare_rest-requires-clause-end g c = c.requires.again.3.near

pub compare_rest-requires-clause-restored : goal.compare_rest-requires-clause-restored
compare_rest-requires-clause-restored g c =
    let front : List ℕ = take (2880 * c.args.packed.header.now.blocks) c.as_slice.result.now in
    (cards_of front, c.args.packed.image.now.plan, c.restored_image-restored.ensures.back)

pub compare_rest-requires-clause-progress : goal.compare_rest-requires-clause-progress
compare_rest-requires-clause-progress g c =
    written_back (λ l q. IsSoFar l q × (q.tiles ≡ l.tiles)) c.restored_image-restored.result c.layout_of-layout.result c.in_ok-written.written c.layout_of-layout.ensures c.in_ok-written.ensures.progress

pub compare_rest-requires-clause-made : goal.compare_rest-requires-clause-made
compare_rest-requires-clause-made g c =
    let front : List ℕ = take (2880 * c.args.packed.header.now.blocks) c.as_slice.result.now in
    some_weaker c.restored_image-restored.result (λ x. 2880 * x.header.blocks ≤ length front) (λ x. 2880 * x.header.blocks + 2880 ≤ length c.as_mut_slice-made.result.now)
    (λ x few. omega (arith, few, length-take (2880 * c.args.packed.header.now.blocks) c.as_slice.result.now, ap length c.as_mut_slice-made.ensures.value, c.requires.room)) c.restored_image-restored.ensures.fits

pub returns-in_err-written-clause-fault : goal.returns-in_err-written-clause-fault
returns-in_err-written-clause-fault g c =
    let held : Option (List ℕ) = g.S.Source.held c.args.source.now in
    let h = c.args.packed.header.now in
    let a : ReadHdu = record { header = h; image = Some c.args.packed.image.now } in
    let stop : Stop = c.in_err-written.field-0.0 in
    let stopped : c.from_residual.result ≡ Err stop = search rules in
    subst (λ (r : Result (Option Origin) Stop). IfRefused r (λ x. IfSome held (λ file. IsHduFault file h x))) (sym stopped)
    (refused_as (Option Progress) (Option Origin) (λ x. IfSome held (λ file. IsFirstRowFault file (rows_of file h) (Some x))) (λ x. IfSome held (λ file. IsHduFault file h x)) stop
    (λ x rows. rows_faulty held c.requires.again.0 c.args.space.now.header a c.requires.again.3 c.args.packed.image.now refl x rows) c.in_err-written.ensures.fault)

pub returns-clause-compared : goal.returns-clause-compared
returns-clause-compared g c =
    let held : Option (List ℕ) = g.S.Source.held c.args.source.now in
    let h = c.args.packed.header.now in
    let n : ℕ = c.requires.again.0 in
    let r = c.restored_image-restored.result in
    let plain : List ℕ = c.restored_image-restored.new.plain in
    let w = c.in_ok-written.written in
    let layout = c.layout_of-layout.result in
    let table : IfSome r (λ x. IfSome held (λ file. ComparesTable file h x.layout w)) = said_back (λ l. IfSome held (λ file. ComparesTable file h l w)) r layout c.layout_of-layout.ensures c.in_ok-written.ensures.compared in
    let o = c.args.asked.now.options in
    let p = c.args.packed.image.now.plan in
    let restored : Restores o (cards_of (take (2880 * h.blocks) c.args.space.now.header)) h p (origin_before c.args.origin.now p) r =
    subst (λ (l : List ℕ). Restores o (cards_of (take (2880 * h.blocks) l)) h p (origin_before c.args.origin.now p) r) c.as_slice.ensures c.restored_image-restored.ensures.restored in
    let back : IfSome r (IsBack o.sums (cards_of (take (2880 * h.blocks) c.args.space.now.header)) p plain) =
    subst (λ (l : List ℕ). IfSome r (IsBack o.sums (cards_of (take (2880 * h.blocks) l)) p plain)) c.as_slice.ensures c.restored_image-restored.ensures.back in
    IfOk-weaker c.compare_rest.result _ _
    (λ now rest. image_told c.image_law.ensures o n c.args.space.now.header h c.args.packed.image.now c.args.origin.now c.requires.origin r plain w now held c.requires.again.3
    (g.met.S.Source.agrees c.args.source.now n c.requires.again.2) restored back table
    (subst (λ (k : Option (List ℕ)). IfSome k (λ file. ComparesRest file h c.args.asked.now.options.sums plain r w now)) c.in_ok-written.ensures.stays.0.held_is rest))
    c.compare_rest.ensures.compared

pub returns-clause-sound : goal.returns-clause-sound
returns-clause-sound g c =
    let a : ReadHdu = record { header = c.args.packed.header.now; image = Some c.args.packed.image.now } in
    on_ok_any c.compare_rest.result (rows_sound (g.S.Source.held c.args.source.now) c.requires.again.0 c.args.space.now.header a c.requires.again.3 c.args.packed.image.now refl c.in_ok-written.ensures.sound)

pub returns-clause-read : goal.returns-clause-read
returns-clause-read g c =
    let held : Option (List ℕ) = g.S.Source.held c.args.source.now in
    let h = c.args.packed.header.now in
    let old : Option (List (ℕ × ℕ)) = g.S.Source.ranges c.args.source.now in
    let mid : Option (List (ℕ × ℕ)) = g.S.Source.ranges c.compare_tiles.new.source in
    let new : Option (List (ℕ × ℕ)) = g.S.Source.ranges c.compare_rest.new.source in
    join_told c.ranges_law.ensures.join held (λ file. table_ranges file h) old mid new c.in_ok-written.ensures.read (bytes_read c.ranges_law.ensures.within held h (next_start_of h) mid new refl c.compare_rest.ensures.read)
