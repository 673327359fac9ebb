-- The table of the codes is that of the image.
use Rattle.std.proofs.Common.{◌≡◌, ℕ, ◌+◌, List, Option, Some, IfSome, refl, sym, ap, subst, arith}
use Rattle.std.proofs.lemmas.Result.{IfOk-weaker}
use Rattle.fz_block.specs.Hdus.{cards_of}
use Rattle.fz_block.specs.Header.{data_start_of, next_start_of}
use Rattle.fz_image.specs.Image.{HoldsCodes, HoldsTable}
use Rattle.fz_image.specs.Layout.{HasPixels, IsLayout, IsPlan, layout_of, pixel_bytes_of}
use Rattle.fz_image.specs.Tiles.{codes_from}
use Rattle.fz_image.specs.declared.layout.Layout.{Layout}
use Rattle.fz_pack.proofs.ImageData.{image_plan, pixels_len}
use Rattle.fz_pack.proofs.WholeImages.{holds_table, image_layout, image_pixels}
use Rattle.fz_pack.proofs.image.write_image.Goals as goal

pub of-layout-requires-clause-plan : goal.of-layout-requires-clause-plan
of-layout-requires-clause-plan g c =
    let is = c.requires.plan in
    let h = c.args.image.now.header in
    image_plan c.args.image.now.buf.now h c.args.image.now.sums c.args.image.now.plan is
    (c.pack_plan_law.ensures.divided is.options h c.args.image.now.buf.now c.args.image.now.plan is.allowed c.requires.header is.packable is.answer)
    (c.pack_plan_law.ensures.writable is.options h c.args.image.now.buf.now c.args.image.now.plan is.allowed is.packable is.answer)

pub write_table-requires-clause-can : goal.write_table-requires-clause-can
write_table-requires-clause-can g c κs within =
    let is = c.requires.plan in
    let buf = c.args.image.now.buf.now in
    let h = c.args.image.now.header in
    let p = c.args.image.now.plan in
    let rows_at : ℕ = c.args.image.now.at + c.header_len.result in
    let attached : Option ℕ = g.S.Source.attached c.args.source.now in
    let plan : IsPlan p = image_plan buf h c.args.image.now.sums p is
    (c.pack_plan_law.ensures.divided is.options h buf p is.allowed c.requires.header is.packable is.answer)
    (c.pack_plan_law.ensures.writable is.options h buf p is.allowed is.packable is.answer) in
    record {
      layout = subst IsLayout (sym c.of-layout.ensures)
          (image_layout h p rows_at plan (omega (arith, c.header_len.ensures.some)) (omega (arith, c.requires.at, c.header_len.ensures.short)) c.requires.end);
      pixels = subst (HasPixels attached) (sym c.of-layout.ensures)
          (image_pixels h p rows_at attached (pixels_len buf h c.args.image.now.sums p c.requires.header is) c.requires.within.0 c.requires.within.1 c.requires.within.2);
      created_is = c.requires.created;
    }

pub returns-clause-table : goal.returns-clause-table
returns-clause-table g c =
    let buf = c.args.image.now.buf.now in
    let h = c.args.image.now.header in
    let p = c.args.image.now.plan in
    let sums = c.args.image.now.sums in
    let at = c.args.image.now.at in
    let rows_at : ℕ = at + c.header_len.result in
    let held : Option (List ℕ) = g.S.Source.held c.args.source.now in
    let before : Option (List ℕ) = g.K.Sink.contents c.args.sink.now in
    let now : Option (List ℕ) = g.K.Sink.contents c.write_table.new.sink in
    let l : Layout = c.of-layout.result in
    IfOk-weaker c.write_table.result
    (λ end. IfSome held (λ file. HoldsCodes sums l (cards_of buf) (codes_from l file 0 l.tiles) at end before now))
    (λ end. IfSome held (λ file. HoldsTable sums p h file at end before now))
    (λ end holds. holds_table c.slice_law.ensures.pixels sums h p rows_at buf held at end before now c.requires.header c.requires.read (pixels_len buf h sums p c.requires.header c.requires.plan)
    (subst (λ (k : Layout). IfSome held (λ file. HoldsCodes sums k (cards_of buf) (codes_from k file 0 k.tiles) at end before now)) c.of-layout.ensures holds))
    c.write_table.ensures.table

pub returns-clause-log : goal.returns-clause-log
returns-clause-log g c =
    let h = c.args.image.now.header in
    let p = c.args.image.now.plan in
    let rows_at : ℕ = c.args.image.now.at + c.header_len.result in
    let n : ℕ = next_start_of h in
    let l : Layout = c.of-layout.result in
    let inside : HasPixels (Some n) (layout_of h p rows_at) = image_pixels h p rows_at (Some n) (pixels_len c.args.image.now.buf.now h c.args.image.now.sums p c.requires.header c.requires.plan) n refl (omega arith) in
    let there : n ≡ inside.0 = cc in
    let low : l.pixels_at ≡ data_start_of h = ap (λ (k : Layout). k.pixels_at) c.of-layout.ensures in
    let long : pixel_bytes_of l ≡ pixel_bytes_of (layout_of h p rows_at) = ap pixel_bytes_of c.of-layout.ensures in
    c.log_law.ensures.wider l.pixels_at (l.pixels_at + pixel_bytes_of l) (data_start_of h) n (g.S.Source.ranges c.args.source.now) (g.S.Source.ranges c.write_table.new.source)
    (omega (arith, low)) (omega (arith, low, long, inside.2, there)) c.write_table.ensures.stays.1.log
