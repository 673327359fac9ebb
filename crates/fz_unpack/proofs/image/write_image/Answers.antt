-- The image is its header, its pixels and the fill.
use Rattle.std.proofs.Common.{◌≡◌, ℕ, ◌*◌, List, take, Option, IfSome, Result, Err, refl, sym, ◌∙◌, subst, arith, rules}
use Rattle.fz_base.specs.Stop.{IfRefused}
use Rattle.fz_base.specs.declared.failure.Stop.{Stop}
use Rattle.fz_block.specs.Hdus.{cards_of, header_bytes}
use Rattle.fz_grid.specs.Grid.{tile_count}
use Rattle.fz_grid.specs.Region.{lengths_of}
use Rattle.fz_head.specs.PlainHeader.{plain_header}
use Rattle.fz_job.specs.Behind.{HoldsBytes}
use Rattle.fz_unpack.specs.Behind.{IsHduFault}
use Rattle.fz_files.specs.Touched.{image_ranges}
use Rattle.fz_unpack.proofs.HduReads.{unread}
use Rattle.fz_unpack.proofs.ImageBytes.{hdu_faulty, image_held, ok_both, some_header}
use Rattle.fz_unpack.proofs.Images.{header_again, packed_again, said_again}
use Rattle.fz_unpack.proofs.Outcomes.{stop_weaker}
use Rattle.fz_unpack.proofs.image.write_image.Goals as goal

pub write_tiles-requires-clause-image : goal.write_tiles-requires-clause-image
write_tiles-requires-clause-image g c κs within =
    let again = c.requires.again.3 in
    record {
      readable = again.usable.readable;
      within = (c.requires.again.0, c.requires.again.1, c.requires.again.2, again.usable.inside);
      said = said_again (g.S.Source.held c.args.source.now) c.requires.again.0 c.args.space.now.header c.args.header.now c.args.image.now again;
      all = c.tile_count-tiles.ensures.count ∙ (λ i. tile_count (lengths_of (c.new.ensures.shape i)) (lengths_of (c.new.ensures.tile i)));
      behind = omega (arith, c.in_ok-data_at.ensures.end.0);
      near = omega (arith, c.in_ok-data_at.ensures.end.1, c.requires.near);
    }

pub returns-in_err-write_tiles-clause-fault : goal.returns-in_err-write_tiles-clause-fault
returns-in_err-write_tiles-clause-fault g c =
    let held : Option (List ℕ) = g.S.Source.held c.args.source.now in
    let h = c.args.header.now in
    let stop : Stop = c.in_err-write_tiles.field-0.0 in
    let stopped : c.from_residual-in_err-write_tiles.result ≡ Err stop = search rules in
    let packed = packed_again held c.requires.again.0 c.args.space.now.header h c.args.image.now c.requires.again.3 in
    subst (λ (r : Result ℕ Stop). IfRefused r (λ x. IfSome held (λ file. IsHduFault file h x))) (sym stopped)
    (stop_weaker (Unit {0}) ℕ stop (λ x is. hdu_faulty held h x packed is) c.in_err-write_tiles.ensures.fault)

pub returns-clause-image : goal.returns-clause-image
returns-clause-image g c =
    let held : Option (List ℕ) = g.S.Source.held c.args.source.now in
    let h = c.args.header.now in
    let image = c.args.image.now in
    let at : ℕ = c.args.at in
    let data_at : ℕ = c.in_ok-data_at.data_at in
    let buf : List ℕ = c.args.space.now.header in
    let again = c.requires.again.3 in
    let front : List ℕ = header_bytes (plain_header (cards_of (take (2880 * h.blocks) buf))) in
    let before : Option (List ℕ) = g.K.Sink.contents c.args.sink.now in
    let one : Option (List ℕ) = g.K.Sink.contents c.write_plain_header.new.sink in
    let two : Option (List ℕ) = g.K.Sink.contents c.write_tiles.new.sink in
    let now : Option (List ℕ) = g.K.Sink.contents c.write_fill.new.sink in
    let begun : HoldsBytes front at data_at before one =
    subst (λ (l : List ℕ). HoldsBytes (header_bytes (plain_header (cards_of (take (2880 * h.blocks) l)))) at data_at before one) c.as_slice.ensures c.in_ok-data_at.ensures.header in
    ok_both c.write_fill.result
    (λ filled end ends. image_held c.output_law.ensures.next c.plain_law.ensures.len held h image at data_at c.data_len.result end front before one two now
    (said_again held c.requires.again.0 buf h image again) again.usable.readable.codec.size c.data_len.ensures.len (header_again held c.requires.again.0 buf h image again front refl)
    (some_header (plain_header (cards_of (take (2880 * h.blocks) buf)))) begun.behind begun.contents c.in_ok-write_tiles.ensures.pixels filled ends)
    c.write_fill.ensures.filled c.write_fill.ensures.end

pub returns-in_err-data_at-clause-read : goal.returns-in_err-data_at-clause-read
returns-in_err-data_at-clause-read g c = unread (g.S.Source.held c.args.source.now) (λ file. image_ranges file c.args.header.now) (g.S.Source.ranges c.args.source.now)
