-- The part is its header, its pixels and the fill.
use Rattle.std.proofs.Common.{◌≡◌, ℕ, ◌+◌, ◌*◌, ◌^◌, ◌<◌, ◌≤◌, List, take, length, Option, refl, subst, arith}
use Rattle.fz_block.specs.Hdus.{cards_of, header_bytes}
use Rattle.fz_files.specs.CutoutBytes.{cutout_cards}
use Rattle.fz_job.specs.Behind.{HoldsBytes}
use Rattle.fz_cut.specs.Picks.{picked_ranges}
use Rattle.fz_cut.proofs.FileImages.{header_again, said_again}
use Rattle.fz_cut.proofs.FileReads.{none_read}
use Rattle.fz_cut.proofs.PartBytes.{part_held}
use Rattle.fz_cut.proofs.Within.{sieve_within}
use Rattle.fz_files.specs.Walks.{box_of}
use Rattle.fz_cut.proofs.file.write_cutout.Goals as goal

pub write_picks-requires-clause-said : goal.write_picks-requires-clause-said
write_picks-requires-clause-said g c κs within =
    said_again (g.S.Source.held c.args.source.now) c.requires.again.0 (box_of c.args.asked.now.sieve) c.args.space.now.header c.args.again.now c.requires.again.3

pub write_picks-requires-clause-picking : goal.write_picks-requires-clause-picking
write_picks-requires-clause-picking g c κs within =
    let sieve = c.args.asked.now.sieve in
    let few = c.requires.sieve.axes in
    let end = c.in_ok-data_at.ensures.end in
    let room : c.in_ok-data_at.data_at + 2 ^ 43 ≤ 2 ^ 63 = omega (arith, end.1) in
    record {
      image = c.requires.again.3.usable.readable;
      sieve =
          sieve_within sieve (omega (arith, few, c.tables_law.ensures.lo)) (omega (arith, few, c.tables_law.ensures.hi)) (omega (arith, few, c.tables_law.ensures.step))
          c.args.again.now.image.plan.shape c.requires.sieve c.requires.again.3.usable.within;
      room = (end.0, room);
    }

pub data_len-requires-clause-sieve : goal.data_len-requires-clause-sieve
data_len-requires-clause-sieve g c =
    let sieve = c.args.asked.now.sieve in
    let few = c.requires.sieve.axes in
    sieve_within sieve (omega (arith, few, c.tables_law.ensures.lo)) (omega (arith, few, c.tables_law.ensures.hi)) (omega (arith, few, c.tables_law.ensures.step))
    c.args.again.now.image.plan.shape c.requires.sieve c.requires.again.3.usable.within

pub returns-in_err-data_at-clause-touched : goal.returns-in_err-data_at-clause-touched
returns-in_err-data_at-clause-touched g c =
    none_read (g.S.Source.held c.args.source.now) (λ file. picked_ranges file c.args.again.now.header c.args.asked.now.sieve) _ _ refl

pub returns-clause-part : goal.returns-clause-part
returns-clause-part g c =
    let held : Option (List ℕ) = g.S.Source.held c.args.source.now in
    let a = c.args.again.now in
    let sieve = c.args.asked.now.sieve in
    let buf : List ℕ = c.args.space.now.header in
    let again = c.requires.again.3 in
    let data_at : ℕ = c.in_ok-data_at.data_at in
    let front : List ℕ = header_bytes (cutout_cards sieve (cards_of (take (2880 * a.header.blocks) buf))) in
    let before : Option (List ℕ) = g.K.Sink.contents c.args.sink.now in
    let one : Option (List ℕ) = g.K.Sink.contents c.write_header.new.sink in
    let two : Option (List ℕ) = g.K.Sink.contents c.write_picks.new.sink in
    let now : Option (List ℕ) = g.K.Sink.contents c.write_fill.new.sink in
    let begun : HoldsBytes front 0 data_at before one =
    subst (λ (l : List ℕ). HoldsBytes (header_bytes (cutout_cards sieve (cards_of (take (2880 * a.header.blocks) l)))) 0 data_at before one) c.as_slice.ensures c.in_ok-data_at.ensures.header in
    let place : data_at ≡ length front = omega (arith, begun.behind) in
    let some : 0 < length front = omega (arith, place, c.in_ok-data_at.ensures.end.0) in
    part_held c.output_law.ensures.next c.plain_law.ensures.len c.cutout_law.ensures.count held a.header a.image sieve data_at c.data_len.result front before one two now
    (said_again held c.requires.again.0 (box_of sieve) buf a again) again.usable.readable.codec.size c.data_len.ensures.len (header_again held c.requires.again.0 (box_of sieve) buf a again sieve front refl)
    some place begun.contents c.in_ok-write_picks.ensures.pixels c.in_ok-write_fill.ensures.filled
