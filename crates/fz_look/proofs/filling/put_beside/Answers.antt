-- The numbers are those of a tile and then the table of marks.
use Rattle.std.proofs.Common.{◌≡◌, ℕ, ◌≤◌, ℤ, List, ◌++◌, drop, length, IfSome, refl, sym, ap, ◌∙◌, subst, arith, length-append, rules}
use Rattle.fz_tile.specs.Pixels.{place_count}
use Rattle.fz_files.specs.Packed.{pixel_bits}
use Rattle.fz_files.specs.Restored.{pixels_of}
use Rattle.fz_look.specs.Marked.{table_in, table_place}
use Rattle.fz_look.proofs.Marking.{marks_of_numbers, marks_of_table, table_after}
use Rattle.fz_look.proofs.Stretches.{front_room}
use Rattle.fz_look.proofs.filling.put_beside.Goals as goal

pub put_part-requires-clause-rooms : goal.put_part-requires-clause-rooms
put_part-requires-clause-rooms g c =
    let p = c.args.tile.now.image.now.plan in
    let old : List ℤ = c.args.numbers.now in
    let front : length c.split_at_mut-front.result.0.now ≡ table_place p.codec (length old) = c.split_at_mut-front.ensures.front_len ∙ c.table_at-at.ensures.place in
    record {
      numbers_fit = subst (λ n. place_count (pixel_bits p) (pixels_of p 0) ≤ n) (sym front)
          (front_room p.codec p.bitpix (pixels_of p 0) (length old) c.requires.tile.readable.codec c.requires.numbers);
      code_fits = c.requires.code;
    }

pub put_part-requires-clause-marks : goal.put_part-requires-clause-marks
put_part-requires-clause-marks g c =
    let p = c.args.tile.now.image.now.plan in
    let old : List ℤ = c.args.numbers.now in
    let table : c.split_at_mut-front.result.1.now ≡ table_in p.codec old = c.split_at_mut-front.ensures.back ∙ ap (λ k. drop k old) c.table_at-at.ensures.place in
    marks_of_table (g.S.Source.held c.args.source.now) c.args.tile.now.header.now p.codec old c.split_at_mut-front.result.1.now table c.requires.marks

pub returns-clause-marks : goal.returns-clause-marks
returns-clause-marks g c =
    let p = c.args.tile.now.image.now.plan in
    let old : List ℤ = c.args.numbers.now in
    let front : List ℤ = c.put_part.new.numbers in
    let table : List ℤ = c.put_part.new.table in
    let split = c.split_at_mut-front.ensures in
    let front_long : length front ≡ c.table_at-at.result = c.put_part.ensures.stays.1 ∙ split.front_len in
    let long : length (front ++ table) ≡ length old = omega (arith, length-append front table, front_long, c.put_part.ensures.stays.2, split.back_len) in
    marks_of_numbers (g.S.Source.held c.args.source.now) c.args.tile.now.header.now p.codec (front ++ table) table
    (table_after p.codec old front table (front ++ table) c.table_at-at.result refl long front_long c.table_at-at.ensures.place) c.put_part.ensures.marks

pub returns-clause-stays : goal.returns-clause-stays
returns-clause-stays g c =
    let front : List ℤ = c.put_part.new.numbers in
    let table : List ℤ = c.put_part.new.table in
    let split = c.split_at_mut-front.ensures in (
      search rules,
      omega (arith, length-append front table, c.put_part.ensures.stays.1, c.put_part.ensures.stays.2, split.front_len, split.back_len),
      search rules,
      search rules,
    )

pub put_part-requires-clause-tile : goal.put_part-requires-clause-tile
put_part-requires-clause-tile g c = c.requires.tile
