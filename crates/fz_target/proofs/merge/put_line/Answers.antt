-- One piece after another.
use Rattle.std.proofs.Common.{◌≡◌, ℕ, ◌+◌, ◌-◌, ◌*◌, ◌/◌, ◌≤◌, ℤ, length, unsigned_abs, refl, sym, ap, subst, ◌∙◌, arith, rules}
use Rattle.fz_grid.specs.declared.line.Line.{Line}
use Rattle.fz_tile.specs.Pixels.{IsBitpix}
use Rattle.fz_target.specs.Reads.{pixels_end}
use Rattle.fz_target.specs.Tiles.{HasPiece}
use Rattle.fz_target.proofs.GivenLines.{line_ends}
use Rattle.fz_target.proofs.LinePieces.{piece_more, piece_none}
use Rattle.fz_target.proofs.LineReads.{piece_fits, pieces_some, size_few, size_is}
use Rattle.fz_target.proofs.merge.put_line.Goals as goal

pub nonzero_div-most : goal.nonzero_div-most
nonzero_div-most g c =
    let bitpix : ℤ = c.args.target.now.image.plan.bitpix in
    let is : IsBitpix bitpix = c.requires.target.readable.codec.size in
    omega (arith, size_is bitpix c.plain_len.result is c.plain_len.ensures, (size_few bitpix is).0)

pub loop-done-init : goal.loop-done-init
loop-done-init g c = record {
  held = refl;
  attached = refl;
  told = λ told. told;
  reads = refl;
  pixels_read = c.log_law.ensures.none c.args.target.now.pixels_at (pixels_end c.args.target.now) (g.S.Source.ranges c.args.patch.now);
  copy = refl;
  numbers = refl;
  few = omega arith;
  put = piece_none c.args.target.now c.args.line.now.in_tile c.args.line.now.in_cutout (g.S.Source.held c.args.patch.now) c.args.numbers.now;
}

pub put_piece-requires-clause-some : goal.put_piece-requires-clause-some
put_piece-requires-clause-some g c =
    let bitpix : ℤ = c.args.target.now.image.plan.bitpix in
    let is : IsBitpix bitpix = c.requires.target.readable.codec.size in
    let size : c.plain_len.result ≡ unsigned_abs bitpix / 8 = size_is bitpix c.plain_len.result is c.plain_len.ensures in
    let some : 1 ≤ length c.args.copy.now / c.plain_len.result = subst (λ n. 1 ≤ length c.args.copy.now / n) (sym size) (pieces_some bitpix (length c.args.copy.now) is c.requires.copy).0 in
    omega (arith, some, c.min-pixels.ensures, c.loop-done-test.true)

pub put_piece-requires-clause-room : goal.put_piece-requires-clause-room
put_piece-requires-clause-room g c =
    let bitpix : ℤ = c.args.target.now.image.plan.bitpix in
    let is : IsBitpix bitpix = c.requires.target.readable.codec.size in
    let size : c.plain_len.result ≡ unsigned_abs bitpix / 8 = size_is bitpix c.plain_len.result is c.plain_len.ensures in
    let most : unsigned_abs bitpix / 8 * (length c.args.copy.now / c.plain_len.result) ≤ length c.args.copy.now =
    subst (λ n. unsigned_abs bitpix / 8 * (length c.args.copy.now / n) ≤ length c.args.copy.now) (sym size) (pieces_some bitpix (length c.args.copy.now) is c.requires.copy).1
    in
    let low : c.min-pixels.result ≤ length c.args.copy.now / c.plain_len.result = omega (arith, c.min-pixels.ensures) in
    let fits = piece_fits (unsigned_abs bitpix / 8) c.min-pixels.result (length c.args.copy.now / c.plain_len.result) (length c.args.copy.now) low most in
    omega (arith, fits, c.loop-done.invariant.copy)

pub put_piece-requires-clause-here : goal.put_piece-requires-clause-here
put_piece-requires-clause-here g c = omega (arith, c.requires.line.2.cutout, c.min-pixels.ensures, c.from-count.ensures, c.loop-done-test.true)

pub put_piece-requires-clause-there : goal.put_piece-requires-clause-there
put_piece-requires-clause-there g c =
    let line : Line = c.args.line.now in
    let end : line.in_tile + line.count ≤ c.requires.line.0 = line_ends line c.requires.line.0 _ c.requires.step c.requires.line.2 in (
      omega (arith, end, c.requires.line.1, c.min-pixels.ensures, c.from-count.ensures, c.loop-done-test.true),
      omega (arith, end, c.requires.line.3, c.min-pixels.ensures, c.from-count.ensures, c.loop-done-test.true, c.loop-done.invariant.numbers),
    )

pub loop-done-preserved : goal.loop-done-preserved
loop-done-preserved g c =
    let t = c.args.target.now in
    let line : Line = c.args.line.now in
    let held = g.S.Source.held c.args.patch.now in
    let done : ℕ = c.loop-done.done in
    let next : HasPiece t (line.in_tile + done) (line.in_cutout + done) c.min-pixels.result held c.loop-done.numbers c.put_piece.new.numbers =
    subst (λ h. HasPiece t (line.in_tile + done) (line.in_cutout + done) c.min-pixels.result h c.loop-done.numbers c.put_piece.new.numbers) c.loop-done.invariant.held c.in_ok-put_piece.ensures.piece
    in
    record {
      held = search rules;
      attached = search rules;
      told = λ told. c.in_ok-put_piece.ensures.stays.0.told (c.loop-done.invariant.told told);
      reads = search rules;
      pixels_read = c.log_law.ensures.both t.pixels_at (pixels_end t) (g.S.Source.ranges c.args.patch.now) (g.S.Source.ranges c.loop-done.patch) (g.S.Source.ranges c.put_piece.new.patch) c.loop-done.invariant.pixels_read c.put_piece.ensures.pixels_read;
      copy = search rules;
      numbers = search rules;
      few = search rules;
      put = piece_more t line.in_tile line.in_cutout done c.min-pixels.result held c.args.numbers.now c.loop-done.numbers c.put_piece.new.numbers c.loop-done.invariant.put next c.loop-done.invariant.numbers;
    }

pub returns-clause-piece : goal.returns-clause-piece
returns-clause-piece g c =
    let t = c.args.target.now in
    let line : Line = c.args.line.now in
    let all : c.loop-done.done ≡ line.count = omega (arith, c.loop-done-test.false, c.loop-done.invariant.few, c.from-count.ensures) in
    subst (λ n. HasPiece t line.in_tile line.in_cutout n (g.S.Source.held c.args.patch.now) c.args.numbers.now c.loop-done.numbers) all c.loop-done.invariant.put

pub returns-in_err-put_piece-clause-pixels_read : goal.returns-in_err-put_piece-clause-pixels_read
returns-in_err-put_piece-clause-pixels_read g c =
    let t = c.args.target.now in
    c.log_law.ensures.both t.pixels_at (pixels_end t) (g.S.Source.ranges c.args.patch.now) (g.S.Source.ranges c.loop-done.patch) (g.S.Source.ranges c.put_piece.new.patch) c.loop-done.invariant.pixels_read c.put_piece.ensures.pixels_read
