-- The last strip ends within the image, and so do all.
use Rattle.std.proofs.Common.{arith}
use Rattle.fz_image.proofs.StripBytes.{all_within}
use Rattle.fz_image.proofs.strips.if_within.Goals as goal

pub returns : goal.returns
returns c =
    let l = c.args.layout.now in
    let s = c.args.strips in
    let last = c.in_ok-end.ensures in
    let all = c.in_ok-all.ensures in
    record {
      some = omega arith;
      low = omega arith;
      high = λ i near. all_within l s i near last.0 (omega (arith, last.1, c.pixels_end.ensures));
      room_is = omega (arith, all.1);
      near = all.0;
    }
