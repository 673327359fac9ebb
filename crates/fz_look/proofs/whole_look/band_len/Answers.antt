-- The product of two small numbers is in range.
use Rattle.std.proofs.Common.{arith}
use Rattle.fz_look.proofs.Bands.{slots_small}
use Rattle.fz_look.proofs.whole_look.band_len.Goals as goal

pub overflow_mul-room : goal.overflow_mul-room
overflow_mul-room c = omega (arith, slots_small c.args.workers c.args.tile c.requires.workers.1 c.ranges.tile.fits, c.from.ensures, c.from-2.ensures)
