-- The law, over the definitions alone.
use Rattle.std.proofs.Common.{pos}
use Rattle.fz_tile.proofs.PixelLemmas.{size_of}
use Rattle.fz_tile.proofs.SliceLemmas.{slices-bytes, slices-pixels, slices-places}
use Rattle.fz_tile.proofs.laws.slice_law.Goals as goal

pub returns-clause-bytes : goal.returns-clause-bytes
returns-clause-bytes c = λ bitpix i n xs size. slices-bytes bitpix i n xs (size_of (pos bitpix) size)

pub returns-clause-pixels : goal.returns-clause-pixels
returns-clause-pixels c = slices-pixels

pub returns-clause-places : goal.returns-clause-places
returns-clause-places c = slices-places
