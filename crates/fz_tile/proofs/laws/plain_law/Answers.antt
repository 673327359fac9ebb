-- The law, over the definitions alone.
use Rattle.std.proofs.Common.{pos}
use Rattle.fz_tile.proofs.PixelLemmas.{size_of}
use Rattle.fz_tile.proofs.PlainLemmas.{length-plain, plain-stored, stored-plain, length-stored, stored-numbers}
use Rattle.fz_tile.proofs.SliceLemmas.{bytes-all}
use Rattle.fz_tile.proofs.laws.plain_law.Goals as goal

pub returns-clause-len : goal.returns-clause-len
returns-clause-len c = λ bitpix xs size. length-plain bitpix xs (size_of (pos bitpix) size)

pub returns-clause-bytes : goal.returns-clause-bytes
returns-clause-bytes c = λ bitpix n bytes size all len. plain-stored bitpix n bytes (size_of (pos bitpix) size) len (bytes-all bytes all)

pub returns-clause-pixels : goal.returns-clause-pixels
returns-clause-pixels c = λ bitpix xs size fits. stored-plain bitpix xs (size_of (pos bitpix) size) fits

pub returns-clause-stored : goal.returns-clause-stored
returns-clause-stored c = λ bitpix n bytes size all. (length-stored bitpix n bytes, stored-numbers bitpix n bytes (size_of (pos bitpix) size) (bytes-all bytes all))
