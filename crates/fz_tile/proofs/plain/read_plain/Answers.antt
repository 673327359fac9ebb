-- What the bytes store are the pixels, and at 64 bits the halves of the pixels.
use Rattle.std.proofs.Common.{length, rules, arith}
use Rattle.fz_tile.proofs.PlaceLemmas.{read_8, read_16, read_rest}
use Rattle.fz_tile.proofs.plain.read_plain.Goals as goal

pub returns-in-8-clause-pixels : goal.returns-in-8-clause-pixels
returns-in-8-clause-pixels c = (read_8 c.args.bitpix (length c.args.numbers.now) c.args.code.now _ (search rules) (λ i. omega (arith, c.type_inv.code i)) c.requires.len c.read_bytes.ensures).0

pub returns-in-8-clause-bytes : goal.returns-in-8-clause-bytes
returns-in-8-clause-bytes c = (read_8 c.args.bitpix (length c.args.numbers.now) c.args.code.now _ (search rules) (λ i. omega (arith, c.type_inv.code i)) c.requires.len c.read_bytes.ensures).1

pub returns-in-16-clause-pixels : goal.returns-in-16-clause-pixels
returns-in-16-clause-pixels c = (read_16 c.args.bitpix (length c.args.numbers.now) c.args.code.now _ (search rules) (λ i. omega (arith, c.type_inv.code i)) c.requires.len c.read_pixels.ensures.pixels).0

pub returns-in-16-clause-bytes : goal.returns-in-16-clause-bytes
returns-in-16-clause-bytes c = (read_16 c.args.bitpix (length c.args.numbers.now) c.args.code.now _ (search rules) (λ i. omega (arith, c.type_inv.code i)) c.requires.len c.read_pixels.ensures.pixels).1

pub returns-in_default-clause-pixels : goal.returns-in_default-clause-pixels
returns-in_default-clause-pixels c = (read_rest c.args.bitpix (length c.args.numbers.now) c.args.code.now _ c.requires.size (search rules) (search rules) c.requires.whole (λ i. omega (arith, c.type_inv.code i)) c.requires.len c.read_words.ensures).0

pub returns-in_default-clause-bytes : goal.returns-in_default-clause-bytes
returns-in_default-clause-bytes c = (read_rest c.args.bitpix (length c.args.numbers.now) c.args.code.now _ c.requires.size (search rules) (search rules) c.requires.whole (λ i. omega (arith, c.type_inv.code i)) c.requires.len c.read_words.ensures).1
