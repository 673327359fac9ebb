-- A pixel has at least one byte.
use Rattle.std.proofs.Common.{◌≡◌, ◌*◌, ◌/◌, ℤ, unsigned_abs, sym, ap, ◌∙◌, subst, arith}
use Rattle.fz_tile.specs.Pixels.{IsBitpix}
use Rattle.fz_target.proofs.CodedCounts.{bits_back, pixel_some}
use Rattle.fz_target.proofs.measure.pixel_len.Goals as goal

pub plain_len-requires-clause-size : goal.plain_len-requires-clause-size
plain_len-requires-clause-size c =
    let size : IsBitpix c.args.target.now.image.plan.bitpix = c.requires.target.writable.size in
    subst IsBitpix (sym (bits_back c.args.target.now.image.plan.bitpix size)) size

pub returns-clause-len : goal.returns-clause-len
returns-clause-len c =
    let bitpix : ℤ = c.args.target.now.image.plan.bitpix in
    let len : c.plain_len.result ≡ unsigned_abs bitpix / 8 * 1 = c.plain_len.ensures ∙ ap (λ b. unsigned_abs b / 8 * 1) (bits_back bitpix c.requires.target.writable.size) in
    omega (arith, len)

pub returns-clause-some : goal.returns-clause-some
returns-clause-some c =
    let bitpix : ℤ = c.args.target.now.image.plan.bitpix in
    let len : c.plain_len.result ≡ unsigned_abs bitpix / 8 * 1 = c.plain_len.ensures ∙ ap (λ b. unsigned_abs b / 8 * 1) (bits_back bitpix c.requires.target.writable.size) in
    omega (arith, len, pixel_some bitpix c.requires.target.writable.size)
