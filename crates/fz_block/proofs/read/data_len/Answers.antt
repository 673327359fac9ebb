use Rattle.std.proofs.Common.{◌≡◌, ◌∙◌, ◌+◌, ◌-◌, ◌*◌, ◌^◌, ◌/◌, ◌==◌, false, Some, min, take, sym, ap, arith, rules, to_z, of_z, SFits, w32}
use Rattle.std.proofs.Math.IntN.{nat_abs}
use Rattle.std.proofs.lemmas.Bool.Decides.{nat_tests}
use Rattle.std.proofs.lemmas.Int.{to_z-of_z}
use Rattle.fz_block.specs.Hdus.{places, size_in}
use Rattle.fz_block.proofs.Products.{stopped_len, size_abs}
use Rattle.fz_block.proofs.read.data_len.Goals as goal

pub returns : goal.returns
returns c =
    let m = c.args.said.now in
    let most = 2 ^ 64 - 1 in
    let product = places (take m.axes.n m.axes.len) in
    let bytes = size_in (Some m.bitpix) / 8 in
    let fits : SFits w32 m.bitpix = search rules in
    let back : to_z w32 (of_z w32 m.bitpix) ≡ m.bitpix = to_z-of_z w32 m.bitpix fits in
    let bits = c.unsigned_abs.ensures.value ∙ (ap nat_abs back ∙ sym (size_abs m.bitpix)) in
    let width : c.from-pixel_len.result ≡ bytes = c.from-pixel_len.ensures ∙ ap (λ n. n / 8) bits in
    let sum : c.saturating_add-elements.result ≡ min (m.pcount + min product most) most = c.saturating_add-elements.ensures ∙ ap (λ p. min (m.pcount + p) most) c.places.ensures in
    let all : c.saturating_mul.result ≡ min (m.gcount * min (m.pcount + min product most) most) most = c.saturating_mul.ensures ∙ ap (λ p. min (m.gcount * p) most) sum in
    let shape : c.saturating_mul-2.result ≡ min (bytes * min (m.gcount * min (m.pcount + min product most) most) most) most =
    c.saturating_mul-2.ensures ∙ (ap (λ w. min (w * c.saturating_mul.result) most) width ∙ ap (λ p. min (bytes * p) most) all) in
    let test : (m.axes.n == 0) ≡ false = grind (arith, nat_tests) in
    rw test (shape ∙ stopped_len bytes m.gcount m.pcount product most)
