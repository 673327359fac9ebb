use Rattle.std.proofs.Common.{◌≡◌, ◌+◌, ◌-◌, ◌/◌, ◌^◌, ◌<◌, min, sym, ap, ◌∙◌, arith}
use Rattle.std.specs.Int.Count.{count_leading_zeros}
use Rattle.std.proofs.Math.Nat.{div-le_self}
use Rattle.fz_rice.specs.Producer.{binary_len, chosen_k}
use Rattle.fz_rice.proofs.ProducerLemmas.{binary_len-is, chosen_id-some}
use Rattle.fz_rice.proofs.encode.chosen_id.Goals as goal

pub returns : goal.returns
returns g c =
    let top = c.saturating_sub-2.result in
    let count = c.from-count.result in
    let q = top / count / 2 in
    let small = div-le_self top count in
    let fits : q < 2 ^ 64 = omega (arith, c.saturating_sub-2.type_inv, small) in
    let is : q ≡ (c.args.total - c.args.count / 2 - 1) / c.args.count / 2 = ap (λ k. k / count / 2) (c.saturating_sub-2.ensures ∙ ap (λ k. k - 1) c.saturating_sub.ensures) ∙ ap (λ k. (c.args.total - k / 2 - 1) / k / 2) c.from-count.ensures in
    let k : 64 - count_leading_zeros 64 q ≡ chosen_k c.args.count c.args.total = sym (binary_len-is q fits) ∙ ap binary_len is in
    c.min.ensures ∙ ap (λ x. min (x + 1) c.raw_id.result) k ∙ ap (λ x. min (chosen_k c.args.count c.args.total + 1) x) c.raw_id.ensures ∙ sym (chosen_id-some g.row.W c.args.count c.args.total c.if-total-eq0.false)
