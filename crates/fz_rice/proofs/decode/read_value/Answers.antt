use Rattle.std.proofs.Common.{◌≡◌, ℕ, ◌/◌, ◌^◌, ◌<◌, ◌≤◌, Ok, sym, subst, ap, ◌∙◌, arith}
use Rattle.fz_bits.specs.Reader.{left}
use Rattle.fz_rice.specs.Reading.{most_zeros, zeros_at}
use Rattle.fz_rice.proofs.LeafLemmas.{value_joined, split_read}
use Rattle.fz_rice.proofs.ValueReaders.{value_lt}
use Rattle.fz_rice.proofs.MachineLemmas.{width_le}
use Rattle.fz_rice.proofs.decode.read_value.Goals as goal

pub returns-clause-value : goal.returns-clause-value
returns-clause-value g c =
    let w = g.row.W in
    let k = c.args.k in
    let q = c.in_ok-zeros.zeros in
    let low = c.in_ok-low.low in
    let all : c.greatest.result / 2 ^ k ≡ most_zeros w k = ap (λ x. x / 2 ^ k) (omega (arith, c.greatest.ensures)) in
    let most : q ≤ most_zeros w k = subst (λ (x : ℕ). q ≤ x) all c.in_ok-zeros.ensures.most in
    let read = split_read w k q low (left c.args.reader.now) (left c.read_zeros.new.reader) (left c.read_number.new.reader) (subst (λ (x : ℕ). zeros_at x (left c.args.reader.now) ≡ Ok (q, left c.read_zeros.new.reader)) all c.in_ok-zeros.ensures.zeros) c.in_ok-low.ensures.number in
    read ∙ ap (λ v. Ok (v, left c.read_number.new.reader)) (sym (value_joined w k q low (width_le w c.requires.width) (omega arith) most c.in_ok-low.ensures.fits))

pub returns-clause-fits : goal.returns-clause-fits
returns-clause-fits g c =
    let w = g.row.W in
    let k = c.args.k in
    let q = c.in_ok-zeros.zeros in
    let low = c.in_ok-low.low in
    let all : c.greatest.result / 2 ^ k ≡ most_zeros w k = ap (λ x. x / 2 ^ k) (omega (arith, c.greatest.ensures)) in
    let most : q ≤ most_zeros w k = subst (λ (x : ℕ). q ≤ x) all c.in_ok-zeros.ensures.most in
    subst (λ (x : ℕ). x < 2 ^ w) (sym (value_joined w k q low (width_le w c.requires.width) (omega arith) most c.in_ok-low.ensures.fits)) (value_lt w k q low (omega arith) most c.in_ok-low.ensures.fits)
