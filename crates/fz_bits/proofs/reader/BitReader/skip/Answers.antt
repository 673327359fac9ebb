use Rattle.std.proofs.Common.{◌≡◌, ◌+◌, ◌-◌, ◌*◌, ◌≤◌, ◌++◌, false, length, take, drop, replicate, ap, sym, subst, ◌∙◌, arith}
use Rattle.std.proofs.Math.Logic.{∥∥₁_map}
use Rattle.std.proofs.lemmas.List.{drop-drop}
use Rattle.fz_bits.specs.Bits.{bits_of, IsAhead}
use Rattle.fz_bits.specs.Reader.{left}
use Rattle.fz_bits.proofs.ReaderLemmas.{ahead_skipped}
use Rattle.fz_bits.proofs.reader.BitReader.skip.Goals as goal

pub invariant_of-self : goal.invariant_of-self
unfolding left
invariant_of-self c =
    let r = c.args.self.now in
    let n = c.args.bits in
    let at = 8 * r.at - r.count in
    let bits = drop at (bits_of r.code.now) in
    let e : at + n ≡ 8 * r.at - (r.count - n) = omega (arith, r.loaded, c.requires) in
    let same : drop n bits ≡ drop (8 * r.at - (r.count - n)) (bits_of r.code.now) = drop-drop n at (bits_of r.code.now) ∙ ap (λ k. drop k (bits_of r.code.now)) e in
    record {
      small = r.small;
      within = r.within;
      loaded = omega (arith, r.loaded);
      few = omega (arith, r.few);
      ahead = ∥∥₁_map r.ahead (λ a. subst (IsAhead (r.count - n) c.behind-self.result) same (ahead_skipped r.count r.pending c.behind-self.result n bits c.requires c.behind-self.ensures a));
    }

pub returns-clause-left : goal.returns-clause-left
unfolding left
returns-clause-left c =
    let r = c.args.self.now in
    let n = c.args.bits in
    let e : 8 * r.at - (r.count - n) ≡ 8 * r.at - r.count + n = omega (arith, r.loaded, c.requires) in
    ap (λ k. drop k (bits_of r.code.now)) e ∙ sym (drop-drop n (8 * r.at - r.count) (bits_of r.code.now))
