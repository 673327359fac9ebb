use Rattle.std.proofs.Common.{◌≡◌, ◌+◌, ◌-◌, ◌*◌, ◌/◌, ◌%◌, ◌≤◌, ◌++◌, false, length, take, drop, replicate, ap, sym, ◌∙◌, arith}
use Rattle.std.proofs.lemmas.List.{append-nil}
use Rattle.fz_bits.specs.Bits.{bits_of}
use Rattle.fz_bits.specs.Reader.{left}
use Rattle.fz_bits.proofs.ReaderLemmas.{loaded, ahead_loaded}
use Rattle.fz_bits.proofs.reader.BitReader.at_word.Goals as goal

pub invariant_of-result : goal.invariant_of-result
invariant_of-result c =
    let r = c.args.self in
    let place = c.place.result in
    let from = c.args.from in
    let read = place % 8 in
    let within : from + 8 ≤ length r.code.now = c.requires.whole in
    let e : 8 * from + read ≡ 8 * (from + 7) - (56 - read) = omega arith in
    record {
      small = r.small;
      within = omega arith;
      loaded = omega arith;
      few = omega arith;
      ahead = ∣ ahead_loaded (56 - read) (64 - read) c.behind.result _ (omega arith) (omega arith) (loaded r.code.now from read 8 c.word_at.result c.behind.result within (omega arith) (omega arith) (c.word_at.ensures ∙ sym (append-nil (bits_of (take 8 (drop from r.code.now))))) c.behind.ensures ∙ ap (λ k. take (64 - read) (drop k (bits_of r.code.now)) ++ replicate (64 - (64 - read)) false) e) ∣₁;
    }

pub returns-clause-unmoved : goal.returns-clause-unmoved
unfolding left
returns-clause-unmoved c =
    let r = c.args.self in
    let place = c.place.result in
    let e : 8 * (c.args.from + 7) - (56 - place % 8) ≡ 8 * r.at - r.count = omega (arith, c.place.ensures, c.requires.from) in
    record { left = ap (λ k. drop k (bits_of r.code.now)) e; place = e }
