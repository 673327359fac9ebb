use Rattle.std.proofs.Common.{◌≡◌, ◌+◌, ◌-◌, ◌*◌, ◌/◌, ◌%◌, ◌≤◌, ◌++◌, false, length, take, drop, replicate, ap, sym, ◌∙◌, arith, length-take, length-drop}
use Rattle.fz_bits.specs.Bits.{bits_of}
use Rattle.fz_bits.specs.Reader.{left}
use Rattle.fz_bits.proofs.ReaderLemmas.{loaded, ahead_loaded}
use Rattle.fz_bits.proofs.reader.BitReader.at_last_word.Goals as goal

pub invariant_of-result : goal.invariant_of-result
invariant_of-result c =
    let r = c.args.self in
    let code = r.code.now in
    let place = c.place-place.result in
    let from = place / 8 in
    let read = place % 8 in
    let bytes = take (length code - from) (drop from code) in
    let n = length bytes in
    let size : n ≡ length code - from = simp (length-take, length-drop) (omega arith) in
    let few : read ≤ 8 * n = omega (arith, c.place-place.ensures, size, r.within, r.loaded) in
    let within : from + n ≤ length code = omega (arith, c.place-place.ensures, size, r.within) in
    let e : 8 * from + read ≡ 8 * length code - (8 * n - read) = omega (arith, few, size, within) in
    let is = c.last_word.ensures ∙ ap (λ l. bits_of l ++ replicate (64 - 8 * n) false) (sym (ap (λ k. take k (drop from code)) size)) in
    record {
      small = r.small;
      within = omega arith;
      loaded = omega (arith, within);
      few = omega (arith, size, c.requires, c.place-place.ensures);
      ahead = ∣ ahead_loaded (8 * n - read) (8 * n - read) c.behind.result _ (omega arith) (omega (arith, size, c.requires, c.place-place.ensures)) (loaded code from read n c.last_word.result c.behind.result within (omega (arith, size, c.requires, c.place-place.ensures)) few is c.behind.ensures ∙ ap (λ k. take (8 * n - read) (drop k (bits_of code)) ++ replicate (64 - (8 * n - read)) false) e) ∣₁;
    }

pub returns-clause-unmoved : goal.returns-clause-unmoved
unfolding left
returns-clause-unmoved c =
    let r = c.args.self in
    let code = r.code.now in
    let place = c.place-place.result in
    let from = place / 8 in
    let read = place % 8 in
    let n = length (take (length code - from) (drop from code)) in
    let size : n ≡ length code - from = simp (length-take, length-drop) (omega arith) in
    let e : 8 * length code - (8 * n - read) ≡ 8 * r.at - r.count = omega (arith, c.place-place.ensures, size, r.within, r.loaded) in
    record { left = ap (λ k. drop k (bits_of code)) e; place = e }
