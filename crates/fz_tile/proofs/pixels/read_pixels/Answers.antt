-- Each number is the one that its two bytes store, so the list is that of the definition.
use Rattle.std.proofs.Common.{◌≡◌, ℕ, ◌*◌, ◌<◌, ℤ, pos, length, take, drop, sym, ◌∙◌, arith, rules}
use Rattle.std.proofs.lemmas.List.{ext_get_or}
use Rattle.std.proofs.lemmas.List.FromFn.{length-map-range_with_len, get_or-map-range_with_len}
use Rattle.fz_tile.specs.Plain.{pixel_of, stored_pixels}
use Rattle.fz_tile.proofs.PlainLemmas.{short_step, wider, word_step}
use Rattle.fz_tile.proofs.pixels.read_pixels.Goals as goal

pub returns-clause-pixels : goal.returns-clause-pixels
returns-clause-pixels c =
    let count : ℕ = length c.args.numbers.now in
    let pixel : ℕ → ℤ = λ i. pixel_of 16 (take 2 (drop (2 * i) c.args.bytes.now)) in
    let long : length c.loop-i.numbers ≡ count = search rules in
    ext_get_or (pos 0) c.loop-i.numbers (stored_pixels 16 count c.args.bytes.now) (long ∙ sym (length-map-range_with_len pixel 0 count))
    (λ i h. c.loop-i.invariant.pixels i (omega arith) ∙ sym (get_or-map-range_with_len pixel 0 count i i (pos 0) (omega arith) (omega arith)))

pub returns-clause-fit : goal.returns-clause-fit
returns-clause-fit c = λ k d h. let in_range : k < c.loop-i.i = omega arith in c.loop-i.invariant.fit k d in_range

pub loop-i-preserved : goal.loop-i-preserved
loop-i-preserved c =
    let pixel : ℕ → ℤ = λ k. pixel_of 16 (take 2 (drop (2 * k) c.args.bytes.now)) in
    let x = c.pixel_at.result in
    let within : c.loop-i.i < length c.loop-i.numbers = omega (arith, c.loop-i.auto.numbers, c.loop-i-test.true) in
    record {
      pixels = word_step c.loop-i.numbers c.loop-i.i x pixel (wider x c.pixel_at.ensures.fits) within c.loop-i.invariant.pixels c.pixel_at.ensures.value;
      fit = short_step c.loop-i.numbers c.loop-i.i x c.pixel_at.ensures.fits within c.loop-i.invariant.fit;
    }
