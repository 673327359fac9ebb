-- Each number is the one that its bytes store, so the list is that of the definition.
use Rattle.std.proofs.Common.{◌≡◌, ℕ, ◌*◌, ◌<◌, ℤ, pos, length, take, drop, sym, ◌∙◌, arith, rules}
use Rattle.std.proofs.lemmas.List.{ext_get_or}
use Rattle.std.proofs.lemmas.List.FromFn.{length-map-range_with_len, get_or-map-range_with_len}
use Rattle.fz_tile.specs.Plain.{pixel_of, stored_pixels}
use Rattle.fz_tile.proofs.PlainLemmas.{byte_is, word_step}
use Rattle.fz_tile.proofs.plain.read_bytes.Goals as goal

pub returns : goal.returns
returns c =
    let count : ℕ = length c.args.numbers.now in
    let pixel : ℕ → ℤ = λ i. pixel_of 8 (take 1 (drop (1 * i) c.args.code.now)) in
    let long : length c.loop-i.numbers ≡ count = search rules in
    ext_get_or (pos 0) c.loop-i.numbers (stored_pixels 8 count c.args.code.now) (long ∙ sym (length-map-range_with_len pixel 0 count))
    (λ i h. c.loop-i.invariant i (omega arith) ∙ sym (get_or-map-range_with_len pixel 0 count i i (pos 0) (omega arith) (omega arith)))

pub loop-i-preserved : goal.loop-i-preserved
loop-i-preserved c =
    let pixel : ℕ → ℤ = λ k. pixel_of 8 (take 1 (drop (1 * k) c.args.code.now)) in
    let within : c.loop-i.i < length c.loop-i.numbers = omega (arith, c.loop-i.auto.numbers, c.loop-i-test.true) in
    word_step c.loop-i.numbers c.loop-i.i c.from.result pixel (record { sfits = c.from.type_inv }) within c.loop-i.invariant (c.from.ensures ∙ byte_is c.args.code.now c.loop-i.i)
