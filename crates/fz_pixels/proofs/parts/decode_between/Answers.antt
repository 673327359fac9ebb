-- The pixels from the mark on are decoded into a slice of the numbers.
use Rattle.std.proofs.Common.{◌≡◌, ℕ, ◌-◌, ◌≤◌, ℤ, List, All, length, take, drop, Some, None, unsigned_abs, w32, of_z, to_z, ap, subst, ◌∙◌, arith, rules, length-drop, length-take-le}
use Rattle.fz_bits.specs.Numbers.{IsNumber}
use Rattle.fz_rice.specs.declared.marks.Mark.{Mark}
use Rattle.fz_tile.specs.Parts.{ReadsPart}
use Rattle.fz_files.specs.Packed.{pixel_bits}
use Rattle.fz_pixels.specs.Marks.{part_start}
use Rattle.fz_pixels.proofs.PartLemmas.{others_kept, part_range, reads_between, unmarked, unread}
use Rattle.fz_pixels.proofs.PartWrites.{back_of}
use Rattle.fz_pixels.proofs.parts.decode_between.Goals as goal

-- a slice has as many numbers as places
slice_len : (first end : ℕ) (numbers : List ℤ) → first ≤ end → end ≤ length numbers → length (take (end - first) (drop first numbers)) ≡ end - first
slice_len first end numbers less fits = length-take-le (end - first) (drop first numbers) (omega (arith, length-drop first numbers, less, fits))

pub returns-in_err-mark-clause-part : goal.returns-in_err-mark-clause-part
returns-in_err-mark-clause-part c =
    let p = c.args.plan.now in
    unmarked p.codec (pixel_bits p) c.args.code.now c.args.from c.args.skipped c.args.end c.requires.before _ _ (search rules) c.in_err-mark.ensures

pub returns-in_err-next-clause-part : goal.returns-in_err-next-clause-part
returns-in_err-next-clause-part c =
    let p = c.args.plan.now in
    let first : ℕ = c.part_start-first.result in
    let at : first ≡ part_start c.args.from = c.part_start-first.ensures in
    let back : to_z w32 (of_z w32 p.bitpix) ≡ p.bitpix = back_of p.bitpix c.requires.codec.size in
    let n : ℕ = length (take (c.args.end - first) (drop first c.args.numbers.now)) in
    let count : n ≡ c.args.end - first = slice_len first c.args.end c.args.numbers.now (omega (arith, at, c.requires.some)) c.requires.numbers in
    let reads : ReadsPart p.codec (pixel_bits p) c.args.code.now c.in_ok-mark.mark n c.decode_part.new.numbers None =
    subst (λ (y : ℤ). ReadsPart p.codec (unsigned_abs y) c.args.code.now c.in_ok-mark.mark n c.decode_part.new.numbers None) back c.in_err-next.ensures.part in
    unread p.codec (pixel_bits p) c.args.code.now c.args.from c.args.skipped c.args.end c.requires.before n c.decode_part.new.numbers _ c.in_ok-mark.mark _ (search rules) c.in_ok-mark.ensures c.requires.some
    (count ∙ ap (λ k. c.args.end - k) at) reads

pub returns-clause-part : goal.returns-clause-part
returns-clause-part c =
    let p = c.args.plan.now in
    let first : ℕ = c.part_start-first.result in
    let at : first ≡ part_start c.args.from = c.part_start-first.ensures in
    let back : to_z w32 (of_z w32 p.bitpix) ≡ p.bitpix = back_of p.bitpix c.requires.codec.size in
    let next : Mark = c.in_ok-next.next in
    let n : ℕ = length (take (c.args.end - first) (drop first c.args.numbers.now)) in
    let count : n ≡ c.args.end - first = slice_len first c.args.end c.args.numbers.now (omega (arith, at, c.requires.some)) c.requires.numbers in
    let reads : ReadsPart p.codec (pixel_bits p) c.args.code.now c.in_ok-mark.mark n c.decode_part.new.numbers (Some next) =
    subst (λ (y : ℤ). ReadsPart p.codec (unsigned_abs y) c.args.code.now c.in_ok-mark.mark n c.decode_part.new.numbers (Some next)) back c.in_ok-next.ensures.part in
    reads_between p.codec (pixel_bits p) c.args.code.now c.args.from c.args.skipped c.args.end c.requires.before n first c.args.numbers.now c.decode_part.new.numbers c.in_ok-mark.mark next at c.in_ok-mark.ensures
    c.requires.some c.requires.numbers count c.decode_part.auto.numbers reads

pub returns-clause-range : goal.returns-clause-range
returns-clause-range c =
    let p = c.args.plan.now in
    let first : ℕ = c.part_start-first.result in
    let at : first ≡ part_start c.args.from = c.part_start-first.ensures in
    let back : to_z w32 (of_z w32 p.bitpix) ≡ p.bitpix = back_of p.bitpix c.requires.codec.size in
    let count : length c.decode_part.new.numbers ≡ c.args.end - first =
    c.decode_part.auto.numbers ∙ slice_len first c.args.end c.args.numbers.now (omega (arith, at, c.requires.some)) c.requires.numbers in
    let range : All (IsNumber (pixel_bits p)) c.decode_part.new.numbers = subst (λ (y : ℤ). All (IsNumber (unsigned_abs y)) c.decode_part.new.numbers) back c.in_ok-next.ensures.range in
    part_range (IsNumber (pixel_bits p)) (part_start c.args.from) first c.args.end c.args.numbers.now c.decode_part.new.numbers at c.requires.some c.requires.numbers count range

pub returns-clause-others : goal.returns-clause-others
returns-clause-others c =
    let first : ℕ = c.part_start-first.result in
    let at : first ≡ part_start c.args.from = c.part_start-first.ensures in
    let count : length c.decode_part.new.numbers ≡ c.args.end - first =
    c.decode_part.auto.numbers ∙ slice_len first c.args.end c.args.numbers.now (omega (arith, at, c.requires.some)) c.requires.numbers in
    others_kept (part_start c.args.from) first c.args.end c.args.numbers.now c.decode_part.new.numbers at c.requires.some c.requires.numbers count
