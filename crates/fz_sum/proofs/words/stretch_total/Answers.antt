use Rattle.std.proofs.Common.{◌≡◌, ℕ, ◌+◌, ◌*◌, ◌/◌, ◌≤◌, length, take, refl, sym, ap, ◌∙◌, arith}
use Rattle.fz_sum.proofs.Totals.{word-read, total_at-nil, total_at-next_word, total_at-whole}
use Rattle.fz_sum.specs.Pieces.{total_at}
use Rattle.fz_sum.proofs.words.stretch_total.Goals as goal

pub loop-i-init : goal.loop-i-init
loop-i-init c = record { total = sym (total_at-nil 0); within = omega arith }

pub loop-i-preserved : goal.loop-i-preserved
loop-i-preserved c =
    let within : 4 * c.loop-i.i + 4 ≤ length c.args.words.now = omega arith in
    let next = total_at-next_word c.args.words.now c.loop-i.i within in
    let read = word-read c.args.words.now (4 * c.loop-i.i) (4 * c.loop-i.i + 4) refl within in
    record { total = omega (arith, next, read, c.read_u32.ensures); within = omega (arith, read, c.read_u32.ensures) }

pub returns-clause-total : goal.returns-clause-total
returns-clause-total c =
    let all : c.loop-i.i ≡ length c.args.words.now / 4 = omega arith in
    c.loop-i.invariant.total ∙ (ap (λ (n : ℕ). total_at 0 (take (4 * n) c.args.words.now)) all ∙ total_at-whole c.args.words.now c.requires.whole)
