-- The last pick of a line is a pixel of a tile.
use Rattle.std.proofs.Common.{◌≡◌, ◌-◌, ◌*◌, ap, ◌∙◌, arith}
use Rattle.fz_grid.specs.declared.line.Line.{Line}
use Rattle.fz_pixels.proofs.span.joined.Goals as goal

pub overflow_mul-far : goal.overflow_mul-far
overflow_mul-far c =
    let line : Line = c.args.line.now in
    let far : c.from-steps.result * c.from-step.result ≡ (line.count - 1) * line.step = ap (λ n. n * c.from-step.result) c.from-steps.ensures ∙ ap (λ n. (line.count - 1) * n) c.from-step.ensures in
    record { fits = omega (arith, far, c.requires.1, c.requires.2.1.tile) }

pub overflow_add-last : goal.overflow_add-last
overflow_add-last c =
    let line : Line = c.args.line.now in
    let far : c.from-steps.result * c.from-step.result ≡ (line.count - 1) * line.step = ap (λ n. n * c.from-step.result) c.from-steps.ensures ∙ ap (λ n. (line.count - 1) * n) c.from-step.ensures in
    record { fits = omega (arith, far, c.requires.1, c.requires.2.1.tile) }

pub overflow_add-end : goal.overflow_add-end
overflow_add-end c =
    let line : Line = c.args.line.now in
    let far : c.from-steps.result * c.from-step.result ≡ (line.count - 1) * line.step = ap (λ n. n * c.from-step.result) c.from-steps.ensures ∙ ap (λ n. (line.count - 1) * n) c.from-step.ensures in
    record { fits = omega (arith, far, c.requires.1, c.requires.2.1.tile) }

pub returns-clause-end : goal.returns-clause-end
returns-clause-end c =
    let line : Line = c.args.line.now in
    let far : c.from-steps.result * c.from-step.result ≡ (line.count - 1) * line.step = ap (λ n. n * c.from-step.result) c.from-steps.ensures ∙ ap (λ n. (line.count - 1) * n) c.from-step.ensures in
    omega (arith, far, c.max.ensures)
