use Rattle.std.proofs.Common.{◌≡◌, ◌+◌, ◌*◌, ◌-◌, ◌<◌, take, drop, get_or, ap, arith}
use Rattle.fz_grid.specs.Arrays.{product, place_of}
use Rattle.fz_grid.proofs.PlaceLemmas.{index_lt, place_step_lt}
use Rattle.fz_grid.proofs.pixel.index.Goals as goal

-- the number of the pixel among those of the axes from this one on
is_bounded : (c : goal.After-from-in-loop-i) → c.from.result + c.from-in-loop-i.result * c.loop-i.place < product (take c.args.shape.now.n c.args.shape.now.len)
is_bounded c =
    let shape = c.args.shape.now in
    let step = place_step_lt shape.len c.args.at.now shape.n (c.loop-i.i - 1) c.loop-i.i (omega arith) (omega arith) (omega arith) (omega arith) c.requires.at in
    let here : c.from.result + c.from-in-loop-i.result * c.loop-i.place ≡ get_or c.args.at.now (c.loop-i.i - 1) 0 + get_or shape.len (c.loop-i.i - 1) 0 * place_of (drop c.loop-i.i (take shape.n shape.len)) (drop c.loop-i.i (take shape.n c.args.at.now)) = cc in
    omega (arith, step)

pub overflow_mul-place : goal.overflow_mul-place
overflow_mul-place c = omega (arith, is_bounded c)

pub overflow_add-place : goal.overflow_add-place
overflow_add-place c = omega (arith, is_bounded c)

pub returns-clause-inside : goal.returns-clause-inside
returns-clause-inside c =
    let shape = c.args.shape.now in
    let at_end : c.loop-i.i ≡ 0 = omega arith in
    let all = ap (λ i. place_of (drop i (take shape.n shape.len)) (drop i (take shape.n c.args.at.now))) at_end in
    omega (arith, c.loop-i.invariant, all, index_lt shape.len c.args.at.now shape.n (omega arith) c.requires.at)
