-- A number rounded up to whole blocks.
use Rattle.std.proofs.Common.{◌≡◌, ℕ, ◌+◌, ◌-◌, ◌*◌, ◌/◌, ◌%◌, ◌≤◌, ap, ◌∙◌, arith}
use Rattle.std.proofs.Math.Nat.{mul-mod_left}
use Rattle.std.proofs.lemmas.Nat.{div-add-mod', mod_below}
use Rattle.fz_pixels.proofs.parts.block_end.Goals as goal

-- no less than the number
reaches : (end block : ℕ) → 1 ≤ block → end ≤ (end + (block - 1)) / block * block
reaches end block some =
    let whole = div-add-mod' (end + (block - 1)) block in
    let rest = mod_below (end + (block - 1)) block (omega (arith, some)) in
    omega (arith, whole, rest, some)

-- and not a block more
fits : (end block : ℕ) → (end + (block - 1)) / block * block ≤ end + (block - 1)
fits end block = let whole = div-add-mod' (end + (block - 1)) block in omega (arith, whole)

pub overflow_mul-whole : goal.overflow_mul-whole
overflow_mul-whole c = let most = fits c.args.end c.args.block in record { fits = omega (arith, most, c.requires.block.1, c.requires.end, c.requires.pixels) }

pub returns-clause-reach : goal.returns-clause-reach
returns-clause-reach c = let least = reaches c.args.end c.args.block c.requires.block.0 in omega (arith, least, c.min.ensures, c.requires.end)

pub returns-clause-near : goal.returns-clause-near
returns-clause-near c = let most = fits c.args.end c.args.block in omega (arith, most, c.min.ensures, c.requires.block.0)

pub returns-clause-whole : goal.returns-clause-whole
returns-clause-whole c less =
    let whole : ℕ = (c.args.end + (c.args.block - 1)) / c.args.block * c.args.block in
    let is : c.min.result ≡ whole = omega (arith, c.min.ensures, less) in
    ap (λ n. n % c.args.block) is ∙ mul-mod_left ((c.args.end + (c.args.block - 1)) / c.args.block) c.args.block
