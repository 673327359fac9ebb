-- Each width by itself.
use Rattle.std.proofs.Common.{◌≡◌, ℕ, ◌*◌, length, rules, sym, subst}
use Rattle.fz_tile.specs.Parts.{ReadsCodeOn}
use Rattle.fz_tile.proofs.part.read_part.Goals as goal

pub returns-in-1 : goal.returns-in-1
returns-in-1 c =
    let is : c.args.bytepix ≡ 1 = search rules in
    subst (λ (k : ℕ). ReadsCodeOn (8 * k) c.args.block c.args.code.now c.args.mark (length c.args.numbers.now) c.read_part_code.new.numbers c.read_part_code.result) (sym is) c.read_part_code.ensures

pub returns-in-2 : goal.returns-in-2
returns-in-2 c =
    let is : c.args.bytepix ≡ 2 = search rules in
    subst (λ (k : ℕ). ReadsCodeOn (8 * k) c.args.block c.args.code.now c.args.mark (length c.args.numbers.now) c.read_part_code-in-2.new.numbers c.read_part_code-in-2.result) (sym is) c.read_part_code-in-2.ensures

pub returns-in_default : goal.returns-in_default
returns-in_default c =
    let is : 8 * c.args.bytepix ≡ 32 = search rules in
    subst (λ (w : ℕ). ReadsCodeOn w c.args.block c.args.code.now c.args.mark (length c.args.numbers.now) c.read_part_code-in_default.new.numbers c.read_part_code-in_default.result) (sym is) c.read_part_code-in_default.ensures
