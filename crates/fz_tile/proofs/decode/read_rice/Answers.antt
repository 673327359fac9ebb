-- Each width by itself.
use Rattle.std.proofs.Common.{◌≡◌, ℕ, ◌*◌, length, rules, ap, sym, subst}
use Rattle.fz_tile.specs.Coding.{ReadsRice}
use Rattle.fz_tile.proofs.decode.read_rice.Goals as goal

pub returns-in-1 : goal.returns-in-1
returns-in-1 c =
    let is : c.args.bytepix ≡ 1 = search rules in
    subst (λ (k : ℕ). ReadsRice (8 * k) c.args.block c.args.total c.args.code.now (length c.args.numbers.now) c.read_rice_code.result c.read_rice_code.new.numbers) (sym is) c.read_rice_code.ensures

pub returns-in-2 : goal.returns-in-2
returns-in-2 c =
    let is : c.args.bytepix ≡ 2 = search rules in
    subst (λ (k : ℕ). ReadsRice (8 * k) c.args.block c.args.total c.args.code.now (length c.args.numbers.now) c.read_rice_code-in-2.result c.read_rice_code-in-2.new.numbers) (sym is) c.read_rice_code-in-2.ensures

pub returns-in_default : goal.returns-in_default
returns-in_default c =
    let is : 8 * c.args.bytepix ≡ 32 = search rules in
    subst (λ (w : ℕ). ReadsRice w c.args.block c.args.total c.args.code.now (length c.args.numbers.now) c.read_rice_code-in_default.result c.read_rice_code-in_default.new.numbers) (sym is) c.read_rice_code-in_default.ensures
