-- Both pieces begin with a word, so their totals are those of their words.
use Rattle.std.proofs.Common.{rules, ◌≡◌, ◌+◌, ◌<◌, ◌≤◌, ◌^◌, length, refl, ap, ◌∙◌}
use Rattle.std.specs.Int.{w32, to_be_bytes}
use Rattle.fz_sum.specs.Sums.{carried}
use Rattle.fz_sum.specs.Pieces.{Added, total_at, nothing, after}
use Rattle.fz_c.specs.Sums.Sums.{done}
use Rattle.fz_c.proofs.SumLemmas.{both}
use Rattle.fz_c.proofs.sum.fz_sum.Goals as goal

pub returns-clause-answer : goal.returns-clause-answer
returns-clause-answer c =
    let small : c.args.before < 2 ^ 32 = search rules in
    let few : length c.args.bytes.now ≤ 2 ^ 60 = search rules in
    let first : c.add.new.self ≡ after nothing 0 (to_be_bytes w32 c.args.before) = search rules in
    let second : c.add-2.new.self ≡ after c.add.new.self 0 c.args.bytes.now = search rules in
    let total : c.add-2.new.self.total ≡ 0 + total_at 0 (to_be_bytes w32 c.args.before) + total_at 0 c.args.bytes.now =
    ap (λ (a : Added). a.total) (second ∙ ap (λ (a : Added). after a 0 c.args.bytes.now) first) in
    let value : c.value.result ≡ carried c.add-2.new.self.total = search rules in
    done refl few (value ∙ ap carried (total ∙ both c.sum_law.ensures.whole c.args.before c.args.bytes.now small))
