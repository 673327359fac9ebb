-- One read is one range.
use Rattle.std.proofs.Common.{rules}
use Rattle.fz_base.specs.Source.{MayLog}
use Rattle.fz_look.proofs.Copying.{told_log}
use Rattle.fz_look.proofs.fronts.read_front.Goals as goal

pub returns-in_err-read_at-clause-stays : goal.returns-in_err-read_at-clause-stays
returns-in_err-read_at-clause-stays g c = (
  record {
    held_is = search rules;
    attached_is = search rules;
    told =
        let may : MayLog c.args.from c.args.count (g.S.Source.ranges c.args.source.now) (g.S.Source.ranges c.read_at.new.self) = search rules in
        told_log c.log_law.ensures.told c.args.from c.args.count (g.S.Source.ranges c.args.source.now) (g.S.Source.ranges c.read_at.new.self) may;
  },
  search rules,
)

pub returns-clause-stays : goal.returns-clause-stays
returns-clause-stays g c = (
  record {
    held_is = search rules;
    attached_is = search rules;
    told =
        let may : MayLog c.args.from c.args.count (g.S.Source.ranges c.args.source.now) (g.S.Source.ranges c.read_at.new.self) = search rules in
        told_log c.log_law.ensures.told c.args.from c.args.count (g.S.Source.ranges c.args.source.now) (g.S.Source.ranges c.read_at.new.self) may;
  },
  search rules,
)
