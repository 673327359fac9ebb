-- What the next block says: in a source that shows its bytes, the block that was read is the file's.
use Rattle.std.proofs.Common.{◌+◌, ◌*◌, min, length, Ok, Err, arith, rules}
use Rattle.fz_base.specs.Source.{Reads, MayLog}
use Rattle.fz_block.proofs.Search.{past_end, by_block}
use Rattle.fz_block.proofs.blocks.read_block.Goals as goal

pub returns-then-length-at-clause-exact : goal.returns-then-length-at-clause-exact
returns-then-length-at-clause-exact g c =
    past_end (g.S.Source.held c.args.source.now) c.args.length c.args.hdu c.args.start c.args.b c.refused.result
    (g.met.S.Source.agrees c.args.source.now c.args.length c.requires.attached) c.requires.within (omega arith) c.refused.ensures

pub returns-in-Ok-clause-exact : goal.returns-in-Ok-clause-exact
returns-in-Ok-clause-exact g c =
    let read : Reads (g.S.Source.held c.args.source.now) (c.args.start + 2880 * c.from.result) c.read_at.new.into = search rules in
    by_block (g.S.Source.held c.args.source.now) c.args.length c.args.hdu c.args.start c.args.b c.read_at.new.into (Ok c.in-Ok.has_end)
    (g.met.S.Source.agrees c.args.source.now c.args.length c.requires.attached) (omega arith) (omega arith)
    (rw c.from.ensures at read) c.in-Ok.ensures.says

pub returns-in-Err-clause-exact : goal.returns-in-Err-clause-exact
returns-in-Err-clause-exact g c =
    let read : Reads (g.S.Source.held c.args.source.now) (c.args.start + 2880 * c.from.result) c.read_at.new.into = search rules in
    by_block (g.S.Source.held c.args.source.now) c.args.length c.args.hdu c.args.start c.args.b c.read_at.new.into (Err c.in-Err.fault)
    (g.met.S.Source.agrees c.args.source.now c.args.length c.requires.attached) (omega arith) (omega arith)
    (rw c.from.ensures at read) c.in-Err.ensures.says

pub returns-in-Ok-clause-read : goal.returns-in-Ok-clause-read
returns-in-Ok-clause-read g c =
    let read : Reads (g.S.Source.held c.args.source.now) (c.args.start + 2880 * c.from.result) c.read_at.new.into = search rules in
    rw c.from.ensures at read

pub returns-in_err-map_err-clause-log : goal.returns-in_err-map_err-clause-log
returns-in_err-map_err-clause-log g c =
    let may : MayLog (c.args.start + 2880 * c.from.result) (length c.args.block.now) (g.S.Source.ranges c.args.source.now) (g.S.Source.ranges c.read_at.new.self) = search rules in
    c.log_law.ensures.one (c.args.start + 2880 * c.args.b) (min c.args.length (c.args.start + 2880 * (c.args.b + 1))) (c.args.start + 2880 * c.from.result) (length c.args.block.now)
    (g.S.Source.ranges c.args.source.now) (g.S.Source.ranges c.read_at.new.self) (omega (arith, c.requires.block)) (omega (arith, c.from.ensures)) (omega (arith, c.from.ensures, c.requires.block)) may

pub returns-in-Ok-clause-log : goal.returns-in-Ok-clause-log
returns-in-Ok-clause-log g c =
    let may : MayLog (c.args.start + 2880 * c.from.result) (length c.args.block.now) (g.S.Source.ranges c.args.source.now) (g.S.Source.ranges c.read_at.new.self) = search rules in
    c.log_law.ensures.one (c.args.start + 2880 * c.args.b) (min c.args.length (c.args.start + 2880 * (c.args.b + 1))) (c.args.start + 2880 * c.from.result) (length c.args.block.now)
    (g.S.Source.ranges c.args.source.now) (g.S.Source.ranges c.read_at.new.self) (omega (arith, c.requires.block)) (omega (arith, c.from.ensures)) (omega (arith, c.from.ensures, c.requires.block)) may

pub returns-in-Err-clause-log : goal.returns-in-Err-clause-log
returns-in-Err-clause-log g c =
    let may : MayLog (c.args.start + 2880 * c.from.result) (length c.args.block.now) (g.S.Source.ranges c.args.source.now) (g.S.Source.ranges c.read_at.new.self) = search rules in
    c.log_law.ensures.one (c.args.start + 2880 * c.args.b) (min c.args.length (c.args.start + 2880 * (c.args.b + 1))) (c.args.start + 2880 * c.from.result) (length c.args.block.now)
    (g.S.Source.ranges c.args.source.now) (g.S.Source.ranges c.read_at.new.self) (omega (arith, c.requires.block)) (omega (arith, c.from.ensures)) (omega (arith, c.from.ensures, c.requires.block)) may
