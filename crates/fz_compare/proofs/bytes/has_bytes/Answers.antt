-- The bytes are looked at only if they end before the place that is given.
use Rattle.std.proofs.Common.{◌≡◌, ℕ, ◌+◌, List, Option, length, refl, arith}
use Rattle.fz_compare.proofs.Pieces.{there_before}
use Rattle.fz_compare.proofs.bytes.has_bytes.Goals as goal

pub returns-then-at-bytes-clause-read : goal.returns-then-at-bytes-clause-read
returns-then-at-bytes-clause-read g c = c.log_law.ensures.none c.args.at c.args.end (g.S.Source.ranges c.args.source.now)

pub has_bytes-requires-clause-within : goal.has_bytes-requires-clause-within
has_bytes-requires-clause-within g c = (c.requires.within.0, c.requires.within.1, omega (arith, c.requires.within.2, c.if-at-bytes.false))

pub returns-clause-same : goal.returns-clause-same
returns-clause-same g c = there_before (g.S.Source.held c.args.source.now) c.args.at c.args.end c.args.bytes.now c.has_bytes.result c.if-at-bytes.false c.has_bytes.ensures.same

pub returns-clause-read : goal.returns-clause-read
returns-clause-read g c =
    let old : Option (List (ℕ × ℕ)) = g.S.Source.ranges c.args.source.now in
    let new : Option (List (ℕ × ℕ)) = g.S.Source.ranges c.has_bytes.new.source in
    c.log_law.ensures.wider c.args.at (c.args.at + length c.args.bytes.now) c.args.at c.args.end old new (omega arith) c.if-at-bytes.false c.has_bytes.ensures.read
