use Rattle.std.proofs.Common.{◌≡◌, ℕ, ◌+◌, List, length, subst, arith, rules}
use Rattle.fz_base.specs.Source.{Reads}
use Rattle.fz_table.specs.Rows.{descriptor_len, descriptor_start}
use Rattle.fz_table.proofs.Descriptors.{pair_from}
use Rattle.fz_table.proofs.reading.read_pair.Goals as goal

pub returns-clause-exact : goal.returns-clause-exact
returns-clause-exact g c =
    let held = g.S.Source.held c.args.source.now in
    let t = c.args.table.now in
    let first = c.args.first.now in
    let second = c.args.second.now in
    let buffer : List ℕ = c.read_at.new.into in
    let start : c.row_start.result + c.from.result ≡ descriptor_start t first c.args.row = omega (arith, c.row_start.ensures.start, c.from.ensures) in
    let len : length buffer ≡ descriptor_len first.wide + descriptor_len second.wide = search rules in
    let answered : Reads held (c.row_start.result + c.from.result) buffer = search rules in
    let read = subst (λ (k : ℕ). Reads held k buffer) start answered in
    pair_from held t first second c.args.row buffer c.pair_in.result.0 c.pair_in.result.1 c.requires.together len read c.pair_in.ensures.first c.pair_in.ensures.second
