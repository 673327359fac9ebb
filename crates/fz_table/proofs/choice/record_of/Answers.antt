use Rattle.std.proofs.Common.{◌≡◌, ◌*◌, ◌<◌, Some, false, sym, ap, ◌∙◌, arith, rules}
use Rattle.fz_table.specs.Rows.{heap_range}
use Rattle.fz_table.specs.Records.{chosen_column, described_in, unit_in, has_none}
use Rattle.fz_table.proofs.Chosen.{chosen_bytes, in_heap}
use Rattle.fz_table.proofs.choice.record_of.Goals as goal

pub returns-clause-within : goal.returns-clause-within
returns-clause-within c =
    let t = c.args.table.now in
    let r = c.args.says.now in
    let some : has_none r ≡ false = search rules in
    let bytes = chosen_bytes t r c.requires.table c.requires.says some in
    let is : heap_range t c.unit_in.result c.described_in-d.result ≡ Some (c.in-Some.start, c.in-Some.total) = sym c.heap_range.ensures ∙ c.in-Some.is in
    let heap = in_heap t c.unit_in.result c.described_in-d.result c.in-Some.start c.in-Some.total is in
    let column : c.chosen_column-column.result ≡ chosen_column r = c.chosen_column-column.ensures in
    let d : c.described_in-d.result ≡ described_in r (chosen_column r) = c.described_in-d.ensures ∙ ap (described_in r) column in
    let unit : c.unit_in.result ≡ unit_in t (chosen_column r) = c.unit_in.ensures ∙ ap (unit_in t) column in
    let total : c.in-Some.total ≡ (described_in r (chosen_column r)).count * unit_in t (chosen_column r) = heap.total_is ∙ (ap (λ k. k.count * c.unit_in.result) d ∙ ap (λ n. (described_in r (chosen_column r)).count * n) unit) in
    let above : 0 < c.in-Some.total = omega (arith, bytes, total) in
    record {
      some = omega (arith, above, c.min.ensures);
      limit = omega (arith, c.min.ensures, c.from.ensures);
      first = omega (arith, c.min.ensures);
      most = omega (arith, c.min.ensures, c.from.ensures);
      start = omega (arith, heap.start_is);
      stop = omega (arith, heap.start_is, heap.within);
    }
