-- The rows are compared, and then the codes.
use Rattle.std.proofs.Common.{◌≡◌, ℕ, ◌+◌, ◌*◌, ◌^◌, ◌≤◌, ◌<◌, List, Option, IfSome, true, false, length, sym, ap, ◌∙◌, subst, arith, rules}
use Rattle.std.proofs.Math.Nat.{mul-add, mul-le-mul_left}
use Rattle.std.proofs.lemmas.Result.{IfOk-weaker}
use Rattle.fz_pool.specs.Round.{coded_tiles}
use Rattle.fz_compare.specs.Compared.{ComparesCodes, ComparesHeap, has_bytes}
use Rattle.fz_compare.proofs.RowsAndHeap.{rows_len}
use Rattle.fz_compare.proofs.RowsCompared.{coded_count_is, codes_same, rows_differ}
use Rattle.fz_compare.proofs.Sizes.{rows_small}
use Rattle.fz_compare.proofs.coded.compare_coded.Goals as goal

pub has_bytes-requires-clause-near : goal.has_bytes-requires-clause-near
has_bytes-requires-clause-near g c =
    let l = c.args.layout.now in
    let w = c.args.progress in
    let count : ℕ = c.args.coming.count in
    let es = coded_tiles count c.args.window.now.slots in
    let many : length es ≡ count = coded_count_is count c.args.window.now c.requires.next.filled c.requires.next.near in
    let place : c.from.result * c.from-2.result ≡ l.row_len * w.tiles = λ i. c.from.ensures i * c.from-2.ensures i in
    let long : length c.put_rows.new.into ≡ l.row_len * count = ap length c.put_rows.ensures ∙ rows_len l.plan w.heap es ∙ (λ i. (sym c.requires.layout.row_len) i * many i) in
    let most : l.row_len * (w.tiles + count) ≤ l.row_len * l.tiles = mul-le-mul_left l.row_len c.requires.tiles in
    omega (arith, place, long, mul-add l.row_len w.tiles count, most, rows_small l c.requires.layout, c.requires.layout.near)

pub returns-then-not-same-clause-compared : goal.returns-then-not-same-clause-compared
returns-then-not-same-clause-compared g c =
    let held : Option (List ℕ) = g.S.Source.held c.args.source.now in
    let l = c.args.layout.now in
    let w = c.args.progress in
    let es = coded_tiles c.args.coming.count c.args.window.now.slots in
    let at : ℕ = l.rows_at + c.from.result * c.from-2.result in
    let place : at ≡ l.rows_at + l.row_len * w.tiles = λ i. l.rows_at + c.from.ensures i * c.from-2.ensures i in
    let other : IfSome held (λ file. false ≡ has_bytes file at c.args.coming.end c.put_rows.new.into) = search rules in
    rows_differ c.args.coming.end l w es c.put_rows.new.into at c.put_rows.ensures place held other

pub returns-clause-compared : goal.returns-clause-compared
returns-clause-compared g c =
    let held : Option (List ℕ) = g.S.Source.held c.args.source.now in
    let l = c.args.layout.now in
    let w = c.args.progress in
    let count : ℕ = c.args.coming.count in
    let es = coded_tiles count c.args.window.now.slots in
    let at : ℕ = l.rows_at + c.from.result * c.from-2.result in
    let place : at ≡ l.rows_at + l.row_len * w.tiles = λ i. l.rows_at + c.from.ensures i * c.from-2.ensures i in
    let many : length es ≡ count = coded_count_is count c.args.window.now c.requires.next.filled c.requires.next.near in
    let same : IfSome held (λ file. true ≡ has_bytes file at c.args.coming.end c.put_rows.new.into) = search rules in
    let stays : g.S.Source.held c.has_bytes.new.source ≡ held = c.in_ok-same.ensures.stays.0.held_is in
    IfOk-weaker c.compare_codes.result _ _
    (λ now compared. codes_same c.args.coming.end l w es c.put_rows.new.into at c.put_rows.ensures place held c.add_rows.new.self count now c.add_rows.ensures many same
    (subst (λ (k : Option (List ℕ)). IfSome k (λ file. ComparesHeap file c.args.coming.end l c.add_rows.new.self es now)) stays compared))
    c.compare_codes.ensures.compared

pub returns-in_err-same-clause-read : goal.returns-in_err-same-clause-read
returns-in_err-same-clause-read g c =
    c.log_law.ensures.wider _ c.args.coming.end 0 c.args.coming.end (g.S.Source.ranges c.args.source.now) (g.S.Source.ranges c.has_bytes.new.source) (omega arith) (omega arith) c.in_err-same.ensures.read

pub returns-then-not-same-clause-read : goal.returns-then-not-same-clause-read
returns-then-not-same-clause-read g c =
    c.log_law.ensures.wider _ c.args.coming.end 0 c.args.coming.end (g.S.Source.ranges c.args.source.now) (g.S.Source.ranges c.has_bytes.new.source) (omega arith) (omega arith) c.in_ok-same.ensures.read

pub returns-clause-read : goal.returns-clause-read
returns-clause-read g c =
    c.log_law.ensures.both 0 c.args.coming.end (g.S.Source.ranges c.args.source.now) (g.S.Source.ranges c.has_bytes.new.source) (g.S.Source.ranges c.compare_codes.new.source)
    (c.log_law.ensures.wider _ c.args.coming.end 0 c.args.coming.end (g.S.Source.ranges c.args.source.now) (g.S.Source.ranges c.has_bytes.new.source) (omega arith) (omega arith) c.in_ok-same.ensures.read) c.compare_codes.ensures.read
