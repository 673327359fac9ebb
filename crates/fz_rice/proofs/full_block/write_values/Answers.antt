use Rattle.std.proofs.Common.{ℕ, ◌+◌, Bool, List, get_or, Err}
use Rattle.std.proofs.lemmas.Result.{err_from_is_err_and}
use Rattle.fz_rice.specs.Code.{split_bits}
use Rattle.fz_rice.specs.Writing.{Writes}
use Rattle.fz_rice.proofs.WritesLemmas.{writes_nothing}
use Rattle.fz_rice.proofs.FieldsLemmas.{value_write, values_stop}
use Rattle.fz_rice.proofs.full_block.write_values.Goals as goal

pub loop-value-init : goal.loop-value-init
loop-value-init c = writes_nothing c.args.writer.now (c.room_law.ensures c.args.writer.now)

pub returns-in_err-write_value : goal.returns-in_err-write_value
returns-in_err-write_value c =
    let vs = c.args.values.now in
    let i = c.loop-value.value-index in
    let f : ℕ → List Bool = split_bits c.args.k in
    let old = c.args.writer.now in
    let mid = c.loop-value.writer in
    let new = c.write_value.new.writer in
    let e = c.in_err-write_value.field-0.0 in
    let one : Writes {A = Unit {0}} (Err e) (f (get_or vs i 0)) mid new = c.in_err-write_value.ensures in
    let more = value_write tt f vs i 0 (Err e) old mid new c.loop-value-test.true c.loop-value.invariant one in
    let p = err_from_is_err_and c.from_residual.result c.from_residual.ensures.1 in
    rw p.1 (values_stop e p.0 f vs (i + 1) old new more)
