use Rattle.std.proofs.Common.{◌≡◌, ℕ, ◌+◌, ◌-◌, ◌*◌, ◌<◌, Bool, List, take, drop, get_or, slice_index, Ok, Err, sym, subst, ap, ◌∙◌, arith}
use Rattle.std.specs.List.{flat_map}
use Rattle.std.proofs.lemmas.List.{get_or-drop, get_or-take}
use Rattle.std.proofs.lemmas.Result.{err_from_is_err_and}
use Rattle.fz_rice.specs.Code.{split_bits}
use Rattle.fz_rice.specs.Writing.{IsField, Writes}
use Rattle.fz_rice.proofs.WritesLemmas.{writes_nothing}
use Rattle.fz_rice.proofs.FieldsLemmas.{values_write, values_stop}
use Rattle.fz_rice.proofs.full_block.write_split_values.Goals as goal

pub loop-q-init : goal.loop-q-init
loop-q-init c = writes_nothing c.args.writer.now (c.room_law.ensures c.args.writer.now)

pub returns-in_err-write_four : goal.returns-in_err-write_four
returns-in_err-write_four c =
    let vs = c.args.values.now in
    let i = 4 * c.loop-q.q in
    let f : ℕ → List Bool = split_bits c.args.k in
    let old = c.args.writer.now in
    let mid = c.loop-q.writer in
    let new = c.write_four.new.writer in
    let e = c.in_err-write_four.field-0.0 in
    let same : i + 4 - i ≡ 4 = omega arith in
    let one : Writes {A = Unit {0}} (Err e) (flat_map f (take 4 (drop i vs))) mid new = subst (λ (n : ℕ). Writes {A = Unit {0}} (Err e) (flat_map f (take n (drop i vs))) mid new) same c.in_err-write_four.ensures in
    let more = values_write tt f vs i 4 (Err e) old mid new c.loop-q.invariant one in
    let p = err_from_is_err_and c.from_residual.result c.from_residual.ensures.1 in
    rw p.1 (values_stop e p.0 f vs (i + 4) old new more)

pub loop-q-preserved : goal.loop-q-preserved
loop-q-preserved c =
    let vs = c.args.values.now in
    let i = 4 * c.loop-q.q in
    let f : ℕ → List Bool = split_bits c.args.k in
    let old = c.args.writer.now in
    let mid = c.loop-q.writer in
    let new = c.write_four.new.writer in
    let a = c.in_ok-write_four.field-0 in
    let same : i + 4 - i ≡ 4 = omega arith in
    let one : Writes {A = Unit {0}} (Ok a) (flat_map f (take 4 (drop i vs))) mid new = subst (λ (n : ℕ). Writes {A = Unit {0}} (Ok a) (flat_map f (take n (drop i vs))) mid new) same c.in_ok-write_four.ensures in
    let next : i + 4 ≡ 4 * (c.loop-q.q + 1) = omega arith in
    subst (λ (n : ℕ). Writes {A = Unit {0}} (Ok tt) (flat_map f (take n vs)) old new) next (values_write tt f vs i 4 (Ok a) old mid new c.loop-q.invariant one)

-- a field of a value is that of the value in a part of the list
in_part : (k : ℕ) (vs : List ℕ) (i n j m bits width : ℕ) → j < n → m ≡ i + j → IsField k (slice_index vs m) bits width → IsField k (slice_index (take n (drop i vs)) j) bits width
in_part k vs i n j m bits width h at is =
    subst (λ (v : ℕ). IsField k v bits width) (sym (get_or-take n (drop i vs) j 0 h ∙ get_or-drop i vs j 0 ∙ ap (λ x. get_or vs x 0) (sym at))) is

pub write_four-requires-clause-first : goal.write_four-requires-clause-first
write_four-requires-clause-first c =
    let i = 4 * c.loop-q.q in
    in_part c.args.k c.args.values.now i (i + 4 - i) 0 (4 * c.loop-q.q) _ _ (omega arith) (omega arith) (c.of-fields.ensures (4 * c.loop-q.q) (omega arith))

pub write_four-requires-clause-second : goal.write_four-requires-clause-second
write_four-requires-clause-second c =
    let i = 4 * c.loop-q.q in
    in_part c.args.k c.args.values.now i (i + 4 - i) 1 (4 * c.loop-q.q + 1) _ _ (omega arith) (omega arith) (c.of-fields.ensures (4 * c.loop-q.q + 1) (omega arith))

pub write_four-requires-clause-third : goal.write_four-requires-clause-third
write_four-requires-clause-third c =
    let i = 4 * c.loop-q.q in
    in_part c.args.k c.args.values.now i (i + 4 - i) 2 (4 * c.loop-q.q + 2) _ _ (omega arith) (omega arith) (c.of-fields.ensures (4 * c.loop-q.q + 2) (omega arith))

pub write_four-requires-clause-fourth : goal.write_four-requires-clause-fourth
write_four-requires-clause-fourth c =
    let i = 4 * c.loop-q.q in
    in_part c.args.k c.args.values.now i (i + 4 - i) 3 (4 * c.loop-q.q + 3) _ _ (omega arith) (omega arith) (c.of-fields.ensures (4 * c.loop-q.q + 3) (omega arith))
