use Rattle.std.proofs.Common.{◌≡◌, ℕ, ◌+◌, ◌^◌, ◌<◌, Bool, pos, List, take, get_or, Ok, Err, sym, subst, ap, ◌∙◌, rules}
use Rattle.std.specs.Int.{w32}
use Rattle.std.specs.Prelude.{FitsSigned}
use Rattle.std.proofs.lemmas.Int.{to_z-of_z}
use Rattle.std.proofs.lemmas.Result.{err_from_is_err_and}
use Rattle.fz_rice.specs.Numbers.{residue}
use Rattle.fz_rice.specs.Code.{difference, mapped, split_bits}
use Rattle.fz_rice.specs.Writing.{Writes}
use Rattle.fz_rice.proofs.NumbersLemmas.{residue_lt}
use Rattle.fz_rice.proofs.WritesLemmas.{last_residue, last_residue-nil, last_residue-more, loop_writes, loop_stops, writes_nothing}
use Rattle.fz_rice.proofs.encode.write_each.Goals as goal

pub loop-number-init : goal.loop-number-init
loop-number-init g c = record {
  half = writes_nothing c.args.writer.now (c.room_law.ensures c.args.writer.now);
  last = sym (last_residue-nil g.row.W c.args.start);
  below = c.requires.start;
}

pub returns-in_err-write_value : goal.returns-in_err-write_value
returns-in_err-write_value g c =
    let w = g.row.W in
    let start = c.args.start in
    let xs = c.args.numbers.now in
    let i = c.loop-number.number-index in
    let f : ℕ → List Bool = split_bits c.args.k in
    let old = c.args.writer.now in
    let new = c.write_value.new.writer in
    let item = get_or xs i (pos 0) in
    let fits : FitsSigned w32 item = search rules in
    let next : c.residue-next.result ≡ residue w item = c.residue-next.ensures ∙ ap (residue w) (to_z-of_z w32 item fits) in
    let is : c.mapped.result ≡ mapped w (difference w (last_residue w start (take i xs)) (residue w item)) = c.mapped.ensures ∙ ap (λ u. mapped w (difference w c.loop-number.last u)) next ∙ ap (λ u. mapped w (difference w u (residue w item))) c.loop-number.invariant.last in
    let k = c.in_err-write_value.ensures in
    let one : Writes {A = Unit {0}} (Err c.in_err-write_value.field-0.0) (f c.mapped.result) c.loop-number.writer new = k in
    let more = loop_writes tt f w start xs i (pos 0) (Err c.in_err-write_value.field-0.0) c.mapped.result old c.loop-number.writer new c.loop-number-test.true is c.loop-number.invariant.half one in
    let p = err_from_is_err_and c.from_residual.result c.from_residual.ensures.1 in
    rw p.1 (loop_stops c.in_err-write_value.field-0.0 p.0 f w start xs (i + 1) old new more)

pub loop-number-preserved : goal.loop-number-preserved
loop-number-preserved g c =
    let w = g.row.W in
    let start = c.args.start in
    let xs = c.args.numbers.now in
    let i = c.loop-number.number-index in
    let f : ℕ → List Bool = split_bits c.args.k in
    let old = c.args.writer.now in
    let new = c.write_value.new.writer in
    let item = get_or xs i (pos 0) in
    let fits : FitsSigned w32 item = search rules in
    let next : c.residue-next.result ≡ residue w item = c.residue-next.ensures ∙ ap (residue w) (to_z-of_z w32 item fits) in
    let is : c.mapped.result ≡ mapped w (difference w (last_residue w start (take i xs)) (residue w item)) = c.mapped.ensures ∙ ap (λ u. mapped w (difference w c.loop-number.last u)) next ∙ ap (λ u. mapped w (difference w u (residue w item))) c.loop-number.invariant.last in
    let k = c.in_ok-write_value.ensures in
    let one : Writes {A = Unit {0}} (Ok c.in_ok-write_value.field-0) (f c.mapped.result) c.loop-number.writer new = k in
    record {
      half = loop_writes tt f w start xs i (pos 0) (Ok c.in_ok-write_value.field-0) c.mapped.result old c.loop-number.writer new c.loop-number-test.true is c.loop-number.invariant.half one;
      last = next ∙ sym (last_residue-more w start xs i (pos 0) c.loop-number-test.true);
      below = subst (λ (u : ℕ). u < 2 ^ w) (sym next) (residue_lt w item);
    }
