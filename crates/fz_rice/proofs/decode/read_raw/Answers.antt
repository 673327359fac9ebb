use Rattle.std.proofs.Common.{◌≡◌, ℕ, ◌+◌, ◌-◌, ◌^◌, ◌<◌, Bool, List, length, take, set, sym, subst, ◌∙◌, arith, rules, to_z, of_z}
use Rattle.std.specs.Int.{w32}
use Rattle.std.specs.Prelude.{FitsSigned}
use Rattle.std.proofs.lemmas.Int.{to_z-of_z}
use Rattle.std.proofs.lemmas.Result.{err_from_is_err_and}
use Rattle.std.proofs.lemmas.List.{length-set}
use Rattle.fz_bits.specs.Reader.{left}
use Rattle.fz_rice.specs.Reading.{Reading, number_at, many_at, number}
use Rattle.fz_rice.proofs.NumbersLemmas.{next_lt}
use Rattle.fz_rice.proofs.HalfwayLemmas.{halfway_step, halfway_fault_at, halfway_all}
use Rattle.fz_rice.proofs.decode.read_raw.Goals as goal

pub returns-in_err-value-clause-numbers : goal.returns-in_err-value-clause-numbers
returns-in_err-value-clause-numbers g c =
    let w = g.row.W in
    let read : List Bool → Reading ℕ = number_at w in
    let whole = many_at read (length c.args.numbers.now) (left c.args.reader.now) in
    let p = err_from_is_err_and c.from_residual.result c.from_residual.ensures.1 in
    rw (p.1, p.2) (halfway_fault_at w c.args.start whole read (length c.loop-i.numbers - c.loop-i.i) (left c.loop-i.reader) (take c.loop-i.i c.loop-i.numbers) c.loop-i.last c.in_err-value.field-0.0 c.loop-i.invariant.half (omega arith) c.in_err-value.ensures.number)

pub loop-i-preserved : goal.loop-i-preserved
loop-i-preserved g c =
    let w = g.row.W in
    let read : List Bool → Reading ℕ = number_at w in
    let i = c.loop-i.i in
    let numbers = c.loop-i.numbers in
    let whole = many_at read (length c.args.numbers.now) (left c.args.reader.now) in
    let fits : FitsSigned w32 c.number.result = search rules in
    let x = to_z w32 (of_z w32 c.number.result) in
    let is : x ≡ number w c.next_residue-last.result = to_z-of_z w32 c.number.result fits ∙ c.number.ensures in
    let len = length-set numbers i x in
    record {
      half = halfway_step w c.args.start whole read (length numbers - i) (length (set numbers i x) - (i + 1)) i (left c.loop-i.reader) (left c.read_number.new.reader) numbers x c.loop-i.last c.in_ok-value.value c.next_residue-last.result c.loop-i.invariant.half (omega arith) c.in_ok-value.ensures.number c.next_residue-last.ensures is (omega arith);
      below = subst (λ (u : ℕ). u < 2 ^ w) (sym c.next_residue-last.ensures) (next_lt w c.loop-i.last c.in_ok-value.value);
      count = c.in_ok-value.ensures.count ∙ c.loop-i.invariant.count;
    }

pub returns-clause-numbers : goal.returns-clause-numbers
returns-clause-numbers g c =
    let w = g.row.W in
    let read : List Bool → Reading ℕ = number_at w in
    let whole = many_at read (length c.args.numbers.now) (left c.args.reader.now) in
    halfway_all w c.args.start whole read (length c.loop-i.numbers - c.loop-i.i) c.loop-i.i (left c.loop-i.reader) c.loop-i.numbers c.loop-i.last c.loop-i.invariant.half (omega arith) (omega arith)
