use Rattle.std.proofs.Common.{◌≡◌, ℕ, ◌+◌, ◌-◌, ◌^◌, ◌<◌, Bool, pos, List, take, drop, get_or, Ok, Err, sym, subst, ap, ◌∙◌, arith, rules}
use Rattle.std.specs.List.{flat_map}
use Rattle.std.specs.Int.{w32}
use Rattle.std.specs.Prelude.{FitsSigned}
use Rattle.std.proofs.lemmas.Int.{to_z-of_z}
use Rattle.std.proofs.lemmas.List.{take_all}
use Rattle.std.proofs.lemmas.Result.{err_from_is_err_and}
use Rattle.fz_rice.specs.Numbers.{residue}
use Rattle.fz_rice.specs.Code.{differences, split_bits}
use Rattle.fz_rice.specs.Writing.{Writes}
use Rattle.fz_rice.proofs.NumbersLemmas.{residue_lt}
use Rattle.fz_rice.proofs.WritesLemmas.{last_residue, last_residue-nil, last_residue-more, part_writes, loop_stops, writes_nothing}
use Rattle.fz_rice.proofs.encode.write_split.Goals as goal

pub loop-at-init : goal.loop-at-init
loop-at-init g c = record {
  half = writes_nothing c.args.writer.now (c.room_law.ensures c.args.writer.now);
  last = sym (last_residue-nil g.row.W c.args.start);
  within = omega arith;
  below = c.requires.start;
}

pub returns-in_err-write_few : goal.returns-in_err-write_few
returns-in_err-write_few g c =
    let w = g.row.W in
    let start = c.args.start in
    let xs = c.args.numbers.now in
    let at = c.loop-at.at in
    let n = c.min.result in
    let f : ℕ → List Bool = split_bits c.args.k in
    let old = c.args.writer.now in
    let mid = c.loop-at.writer in
    let new = c.write_few.new.writer in
    let e = c.in_err-write_few.field-0.0 in
    let same : at + n - at ≡ n = omega arith in
    let one : Writes {A = Unit {0}} (Err e) (flat_map f (differences w c.loop-at.last (take n (drop at xs)))) mid new = subst (λ (k : ℕ). Writes {A = Unit {0}} (Err e) (flat_map f (differences w c.loop-at.last (take k (drop at xs)))) mid new) same c.in_err-write_few.ensures in
    let more = part_writes tt f w start xs at n c.loop-at.last (Err e) old mid new c.loop-at.invariant.last c.loop-at.invariant.half one in
    let p = err_from_is_err_and c.from_residual.result c.from_residual.ensures.1 in
    rw p.1 (loop_stops e p.0 f w start xs (at + n) old new more)

pub loop-at-preserved : goal.loop-at-preserved
loop-at-preserved g c =
    let w = g.row.W in
    let start = c.args.start in
    let xs = c.args.numbers.now in
    let at = c.loop-at.at in
    let n = c.min.result in
    let f : ℕ → List Bool = split_bits c.args.k in
    let old = c.args.writer.now in
    let mid = c.loop-at.writer in
    let new = c.write_few.new.writer in
    let a = c.in_ok-write_few.field-0 in
    let same : at + n - at ≡ n = omega arith in
    let one : Writes {A = Unit {0}} (Ok a) (flat_map f (differences w c.loop-at.last (take n (drop at xs)))) mid new = subst (λ (k : ℕ). Writes {A = Unit {0}} (Ok a) (flat_map f (differences w c.loop-at.last (take k (drop at xs)))) mid new) same c.in_ok-write_few.ensures in
    let i = at + n - 1 in
    let item = get_or xs i (pos 0) in
    let fits : FitsSigned w32 item = search rules in
    let next : c.residue-last.result ≡ residue w item = c.residue-last.ensures ∙ ap (residue w) (to_z-of_z w32 item fits) in
    let size : at + n ≡ i + 1 = omega (arith, c.min.ensures, c.loop-at-test.true) in
    record {
      half = part_writes tt f w start xs at n c.loop-at.last (Ok a) old mid new c.loop-at.invariant.last c.loop-at.invariant.half one;
      last = next ∙ sym (ap (λ k. last_residue w start (take k xs)) size ∙ last_residue-more w start xs i (pos 0) (omega (arith, c.min.ensures, c.loop-at-test.true)));
      within = omega (arith, c.min.ensures);
      below = subst (λ (u : ℕ). u < 2 ^ w) (sym next) (residue_lt w item);
    }

pub returns : goal.returns
returns g c =
    let w = g.row.W in
    let start = c.args.start in
    let f : ℕ → List Bool = split_bits c.args.k in
    let all : take c.loop-at.at c.args.numbers.now ≡ c.args.numbers.now = take_all c.loop-at.at c.args.numbers.now c.loop-at-test.false in
    subst (λ (l : List _). Writes {A = Unit {0}} (Ok tt) (flat_map f (differences w start l)) c.args.writer.now c.loop-at.writer) all c.loop-at.invariant.half
