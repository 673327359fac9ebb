use Rattle.std.proofs.Common.{◌≡◌, ℕ, ◌+◌, ◌-◌, ◌^◌, ◌<◌, Bool, ℤ, List, [], ◌∷◌, ◌++◌, length, take, set, Ok, Err, sym, subst, ap, ◌∙◌, arith, rules, to_z, of_z, length-append, length-take, length-drop}
use Rattle.std.specs.Int.{w32}
use Rattle.std.specs.Prelude.{FitsSigned}
use Rattle.std.proofs.lemmas.Int.{to_z-of_z}
use Rattle.std.proofs.lemmas.Result.{err_from_is_err_and}
use Rattle.std.proofs.lemmas.List.{length-set}
use borrow.Rule.Slice.PartMut.{put_mid}
use Rattle.std.proofs.lemmas.Slice.{take-put_mid}
use Rattle.fz_bits.specs.Reader.{left}
use Rattle.fz_rice.specs.Reading.{Reading, split_at, many_at, number, numbers_from}
use Rattle.fz_rice.proofs.NumbersLemmas.{next_lt}
use Rattle.fz_rice.proofs.HalfwayLemmas.{Halfway, halfway_step, halfway_fault_at, halfway_all, last_of_lt}
use Rattle.fz_rice.proofs.SeveralLemmas.{halfway_four}
use Rattle.fz_rice.proofs.decode.read_fours.Goals as goal

pub loop-i-preserved-in-Some : goal.loop-i-preserved-in-Some
loop-i-preserved-in-Some g c =
    let w = g.row.W in
    let read : List Bool → Reading ℕ = split_at w c.args.k in
    let i = c.loop-i.i in
    let numbers = c.loop-i.numbers in
    let four = c.in-Some.four in
    let values = four.a ∷ four.b ∷ four.c ∷ four.d ∷ [] in
    let more = c.put_four-last.new.numbers in
    let after = put_mid i (i + 4 - i) numbers more in
    let rest = left c.take_four.new.reader in
    let whole = many_at read (length c.args.numbers.now) (left c.args.reader.now) in
    let len : length more ≡ 4 = ap length c.put_four-last.ensures.numbers in
    let taken : take (i + 4) after ≡ take i numbers ++ numbers_from w c.loop-i.last values = take-put_mid i (i + 4 - i) numbers more (i + 4) (omega (arith, len)) (omega arith) ∙ ap (λ l. take i numbers ++ l) c.put_four-last.ensures.numbers in
    let same : length after ≡ length numbers = simp (length-append, length-take, length-drop) (omega (arith, len, c.in-Some.ensures.enough)) in
    let half = halfway_four w c.args.start whole read (length numbers - i) (length after - (i + 4)) (left c.loop-i.ahead) rest (take i numbers) c.loop-i.last four.a four.b four.c four.d c.loop-i.invariant.half (omega (arith, same, c.in-Some.ensures.enough)) c.in-Some.ensures.reads in
    record {
      half = subst (λ (l : List ℤ). Halfway w c.args.start whole (many_at read (length after - (i + 4)) rest) l c.put_four-last.result) (sym taken) (subst (λ (u : ℕ). Halfway w c.args.start whole (many_at read (length after - (i + 4)) rest) (take i numbers ++ numbers_from w c.loop-i.last values) u) (sym c.put_four-last.ensures.last) half);
      within = omega (arith, same, c.in-Some.ensures.enough);
      below = subst (λ (u : ℕ). u < 2 ^ w) (sym c.put_four-last.ensures.last) (last_of_lt w c.loop-i.last values c.loop-i.invariant.below);
      count = c.in-Some.ensures.count ∙ c.loop-i.invariant.count;
    }

pub returns-in_err-value-clause-numbers : goal.returns-in_err-value-clause-numbers
returns-in_err-value-clause-numbers g c =
    let w = g.row.W in
    let read : List Bool → Reading ℕ = split_at w c.args.k in
    let bits = left c.loop-i.ahead in
    let same : left c.take_four.new.reader ≡ bits = c.take_four.ensures.none (search rules) in
    let one : read bits ≡ Err c.in_err-value.field-0.0 = ap read (sym same) ∙ c.in_err-value.ensures.value in
    let whole = many_at read (length c.args.numbers.now) (left c.args.reader.now) in
    let p = err_from_is_err_and c.from_residual.result c.from_residual.ensures.1 in
    rw (p.1, p.2) (halfway_fault_at w c.args.start whole read (length c.loop-i.numbers - c.loop-i.i) bits (take c.loop-i.i c.loop-i.numbers) c.loop-i.last c.in_err-value.field-0.0 c.loop-i.invariant.half (omega arith) one)

pub loop-i-preserved : goal.loop-i-preserved
loop-i-preserved g c =
    let w = g.row.W in
    let read : List Bool → Reading ℕ = split_at w c.args.k in
    let i = c.loop-i.i in
    let numbers = c.loop-i.numbers in
    let bits = left c.loop-i.ahead in
    let same : left c.take_four.new.reader ≡ bits = c.take_four.ensures.none (search rules) in
    let one : read bits ≡ Ok (c.in_ok-value.value, left c.read_value.new.reader) = ap read (sym same) ∙ c.in_ok-value.ensures.value in
    let whole = many_at read (length c.args.numbers.now) (left c.args.reader.now) in
    let fits : FitsSigned w32 c.number.result = search rules in
    let x = to_z w32 (of_z w32 c.number.result) in
    let is : x ≡ number w c.next_residue-last.result = to_z-of_z w32 c.number.result fits ∙ c.number.ensures in
    let len = length-set numbers i x in
    record {
      half = halfway_step w c.args.start whole read (length numbers - i) (length (set numbers i x) - (i + 1)) i bits (left c.read_value.new.reader) numbers x c.loop-i.last c.in_ok-value.value c.next_residue-last.result c.loop-i.invariant.half (omega arith) one c.next_residue-last.ensures is (omega arith);
      within = omega (arith, len);
      below = subst (λ (u : ℕ). u < 2 ^ w) (sym c.next_residue-last.ensures) (next_lt w c.loop-i.last c.in_ok-value.value);
      count = c.in_ok-value.ensures.count ∙ c.take_four.ensures.count ∙ c.loop-i.invariant.count;
    }

pub returns-clause-numbers : goal.returns-clause-numbers
returns-clause-numbers g c =
    let w = g.row.W in
    let read : List Bool → Reading ℕ = split_at w c.args.k in
    let whole = many_at read (length c.args.numbers.now) (left c.args.reader.now) in
    halfway_all w c.args.start whole read (length c.loop-i.numbers - c.loop-i.i) c.loop-i.i (left c.loop-i.ahead) c.loop-i.numbers c.loop-i.last c.loop-i.invariant.half (omega arith) (omega arith)

pub take_four-requires-clause-tail : goal.take_four-requires-clause-tail
take_four-requires-clause-tail g c = c.of-shape.ensures.tail

pub take_four-requires-clause-most : goal.take_four-requires-clause-most
take_four-requires-clause-most g c = c.of-shape.ensures.most

pub put_four-last-requires-clause-start : goal.put_four-last-requires-clause-start
put_four-last-requires-clause-start g c = c.loop-i.invariant.below

pub put_four-last-requires-clause-a : goal.put_four-last-requires-clause-a
put_four-last-requires-clause-a g c = c.in-Some.ensures.a

pub put_four-last-requires-clause-b : goal.put_four-last-requires-clause-b
put_four-last-requires-clause-b g c = c.in-Some.ensures.b

pub put_four-last-requires-clause-c : goal.put_four-last-requires-clause-c
put_four-last-requires-clause-c g c = c.in-Some.ensures.c

pub put_four-last-requires-clause-d : goal.put_four-last-requires-clause-d
put_four-last-requires-clause-d g c = c.in-Some.ensures.d

pub next_residue-last-requires-clause-last : goal.next_residue-last-requires-clause-last
next_residue-last-requires-clause-last g c = c.loop-i.invariant.below

pub next_residue-last-requires-clause-value : goal.next_residue-last-requires-clause-value
next_residue-last-requires-clause-value g c = c.in_ok-value.ensures.fits

pub number-requires-clause-fits : goal.number-requires-clause-fits
number-requires-clause-fits g c =
    subst (λ (u : ℕ). u < 2 ^ g.row.W) (sym c.next_residue-last.ensures) (next_lt g.row.W c.loop-i.last c.in_ok-value.value)

pub returns-in_err-value-clause-count : goal.returns-in_err-value-clause-count
returns-in_err-value-clause-count g c =
    let p = err_from_is_err_and c.from_residual.result c.from_residual.ensures.1 in
    rw p.1 tt

pub returns-clause-count : goal.returns-clause-count
returns-clause-count g c = c.loop-i.invariant.count
