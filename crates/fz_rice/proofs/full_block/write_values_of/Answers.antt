use Rattle.std.proofs.Common.{◌≡◌, ℕ, ◌-◌, ◌^◌, ◌<◌, Bool, sum, List, ◌++◌, length, Ok, Err, sym, subst, ap, ◌∙◌, arith}
use Rattle.std.specs.List.{flat_map}
use Rattle.std.proofs.lemmas.Result.{err_from_is_err_and}
use Rattle.std.proofs.lemmas.List.{append-nil}
use Rattle.fz_bits.specs.Bits.{number_bits}
use Rattle.fz_rice.specs.Code.{row, differences, split_bits, values_bits, block_bits}
use Rattle.fz_rice.specs.Producer.{chosen_id}
use Rattle.fz_rice.specs.Writing.{Writes}
use Rattle.fz_rice.proofs.BlockReaders.{values_bits-zero, values_bits-raw, values_bits-split, k_lt, raw_fits}
use Rattle.fz_rice.proofs.MachineLemmas.{width_le}
use Rattle.fz_rice.proofs.NumbersLemmas.{length-differences}
use Rattle.fz_rice.proofs.ProducerLemmas.{chosen_id_le}
use Rattle.fz_rice.proofs.WritesLemmas.{writes_seq, writes_stop, writes_unit}
use Rattle.fz_rice.proofs.full_block.write_values_of.Goals as goal

pub returns-in_err-write_number : goal.returns-in_err-write_number
returns-in_err-write_number g c =
    let w = g.row.W in
    let xs = c.args.numbers.now in
    let vs = differences w c.args.last xs in
    let n = (row w).id_len in
    let id = c.chosen_id-id.result in
    let old = c.args.writer.now in
    let mid = c.write_number.new.writer in
    let count : length vs ≡ 32 = length-differences w c.args.last xs ∙ c.requires.len in
    let total : c.sum_of.result ≡ sum vs = c.sum_of.ensures ∙ ap sum c.values_of-values.ensures in
    let chosen : id ≡ chosen_id w (length vs) (sum vs) = c.chosen_id-id.ensures ∙ ap (λ t. chosen_id w 32 t) total ∙ ap (λ k. chosen_id w k (sum vs)) (sym count) in
    let e = c.in_err-write_number.field-0.0 in
    let first : Writes {A = Unit {0}} (Err e) (number_bits n id) old mid = subst (λ (m : ℕ). Writes {A = Unit {0}} (Err e) (number_bits m id) old mid) c.id_len.ensures c.in_err-write_number.ensures in
    let p = err_from_is_err_and c.from_residual.result c.from_residual.ensures.1 in
    let all : Writes {A = Unit {0}} (Err p.0) (block_bits w id vs) old mid = writes_stop e p.0 (number_bits n id) (values_bits w id vs) old mid first in
    rw p.1 (subst (λ (i : ℕ). Writes {A = Unit {0}} (Err p.0) (block_bits w i vs) old mid) chosen all)

pub returns-then-id-eq0 : goal.returns-then-id-eq0
returns-then-id-eq0 g c =
    let w = g.row.W in
    let xs = c.args.numbers.now in
    let vs = differences w c.args.last xs in
    let n = (row w).id_len in
    let id = c.chosen_id-id.result in
    let old = c.args.writer.now in
    let mid = c.write_number.new.writer in
    let count : length vs ≡ 32 = length-differences w c.args.last xs ∙ c.requires.len in
    let total : c.sum_of.result ≡ sum vs = c.sum_of.ensures ∙ ap sum c.values_of-values.ensures in
    let chosen : id ≡ chosen_id w (length vs) (sum vs) = c.chosen_id-id.ensures ∙ ap (λ t. chosen_id w 32 t) total ∙ ap (λ k. chosen_id w k (sum vs)) (sym count) in
    let first : Writes {A = Unit {0}} (Ok c.in_ok-write_number.field-0) (number_bits n id) old mid = subst (λ (m : ℕ). Writes {A = Unit {0}} (Ok c.in_ok-write_number.field-0) (number_bits m id) old mid) c.id_len.ensures c.in_ok-write_number.ensures in
    let none : number_bits n id ≡ block_bits w id vs = sym (ap (λ x. number_bits n id ++ x) (values_bits-zero w id vs c.if-id-eq0.true) ∙ append-nil (number_bits n id)) in
    let all : Writes {A = Unit {0}} (Ok tt) (block_bits w id vs) old mid = subst (λ (x : List Bool). Writes {A = Unit {0}} (Ok tt) x old mid) none (writes_unit c.in_ok-write_number.field-0 (number_bits n id) old mid first) in
    subst (λ (i : ℕ). Writes {A = Unit {0}} (Ok tt) (block_bits w i vs) old mid) chosen all

pub returns-else-id-raw_id : goal.returns-else-id-raw_id
returns-else-id-raw_id g c =
    let w = g.row.W in
    let xs = c.args.numbers.now in
    let vs = differences w c.args.last xs in
    let n = (row w).id_len in
    let id = c.chosen_id-id.result in
    let old = c.args.writer.now in
    let mid = c.write_number.new.writer in
    let count : length vs ≡ 32 = length-differences w c.args.last xs ∙ c.requires.len in
    let total : c.sum_of.result ≡ sum vs = c.sum_of.ensures ∙ ap sum c.values_of-values.ensures in
    let chosen : id ≡ chosen_id w (length vs) (sum vs) = c.chosen_id-id.ensures ∙ ap (λ t. chosen_id w 32 t) total ∙ ap (λ k. chosen_id w k (sum vs)) (sym count) in
    let first : Writes {A = Unit {0}} (Ok c.in_ok-write_number.field-0) (number_bits n id) old mid = subst (λ (m : ℕ). Writes {A = Unit {0}} (Ok c.in_ok-write_number.field-0) (number_bits m id) old mid) c.id_len.ensures c.in_ok-write_number.ensures in
    let r = c.write_split_values.result in
    let new = c.write_split_values.new.writer in
    let back : flat_map (split_bits (id - 1)) c.values_of-values.result ≡ values_bits w id vs = ap (flat_map (split_bits (id - 1))) c.values_of-values.ensures ∙ sym (values_bits-split w id vs c.if-id-eq0.false (λ e. c.if-id-raw_id.false (e ∙ sym c.raw_id.ensures))) in
    let all : Writes {A = Unit {0}} r (block_bits w id vs) old new = writes_seq c.in_ok-write_number.field-0 r (number_bits n id) (values_bits w id vs) old mid new first (subst (λ (x : List Bool). Writes {A = Unit {0}} r x mid new) back c.write_split_values.ensures) in
    subst (λ (i : ℕ). Writes {A = Unit {0}} r (block_bits w i vs) old new) chosen all

pub returns-then-id-raw_id : goal.returns-then-id-raw_id
returns-then-id-raw_id g c =
    let w = g.row.W in
    let xs = c.args.numbers.now in
    let vs = differences w c.args.last xs in
    let n = (row w).id_len in
    let id = c.chosen_id-id.result in
    let old = c.args.writer.now in
    let mid = c.write_number.new.writer in
    let count : length vs ≡ 32 = length-differences w c.args.last xs ∙ c.requires.len in
    let total : c.sum_of.result ≡ sum vs = c.sum_of.ensures ∙ ap sum c.values_of-values.ensures in
    let chosen : id ≡ chosen_id w (length vs) (sum vs) = c.chosen_id-id.ensures ∙ ap (λ t. chosen_id w 32 t) total ∙ ap (λ k. chosen_id w k (sum vs)) (sym count) in
    let first : Writes {A = Unit {0}} (Ok c.in_ok-write_number.field-0) (number_bits n id) old mid = subst (λ (m : ℕ). Writes {A = Unit {0}} (Ok c.in_ok-write_number.field-0) (number_bits m id) old mid) c.id_len.ensures c.in_ok-write_number.ensures in
    let r = c.write_raw.result in
    let new = c.write_raw.new.writer in
    let back : flat_map (number_bits w) vs ≡ values_bits w id vs = sym (values_bits-raw w id vs c.if-id-eq0.false (c.if-id-raw_id.true ∙ c.raw_id.ensures)) in
    let all : Writes {A = Unit {0}} r (block_bits w id vs) old new = writes_seq c.in_ok-write_number.field-0 r (number_bits n id) (values_bits w id vs) old mid new first (subst (λ (x : List Bool). Writes {A = Unit {0}} r x mid new) back c.write_raw.ensures) in
    subst (λ (i : ℕ). Writes {A = Unit {0}} r (block_bits w i vs) old new) chosen all

pub write_number-requires-clause-fits : goal.write_number-requires-clause-fits
write_number-requires-clause-fits g c =
    let w = g.row.W in
    let id = c.chosen_id-id.result in
    let most = chosen_id_le w 32 c.sum_of.result in
    let small : id < 2 ^ (row w).id_len = omega (arith, c.chosen_id-id.ensures, most, raw_fits w c.requires.width) in
    subst (λ (n : ℕ). id < 2 ^ n) (sym c.id_len.ensures) small

pub write_split_values-requires : goal.write_split_values-requires
write_split_values-requires g c =
    let w = g.row.W in
    let id = c.chosen_id-id.result in
    let less : id < (row w).raw_id = omega (arith, c.chosen_id-id.ensures, chosen_id_le w 32 c.sum_of.result, c.if-id-raw_id.false, c.raw_id.ensures) in
    omega (arith, k_lt w id c.requires.width less, width_le w c.requires.width)
