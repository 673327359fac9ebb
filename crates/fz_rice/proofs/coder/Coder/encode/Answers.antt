use Rattle.std.proofs.Common.{◌≡◌, ℕ, Bool, pos, List, [], ◌++◌, get_or, Ok, Err, subst, ap, ◌∙◌, rules}
use Rattle.std.specs.List.{flat_map}
use Rattle.std.specs.Int.{w32}
use Rattle.std.specs.Prelude.{FitsSigned}
use Rattle.std.proofs.lemmas.Int.{to_z-of_z}
use Rattle.std.proofs.lemmas.Result.{err_from_is_err_and}
use Rattle.std.proofs.lemmas.List.{append-nil}
use Rattle.fz_bits.specs.Bits.{number_bits, filled}
use Rattle.fz_bits.specs.Writer.{written}
use Rattle.fz_rice.specs.Numbers.{residue}
use Rattle.fz_rice.specs.Code.{differences, pieces}
use Rattle.fz_rice.specs.Producer.{chosen_block, first_residue, rice_bits}
use Rattle.fz_rice.specs.Writing.{Writes}
use Rattle.fz_rice.proofs.WritesLemmas.{writes_seq, writes_stop}
use Rattle.fz_rice.proofs.EncodeLemmas.{first_is, full_is, code_is}
use Rattle.fz_rice.proofs.coder.Coder.encode.Goals as goal

pub returns-in_err-write_number-clause-full : goal.returns-in_err-write_number-clause-full
returns-in_err-write_number-clause-full g c =
    let w = g.row.W in
    let xs = c.args.numbers.now in
    let out = c.args.out.now in
    let old = c.new-writer.result in
    let mid = c.write_number.new.writer in
    let u = c.residue-start.result in
    let blocks = flat_map (chosen_block w) (pieces c.args.block (differences w u xs)) in
    let item = get_or xs 0 (pos 0) in
    let fits : FitsSigned w32 item = search rules in
    let start : u ≡ first_residue w xs = c.residue-start.ensures ∙ ap (residue w) (to_z-of_z w32 item fits) ∙ first_is w xs (pos 0) c.requires.some in
    let rice : number_bits w u ++ blocks ≡ rice_bits w c.args.block xs = ap (λ k. number_bits w k ++ flat_map (chosen_block w) (pieces c.args.block (differences w k xs))) start in
    let e = c.in_err-write_number.field-0.0 in
    let first : Writes {A = Unit {0}} (Err e) (number_bits w u) old mid = c.in_err-write_number.ensures in
    let p = err_from_is_err_and c.from_residual.result c.from_residual.ensures.1 in
    let all : Writes {A = ℕ} (Err p.0) (number_bits w u ++ blocks) old mid = writes_stop e p.0 (number_bits w u) blocks old mid first in
    let stop : Writes {A = ℕ} (Err p.0) (rice_bits w c.args.block xs) old mid = subst (λ (x : List Bool). Writes {A = ℕ} (Err p.0) x old mid) rice all in
    rw p.1 (full_is c.bytes_law.ensures.whole (Err p.0) (rice_bits w c.args.block xs) out old mid c.new-writer.ensures.buffer c.new-writer.ensures.empty stop)

pub returns-in_err-write_blocks-clause-full : goal.returns-in_err-write_blocks-clause-full
returns-in_err-write_blocks-clause-full g c =
    let w = g.row.W in
    let xs = c.args.numbers.now in
    let out = c.args.out.now in
    let old = c.new-writer.result in
    let mid = c.write_number.new.writer in
    let u = c.residue-start.result in
    let blocks = flat_map (chosen_block w) (pieces c.args.block (differences w u xs)) in
    let item = get_or xs 0 (pos 0) in
    let fits : FitsSigned w32 item = search rules in
    let start : u ≡ first_residue w xs = c.residue-start.ensures ∙ ap (residue w) (to_z-of_z w32 item fits) ∙ first_is w xs (pos 0) c.requires.some in
    let rice : number_bits w u ++ blocks ≡ rice_bits w c.args.block xs = ap (λ k. number_bits w k ++ flat_map (chosen_block w) (pieces c.args.block (differences w k xs))) start in
    let a = c.in_ok-write_number.field-0 in
    let first : Writes {A = Unit {0}} (Ok a) (number_bits w u) old mid = c.in_ok-write_number.ensures in
    let new = c.write_blocks.new.writer in
    let e = c.in_err-write_blocks.field-0.0 in
    let p = err_from_is_err_and c.from_residual-in_err-write_blocks.result c.from_residual-in_err-write_blocks.ensures.1 in
    let both : Writes {A = Unit {0}} (Err e) (number_bits w u ++ blocks) old new = writes_seq a (Err e) (number_bits w u) blocks old mid new first c.in_err-write_blocks.ensures in
    let all : Writes {A = ℕ} (Err p.0) ((number_bits w u ++ blocks) ++ []) old new = writes_stop e p.0 (number_bits w u ++ blocks) [] old new both in
    let stop : Writes {A = ℕ} (Err p.0) (rice_bits w c.args.block xs) old new = subst (λ (x : List Bool). Writes {A = ℕ} (Err p.0) x old new) (append-nil (number_bits w u ++ blocks) ∙ rice) all in
    rw p.1 (full_is c.bytes_law.ensures.whole (Err p.0) (rice_bits w c.args.block xs) out old new c.new-writer.ensures.buffer c.new-writer.ensures.empty stop)

pub returns-clause-full : goal.returns-clause-full
returns-clause-full g c =
    let w = g.row.W in
    let xs = c.args.numbers.now in
    let out = c.args.out.now in
    let old = c.new-writer.result in
    let mid = c.write_number.new.writer in
    let u = c.residue-start.result in
    let blocks = flat_map (chosen_block w) (pieces c.args.block (differences w u xs)) in
    let item = get_or xs 0 (pos 0) in
    let fits : FitsSigned w32 item = search rules in
    let start : u ≡ first_residue w xs = c.residue-start.ensures ∙ ap (residue w) (to_z-of_z w32 item fits) ∙ first_is w xs (pos 0) c.requires.some in
    let rice : number_bits w u ++ blocks ≡ rice_bits w c.args.block xs = ap (λ k. number_bits w k ++ flat_map (chosen_block w) (pieces c.args.block (differences w k xs))) start in
    let a = c.in_ok-write_number.field-0 in
    let first : Writes {A = Unit {0}} (Ok a) (number_bits w u) old mid = c.in_ok-write_number.ensures in
    let new = c.write_blocks.new.writer in
    let b = c.in_ok-write_blocks.field-0 in
    let both : Writes {A = Unit {0}} (Ok b) (number_bits w u ++ blocks) old new = writes_seq a (Ok b) (number_bits w u) blocks old mid new first c.in_ok-write_blocks.ensures in
    let all : Writes {A = Unit {0}} (Ok b) (rice_bits w c.args.block xs) old new = subst (λ (x : List Bool). Writes {A = Unit {0}} (Ok b) x old new) rice both in
    full_is c.bytes_law.ensures.whole (Ok b) (rice_bits w c.args.block xs) out old new c.new-writer.ensures.buffer c.new-writer.ensures.empty all

pub returns-clause-code : goal.returns-clause-code
returns-clause-code g c =
    let w = g.row.W in
    let xs = c.args.numbers.now in
    let out = c.args.out.now in
    let old = c.new-writer.result in
    let mid = c.write_number.new.writer in
    let u = c.residue-start.result in
    let blocks = flat_map (chosen_block w) (pieces c.args.block (differences w u xs)) in
    let item = get_or xs 0 (pos 0) in
    let fits : FitsSigned w32 item = search rules in
    let start : u ≡ first_residue w xs = c.residue-start.ensures ∙ ap (residue w) (to_z-of_z w32 item fits) ∙ first_is w xs (pos 0) c.requires.some in
    let rice : number_bits w u ++ blocks ≡ rice_bits w c.args.block xs = ap (λ k. number_bits w k ++ flat_map (chosen_block w) (pieces c.args.block (differences w k xs))) start in
    let a = c.in_ok-write_number.field-0 in
    let first : Writes {A = Unit {0}} (Ok a) (number_bits w u) old mid = c.in_ok-write_number.ensures in
    let new = c.write_blocks.new.writer in
    let b = c.in_ok-write_blocks.field-0 in
    let both : Writes {A = Unit {0}} (Ok b) (number_bits w u ++ blocks) old new = writes_seq a (Ok b) (number_bits w u) blocks old mid new first c.in_ok-write_blocks.ensures in
    let bits : written new ≡ rice_bits w c.args.block xs = both.ok ∙ ap (λ x. x ++ (number_bits w u ++ blocks)) c.new-writer.ensures.empty ∙ rice in
    let done = c.finish.ensures.bits ∙ ap filled bits in
    code_is c.bytes_law.ensures.bytes _ c.finish.result (rice_bits w c.args.block xs) c.type_inv.out (search (rules, done))
