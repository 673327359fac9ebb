use Rattle.std.proofs.Common.{◌≡◌, ℕ, ◌+◌, ◌-◌, ◌^◌, ◌<◌, min, Bool, pos, List, length, take, drop, get_or, Ok, Err, sym, subst, ap, ◌∙◌, arith, rules}
use Rattle.std.specs.List.{flat_map}
use Rattle.std.specs.Int.{w32}
use Rattle.std.specs.Prelude.{FitsSigned}
use Rattle.std.proofs.lemmas.Int.{to_z-of_z}
use Rattle.std.proofs.lemmas.Result.{err_from_is_err_and}
use Rattle.fz_rice.specs.Numbers.{residue}
use Rattle.fz_rice.specs.Code.{differences, pieces}
use Rattle.fz_rice.specs.Producer.{chosen_block}
use Rattle.fz_rice.specs.Writing.{Writes}
use Rattle.fz_rice.proofs.NumbersLemmas.{residue_lt}
use Rattle.fz_rice.proofs.BlocksLemmas.{blocks_begin, blocks_writes, blocks_stop, block_is, last_is}
use Rattle.fz_rice.proofs.encode.write_blocks.Goals as goal

pub loop-at-init : goal.loop-at-init
loop-at-init g c = record {
  half = blocks_begin g.row.W c.args.block c.args.start c.args.numbers.now c.args.writer.now (c.room_law.ensures c.args.writer.now);
  within = omega arith;
  below = c.requires.start;
}

pub returns-in_err-write_block : goal.returns-in_err-write_block
returns-in_err-write_block g c =
    let w = g.row.W in
    let xs = c.args.numbers.now in
    let block = c.args.block in
    let at = c.loop-at.at in
    let last = c.loop-at.last in
    let old = c.args.writer.now in
    let mid = c.loop-at.writer in
    let new = c.write_block.new.writer in
    let whole = flat_map (chosen_block w) (pieces block (differences w c.args.start xs)) in
    let end = at + c.min.result in
    let is : end ≡ at + min block (length xs - at) = ap (λ k. at + k) c.min.ensures in
    let cut : chosen_block w (differences w last (take (end - at) (drop at xs))) ≡ chosen_block w (differences w last (take block (drop at xs))) = ap (λ l. chosen_block w (differences w last l)) (block_is block at end xs is) in
    let e = c.in_err-write_block.field-0.0 in
    let one : Writes {A = Unit {0}} (Err e) (chosen_block w (differences w last (take block (drop at xs)))) mid new = subst (λ (x : List Bool). Writes {A = Unit {0}} (Err e) x mid new) cut c.in_err-write_block.ensures in
    let p = err_from_is_err_and c.from_residual.result c.from_residual.ensures.1 in
    rw p.1 (blocks_stop e p.0 w block xs whole at last old mid new (omega arith) c.loop-at-test.true c.loop-at.invariant.half one)

pub loop-at-preserved : goal.loop-at-preserved
loop-at-preserved g c =
    let w = g.row.W in
    let xs = c.args.numbers.now in
    let block = c.args.block in
    let at = c.loop-at.at in
    let last = c.loop-at.last in
    let old = c.args.writer.now in
    let mid = c.loop-at.writer in
    let new = c.write_block.new.writer in
    let whole = flat_map (chosen_block w) (pieces block (differences w c.args.start xs)) in
    let end = at + c.min.result in
    let is : end ≡ at + min block (length xs - at) = ap (λ k. at + k) c.min.ensures in
    let cut : chosen_block w (differences w last (take (end - at) (drop at xs))) ≡ chosen_block w (differences w last (take block (drop at xs))) = ap (λ l. chosen_block w (differences w last l)) (block_is block at end xs is) in
    let a = c.in_ok-write_block.field-0 in
    let one : Writes {A = Unit {0}} (Ok a) (chosen_block w (differences w last (take block (drop at xs)))) mid new = subst (λ (x : List Bool). Writes {A = Unit {0}} (Ok a) x mid new) cut c.in_ok-write_block.ensures in
    let item = get_or xs (end - 1) (pos 0) in
    let fits : FitsSigned w32 item = search rules in
    let next : c.residue-last.result ≡ residue w item = c.residue-last.ensures ∙ ap (residue w) (to_z-of_z w32 item fits) in
    record {
      half = blocks_writes a w block xs whole at end last c.residue-last.result old mid new (omega arith) c.loop-at-test.true is (next ∙ last_is w block last at end xs (pos 0) (omega arith) c.loop-at-test.true is) c.loop-at.invariant.half one;
      within = omega (arith, c.min.ensures);
      below = subst (λ (u : ℕ). u < 2 ^ w) (sym next) (residue_lt w item);
    }
