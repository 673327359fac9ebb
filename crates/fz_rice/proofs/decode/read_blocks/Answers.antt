use Rattle.std.proofs.Common.{◌≡◌, ℕ, ◌+◌, ◌-◌, ◌^◌, ◌<◌, min, ℤ, List, length, take, drop, Err, sym, subst, ◌∙◌, arith, length-append, length-take, length-drop}
use Rattle.std.proofs.lemmas.Result.{err_from_is_err_and}
use borrow.Rule.Slice.PartMut.{put_mid}
use Rattle.std.proofs.lemmas.List.{take_all}
use Rattle.std.proofs.lemmas.Slice.{take-put_mid}
use Rattle.fz_bits.specs.Reader.{left}
use Rattle.fz_rice.specs.Reading.{blocks_at, block_at, GivesNumbers}
use Rattle.fz_rice.proofs.HalfwayLemmas.{HalfwayBlocks, blocks_step, blocks_fault, blocks_end, last_of_lt}
use Rattle.fz_rice.proofs.decode.read_blocks.Goals as goal

pub returns-in_err-last-clause-numbers : goal.returns-in_err-last-clause-numbers
returns-in_err-last-clause-numbers g c =
    let w = g.row.W in
    let numbers = c.loop-at.numbers in
    let at = c.loop-at.at in
    let n = length numbers - at in
    let bits = left c.loop-at.reader in
    let all = length c.args.numbers.now in
    let whole = blocks_at w c.args.block all all (left c.args.reader.now) in
    let size : length (take (at + c.min.result - at) (drop at numbers)) ≡ min c.args.block n = simp (length-take, length-drop) (omega (arith, c.min.ensures)) in
    let p = err_from_is_err_and c.from_residual.result c.from_residual.ensures.1 in
    rw (p.1, p.2) (blocks_fault w c.args.start c.args.block whole n bits (take at numbers) c.loop-at.last c.in_err-last.field-0.0 c.loop-at.invariant.half (omega arith) (subst (λ (k : ℕ). block_at w k bits ≡ Err c.in_err-last.field-0.0) size c.in_err-last.ensures.numbers))

pub loop-at-preserved : goal.loop-at-preserved
loop-at-preserved g c =
    let w = g.row.W in
    let numbers = c.loop-at.numbers in
    let at = c.loop-at.at in
    let n = length numbers - at in
    let bits = left c.loop-at.reader in
    let rest = left c.read_block.new.reader in
    let more = c.read_block.new.numbers in
    let all = length c.args.numbers.now in
    let whole = blocks_at w c.args.block all all (left c.args.reader.now) in
    let size : length (take (at + c.min.result - at) (drop at numbers)) ≡ min c.args.block n = simp (length-take, length-drop) (omega (arith, c.min.ensures)) in
    let one : GivesNumbers w c.loop-at.last (block_at w (min c.args.block n) bits) more c.in_ok-last.last rest = subst (λ (k : ℕ). GivesNumbers w c.loop-at.last (block_at w k bits) more c.in_ok-last.last rest) size c.in_ok-last.ensures.numbers in
    let half = blocks_step w c.args.start c.args.block whole n bits rest (take at numbers) more c.loop-at.last c.in_ok-last.last c.loop-at.invariant.half (omega arith) (omega arith) one in
    let len_more : length more ≡ c.min.result = c.read_block.auto.numbers ∙ size ∙ sym c.min.ensures in
    let taken = take-put_mid at (at + c.min.result - at) numbers more (at + c.min.result) (omega arith) (omega arith) in
    let same : length (put_mid at (at + c.min.result - at) numbers more) ≡ length numbers = simp (length-append, length-take, length-drop) (omega (arith, c.min.ensures)) in
    let less : n - c.args.block ≡ length (put_mid at (at + c.min.result - at) numbers more) - (at + c.min.result) = omega (arith, same, c.min.ensures) in
    record {
      half = subst (λ (k : ℕ). HalfwayBlocks w c.args.start c.args.block whole k rest (take (at + c.min.result) (put_mid at (at + c.min.result - at) numbers more)) c.in_ok-last.last) less (subst (λ (l : List ℤ). HalfwayBlocks w c.args.start c.args.block whole (n - c.args.block) rest l c.in_ok-last.last) (sym taken) half);
      within = omega (arith, same, c.min.ensures);
      below = subst (λ (u : ℕ). u < 2 ^ w) (sym one.last_is) (last_of_lt w c.loop-at.last one.values c.loop-at.invariant.below);
      count = c.in_ok-last.ensures.count ∙ c.loop-at.invariant.count;
    }

pub returns-clause-numbers : goal.returns-clause-numbers
returns-clause-numbers g c =
    let w = g.row.W in
    let numbers = c.loop-at.numbers in
    let at = c.loop-at.at in
    let all = length c.args.numbers.now in
    let whole = blocks_at w c.args.block all all (left c.args.reader.now) in
    let half = subst (λ (l : List ℤ). HalfwayBlocks w c.args.start c.args.block whole (length numbers - at) (left c.loop-at.reader) l c.loop-at.last) (take_all at numbers c.loop-at-test.false) c.loop-at.invariant.half in
    blocks_end w c.args.start c.args.block whole (length numbers - at) (left c.loop-at.reader) numbers c.loop-at.last half (omega arith)
