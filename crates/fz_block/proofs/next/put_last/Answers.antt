-- The buffer ends with the block.
use borrow.Rule.Slice.PartMut.{put_mid}
use Rattle.std.proofs.Common.{◌≡◌, ℕ, ◌-◌, List, ◌++◌, length, take, sym, ap, ◌∙◌, rules, arith}
use Rattle.std.proofs.lemmas.List.{length-append, length-drop, length-take, take_all}
use Rattle.std.proofs.lemmas.Slice.{take-put_mid}
use Rattle.fz_block.proofs.next.put_last.Goals as goal

pub returns : goal.returns
returns c =
    let old : List ℕ = c.args.buf.now in
    let at : ℕ = length old - 2880 in
    let put : List ℕ = c.copy_from_slice.new.self in
    let same : put ≡ c.args.block.now = search rules in
    let size : length put ≡ 2880 = ap length same ∙ c.requires.block in
    let now : List ℕ = put_mid at (length old - at) old put in
    let long : length now ≡ length old = simp (length-append, length-take, length-drop) (omega (arith, size, c.requires.room)) in
    sym (take_all (length old) now (omega (arith, long)))
    ∙ take-put_mid at (length old - at) old put (length old) (omega (arith, size, c.requires.room)) (omega arith)
    ∙ ap (λ (l : List ℕ). take at old ++ l) same
