-- The bytes are after those that are held back.
use Rattle.std.proofs.Common.{◌≡◌, ℕ, ◌+◌, ◌≤◌, List, ◌++◌, length, take, sym, ap, ◌∙◌, rules, arith}
use Rattle.std.proofs.lemmas.Slice.{take-put_mid}
use Rattle.fz_job.proofs.HeldBytes.{held_more}
use Rattle.fz_job.proofs.held.keep.Goals as goal

pub returns-clause-later : goal.returns-clause-later
returns-clause-later c = λ at contents within.
    let n : ℕ = c.args.count.now in
    let held : List ℕ = c.args.held.now in
    let bytes : List ℕ = c.args.bytes.now in
    let room : n ≤ length held = omega arith in
    let same : c.copy_from_slice.new.self ≡ bytes = search rules in
    let size : n + length bytes ≡ n + length c.copy_from_slice.new.self = ap (λ (k : List ℕ). n + length k) (sym same) in
    held_more at n (n + length bytes) held _ bytes contents c.output_law.ensures.next within room (search rules) (take-put_mid n _ held c.copy_from_slice.new.self (n + length bytes) size room ∙ ap (λ (k : List ℕ). take n held ++ k) same)
