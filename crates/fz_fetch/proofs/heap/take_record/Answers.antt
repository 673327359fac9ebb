-- The bytes are those at their place.
use Rattle.std.proofs.Common.{◌≡◌, ℕ, ◌+◌, ◌-◌, List, length, take, drop, ap, ◌∙◌, arith, rules}
use Rattle.std.proofs.lemmas.List.{length-drop, length-take}
use Rattle.std.proofs.lemmas.Slice.{take-put_mid}
use Rattle.fz_fetch.proofs.heap.take_record.Goals as goal

pub returns-clause-bytes : goal.returns-clause-bytes
returns-clause-bytes c =
    let read : ℕ = c.args.found.now.read in
    let from : ℕ = 4096 + (c.args.found.now.start - c.args.ahead.now.at) in
    let put : List ℕ = c.copy_from_slice.new.self in
    let same : put ≡ take (from + read - from) (drop from c.args.buf.now) = search rules in
    let count : from + read - from ≡ read = omega arith in
    let size : length put ≡ read = ap length same ∙ omega (arith, c.requires.has, c.requires.within, length-take {A = ℕ}, length-drop {A = ℕ}) in
    take-put_mid 0 _ c.args.code.now put read (omega (arith, size)) (omega arith)
    ∙ same ∙ ap (λ (k : ℕ). take k (drop from c.args.buf.now)) count
