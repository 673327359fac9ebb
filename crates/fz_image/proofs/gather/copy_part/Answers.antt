-- The bytes are in the part.
use Rattle.std.proofs.Common.{◌≡◌, ℕ, ◌+◌, ◌-◌, List, ◌++◌, length, take, drop, ap, ◌∙◌, arith, rules}
use Rattle.std.proofs.lemmas.List.{length-drop, length-take}
use Rattle.std.proofs.lemmas.Slice.{take-put_mid}
use Rattle.fz_image.proofs.gather.copy_part.Goals as goal

pub returns-clause-part : goal.returns-clause-part
returns-clause-part c =
    let at : ℕ = c.args.at in
    let count : ℕ = c.args.count in
    let old : List ℕ = c.args.into.now in
    let bytes : List ℕ = drop c.args.place c.args.bytes.now in
    let put : List ℕ = c.copy_from_slice.new.self in
    let same : put ≡ take (c.args.place + count - c.args.place) bytes = search rules in
    let long : c.args.place + count - c.args.place ≡ count = omega arith in
    let size : length put ≡ count = ap length same ∙ omega (arith, c.requires.within, length-take {A = ℕ}, length-drop {A = ℕ}) in
    take-put_mid at _ old put (at + count) (omega (arith, size)) (omega (arith, c.requires.room))
    ∙ ap (λ (l : List ℕ). take at old ++ l) (same ∙ ap (λ (k : ℕ). take k bytes) long)
