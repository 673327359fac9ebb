-- Bytes that are held back, with more bytes, and with none.
use Rattle.std.proofs.Common.{◌≡◌, ℕ, ◌+◌, ◌-◌, ◌≤◌, List, [], ◌++◌, length, take, Option, Some, None, refl, sym, ap, ◌∙◌, arith}
use Rattle.std.proofs.lemmas.List.{length-take-le}
use Rattle.fz_base.specs.Sink.{written}
use Rattle.fz_job.specs.Held.{caught_up}

-- writes one after another
abbrev pub WritesNext : Type 0
WritesNext = (at : ℕ) (front back : List ℕ) (contents : Option (List ℕ))
    → written (at + length front) back (written at front contents) ≡ written at (front ++ back) contents

-- no bytes change nothing
pub no_write : (at : ℕ) (contents : Option (List ℕ)) → written at [] contents ≡ contents
no_write at None = refl
no_write at (Some bytes) = refl

-- with more bytes after those that are held back
pub held_more : (at n m : ℕ) (held held' bytes : List ℕ) (contents : Option (List ℕ)) → WritesNext → n ≤ at → n ≤ length held → m ≡ n + length bytes
    → take m held' ≡ take n held ++ bytes →
    caught_up (at + length bytes) m held' contents ≡ written at bytes (caught_up at n held contents)
held_more at n m held held' bytes contents next within room count kept =
    let start : at + length bytes - m ≡ at - n = omega (arith, count) in
    let size : length (take n held) ≡ n = length-take-le n held room in
    let end : at ≡ at - n + length (take n held) = omega (arith, size) in
    (λ i. written (start i) (kept i) contents)
    ∙ sym (next (at - n) (take n held) bytes contents)
    ∙ ap (λ k. written k bytes (caught_up at n held contents)) (sym end)

-- with none that are held back
none_held : (end n : ℕ) (held : List ℕ) (contents : Option (List ℕ)) → n ≡ 0 → caught_up end n held contents ≡ contents
none_held end n held contents none =
    ap (λ k. written (end - k) (take k held) contents) none ∙ no_write (end - 0) contents

-- the first bytes that are held back
pub held_first : (at n m : ℕ) (held held' bytes : List ℕ) (contents : Option (List ℕ)) → n ≡ 0 →
    caught_up (at + length bytes) m held' contents ≡ written at bytes (caught_up at n held contents)
    → caught_up (at + length bytes) m held' contents ≡ written at bytes contents
held_first at n m held held' bytes contents none more = more ∙ ap (written at bytes) (none_held at n held contents none)

-- a piece that goes elsewhere comes after those that are held back
pub held_apart : (at end n : ℕ) (held bytes : List ℕ) (before mid now : Option (List ℕ)) → mid ≡ caught_up end n held before
    → now ≡ written at bytes (caught_up at 0 held mid) →
    now ≡ written at bytes (caught_up end n held before)
held_apart at end n held bytes before mid now first next = next ∙ ap (written at bytes) (none_held at 0 held mid refl ∙ first)
