-- Tiles that are written with nothing held back.
use Rattle.std.proofs.Common.{◌≡◌, ℕ, ◌-◌, List, length, take, Option, Result, Ok, Err, OnOk, ap, ◌∙◌, arith}
use Rattle.fz_base.specs.Sink.{written}
use Rattle.fz_job.specs.Held.{IsHeld, settled}
use Rattle.fz_job.specs.declared.held.Held.{Held}
use Rattle.fz_pixels.proofs.Running.{written_none}

-- if there is no room for bytes none are held back
pub none_stays : (h : Held) (held : List ℕ) (contents : Option (List ℕ)) → IsHeld h held → length held ≡ 0 → settled h held contents ≡ contents
none_stays h held contents is room =
    let none : h.count ≡ 0 = omega (arith, is.within, room) in
    ap (λ k. written (h.end - k) (take k held) contents) none ∙ written_none (h.end - 0) contents

-- two facts of an answer Ok
pub both_then : {X E : Type 0} {A B C : Type 0} (result : Result X E) → OnOk result A → OnOk result B → (A → B → C) → OnOk result C
both_then (Ok x) a b make = make a b
both_then (Err e) a b make = tt
