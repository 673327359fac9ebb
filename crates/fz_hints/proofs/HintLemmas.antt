-- What is printed if a hint was put to a text: all of it, a part, or nothing.
use Rattle.std.specs.Prelude.{ℕ, ◌≡◌, List, [], take, Option, Some, None, Result, Ok, Err, OnOk, OnErr, true, refl}
use Rattle.std.specs.List.{list_all}
use Rattle.std.proofs.Common.{ap, sym, arith}
use Rattle.std.proofs.lemmas.List.{append-nil, length-take}
use Rattle.std.proofs.lemmas.List.Elements.{All-take}
use Rattle.std.proofs.lemmas.List.Sums.{AllPass-from_list_all, list_all-from_AllPass}
use Rattle.fz_base.specs.Sink.{MayAppend, appended}
use Rattle.fz_hints.specs.Hint.{IsHint, Says, is_shown}

-- the front of shown bytes is shown
shown-front : (n : ℕ) (bytes : List ℕ) → list_all is_shown bytes ≡ true → list_all is_shown (take n bytes) ≡ true
shown-front n bytes e =
    list_all-from_AllPass is_shown (take n bytes)
    (All-take (λ b. is_shown b ≡ true) n bytes (AllPass-from_list_all is_shown bytes e))

-- a hint that is cut short is one
hint-front : (n : ℕ) (bytes : List ℕ) → IsHint bytes → IsHint (take n bytes)
hint-front n bytes h = record { shown = shown-front n bytes h.shown; short = omega (arith, length-take n bytes) }

-- after a put of a hint: all of it, or a part if the put failed
pub says_put : {T E : Type 0} (bytes : List ℕ) (old new : Option (List ℕ)) (result : Result T E) → IsHint bytes
    → OnOk result (new ≡ appended bytes old) → OnErr result (MayAppend bytes old new) → Says old new
says_put bytes old new (Ok value) h put part = (bytes, put, h)
says_put bytes old new (Err error) h put part = (take part.0 bytes, part.1, hint-front part.0 bytes h)

-- nothing
pub says_nothing : (old : Option (List ℕ)) → Says old old
says_nothing None = ([], refl, record { shown = refl; short = omega arith })
says_nothing (Some text) = ([], ap (λ (t : List ℕ). Some t) (sym (append-nil text)), record { shown = refl; short = omega arith })
