-- Tests that are joined, and bytes of the file that end before a place.
use Rattle.std.proofs.Common.{◌≡◌, ℕ, ◌+◌, ◌≤◌, List, length, take, drop, refl, sym, ◌∙◌, subst}
use Rattle.std.specs.Prelude.{⊤, Bool, true, false, bytes_eq, nat_le, ◌&&◌, Option, Some, None, IfOk, IfSome, Result, Ok, Err}
use Rattle.std.proofs.lemmas.Bool.{le-leb}
use Rattle.fz_base.specs.Source.{has_bytes as there}
use Rattle.fz_base.specs.declared.failure.Stop.{Stop}
use Rattle.fz_compare.specs.Compared.{has_bytes}

abbrev holds : Bool → Type 0
holds true = ⊤
holds false = ⊥

pub not_both : true ≡ false → ⊥
not_both e = subst holds e tt

pub both : (a b : Bool) → a ≡ true → b ≡ true → true ≡ (a && b)
both true true one two = refl
both true false one two = absurd (not_both (sym two))
both false b one two = absurd (not_both (sym one))

pub second : (a b : Bool) → (a && b) ≡ true → b ≡ true
second true b is = is
second false b is = absurd (not_both (sym is))

pub first : (a b : Bool) → (a && b) ≡ true → a ≡ true
first true b is = refl
first false b is = is

then_same : (a b : Bool) → a ≡ true → b ≡ (a && b)
then_same true b is = refl
then_same false b is = absurd (not_both (sym is))

-- bytes that end before a place are there as they are anywhere
pub there_before : (held : Option (List ℕ)) (at end : ℕ) (bytes : List ℕ) (result : Result Bool Stop) → at + length bytes ≤ end →
    IfOk result (λ yes. IfSome held (λ g. yes ≡ there g at bytes)) → IfOk result (λ yes. IfSome held (λ g. yes ≡ has_bytes g at end bytes))
there_before None at end bytes (Ok answer) within same = tt
there_before None at end bytes (Err stop) within same = tt
there_before (Some g) at end bytes (Err stop) within same = tt
there_before (Some g) at end bytes (Ok answer) within same =
    same ∙ then_same (nat_le (at + length bytes) end) (bytes_eq (take (length bytes) (drop at g)) bytes) (le-leb (at + length bytes) end within)
