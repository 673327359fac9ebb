-- Tests that are joined, and bytes of the file that end before a place.
use Rattle.std.proofs.Common.{◌≡◌, refl, sym, subst}
use Rattle.std.specs.Prelude.{⊤, Bool, true, false, ◌&&◌}

-- a test that cannot be true is false
pub is_false : (b : Bool) → (b ≡ true → ⊥) → false ≡ b
is_false true never = absurd (never refl)
is_false false never = refl

abbrev holds : Bool → Type 0
holds true = ⊤
holds false = ⊥

pub not_both : true ≡ false → ⊥
not_both e = subst holds e tt

pub both : (a b : Bool) → a ≡ true → b ≡ true → true ≡ (a && b)
both true true one two = refl
both true false one two = absurd (not_both (sym two))
both false b one two = absurd (not_both (sym one))

pub second : (a b : Bool) → (a && b) ≡ true → b ≡ true
second true b is = is
second false b is = absurd (not_both (sym is))

pub first : (a b : Bool) → (a && b) ≡ true → a ≡ true
first true b is = refl
first false b is = is
