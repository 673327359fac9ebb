-- Whether the heap with the new codes can be said (FITS 4.0, sections 4.4.1.2 and 7.3.5).
use Rattle.std.proofs.Common.{◌≡◌, ℕ, ◌+◌, ◌-◌, ◌^◌, ◌&&◌, ◌||◌, not, nat_le, nat_lt, Bool, true, false, List, [], ◌∷◌, None, refl, sym, ap, ◌∙◌, arith}
use Rattle.fz_base.specs.Refusal.{first_refusal, refusal}
use Rattle.fz_base.specs.declared.fault.Place.TheVariants.{Card}
use Rattle.fz_base.specs.declared.kind.Kind.TheVariants.{Limit}
use Rattle.fz_laws.specs.FirstPatchFault.{room_check}
use Rattle.fz_laws.specs.Writes.{grown_end}
use Rattle.fz_target.specs.Measures.{has_room}
use Rattle.fz_target.specs.Targets.{IsTargetIn}
use Rattle.fz_target.specs.declared.target.Target.{Target}
use Rattle.std.proofs.lemmas.Bool.Decides.{nat_tests}

never : (a b : ℕ) → nat_le a b ≡ true → nat_lt b a ≡ true → ⊥
never a b e f = grind (arith, nat_tests)

neither : (a b : ℕ) → nat_le a b ≡ false → nat_lt b a ≡ false → ⊥
neither a b e f = grind (arith, nat_tests)

not_below : (a b : ℕ) → nat_le a b ≡ not (nat_lt b a)
not_below a b = by_tests (nat_le a b) (nat_lt b a) refl refl
  where
    by_tests : (x y : Bool) → nat_le a b ≡ x → nat_lt b a ≡ y → x ≡ not y
    by_tests true false e f = refl
    by_tests false true e f = refl
    by_tests true true e f = absurd (never a b e f)
    by_tests false false e f = absurd (neither a b e f)

either : (w a b c : Bool) → (w || not a) && (not b && not c) ≡ not ((not w && a) || (b || c))
either true a true c = refl
either true a false true = refl
either true a false false = refl
either false true b c = refl
either false false true c = refl
either false false false true = refl
either false false false false = refl

-- the room is what the check of a patch asks for
pub room_is : (f : List ℕ) (t : Target) (more : ℕ) → IsTargetIn f t → has_room t more ≡ not (room_check f t.header more).0
room_is f t more is =
    let heap : ℕ = t.header.pcount + more in
    (λ j. (t.wide || not_below heap 2147483647 j) && (not_below heap (10 ^ 18 - 1) j && not_below (grown_end t.header more) (2 ^ 62) j))
    ∙ either t.wide (nat_lt 2147483647 heap) (nat_lt (10 ^ 18 - 1) heap) (nat_lt (2 ^ 62) (grown_end t.header more))
    ∙ ap (λ w. not ((not w && nat_lt 2147483647 heap) || (nat_lt (10 ^ 18 - 1) heap || nat_lt (2 ^ 62) (grown_end t.header more)))) (sym is.wide)

-- and if there is, none is refused
pub with_room : (f : List ℕ) (t : Target) (more : ℕ) → IsTargetIn f t → has_room t more ≡ true → first_refusal (room_check f t.header more ∷ []) ≡ None
with_room f t more is room = ap (λ b. first_refusal ((b, refusal t.header.hdu (Card 5) Limit) ∷ [])) (not_faulty (room_check f t.header more).0 (sym room ∙ room_is f t more is))
  where
    not_faulty : (b : Bool) → true ≡ not b → b ≡ false
    not_faulty true e = absurd cc
    not_faulty false e = refl
