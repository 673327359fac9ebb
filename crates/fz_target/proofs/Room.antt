-- Whether the heap with the new codes can be said (FITS 4.0, sections 4.4.1.2 and 7.3.5).
use Rattle.std.proofs.Common.{◌≡◌, ℕ, ◌+◌, ◌-◌, ◌^◌, ◌&&◌, ◌||◌, not, nat_le, nat_lt, Bool, true, false, List, [], ◌∷◌, length, Option, Some, None, inr, refl, sym, ap, ◌∙◌, subst, arith}
use Rattle.std.specs.Prelude.{IfSome}
use Rattle.fz_base.specs.Refusal.{first_refusal, refusal}
use Rattle.fz_base.specs.declared.fault.Place.TheVariants.{Card}
use Rattle.fz_base.specs.declared.kind.Kind.TheVariants.{Limit}
use Rattle.fz_files.specs.FirstFault.{picked_tiles_of}
use Rattle.fz_files.specs.Packed.{heap_of}
use Rattle.fz_files.specs.Restored.{plan_in}
use Rattle.fz_laws.specs.FirstPatchFault.{BoxHasNumbers, IsBoxFault, codes_len, room_check, RowsHaveNumbers}
use Rattle.fz_laws.specs.NewNumbers.{box_tiles}
use Rattle.fz_laws.specs.Writes.{grown_end, new_codes}
use Rattle.fz_target.specs.Measures.{has_room}
use Rattle.fz_target.specs.Targets.{IsGivenTo, IsTargetIn, given_at}
use Rattle.fz_target.specs.Told.{IfBoth}
use Rattle.fz_target.specs.declared.measure.Measure.{Measure}
use Rattle.fz_target.specs.declared.target.Target.{Target}
use Rattle.fz_target.proofs.Boxes.{some_numbers}
use Rattle.fz_target.proofs.Measuring.{AreMeasured, AreSound}
use Rattle.fz_target.proofs.Targeted.{tiles_of}
use Rattle.std.proofs.lemmas.Bool.Decides.{nat_tests}

never : (a b : ℕ) → nat_le a b ≡ true → nat_lt b a ≡ true → ⊥
never a b e f = grind (arith, nat_tests)

neither : (a b : ℕ) → nat_le a b ≡ false → nat_lt b a ≡ false → ⊥
neither a b e f = grind (arith, nat_tests)

not_below : (a b : ℕ) → nat_le a b ≡ not (nat_lt b a)
not_below a b = by_tests (nat_le a b) (nat_lt b a) refl refl
  where
    by_tests : (x y : Bool) → nat_le a b ≡ x → nat_lt b a ≡ y → x ≡ not y
    by_tests true false e f = refl
    by_tests false true e f = refl
    by_tests true true e f = absurd (never a b e f)
    by_tests false false e f = absurd (neither a b e f)

either : (w a b c : Bool) → (w || not a) && (not b && not c) ≡ not ((not w && a) || (b || c))
either true a true c = refl
either true a false true = refl
either true a false false = refl
either false true b c = refl
either false false true c = refl
either false false false true = refl
either false false false false = refl

-- the room is what the check of a patch asks for
pub room_is : (f : List ℕ) (t : Target) (more : ℕ) → IsTargetIn f t → has_room t more ≡ not (room_check f t.header more).0
room_is f t more is =
    let heap : ℕ = t.header.pcount + more in
    (λ j. (t.wide || not_below heap 2147483647 j) && (not_below heap (10 ^ 18 - 1) j && not_below (grown_end t.header more) (2 ^ 62) j))
    ∙ either t.wide (nat_lt 2147483647 heap) (nat_lt (10 ^ 18 - 1) heap) (nat_lt (2 ^ 62) (grown_end t.header more))
    ∙ ap (λ w. not ((not w && nat_lt 2147483647 heap) || (nat_lt (10 ^ 18 - 1) heap || nat_lt (2 ^ 62) (grown_end t.header more)))) (sym is.wide)

turned : (b : Bool) → false ≡ not b → b ≡ true
turned true e = refl
turned false e = absurd cc

-- if there is none, that is the fault
pub no_room : (t : Target) (given held : Option (List ℕ)) (front : List ℕ) (found : Measure) → picked_tiles_of t.image.plan t.sieve ≡ front → IfSome held (λ f. IsTargetIn f t) → AreMeasured t front given held found → AreSound t front held →
    has_room t found.bytes ≡ false → IfBoth held given (λ f p. (corner : List ℕ) → IsGivenTo corner p t → IsBoxFault f t.header (given_at corner p) (Some (refusal t.header.hdu (Card 5) Limit)))
no_room t given None front found parts said have sound none = tt
no_room t None (Some f) front found parts said have sound none = tt
no_room t (Some p) (Some f) front found parts said have sound none = λ corner to.
    let g = given_at corner p in
    let tiles : box_tiles (plan_in f t.header) g ≡ front = tiles_of f t corner p said to ∙ parts in
    let numbers = some_numbers f t.header front sound in
    let rows : BoxHasNumbers f t.header g numbers.olds = subst (λ ts. RowsHaveNumbers f t.header ts numbers.olds) (sym tiles) numbers.rows in
    let bytes : found.bytes ≡ codes_len f t.header g numbers.olds =
    ap (λ (m : Measure). m.bytes) (have corner numbers.olds to rows)
    ∙ (λ j. length (heap_of (new_codes (sym said.said.plan j) g (sym tiles j) numbers.olds)))
    in
    let faulty : (room_check f t.header found.bytes).0 ≡ true = turned (room_check f t.header found.bytes).0 (sym none ∙ room_is f t found.bytes said) in
    let is : first_refusal (room_check f t.header found.bytes ∷ []) ≡ Some (refusal t.header.hdu (Card 5) Limit) = ap (λ b. first_refusal ((b, refusal t.header.hdu (Card 5) Limit) ∷ [])) faulty in
    inr (numbers.olds, rows, sym is ∙ ap (λ n. first_refusal (room_check f t.header n ∷ [])) bytes)
