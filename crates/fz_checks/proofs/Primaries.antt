-- Only HDU 0 is a primary, and what `pack` plans for an HDU of which it refuses nothing.
use Rattle.std.proofs.Common.{◌≡◌, ℕ, zero, suc, ◌==◌, Bool, true, false, List, Option, Some, None, Ok, if◌then◌else◌, refl, sym, ap, ◌∙◌, arith}
use Rattle.std.proofs.lemmas.Bool.Decides.{nat_tests}
use Rattle.fz_base.specs.Refusal.{first_refusal}
use Rattle.fz_base.specs.declared.fault.Fault.{Fault}
use Rattle.fz_block.specs.Checks.{unless_refused}
use Rattle.fz_block.specs.Facts.{IsHeaderOf, begun_at, sort_of}
use Rattle.fz_block.specs.declared.header.Header.{Header}
use Rattle.fz_checks.specs.JobChecks.{pack_header_checks, plan_to_pack}
use Rattle.fz_head.specs.Packable.{is_packable, is_primary}
use Rattle.fz_head.specs.Planned.{pack_plan_of}
use Rattle.fz_head.specs.declared.options.PackOptions.{PackOptions}
use Rattle.fz_head.specs.declared.plan.Plan.{Plan}
use Rattle.fz_checks.proofs.MadeImage.{primary_is}

-- the sort of an HDU, by its bytes and by its facts
pub only_first : (k : ℕ) (header : List ℕ) → is_primary (sort_of k header) ≡ (k == 0)
only_first zero header = refl
only_first (suc k) header = let other : (suc k == 0) ≡ false = grind (arith, nat_tests) in primary_is (suc k) header ∙ sym other

pub first_by_facts : (header : List ℕ) (h : Header) → IsHeaderOf header h → is_primary h.sort ≡ (h.hdu == 0)
first_by_facts header h is = ap (λ (f : Header). is_primary f.sort) is.facts ∙ only_first h.hdu header

-- the plan says it too
pub primary_planned : (o : PackOptions) (h : Header) → (pack_plan_of o h).primary ≡ is_primary h.sort
unfolding pack_plan_of
primary_planned o h = refl

-- what is answered where no check refuses
answered : (answer r : Option Plan) (found : Option Fault) → unless_refused answer found ≡ Ok r → r ≡ answer
answered answer r None is = let same : r ≡ answer = cc in same
answered answer r (Some x) is = absurd cc

pub plan_answered : (o : PackOptions) (h : Header) (header : List ℕ) (r : Option Plan) → plan_to_pack o h header ≡ Ok r → r ≡ (if is_packable h then Some (pack_plan_of o h) else None)
unfolding plan_to_pack
plan_answered o h header r is = answered (if is_packable h then Some (pack_plan_of o h) else None) r (first_refusal (pack_header_checks o h header)) is

some_if : (b : Bool) (p q : Plan) → Some p ≡ (if b then Some q else None) → (b ≡ true) × (p ≡ q)
some_if true p q is = (refl, (let same : p ≡ q = cc in same))
some_if false p q is = absurd cc

none_if : (b : Bool) (q : Plan) → None ≡ (if b then Some q else None) → b ≡ false
none_if true q is = absurd cc
none_if false q is = refl

pub planned_of : (o : PackOptions) (h : Header) (header : List ℕ) (p : Plan) → plan_to_pack o h header ≡ Ok (Some p) → (is_packable h ≡ true) × (p ≡ pack_plan_of o h)
planned_of o h header p is = some_if (is_packable h) p (pack_plan_of o h) (plan_answered o h header (Some p) is)

pub copied_of : (o : PackOptions) (h : Header) (header : List ℕ) → plan_to_pack o h header ≡ Ok None → is_packable h ≡ false
copied_of o h header is = none_if (is_packable h) (pack_plan_of o h) (plan_answered o h header None is)

-- the byte at which it begins does not matter
pub packable_begun : (start : ℕ) (h : Header) → is_packable (begun_at start h) ≡ is_packable h
unfolding is_packable
packable_begun start h = refl

pub plan_begun : (o : PackOptions) (start : ℕ) (h : Header) → pack_plan_of o (begun_at start h) ≡ pack_plan_of o h
unfolding pack_plan_of
plan_begun o start h = refl
