-- Why a front says nothing is what the answer says.
use Rattle.std.proofs.Common.{◌≡◌, ℕ, ℤ, List, length, Result, Ok, Err}
use Rattle.fz_flat.specs.Fronts.{hdu_there, image_there_of, more_by, more_wanted}
use Rattle.fz_flat.specs.declared.fronts.Unread.{Unread}
use Rattle.fz_flat.specs.declared.fronts.Unread.TheVariants.{NoPlace, GoesOn, Refused as IsRefused}
use Rattle.fz_flat.specs.declared.hdu.FzFault.{FzFault}
use Rattle.fz_flat.specs.declared.hdu.FzHdu.{FzHdu}
use Rattle.fz_flat.specs.declared.place.FzAt.{FzAt}
use Rattle.fz_flat.specs.declared.plan.FzPlan.{FzPlan}
use Rattle.fz_c.specs.Faults.{answer_of}
use Rattle.fz_c.specs.Fronts.{SaysHdu, SaysPlan, WantsMore, fault_for, told_fault}
use Rattle.fz_c.specs.Fronts.SaysHdu.{refused as hdu_refused, few_bytes as hdu_goes_on, no_hdu as hdu_nowhere}
use Rattle.fz_c.specs.Fronts.SaysPlan.{refused as plan_refused, few_bytes as plan_goes_on, no_hdu as plan_nowhere}
use Rattle.fz_c.specs.Fronts.WantsMore.{refused as more_refused, no_hdu as more_nowhere}

-- that more is wanted is no reason to say nothing
never-on : (at : FzAt) (n : ℕ) (r : Result ℕ Unread) → more_by at n r ≡ Err GoesOn → ⊥
never-on at n (Ok blocks) e = let h : ⊥ = cc in h
never-on at n (Err NoPlace) e = let h : ⊥ = cc in h
never-on at n (Err GoesOn) e = let h : ⊥ = cc in h
never-on at n (Err (IsRefused x)) e = let h : ⊥ = cc in h

pub wants_none : (front : List ℕ) (at : FzAt) (more : ℕ) (why : Unread) (answer : ℤ) → more_wanted at front ≡ Err why → answer ≡ answer_of (fault_for why) → WantsMore front at more answer
unfolding more_wanted
wants_none front at more NoPlace answer e said = more_nowhere said e
wants_none front at more GoesOn answer e said = absurd (never-on at (length front) _ e)
wants_none front at more (IsRefused x) answer e said = more_refused x said e

pub says_no_hdu : (front : List ℕ) (at : FzAt) (hdu : FzHdu) (before fault : FzFault) (why : Unread) (answer : ℤ) → hdu_there at front ≡ Err why → answer ≡ answer_of (fault_for why)
    → fault ≡ told_fault why before → SaysHdu front at hdu before fault answer
says_no_hdu front at hdu before fault NoPlace answer e said told = hdu_nowhere said e told
says_no_hdu front at hdu before fault GoesOn answer e said told = hdu_goes_on said e told
says_no_hdu front at hdu before fault (IsRefused x) answer e said told = hdu_refused x said e told

pub says_no_plan : (front : List ℕ) (at : FzAt) (plan : FzPlan) (before fault : FzFault) (why : Unread) (answer : ℤ) → image_there_of at front ≡ Err why → answer ≡ answer_of (fault_for why)
    → fault ≡ told_fault why before → SaysPlan front at plan before fault answer
says_no_plan front at plan before fault NoPlace answer e said told = plan_nowhere said e told
says_no_plan front at plan before fault GoesOn answer e said told = plan_goes_on said e told
says_no_plan front at plan before fault (IsRefused x) answer e said told = plan_refused x said e told
