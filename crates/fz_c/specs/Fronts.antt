-- What the answers of the calls that read the front of an HDU say (FITS 4.0, sections 3.3.1, 4.4.1 and 10.1). Each test comes after
-- those before it, so that one answer has one cause.
use Rattle.std.specs.Prelude.{ℕ, ◌≡◌, ℤ, pos, List, Ok, Err}
use Rattle.fz_base.specs.declared.fault.Fault.{Fault as FaultOf}
use Rattle.fz_checks.specs.declared.job_checks.PackedImage.{PackedImage}
use Rattle.fz_flat.specs.declared.fronts.Unread.{Unread}
use Rattle.fz_flat.specs.declared.fronts.Unread.TheVariants.{NoPlace, GoesOn, Refused as IsRefused}
use Rattle.fz_flat.specs.declared.hdu.FzFault.{FzFault}
use Rattle.fz_flat.specs.declared.hdu.FzHdu.{FzHdu}
use Rattle.fz_flat.specs.declared.place.FzAt.{FzAt}
use Rattle.fz_flat.specs.declared.plan.FzPlan.{FzPlan}
use Rattle.fz_flat.specs.Fronts.{hdu_there, image_there_of, more_wanted}
use Rattle.fz_flat.specs.Hdus.{flat_fault}
use Rattle.fz_flat.specs.Plans.{flat_plan}
use Rattle.fz_c.specs.declared.fault.Fault.{Fault}
use Rattle.fz_c.specs.declared.fault.Fault.TheVariants.{FewBytes, NoHdu, Rejected}
use Rattle.fz_c.specs.Faults.{answer_of}

-- why a front gives nothing
abbrev pub fault_for : Unread → Fault
fault_for NoPlace = NoHdu
fault_for GoesOn = FewBytes
fault_for (IsRefused x) = Rejected x.kind

-- where the HDU is refused, if it is
abbrev pub told_fault : Unread → FzFault → FzFault
told_fault NoPlace before = before
told_fault GoesOn before = before
told_fault (IsRefused x) before = flat_fault x

-- the answer of `fz_front_len`
pub data WantsMore (front : List ℕ) (at : FzAt) (more : ℕ) (answer : ℤ) : Type 0 where
  -- so many bytes more are wanted, none if the header is whole
  done : answer ≡ pos 0 → more_wanted at front ≡ Ok more → WantsMore front at more answer
  -- the header is refused
  refused : (x : FaultOf) → answer ≡ answer_of (Rejected x.kind) → more_wanted at front ≡ Err (IsRefused x) → WantsMore front at more answer
  -- no HDU begins there
  no_hdu : answer ≡ answer_of NoHdu → more_wanted at front ≡ Err NoPlace → WantsMore front at more answer

-- the answer of `fz_hdu`
pub data SaysHdu (front : List ℕ) (at : FzAt) (hdu : FzHdu) (before fault : FzFault) (answer : ℤ) : Type 0 where
  -- these are the facts of the header
  done : answer ≡ pos 0 → hdu_there at front ≡ Ok hdu → fault ≡ before → SaysHdu front at hdu before fault answer
  -- it is refused there
  refused : (x : FaultOf) → answer ≡ answer_of (Rejected x.kind) → hdu_there at front ≡ Err (IsRefused x) → fault ≡ flat_fault x
      → SaysHdu front at hdu before fault answer
  -- it goes on after these bytes
  few_bytes : answer ≡ answer_of FewBytes → hdu_there at front ≡ Err GoesOn → fault ≡ before → SaysHdu front at hdu before fault answer
  -- no HDU begins there
  no_hdu : answer ≡ answer_of NoHdu → hdu_there at front ≡ Err NoPlace → fault ≡ before → SaysHdu front at hdu before fault answer

-- the answer of `fz_plan`
pub data SaysPlan (front : List ℕ) (at : FzAt) (plan : FzPlan) (before fault : FzFault) (answer : ℤ) : Type 0 where
  -- this is the plan of the packed image
  done : answer ≡ pos 0 → (image : PackedImage) → image_there_of at front ≡ Ok image → plan ≡ flat_plan image → fault ≡ before
      → SaysPlan front at plan before fault answer
  -- the HDU is refused there, as `cut` refuses it for whatever box
  refused : (x : FaultOf) → answer ≡ answer_of (Rejected x.kind) → image_there_of at front ≡ Err (IsRefused x) → fault ≡ flat_fault x
      → SaysPlan front at plan before fault answer
  -- its header goes on after these bytes
  few_bytes : answer ≡ answer_of FewBytes → image_there_of at front ≡ Err GoesOn → fault ≡ before → SaysPlan front at plan before fault answer
  -- no HDU begins there
  no_hdu : answer ≡ answer_of NoHdu → image_there_of at front ≡ Err NoPlace → fault ≡ before → SaysPlan front at plan before fault answer
