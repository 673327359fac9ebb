-- Bytes that are read of an HDU that is copied (FITS 4.0, section 3.1).
use Rattle.std.proofs.Common.{◌≡◌, ℕ, ◌+◌, ◌-◌, ◌<◌, ◌≤◌, List, Option, Some, None, IfSome, refl, arith}
use Rattle.std.specs.Option.{ForSome}
use Rattle.fz_base.specs.Ranges.{LogsIn}
use Rattle.fz_base.specs.Source.{LogsWithin, MayLog}
use Rattle.fz_block.specs.Header.{next_start_of}
use Rattle.fz_grid.specs.declared.region.Region.{Region}
use Rattle.fz_files.specs.Touched.{touched_by}
use Rattle.fz_files.specs.declared.job.Job.TheVariants.{Unpack}
use Rattle.fz_job.specs.declared.survey.Survey.{Survey}
use Rattle.fz_look.specs.Here.{IsInOrder}
use Rattle.fz_retile.specs.Holds.{IsKnownView}
use Rattle.fz_look.specs.Laws.{CopyIsTouched}
use Rattle.fz_look.specs.declared.here.Here.{Here}
use Rattle.fz_look.specs.declared.looked.First.{First}
use Rattle.fz_look.specs.declared.looked.Space.{Space}

-- what a log of one read says
abbrev pub OneLogLaw : Type 0
OneLogLaw = (from to at count : ℕ) (old new : Option (List (ℕ × ℕ))) → 0 < count → from ≤ at → at + count ≤ to → MayLog at count old new → LogsWithin from to old new

module _ (law : CopyIsTouched) (one : OneLogLaw) (plain_len length_is room : ℕ) (s : Survey) (first : First) (space : Space) (here : Option Here) (boxed : Option Region) (h : Here) (at_hand : here ≡ Some h) (none : h.read.image ≡ None)
    (order : IsInOrder plain_len length_is room h) where
  -- the bytes of the HDU, from a plain byte of it on
  pub ends_in : (at count : ℕ) → h.at ≤ at → at + count ≤ h.end → h.read.header.start + (at - h.at) + count ≤ next_start_of h.read.header
  ends_in at count low high = let whole = order.whole none in omega (arith, whole, low, high)

  pub copy_read : (held : Option (List ℕ)) (at count : ℕ) (old new : Option (List (ℕ × ℕ))) → ForSome held (λ g. IsKnownView g plain_len s first space here boxed) → 0 < count → h.at ≤ at → at + count ≤ h.end →
      MayLog (h.read.header.start + (at - h.at)) count old new → IfSome held (λ g. LogsIn (touched_by Unpack g) old new)
  copy_read None at count old new known some low high log = tt
  copy_read (Some g) at count old new known some low high log =
      let w = known g refl in
      let told = w.told h at_hand in
      law g s h old new w.surveyed_is told.here none
      (one h.read.header.start (next_start_of h.read.header) (h.read.header.start + (at - h.at)) count old new some (omega arith) (ends_in at count low high) log)
