-- What a view knows of itself: of the HDU at hand and its box, whatever the source shows, and if it shows its bytes; what was read, what was
-- refused, and what failed.
use Rattle.std.specs.Prelude.{ℕ, ◌≡◌, ◌^◌, ◌<◌, ◌≤◌, true, List, length, Option, Some, None, Ok}
use Rattle.std.specs.Option.{ForSome}
use Rattle.fz_base.specs.Counts.{CountsKept, Rose, Tally}
use Rattle.fz_base.specs.Told.{StaysTold}
use Rattle.fz_base.specs.declared.failure.Failed.{Failed}
use Rattle.fz_base.specs.declared.failure.Failed.TheVariants.{Fault as IsFault, NoMemory as IsWant}
use Rattle.fz_base.specs.declared.fault.Fault.{Fault}
use Rattle.fz_block.specs.declared.axes.Axes.{Axes}
use Rattle.fz_grid.specs.declared.region.Region.{Region}
use Rattle.fz_files.specs.Decided.{first_fault}
use Rattle.fz_files.specs.RestoredFile.{restored}
use Rattle.fz_files.specs.Touched.{touched_by}
use Rattle.fz_files.specs.Walks.{headers_for}
use Rattle.fz_files.specs.declared.job.Job.TheVariants.{Unpack}
use Rattle.fz_job.specs.Surveys.{surveyed}
use Rattle.fz_job.specs.declared.checks.JobChecks.TheVariants.{Unpack as UnpackChecks}
use Rattle.fz_job.specs.declared.survey.Survey.{Survey}
use Rattle.fz_retile.specs.Begins.{IsReadHere, IsToldHere}
use Rattle.fz_look.specs.Boxes.{HasBox, LiesInImage, sieve_in}
use Rattle.fz_look.specs.Looked.{first_of}
use Rattle.fz_retile.specs.Views.{is_late, reads_in}
use Rattle.fz_look.specs.declared.here.Here.{Here}
use Rattle.fz_look.specs.declared.looked.First.{First}
use Rattle.fz_look.specs.declared.looked.Space.{Space}

-- what no call changes: how long both files are, how many HDUs there are, and where the first begins
pub record IsFixed (length_is plain_len : ℕ) (s : Survey) (first : First) (asked : Option Axes) : Type 0 where
  pub near : length_is ≤ 2 ^ 62
  pub short : plain_len ≤ 2 ^ 62
  pub some : 0 < s.hdus
  pub few : s.hdus ≤ 65536
  pub asked_few : ForSome asked (λ a. a.n ≤ 9)
  pub first_few : first.hdu < 2
  pub first_zero : first.hdu ≡ 0 → first.start ≡ 0
  pub first_near : 0 < first.hdu → first.start < length_is

-- the HDU at hand is read, and the box lies in its image
pub record IsAtHand (length_is plain_len : ℕ) (s : Survey) (space : Space) (here : Option Here) (boxed : Option Region) : Type 0 where
  pub read : ForSome here (λ h. IsReadHere plain_len length_is (length space.translated) s.tile space.header h)
  pub in_image : ForSome boxed (λ r. ForSome here (λ h. ForSome h.read.image (λ i. LiesInImage i.plan r (length space.band))))
  pub unboxed : here ≡ None → boxed ≡ None

-- If the source shows its bytes: no check of `unpack` refuses them, they stand for so many bytes, and what is at hand is what they stand for.
pub record IsKnownView (g : List ℕ) (plain_len : ℕ) (s : Survey) (first : First) (space : Space) (here : Option Here) (boxed : Option Region) : Type 0 where
  pub sound : first_fault Unpack g ≡ None
  pub surveyed_is : surveyed UnpackChecks g ≡ Ok s
  pub whole : length (restored g) ≡ plain_len
  pub first_is : first ≡ first_of g (headers_for Unpack g)
  pub told : ForSome here (λ h. IsToldHere g space.translated h)
  pub boxed_is : ForSome here (λ h. ForSome boxed (λ r. HasBox g h.read.header (sieve_in r) space.band))

-- what was read since the look began is what `unpack` reads, if the bytes are shown
pub record AreReads (held : Option (List ℕ)) (start now : Option (List (ℕ × ℕ))) : Type 0 where
  pub touched : ForSome held (λ g. reads_in (touched_by Unpack g) start now ≡ true)
  pub told : StaysTold start now

-- what is refused now though the look accepted it: nothing, if the bytes are shown
pub record AreRefusals (held : Option (List ℕ)) (later : Option Fault) (more : ℕ) : Type 0 where
  pub late : ForSome later (λ x. is_late x ≡ true)
  pub never : ForSome held (λ _. more ≡ 0)
  pub none : more ≡ 0 → later ≡ None
  pub some : later ≡ None → more ≡ 0

-- the counts of the source rose only by readings that failed
pub record AreFailures (start now : Tally) (failed : Option Failed) : Type 0 where
  pub kept : CountsKept start now
  pub clean : failed ≡ None → now ≡ start
  pub rose : failed ≡ Some IsFault → Rose start.faults now.faults
  pub wanted : failed ≡ Some IsWant → Rose start.wants now.wants
