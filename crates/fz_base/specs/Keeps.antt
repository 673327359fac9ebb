-- What a call leaves as it was.
use Rattle.std.specs.Prelude.{ℕ, ◌≡◌, Bool, List, Option}
use Rattle.fz_base.specs.FirstByte.{StaysShut}
use Rattle.fz_base.specs.Told.{StaysTold}

-- a source that was read: what it holds, how long it is, and that it shows the ranges that were read, if it did
pub record SourceStays {S : Type 0} (held : S → Option (List ℕ)) (attached : S → Option ℕ) (ranges : S → Option (List (ℕ × ℕ))) (old new : S) : Type 0 where
  pub held_is : held new ≡ held old
  pub attached_is : attached new ≡ attached old
  pub told : StaysTold (ranges old) (ranges new)

-- a sink that was written: whether it was made; that contents which do not begin as a FITS file does still do not; and that it shows its
-- contents, if it did
pub record SinkStays {K : Type 0} (created : K → Bool) (contents : K → Option (List ℕ)) (old new : K) : Type 0 where
  pub created_is : created new ≡ created old
  pub shut : StaysShut (contents old) (contents new)
  pub told : StaysTold (contents old) (contents new)
