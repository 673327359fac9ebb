-- What the calls that pack an image ask for, and what all of them leave and say (FITS 4.0, sections 7.3.5 and 10.1).
use Rattle.std.specs.Prelude.{ℕ, Bool, IsTrue, List, Option, Result}
use Rattle.fz_base.specs.Counts.{Tally}
use Rattle.fz_base.specs.Keeps.{SinkStays, SourceStays}
use Rattle.fz_base.specs.Stop.{CodesAndWrites, OnlyReads}
use Rattle.fz_base.specs.declared.failure.Stop.{Stop}
use Rattle.fz_image.specs.Layout.{HasPixels, IsLayout, ReadsPixels}
use Rattle.fz_image.specs.declared.layout.Layout.{Layout}

-- what is attached has the pixels of the image
pub record CanLoad (attached : Option ℕ) (l : Layout) : Type 0 where
  pub layout : IsLayout l
  pub pixels : HasPixels attached l

-- and the table can be written
pub record CanPack (attached : Option ℕ) (created : Bool) (l : Layout) : Type 0 where
  pub layout : IsLayout l
  pub pixels : HasPixels attached l
  pub created_is : IsTrue created

-- a call that reads pixels of the image leaves the source as it was, reads nothing else, and says why it stopped
pub record StaysLoading
    {S X : Type 0} (held : S → Option (List ℕ)) (attached : S → Option ℕ) (ranges : S → Option (List (ℕ × ℕ)))
    (tally : S → Tally) (l : Layout) (old new : S) (result : Result X Stop) : Type 0 where
  pub source : SourceStays held attached ranges old new
  pub log : ReadsPixels l (ranges old) (ranges new)
  pub cause : OnlyReads (tally old) (tally new) result

-- so does one that encodes tiles and writes their table, and leaves the sink as it was but for that
pub record StaysPacking
    {S K X : Type 0} (held : S → Option (List ℕ)) (attached : S → Option ℕ) (ranges : S → Option (List (ℕ × ℕ))) (reads : S → Tally)
    (created : K → Bool) (contents : K → Option (List ℕ)) (writes : K → Tally) (l : Layout) (old new : S) (before now : K)
    (result : Result X Stop) : Type 0 where
  pub source : SourceStays held attached ranges old new
  pub sink : SinkStays created contents before now
  pub log : ReadsPixels l (ranges old) (ranges new)
  pub cause : CodesAndWrites (reads old) (reads new) (writes before) (writes now) result
