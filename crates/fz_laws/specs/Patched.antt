-- What a patch is: the image has the given one in its box, and everything else as it was (FITS 4.0, sections 3.3.2, 4.4.2.7 and 10.1).
use Rattle.std.specs.Prelude.{ℕ, ◌≡◌, ◌<◌, ℤ, List, ◌++◌, length, Contains}
use Rattle.fz_block.specs.Hdus.{cards_of}
use Rattle.fz_block.specs.Header.{next_start_of}
use Rattle.fz_block.specs.Walk.{hdu_of}
use Rattle.fz_block.specs.declared.header.Header.{Header}
use Rattle.fz_sum.specs.Verdicts.{checksum_verdict, datasum_verdict}
use Rattle.fz_sum.specs.declared.verdicts.Verdict.{Verdict}
use Rattle.fz_sum.specs.declared.verdicts.Verdict.TheVariants.{Absent, Right, Wrong}
use Rattle.fz_grid.specs.Arrays.{NumberArray}
use Rattle.fz_files.specs.Packed.{tiles_in}
use Rattle.fz_files.specs.Restored.{RowStandsFor, RowsStandFor, header_in, image_bytes, plan_in}
use Rattle.fz_files.specs.StandsFor.{StandsFor}
use Rattle.fz_laws.specs.Given.{Given}
use Rattle.fz_laws.specs.NewNumbers.{box_tiles, new_numbers, replaced}
use Rattle.fz_laws.specs.Writes.{header_now}

-- Each tile with a pixel in the box has its new numbers, and every other that had numbers has them; the HDU still ends with the file.
pub record HasNewTiles (file new : List ℕ) (h : Header) (g : Given) : Type 0 where
  pub inside :
      (t : ℕ) (xs : List ℤ) → Contains (box_tiles (plan_in file h) g) t → RowStandsFor file h t xs →
      RowStandsFor new (header_now new h) t (new_numbers (plan_in file h) g t xs)
  pub outside :
      (t : ℕ) (xs : List ℤ) → t < tiles_in (plan_in file h) → ¬ Contains (box_tiles (plan_in file h) g) t → RowStandsFor file h t xs →
      RowStandsFor new (header_now new h) t xs
  pub ends : next_start_of (header_now new h) ≡ length new

-- Of two files the second is the first with the box of an image replaced, which is the last HDU of both: what is before it is the same,
-- and its header. The image is the one that this packed HDU of another file stands for.
pub record IsReplacedIn (file : List ℕ) (h : Header) (g : Given) (restored after : List ℕ) : Type 0 where
  pub earlier : List ℕ
  pub array : NumberArray
  pub rows : RowsStandFor file h array
  pub was : restored ≡ earlier ++ image_bytes (plan_in file h) (cards_of (header_in file h)) array
  pub now : after ≡ earlier ++ image_bytes (plan_in file h) (cards_of (header_in file h)) (replaced g array)

-- the patched file stands for that file
pub record StandsForReplaced (file new : List ℕ) (h : Header) (g : Given) (restored : List ℕ) : Type 0 where
  pub after : List ℕ
  pub stands : StandsFor new after
  pub image : IsReplacedIn file h g restored after

-- what is said of a sum after a patch, by what was said before: it is right, if there is one
abbrev pub renewed : Verdict → Verdict
renewed Absent = Absent
renewed Right = Right
renewed Wrong = Right

-- the verdicts on the checksums of an HDU
abbrev pub verdict_on_data : List ℕ → Header → Verdict
verdict_on_data file h = datasum_verdict (cards_of (hdu_of file h).header) (hdu_of file h).payload

abbrev pub verdict_on_hdu : List ℕ → Header → Verdict
verdict_on_hdu file h = checksum_verdict (cards_of (hdu_of file h).header) (hdu_of file h).header (hdu_of file h).payload

-- each checksum of the HDU that was there is right, and none has come
pub record HasRightSums (file new : List ℕ) (h : Header) : Type 0 where
  pub of_data : verdict_on_data new (header_now new h) ≡ renewed (verdict_on_data file h)
  pub of_hdu : verdict_on_hdu new (header_now new h) ≡ renewed (verdict_on_hdu file h)

-- A file is patched: its tiles have the numbers that they should have; if the file stood for another, it stands for that with the box
-- replaced; and the checksums of the HDU are right.
pub record IsPatched (file new : List ℕ) (h : Header) (g : Given) : Type 0 where
  pub tiles : HasNewTiles file new h g
  pub image : (restored : List ℕ) → StandsFor file restored → StandsForReplaced file new h g restored
  pub sums : HasRightSums file new h
