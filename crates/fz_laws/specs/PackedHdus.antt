-- What becomes of the HDUs of a file in its packed file, HDU by HDU: the table of an image that can be packed, or the same bytes (FITS
-- 4.0, section 10.1).
use Rattle.std.specs.Prelude.{ℕ, ◌≡◌, Bool, true, false, List, [], ◌∷◌, codes, ⊤}
use Rattle.std.specs.List.{list_any}
use Rattle.fz_block.specs.Cards.{is_named}
use Rattle.fz_block.specs.Hdus.{cards_of}
use Rattle.fz_block.specs.Walk.{hdu_of}
use Rattle.fz_block.specs.declared.header.Header.{Header}
use Rattle.fz_head.specs.Packable.{is_packable}
use Rattle.fz_head.specs.declared.options.PackOptions.{PackOptions}
use Rattle.fz_files.specs.Laws.{IsTableOf, IsTaken, table_hdu}
use Rattle.fz_files.specs.Restored.{is_image, standing}
use Rattle.fz_files.specs.Walks.{headers_for}
use Rattle.fz_files.specs.declared.job.Job.TheVariants.{Pack, Unpack}
use Rattle.fz_laws.specs.RoundTrip.{IsPacked}

-- An HDU of a file is the copy of one of another file: it has the same bytes, and is no packed image.
pub record IsCopyOf (source : List ℕ) (from : Header) (file : List ℕ) (h : Header) : Type 0 where
  pub same : hdu_of file h ≡ hdu_of source from
  pub plain : is_image file h ≡ false

-- what becomes of an HDU that can be packed, or can not
abbrev pub BecomesAs : Bool → PackOptions → List ℕ → Header → List ℕ → Header → Type 0
BecomesAs true o source from file h = IsTableOf o source from file h
BecomesAs false o source from file h = IsCopyOf source from file h

abbrev pub Becomes : PackOptions → List ℕ → Header → List ℕ → Header → Type 0
Becomes o source from file h = BecomesAs (is_packable from) o source from file h

-- what becomes of HDUs, one of each, in their order
abbrev pub Become : PackOptions → List ℕ → List Header → List ℕ → List Header → Type 0
Become o source [] file [] = ⊤
Become o source [] file (h ∷ hs) = ⊥
Become o source (from ∷ rest) file [] = ⊥
Become o source (from ∷ rest) file (h ∷ hs) = Becomes o source from file h × Become o source rest file hs

-- the HDUs of a packed file that stand for something are what becomes of those of the file
abbrev pub HdusBecome : Type 0
HdusBecome = (o : PackOptions) (file bytes : List ℕ) → IsPacked o file bytes →
    Become o file (headers_for (Pack o) file) bytes (standing bytes (headers_for Unpack bytes))

-- the cards of a header have both cards of sums, or neither
pub record HasSumCards (sums : Bool) (cards : List (List ℕ)) : Type 0 where
  pub datasum : list_any (is_named (codes "DATASUM")) cards ≡ sums
  pub checksum : list_any (is_named (codes "CHECKSUM")) cards ≡ sums

-- the table of an image that `pack` takes has both if the options ask for sums, and else neither
abbrev pub TablesHaveSums : Type 0
TablesHaveSums = (o : PackOptions) (source : List ℕ) (from : Header) → IsTaken o source from → HasSumCards o.sums (cards_of (table_hdu o source from).header)
