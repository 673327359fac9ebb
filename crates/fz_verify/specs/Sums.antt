-- The sums of an HDU and the verdicts on them (FITS 4.0, section 4.4.2.7).
use Rattle.std.specs.Prelude.{ℕ, ◌≡◌, ◌||◌, not, Bool, List}
use Rattle.fz_block.specs.Hdus.{cards_of}
use Rattle.fz_block.specs.Walk.{hdu_of}
use Rattle.fz_block.specs.declared.header.Header.{Header}
use Rattle.fz_sum.specs.Pieces.{Added, after, nothing}
use Rattle.fz_sum.specs.Verdicts.{checksum_verdict, datasum_verdict}
use Rattle.fz_files.specs.Lines.{is_wrong}
use Rattle.fz_verify.specs.declared.sums.Verdicts.{Verdicts}

-- the verdicts are those on the HDU with this header
pub record AreVerdictsOn (file : List ℕ) (h : Header) (v : Verdicts) : Type 0 where
  pub datasum : v.datasum ≡ datasum_verdict (cards_of (hdu_of file h).header) (hdu_of file h).payload
  pub checksum : v.checksum ≡ checksum_verdict (cards_of (hdu_of file h).header) (hdu_of file h).header (hdu_of file h).payload

-- none of them is that a sum is wrong
abbrev pub are_right : Verdicts → Bool
are_right v = not (is_wrong v.datasum || is_wrong v.checksum)

-- bytes were added from the first on, and nothing else
abbrev pub HasAdded : List ℕ → Added → Type 0
HasAdded bytes sum = sum ≡ after nothing 0 bytes
