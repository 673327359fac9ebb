-- The HDUs of a file by the facts of their headers, one after another (FITS 4.0, sections 3.1 and 3.3).
use Rattle.std.specs.Prelude.{ℕ, zero, suc, ◌≡◌, ◌==◌, ◌+◌, ◌*◌, ◌<◌, ◌≤◌, ◌||◌, Bool, true, false, List}
use Rattle.std.specs.Prelude.{[], ◌∷◌, length, take, drop, codes, bytes_eq, Result, Ok, Err, IsOk, ⊤}
use Rattle.fz_base.specs.declared.fault.Fault.{Fault}
use Rattle.fz_block.specs.Cards.{card_at}
use Rattle.fz_block.specs.Checks.{Judge, is_set, header_of}
use Rattle.fz_block.specs.Facts.{IsHeaderOf, facts_of}
use Rattle.fz_block.specs.Hdus.{Hdu, IsHeader, IsHdu, hdu_bytes}
use Rattle.fz_block.specs.Header.{whole_blocks_of, data_start_of, next_start_of}
use Rattle.fz_block.specs.declared.header.Header.{Header}

-- the HDU of a file that has these facts: the blocks of its header, and its data with fill
abbrev pub hdu_of : List ℕ → Header → Hdu
hdu_of file h = record {
  header = take (2880 * h.blocks) (drop h.start file);
  payload = take (whole_blocks_of h.data_len) (drop (data_start_of h) file);
}

-- whether a header begins as that of HDU k: with SIMPLE = T, or with XTENSION in an extension
abbrev pub begins_hdu : ℕ → List ℕ → Bool
begins_hdu zero header = is_set (codes "SIMPLE") (card_at header 0)
begins_hdu (suc k) header = bytes_eq (take 8 header) (codes "XTENSION")

-- a header of at most 256 blocks is at this byte of the file, as that of HDU k, which is one of the first 65,536
pub record StandsAt (k start : ℕ) (file header : List ℕ) : Type 0 where
  pub whole : IsHeader header
  pub short : length header ≤ 737280
  pub place : take (length header) (drop start file) ≡ header
  pub number : k < 65536
  pub begins : begins_hdu k header ≡ true

-- HDU k, whose header passes the checks of every job where it begins at this byte of a file of so many bytes
pub record PassesAt (k start len : ℕ) (h : Hdu) : Type 0 where
  pub hdu : IsHdu k h
  pub short : length h.header ≤ 737280
  pub number : k < 65536
  pub begins : begins_hdu k h.header ≡ true
  pub checks : IsOk (header_of k start len h.header)

-- HDUs from number k on that pass them, one after another from this byte on
abbrev pub PassFrom : ℕ → ℕ → ℕ → List Hdu → Type 0
PassFrom k start len [] = ⊤
PassFrom k start len (h ∷ hs) = PassesAt k start len h × PassFrom (suc k) (start + length (hdu_bytes h)) len hs

-- the facts of their headers
abbrev pub facts_from : ℕ → ℕ → List Hdu → List Header
facts_from k start [] = []
facts_from k start (h ∷ hs) = facts_of k start h.header ∷ facts_from (suc k) (start + length (hdu_bytes h)) hs

-- Headers from HDU k on, which begins at the first of two bytes: they are numbered one after another, each is where the HDU
-- before it ends, and the last HDU ends at the second.
abbrev pub AreHeadersBetween : ℕ → ℕ → ℕ → List ℕ → List Header → Type 0
AreHeadersBetween k start end file [] = start ≡ end
AreHeadersBetween k start end file (h ∷ hs) =
    (h.hdu ≡ k) × (h.start ≡ start) × IsHeaderOf (hdu_of file h).header h × AreHeadersBetween (suc k) (next_start_of h) end file hs

-- the headers of a file from HDU k on: the last HDU ends with the file
abbrev pub AreHeadersFrom : ℕ → ℕ → List ℕ → List Header → Type 0
AreHeadersFrom k start file hs = AreHeadersBetween k start (length file) file hs

-- whether the job stops at an HDU
abbrev pub is_stop : Result Bool Fault → Bool
is_stop (Ok stop) = stop
is_stop (Err fault) = false

-- whether the job stops at one of these
abbrev pub stops : Judge → List Header → Bool
stops judge [] = false
stops judge (h ∷ hs) = is_stop (judge h) || stops judge hs

-- the job refuses none of these
abbrev pub RefusesNone : Judge → List Header → Type 0
RefusesNone judge [] = ⊤
RefusesNone judge (h ∷ hs) = IsOk (judge h) × RefusesNone judge hs

-- no checks of its own, and a stop after so many HDUs
abbrev pub stop_after : ℕ → Judge
stop_after n h = Ok (suc h.hdu == n)
