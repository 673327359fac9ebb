-- What `verify` reports of HDUs, whatever the source shows of its bytes (FITS 4.0, sections 3.1 and 4.4.2.7).
use Rattle.std.specs.Prelude.{ℕ, ◌≡◌, ◌+◌, ◌||◌, not, Bool, List, [], ◌∷◌, ◌++◌, length, codes, decimal, Option, Some, None, ⊤}
use Rattle.std.specs.List.{flat_map, list_all}
use Rattle.fz_base.specs.Sink.{appended}
use Rattle.fz_files.specs.Lines.{is_wrong, verdict_word}
use Rattle.fz_sum.specs.declared.verdicts.Verdict.{Verdict}

-- an HDU by its number: the verdicts on its sums, and how many tiles were decoded if it is a packed image
pub record Reported : Type 0 where
  pub hdu : ℕ
  pub datasum : Verdict
  pub checksum : Verdict
  pub tiles : Option ℕ

-- the number of tiles in a line
abbrev pub tiles_word : Option ℕ → List ℕ
tiles_word None = codes "-"
tiles_word (Some tiles) = decimal tiles

-- its line
abbrev pub reported_line : Reported → List ℕ
reported_line r =
    codes "HDU " ++ decimal r.hdu ++ codes " datasum " ++ verdict_word r.datasum ++ codes " checksum " ++ verdict_word r.checksum ++ codes " tiles "
    ++ tiles_word r.tiles ++ codes "\n"

-- none of its sums is reported as wrong
abbrev pub is_right : Reported → Bool
is_right r = not (is_wrong r.datasum || is_wrong r.checksum)

-- HDUs one after another, from the one with this number on: the primary is HDU 0, and each extension has one more than the HDU before it
abbrev pub AreNumbered : ℕ → List Reported → Type 0
AreNumbered k [] = ⊤
AreNumbered k (r ∷ rs) = (r.hdu ≡ k) × AreNumbered (k + 1) rs

-- a text got the lines of so many HDUs, from this one on, and the answer is that no sum is reported as wrong in them, or that one is
abbrev pub ReportsFrom : ℕ → ℕ → Option (List ℕ) → Option (List ℕ) → Bool → Type 0
ReportsFrom first count old new right =
    (reported : List Reported) × (new ≡ appended (flat_map reported_line reported) old) × (right ≡ list_all is_right reported)
    × AreNumbered first reported × (length reported ≡ count)

-- a text got the lines of some HDUs, from HDU 0 on and in order, and the answer is that no sum is reported as wrong in them, or that one is
abbrev pub Reports : Option (List ℕ) → Option (List ℕ) → Bool → Type 0
Reports old new right =
    (reported : List Reported) × (new ≡ appended (flat_map reported_line reported) old) × (right ≡ list_all is_right reported) × AreNumbered 0 reported

-- a text has what it had, and may have more after it
abbrev pub Grew : Option (List ℕ) → Option (List ℕ) → Type 0
Grew old new = (more : List ℕ) × (new ≡ appended more old)
