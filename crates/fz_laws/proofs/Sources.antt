-- The HDUs of a file that `pack` takes.
use Rattle.std.specs.Prelude.{⊤}
use Rattle.std.proofs.Common.{◌≡◌, ℕ, suc, ◌+◌, Bool, true, false, List, [], ◌∷◌, length, map, Option, Some, None, IsOk, ◌||◌, refl, sym, subst, ◌∙◌, ap}
use Rattle.fz_base.specs.Refusal.{first_refusal}
use Rattle.fz_base.specs.declared.fault.Fault.{Fault}
use Rattle.fz_block.specs.Checks.{unless_refused}
use Rattle.fz_block.specs.Facts.{IsHeaderOf}
use Rattle.fz_block.specs.Hdus.{data_len_of, hdu_bytes}
use Rattle.fz_block.specs.Header.{next_start_of, whole_blocks_of}
use Rattle.fz_block.specs.Walk.{AreHeadersBetween, PassFrom, PassesAt, RefusesNone, begins_hdu, hdu_of, is_stop, stops}
use Rattle.fz_block.specs.declared.header.Header.{Header}
use Rattle.fz_tile.specs.Plain.{AreBytes}
use Rattle.fz_checks.specs.JobChecks.{pack_hdu_checks}
use Rattle.fz_checks.specs.Judges.{pack_judge}
use Rattle.fz_head.specs.Packable.{is_packable}
use Rattle.fz_head.specs.Planned.{AreOptions}
use Rattle.fz_head.specs.declared.options.PackOptions.{PackOptions}
use Rattle.fz_files.specs.Laws.{IsTaken}

-- a header of the file, which is that of HDU k: it passes the checks of every job, and those of `pack`
pub record IsSource (o : PackOptions) (file : List ℕ) (k : ℕ) (h : Header) : Type 0 where
  pub number : h.hdu ≡ k
  pub is_header : IsHeaderOf (hdu_of file h).header h
  pub start : ℕ
  pub passes : PassesAt k start (length file) (hdu_of file h)
  pub none : first_refusal (pack_hdu_checks o file h) ≡ None

abbrev pub AreSources : PackOptions → List ℕ → ℕ → List Header → Type 0
AreSources o file k [] = ⊤
AreSources o file k (h ∷ hs) = IsSource o file k h × AreSources o file (suc k) hs

-- checks that answer refuse nothing
pub answer_none : (answer : Bool) (found : Option Fault) → IsOk (unless_refused answer found) → found ≡ None
answer_none answer None ok = refl
answer_none answer (Some fault) ok = absurd cc

pub sources : (o : PackOptions) (file : List ℕ) (k start end first : ℕ) (hs : List Header) → AreHeadersBetween k start end file hs → PassFrom k first (length file) (map (hdu_of file) hs) →
    RefusesNone (pack_judge o file) hs → AreSources o file k hs
sources o file k start end first [] are pass none = tt
sources o file k start end first (h ∷ hs) are pass none = (
  record { number = are.0; is_header = are.2; start = first; passes = pass.0; none = answer_none false (first_refusal (pack_hdu_checks o file h)) none.0 },
  sources o file (suc k) (next_start_of h) end (first + length (hdu_bytes (hdu_of file h))) hs are.3 pass.1 none.1,
)

-- an image among them is one that is taken
pub taken : (o : PackOptions) (file : List ℕ) (k : ℕ) (h : Header) → AreOptions o → AreBytes file → IsSource o file k h → is_packable h ≡ true → IsTaken o file h
taken o file k h options bytes s packable = record {
  image = record { options = options; is_header = s.is_header; packable = packable; passed = s.none };
  bytes = bytes;
  simple = λ first. subst (λ n. begins_hdu n (hdu_of file h).header ≡ true) (sym s.number ∙ first) s.passes.begins;
  whole =
      let size : h.data_len ≡ data_len_of h.hdu (hdu_of file h).header = ap (λ (f : Header). f.data_len) s.is_header.facts in
      s.passes.hdu.payload ∙ ap whole_blocks_of (ap (λ n. data_len_of n (hdu_of file h).header) (sym s.number) ∙ sym size);
}

-- `pack` stops at none of them
pub never_stops : (o : PackOptions) (file : List ℕ) (hs : List Header) → stops (pack_judge o file) hs ≡ false
never_stops o file [] = refl
never_stops o file (h ∷ hs) = by_none (first_refusal (pack_hdu_checks o file h)) (never_stops o file hs)
  where
    by_none : (found : Option Fault) → stops (pack_judge o file) hs ≡ false → (is_stop (unless_refused false found) || stops (pack_judge o file) hs) ≡ false
    by_none None rest = rest
    by_none (Some fault) rest = rest
