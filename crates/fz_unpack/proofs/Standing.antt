-- The first HDU that stands for something is the one that the first look tells (FITS 4.0, section 10.1).
use Rattle.std.proofs.Common.{◌≡◌, ℕ, suc, ◌<◌, ◌≤◌, ◌^◌, ◌==◌, ◌⊎◌, inl, inr, ◌&&◌, Bool, true, false, if◌then◌else◌, List, [], ◌∷◌, Option, Some, None, IfSome, refl, sym, ap, ◌∙◌, arith}
use Rattle.std.proofs.lemmas.Bool.Decides.{nat_tests}
use Rattle.fz_block.specs.Hdus.{cards_of, size_at}
use Rattle.fz_block.specs.Header.{next_start_of}
use Rattle.fz_block.specs.declared.header.Header.{Header}
use Rattle.fz_checks.specs.JobChecks.{is_after_empty}
use Rattle.fz_head.specs.PlainHeader.{was_primary}
use Rattle.fz_files.specs.Restored.{header_in, is_image, is_packed_primary}
use Rattle.fz_job.specs.Surveys.{primary_at}
use Rattle.fz_job.specs.declared.survey.Survey.{Survey}
use Rattle.fz_job.specs.Again.{WasSeen, WereSeen, is_empty_primary}
use Rattle.fz_job.specs.Known.{IsList}
use Rattle.fz_unpack.specs.First.{behind_primary, first_at, first_of, the_primary}
use Rattle.fz_unpack.specs.Laws.{PrimariesAreBehind}
use Rattle.fz_unpack.proofs.Begun.{none_behind_it, one_behind}

-- it begins within the file
pub first_place : (len : ℕ) (o : Option ℕ) → IfSome o (λ start. (start < len) × (start ≤ 2 ^ 62)) →
    (((first_at o).start < len) ⊎ (((first_at o).hdu ≡ 0) × ((first_at o).start ≡ 0))) × ((first_at o).start ≤ 2 ^ 62)
first_place len None is = (inr (refl, refl), omega arith)
first_place len (Some start) is = (inl is.0, is.1)

-- ---- a packed primary is after an empty one

behind_by : PrimariesAreBehind → (file : List ℕ) (header_len tile k start : ℕ) (h : Header) (b : Bool) → WasSeen file k start header_len tile h → is_image file h ≡ b → (b && was_primary (cards_of (header_in file h))) ≡ true → is_after_empty file h ≡ true
behind_by law file header_len tile k start h false seen is both = absurd cc
behind_by law file header_len tile k start h true seen is both = law h (header_in file h) (is_after_empty file h) (record { image = seen.image; passed = seen.said; packed = is; primary = both })

no_primary : (b c : Bool) → (b ≡ true → c ≡ true) → c ≡ false → b ≡ false
no_primary true c so not = let is = so refl in absurd cc
no_primary false c so not = refl

module _ (law : PrimariesAreBehind) (file : List ℕ) (header_len tile : ℕ) where
  after_primary : (k start : ℕ) (h : Header) → WasSeen file k start header_len tile h → is_packed_primary file h ≡ true → is_after_empty file h ≡ true
  after_primary k start h seen both = behind_by law file header_len tile k start h (is_image file h) seen refl both

  not_primary : (k start : ℕ) (h : Header) → WasSeen file k start header_len tile h → is_after_empty file h ≡ false → is_packed_primary file h ≡ false
  not_primary k start h seen not = no_primary (is_packed_primary file h) (is_after_empty file h) (after_primary k start h seen) not

  -- an HDU after the second is after no primary
  later_flag : (k start : ℕ) (h : Header) → WasSeen file (suc (suc k)) start header_len tile h → is_after_empty file h ≡ false
  later_flag k start h seen =
      let apart : (suc (suc k) == 1) ≡ false = grind (arith, nat_tests) in
      ap (λ n. n == 1 && size_at file 2 == 0) seen.number ∙ ap (λ c. c && size_at file 2 == 0) apart

  none_later : (k start : ℕ) (hs : List Header) → WereSeen file header_len tile (suc (suc k)) start hs → primary_at (is_packed_primary file) hs ≡ None
  none_later k start [] seen = refl
  none_later k start (h ∷ hs) seen =
      ap (λ b. if b then Some h.start else primary_at (is_packed_primary file) hs) (not_primary (suc (suc k)) start h seen.0 (later_flag k start h seen.0))
      ∙ none_later (suc k) (next_start_of h) hs seen.1

  -- the primary is none
  first_none : (h : Header) (hs : List Header) → WasSeen file 0 0 header_len tile h → primary_at (is_packed_primary file) (h ∷ hs) ≡ primary_at (is_packed_primary file) hs
  first_none h hs seen =
      ap (λ b. if b then Some h.start else primary_at (is_packed_primary file) hs) (not_primary 0 0 h seen (sym (none_behind_it file header_len tile h 0 seen)))

  by_second : (b : Bool) (h k : Header) (hs : List Header) → is_packed_primary file k ≡ b → WereSeen file header_len tile 0 0 (h ∷ k ∷ hs) →
      first_at (if b then Some k.start else primary_at (is_packed_primary file) hs) ≡ (if b then behind_primary h else the_primary)
  by_second true h k hs is seen =
      let place : k.start ≡ next_start_of h = seen.1.0.place in
      let after : true ≡ is_empty_primary h =
      sym (one_behind file header_len tile h k (next_start_of h) seen.0 seen.1.0 ∙ after_primary 1 (next_start_of h) k seen.1.0 is) in
      λ i. record { hdu = 1; start = place i; after_empty = after i }
  by_second false h k hs is seen = ap first_at (none_later 0 (next_start_of k) hs seen.1.1)

  by_those : (hs : List Header) → WereSeen file header_len tile 0 0 hs → first_at (primary_at (is_packed_primary file) hs) ≡ first_of file hs
  by_those [] seen = refl
  by_those (h ∷ []) seen = ap first_at (first_none h [] seen.0)
  by_those (h ∷ k ∷ hs) seen = ap first_at (first_none h (k ∷ hs) seen.0) ∙ by_second (is_packed_primary file k) h k hs refl seen

pub first_is : PrimariesAreBehind → (file : List ℕ) (s : Survey) (hs : List Header) → IsList file s hs → first_at s.packed_primary ≡ first_of file hs
first_is law file s hs list = ap first_at list.primary ∙ by_those law file s.header_len s.tile hs list.seen
