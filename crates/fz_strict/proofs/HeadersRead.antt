-- The headers of a file in which `unpack` finds no fault.
use Rattle.std.proofs.Common.{◌≡◌, ℕ, suc, ◌+◌, ◌^◌, ◌<◌, ◌≤◌, ◌||◌, Bool, true, false, List, [], ◌∷◌, length, map, Option, Some, None, Result, Ok, IsOk, if◌then◌else◌, refl, sym, subst, ap, arith}
use Rattle.std.specs.List.{AllByRecursion, filter, flat_map}
use Rattle.fz_base.specs.Refusal.{first_refusal}
use Rattle.fz_base.specs.declared.fault.Fault.{Fault}
use Rattle.fz_block.specs.Checks.{headers_of, unless_refused, walk_of}
use Rattle.fz_block.specs.Facts.{IsHeaderOf}
use Rattle.fz_block.specs.Hdus.{Hdu, hdu_bytes}
use Rattle.fz_block.specs.Header.{next_start_of}
use Rattle.fz_block.specs.Walk.{AreHeadersBetween, PassFrom, PassesAt, RefusesNone, hdu_of, is_stop, stops}
use Rattle.fz_block.specs.declared.header.Header.{Header}
use Rattle.fz_checks.specs.JobChecks.{IsImageOf, image_in, is_after_empty, unpack_checks, unpack_hdu_checks}
use Rattle.fz_checks.specs.Judges.{unpack_judge}
use Rattle.fz_head.specs.Packable.{is_packed}
use Rattle.fz_files.specs.FirstFault.{IsFirstFault}
use Rattle.fz_files.specs.Restored.{header_in, is_image, is_packed_primary, standing}
use Rattle.fz_files.specs.Walks.{found_headers, header_fault, headers_for, job_walk}
use Rattle.fz_files.specs.declared.job.Job.TheVariants.{Unpack}
use Rattle.fz_strict.specs.FoundOptions.{images_in}
use Rattle.fz_strict.proofs.Ends.{pass_ends}
use Rattle.fz_strict.proofs.Images.{standing_images}
use Rattle.fz_strict.specs.Taken.{WalkLaws}
use Rattle.fz_strict.proofs.Same.{found_walk, no_header_fault}

pub one_answer : (r : Result (List Header) Fault) (xs ys : List Header) → r ≡ Ok xs → r ≡ Ok ys → xs ≡ ys
one_answer r xs ys first second = cc

pub headers_are : (k start end : ℕ) (file : List ℕ) (hs : List Header) → AreHeadersBetween k start end file hs →
    AllByRecursion (λ h. IsHeaderOf (hdu_of file h).header h) hs
headers_are k start end file [] are = tt
headers_are k start end file (h ∷ hs) are = (are.2, headers_are (suc k) (next_start_of h) end file hs are.3)

pub unpack_walk : (file : List ℕ) → header_fault Unpack file ≡ None → (hs : List Header) × (walk_of (unpack_judge file) 65536 file ≡ Ok hs)
unfolding job_walk
unpack_walk file none = found_walk Unpack file (walk_of (unpack_judge file) 65536 file) none

pub unpack_headers : (file : List ℕ) (hs : List Header) → walk_of (unpack_judge file) 65536 file ≡ Ok hs → headers_for Unpack file ≡ hs
unfolding job_walk
unpack_headers file hs walk = ap found_headers walk

pub never_stops : (file : List ℕ) (hs : List Header) → stops (unpack_judge file) hs ≡ false
never_stops file [] = refl
never_stops file (h ∷ hs) = by_none (first_refusal (unpack_hdu_checks file h)) (never_stops file hs)
  where
    by_none : (found : Option Fault) → stops (unpack_judge file) hs ≡ false → (is_stop (unless_refused false found) || stops (unpack_judge file) hs) ≡ false
    by_none None rest = rest
    by_none (Some fault) rest = rest

-- what is known of the headers of a file in which `unpack` finds no fault, and of its length
pub record IsWalked (file : List ℕ) : Type 0 where
  pub few : length file ≤ 2 ^ 62
  pub some : 0 < length (headers_for Unpack file)
  pub parts : flat_map hdu_bytes (map (hdu_of file) (headers_for Unpack file)) ≡ file
  pub images : filter (is_image file) (standing file (headers_for Unpack file)) ≡ images_in file

some_map : (file : List ℕ) (hs : List Header) → 0 < length hs → 0 < length (map (hdu_of file) hs)
some_map file [] some = some
some_map file (h ∷ hs) some = omega arith

pub is_walked : WalkLaws → (file : List ℕ) → IsFirstFault Unpack file None → IsWalked file
is_walked w file sound =
    let walk = unpack_walk file (no_header_fault (header_fault Unpack file) Unpack file sound) in
    let hs : List Header = walk.0 in
    let found = w.headers (unpack_judge file) 65536 file hs walk.1 in
    let ds : List Hdu = map (hdu_of file) hs in
    let all : headers_of 65536 file ≡ Ok hs = w.whole (unpack_judge file) 65536 file hs walk.1 (never_stops file hs) in
    let parts : flat_map hdu_bytes ds ≡ file = (w.parts 65536 file hs all).parts in
    let ends : 0 + length (flat_map hdu_bytes ds) ≤ 2 ^ 62 =
    pass_ends 0 0 (length file) ds (some_map file hs found.0) (w.pass (unpack_judge file) 65536 file hs walk.1) in
    let same : length (flat_map hdu_bytes ds) ≡ length file = ap length parts in
    let headers : headers_for Unpack file ≡ hs = unpack_headers file hs walk.1 in
    record {
      few = omega (arith, ends, same);
      some = subst (λ l. 0 < length l) (sym headers) found.0;
      parts = subst (λ l. flat_map hdu_bytes (map (hdu_of file) l) ≡ file) (sym headers) parts;
      images = subst (λ l. filter (is_image file) (standing file l) ≡ filter (is_image file) l) (sym headers) (standing_images file found.3.0 hs found.3.2);
    }

-- ---- what is read of each header

-- what is taken of the law of packed images
abbrev pub PackedImages : Type 0
PackedImages =
    (h : Header) (header : List ℕ) (after_empty : Bool) → IsHeaderOf header h → is_packed header h ≡ true →
    first_refusal (unpack_checks h header after_empty) ≡ None →
    IsImageOf header h (image_in h header)

-- the facts are those of the header, and a packed image is the one that the header says
pub record IsRead (file : List ℕ) (h : Header) : Type 0 where
  pub header : IsHeaderOf (hdu_of file h).header h
  pub image : is_image file h ≡ true → IsImageOf (header_in file h) h (image_in h (header_in file h))
  pub start : ℕ
  pub passes : PassesAt h.hdu start (length file) (hdu_of file h)

pub answer_none : {A : Type 0} (answer : A) (found : Option Fault) → IsOk (unless_refused answer found) → found ≡ None
answer_none answer None ok = refl
answer_none answer (Some fault) ok = absurd cc

all_read : PackedImages → (file : List ℕ) (k start end first : ℕ) (hs : List Header) → AreHeadersBetween k start end file hs →
    PassFrom k first (length file) (map (hdu_of file) hs) →
    RefusesNone (unpack_judge file) hs → AllByRecursion (IsRead file) hs
all_read images file k start end first [] are pass none = tt
all_read images file k start end first (h ∷ hs) are pass none =
    let passed : first_refusal (unpack_hdu_checks file h) ≡ None = answer_none false (first_refusal (unpack_hdu_checks file h)) none.0 in (
      record {
        header = are.2;
        image = λ packed. images h (header_in file h) (is_after_empty file h) are.2 packed passed;
        start = first;
        passes = subst (λ n. PassesAt n first (length file) (hdu_of file h)) (sym are.0) pass.0;
      },
      all_read images file (suc k) (next_start_of h) end (first + length (hdu_bytes (hdu_of file h))) hs are.3 pass.1 none.1,
    )

-- of the headers of a file
pub are_read : WalkLaws → PackedImages → (file : List ℕ) → IsFirstFault Unpack file None → AllByRecursion (IsRead file) (headers_for Unpack file)
are_read w images file sound =
    let walk = unpack_walk file (no_header_fault (header_fault Unpack file) Unpack file sound) in
    let hs : List Header = walk.0 in
    let found = w.headers (unpack_judge file) 65536 file hs walk.1 in
    subst (AllByRecursion (IsRead file)) (sym (unpack_headers file hs walk.1))
    (all_read images file 0 0 found.3.0 0 hs found.3.2 (w.pass (unpack_judge file) 65536 file hs walk.1) found.2)

-- and of those that stand for something
pub standing_read : (file : List ℕ) (hs : List Header) → AllByRecursion (IsRead file) hs → AllByRecursion (IsRead file) (standing file hs)
standing_read file [] are = tt
standing_read file (h ∷ []) are = are
standing_read file (h ∷ k ∷ hs) are = by_test (is_packed_primary file k)
  where
    by_test : (first : Bool) → AllByRecursion (IsRead file) (if first then k ∷ hs else h ∷ k ∷ hs)
    by_test true = are.1
    by_test false = are
