-- Other options that make the same plan of each image that can be packed, and the same sums, make the same packed file.
use Rattle.std.proofs.Common.{◌≡◌, ℕ, suc, ◌<◌, ◌≤◌, ◌||◌, Bool, true, false, List, [], ◌∷◌, ◌++◌, length, map, Option, Some, None, Result, Ok, Err, IsOk, if◌then◌else◌, refl, sym, subst, ◌∙◌, ap}
use Rattle.std.specs.List.{AllByRecursion}
use Rattle.fz_base.specs.Refusal.{first_refusal}
use Rattle.fz_base.specs.declared.fault.Fault.{Fault}
use Rattle.fz_block.specs.Checks.{headers_of, unless_refused, walk_of}
use Rattle.fz_block.specs.Facts.{IsHeaderOf}
use Rattle.fz_block.specs.Hdus.{Hdu, cards_of, hdu_bytes}
use Rattle.fz_block.specs.Header.{next_start_of}
use Rattle.fz_block.specs.Walk.{AreHeadersBetween, RefusesNone, hdu_of, is_stop, stops}
use Rattle.fz_block.specs.declared.header.Header.{Header}
use Rattle.fz_checks.specs.JobChecks.{already_packed, data_fill, fill_in, pack_hdu_checks}
use Rattle.fz_checks.specs.Judges.{pack_judge}
use Rattle.fz_head.specs.PackChecks.{limit_checks, name_checks, offset_check, pack_checks}
use Rattle.fz_head.specs.Packable.{is_packable}
use Rattle.fz_head.specs.Planned.{AreOptions, pack_plan_of}
use Rattle.fz_head.specs.declared.options.PackOptions.{PackOptions}
use Rattle.fz_files.specs.FirstFault.{IsFaultBehind, IsFirstFault}
use Rattle.fz_files.specs.Packed.{IsPackedFile, before_table, packed_file, packed_from, packed_hdu, packed_image}
use Rattle.fz_files.specs.StandsFor.{IsProfileFile}
use Rattle.fz_files.specs.Walks.{fault_of_walk, found_headers, header_fault, headers_for, job_walk}
use Rattle.fz_files.specs.declared.job.Job.{Job}
use Rattle.fz_files.specs.declared.job.Job.TheVariants.{Pack}
use Rattle.fz_strict.specs.Taken.{WalkLaws}

-- ---- the headers that a job finds

pub no_header_fault : (refused : Option Fault) (job : Job) (file : List ℕ) → IsFaultBehind refused job file None → refused ≡ None
no_header_fault None job file is = refl
no_header_fault (Some fault) job file is = absurd cc

pub found_walk : (job : Job) (file : List ℕ) (found : Result (List Header) Fault) → fault_of_walk job file found ≡ None → (hs : List Header) × (found ≡ Ok hs)
found_walk job file (Ok hs) none = (hs, refl)
found_walk job file (Err fault) none = absurd cc

pack_walk : (o : PackOptions) (file : List ℕ) → header_fault (Pack o) file ≡ None → (hs : List Header) × (walk_of (pack_judge o file) 65535 file ≡ Ok hs)
unfolding job_walk
pack_walk o file none = found_walk (Pack o) file (walk_of (pack_judge o file) 65535 file) none

pub never_stops : (o : PackOptions) (file : List ℕ) (hs : List Header) → stops (pack_judge o file) hs ≡ false
never_stops o file [] = refl
never_stops o file (h ∷ hs) = by_none (first_refusal (pack_hdu_checks o file h)) (never_stops o file hs)
  where
    by_none : (found : Option Fault) → stops (pack_judge o file) hs ≡ false → (is_stop (unless_refused false found) || stops (pack_judge o file) hs) ≡ false
    by_none None rest = rest
    by_none (Some fault) rest = rest

-- ---- options that make the same of an image

pub record MakeTheSame (o q : PackOptions) (h : Header) : Type 0 where
  pub plan : pack_plan_of q h ≡ pack_plan_of o h
  pub sums : q.sums ≡ o.sums

-- of an HDU, where it can be packed
abbrev pub AreSameFor : PackOptions → PackOptions → Header → Type 0
AreSameFor o q h = is_packable h ≡ true → MakeTheSame o q h

same_checks : (o q : PackOptions) (h : Header) (header : List ℕ) → MakeTheSame o q h → pack_checks q h header ≡ pack_checks o h header
same_checks o q h header same =
    λ i. name_checks h header ++ (limit_checks h (same.plan i) (same.sums i) (cards_of header) ++ offset_check h (same.plan i).codec (cards_of header) ∷ [])

same_judge : (o q : PackOptions) (file : List ℕ) (h : Header) → AreSameFor o q h → pack_judge q file h ≡ pack_judge o file h
same_judge o q file h same =
    ap (λ l. unless_refused false (first_refusal ((already_packed h header ∷ l) ++ (if is_packable h then data_fill h (fill_in file h) ∷ [] else []))))
    (by_test (is_packable h) same)
  where
    header : List ℕ
    header = (hdu_of file h).header

    by_test : (packable : Bool) → (packable ≡ true → MakeTheSame o q h) →
        (if packable then pack_checks q h header else []) ≡ (if packable then pack_checks o h header else [])
    by_test true same = same_checks o q h header (same refl)
    by_test false same = refl

same_refuse : (o q : PackOptions) (file : List ℕ) (hs : List Header) → AllByRecursion (AreSameFor o q) hs → RefusesNone (pack_judge o file) hs →
    RefusesNone (pack_judge q file) hs
same_refuse o q file [] same none = tt
same_refuse o q file (h ∷ hs) same none = (subst (λ r. IsOk r) (sym (same_judge o q file h same.0)) none.0, same_refuse o q file hs same.1 none.1)

same_hdu : WalkLaws → (o q : PackOptions) (k : ℕ) (h : Header) (d : Hdu) → AreSameFor o q h → h.hdu ≡ k → IsHeaderOf d.header h →
    packed_hdu o k d ≡ packed_hdu q k d
same_hdu w o q k h d same number is =
    ap (λ n. packed_hdu o n d) (sym number) ∙ w.packed o d h is ∙ by_test (is_packable h) same ∙ sym (w.packed q d h is) ∙ ap (λ n. packed_hdu q n d) number
  where
    by_test : (packable : Bool) → (packable ≡ true → MakeTheSame o q h) →
        (if packable then before_table h.hdu ++ packed_image o.sums (pack_plan_of o h) d else hdu_bytes d)
        ≡ (if packable then before_table h.hdu ++ packed_image q.sums (pack_plan_of q h) d else hdu_bytes d)
    by_test true same = let made = same refl in λ i. before_table h.hdu ++ packed_image (sym made.sums i) (sym made.plan i) d
    by_test false same = refl

same_packed : WalkLaws → (o q : PackOptions) (file : List ℕ) (k start end : ℕ) (hs : List Header) → AreHeadersBetween k start end file hs →
    AllByRecursion (AreSameFor o q) hs →
    packed_from o k (map (hdu_of file) hs) ≡ packed_from q k (map (hdu_of file) hs)
unfolding packed_from
same_packed w o q file k start end [] are same = refl
same_packed w o q file k start end (h ∷ hs) are same =
    λ i. same_hdu w o q k h (hdu_of file h) same.0 are.0 are.2 i ++ same_packed w o q file (suc k) (next_start_of h) end hs are.3 same.1 i

-- ---- the file

-- what `pack` finds in a file that it takes
pub record IsFound (o : PackOptions) (file : List ℕ) (hs : List Header) : Type 0 where
  pub walk : walk_of (pack_judge o file) 65535 file ≡ Ok hs
  pub all : headers_of 65535 file ≡ Ok hs
  pub none : RefusesNone (pack_judge o file) hs
  pub end : ℕ
  pub are : AreHeadersBetween 0 0 end file hs
  pub headers : headers_for (Pack o) file ≡ hs

pack_headers : (o : PackOptions) (file : List ℕ) (hs : List Header) → walk_of (pack_judge o file) 65535 file ≡ Ok hs → headers_for (Pack o) file ≡ hs
unfolding job_walk
pack_headers o file hs walk = ap found_headers walk

pub is_found : WalkLaws → (o : PackOptions) (file : List ℕ) → IsFirstFault (Pack o) file None → (hs : List Header) × IsFound o file hs
is_found w o file sound =
    let walk = pack_walk o file (no_header_fault (header_fault (Pack o) file) (Pack o) file sound) in
    let found = w.headers (pack_judge o file) 65535 file walk.0 walk.1 in (
      walk.0,
      record {
        walk = walk.1;
        all = w.whole (pack_judge o file) 65535 file walk.0 walk.1 (never_stops o file walk.0);
        none = found.2;
        end = found.3.0;
        are = found.3.2;
        headers = pack_headers o file walk.0 walk.1;
      },
    )

pub sound_by : (q : PackOptions) (file : List ℕ) (hs : List Header) → walk_of (pack_judge q file) 65535 file ≡ Ok hs → IsFirstFault (Pack q) file None
unfolding job_walk
sound_by q file hs walk =
    let none : header_fault (Pack q) file ≡ None = ap (fault_of_walk (Pack q) file) walk in
    subst (λ r. IsFaultBehind r (Pack q) file None) (sym none) tt

pub same_taken : WalkLaws → (o q : PackOptions) (file : List ℕ) (hs : List Header) → IsFound o file hs → AllByRecursion (AreSameFor o q) hs → AreOptions q →
    IsProfileFile o file → IsProfileFile q file
same_taken w o q file hs found same options is = record {
  bytes = is.bytes;
  options = options;
  sound = sound_by q file hs (w.judged (pack_judge q file) 65535 file hs found.all (same_refuse o q file hs same found.none) (never_stops q file hs));
}

pub same_file : WalkLaws → (o q : PackOptions) (file bytes : List ℕ) (hs : List Header) → IsFound o file hs → AllByRecursion (AreSameFor o q) hs →
    IsPackedFile o file bytes → IsPackedFile q file bytes
same_file w o q file bytes hs found same is =
    let these : is.hdus ≡ map (hdu_of file) hs = w.converse 65535 file hs is.hdus found.all is.parts in
    record {
      hdus = is.hdus;
      parts = is.parts;
      packed = is.packed ∙ ap (packed_file o) these ∙ same_packed w o q file 0 0 found.end hs found.are same ∙ sym (ap (packed_file q) these);
    }
