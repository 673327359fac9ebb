-- Walks over the HDUs of a file, step by step, and what a patch finds by them.
use Rattle.std.proofs.Common.{◌≡◌, ℕ, suc, ◌==◌, ◌||◌, true, false, Bool, ℤ, List, [], ◌∷◌, length, Option, Some, None, Result, Ok, Err, if◌then◌else◌, refl, sym, ◌∙◌, ap, subst}
use Rattle.fz_base.specs.Refusal.{first_refusal}
use Rattle.fz_base.specs.declared.fault.Fault.{Fault}
use Rattle.fz_block.specs.Checks.{Judge, by_judgement, followed_by, headers_of, hdu_at, judged, unjudged, unless_refused, walk_from, walk_of}
use Rattle.fz_block.specs.Header.{next_start_of}
use Rattle.fz_block.specs.Walk.{hdu_of, is_stop, stops}
use Rattle.fz_block.specs.declared.header.Header.{Header}
use Rattle.fz_checks.specs.JobChecks.{missing_hdu}
use Rattle.fz_checks.specs.Judges.{is_wanted}
use Rattle.fz_head.specs.declared.plan.Plan.{Plan}
use Rattle.fz_table.specs.Records.{record_at}
use Rattle.fz_table.specs.declared.record.Record.{Record}
use Rattle.fz_table.specs.declared.table.Table.{Table}
use Rattle.fz_files.specs.Restored.{RecordMeans, RowStandsFor, image_table, pixels_of, plan_in, tile_of}
use Rattle.fz_laws.specs.PatchChecks.{corner_check, find_hdu_checks, find_judge, form_check, given_check, if_all_pass, if_patchable, inside_checks, last_check, last_or, patch_target, target_checks, wanted_among, wanted_image}
use Rattle.fz_laws.specs.FirstPatchFault.{IsFaultBehindTarget, IsFirstPatchFault}
use Rattle.fz_laws.specs.Given.{PatchJob, given_by}

pub refused_at_hdu : (judge : Judge) (more k start : ℕ) (file : List ℕ) (fault : Fault) → hdu_at k start file ≡ Err fault → walk_from judge (suc more) k start file ≡ Err fault
unfolding walk_from
refused_at_hdu judge more k start file fault here = ap (judged file judge (λ h. walk_from judge more (suc k) (next_start_of h) file)) here

pub stops_at : (judge : Judge) (more k start : ℕ) (file : List ℕ) (h : Header) → hdu_at k start file ≡ Ok h → judge h ≡ Ok true → walk_from judge (suc more) k start file ≡ Ok (h ∷ [])
unfolding walk_from
stops_at judge more k start file h here says =
    ap (judged file judge (λ h. walk_from judge more (suc k) (next_start_of h) file)) here
    ∙ ap (by_judgement file h (walk_from judge more (suc k) (next_start_of h) file)) says

pub ends_with : (judge : Judge) (more k start : ℕ) (file : List ℕ) (h : Header) → hdu_at k start file ≡ Ok h → judge h ≡ Ok false → (next_start_of h == length file) ≡ true →
    walk_from judge (suc more) k start file ≡ Ok (h ∷ [])
unfolding walk_from
ends_with judge more k start file h here says last =
    ap (judged file judge (λ h. walk_from judge more (suc k) (next_start_of h) file)) here
    ∙ (ap (by_judgement file h (walk_from judge more (suc k) (next_start_of h) file)) says
    ∙ ap (λ b. if b then Ok (h ∷ []) else followed_by h (walk_from judge more (suc k) (next_start_of h) file)) last)

pub goes_on : (judge : Judge) (more k start : ℕ) (file : List ℕ) (h : Header) (rest : Result (List Header) Fault) → hdu_at k start file ≡ Ok h → judge h ≡ Ok false →
    (next_start_of h == length file) ≡ false → walk_from judge more (suc k) (next_start_of h) file ≡ rest → walk_from judge (suc more) k start file ≡ followed_by h rest
unfolding walk_from
goes_on judge more k start file h rest here says more_bytes behind =
    ap (judged file judge (λ h. walk_from judge more (suc k) (next_start_of h) file)) here
    ∙ (ap (by_judgement file h (walk_from judge more (suc k) (next_start_of h) file)) says
    ∙ (ap (λ b. if b then Ok (h ∷ []) else followed_by h (walk_from judge more (suc k) (next_start_of h) file)) more_bytes ∙ ap (followed_by h) behind))

-- ---- a file of a first HDU that is not wanted, and a packed one that is

pub record HasTable (file : List ℕ) (wanted : Option ℕ) (f h : Header) : Type 0 where
  pub first : hdu_at 0 0 file ≡ Ok f
  pub table : hdu_at 1 (next_start_of f) file ≡ Ok h
  pub more : (next_start_of f == length file) ≡ false
  pub passed : find_judge wanted file f ≡ Ok false
  pub packed : is_wanted wanted (hdu_of file h).header h ≡ true
  pub checks : first_refusal (find_hdu_checks file h) ≡ None

pub found_stop : (file : List ℕ) (wanted : Option ℕ) (f h : Header) → HasTable file wanted f h → find_judge wanted file h ≡ Ok true
found_stop file wanted f h has =
    ap (λ b. if b then unless_refused true (first_refusal (find_hdu_checks file h)) else Ok false) has.packed
    ∙ ap (unless_refused true) has.checks

pub found_table : (file : List ℕ) (wanted : Option ℕ) (f h : Header) → HasTable file wanted f h → wanted_image wanted file ≡ Ok h
found_table file wanted f h has =
    let stop = found_stop file wanted f h has in
    let walk : walk_of (find_judge wanted file) 65536 file ≡ Ok (f ∷ h ∷ []) =
    goes_on (find_judge wanted file) 65535 0 0 file f (Ok (h ∷ [])) has.first has.passed has.more
    (stops_at (find_judge wanted file) 65534 1 (next_start_of f) file h has.table stop) in
    let stopped : stops (find_judge wanted file) (f ∷ h ∷ []) ≡ true = λ j. is_stop (has.passed j) || (is_stop (stop j) || false) in
    ap (wanted_among wanted file) walk
    ∙ ap (λ b. if b then last_or (missing_hdu wanted 2 (length file)) (f ∷ h ∷ []) else Err (missing_hdu wanted 2 (length file))) stopped

-- both are all that it has
pub two_headers : (file : List ℕ) (wanted : Option ℕ) (f h : Header) → HasTable file wanted f h → (next_start_of h == length file) ≡ true → headers_of 65536 file ≡ Ok (f ∷ h ∷ [])
two_headers file wanted f h has last =
    goes_on unjudged 65535 0 0 file f (Ok (h ∷ [])) has.first refl has.more
    (ends_with unjudged 65534 1 (next_start_of f) file h has.table refl last)

-- what the checks of the patch answer
pub target_by : (file patch : List ℕ) (job : PatchJob) (hs : List Header) (h : Header) (found : Option Fault) → headers_of 65536 file ≡ Ok hs → wanted_image job.wanted file ≡ Ok h →
    first_refusal (target_checks file patch h job) ≡ found → patch_target file patch job ≡ unless_refused h found
unfolding patch_target
target_by file patch job hs h found all wanted is =
    (λ j. if_all_pass (all j) (if_patchable file patch job (wanted j)))
    ∙ ap (unless_refused h) is

-- a fault of the target is the first
pub first_by_target : (file patch : List ℕ) (job : PatchJob) (fault : Fault) → patch_target file patch job ≡ Err fault → IsFirstPatchFault file patch job (Some fault)
first_by_target file patch job fault is = subst (λ r. IsFaultBehindTarget file (given_by patch job) r (Some fault)) (sym is) refl

-- ---- the checks of the target, one by one

pub pass : (c : Bool × Fault) (rest : List (Bool × Fault)) → c.0 ≡ false → first_refusal (c ∷ rest) ≡ first_refusal rest
pass c rest e = ap (λ t. first_refusal ((t, c.1) ∷ rest)) e

pub refuse : (c : Bool × Fault) (rest : List (Bool × Fault)) → c.0 ≡ true → first_refusal (c ∷ rest) ≡ Some c.1
refuse c rest e = ap (λ t. first_refusal ((t, c.1) ∷ rest)) e

module _ (file patch : List ℕ) (h : Header) (job : PatchJob) where
  pub at_last : (last_check file h).0 ≡ true → first_refusal (target_checks file patch h job) ≡ Some (last_check file h).1
  at_last e = refuse (last_check file h) (form_check file h ∷ corner_check file h job ∷ given_check file patch h ∷ inside_checks file patch h job) e

  pub at_form : (last_check file h).0 ≡ false → (form_check file h).0 ≡ true → first_refusal (target_checks file patch h job) ≡ Some (form_check file h).1
  at_form last e =
      pass (last_check file h) (form_check file h ∷ corner_check file h job ∷ given_check file patch h ∷ inside_checks file patch h job) last
      ∙ refuse (form_check file h) (corner_check file h job ∷ given_check file patch h ∷ inside_checks file patch h job) e

  pub at_corner : (last_check file h).0 ≡ false → (form_check file h).0 ≡ false → (corner_check file h job).0 ≡ true → first_refusal (target_checks file patch h job) ≡ Some (corner_check file h job).1
  at_corner last form e =
      pass (last_check file h) (form_check file h ∷ corner_check file h job ∷ given_check file patch h ∷ inside_checks file patch h job) last
      ∙ (pass (form_check file h) (corner_check file h job ∷ given_check file patch h ∷ inside_checks file patch h job) form
      ∙ refuse (corner_check file h job) (given_check file patch h ∷ inside_checks file patch h job) e)

  pub at_given : (last_check file h).0 ≡ false → (form_check file h).0 ≡ false → (corner_check file h job).0 ≡ false → (given_check file patch h).0 ≡ true →
      first_refusal (target_checks file patch h job) ≡ Some (given_check file patch h).1
  at_given last form corner e =
      pass (last_check file h) (form_check file h ∷ corner_check file h job ∷ given_check file patch h ∷ inside_checks file patch h job) last
      ∙ (pass (form_check file h) (corner_check file h job ∷ given_check file patch h ∷ inside_checks file patch h job) form
      ∙ (pass (corner_check file h job) (given_check file patch h ∷ inside_checks file patch h job) corner
      ∙ refuse (given_check file patch h) (inside_checks file patch h job) e))

  pub by_box : (last_check file h).0 ≡ false → (form_check file h).0 ≡ false → (corner_check file h job).0 ≡ false → (given_check file patch h).0 ≡ false →
      first_refusal (target_checks file patch h job) ≡ first_refusal (inside_checks file patch h job)
  by_box last form corner given =
      pass (last_check file h) (form_check file h ∷ corner_check file h job ∷ given_check file patch h ∷ inside_checks file patch h job) last
      ∙ (pass (form_check file h) (corner_check file h job ∷ given_check file patch h ∷ inside_checks file patch h job) form
      ∙ (pass (corner_check file h job) (given_check file patch h ∷ inside_checks file patch h job) corner
      ∙ pass (given_check file patch h) (inside_checks file patch h job) given))

-- ---- rows, by their plan and table

pub record RowIsOf (file : List ℕ) (hdu : ℕ) (p : Plan) (table : Table) (row : ℕ) (xs : List ℤ) : Type 0 where
  pub found : Record
  pub chosen : record_at file hdu table row (tile_of p row) ≡ Ok found
  pub count : length xs ≡ pixels_of p row
  pub means : RecordMeans file p found xs

pub stands_by : (file : List ℕ) (h : Header) (p : Plan) (table : Table) (row : ℕ) (xs : List ℤ) → plan_in file h ≡ p → image_table file h ≡ table → RowIsOf file h.hdu p table row xs → RowStandsFor file h row xs
stands_by file h p table row xs same_plan same_table r = record {
  found = r.found;
  chosen = (λ i. record_at file h.hdu (same_table i) row (tile_of (same_plan i) row)) ∙ r.chosen;
  count = r.count ∙ sym (ap (λ q. pixels_of q row) same_plan);
  means = subst (λ q. RecordMeans file q r.found xs) (sym same_plan) r.means;
}
