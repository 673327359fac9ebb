-- The HDUs that the checks of a job come to are those that it looks at, and they lie within the file.
use Rattle.std.proofs.Common.{◌≡◌, ℕ, zero, suc, ◌+◌, ◌*◌, ◌^◌, ◌≤◌, ◌==◌, not, nat_lt, Bool, true, false, List, [], ◌∷◌, ◌++◌, length, take, drop, map, All, Option, Some, None, Result, Ok, Err, if◌then◌else◌, refl, sym, subst, ◌∙◌, ap, arith}
use Rattle.std.proofs.lemmas.Bool.Decides.{nat_tests}
use Rattle.std.proofs.lemmas.List.Elements.{All-cons, All-nil}
use Rattle.fz_base.specs.Refusal.{first_refusal, refusal}
use Rattle.fz_base.specs.declared.fault.Fault.{Fault}
use Rattle.fz_base.specs.declared.fault.Place.TheVariants.{Card}
use Rattle.fz_base.specs.declared.kind.Kind.TheVariants.{BadCard}
use Rattle.fz_block.specs.Checks.{Judge, by_judgement, end_checks, ends_in_last_block, followed_by, group_checks, hdu_at, hdu_end, header_blocks_of, header_checks, header_in, header_of, header_touched, judged, unless_refused, walk_from, walk_of}
use Rattle.fz_block.specs.Facts.{IsHeaderOf, facts_of}
use Rattle.fz_block.specs.Header.{next_start_of}
use Rattle.fz_block.specs.Mandatory.{mandatory_checks}
use Rattle.fz_block.specs.Walk.{hdu_of}
use Rattle.fz_block.specs.declared.header.Header.{Header}
use Rattle.fz_checks.specs.Judges.{cut_judge, pack_judge, unpack_judge}
use Rattle.fz_files.specs.declared.job.Job.{Job}
use Rattle.fz_files.specs.declared.job.Job.TheVariants.{Pack, Unpack, Cut, Verify, List as ListHdus, Drill, Retile}
use Rattle.fz_files.specs.Cutout.{header_range}
use Rattle.fz_files.specs.Laws.{place_of}
use Rattle.fz_files.specs.Walks.{Reached, box_of, fault_of_walk, found_headers, header_fault, headers_for, job_walk, reached_after, reached_behind, reached_by, reached_from}
use Rattle.fz_files.proofs.FaultLemmas.{found_walk}

-- what is known of a header that is found at a place
abbrev pub HeaderIsFound : Type 0
HeaderIsFound = (k start : ℕ) (file : List ℕ) (h : Header) → hdu_at k start file ≡ Ok h → (h.hdu ≡ k) × (h.start ≡ start) × IsHeaderOf (hdu_of file h).header h

-- ---- what is reached is what is found

-- the HDUs from one on
abbrev pub ReachesFrom : Judge → ℕ → ℕ → ℕ → List ℕ → Type 0
ReachesFrom judge more k start file = (hs : List Header) → walk_from judge more k start file ≡ Ok hs → reached_from judge more k start file ≡ map place_of hs

pub reaches_from : HeaderIsFound → (judge : Judge) (more k start : ℕ) (file : List ℕ) → ReachesFrom judge more k start file
unfolding walk_from reached_from
reaches_from find judge zero k start file hs is = absurd cc
reaches_from find judge (suc more) k start file hs is = by_here (λ h. reaches_from find judge more (suc k) (next_start_of h) file) (hdu_at k start file) refl is
  where
    here : Reached
    here = record { hdu = k; start = start }

    by_rest : (h : Header) → place_of h ≡ here → ReachesFrom judge more (suc k) (next_start_of h) file → (rest : Result (List Header) Fault) → walk_from judge more (suc k) (next_start_of h) file ≡ rest →
        followed_by h rest ≡ Ok hs → here ∷ reached_from judge more (suc k) (next_start_of h) file ≡ map place_of hs
    by_rest h at later (Err fault) walk is = absurd cc
    by_rest h at later (Ok ks) walk is =
        let same : h ∷ ks ≡ hs = cc in
        (λ i. sym at i ∷ later ks walk i) ∙ ap (map place_of) same

    by_last : (h : Header) → place_of h ≡ here → ReachesFrom judge more (suc k) (next_start_of h) file → (last : Bool) →
        (if last then Ok (h ∷ []) else followed_by h (walk_from judge more (suc k) (next_start_of h) file)) ≡ Ok hs →
        here ∷ (if last then [] else reached_from judge more (suc k) (next_start_of h) file) ≡ map place_of hs
    by_last h at later true is =
        let same : h ∷ [] ≡ hs = cc in
        ap (λ r. r ∷ []) (sym at) ∙ ap (map place_of) same
    by_last h at later false is = by_rest h at later (walk_from judge more (suc k) (next_start_of h) file) refl is

    by_judge : (h : Header) → place_of h ≡ here → ReachesFrom judge more (suc k) (next_start_of h) file → (says : Result Bool Fault) →
        by_judgement file h (walk_from judge more (suc k) (next_start_of h) file) says ≡ Ok hs →
        here ∷ reached_behind file h (reached_from judge more (suc k) (next_start_of h) file) says ≡ map place_of hs
    by_judge h at later (Err fault) is = absurd cc
    by_judge h at later (Ok true) is =
        let same : h ∷ [] ≡ hs = cc in
        ap (λ r. r ∷ []) (sym at) ∙ ap (map place_of) same
    by_judge h at later (Ok false) is = by_last h at later (next_start_of h == length file) is

    by_here : ((h : Header) → ReachesFrom judge more (suc k) (next_start_of h) file) → (r : Result Header Fault) → hdu_at k start file ≡ r →
        judged file judge (λ h. walk_from judge more (suc k) (next_start_of h) file) r ≡ Ok hs →
        here ∷ reached_after file judge (λ h. reached_from judge more (suc k) (next_start_of h) file) r ≡ map place_of hs
    by_here later (Err fault) found is = absurd cc
    by_here later (Ok h) found is =
        let facts = find k start file h found in
        by_judge h (λ i. record { hdu = facts.0 i; start = facts.1 i }) (later h) (judge h) is

-- the same of a whole file
walk_reached : HeaderIsFound → (job : Job) (judge : Judge) (most : ℕ) (file : List ℕ) → fault_of_walk job file (walk_of judge most file) ≡ None →
    reached_from judge most 0 0 file ≡ map place_of (found_headers (walk_of judge most file))
walk_reached find job judge most file none =
    let found = found_walk job file (walk_of judge most file) none in
    reaches_from find judge most 0 0 file found.0 found.1 ∙ ap (λ r. map place_of (found_headers r)) (sym found.1)

pub reached_is : HeaderIsFound → (job : Job) (file : List ℕ) → header_fault job file ≡ None → reached_by job file ≡ map place_of (headers_for job file)
unfolding job_walk reached_by
reached_is find (Pack o) file none = walk_reached find (Pack o) (pack_judge o file) 65535 file none
reached_is find Unpack file none = walk_reached find Unpack (unpack_judge file) 65536 file none
reached_is find (Cut wanted sieve) file none = walk_reached find (Cut wanted sieve) (cut_judge wanted (box_of sieve) file) 65536 file none
reached_is find Verify file none = walk_reached find Verify (unpack_judge file) 65536 file none
reached_is find ListHdus file none = walk_reached find ListHdus (unpack_judge file) 65536 file none
reached_is find (Drill rows) file none = refl
reached_is find (Retile o) file none = walk_reached find (Retile o) (unpack_judge file) 65536 file none

-- ---- what is reached lies within the file

tail_passed : (c : Bool × Fault) (cs : List (Bool × Fault)) → first_refusal (c ∷ cs) ≡ None → first_refusal cs ≡ None
tail_passed (true, x) cs none = absurd cc
tail_passed (false, x) cs none = none

pub back_passed : (xs ys : List (Bool × Fault)) → first_refusal (xs ++ ys) ≡ None → first_refusal ys ≡ None
back_passed [] ys none = none
back_passed ((true, fault) ∷ xs) ys none = absurd cc
back_passed ((false, fault) ∷ xs) ys none = back_passed xs ys none

end_passed : (k len end : ℕ) → first_refusal (end_checks k len end) ≡ None → end ≤ len
end_passed k len end none = inside (second (nat_lt (2 ^ 62) end) (nat_lt len end) _ _ none)
  where
    second : (far past : Bool) (x y : Fault) → first_refusal ((far, x) ∷ (past, y) ∷ []) ≡ None → past ≡ false
    second true past x y none = absurd cc
    second false true x y none = absurd cc
    second false false x y none = refl

    inside : nat_lt len end ≡ false → end ≤ len
    inside e = grind (arith, nat_tests, e)

checks_end : (k start len : ℕ) (header : List ℕ) → first_refusal (header_checks k start len header) ≡ None → hdu_end k start header ≤ len
checks_end k start len header none =
    let ends : List (Bool × Fault) = end_checks k len (hdu_end k start header) in
    end_passed k len (hdu_end k start header)
    (back_passed (group_checks k header) ends
    (back_passed (mandatory_checks k header) (group_checks k header ++ ends)
    (tail_passed (not (ends_in_last_block header), refusal k (Card 0) BadCard) (mandatory_checks k header ++ (group_checks k header ++ ends)) none)))

header_end : (k start len : ℕ) (header : List ℕ) (h : Header) → header_of k start len header ≡ Ok h → next_start_of h ≤ len
unfolding header_of
header_end k start len header h is = by_found (first_refusal (header_checks k start len header)) refl is
  where
    by_found : (found : Option Fault) → first_refusal (header_checks k start len header) ≡ found → unless_refused (facts_of k start header) found ≡ Ok h → next_start_of h ≤ len
    by_found (Some fault) none is = absurd cc
    by_found None none is =
        let same : facts_of k start header ≡ h = cc in
        let end : hdu_end k start header ≤ len = checks_end k start len header none in
        subst (λ f. next_start_of f ≤ len) same (omega (arith, end))

pub within : (k start : ℕ) (file : List ℕ) (h : Header) → hdu_at k start file ≡ Ok h → next_start_of h ≤ length file
unfolding hdu_at
within k start file h is = by_blocks (header_blocks_of k start file) is
  where
    by_blocks : (r : Result ℕ Fault) → header_in k start file r ≡ Ok h → next_start_of h ≤ length file
    by_blocks (Err fault) is = absurd cc
    by_blocks (Ok blocks) is = header_end k start (length file) (take (2880 * blocks) (drop start file)) h is

-- the range of a header
abbrev pub LiesWithin : List ℕ → Reached → Type 0
LiesWithin file r = (header_range file r).0 + (header_range file r).1 ≤ length file

range_within : (k start : ℕ) (file : List ℕ) → start ≤ length file → LiesWithin file (record { hdu = k; start = start })
unfolding header_touched
range_within k start file inside = omega arith

lie_from : (judge : Judge) (more k start : ℕ) (file : List ℕ) → start ≤ length file → All (LiesWithin file) (reached_from judge more k start file)
unfolding reached_from
lie_from judge zero k start file inside = All-nil (LiesWithin file)
lie_from judge (suc more) k start file inside =
    All-cons (LiesWithin file) (record { hdu = k; start = start }) (reached_after file judge (λ h. reached_from judge more (suc k) (next_start_of h) file) (hdu_at k start file))
    (range_within k start file inside) (by_here (λ h in_file. lie_from judge more (suc k) (next_start_of h) file in_file) (hdu_at k start file) refl)
  where
    by_last : (h : Header) → All (LiesWithin file) (reached_from judge more (suc k) (next_start_of h) file) → (last : Bool) →
        All (LiesWithin file) (if last then [] else reached_from judge more (suc k) (next_start_of h) file)
    by_last h later true = All-nil (LiesWithin file)
    by_last h later false = later

    by_judge : (h : Header) → All (LiesWithin file) (reached_from judge more (suc k) (next_start_of h) file) → (says : Result Bool Fault) →
        All (LiesWithin file) (reached_behind file h (reached_from judge more (suc k) (next_start_of h) file) says)
    by_judge h later (Err fault) = All-nil (LiesWithin file)
    by_judge h later (Ok true) = All-nil (LiesWithin file)
    by_judge h later (Ok false) = by_last h later (next_start_of h == length file)

    by_here : ((h : Header) → next_start_of h ≤ length file → All (LiesWithin file) (reached_from judge more (suc k) (next_start_of h) file)) → (r : Result Header Fault) → hdu_at k start file ≡ r →
        All (LiesWithin file) (reached_after file judge (λ h. reached_from judge more (suc k) (next_start_of h) file) r)
    by_here later (Err fault) found = All-nil (LiesWithin file)
    by_here later (Ok h) found = by_judge h (later h (within k start file h found)) (judge h)

pub reached_within : (job : Job) (file : List ℕ) → All (LiesWithin file) (reached_by job file)
unfolding reached_by
reached_within (Pack o) file = lie_from (pack_judge o file) 65535 0 0 file (omega arith)
reached_within Unpack file = lie_from (unpack_judge file) 65536 0 0 file (omega arith)
reached_within (Cut wanted sieve) file = lie_from (cut_judge wanted (box_of sieve) file) 65536 0 0 file (omega arith)
reached_within Verify file = lie_from (unpack_judge file) 65536 0 0 file (omega arith)
reached_within ListHdus file = lie_from (unpack_judge file) 65536 0 0 file (omega arith)
reached_within (Drill rows) file = All-nil (LiesWithin file)
reached_within (Retile o) file = lie_from (unpack_judge file) 65536 0 0 file (omega arith)
