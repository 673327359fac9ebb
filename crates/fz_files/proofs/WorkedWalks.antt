-- Walks over the HDUs of a file, step by step, for the worked files.
use Rattle.std.proofs.Common.{◌≡◌, ℕ, suc, ◌==◌, true, false, List, [], ◌∷◌, ◌++◌, ◌*◌, length, Result, Ok, Err, if◌then◌else◌, ◌∙◌, ap}
use Rattle.fz_base.specs.declared.fault.Fault.{Fault}
use Rattle.fz_block.specs.Checks.{Judge, header_blocks_of, hdu_at, by_judgement, followed_by, judged, walk_from}
use Rattle.fz_block.specs.Header.{next_start_of}
use Rattle.fz_block.specs.Takings.{for_those_after, header_taking, walk_takings, where_going_on}
use Rattle.fz_block.specs.declared.header.Header.{Header}
use Rattle.fz_files.specs.Walks.{Reached, reached_after, reached_behind, reached_from}

-- an HDU that the checks of every job refuse
pub refused_at_hdu : (judge : Judge) (more k start : ℕ) (file : List ℕ) (fault : Fault) → hdu_at k start file ≡ Err fault → walk_from judge (suc more) k start file ≡ Err fault
unfolding walk_from
refused_at_hdu judge more k start file fault here = ap (judged file judge (λ h. walk_from judge more (suc k) (next_start_of h) file)) here

-- one that the job's own checks refuse
pub refused_by_job : (judge : Judge) (more k start : ℕ) (file : List ℕ) (h : Header) (fault : Fault) → hdu_at k start file ≡ Ok h → judge h ≡ Err fault →
    walk_from judge (suc more) k start file ≡ Err fault
unfolding walk_from
refused_by_job judge more k start file h fault here says =
    ap (judged file judge (λ h. walk_from judge more (suc k) (next_start_of h) file)) here
    ∙ ap (by_judgement file h (walk_from judge more (suc k) (next_start_of h) file)) says

-- one at which the job stops
pub stops_at : (judge : Judge) (more k start : ℕ) (file : List ℕ) (h : Header) → hdu_at k start file ≡ Ok h → judge h ≡ Ok true → walk_from judge (suc more) k start file ≡ Ok (h ∷ [])
unfolding walk_from
stops_at judge more k start file h here says =
    ap (judged file judge (λ h. walk_from judge more (suc k) (next_start_of h) file)) here
    ∙ ap (by_judgement file h (walk_from judge more (suc k) (next_start_of h) file)) says

-- one with which the file ends, and one before others
pub ends_with : (judge : Judge) (more k start : ℕ) (file : List ℕ) (h : Header) → hdu_at k start file ≡ Ok h → judge h ≡ Ok false → (next_start_of h == length file) ≡ true →
    walk_from judge (suc more) k start file ≡ Ok (h ∷ [])
unfolding walk_from
ends_with judge more k start file h here says last =
    ap (judged file judge (λ h. walk_from judge more (suc k) (next_start_of h) file)) here
    ∙ (ap (by_judgement file h (walk_from judge more (suc k) (next_start_of h) file)) says
    ∙ ap (λ b. if b then Ok (h ∷ []) else followed_by h (walk_from judge more (suc k) (next_start_of h) file)) last)

pub goes_on : (judge : Judge) (more k start : ℕ) (file : List ℕ) (h : Header) (rest : Result (List Header) Fault) → hdu_at k start file ≡ Ok h → judge h ≡ Ok false →
    (next_start_of h == length file) ≡ false → walk_from judge more (suc k) (next_start_of h) file ≡ rest → walk_from judge (suc more) k start file ≡ followed_by h rest
unfolding walk_from
goes_on judge more k start file h rest here says more_bytes behind =
    ap (judged file judge (λ h. walk_from judge more (suc k) (next_start_of h) file)) here
    ∙ (ap (by_judgement file h (walk_from judge more (suc k) (next_start_of h) file)) says
    ∙ (ap (λ b. if b then Ok (h ∷ []) else followed_by h (walk_from judge more (suc k) (next_start_of h) file)) more_bytes ∙ ap (followed_by h) behind))

-- what the checks come to, in the same steps
pub reaches_last : (judge : Judge) (more k start : ℕ) (file : List ℕ) (h : Header) → hdu_at k start file ≡ Ok h → judge h ≡ Ok true →
    reached_from judge (suc more) k start file ≡ record { hdu = k; start = start } ∷ []
unfolding reached_from
reaches_last judge more k start file h here says =
    ap (λ r. record { hdu = k; start = start } ∷ reached_after file judge (λ h. reached_from judge more (suc k) (next_start_of h) file) r) here
    ∙ ap (λ r. record { hdu = k; start = start } ∷ reached_behind file h (reached_from judge more (suc k) (next_start_of h) file) r) says

pub reaches_on : (judge : Judge) (more k start : ℕ) (file : List ℕ) (h : Header) (rest : List Reached) → hdu_at k start file ≡ Ok h → judge h ≡ Ok false →
    (next_start_of h == length file) ≡ false → reached_from judge more (suc k) (next_start_of h) file ≡ rest →
    reached_from judge (suc more) k start file ≡ record { hdu = k; start = start } ∷ rest
unfolding reached_from
reaches_on judge more k start file h rest here says more_bytes behind =
    ap (λ r. record { hdu = k; start = start } ∷ reached_after file judge (λ h. reached_from judge more (suc k) (next_start_of h) file) r) here
    ∙ (ap (λ r. record { hdu = k; start = start } ∷ reached_behind file h (reached_from judge more (suc k) (next_start_of h) file) r) says
    ∙ (ap (λ b. record { hdu = k; start = start } ∷ (if b then [] else reached_from judge more (suc k) (next_start_of h) file)) more_bytes
    ∙ ap (λ l. record { hdu = k; start = start } ∷ l) behind))

pub reaches_end : (judge : Judge) (more k start : ℕ) (file : List ℕ) (h : Header) → hdu_at k start file ≡ Ok h → judge h ≡ Ok false → (next_start_of h == length file) ≡ true →
    reached_from judge (suc more) k start file ≡ record { hdu = k; start = start } ∷ []
unfolding reached_from
reaches_end judge more k start file h here says last =
    ap (λ r. record { hdu = k; start = start } ∷ reached_after file judge (λ h. reached_from judge more (suc k) (next_start_of h) file) r) here
    ∙ (ap (λ r. record { hdu = k; start = start } ∷ reached_behind file h (reached_from judge more (suc k) (next_start_of h) file) r) says
    ∙ ap (λ b. record { hdu = k; start = start } ∷ (if b then [] else reached_from judge more (suc k) (next_start_of h) file)) last)

pub reaches_refused : (judge : Judge) (more k start : ℕ) (file : List ℕ) (fault : Fault) → hdu_at k start file ≡ Err fault →
    reached_from judge (suc more) k start file ≡ record { hdu = k; start = start } ∷ []
unfolding reached_from
reaches_refused judge more k start file fault here =
    ap (λ r. record { hdu = k; start = start } ∷ reached_after file judge (λ h. reached_from judge more (suc k) (next_start_of h) file) r) here

-- what is taken for the headers, in the same steps
pub takes_on : (judge : Judge) (live more k start : ℕ) (file : List ℕ) (h : Header) (blocks : ℕ) (rest : List (ℕ × ℕ)) → header_blocks_of k start file ≡ Ok blocks → hdu_at k start file ≡ Ok h →
    judge h ≡ Ok false → (next_start_of h == length file) ≡ false → walk_takings judge live more (suc k) (next_start_of h) file ≡ rest →
    walk_takings judge live (suc more) k start file ≡ (live, 2880 * blocks) ∷ rest
unfolding walk_takings
takes_on judge live more k start file h blocks rest found here says more_bytes behind =
    let after : (Header → List (ℕ × ℕ)) = λ (h : Header). walk_takings judge live more (suc k) (next_start_of h) file in
    ap (λ r. header_taking live r ++ for_those_after file judge after (hdu_at k start file)) found
    ∙ (ap (λ r. (live, 2880 * blocks) ∷ for_those_after file judge after r) here
    ∙ (ap (λ r. (live, 2880 * blocks) ∷ where_going_on file h (after h) r) says
    ∙ (ap (λ b. (live, 2880 * blocks) ∷ (if b then [] else after h)) more_bytes ∙ ap (λ l. (live, 2880 * blocks) ∷ l) behind)))

pub takes_end : (judge : Judge) (live more k start : ℕ) (file : List ℕ) (h : Header) (blocks : ℕ) → header_blocks_of k start file ≡ Ok blocks → hdu_at k start file ≡ Ok h →
    judge h ≡ Ok false → (next_start_of h == length file) ≡ true → walk_takings judge live (suc more) k start file ≡ (live, 2880 * blocks) ∷ []
unfolding walk_takings
takes_end judge live more k start file h blocks found here says last =
    let after : (Header → List (ℕ × ℕ)) = λ (h : Header). walk_takings judge live more (suc k) (next_start_of h) file in
    ap (λ r. header_taking live r ++ for_those_after file judge after (hdu_at k start file)) found
    ∙ (ap (λ r. (live, 2880 * blocks) ∷ for_those_after file judge after r) here
    ∙ (ap (λ r. (live, 2880 * blocks) ∷ where_going_on file h (after h) r) says
    ∙ ap (λ b. (live, 2880 * blocks) ∷ (if b then [] else after h)) last))
