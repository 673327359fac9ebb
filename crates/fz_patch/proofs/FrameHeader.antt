-- The call after the header of the image was read: what is refused, what is taken, and what is said of the job that is wanted.
use Rattle.std.proofs.Common.{◌≡◌, inr, ℕ, zero, suc, ◌+◌, ◌-◌, ◌*◌, ◌/◌, ◌%◌, ◌^◌, ◌<◌, ◌≤◌, max, min, true, false, List, [], ◌∷◌, ◌++◌, length, sum, get_or, Option, Some, None, Result, Ok, Err, refl, sym, ap, ◌∙◌, subst, arith, length-take}
use Rattle.std.specs.Prelude.{IfSome}
use Rattle.std.proofs.lemmas.List.{get_or-take}
use Rattle.std.proofs.lemmas.List.Sums.{sum_by-cons}
use Rattle.std.proofs.Math.Nat.{zero-div, zero-mod}
use Rattle.fz_base.specs.Counts.{Tally}
use Rattle.fz_base.specs.JobBuffers.{buffer_bound}
use Rattle.fz_base.specs.Refusal.{first_refusal}
use Rattle.fz_base.specs.Stop.{IfRefused, IsDefined, ReadsAndTakes, StoppedTaking, TellsLimit}
use Rattle.fz_base.specs.Takings.{PastFirstLaw, PastSecondLaw, TellsFirstPast, first_past, highest, piled}
use Rattle.fz_base.specs.declared.fault.Fault.{Fault}
use Rattle.fz_base.specs.declared.failure.Stop.{Stop}
use Rattle.fz_base.specs.declared.failure.Stop.TheVariants.{Refused, ReadFault, WriteFault, OverLimit, NoMemory}
use Rattle.fz_block.specs.Checks.{header_blocks_of, unless_refused}
use Rattle.fz_block.specs.Facts.{IsHeaderOf}
use Rattle.fz_block.specs.Takings.{header_taking}
use Rattle.fz_block.specs.declared.axes.Axes.{Axes}
use Rattle.fz_block.specs.declared.header.Header.{Header}
use Rattle.fz_grid.specs.Arrays.{product}
use Rattle.fz_grid.specs.Grid.{tile_lengths}
use Rattle.fz_grid.specs.Region.{IsDivided, lengths_of}
use Rattle.fz_checks.specs.WorkBuffers.{pixels_of_tile, work_buffers}
use Rattle.fz_head.specs.declared.plan.Plan.{Plan}
use Rattle.fz_files.specs.Restored.{header_in, pixels_of, plan_in}
use Rattle.fz_job.specs.Workspace.{BoundGrows, PassesWithinAll, StaysInBound}
use Rattle.fz_job.specs.declared.workspace.Wants.{Wants}
use Rattle.fz_laws.specs.PatchBuffers.{given_takings, kept_live, tile_takings}
use Rattle.fz_laws.specs.PatchChecks.{find_checks, if_all_pass, if_patchable, own_checks, patch_target, target_checks}
use Rattle.fz_laws.specs.FirstPatchFault.{IsFaultBehindTarget, IsFirstPatchFault}
use Rattle.fz_laws.specs.Given.{PatchJob, given_by}
use Rattle.fz_patch.specs.Clauses.{TellsPatchFault, greatest_patch_bound}
use Rattle.fz_target.specs.Ends.{StoppedWorking, WorksInPlace}
use Rattle.fz_patch.specs.Jobs.{ForJobs, IsWanted}
use Rattle.fz_laws.specs.PatchForm.{has_form, is_wide_table}
use Rattle.fz_laws.specs.Grown.{IsFoundHeader}
use Rattle.fz_table.specs.Tables.{table_in}
use Rattle.fz_checks.specs.declared.job_checks.PackedImage.{PackedImage}
use Rattle.fz_target.specs.Targets.{HasHeader, IsFoundBy, IsGivenTo, IsOwnImage, IsTarget, IsTargetIn, given_taking, job_at}
use Rattle.fz_target.specs.Told.{IfBoth}
use Rattle.fz_target.specs.declared.target.Target.{Target}
use Rattle.fz_patch.proofs.Amended.{kept-same, same-is}
use Rattle.fz_patch.proofs.EndsTold.{some_of}
use Rattle.fz_patch.proofs.FrameFound.{WalkFinds, WalkStops, front_passed, wanted_hdu}
use Rattle.fz_patch.proofs.SumCards.{header_long}

-- ---- the header that is wanted

pub has_header : WalkFinds → WalkStops → (len : ℕ) (h : Header) (buf file : List ℕ) (wanted : Option ℕ) → length file ≡ len → header_in file h ≡ buf → IsWanted wanted h file → HasHeader len h buf file
has_header walks last len h buf file wanted long read w = record {
  length_is = long;
  header_is = read;
  passes = subst (λ (header : List ℕ). first_refusal (find_checks h header true) ≡ None) read (wanted_hdu walks last wanted file h w.found).passes;
}

-- the checks of the target are those that come next
pub target_is : (h : Header) (file patch corner : List ℕ) (wanted : Option ℕ) → IsWanted wanted h file → patch_target file patch (job_at wanted corner) ≡ if_patchable file patch (job_at wanted corner) (Ok h)
unfolding patch_target
target_is h file patch corner wanted w = λ j. if_all_pass (w.passes j) (if_patchable file patch (job_at wanted corner) (w.found j))

pub fault_of : (file patch : List ℕ) (job : PatchJob) (x : Fault) → patch_target file patch job ≡ Err x → IsFirstPatchFault file patch job (Some x)
fault_of file patch job x e = subst (λ (r : Result Header Fault). IsFaultBehindTarget file (given_by patch job) r (Some x)) (sym e) refl

-- a stop that the definition of the target tells
pub told_stop : (X : Type 0) (file patch : List ℕ) (job : PatchJob) (stop : Stop) → IsDefined {X = Header} (patch_target file patch job) (Err stop) → TellsPatchFault {X = X} job (Some file) (Some patch) (Err stop)
told_stop X file patch job (Refused x) defined = fault_of file patch job x defined
told_stop X file patch job ReadFault defined = tt
told_stop X file patch job WriteFault defined = tt
told_stop X file patch job (OverLimit live asked limit) defined = tt
told_stop X file patch job NoMemory defined = tt

-- ---- why it stopped

pub never_written : {X : Type 0} (s s' : Tally) (limit : ℕ) (a : ReadsAndTakes {X = X} s s' limit (Err WriteFault)) → ⊥
never_written s s' limit a = a.stop

takes_stop : (s p p' : Tally) (limit : ℕ) (stop : Stop) → StoppedTaking p p' limit stop → StoppedWorking s s p p' limit stop
takes_stop s p p' limit (Refused x) why = (same-is s s refl, why)
takes_stop s p p' limit ReadFault why = inr why
takes_stop s p p' limit WriteFault why = absurd why
takes_stop s p p' limit (OverLimit live asked told) why = why
takes_stop s p p' limit NoMemory why = tt

-- a part that reads PATCH stopped
pub given_works : {X Y : Type 0} (s p p' : Tally) (limit : ℕ) (stop : Stop) → ReadsAndTakes {X = Y} p p' limit (Err stop) → WorksInPlace {X = X} s s p p' limit (Err stop)
given_works s p p' limit stop a = record {
  store_kept = kept-same s;
  patch_kept = a.kept;
  ok = tt;
  stop = takes_stop s p p' limit stop a.stop;
}

-- ---- the greatest bound

pub stop_limit : (X Y : Type 0) (limit less more : ℕ) (stop : Stop) → less ≤ more → TellsLimit {X = Y} limit less (Err stop) → TellsLimit {X = X} limit more (Err stop)
stop_limit X Y limit less more (Refused x) low tells = tt
stop_limit X Y limit less more ReadFault low tells = tt
stop_limit X Y limit less more WriteFault low tells = tt
stop_limit X Y limit less more (OverLimit live asked told) low tells = (tells.0, tells.1, omega (arith, tells.2, low))
stop_limit X Y limit less more NoMemory low tells = tt

pub bound_headers : 2880 + 737280 + 737280 ≤ greatest_patch_bound
unfolding buffer_bound
bound_headers = omega arith

abbrev behind_first : List ℕ → List ℕ
behind_first [] = []
behind_first (x ∷ xs) = xs

pub bound_work : StaysInBound → BoundGrows → (n live : ℕ) → n ≤ 2 ^ 26 → live ≤ 2880 + 737280 → live + sum (work_buffers 0 false (Some n) 1) ≤ greatest_patch_bound
bound_work stays grows n live small low =
    let wants : Wants = record { header_len = 737280; translates = false; tile = Some n } in
    let rest : List ℕ = behind_first (work_buffers 0 false (Some n) 1) in
    let one : sum (work_buffers 0 false (Some n) 1) ≡ 0 + sum rest = sum_by-cons (λ x. x) 0 rest in
    let two : sum (work_buffers 737280 false (Some n) 1) ≡ 737280 + sum rest = sum_by-cons (λ x. x) 737280 rest in
    let within : 2880 + sum (work_buffers 737280 false (Some n) 1) ≤ buffer_bound 737280 n 1 = stays wants 1 in
    let same : 737280 ≤ 737280 = omega arith in
    let most : buffer_bound 737280 n 1 ≤ greatest_patch_bound = grows 737280 737280 n (2 ^ 26) 1 same small in
    omega (arith, one, two, within, most, low)

pub work_limit : {X : Type 0} → StaysInBound → BoundGrows → PassesWithinAll → (s s' p p' : Tally) (limit live n : ℕ) (r : Result X Stop) → n ≤ 2 ^ 26 → live ≤ 2880 + 737280 → WorksInPlace s s' p p' limit r →
    TellsFirstPast limit (piled live (work_buffers 0 false (Some n) 1)) r → TellsLimit limit greatest_patch_bound r
work_limit stays grows past s s' p p' limit live n (Ok x) small low a tells = tt
work_limit stays grows past s s' p p' limit live n (Err (Refused x)) small low a tells = tt
work_limit stays grows past s s' p p' limit live n (Err ReadFault) small low a tells = tt
work_limit stays grows past s s' p p' limit live n (Err WriteFault) small low a tells = tt
work_limit stays grows past s s' p p' limit live n (Err (OverLimit before asked told)) small low a tells =
    let most = (past limit live before asked (work_buffers 0 false (Some n) 1) tells).1 in
    (a.stop.0, a.stop.1, omega (arith, most, bound_work stays grows n live small low))
work_limit stays grows past s s' p p' limit live n (Err NoMemory) small low a tells = tt

-- ---- takings

pub tells_same : {X : Type 0} (limit : ℕ) (ts us : List (ℕ × ℕ)) (r : Result X Stop) → first_past limit us ≡ first_past limit ts → TellsFirstPast limit ts r → TellsFirstPast limit us r
tells_same limit ts us (Ok x) same tells = same ∙ tells
tells_same limit ts us (Err (Refused x)) same tells = same ∙ tells
tells_same limit ts us (Err ReadFault) same tells = tt
tells_same limit ts us (Err WriteFault) same tells = same ∙ tells
tells_same limit ts us (Err (OverLimit live asked told)) same tells = same ∙ tells
tells_same limit ts us (Err NoMemory) same tells = tt

-- a stop by the first of two lists of takings, of which the second is empty if it is a refusal
pub past_front : (X Y : Type 0) → PastFirstLaw → PastSecondLaw → (s s' : Tally) (limit : ℕ) (ts us : List (ℕ × ℕ)) (stop : Stop) → StoppedTaking s s' limit stop → IfRefused {X = Y} (Err stop) (λ x. us ≡ []) →
    TellsFirstPast {X = X} limit ts (Err stop) → TellsFirstPast {X = Y} limit (ts ++ us) (Err stop)
past_front X Y first second s s' limit ts us (Refused x) why empty tells = second limit ts us tells ∙ ap (first_past limit) empty
past_front X Y first second s s' limit ts us ReadFault why empty tells = tt
past_front X Y first second s s' limit ts us WriteFault why empty tells = absurd why
past_front X Y first second s s' limit ts us (OverLimit live asked told) why empty tells = first limit (live, asked) ts us tells
past_front X Y first second s s' limit ts us NoMemory why empty tells = tt

pub high_front : (ts us : List (ℕ × ℕ)) → highest ts ≤ highest (ts ++ us)
high_front [] us = omega arith
high_front ((live, asked) ∷ ts) us = omega (arith, high_front ts us)

pub high_back : (ts us : List (ℕ × ℕ)) → highest us ≤ highest (ts ++ us)
high_back [] us = omega arith
high_back ((live, asked) ∷ ts) us = omega (arith, high_back ts us)

pub high_both : (ts us : List (ℕ × ℕ)) → highest (ts ++ us) ≤ max (highest ts) (highest us)
high_both [] us = omega arith
high_both ((live, asked) ∷ ts) us = omega (arith, high_both ts us)

pub low_piled : (live : ℕ) (buffers : List ℕ) → highest (piled live buffers) ≤ live + sum buffers
low_piled live [] = omega arith
low_piled live (asked ∷ more) = let one : sum (asked ∷ more) ≡ asked + sum more = sum_by-cons (λ x. x) asked more in omega (arith, one, low_piled (live + asked) more)

pub high_piled : (live first : ℕ) (more : List ℕ) → live + sum (first ∷ more) ≤ highest (piled live (first ∷ more))
high_piled live first [] = let one : sum (first ∷ []) ≡ first + 0 = sum_by-cons (λ x. x) first [] in omega (arith, one)
high_piled live first (next ∷ more) =
    let one : sum (first ∷ next ∷ more) ≡ first + sum (next ∷ more) = sum_by-cons (λ x. x) first (next ∷ more) in
    omega (arith, one, high_piled (live + first) next more)

-- ---- tile 0 is a whole one

record IsTiling (array tile : List ℕ) : Type 0 where
  pub same : length tile ≡ length array
  pub inside : (i : ℕ) → i < length array → get_or tile i 0 ≤ get_or array i 0

tiling_tail : (n t : ℕ) (ns ts : List ℕ) → IsTiling (n ∷ ns) (t ∷ ts) → IsTiling ns ts
tiling_tail n t ns ts tiling = record {
  same = omega (arith, tiling.same);
  inside = λ i h. tiling.inside (suc i) (omega (arith, h));
}

long_enough : (xs : List ℕ) (n : ℕ) → ((i : ℕ) → i < n → 1 ≤ get_or xs i 0) → n ≤ length xs
long_enough xs zero positive = omega arith
long_enough [] (suc n) positive = absurd (omega (arith, positive n (omega arith)))
long_enough (x ∷ xs) (suc n) positive = omega (arith, long_enough xs n (λ i h. positive (suc i) (omega (arith, h))))

tiling_of : (shape tile : Axes) → IsDivided shape tile → IsTiling (lengths_of shape) (lengths_of tile)
tiling_of shape tile divided =
    let tile_len = long_enough tile.len shape.n divided.positive in
    let shape_len = long_enough shape.len shape.n (λ i h. omega (arith, divided.positive i h, divided.inside i h)) in
    record {
      same = omega (arith, length-take shape.n shape.len, length-take tile.n tile.len, divided.same_axes, shape_len, tile_len);
      inside =
          λ i h.
          let in_shape : i < shape.n = omega (arith, length-take shape.n shape.len, h) in
          let in_tile : i < tile.n = omega (arith, divided.same_axes, in_shape) in
          rw (get_or-take tile.n tile.len i 0 in_tile, get_or-take shape.n shape.len i 0 in_shape) (divided.inside i in_shape);
    }

first_whole : (ns ts : List ℕ) → IsTiling ns ts → tile_lengths ns ts 0 ≡ ts
first_whole [] [] tiling = refl
first_whole [] (t ∷ ts) tiling = absurd (omega (arith, tiling.same))
first_whole (n ∷ ns) [] tiling = absurd (omega (arith, tiling.same))
first_whole (n ∷ ns) (t ∷ ts) tiling =
    let g : ℕ = (n + (t - 1)) / t in
    let digit : 0 % g ≡ 0 = zero-mod g in
    let rest : 0 / g ≡ 0 = zero-div g in
    let inside = tiling.inside zero (omega arith) in
    let whole : min t (n - 0 % g * t) ≡ t = rw digit (omega (arith, inside)) in
    ap (λ m. m ∷ tile_lengths ns ts (0 / g)) whole ∙ (ap (λ d. t ∷ tile_lengths ns ts d) rest ∙ ap (λ l. t ∷ l) (first_whole ns ts (tiling_tail n t ns ts tiling)))

pub first_pixels : (p : Plan) → IsDivided p.shape p.tile → pixels_of p 0 ≡ pixels_of_tile p
first_pixels p divided = ap product (first_whole (lengths_of p.shape) (lengths_of p.tile) (tiling_of p.shape p.tile divided))

pub few_pixels : (p : Plan) → IsDivided p.shape p.tile → pixels_of p 0 ≤ 2 ^ 26
few_pixels p divided = omega (arith, first_pixels p divided, divided.tile_pixels)

-- ---- what is taken after the header

err_some : (h : Header) (found : Option Fault) (x : Fault) → unless_refused h found ≡ Err x → found ≡ Some x
err_some h None x e = absurd cc
err_some h (Some y) x e = let same : y ≡ x = cc in ap Some same

ok_none : (h k : Header) (found : Option Fault) → unless_refused h found ≡ Ok k → found ≡ None
ok_none h k None e = refl
ok_none h k (Some y) e = absurd cc

-- no work if a check of the target refuses
refused_empty : (Y : Type 0) (file patch : List ℕ) (job : PatchJob) (h : Header) (stop : Stop) → IsDefined {X = Header} (if_patchable file patch job (Ok h)) (Err stop) →
    IfRefused {X = Y} (Err stop) (λ x. tile_takings file h (first_refusal (target_checks file patch h job)) ≡ [])
refused_empty Y file patch job h (Refused x) defined = ap (tile_takings file h) (err_some h (first_refusal (target_checks file patch h job)) x defined)
refused_empty Y file patch job h ReadFault defined = tt
refused_empty Y file patch job h WriteFault defined = tt
refused_empty Y file patch job h (OverLimit live asked limit) defined = tt
refused_empty Y file patch job h NoMemory defined = tt

as_stop : (X Y : Type 0) (limit : ℕ) (ts : List (ℕ × ℕ)) (stop : Stop) → TellsFirstPast {X = X} limit ts (Err stop) → TellsFirstPast {X = Y} limit ts (Err stop)
as_stop X Y limit ts (Refused x) tells = tells
as_stop X Y limit ts ReadFault tells = tt
as_stop X Y limit ts WriteFault tells = tells
as_stop X Y limit ts (OverLimit live asked told) tells = tells
as_stop X Y limit ts NoMemory tells = tt

-- PATCH was not found to fit, or its header was not given room
pub find_past : (X Y : Type 0) → PastFirstLaw → PastSecondLaw → (p p' : Tally) (limit live : ℕ) (file patch : List ℕ) (job : PatchJob) (h : Header) (own : Option Fault) (stop : Stop) → live ≡ kept_live h → StoppedTaking p p' limit stop →
    IsDefined {X = Header} (if_patchable file patch job (Ok h)) (Err stop) → TellsFirstPast {X = X} limit (given_taking live patch own) (Err stop) → TellsFirstPast {X = Y} limit (given_takings file patch job h own) (Err stop)
find_past X Y first second p p' limit live file patch job h (Some x) stop is why defined tells = as_stop X Y limit [] stop tells
find_past X Y first second p p' limit live file patch job h None stop is why defined tells =
    past_front X Y first second p p' limit (header_taking (kept_live h) (header_blocks_of 0 0 patch)) (tile_takings file h (first_refusal (target_checks file patch h job))) stop why
    (refused_empty Y file patch job h stop defined) (subst (λ (n : ℕ). TellsFirstPast {X = X} limit (header_taking n (header_blocks_of 0 0 patch)) (Err stop)) is tells)

pub find_high : (live : ℕ) (file patch : List ℕ) (job : PatchJob) (h : Header) (own : Option Fault) → live ≡ kept_live h → highest (given_taking live patch own) ≤ highest (given_takings file patch job h own)
find_high live file patch job h (Some x) is = omega arith
find_high live file patch job h None is =
    subst (λ (n : ℕ). highest (header_taking n (header_blocks_of 0 0 patch)) ≤ highest (given_takings file patch job h None)) (sym is)
    (high_front (header_taking (kept_live h) (header_blocks_of 0 0 patch)) (tile_takings file h (first_refusal (target_checks file patch h job))))

-- no check refuses a target that was found
own_pass : (file patch : List ℕ) (job : PatchJob) (h k : Header) → if_patchable file patch job (Ok h) ≡ Ok k → (first_refusal (own_checks file h job) ≡ None) × (first_refusal (target_checks file patch h job) ≡ None)
own_pass file patch job h k e =
    let none : first_refusal (target_checks file patch h job) ≡ None = ok_none h k (first_refusal (target_checks file patch h job)) e in
    (front_passed (own_checks file h job) _ none, none)

-- the takings are those of PATCH, and then those of the work
pub found_takings : (live n : ℕ) (file patch : List ℕ) (job : PatchJob) (h k : Header) → live ≡ kept_live h → n ≡ pixels_of_tile (plan_in file h) → if_patchable file patch job (Ok h) ≡ Ok k →
    given_takings file patch job h (first_refusal (own_checks file h job)) ≡ given_taking live patch (first_refusal (own_checks file h job)) ++ piled live (work_buffers 0 false (Some n) 1)
found_takings live n file patch job h k is count e =
    let pass = own_pass file patch job h k e in
    ap (given_takings file patch job h) pass.0
    ∙ ap (λ f. header_taking (kept_live h) (header_blocks_of 0 0 patch) ++ tile_takings file h f) pass.1
    ∙ (λ j. given_taking (sym is j) patch (sym pass.0 j) ++ piled (sym is j) (work_buffers 0 false (Some (sym count j)) 1))

pub work_past : {X Y : Type 0} → PastSecondLaw → (limit live n : ℕ) (file patch : List ℕ) (job : PatchJob) (h k : Header) (y : Y) (r : Result X Stop) → live ≡ kept_live h → n ≡ pixels_of_tile (plan_in file h) → if_patchable file patch job (Ok h) ≡ Ok k →
    TellsFirstPast {X = Y} limit (given_taking live patch (first_refusal (own_checks file h job))) (Ok y) → TellsFirstPast limit (piled live (work_buffers 0 false (Some n) 1)) r →
    TellsFirstPast limit (given_takings file patch job h (first_refusal (own_checks file h job))) r
work_past second limit live n file patch job h k y r is count e none tells =
    let later : List (ℕ × ℕ) = piled live (work_buffers 0 false (Some n) 1) in
    tells_same limit later (given_takings file patch job h (first_refusal (own_checks file h job))) r
    (ap (first_past limit) (found_takings live n file patch job h k is count e) ∙ second limit (given_taking live patch (first_refusal (own_checks file h job))) later none) tells

pub work_high : (live n : ℕ) (file patch : List ℕ) (job : PatchJob) (h k : Header) → live ≡ kept_live h → n ≡ pixels_of_tile (plan_in file h) → if_patchable file patch job (Ok h) ≡ Ok k →
    (highest (given_taking live patch (first_refusal (own_checks file h job))) ≤ highest (given_takings file patch job h (first_refusal (own_checks file h job))))
    × (live + sum (work_buffers 0 false (Some n) 1) ≤ highest (given_takings file patch job h (first_refusal (own_checks file h job))))
work_high live n file patch job h k is count e =
    let front : List (ℕ × ℕ) = given_taking live patch (first_refusal (own_checks file h job)) in
    let back : List (ℕ × ℕ) = piled live (work_buffers 0 false (Some n) 1) in
    let all : highest (given_takings file patch job h (first_refusal (own_checks file h job))) ≡ highest (front ++ back) = ap highest (found_takings live n file patch job h k is count e) in
    (omega (arith, all, high_front front back), omega (arith, all, high_back front back, high_piled live 0 (behind_first (work_buffers 0 false (Some n) 1))))

-- and no other taking is higher
pub work_low : (live n : ℕ) (file patch : List ℕ) (job : PatchJob) (h k : Header) → live ≡ kept_live h → n ≡ pixels_of_tile (plan_in file h) → if_patchable file patch job (Ok h) ≡ Ok k →
    highest (given_takings file patch job h (first_refusal (own_checks file h job)))
    ≤ max (highest (given_taking live patch (first_refusal (own_checks file h job)))) (live + sum (work_buffers 0 false (Some n) 1))
work_low live n file patch job h k is count e =
    let front : List (ℕ × ℕ) = given_taking live patch (first_refusal (own_checks file h job)) in
    let back : List (ℕ × ℕ) = piled live (work_buffers 0 false (Some n) 1) in
    let all : highest (given_takings file patch job h (first_refusal (own_checks file h job))) ≡ highest (front ++ back) = ap highest (found_takings live n file patch job h k is count e) in
    omega (arith, all, high_both front back, low_piled live (work_buffers 0 false (Some n) 1))

-- ---- of every job

pub of_jobs : (held given given' : Option (List ℕ)) (t : Target) (h : Header) (corner : List ℕ) (P : PatchJob → List ℕ → List ℕ → Type 0) → given' ≡ given → IfSome given (λ p. IsGivenTo corner p t) →
    IfBoth held given (λ f p. (wanted : Option ℕ) → IsWanted wanted h f → patch_target f p (job_at wanted corner) ≡ Ok t.header) →
    ForJobs held given' t P → IfBoth held given (λ f p. (wanted : Option ℕ) → IsWanted wanted h f → P (job_at wanted corner) f p)
of_jobs None given given' t h corner P same gives target all = tt
of_jobs (Some f) None given' t h corner P same gives target all = tt
of_jobs (Some f) (Some p) given' t h corner P same gives target all = λ wanted w. (subst (λ (s : Option (List ℕ)). ForJobs (Some f) s t P) same all) wanted corner gives (target wanted w)

-- ---- of the file that is shown

-- the header that was read is that of the file
pub has_of : WalkFinds → WalkStops → (held : Option (List ℕ)) (len : ℕ) (h : Header) (buf : List ℕ) → IfSome held (λ f. length f ≡ len) → IfSome held (λ f. header_in f h ≡ buf) →
    (file : List ℕ) (wanted : Option ℕ) → held ≡ Some file → IsWanted wanted h file → HasHeader len h buf file
has_of walks last held len h buf long read file wanted is w =
    has_header walks last len h buf file wanted (some_of held (λ f. length f ≡ len) file is long) (some_of held (λ f. header_in f h ≡ buf) file is read) w

-- as many bytes are live as the block and the header have
pub kept_is : (live : ℕ) (buf : List ℕ) (h : Header) → IsHeaderOf buf h → live ≡ 2880 + length buf → live ≡ kept_live h
kept_is live buf h is same = omega (arith, same, header_long buf h is)

-- the tiles that are worked on are those of the file's plan
pub tile_of : (t : Target) (h : Header) (file : List ℕ) → IsTarget t → t.header ≡ h → IsTargetIn file t → pixels_of t.image.plan 0 ≡ pixels_of_tile (plan_in file h)
tile_of t h file is same said = first_pixels t.image.plan is.readable.divided ∙ ap pixels_of_tile (sym said.said.plan) ∙ ap (λ (k : Header). pixels_of_tile (plan_in file k)) same

-- the image is that of the header
pub found_by : (len : ℕ) (corner buf : List ℕ) (h : Header) (t : Target) → IsHeaderOf buf h → t.header ≡ h → IsOwnImage len corner buf h t.image → is_wide_table buf ≡ t.wide → IsFoundBy buf t
found_by len corner buf h t is same own wide =
    let back : h ≡ t.header = sym same in
    record {
      found = subst (IsFoundHeader buf) back (record { is_header = is; checks = own.checks });
      form = subst (λ (k : Header). has_form buf k t.image.plan ≡ true) back own.form;
      plan = ap (λ (i : PackedImage). i.plan) (sym own.said);
      table = subst (λ (k : Header). table_in buf k ≡ t.image.table) back (ap (λ (i : PackedImage). i.table) (sym own.said));
      wide = wide;
    }
