-- What is kept of the file, and what was read of the other one, by the image that FILE alone tells.
use Rattle.std.proofs.Common.{◌≡◌, ◌⊎◌, inl, inr, ℕ, ◌+◌, ◌-◌, ◌*◌, ◌/◌, ◌<◌, ◌≤◌, List, [], ◌∷◌, ◌++◌, length, Option, Some, None, Result, Ok, Err, refl, sym, ap, ◌∙◌, subst, arith, append-nil}
use Rattle.std.specs.Prelude.{IfSome}
use Rattle.std.specs.Option.{option_map}
use Rattle.fz_base.specs.Counts.{Amend}
use Rattle.fz_base.specs.Ranges.{LiesIn, LogsIn, LogsJoinLaw, LogsWithinLaw}
use Rattle.fz_base.specs.Refusal.{first_refusal}
use Rattle.fz_base.specs.Source.{LogsWithin}
use Rattle.fz_base.specs.declared.fault.Fault.{Fault}
use Rattle.fz_block.specs.Checks.{header_touched, unless_refused}
use Rattle.fz_block.specs.Header.{data_start_of}
use Rattle.fz_block.specs.declared.header.Header.{Header}
use Rattle.fz_files.specs.FirstFault.{picked_tiles_of}
use Rattle.fz_files.specs.Packed.{pixel_bits}
use Rattle.fz_files.specs.Restored.{header_in, image_table, plan_in}
use Rattle.fz_grid.specs.Arrays.{product}
use Rattle.fz_grid.specs.Sieve.{IsSieveOf, sieve_lengths}
use Rattle.fz_head.specs.declared.plan.Plan.{Plan}
use Rattle.fz_laws.specs.Given.{PatchJob, box_sieve, given_header}
use Rattle.fz_laws.specs.NewNumbers.{box_tiles}
use Rattle.fz_laws.specs.PatchChecks.{if_all_pass, own_checks, patch_target}
use Rattle.fz_patch.specs.Jobs.{IsWanted}
use Rattle.fz_patch.specs.Kept.{ChangesOnly, IsKept, KeepsBytes, LeavesRest}
use Rattle.fz_target.specs.Reads.{HasDataOf, ReadsGiven, found_alone, given_data, given_header_range, own_target, pixels_end}
use Rattle.fz_target.specs.Targets.{GivesWithin, IsBoxAt, IsTarget, IsTargetIn, box_at, job_at}
use Rattle.fz_target.specs.Told.{IfBoth}
use Rattle.fz_target.specs.declared.target.Target.{Target}
use Rattle.fz_patch.proofs.EndsTold.{if_both}
use Rattle.fz_patch.proofs.KeptCards.{lies_left, lies_right}
use Rattle.fz_patch.proofs.KeptSteps.{KeptBy}

-- ---- the image by FILE alone

-- the checks of FILE that come before PATCH, of the HDU that is wanted
alone_is : (file : List ℕ) (wanted : Option ℕ) (corner : List ℕ) (h : Header) → IsWanted wanted h file → found_alone file (job_at wanted corner) ≡ unless_refused h (first_refusal (own_checks file h (job_at wanted corner)))
alone_is file wanted corner h w = λ j. if_all_pass (w.passes j) (own_target file (job_at wanted corner) (w.found j))

pub alone_found : (file : List ℕ) (wanted : Option ℕ) (corner : List ℕ) (h : Header) → IsWanted wanted h file → first_refusal (own_checks file h (job_at wanted corner)) ≡ None → found_alone file (job_at wanted corner) ≡ Ok h
alone_found file wanted corner h w passes = alone_is file wanted corner h w ∙ ap (unless_refused h) passes

stops_with : (h : Header) (o : Option Fault) (x : Fault) → unless_refused h o ≡ Err x → o ≡ Some x
stops_with h None x e = absurd cc
stops_with h (Some y) x e = cc

pub alone_stops : (file : List ℕ) (wanted : Option ℕ) (corner : List ℕ) (h : Header) (x : Fault) → IsWanted wanted h file → found_alone file (job_at wanted corner) ≡ Err x → first_refusal (own_checks file h (job_at wanted corner)) ≡ Some x
alone_stops file wanted corner h x w e = stops_with h (first_refusal (own_checks file h (job_at wanted corner))) x (sym (alone_is file wanted corner h w) ∙ e)

pub not_both : {X : Type 0} (r : Result X Fault) (v : X) (x : Fault) → r ≡ Ok v → r ≡ Err x → ⊥
not_both r v x ok err = let both : Ok v ≡ Err x = sym ok ∙ err in absurd cc

-- ---- what is kept

module _ (t : Target) (h : Header) (buf corner file : List ℕ) (wanted : Option ℕ) (attached : Option ℕ) (given held' : Option (List ℕ)) (log log' : Option (List Amend)) where
  pub only_changed : IsWanted wanted h file → first_refusal (own_checks file h (job_at wanted corner)) ≡ None → t.header ≡ h → IsTarget t → IsTargetIn file t → header_in file h ≡ buf → IsBoxAt corner given t → GivesWithin attached t →
      KeepsBytes (KeptBy t buf) file held' log log' → LeavesRest (job_at wanted corner) attached given held' log log' file
  only_changed w passes same is said read box within keeps =
      let plan : plan_in file h ≡ t.image.plan = ap (plan_in file) (sym same) ∙ said.said.plan in
      let table : image_table file h ≡ t.image.table = ap (image_table file) (sym same) ∙ said.said.table in
      let kept : KeptBy t buf ≡ IsKept (header_in file h) h (image_table file h) (box_tiles (plan_in file h) (box_at corner box.lengths)) =
      λ j. IsKept (sym read j) (same j) (sym table j) (picked_tiles_of (sym plan j) (box.sieve j)) in
      let far : pixel_bits (plan_in file h) / 8 * product box.lengths ≡ pixel_bits t.image.plan / 8 * product (sieve_lengths t.sieve) = λ j. pixel_bits (plan j) / 8 * product (sym box.along j) in
      inr (record {
        header = h;
        found = alone_found file wanted corner h w passes;
        lengths = box.lengths;
        inside = subst (λ (p : Plan). IsSieveOf p.shape (box_sieve (box_at corner box.lengths))) (sym plan) (subst (IsSieveOf t.image.plan.shape) box.sieve is.sieve);
        within = (within.0, within.2, omega (arith, far, within.3));
        shown = box.shown;
        keeps = subst (λ (K : ℕ → Type 0). KeepsBytes K file held' log log') kept keeps;
      })

-- of the job that is wanted
pub of_job : (wanted : Option ℕ) (h : Header) (held : Option (List ℕ)) (P : Option ℕ → List ℕ → Type 0) → IfSome held (IsWanted wanted h) → IfSome held (λ g. (any : Option ℕ) → IsWanted any h g → P any g) → IfSome held (P wanted)
of_job wanted h None P is all = tt
of_job wanted h (Some g) P is all = all wanted is

-- nothing was written
pub rest_untouched : (job : PatchJob) (attached : Option ℕ) (given held held' : Option (List ℕ)) (log log' : Option (List Amend)) → held' ≡ held → log' ≡ log → IfSome held (LeavesRest job attached given held' log log')
rest_untouched job attached given None held' log log' same logged = tt
rest_untouched job attached given (Some g) held' log log' same logged = inl (same, logged)

-- ---- what is read of PATCH

same_ranges : (old : Option (List (ℕ × ℕ))) → old ≡ option_map (λ rs. rs ++ []) old
same_ranges None = refl
same_ranges (Some rs) = ap Some (sym (append-nil rs))

pub nothing_read : (ranges : List (ℕ × ℕ)) (old : Option (List (ℕ × ℕ))) → LogsIn ranges old old
nothing_read ranges old = ([], (λ k d few. absurd (omega (arith, few))), same_ranges old)

wider : (ranges more : List (ℕ × ℕ)) (old new : Option (List (ℕ × ℕ))) → ((byte : ℕ) → LiesIn ranges byte → LiesIn more byte) → LogsIn ranges old new → LogsIn more old new
wider ranges more old new lie logs = (logs.0, (λ k d near byte from to. lie byte (logs.1 k d near byte from to)), logs.2)

-- what is read from the start of the header up to where the search for its END looks
pub header_only : LogsWithinLaw → (given : Option (List ℕ)) (old new : Option (List (ℕ × ℕ))) → IfSome given (λ p. LogsWithin 0 (header_touched 0 0 p) old new) → IfSome given (λ p. LogsIn (given_header_range p ∷ []) old new)
header_only within None old new logs = tt
header_only within (Some p) old new logs = within 0 (header_touched 0 0 p) (given_header_range p ∷ []) old new (λ byte low high. inl (low, omega (arith, high))) logs

pub header_read : LogsWithinLaw → (given : Option (List ℕ)) (old new : Option (List (ℕ × ℕ))) → IfSome given (λ p. LogsWithin 0 (header_touched 0 0 p) old new) →
    IfSome given (λ p. LogsIn (given_header_range p ∷ given_data (given_header p)) old new)
header_read within None old new logs = tt
header_read within (Some p) old new logs =
    wider (given_header_range p ∷ []) (given_header_range p ∷ given_data (given_header p)) old new (lies_left (given_header_range p ∷ []) (given_data (given_header p))) (header_only within (Some p) old new logs)

-- and then the pixels
pub pixels_too : LogsWithinLaw → LogsJoinLaw → (t : Target) (given : Option (List ℕ)) (old mid new : Option (List (ℕ × ℕ))) → IfSome given (λ p. HasDataOf p t) → IfSome given (λ p. LogsWithin 0 (header_touched 0 0 p) old mid) →
    LogsWithin t.pixels_at (pixels_end t) mid new → IfSome given (λ p. LogsIn (given_header_range p ∷ given_data (given_header p)) old new)
pixels_too within join t None old mid new begins first rest = tt
pixels_too within join t (Some p) old mid new begins first rest =
    let q : Header = begins.0 in
    let all : List (ℕ × ℕ) = given_header_range p ∷ given_data (given_header p) in
    let here : given_data (given_header p) ≡ (data_start_of q, q.data_len) ∷ [] = ap given_data begins.1 in
    let there : (byte : ℕ) → t.pixels_at ≤ byte → byte < pixels_end t → LiesIn all byte =
    λ byte low high.
    lies_right (given_header_range p ∷ []) (given_data (given_header p)) byte
    (subst (λ (rs : List (ℕ × ℕ)). LiesIn rs byte) (sym here) (inl (omega (arith, low, begins.2), omega (arith, high, begins.3))))
    in
    join all old mid new (header_read within (Some p) old mid first) (within t.pixels_at (pixels_end t) all mid new there rest)

-- a patch that read nothing of it
pub none_read : (held given : Option (List ℕ)) (job : PatchJob) (ranges : Option (List (ℕ × ℕ))) → ReadsGiven held given job ranges ranges
none_read held given job ranges = record {
  within = by_given given;
  alone = by_held held;
  refused = if_both held given _ (λ f p is by x e. nothing_read (given_header_range p ∷ []) ranges);
}
  where
    by_given : (given : Option (List ℕ)) → IfSome given (λ p. LogsIn (given_header_range p ∷ given_data (given_header p)) ranges ranges)
    by_given None = tt
    by_given (Some p) = nothing_read (given_header_range p ∷ given_data (given_header p)) ranges

    by_held : (held : Option (List ℕ)) → IfSome held (λ file. (x : Fault) → found_alone file job ≡ Err x → ranges ≡ ranges)
    by_held None = tt
    by_held (Some f) = λ x e. refl

-- what the work on the HDU that is wanted reads
pub reads_wanted : (wanted : Option ℕ) (corner : List ℕ) (h : Header) (held given : Option (List ℕ)) (ranges ranges' : Option (List (ℕ × ℕ))) → IfSome held (IsWanted wanted h) →
    IfSome given (λ p. LogsIn (given_header_range p ∷ given_data (given_header p)) ranges ranges') →
    IfSome held (λ g. (any : Option ℕ) (x : Fault) → IsWanted any h g → found_alone g (job_at any corner) ≡ Err x → ranges' ≡ ranges) →
    IfBoth held given (λ g p. (any : Option ℕ) (x : Fault) → IsWanted any h g → patch_target g p (job_at any corner) ≡ Err x → LogsIn (given_header_range p ∷ []) ranges ranges') →
    ReadsGiven held given (job_at wanted corner) ranges ranges'
reads_wanted wanted corner h None given ranges ranges' is within alone refused = record { within = within; alone = tt; refused = tt }
reads_wanted wanted corner h (Some g) None ranges ranges' is within alone refused = record { within = within; alone = λ x e. alone wanted x is e; refused = tt }
reads_wanted wanted corner h (Some g) (Some p) ranges ranges' is within alone refused = record { within = within; alone = λ x e. alone wanted x is e; refused = λ x e. refused wanted x is e }
