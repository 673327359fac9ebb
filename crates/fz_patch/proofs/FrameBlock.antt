-- The call after its first block: the looks at all headers, the header that is read once more, and then the rest.
use Rattle.std.proofs.Common.{◌≡◌, ◌⊎◌, inl, inr, ℕ, ◌+◌, ◌*◌, ◌≤◌, max, List, [], ◌++◌, length, take, drop, Option, Some, None, Result, Ok, Err, refl, sym, ap, ◌∙◌, subst, arith}
use Rattle.std.specs.Prelude.{IfOk, IfSome, IsSome, OnOk}
use Rattle.std.specs.Result.{result_map_both}
use Rattle.fz_base.specs.Counts.{Amended, CountsKept, Tally}
use Rattle.fz_base.specs.Refusal.{first_refusal, refusal}
use Rattle.fz_base.specs.Stop.{IfRefused, IsDefined, IsRefused, ReadsAndTakes, StoppedTaking}
use Rattle.fz_base.specs.Store.{HasAtLeast}
use Rattle.fz_base.specs.Takings.{PastFirstLaw, PastSecondLaw, TellsFirstPast, first_past, highest}
use Rattle.fz_base.specs.declared.fault.Fault.{Fault}
use Rattle.fz_base.specs.declared.fault.Place.TheVariants.{Card}
use Rattle.fz_base.specs.declared.kind.Kind.TheVariants.{BadCard}
use Rattle.fz_base.specs.declared.failure.Stop.{Stop}
use Rattle.fz_base.specs.declared.failure.Stop.TheVariants.{Refused, ReadFault, WriteFault, OverLimit, NoMemory}
use Rattle.fz_block.specs.Checks.{hdu_at, header_blocks_of, headers_of, unjudged, walk_of}
use Rattle.fz_block.specs.Facts.{IsHeaderOf}
use Rattle.fz_block.specs.Takings.{header_taking}
use Rattle.fz_block.specs.declared.header.Header.{Header}
use Rattle.fz_block.specs.declared.next.ReadHeader.{ReadHeader}
use Rattle.fz_files.specs.Restored.{header_in}
use Rattle.fz_files.specs.Buffers.{room_takings}
use Rattle.fz_job.specs.Clauses.{IfOverLimit, IsChanged, IsOfSomeRow}
use Rattle.fz_job.specs.SurveyLaws.{AmendLooksOver, EveryLooksOver}
use Rattle.fz_job.specs.Surveys.{amend_surveyed, survey_of, survey_takings, surveyed}
use Rattle.fz_job.specs.declared.checks.JobChecks.TheVariants.{Amend as AmendLook, Every}
use Rattle.fz_job.specs.declared.survey.Survey.{Survey}
use Rattle.fz_laws.specs.PatchBuffers.{given_takings, second_takings, target_takings}
use Rattle.fz_laws.specs.PatchChecks.{find_judge, if_all_pass, if_patchable, own_checks, patch_target, wanted_image}
use Rattle.fz_laws.specs.Given.{PatchJob}
use Rattle.fz_patch.specs.Clauses.{IsUnpassed, IsUnwritten, LeavesSafe, TakingsOfBoth, TellsPatchFault, later_takings}
use Rattle.fz_target.specs.Ends.{StoppedWorking, WorksInPlace}
use Rattle.fz_patch.specs.Jobs.{IsReadAgain, IsWanted, NamesWanted}
use Rattle.fz_target.specs.Steps.{ComesInWork, KeepsReach}
use Rattle.fz_target.specs.Targets.{job_at}
use Rattle.fz_target.specs.Told.{IfBoth}
use Rattle.fz_patch.proofs.Amended.{kept-read, same-is}
use Rattle.fz_patch.proofs.EndsJoined.{counts_same, refused_weaker}
use Rattle.fz_patch.proofs.EndsTold.{if_both}
use Rattle.fz_patch.proofs.FrameFound.{WalkFinds, WalkStops, survey_finds, wanted_hdu}
use Rattle.fz_patch.proofs.FrameHeader.{fault_of, high_back, high_both, high_front, past_front, tells_same}
use Rattle.fz_patch.proofs.FramePatch.{over_short}
use Rattle.fz_patch.proofs.FrameWork.{if_refused}
use Rattle.fz_patch.proofs.SumCards.{header_long}

-- ---- nothing was written

pub untouched : {X : Type 0} {Same : Type 0} (held given : Option (List ℕ)) (limit : ℕ) (takings : TakingsOfBoth) (r : Result X Stop) → Same →
    IsUnwritten held given limit takings Same r
untouched held given limit takings r same = record {
  refused = λ refused. if_both held given _ (λ f p is by. same);
  late = if_refused r (λ x. inl same);
  past = if_both held given _ (λ f p is by some. same);
  over_limit = over_short r same;
}

pub still_amended : (s s' s'' : Tally) → s' ≡ s → CountsKept s' s'' → s''.amended ≡ s.amended
still_amended s s' s'' same kept = kept.not_amended ∙ ap (λ (t : Tally). t.amended) same

pub untouched_safe : (job : PatchJob) (held given held' : Option (List ℕ)) (before now : Amended) → held' ≡ held → now.writes ≡ before.writes → IfBoth held given (LeavesSafe job held' before now)
untouched_safe job held given held' before now same unlogged = if_both held given _ (λ f p is by. inl (same ∙ is, unlogged))

pub reach_same : (attached attached' : Option ℕ) → attached' ≡ attached → KeepsReach attached attached'
reach_same attached attached' same = λ n has. subst (λ (a : Option ℕ). HasAtLeast a n) (sym same) has

store_stop : (s s' p : Tally) (limit : ℕ) (stop : Stop) → StoppedTaking s s' limit stop → StoppedWorking s s' p p limit stop
store_stop s s' p limit (Refused x) why = (same-is s s' why, refl)
store_stop s s' p limit ReadFault why = inl why
store_stop s s' p limit WriteFault why = absurd why
store_stop s s' p limit (OverLimit live asked told) why = why
store_stop s s' p limit NoMemory why = tt

-- a part that reads FILE stopped
pub store_works : {X Y : Type 0} (s s' p : Tally) (limit : ℕ) (stop : Stop) → ReadsAndTakes {X = Y} s s' limit (Err stop) → WorksInPlace {X = X} s s' p p limit (Err stop)
store_works s s' p limit stop a = record {
  store_kept = kept-read s s' a.kept;
  patch_kept = counts_same p p refl;
  ok = tt;
  stop = store_stop s s' p limit stop a.stop;
}

-- ---- the first look

err_walk : (file : List ℕ) (x : Fault) (r : Result (List Header) Fault) → result_map_both (survey_of Every file) (λ y. y) r ≡ Err x → r ≡ Err x
err_walk file x (Ok hs) e = absurd cc
err_walk file x (Err y) e = let same : y ≡ x = cc in ap Err same

ok_walk : (file : List ℕ) (s : Survey) (r : Result (List Header) Fault) → result_map_both (survey_of Every file) (λ y. y) r ≡ Ok s → (hs : List Header) × (r ≡ Ok hs)
ok_walk file s (Ok hs) e = (hs, refl)
ok_walk file s (Err y) e = absurd cc

headers_err : EveryLooksOver → (file : List ℕ) (x : Fault) → surveyed Every file ≡ Err x → headers_of 65536 file ≡ Err x
headers_err looks file x e = err_walk file x (walk_of unjudged 65536 file) (sym (looks.learnt file) ∙ e)

pub headers_ok : EveryLooksOver → (file : List ℕ) (s : Survey) → surveyed Every file ≡ Ok s → (hs : List Header) × (headers_of 65536 file ≡ Ok hs)
headers_ok looks file s e = ok_walk file s (walk_of unjudged 65536 file) (sym (looks.learnt file) ∙ e)

target_refused : (file patch : List ℕ) (job : PatchJob) (x : Fault) → headers_of 65536 file ≡ Err x → patch_target file patch job ≡ Err x
unfolding patch_target
target_refused file patch job x e = λ j. if_all_pass (e j) (if_patchable file patch job (wanted_image job.wanted file))

target_unfound : (file patch : List ℕ) (job : PatchJob) (hs : List Header) (x : Fault) → headers_of 65536 file ≡ Ok hs → wanted_image job.wanted file ≡ Err x → patch_target file patch job ≡ Err x
unfolding patch_target
target_unfound file patch job hs x all e = λ j. if_all_pass (all j) (if_patchable file patch job (e j))

pub every_told : (X : Type 0) → EveryLooksOver → (job : PatchJob) (held given : Option (List ℕ)) (stop : Stop) → IfSome held (λ f. IsDefined {X = Survey} (surveyed Every f) (Err stop)) → TellsPatchFault {X = X} job held given (Err stop)
every_told X looks job None given (Refused x) defined = tt
every_told X looks job (Some f) None (Refused x) defined = tt
every_told X looks job (Some f) (Some p) (Refused x) defined = fault_of f p job x (target_refused f p job x (headers_err looks f x defined))
every_told X looks job held given ReadFault defined = tt
every_told X looks job held given WriteFault defined = tt
every_told X looks job held given (OverLimit live asked limit) defined = tt
every_told X looks job held given NoMemory defined = tt

-- the takings of the two looks
abbrev pub first_look : List ℕ → List (ℕ × ℕ)
first_look file = room_takings unjudged 2880 65536 file

abbrev pub second_look : Option ℕ → List ℕ → List (ℕ × ℕ)
second_look wanted file = room_takings (find_judge wanted file) 2880 65536 file

pub every_takings : EveryLooksOver → (live : ℕ) (file : List ℕ) → live ≡ 2880 → survey_takings Every live file ≡ room_takings unjudged 2880 65536 file
every_takings looks live file one = looks.takings live file ∙ ap (λ n. room_takings unjudged n 65536 file) one

pub amend_takings : AmendLooksOver → (wanted : Option ℕ) (live : ℕ) (file : List ℕ) → live ≡ 2880 → survey_takings (AmendLook wanted) live file ≡ room_takings (find_judge wanted file) 2880 65536 file
amend_takings looks wanted live file one = (looks wanted).takings live file ∙ ap (λ n. room_takings (find_judge wanted file) n 65536 file) one

-- what the second look says of its own meter and source is said of those of the call
pub same_past : (wanted : Option ℕ) (limit limit' live live' : ℕ) (held held' : Option (List ℕ)) → held' ≡ held → limit' ≡ limit → live' ≡ live →
    IfSome held' (λ f. first_past limit' (survey_takings (AmendLook wanted) live' f) ≡ None) → IfSome held (λ f. first_past limit (survey_takings (AmendLook wanted) live f) ≡ None)
same_past wanted limit limit' live live' held held' same_held same_limit same_live none =
    subst (λ (h : Option (List ℕ)). IfSome h (λ f. first_past limit (survey_takings (AmendLook wanted) live f) ≡ None)) same_held
    (subst (λ (n : ℕ). IfSome held' (λ f. first_past limit (survey_takings (AmendLook wanted) n f) ≡ None)) same_live
    (subst (λ (n : ℕ). IfSome held' (λ f. first_past n (survey_takings (AmendLook wanted) live' f) ≡ None)) same_limit none))

every_empty : (Y : Type 0) → EveryLooksOver → (file patch : List ℕ) (job : PatchJob) (stop : Stop) → IsDefined {X = Survey} (surveyed Every file) (Err stop) →
    IfRefused {X = Y} (Err stop) (λ x. second_takings file patch job (headers_of 65536 file) ≡ [])
every_empty Y looks file patch job (Refused x) defined = ap (second_takings file patch job) (headers_err looks file x defined)
every_empty Y looks file patch job ReadFault defined = tt
every_empty Y looks file patch job WriteFault defined = tt
every_empty Y looks file patch job (OverLimit live asked limit) defined = tt
every_empty Y looks file patch job NoMemory defined = tt

pub every_past : (X : Type 0) → PastFirstLaw → PastSecondLaw → EveryLooksOver → (s s' : Tally) (limit live : ℕ) (job : PatchJob) (held given : Option (List ℕ)) (stop : Stop) → live ≡ 2880 → StoppedTaking s s' limit stop →
    IfSome held (λ f. IsDefined {X = Survey} (surveyed Every f) (Err stop)) → IfSome held (λ f. TellsFirstPast {X = Survey} limit (survey_takings Every live f) (Err stop)) →
    IfBoth held given (λ f p. TellsFirstPast {X = X} limit (later_takings f p job) (Err stop))
every_past X first second looks s s' limit live job None given stop one why defined tells = tt
every_past X first second looks s s' limit live job (Some f) None stop one why defined tells = tt
every_past X first second looks s s' limit live job (Some f) (Some p) stop one why defined tells =
    past_front Survey X first second s s' limit (first_look f) (second_takings f p job (headers_of 65536 f)) stop why (every_empty X looks f p job stop defined)
    (subst (λ (ts : List (ℕ × ℕ)). TellsFirstPast {X = Survey} limit ts (Err stop)) (every_takings looks live f one) tells)

pub every_high : EveryLooksOver → (live old new : ℕ) (job : PatchJob) (held given : Option (List ℕ)) → live ≡ 2880 → IfSome held (λ f. new ≤ max old (highest (survey_takings Every live f))) →
    IfBoth held given (λ f p. new ≤ max old (highest (later_takings f p job)))
every_high looks live old new job None given one low = tt
every_high looks live old new job (Some f) None one low = tt
every_high looks live old new job (Some f) (Some p) one low =
    let front : highest (first_look f) ≤ highest (later_takings f p job) = high_front (first_look f) (second_takings f p job (headers_of 65536 f)) in
    let same : highest (survey_takings Every live f) ≡ highest (first_look f) = ap highest (every_takings looks live f one) in
    omega (arith, low, front, same)

-- ---- the second look

-- what the first look says of the file
pub record HasLooked (live limit : ℕ) (file : List ℕ) : Type 0 where
  pub headers : List Header
  pub are : headers_of 65536 file ≡ Ok headers
  pub none : first_past limit (first_look file) ≡ None

pub looked : EveryLooksOver → (live limit : ℕ) (held : Option (List ℕ)) (s : Survey) → live ≡ 2880 → IfSome held (λ f. surveyed Every f ≡ Ok s) → IfSome held (λ f. first_past limit (survey_takings Every live f) ≡ None) →
    IfSome held (HasLooked live limit)
looked looks live limit None s one exact none = tt
looked looks live limit (Some f) s one exact none = record {
  headers = (headers_ok looks f s exact).0;
  are = (headers_ok looks f s exact).1;
  none = ap (first_past limit) (sym (every_takings looks live f one)) ∙ none;
}

-- all takings after the first look
later_is : (file patch : List ℕ) (job : PatchJob) (hs : List Header) → headers_of 65536 file ≡ Ok hs →
    later_takings file patch job ≡ first_look file ++ (second_look job.wanted file ++ target_takings file patch job (wanted_image job.wanted file))
later_is file patch job hs are = ap (λ r. first_look file ++ second_takings file patch job r) are

behind_look : {X : Type 0} → PastSecondLaw → (live limit : ℕ) (file patch : List ℕ) (job : PatchJob) (r : Result X Stop) → HasLooked live limit file →
    TellsFirstPast limit (second_look job.wanted file ++ target_takings file patch job (wanted_image job.wanted file)) r → TellsFirstPast limit (later_takings file patch job) r
behind_look second live limit file patch job r k tells =
    let later : List (ℕ × ℕ) = second_look job.wanted file ++ target_takings file patch job (wanted_image job.wanted file) in
    tells_same limit later (later_takings file patch job) r (ap (first_past limit) (later_is file patch job k.headers k.are) ∙ second limit (first_look file) later k.none) tells

-- what both looks say of the file
pub record HasFound (live limit : ℕ) (wanted : Option ℕ) (h : Header) (file : List ℕ) : Type 0 where
  pub first : HasLooked live limit file
  pub second : first_past limit (second_look wanted file) ≡ None
  pub image : wanted_image wanted file ≡ Ok h
  pub at : hdu_at h.hdu h.start file ≡ Ok h

module _ (walks : WalkFinds) (last : WalkStops) (looks : AmendLooksOver) where
  amend_told_by : (file patch : List ℕ) (job : PatchJob) (hs : List Header) (x : Fault) → headers_of 65536 file ≡ Ok hs → amend_surveyed job.wanted file ≡ Err x → patch_target file patch job ≡ Err x
  amend_told_by file patch job hs x are e = target_unfound file patch job hs x are (sym (survey_finds walks last job.wanted file looks) ∙ e)

  pub amend_told : (X : Type 0) (live limit : ℕ) (job : PatchJob) (held given : Option (List ℕ)) (stop : Stop) → IfSome held (HasLooked live limit) → IfSome held (λ f. IsDefined {X = Header} (amend_surveyed job.wanted f) (Err stop)) → TellsPatchFault {X = X} job held given (Err stop)
  amend_told X live limit job None given (Refused x) k defined = tt
  amend_told X live limit job (Some f) None (Refused x) k defined = tt
  amend_told X live limit job (Some f) (Some p) (Refused x) k defined = fault_of f p job x (amend_told_by f p job k.headers x k.are defined)
  amend_told X live limit job held given ReadFault k defined = tt
  amend_told X live limit job held given WriteFault k defined = tt
  amend_told X live limit job held given (OverLimit at asked told) k defined = tt
  amend_told X live limit job held given NoMemory k defined = tt

  amend_empty : (Y : Type 0) (file patch : List ℕ) (job : PatchJob) (stop : Stop) → IsDefined {X = Header} (amend_surveyed job.wanted file) (Err stop) → IfRefused {X = Y} (Err stop) (λ x. target_takings file patch job (wanted_image job.wanted file) ≡ [])
  amend_empty Y file patch job (Refused x) defined = ap (target_takings file patch job) (sym (survey_finds walks last job.wanted file looks) ∙ defined)
  amend_empty Y file patch job ReadFault defined = tt
  amend_empty Y file patch job WriteFault defined = tt
  amend_empty Y file patch job (OverLimit live asked limit) defined = tt
  amend_empty Y file patch job NoMemory defined = tt

  pub amend_past : (X : Type 0) → PastFirstLaw → PastSecondLaw → (s s' : Tally) (limit live : ℕ) (job : PatchJob) (held given : Option (List ℕ)) (stop : Stop) → live ≡ 2880 → StoppedTaking s s' limit stop → IfSome held (HasLooked live limit) →
      IfSome held (λ f. IsDefined {X = Header} (amend_surveyed job.wanted f) (Err stop)) → IfSome held (λ f. TellsFirstPast {X = Header} limit (survey_takings (AmendLook job.wanted) live f) (Err stop)) →
      IfBoth held given (λ f p. TellsFirstPast {X = X} limit (later_takings f p job) (Err stop))
  amend_past X first second s s' limit live job None given stop one why k defined tells = tt
  amend_past X first second s s' limit live job (Some f) None stop one why k defined tells = tt
  amend_past X first second s s' limit live job (Some f) (Some p) stop one why k defined tells =
      behind_look {X = X} second live limit f p job (Err stop) k
      (past_front Header X first second s s' limit (second_look job.wanted f) (target_takings f p job (wanted_image job.wanted f)) stop why (amend_empty X f p job stop defined)
      (subst (λ (ts : List (ℕ × ℕ)). TellsFirstPast {X = Header} limit ts (Err stop)) (amend_takings looks job.wanted live f one) tells))

  pub amend_high : EveryLooksOver → (live limit old mid new : ℕ) (job : PatchJob) (held given : Option (List ℕ)) → live ≡ 2880 → IfSome held (HasLooked live limit) → IfSome held (λ f. mid ≤ max old (highest (survey_takings Every live f))) →
      IfSome held (λ f. new ≤ max mid (highest (survey_takings (AmendLook job.wanted) live f))) → IfBoth held given (λ f p. new ≤ max old (highest (later_takings f p job)))
  amend_high every live limit old mid new job None given one k low high = tt
  amend_high every live limit old mid new job (Some f) None one k low high = tt
  amend_high every live limit old mid new job (Some f) (Some p) one k low high =
      let third : List (ℕ × ℕ) = target_takings f p job (wanted_image job.wanted f) in
      let all : highest (later_takings f p job) ≡ highest (first_look f ++ (second_look job.wanted f ++ third)) = ap highest (later_is f p job k.headers k.are) in
      let a : highest (survey_takings Every live f) ≡ highest (first_look f) = ap highest (every_takings every live f one) in
      let b : highest (survey_takings (AmendLook job.wanted) live f) ≡ highest (second_look job.wanted f) = ap highest (amend_takings looks job.wanted live f one) in
      omega (arith, low, high, all, a, b, high_front (first_look f) (second_look job.wanted f ++ third), high_back (first_look f) (second_look job.wanted f ++ third), high_front (second_look job.wanted f) third)

  -- ---- the header that is kept

  pub found : (live limit : ℕ) (wanted : Option ℕ) (h : Header) (held : Option (List ℕ)) → live ≡ 2880 → IfSome held (HasLooked live limit) → IfSome held (λ f. amend_surveyed wanted f ≡ Ok h) →
      IfSome held (λ f. first_past limit (survey_takings (AmendLook wanted) live f) ≡ None) → IfSome held (HasFound live limit wanted h)
  found live limit wanted h None one k exact none = tt
  found live limit wanted h (Some f) one k exact none =
      let image : wanted_image wanted f ≡ Ok h = sym (survey_finds walks last wanted f looks) ∙ exact in
      record {
        first = k;
        second = ap (first_past limit) (sym (amend_takings looks wanted live f one)) ∙ none;
        image = image;
        at = (wanted_hdu walks last wanted f h image).found;
      }

-- ---- the header that is read once more

-- a header that is found at a place has the blocks that are found there
abbrev pub BlocksFound : Type 0
BlocksFound = (k start : ℕ) (file : List ℕ) (h : Header) → hdu_at k start file ≡ Ok h → header_blocks_of k start file ≡ Ok h.blocks

-- it is not refused, and is what it was
abbrev pub SaysSame : Header → Result ReadHeader Stop → List ℕ → Type 0
SaysSame h r file = hdu_at h.hdu h.start file ≡ Ok h → (¬ IsRefused r) × IfOk r (λ q. q.facts ≡ h)

pub wanted_of : (live limit : ℕ) (wanted : Option ℕ) (h : Header) (held : Option (List ℕ)) (q : ReadHeader) → IfSome held (HasFound live limit wanted h) → IfSome held (SaysSame h (Ok q)) → IfSome held (IsWanted wanted q.facts)
wanted_of live limit wanted h None q k same = tt
wanted_of live limit wanted h (Some f) q k same = record {
  headers = k.first.headers;
  passes = k.first.are;
  found = k.image ∙ ap Ok (sym (same k.at).1);
}

-- its bytes are in the file
pub read_is : (held : Option (List ℕ)) (len : ℕ) (h : Header) (q : ReadHeader) → IsReadAgain held len h q → IfSome held (λ f. header_in f q.facts ≡ q.bytes)
read_is None len h q again = tt
read_is (Some f) len h q again =
    let long : 2880 * q.facts.blocks ≡ length q.bytes = sym (header_long q.bytes q.facts again.is_header) in
    (λ j. take (long j) (drop (again.start j) f)) ∙ sym again.bytes

-- nothing was written, or no taking passes the limit: so nothing was written if one does
unless_passed : (P Q : Type 0) (limit : ℕ) (ts us : List (ℕ × ℕ)) → (P → Q) → (first_past limit ts ≡ None → first_past limit us ≡ None) →
    IsUnpassed P limit ts → IsSome (first_past limit us) → Q
unless_passed P Q limit ts us weak none (inl is) some = weak is
unless_passed P Q limit ts us weak none (inr passed) some = let never : IsSome {T = ℕ × ℕ} None = subst IsSome (none passed) some in absurd cc

module _ (blocks : BlocksFound) (second : PastSecondLaw) (live limit : ℕ) (one : live ≡ 2880) (job : PatchJob) (h : Header) where
  kept_takings : (file patch : List ℕ) → HasFound live limit job.wanted h file →
      target_takings file patch job (wanted_image job.wanted file) ≡ header_taking live (header_blocks_of h.hdu h.start file) ++ given_takings file patch job h (first_refusal (own_checks file h job))
  kept_takings file patch k =
      ap (target_takings file patch job) k.image
      ∙ (λ j. header_taking (sym one j) (sym (blocks h.hdu h.start file h k.at) j) ++ given_takings file patch job h (first_refusal (own_checks file h job)))

  -- what comes after both looks
  behind_both : {X : Type 0} (file patch : List ℕ) (r : Result X Stop) → HasFound live limit job.wanted h file →
      TellsFirstPast limit (header_taking live (header_blocks_of h.hdu h.start file) ++ given_takings file patch job h (first_refusal (own_checks file h job))) r → TellsFirstPast limit (later_takings file patch job) r
  behind_both {X} file patch r k tells =
      let third : List (ℕ × ℕ) = target_takings file patch job (wanted_image job.wanted file) in
      let kept : TellsFirstPast limit third r = subst (λ (ts : List (ℕ × ℕ)). TellsFirstPast limit ts r) (sym (kept_takings file patch k)) tells in
      behind_look {X = X} second live limit file patch job r k.first (tells_same limit third (second_look job.wanted file ++ third) r (second limit (second_look job.wanted file) third k.second) kept)

  unrefused_empty : (Y : Type 0) (ts : List (ℕ × ℕ)) (stop : Stop) → (IsRefused {X = ReadHeader} (Err stop) → ⊥) → IfRefused {X = Y} (Err stop) (λ x. ts ≡ [])
  unrefused_empty Y ts (Refused x) none = absurd (none (x, refl))
  unrefused_empty Y ts ReadFault none = tt
  unrefused_empty Y ts WriteFault none = tt
  unrefused_empty Y ts (OverLimit at asked told) none = tt
  unrefused_empty Y ts NoMemory none = tt

  pub again_past : (X : Type 0) → PastFirstLaw → (s s' : Tally) (held given : Option (List ℕ)) (stop : Stop) → StoppedTaking s s' limit stop → IfSome held (HasFound live limit job.wanted h) → IfSome held (SaysSame h (Err stop)) →
      IfSome held (λ f. TellsFirstPast {X = ReadHeader} limit (header_taking live (header_blocks_of h.hdu h.start f)) (Err stop)) → IfBoth held given (λ f p. TellsFirstPast {X = X} limit (later_takings f p job) (Err stop))
  again_past X first s s' None given stop why k same tells = tt
  again_past X first s s' (Some f) None stop why k same tells = tt
  again_past X first s s' (Some f) (Some p) stop why k same tells =
      behind_both {X = X} f p (Err stop) k
      (past_front ReadHeader X first second s s' limit (header_taking live (header_blocks_of h.hdu h.start f)) (given_takings f p job h (first_refusal (own_checks f h job))) stop why
      (unrefused_empty X (given_takings f p job h (first_refusal (own_checks f h job))) stop (same k.at).0) tells)

  pub again_told : (X : Type 0) (held given : Option (List ℕ)) (stop : Stop) → IfSome held (HasFound live limit job.wanted h) → IfSome held (SaysSame h (Err stop)) → TellsPatchFault {X = X} job held given (Err stop)
  again_told X None given (Refused x) k same = tt
  again_told X (Some f) given (Refused x) k same = absurd ((same k.at).0 (x, refl))
  again_told X held given ReadFault k same = tt
  again_told X held given WriteFault k same = tt
  again_told X held given (OverLimit at asked told) k same = tt
  again_told X held given NoMemory k same = tt

  pub all_past : {X : Type 0} (held given : Option (List ℕ)) (q : ReadHeader) (r : Result X Stop) → IfSome held (HasFound live limit job.wanted h) → IfSome held (SaysSame h (Ok q)) →
      IfSome held (λ f. first_past limit (header_taking live (header_blocks_of h.hdu h.start f)) ≡ None) → IfBoth held given (λ f p. TellsFirstPast limit (given_takings f p job q.facts (first_refusal (own_checks f q.facts job))) r) →
      IfBoth held given (λ f p. TellsFirstPast limit (later_takings f p job) r)
  all_past None given q r k same none tells = tt
  all_past (Some f) None q r k same none tells = tt
  all_past {X} (Some f) (Some p) q r k same none tells =
      let here : TellsFirstPast limit (given_takings f p job h (first_refusal (own_checks f h job))) r =
      subst (λ (e : Header). TellsFirstPast limit (given_takings f p job e (first_refusal (own_checks f e job))) r) (same k.at).1 tells in
      let front : List (ℕ × ℕ) = header_taking live (header_blocks_of h.hdu h.start f) in
      let back : List (ℕ × ℕ) = given_takings f p job h (first_refusal (own_checks f h job)) in
      behind_both {X = X} f p r k (tells_same limit back (front ++ back) r (second limit front back none) here)

  pub past_later : (P Q : Type 0) (held given : Option (List ℕ)) (q : ReadHeader) → (P → Q) → IfSome held (HasFound live limit job.wanted h) →
      IfSome held (SaysSame h (Ok q)) → IfSome held (λ f. first_past limit (header_taking live (header_blocks_of h.hdu h.start f)) ≡ None) →
      IfBoth held given (λ f p. IsUnpassed P limit (given_takings f p job q.facts (first_refusal (own_checks f q.facts job)))) →
      IfBoth held given (λ f p. IsSome (first_past limit (later_takings f p job)) → Q)
  past_later P Q None given q weak k same none unpassed = tt
  past_later P Q (Some f) None q weak k same none unpassed = tt
  past_later P Q (Some f) (Some p) q weak k same none unpassed = λ some.
      unless_passed P Q limit (given_takings f p job q.facts (first_refusal (own_checks f q.facts job))) (later_takings f p job) weak
      (λ passed. all_past {X = Unit {0}} (Some f) (Some p) q (Ok tt) k same none passed) unpassed some

  high_of : (f p : List ℕ) → HasFound live limit job.wanted h f →
      (highest (first_look f) ≤ highest (later_takings f p job)) × (highest (second_look job.wanted f) ≤ highest (later_takings f p job))
      × (highest (header_taking live (header_blocks_of h.hdu h.start f)) ≤ highest (later_takings f p job))
      × (highest (given_takings f p job h (first_refusal (own_checks f h job))) ≤ highest (later_takings f p job))
  high_of f p k =
      let a : List (ℕ × ℕ) = first_look f in
      let b : List (ℕ × ℕ) = second_look job.wanted f in
      let c : List (ℕ × ℕ) = header_taking live (header_blocks_of h.hdu h.start f) in
      let d : List (ℕ × ℕ) = given_takings f p job h (first_refusal (own_checks f h job)) in
      let third : List (ℕ × ℕ) = target_takings f p job (wanted_image job.wanted f) in
      let all : highest (later_takings f p job) ≡ highest (a ++ (b ++ third)) = ap highest (later_is f p job k.first.headers k.first.are) in
      let kept : highest third ≡ highest (c ++ d) = ap highest (kept_takings f p k) in
      let one = high_front a (b ++ third) in
      let rest = high_back a (b ++ third) in
      let two = high_front b third in
      let more = high_back b third in
      (omega (arith, all, one), omega (arith, all, rest, two), omega (arith, all, rest, more, kept, high_front c d), omega (arith, all, rest, more, kept, high_back c d))

  low_of : (f p : List ℕ) → HasFound live limit job.wanted h f →
      highest (later_takings f p job) ≤ max (max (highest (first_look f)) (highest (second_look job.wanted f)))
      (max (highest (header_taking live (header_blocks_of h.hdu h.start f))) (highest (given_takings f p job h (first_refusal (own_checks f h job)))))
  low_of f p k =
      let a : List (ℕ × ℕ) = first_look f in
      let b : List (ℕ × ℕ) = second_look job.wanted f in
      let c : List (ℕ × ℕ) = header_taking live (header_blocks_of h.hdu h.start f) in
      let d : List (ℕ × ℕ) = given_takings f p job h (first_refusal (own_checks f h job)) in
      let third : List (ℕ × ℕ) = target_takings f p job (wanted_image job.wanted f) in
      let all : highest (later_takings f p job) ≡ highest (a ++ (b ++ third)) = ap highest (later_is f p job k.first.headers k.first.are) in
      let kept : highest third ≡ highest (c ++ d) = ap highest (kept_takings f p k) in
      omega (arith, all, kept, high_both a (b ++ third), high_both b third, high_both c d)

  module _ (every : EveryLooksOver) (amend : AmendLooksOver) (old first next last : ℕ) where
    pub again_high : (held given : Option (List ℕ)) → IfSome held (HasFound live limit job.wanted h) → IfSome held (λ f. first ≤ max old (highest (survey_takings Every live f))) → IfSome held (λ f. next ≤ max first (highest (survey_takings (AmendLook job.wanted) live f))) →
        IfSome held (λ f. last ≤ max next (highest (header_taking live (header_blocks_of h.hdu h.start f)))) → IfBoth held given (λ f p. last ≤ max old (highest (later_takings f p job)))
    again_high None given k one' two three = tt
    again_high (Some f) None k one' two three = tt
    again_high (Some f) (Some p) k one' two three =
        let a : highest (survey_takings Every live f) ≡ highest (first_look f) = ap highest (every_takings every live f one) in
        let b : highest (survey_takings (AmendLook job.wanted) live f) ≡ highest (second_look job.wanted f) = ap highest (amend_takings amend job.wanted live f one) in
        let high = high_of f p k in
        omega (arith, one', two, three, a, b, high.0, high.1, high.2)

    pub all_high : (new : ℕ) (held given : Option (List ℕ)) (q : ReadHeader) → IfSome held (HasFound live limit job.wanted h) → IfSome held (SaysSame h (Ok q)) → IfSome held (λ f. first ≤ max old (highest (survey_takings Every live f))) →
        IfSome held (λ f. next ≤ max first (highest (survey_takings (AmendLook job.wanted) live f))) → IfSome held (λ f. last ≤ max next (highest (header_taking live (header_blocks_of h.hdu h.start f)))) →
        IfBoth held given (λ f p. new ≤ max last (highest (given_takings f p job q.facts (first_refusal (own_checks f q.facts job))))) → IfBoth held given (λ f p. new ≤ max old (highest (later_takings f p job)))
    all_high new None given q k same one' two three four = tt
    all_high new (Some f) None q k same one' two three four = tt
    all_high new (Some f) (Some p) q k same one' two three four =
        let a : highest (survey_takings Every live f) ≡ highest (first_look f) = ap highest (every_takings every live f one) in
        let b : highest (survey_takings (AmendLook job.wanted) live f) ≡ highest (second_look job.wanted f) = ap highest (amend_takings amend job.wanted live f one) in
        let here : highest (given_takings f p job q.facts (first_refusal (own_checks f q.facts job))) ≡ highest (given_takings f p job h (first_refusal (own_checks f h job))) =
        ap (λ (e : Header). highest (given_takings f p job e (first_refusal (own_checks f e job)))) (same k.at).1 in
        let high = high_of f p k in
        omega (arith, one', two, three, four, a, b, here, high.0, high.1, high.2, high.3)

    -- the peak is the greatest of all, if each part reached its own
    pub all_reached : (new : ℕ) (held given : Option (List ℕ)) (q : ReadHeader) → IfSome held (HasFound live limit job.wanted h) → IfSome held (SaysSame h (Ok q)) → IsHeaderOf q.bytes q.facts →
        IfSome held (λ f. first ≡ max old (highest (survey_takings Every live f))) → IfSome held (λ f. next ≡ max first (highest (survey_takings (AmendLook job.wanted) live f))) → last ≡ max next (live + length q.bytes) →
        IfBoth held given (λ f p. new ≡ max last (highest (given_takings f p job q.facts (first_refusal (own_checks f q.facts job))))) → IfBoth held given (λ f p. new ≡ max old (highest (later_takings f p job)))
    all_reached new None given q k same is one' two three four = tt
    all_reached new (Some f) None q k same is one' two three four = tt
    all_reached new (Some f) (Some p) q k same is one' two three four =
        let a : highest (survey_takings Every live f) ≡ highest (first_look f) = ap highest (every_takings every live f one) in
        let b : highest (survey_takings (AmendLook job.wanted) live f) ≡ highest (second_look job.wanted f) = ap highest (amend_takings amend job.wanted live f one) in
        let here : highest (given_takings f p job q.facts (first_refusal (own_checks f q.facts job))) ≡ highest (given_takings f p job h (first_refusal (own_checks f h job))) =
        ap (λ (e : Header). highest (given_takings f p job e (first_refusal (own_checks f e job)))) (same k.at).1 in
        let long : length q.bytes ≡ 2880 * q.facts.blocks = header_long q.bytes q.facts is in
        let read : q.facts.blocks ≡ h.blocks = ap (λ (e : Header). e.blocks) (same k.at).1 in
        let took : highest (header_taking live (header_blocks_of h.hdu h.start f)) ≡ max (live + 2880 * h.blocks) 0 = ap (λ r. highest (header_taking live r)) (blocks h.hdu h.start f h k.at) in
        let high = high_of f p k in
        omega (arith, one', two, three, four, a, b, here, long, read, took, low_of f p k, high.0, high.1, high.2, high.3)

-- ---- the rest

-- what is said of the job that is wanted
pub of_wanted : (held given : Option (List ℕ)) (h : Header) (wanted : Option ℕ) (corner : List ℕ) (P : PatchJob → List ℕ → List ℕ → Type 0) → IfSome held (IsWanted wanted h) →
    IfBoth held given (λ f p. (any : Option ℕ) → IsWanted any h f → P (job_at any corner) f p) → IfBoth held given (P (job_at wanted corner))
of_wanted None given h wanted corner P is all = tt
of_wanted (Some f) None h wanted corner P is all = tt
of_wanted (Some f) (Some p) h wanted corner P is all = all wanted is

pub both_weaker : (held given : Option (List ℕ)) (P Q : List ℕ → List ℕ → Type 0) → ((f p : List ℕ) → P f p → Q f p) → IfBoth held given P → IfBoth held given Q
both_weaker None given P Q f all = tt
both_weaker (Some g) None P Q f all = tt
both_weaker (Some g) (Some p) P Q f all = f g p all

-- what the rest says of each job: nothing was written, or no taking of its passes the limit
abbrev pub LeavesUnpassed : Type 0 → ℕ → ℕ → ℕ → List ℕ → Header → List ℕ → List ℕ → Type 0
LeavesUnpassed P limit live long corner h f p =
    (any : Option ℕ) → IsWanted any h f → live ≡ long →
    IsUnpassed P limit (given_takings f p (job_at any corner) h (first_refusal (own_checks f h (job_at any corner))))

-- the same of the job that is wanted
pub unpassed_here : (P : Type 0) (held held' given : Option (List ℕ)) (limit limit' live long : ℕ) (h : Header) (wanted : Option ℕ) (corner : List ℕ) →
    held' ≡ held → limit' ≡ limit → live ≡ long → IfSome held (IsWanted wanted h) → IfBoth held' given (LeavesUnpassed P limit' live long corner h) →
    IfBoth held given (λ f p. IsUnpassed P limit (given_takings f p (job_at wanted corner) h (first_refusal (own_checks f h (job_at wanted corner)))))
unpassed_here P held held' given limit limit' live long h wanted corner same told room is all =
    both_weaker held given _ _ (λ f p unpassed. unpassed room)
    (of_wanted held given h wanted corner (λ job f p. live ≡ long → IsUnpassed P limit (given_takings f p job h (first_refusal (own_checks f h job)))) is
    (subst (λ (g : Option (List ℕ)). IfBoth g given (LeavesUnpassed P limit live long corner h)) same
    (subst (λ (n : ℕ). IfBoth held' given (LeavesUnpassed P n live long corner h)) told all)))

pub ok_weaker : {X P Q : Type 0} (r : Result X Stop) → (P → Q) → OnOk r P → OnOk r Q
ok_weaker (Ok x) f p = f p
ok_weaker (Err stop) f p = tt

pub over_weaker : {X P Q : Type 0} (r : Result X Stop) → (P → Q) → IfOverLimit r P → IfOverLimit r Q
over_weaker (Ok x) f p = tt
over_weaker (Err (Refused x)) f p = tt
over_weaker (Err ReadFault) f p = tt
over_weaker (Err WriteFault) f p = tt
over_weaker (Err (OverLimit live asked limit)) f p = f p
over_weaker (Err NoMemory) f p = tt

-- a fault that comes in the work is that of a row, or of an HDU that changed
pub in_work : (hdu : ℕ) (x : Fault) → ComesInWork hdu x → IsChanged x ⊎ IsOfSomeRow x
in_work hdu x (inl (tile, row)) = inr (tile, row.1)
in_work hdu x (inr is) = inl (is ∙ ap (λ n. refusal n (Card 0) BadCard) (sym (ap (λ (y : Fault). y.hdu) is)))

-- both files were not told
pub told_both : {X : Type 0} (job : PatchJob) (held given : Option (List ℕ)) (r : Result X Stop) → IfBoth held given (λ f p. TellsPatchFault job (Some f) (Some p) r) → TellsPatchFault job held given r
told_both job None given (Ok x) tells = tt
told_both job None given (Err (Refused x)) tells = tt
told_both job (Some f) None (Ok x) tells = tt
told_both job (Some f) None (Err (Refused x)) tells = tt
told_both job (Some f) (Some p) (Ok x) tells = tells
told_both job (Some f) (Some p) (Err (Refused x)) tells = tells
told_both job held given (Err ReadFault) tells = tt
told_both job held given (Err WriteFault) tells = tt
told_both job held given (Err (OverLimit live asked limit)) tells = tt
told_both job held given (Err NoMemory) tells = tt

pub either_way : {A B C D : Type 0} → (A → B) → (C → D) → A ⊎ C → B ⊎ D
either_way f g (inl a) = inl (f a)
either_way f g (inr c) = inr (g c)

-- ---- what a refusal names

pub names_same : {X Same : Type 0} (wanted : Option ℕ) (held : Option (List ℕ)) (r : Result X Stop) → Same → IfSome held (λ f. NamesWanted wanted Same f r)
names_same wanted None r same = tt
names_same wanted (Some f) r same = if_refused r (λ x. inl same)

pub names_wanted : {X Same Before : Type 0} (wanted : Option ℕ) (held : Option (List ℕ)) (h : Header) (r : Result X Stop) → IfSome held (IsWanted wanted h) → (Before → Same) →
    IfRefused r (λ x. Before ⊎ ComesInWork h.hdu x) → IfSome held (λ f. NamesWanted wanted Same f r)
names_wanted wanted None h r is weak late = tt
names_wanted wanted (Some f) h r is weak late = refused_weaker r (λ x came. either_way weak (λ work. (h, is, work)) came) late
