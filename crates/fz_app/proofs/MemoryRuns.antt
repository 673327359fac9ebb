-- What a run says of the bytes, and of why it stopped.
use Rattle.std.proofs.Common.{◌≡◌, ◌≢◌, ◌⊎◌, inl, inr, ℕ, zero, suc, ◌+◌, ◌<◌, ◌≤◌, ◌^◌, List, [], ◌∷◌, codes, length, arith, refl, subst, sym, ◌∙◌, ap}
use Rattle.std.specs.Prelude.{◌&&◌, Bool, true, false, Option, Some, None, min, IfOk, IfErr, IfSome, IsErrOf, OnOk, Result, Ok, Err, ⊤, slice_index_or}
use Rattle.fz_base.specs.Counts.{Rose, Tally, uncounted}
use Rattle.fz_base.specs.Takings.{first_past}
use Rattle.fz_base.specs.declared.fault.Fault.{Fault}
use Rattle.fz_base.specs.declared.failure.Stop.TheVariants.{ReadFault as StopRead, WriteFault as StopWrite, OverLimit as StopLimit}
use Rattle.fz_files.specs.Buffers.{IsOfFile, job_takings}
use Rattle.fz_files.specs.FirstFault.{IsFirstFault}
use Rattle.fz_files.specs.Packed.{IsPackedFile}
use Rattle.fz_files.specs.StandsFor.{IsProfileFile, StandsFor}
use Rattle.fz_files.specs.declared.job.Job.{Job}
use Rattle.fz_files.specs.declared.job.Job.TheVariants.{Pack, Unpack, Cut, Verify, List as ListHdus, Drill, Retile}
use Rattle.fz_tile.specs.Plain.{AreBytes}
use Rattle.fz_words.specs.Jobs.{Asked, job_of}
use Rattle.fz_app.specs.Answer.{IfAnswer, IsEnd}
use Rattle.fz_app.specs.Asked.{IfAsked, given, is_compared_by, limit_of, most_bound, takings_told, takings_with}
use Rattle.fz_app.specs.Causes.{IsDifferent, IsUsage, OverLimitHasCause, ReadFaultHasCause, WriteFaultHasCause}
use Rattle.fz_app.specs.Ends.{written_counts}
use Rattle.fz_app.specs.Outputs.{HoldsJobOutput, IsFinished, IsOutput}
use Rattle.fz_app.specs.Promises.{HasFirstFault, HasOutput}
use Rattle.fz_app.specs.declared.status.Status.{Status}
use Rattle.fz_app.specs.declared.status.Status.TheVariants.{Done, Different, Usage, Refused, ReadFault, WriteFault, OverLimit, NoMemory}
use Rattle.fz_app.specs.Memory.{AsksFor, IsCause, IsCauseOfBoth, IsPast, IsWhole, Makes, default_options, without_faults, words_for}

-- ---- answers

pub if_ok : {A E : Type 0} → {P Q : A → Type 0} → ((x : A) → P x → Q x) → (r : Result A E) → IfOk r P → IfOk r Q
if_ok f (Ok x) p = f x p
if_ok f (Err e) p = tt

pub if_err : {A E : Type 0} → {P Q : E → Type 0} → ((e : E) → P e → Q e) → (r : Result A E) → IfErr r P → IfErr r Q
if_err f (Ok x) p = tt
if_err f (Err e) p = f e p

-- ---- a run

-- a job on a whole file is given the file
given_whole : (job : Job) (file : List ℕ) → IsWhole job → given job (Some file) ≡ Some file
given_whole (Pack options) file whole = refl
given_whole Unpack file whole = refl
given_whole (Cut wanted sieve) file whole = absurd whole
given_whole Verify file whole = absurd whole
given_whole ListHdus file whole = absurd whole
given_whole (Drill rows) file whole = absurd whole
given_whole (Retile o) file whole = absurd whole

-- and compares nothing, since that is not asked
not_compared : (job : Job) → is_compared_by job false ≡ false
not_compared (Pack options) = refl
not_compared Unpack = refl
not_compared (Cut wanted sieve) = refl
not_compared Verify = refl
not_compared ListHdus = refl
not_compared (Drill rows) = refl
not_compared (Retile o) = refl

-- nothing rises from none to none
none_rose : Rose 0 0 → ⊥
none_rose rose = omega (arith, rose)

-- the sink has no fault
none_written : (job : Job) (s s' t t' : Tally) → IsWhole job → Rose (written_counts job (without_faults s) t).faults (written_counts job (without_faults s') t').faults → ⊥
none_written (Pack options) s s' t t' whole rose = none_rose rose
none_written Unpack s s' t t' whole rose = none_rose rose
none_written (Cut wanted sieve) s s' t t' whole rose = whole
none_written Verify s s' t t' whole rose = whole
none_written ListHdus s s' t t' whole rose = whole
none_written (Drill rows) s s' t t' whole rose = whole
none_written (Retile o) s s' t t' whole rose = whole

-- what the words ask for, by the job
abbrev asked_for : Job → Asked
asked_for job = record { job = job; workers = 1; strict = false; memory = 2 ^ 32; input = codes "IN"; output = codes "OUT" }

-- something is not nothing
is_some : Option Asked → Type 0
is_some None = ⊥
is_some (Some x) = ⊤

some_is_none : {x : Asked} → Some x ≡ None → ⊥
unfolding is_some
some_is_none e = subst is_some e tt

module _ (words : List (List ℕ)) (job : Job) (file : List ℕ) (asks : AsksFor words job) where
  asked : (P : Asked → Type 0) → IfAsked words P → P (asked_for job)
  asked P = subst (λ x. IfSome x P) asks.asked

  file_given : (P : List ℕ → Type 0) → IfSome (given job (Some file)) P → P file
  file_given P = subst (λ x. IfSome x P) (given_whole job file asks.whole)

  -- a job that was done made its output
  pub makes_of : (bytes : List ℕ) (finished : Bool) → HasOutput words (Some file) (Some bytes) finished Done → HasFirstFault words (Some file) Done → Makes job file bytes
  makes_of bytes finished output fault = record {
    sound = file_given (λ f. IsFirstFault job f None) (asked (λ a. IfSome (given a.job (Some file)) (λ f. IsFirstFault a.job f None)) fault);
    output = (asked (λ a. HoldsJobOutput a.job (Some file) (Some bytes) × IsFinished a.job finished) output).0;
  }

  -- an error has a cause
  pub cause_of : (s s' t t' : Tally) (r r' : Option (List (ℕ × ℕ))) (limit : ℕ) → min limit (2 ^ 32) ≡ 2 ^ 32 → (status : Status) → status ≢ Done →
      IsUsage words status → IsDifferent words (Some file) status → HasFirstFault words (Some file) status →
      ReadFaultHasCause words uncounted uncounted status → WriteFaultHasCause words (without_faults s) (without_faults s') t t' status →
      OverLimitHasCause words (Some file) limit r r' status → IsCause job file status
  cause_of s s' t t' r r' limit least Done other usage different fault read write over = other refl
  cause_of s s' t t' r r' limit least Different other usage different fault read write over =
      subst IsWhole ((asked (λ a. IsEnd a (given a.job (Some file)) Different) different).of_verify refl) asks.whole
  cause_of s s' t t' r r' limit least Usage other usage different fault read write over = some_is_none (sym asks.asked ∙ usage.0 refl)
  cause_of s s' t t' r r' limit least (Refused x) other usage different fault read write over =
      file_given (λ f. IsFirstFault job f (Some x)) (asked (λ a. IfSome (given a.job (Some file)) (λ f. IsFirstFault a.job f (Some x))) fault)
  cause_of s s' t t' r r' limit least ReadFault other usage different fault read write over =
      none_rose ((asked (λ a. IfAnswer ReadFault (λ answer. IsErrOf answer StopRead → IsOfFile a.job × Rose 0 0)) read refl).1)
  cause_of s s' t t' r r' limit least WriteFault other usage different fault read write over =
      none_written job s s' t t' asks.whole
      (asked (λ a. IfAnswer WriteFault (λ answer. IsErrOf answer StopWrite → Rose (written_counts a.job (without_faults s) t).faults (written_counts a.job (without_faults s') t').faults)) write refl)
  cause_of s s' t t' r r' limit least (OverLimit live wanted told) other usage different fault read write over =
      let past : IfSome (given job (Some file)) (λ f. first_past (min limit (2 ^ 32)) (takings_with (is_compared_by job false && true) f (job_takings job f 1)) ≡ Some (live, wanted)) =
      asked (λ a. IfSome (given a.job (Some file)) (λ f. first_past (limit_of a limit) (takings_told a (Err (StopLimit live wanted told)) f) ≡ Some (live, wanted))) over.first_past in
      let all : first_past (min limit (2 ^ 32)) (takings_with (is_compared_by job false && true) file (job_takings job file 1)) ≡ Some (live, wanted) =
      file_given (λ f. first_past (min limit (2 ^ 32)) (takings_with (is_compared_by job false && true) f (job_takings job f 1)) ≡ Some (live, wanted)) past in
      let first : first_past (min limit (2 ^ 32)) (job_takings job file 1) ≡ Some (live, wanted) =
      subst (λ (b : Bool). first_past (min limit (2 ^ 32)) (takings_with (b && true) file (job_takings job file 1)) ≡ Some (live, wanted)) (not_compared job) all in
      let tells : told ≡ min limit (2 ^ 32) =
      (asked (λ a. (told ≡ limit_of a limit) × (limit_of a limit < live + wanted) × (live + wanted ≤ most_bound a.job a.workers)) over.told).0 in
      record {
        first = subst (λ l. first_past l (job_takings job file 1) ≡ Some (live, wanted)) least first;
        of_all = tells ∙ least;
      }
  cause_of s s' t t' r r' limit least NoMemory other usage different fault read write over = tt

-- ---- the same of words and bytes that are said to be these

pub makes_at : (said words : List (List ℕ)) (held contents : Option (List ℕ)) (file bytes : List ℕ) (finished : Bool) → said ≡ words → held ≡ Some file → contents ≡ Some bytes →
    HasOutput said held contents finished Done → HasFirstFault said held Done → (job : Job) → AsksFor words job → Makes job file bytes
makes_at said words held contents file bytes finished w h c output fault job asks =
    makes_of words job file asks bytes finished
    (subst (λ x. HasOutput words (Some file) x finished Done) c (subst (λ x. HasOutput words x contents finished Done) h (subst (λ x. HasOutput x held contents finished Done) w output)))
    (subst (λ x. HasFirstFault words x Done) h (subst (λ x. HasFirstFault x held Done) w fault))

-- what a run says of its end
pub record Ran (words : List (List ℕ)) (held : Option (List ℕ)) (s s' t t' : Tally) (r r' : Option (List (ℕ × ℕ))) (limit : ℕ) (status : Status) : Type 0 where
  pub usage : IsUsage words status
  pub different : IsDifferent words held status
  pub fault : HasFirstFault words held status
  pub read : ReadFaultHasCause words uncounted uncounted status
  pub write : WriteFaultHasCause words (without_faults s) (without_faults s') t t' status
  pub over : OverLimitHasCause words held limit r r' status

pub cause_at : (said words : List (List ℕ)) (held : Option (List ℕ)) (file : List ℕ) (s s' t t' : Tally) (r r' : Option (List (ℕ × ℕ))) (limit : ℕ) (status : Status) → said ≡ words → held ≡ Some file →
    min limit (2 ^ 32) ≡ 2 ^ 32 → status ≢ Done → Ran said held s s' t t' r r' limit status → (job : Job) → AsksFor words job → IsCause job file status
cause_at said words held file s s' t t' r r' limit status w h least other ran job asks =
    let there : Ran words held s s' t t' r r' limit status = subst (λ x. Ran x held s s' t t' r r' limit status) w ran in
    let now : Ran words (Some file) s s' t t' r r' limit status = subst (λ x. Ran words x s s' t t' r r' limit status) h there in
    cause_of words job file asks s s' t t' r r' limit least status other now.usage now.different now.fault now.read now.write now.over

-- ---- the two commands

-- what the words ask for: a job by the options that hold if none is given, with one worker and 4 GiB
pack_words : job_of (words_for (codes "pack")) ≡ Some (asked_for (Pack default_options))
unfolding job_of
pack_words = refl

unpack_words : job_of (words_for (codes "unpack")) ≡ Some (asked_for Unpack)
unfolding job_of
unpack_words = refl

pub pack_asks : AsksFor (words_for (codes "pack")) (Pack default_options)
pack_asks = record { asked = pack_words; whole = tt }

pub unpack_asks : AsksFor (words_for (codes "unpack")) Unpack
unpack_asks = record { asked = unpack_words; whole = tt }

-- a file of bytes that is packed by the options that hold if none is given
pub taken_of : (file bytes : List ℕ) → AreBytes file → Makes (Pack default_options) file bytes → IsProfileFile default_options file
taken_of file bytes each makes = record { bytes = each; options = record { low = omega arith; high = omega arith; tile = tt }; sound = makes.sound }

-- ---- both

-- why packing fails is why both fail
pub both_of_pack : (file : List ℕ) (status : Status) → IsCause (Pack default_options) file status → IsCauseOfBoth file status
both_of_pack file Done cause = cause
both_of_pack file Different cause = cause
both_of_pack file Usage cause = cause
both_of_pack file (Refused x) cause = cause
both_of_pack file ReadFault cause = cause
both_of_pack file WriteFault cause = cause
both_of_pack file (OverLimit live wanted limit) cause = inl cause
both_of_pack file NoMemory cause = tt

-- and why unpacking fails, which does not refuse the packed file
pub both_of_unpack : (file packed : List ℕ) → IsPackedFile default_options file packed → ((x : Fault) → IsFirstFault Unpack packed (Some x) → ⊥) →
    (status : Status) → IsCause Unpack packed status → IsCauseOfBoth file status
both_of_unpack file packed is sound Done cause = cause
both_of_unpack file packed is sound Different cause = cause
both_of_unpack file packed is sound Usage cause = cause
both_of_unpack file packed is sound (Refused x) cause = absurd (sound x cause)
both_of_unpack file packed is sound ReadFault cause = cause
both_of_unpack file packed is sound WriteFault cause = cause
both_of_unpack file packed is sound (OverLimit live wanted limit) cause = inr (packed, is, cause)
both_of_unpack file packed is sound NoMemory cause = tt

-- ---- bytes

-- a number of a list is the same whatever is said to be after its end
pub same_at : (xs : List ℕ) (k d e : ℕ) → k < length xs → slice_index_or xs k d ≡ slice_index_or xs k e
same_at [] k d e within = absurd omega (arith, within)
same_at (x ∷ xs) zero d e within = refl
same_at (x ∷ xs) (suc k) d e within = same_at xs k d e (omega (arith, within))
