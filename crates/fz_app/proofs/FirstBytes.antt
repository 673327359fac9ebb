-- After another status than Done the sink is shut, or it is whole.
use Rattle.std.proofs.Common.{◌≡◌, [], refl, sym, ap, subst, inl, inr}
use Rattle.std.specs.Prelude.{◌≢◌, ◌⊎◌, Option, Some, None, IfSome, Result, Err, IsErrOf, OnErr}
use Rattle.fz_base.specs.FirstByte.{IsShut}
use Rattle.fz_base.specs.declared.failure.Stop.{Stop}
use Rattle.fz_base.specs.declared.failure.Stop.TheVariants.{Refused as StopRefused, ReadFault as StopRead, WriteFault as StopWrite, OverLimit as StopLimit, NoMemory as StopMemory}
use Rattle.fz_files.specs.declared.job.Job.{Job}
use Rattle.fz_words.specs.Jobs.{Asked}
use Rattle.fz_app.specs.Answer.{IfAnswer, IsEnd, IsPromisedTo, status_of_stop}
use Rattle.fz_app.specs.Asked.{given}
use Rattle.fz_app.specs.Ends.{Ends}
use Rattle.fz_app.specs.Outputs.{IsWhole, LeavesSink}
use Rattle.fz_app.specs.Promised.{IsPromised}
use Rattle.fz_app.specs.declared.status.Status.{Status}
use Rattle.fz_app.specs.declared.status.Status.TheVariants as stat
use Rattle.fz_app.proofs.Answered.{of_answer}
use Rattle.fz_app.proofs.PackAnswers.{empty_is_shut}

stop_is : (a b : Stop) → ◌≡◌ {A = Result (Unit {0}) Stop} (Err a) (Err b) → a ≡ b
stop_is a b e = cc

-- what a status tells that is told of the last call of a job
abbrev pub IsLast : Status → Type 0
IsLast status = (status ≡ stat.WriteFault) ⊎ (status ≡ stat.NoMemory)

abbrev pub IsLastStop : Stop → Type 0
IsLastStop stop = IsErrOf {T = Unit {0}} (Err stop) StopWrite ⊎ IsErrOf {T = Unit {0}} (Err stop) StopMemory

last_of : (stop : Stop) → IsLastStop stop → IsLast (status_of_stop stop)
last_of stop (inl e) = inl (ap status_of_stop (stop_is stop StopWrite e))
last_of stop (inr e) = inr (ap status_of_stop (stop_is stop StopMemory e))

kept : (stop : Stop) (Shut Whole : Type 0) → Shut ⊎ (Whole × IsLastStop stop) → Shut ⊎ (Whole × IsLast (status_of_stop stop))
kept stop Shut Whole (inl shut) = inl shut
kept stop Shut Whole (inr whole) = inr (whole.0, last_of stop whole.1)

by_status : (status : Status) (Shut Whole : Type 0) → (status ≡ stat.Different → Shut) → (status ≡ stat.Usage → Shut) → IfAnswer status (λ r. OnErr r (Shut ⊎ (Whole × (IsErrOf r StopWrite ⊎ IsErrOf r StopMemory)))) → status ≢ stat.Done → Shut ⊎ (Whole × IsLast status)
by_status stat.Done Shut Whole different usage p other = absurd (other refl)
by_status stat.Different Shut Whole different usage p other = inl (different refl)
by_status stat.Usage Shut Whole different usage p other = inl (usage refl)
by_status (stat.Refused x) Shut Whole different usage p other = kept (StopRefused x) Shut Whole p
by_status stat.ReadFault Shut Whole different usage p other = kept StopRead Shut Whole p
by_status stat.WriteFault Shut Whole different usage p other = kept StopWrite Shut Whole p
by_status (stat.OverLimit live asked limit) Shut Whole different usage p other = kept (StopLimit live asked limit) Shut Whole p
by_status stat.NoMemory Shut Whole different usage p other = kept StopMemory Shut Whole p

module _ (old new : Ends) (Same : Type 0) (same : Same → new.sink.contents ≡ old.sink.contents) (empty : IfSome old.sink.contents (λ c. c ≡ [])) where
  -- a sink that is as it was is empty
  shut : Same → IsShut new.sink.contents
  shut is = subst IsShut (sym (same is)) (empty_is_shut old.sink.contents empty)

  pub first_byte : (asked : Option Asked) (status : Status) → IsPromisedTo asked status (λ (a : Asked). IsPromised a old new) → IfSome asked (λ a. IsEnd a (given a.job old.held) status) → IfSome asked (λ a. LeavesSink a.job Same) → (status ≡ stat.Usage → Same) →
      status ≢ stat.Done → IsShut new.sink.contents ⊎ (IfSome asked (λ a. IsWhole a.job old.held new.sink.contents) × IsLast status)
  first_byte None status p end left usage other = inl (shut (usage p))
  first_byte (Some a) status p end left usage other =
      by_status status (IsShut new.sink.contents) (IsWhole a.job old.held new.sink.contents)
      (λ e. shut (subst (λ (j : Job). LeavesSink j Same) (end.of_verify e) left)) (λ e. shut (usage e))
      (of_answer status (IsPromised a old new) (λ r. OnErr r (IsShut new.sink.contents ⊎ (IsWhole a.job old.held new.sink.contents × (IsErrOf r StopWrite ⊎ IsErrOf r StopMemory)))) (λ r q. q.first_byte) p.0) other
