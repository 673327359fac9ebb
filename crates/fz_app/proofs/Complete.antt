-- Where no count of faults rose and the limit is at least the bound, the first fault decides.
use Rattle.std.proofs.Common.{◌≡◌, ℕ, List, refl, subst, inl, inr}
use Rattle.std.specs.Prelude.{◌≢◌, Option, Some, None}
use Rattle.fz_base.specs.declared.fault.Fault.{Fault}
use Rattle.fz_files.specs.Decided.{first_fault}
use Rattle.fz_laws.specs.RoundTrip.{HasNoOtherFault}
use Rattle.fz_job.specs.Clauses.{IsAnswer, TellsFirstFault}
use Rattle.fz_words.specs.Jobs.{Asked}
use Rattle.fz_app.specs.Answer.{IfAnswer, IsEnd}
use Rattle.fz_app.specs.Promises.{IsAnswerTo}
use Rattle.fz_app.specs.declared.status.Status.{Status}
use Rattle.fz_app.specs.declared.status.Status.TheVariants.{Done, Different, Usage, Refused, ReadFault, WriteFault, OverLimit, NoMemory}

-- the answer to a fault that is the first is that to the first fault that the bytes say, since there is one
same_answer : (asked : Asked) (file : List ℕ) (found other : Option Fault) (status : Status) → found ≡ other → IsAnswerTo asked file found status → IsAnswerTo asked file other status
same_answer asked file found other status e = subst (λ (x : Option Fault). IsAnswerTo asked file x status) e

-- want of memory answers every file
answers_any : (asked : Asked) (file : List ℕ) (fault : Option Fault) → IsAnswerTo asked file fault NoMemory
answers_any asked file None = inr refl
answers_any asked file (Some x) = inr refl

module _ (only : HasNoOtherFault) (asked : Asked) (file : List ℕ) where
  pub decides : (status : Status) → IfAnswer status (λ r. IsAnswer r × TellsFirstFault asked.job (Some file) r) → status ≢ Usage → IsEnd asked (Some file) status → IsAnswerTo asked file (first_fault asked.job file) status
  decides Done p u d = same_answer asked file None (first_fault asked.job file) Done (only asked.job file None p.1) (inl d.done)
  decides Different p u d = same_answer asked file None (first_fault asked.job file) Different (only asked.job file None p.1) (inl d.done)
  decides Usage p u d = absurd (u refl)
  decides (Refused x) p u d = same_answer asked file (Some x) (first_fault asked.job file) (Refused x) (only asked.job file (Some x) p.1) (inl refl)
  decides ReadFault p u d = absurd p.0
  decides WriteFault p u d = absurd p.0
  decides (OverLimit live asked limit) p u d = absurd p.0
  decides NoMemory p u d = answers_any asked file (first_fault asked.job file)
