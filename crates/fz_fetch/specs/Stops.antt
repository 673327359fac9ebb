-- Why the fetching of tiles stopped.
use Rattle.std.specs.Prelude.{◌≡◌, Result, OnOk, IfErr, ⊤}
use Rattle.fz_base.specs.Counts.{Rose, Tally, CountsKept}
use Rattle.fz_base.specs.declared.failure.Stop.{Stop}
use Rattle.fz_base.specs.declared.failure.Stop.TheVariants.{Refused, ReadFault, WriteFault, OverLimit, NoMemory}

-- Why a call that reads and decodes tiles stopped: Refused comes only if no count rose, and there may be no memory to decode tiles.
abbrev pub StoppedFetching : Tally → Tally → Stop → Type 0
StoppedFetching before now (Refused x) = now ≡ before
StoppedFetching before now ReadFault = Rose before.faults now.faults
StoppedFetching before now WriteFault = ⊥
StoppedFetching before now (OverLimit live asked limit) = ⊥
StoppedFetching before now NoMemory = ⊤

-- such a call changed the counts of its source as its answer says
pub record Fetches {X : Type 0} (before now : Tally) (result : Result X Stop) : Type 0 where
  pub kept : CountsKept before now
  pub ok : OnOk result (now ≡ before)
  pub stop : IfErr result (StoppedFetching before now)
