-- What the parts of a job say of the counts of their source and sink, and why they stop.
use Rattle.std.specs.Prelude.{◌≡◌, Result, OnOk, IfErr, ⊤}
use Rattle.fz_base.specs.Counts.{Rose, Tally, CountsKept}
use Rattle.fz_base.specs.declared.failure.Stop.{Stop}
use Rattle.fz_base.specs.declared.failure.Stop.TheVariants.{Refused, ReadFault, WriteFault, OverLimit, NoMemory}

-- Why a call stopped that reads headers once more, packs, copies and writes: Refused comes only if no count rose.
abbrev pub StoppedRewriting : Tally → Tally → Tally → Tally → Stop → Type 0
StoppedRewriting source source' sink sink' (Refused x) = (source' ≡ source) × (sink' ≡ sink)
StoppedRewriting source source' sink sink' ReadFault = Rose source.faults source'.faults
StoppedRewriting source source' sink sink' WriteFault = Rose sink.faults sink'.faults
StoppedRewriting source source' sink sink' (OverLimit live asked limit) = ⊥
StoppedRewriting source source' sink sink' NoMemory = ⊤

-- such a call changed the counts of its source and its sink as its answer says
pub record Rewrites {X : Type 0} (source source' sink sink' : Tally) (result : Result X Stop) : Type 0 where
  pub source_kept : CountsKept source source'
  pub sink_kept : CountsKept sink sink'
  pub ok : OnOk result ((source' ≡ source) × (sink' ≡ sink))
  pub stop : IfErr result (StoppedRewriting source source' sink sink')
