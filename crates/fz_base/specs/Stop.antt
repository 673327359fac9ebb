-- Why a call stopped: by a fault of what it reads or writes, by want of memory, or by its meter's limit.
use Rattle.std.specs.Prelude.{ℕ, ◌≡◌, ◌+◌, ◌<◌, ◌≤◌, ◌⊎◌, Result, Ok, Err, OnOk, OnErr, IfErr, ⊤}
use Rattle.fz_base.specs.declared.fault.Fault.{Fault as Refusal}
use Rattle.fz_base.specs.declared.failure.Failed.{Failed}
use Rattle.fz_base.specs.declared.failure.Failed.TheVariants.{Fault as IsFault, NoMemory as IsWant}
use Rattle.fz_base.specs.declared.failure.Short.{Short}
use Rattle.fz_base.specs.declared.failure.Short.TheVariants.{NoMemory as NoRoom, OverLimit as PastLimit}
use Rattle.fz_base.specs.declared.failure.Stop.{Stop}
use Rattle.fz_base.specs.declared.failure.Stop.TheVariants.{Refused, ReadFault, WriteFault, OverLimit, NoMemory}
use Rattle.fz_base.specs.Counts.{Rose, Tally, CountsKept}
use Rattle.fz_base.specs.Store.{StoreKept}

-- a failed read stops the call that read
abbrev pub stop_of_read : Failed → Stop
stop_of_read IsFault = ReadFault
stop_of_read IsWant = NoMemory

-- a failed write stops the call that wrote
abbrev pub stop_of_write : Failed → Stop
stop_of_write IsFault = WriteFault
stop_of_write IsWant = NoMemory

-- a buffer that the meter did not give stops the call that asked for it
abbrev pub stop_of_short : Short → Stop
stop_of_short NoRoom = NoMemory
stop_of_short (PastLimit live asked limit) = OverLimit live asked limit

-- Why a call that only reads a source stopped, by the source's tally. It answers Refused only if no count rose, ReadFault if the
-- count of faults rose, NoMemory if the count of wants rose, and nothing else.
abbrev pub StoppedReading : Tally → Tally → Stop → Type 0
StoppedReading before now (Refused x) = now ≡ before
StoppedReading before now ReadFault = Rose before.faults now.faults
StoppedReading before now WriteFault = ⊥
StoppedReading before now (OverLimit live asked limit) = ⊥
StoppedReading before now NoMemory = Rose before.wants now.wants

-- a call that only reads a source changed its counts as its answer says
pub record ReadsOnly {X : Type 0} (before now : Tally) (result : Result X Stop) : Type 0 where
  pub kept : CountsKept before now
  pub ok : OnOk result (now ≡ before)
  pub stop : IfErr result (StoppedReading before now)

-- Why a call stopped that reads a source and takes buffers of a meter with this limit. What the limit was passed by is said by
-- the takings of the call.
abbrev pub StoppedTaking : Tally → Tally → ℕ → Stop → Type 0
StoppedTaking before now limit (Refused x) = now ≡ before
StoppedTaking before now limit ReadFault = Rose before.faults now.faults
StoppedTaking before now limit WriteFault = ⊥
StoppedTaking before now limit (OverLimit live asked told) = (told ≡ limit) × (limit < live + asked)
StoppedTaking before now limit NoMemory = ⊤

-- a call that reads a source and takes buffers changed the source's counts as its answer says
pub record ReadsAndTakes {X : Type 0} (before now : Tally) (limit : ℕ) (result : Result X Stop) : Type 0 where
  pub kept : CountsKept before now
  pub ok : OnOk result (now ≡ before)
  pub stop : IfErr result (StoppedTaking before now limit)

-- an answer Ok or Refused is what the definition says
abbrev pub IsDefined : {X : Type 0} → Result X Refusal → Result X Stop → Type 0
IsDefined spec (Ok x) = spec ≡ Ok x
IsDefined spec (Err (Refused x)) = spec ≡ Err x
IsDefined spec (Err ReadFault) = ⊤
IsDefined spec (Err WriteFault) = ⊤
IsDefined spec (Err (OverLimit live asked limit)) = ⊤
IsDefined spec (Err NoMemory) = ⊤

-- why a call that reads and writes, but takes no buffer and refuses nothing, stopped
abbrev pub StoppedWriting : Tally → Tally → Tally → Tally → Stop → Type 0
StoppedWriting source source' sink sink' (Refused x) = ⊥
StoppedWriting source source' sink sink' ReadFault = Rose source.faults source'.faults
StoppedWriting source source' sink sink' WriteFault = Rose sink.faults sink'.faults
StoppedWriting source source' sink sink' (OverLimit live asked limit) = ⊥
StoppedWriting source source' sink sink' NoMemory = Rose source.wants source'.wants ⊎ Rose sink.wants sink'.wants

-- a call that reads and writes changed the counts of its source and its sink as its answer says
pub record ReadsAndWrites {X : Type 0} (source source' sink sink' : Tally) (result : Result X Stop) : Type 0 where
  pub source_kept : CountsKept source source'
  pub sink_kept : CountsKept sink sink'
  pub ok : OnOk result ((source' ≡ source) × (sink' ≡ sink))
  pub stop : IfErr result (StoppedWriting source source' sink sink')

-- why a call that only writes, and takes no buffer, stopped
abbrev pub StoppedByWrite : Tally → Tally → Stop → Type 0
StoppedByWrite before now (Refused x) = ⊥
StoppedByWrite before now ReadFault = ⊥
StoppedByWrite before now WriteFault = Rose before.faults now.faults
StoppedByWrite before now (OverLimit live asked limit) = ⊥
StoppedByWrite before now NoMemory = Rose before.wants now.wants

-- a call that only writes changed the counts of its sink as its answer says
pub record Writes {X : Type 0} (before now : Tally) (result : Result X Stop) : Type 0 where
  pub kept : CountsKept before now
  pub ok : OnOk result (now ≡ before)
  pub stop : IfErr result (StoppedByWrite before now)

-- why a call that writes in place stopped
abbrev pub StoppedByAmend : Tally → Tally → Stop → Type 0
StoppedByAmend before now (Refused x) = ⊥
StoppedByAmend before now ReadFault = ⊥
StoppedByAmend before now WriteFault = Rose before.amended.faults now.amended.faults
StoppedByAmend before now (OverLimit live asked limit) = ⊥
StoppedByAmend before now NoMemory = Rose before.wants now.wants

-- a call that writes in place, or settles, changed the tally of its store as its answer says: if it succeeded, to this one, and otherwise
-- the writes are as they were
pub record Amends {X : Type 0} (before after now : Tally) (result : Result X Stop) : Type 0 where
  pub kept : StoreKept before now
  pub faults_same : now.faults ≡ before.faults
  pub ok : OnOk result (now ≡ after)
  pub unlogged : OnErr result (now.amended.writes ≡ before.amended.writes)
  pub stop : IfErr result (StoppedByAmend before now)

-- why a call that only reads, and refuses nothing, stopped
abbrev pub StoppedByRead : Tally → Tally → Stop → Type 0
StoppedByRead before now (Refused x) = ⊥
StoppedByRead before now ReadFault = Rose before.faults now.faults
StoppedByRead before now WriteFault = ⊥
StoppedByRead before now (OverLimit live asked limit) = ⊥
StoppedByRead before now NoMemory = Rose before.wants now.wants

-- a call that only reads changed the counts of its source as its answer says
pub record OnlyReads {X : Type 0} (before now : Tally) (result : Result X Stop) : Type 0 where
  pub kept : CountsKept before now
  pub ok : OnOk result (now ≡ before)
  pub stop : IfErr result (StoppedByRead before now)

-- why a call that reads and codes tiles stopped: there may be no memory to code tiles
abbrev pub StoppedByCoding : Tally → Tally → Stop → Type 0
StoppedByCoding before now (Refused x) = ⊥
StoppedByCoding before now ReadFault = Rose before.faults now.faults
StoppedByCoding before now WriteFault = ⊥
StoppedByCoding before now (OverLimit live asked limit) = ⊥
StoppedByCoding before now NoMemory = ⊤

-- such a call changed the counts of its source as its answer says
pub record Codes {X : Type 0} (before now : Tally) (result : Result X Stop) : Type 0 where
  pub kept : CountsKept before now
  pub ok : OnOk result (now ≡ before)
  pub stop : IfErr result (StoppedByCoding before now)

-- why a call that reads, codes tiles and writes, but takes no buffer and refuses nothing, stopped: there may be no memory to code tiles
abbrev pub StoppedCoding : Tally → Tally → Tally → Tally → Stop → Type 0
StoppedCoding source source' sink sink' (Refused x) = ⊥
StoppedCoding source source' sink sink' ReadFault = Rose source.faults source'.faults
StoppedCoding source source' sink sink' WriteFault = Rose sink.faults sink'.faults
StoppedCoding source source' sink sink' (OverLimit live asked limit) = ⊥
StoppedCoding source source' sink sink' NoMemory = ⊤

-- such a call changed the counts of its source and its sink as its answer says
pub record CodesAndWrites {X : Type 0} (source source' sink sink' : Tally) (result : Result X Stop) : Type 0 where
  pub source_kept : CountsKept source source'
  pub sink_kept : CountsKept sink sink'
  pub ok : OnOk result ((source' ≡ source) × (sink' ≡ sink))
  pub stop : IfErr result (StoppedCoding source source' sink sink')

-- the file is refused
abbrev pub IsRefused : {X : Type 0} → Result X Stop → Type 0
IsRefused result = (x : Refusal) × (result ≡ Err (Refused x))

-- a fact of the fault of an answer Refused
abbrev pub IfRefused : {X : Type 0} → Result X Stop → (Refusal → Type 0) → Type 0
IfRefused (Ok x) P = ⊤
IfRefused (Err (Refused x)) P = P x
IfRefused (Err ReadFault) P = ⊤
IfRefused (Err WriteFault) P = ⊤
IfRefused (Err (OverLimit live asked limit)) P = ⊤
IfRefused (Err NoMemory) P = ⊤

-- If a buffer would have passed the limit, the answer reports the meter's limit, and what is live and asked passes
-- it, but not this number.
abbrev pub TellsLimit : {X : Type 0} → ℕ → ℕ → Result X Stop → Type 0
TellsLimit limit most (Ok x) = ⊤
TellsLimit limit most (Err (Refused x)) = ⊤
TellsLimit limit most (Err ReadFault) = ⊤
TellsLimit limit most (Err WriteFault) = ⊤
TellsLimit limit most (Err (OverLimit live asked told)) = (told ≡ limit) × (limit < live + asked) × (live + asked ≤ most)
TellsLimit limit most (Err NoMemory) = ⊤

-- a fact of an answer Ok or Refused
abbrev pub IfAnswered : {X : Type 0} → Result X Stop → Type 0 → Type 0
IfAnswered (Ok x) P = P
IfAnswered (Err (Refused x)) P = P
IfAnswered (Err ReadFault) P = ⊤
IfAnswered (Err WriteFault) P = ⊤
IfAnswered (Err (OverLimit live asked limit)) P = ⊤
IfAnswered (Err NoMemory) P = ⊤
