-- Why the parts of a patch stopped, by the tallies of the store and of the source of PATCH.
use Rattle.std.specs.Prelude.{ℕ, ◌≡◌, ◌⊎◌, ◌+◌, ◌<◌, Result, OnOk, IfErr, ⊤}
use Rattle.fz_base.specs.Counts.{CountsKept, Rose, Tally}
use Rattle.fz_base.specs.Store.{StoreKept}
use Rattle.fz_base.specs.declared.failure.Stop.{Stop}
use Rattle.fz_base.specs.declared.failure.Stop.TheVariants.{Refused, ReadFault, WriteFault, OverLimit, NoMemory}

-- Nothing was counted; but something may have been written.
pub record SameCounts (before now : Tally) : Type 0 where
  pub faults : now.faults ≡ before.faults
  pub wants : now.wants ≡ before.wants
  pub write_faults : now.amended.faults ≡ before.amended.faults
  pub names : now.names ≡ before.names

-- why a call stopped that reads both files and codes a tile: Refused comes only if no count rose
abbrev pub StoppedTile : Tally → Tally → Tally → Tally → Stop → Type 0
StoppedTile store store' patch patch' (Refused x) = (store' ≡ store) × (patch' ≡ patch)
StoppedTile store store' patch patch' ReadFault = Rose store.faults store'.faults ⊎ Rose patch.faults patch'.faults
StoppedTile store store' patch patch' WriteFault = ⊥
StoppedTile store store' patch patch' (OverLimit live asked limit) = ⊥
StoppedTile store store' patch patch' NoMemory = ⊤

-- such a call changed the tallies as its answer says
pub record ReadsTiles {X : Type 0} (store store' patch patch' : Tally) (result : Result X Stop) : Type 0 where
  pub store_kept : CountsKept store store'
  pub patch_kept : CountsKept patch patch'
  pub ok : OnOk result ((store' ≡ store) × (patch' ≡ patch))
  pub stop : IfErr result (StoppedTile store store' patch patch')

-- why a call stopped that also writes in place
abbrev pub StoppedPatching : Tally → Tally → Tally → Tally → Stop → Type 0
StoppedPatching store store' patch patch' (Refused x) = SameCounts store store' × (patch' ≡ patch)
StoppedPatching store store' patch patch' ReadFault = Rose store.faults store'.faults ⊎ Rose patch.faults patch'.faults
StoppedPatching store store' patch patch' WriteFault = Rose store.amended.faults store'.amended.faults
StoppedPatching store store' patch patch' (OverLimit live asked limit) = ⊥
StoppedPatching store store' patch patch' NoMemory = ⊤

pub record Patches {X : Type 0} (store store' patch patch' : Tally) (result : Result X Stop) : Type 0 where
  pub store_kept : StoreKept store store'
  pub patch_kept : CountsKept patch patch'
  pub ok : OnOk result (SameCounts store store' × (patch' ≡ patch))
  pub stop : IfErr result (StoppedPatching store store' patch patch')

-- why a call stopped that reads and writes only the store
abbrev pub StoppedAmending : Tally → Tally → Stop → Type 0
StoppedAmending before now (Refused x) = ⊥
StoppedAmending before now ReadFault = Rose before.faults now.faults
StoppedAmending before now WriteFault = Rose before.amended.faults now.amended.faults
StoppedAmending before now (OverLimit live asked limit) = ⊥
StoppedAmending before now NoMemory = Rose before.wants now.wants

pub record AmendsStore {X : Type 0} (before now : Tally) (result : Result X Stop) : Type 0 where
  pub kept : StoreKept before now
  pub ok : OnOk result (SameCounts before now)
  pub stop : IfErr result (StoppedAmending before now)

-- Why the whole call stopped after its first block, of a meter with this limit.
abbrev pub StoppedWorking : Tally → Tally → Tally → Tally → ℕ → Stop → Type 0
StoppedWorking store store' patch patch' limit (Refused x) = SameCounts store store' × (patch' ≡ patch)
StoppedWorking store store' patch patch' limit ReadFault = Rose store.faults store'.faults ⊎ Rose patch.faults patch'.faults
StoppedWorking store store' patch patch' limit WriteFault = Rose store.amended.faults store'.amended.faults
StoppedWorking store store' patch patch' limit (OverLimit live asked told) = (told ≡ limit) × (limit < live + asked)
StoppedWorking store store' patch patch' limit NoMemory = ⊤

pub record WorksInPlace {X : Type 0} (store store' patch patch' : Tally) (limit : ℕ) (result : Result X Stop) : Type 0 where
  pub store_kept : StoreKept store store'
  pub patch_kept : CountsKept patch patch'
  pub ok : OnOk result (SameCounts store store' × (patch' ≡ patch))
  pub stop : IfErr result (StoppedWorking store store' patch patch' limit)
