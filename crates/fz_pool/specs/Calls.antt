-- What a call over a window asks of its first slots, what it leaves in them, and what it keeps.
use Rattle.std.specs.Prelude.{◌≡◌, ℕ, ◌<◌, ◌≤◌, List, length, Result, OnErr, slice_index_or}
use Rattle.fz_tile.specs.declared.fault.TileFault.{TileFault}
use Rattle.fz_pool.specs.declared.slot.Slot.{Slot}
use Rattle.fz_pool.specs.declared.task.Task.{Task}
use Rattle.fz_pool.specs.declared.task.Task.TheVariants.{Encode, Decode}
use Rattle.fz_pool.specs.Slots.{numbers_for, record_of, HasNumbers, HasFault, IsReady, IsResult}
use Rattle.fz_pool.specs.Window.{Pool, slot_sizes}

-- each of the first slots is ready for its call
abbrev pub AreReady : Task → ℕ → List Slot → Type 0
AreReady task count slots = (i : ℕ) (d : Slot) → i < count → IsReady task (slice_index_or slots i d)

-- each of the first slots is ready to be encoded, or to be decoded
abbrev pub AreForEncoding : ℕ → List Slot → Type 0
AreForEncoding = AreReady Encode

abbrev pub AreForDecoding : ℕ → List Slot → Type 0
AreForDecoding = AreReady Decode

-- each of the first slots is what comes of itself
abbrev pub AreResults : Task → ℕ → List Slot → List Slot → Type 0
AreResults task count old new = (i : ℕ) (d : Slot) → i < count → IsResult task (slice_index_or old i d) (slice_index_or new i d)

-- each of the first slots was encoded, or decoded
abbrev pub AreEncoded : ℕ → List Slot → List Slot → Type 0
AreEncoded = AreResults Encode

abbrev pub AreDecoded : ℕ → List Slot → List Slot → Type 0
AreDecoded = AreResults Decode

-- the other slots are as before
abbrev pub AreSameFrom : ℕ → List Slot → List Slot → Type 0
AreSameFrom count old new = (i : ℕ) (d : Slot) → count ≤ i → slice_index_or new i d ≡ slice_index_or old i d

-- Whatever a call answers, the slots after the first ones, the lengths of all buffers and the number of workers are as
-- before, and after an error the whole window is
pub record KeepsWindow {A E : Type 0} (result : Result A E) (count : ℕ) (old new : Pool) : Type 0 where
  pub others : AreSameFrom count old.slots new.slots
  pub sizes : slot_sizes new.slots ≡ slot_sizes old.slots
  pub slots : length new.slots ≡ length old.slots
  pub workers : new.workers ≡ old.workers
  pub no_memory : OnErr result (new ≡ old)

-- the first slots leave no fault, and so each has the numbers of its own record
abbrev pub HaveNumbers : ℕ → List Slot → List Slot → Type 0
HaveNumbers count old new = (i : ℕ) (d : Slot) → i < count
    → HasNumbers (slice_index_or old i d).job (record_of (slice_index_or old i d)) (numbers_for (slice_index_or old i d) (slice_index_or new i d))

-- the slot i has this fault, and all slots below it have the numbers of their own records
pub record IsLowestFault (count : ℕ) (old new : List Slot) (i : ℕ) (fault : TileFault) : Type 0 where
  pub near : i < count
  pub is_fault : (d : Slot) → HasFault (slice_index_or old i d).job (record_of (slice_index_or old i d)) fault
  pub below : HaveNumbers i old new
