-- The window as callers see it, and what is asked of a meter for its slots.
use Rattle.std.specs.Prelude.{◌≡◌, ◌≢◌, ℕ, ◌+◌, ◌*◌, ◌<◌, ◌≤◌, ◌⊎◌, max, pos, List, [], map, length, replicate, sum, ◌++◌, ◌/◌, slice_set, slice_index_or, None}
use Rattle.fz_base.specs.Meter.{Gauge, taken, RefusedFor}
use Rattle.fz_base.specs.declared.failure.Short.{Short}
use Rattle.fz_tile.specs.declared.codec.Codec.TheVariants.{Plain}
use Rattle.fz_tile.specs.declared.coded.Place2.TheVariants.{Stored}
use Rattle.fz_pool.specs.declared.slot.Job.{Job}
use Rattle.fz_pool.specs.declared.slot.Slot.{Slot}

-- the slots of a window, and how many workers it has
pub record Pool : Type 0 where
  pub slots : List Slot
  pub workers : ℕ

-- an empty window has no slots, and a filled one two for each worker
abbrev pub IsEmpty : Pool → Type 0
IsEmpty w = w.slots ≡ []

abbrev pub IsFilled : Pool → Type 0
IsFilled w = length w.slots ≡ 2 * w.workers

-- the job of a slot that has no tile
abbrev pub no_job : Job
no_job = record { tile = 0; pixels = 0; codec = Plain; bitpix = pos 8; place = Stored; len = 0; total = 0 }

-- a slot for tiles of n pixels, with two places for each
abbrev pub fresh_slot : ℕ → Slot
fresh_slot n = record { numbers = replicate (2 * n) (pos 0); code = replicate (8 * n + 64) 0; job = no_job; fault = None }

-- what is asked for the buffers of a slot: 4 bytes for each number, and the bytes of its code
abbrev pub slot_bytes : ℕ × ℕ → ℕ
slot_bytes size = 4 * size.0 + size.1

-- the lengths of a slot's buffers
abbrev pub slot_size : Slot → ℕ × ℕ
slot_size x = (length x.numbers, length x.code)

abbrev pub slot_sizes : List Slot → List (ℕ × ℕ)
slot_sizes slots = map slot_size slots

-- the slots are those of a window for tiles of so many pixels, or of larger ones
abbrev pub HasSlotsFor : ℕ → Pool → Type 0
HasSlotsFor pixels w = (n : ℕ) × (slot_sizes w.slots ≡ replicate (2 * w.workers) (2 * n, 8 * n + 64)) × (pixels ≤ n)

-- what is asked for all slots
abbrev pub asked_for : List Slot → ℕ
asked_for slots = sum (map slot_bytes (slot_sizes slots))

-- what is asked for a slot for tiles of n pixels
abbrev pub fresh_bytes : ℕ → ℕ
fresh_bytes n = 8 * n + (8 * n + 64)

-- the meter after so many bytes were taken and handed back
abbrev pub tried : Gauge → ℕ → Gauge
tried g spent = record { live = g.live; peak = max g.peak (g.live + spent); limit = g.limit }

-- A slot was refused at its first taking or at its second, after so many bytes
pub record SlotRefused (g : Gauge) (n : ℕ) (short : Short) : Type 0 where
  pub spent : ℕ
  pub asked : ℕ
  pub taking : ((spent ≡ 0) × (asked ≡ 8 * n)) ⊎ ((spent ≡ 8 * n) × (asked ≡ 8 * n + 64))
  pub within : g.live + spent ≤ g.limit
  pub refused : RefusedFor (taken g spent) asked short

-- A fill was refused at one of its takings: the numbers of a slot, of 8n bytes, or then its code, of 8n + 64. What
-- was taken before, slot by slot, was within the limit.
pub record FillRefused (g : Gauge) (count n : ℕ) (short : Short) : Type 0 where
  pub slot : ℕ
  pub near : slot < count
  pub spent : ℕ
  pub asked : ℕ
  pub taking : ((spent ≡ slot * fresh_bytes n) × (asked ≡ 8 * n)) ⊎ ((spent ≡ slot * fresh_bytes n + 8 * n) × (asked ≡ 8 * n + 64))
  pub within : g.live + spent ≤ g.limit
  pub refused : RefusedFor (taken g spent) asked short

abbrev pub with_slot : Pool → ℕ → Slot → Pool
with_slot w i x = record { slots = slice_set w.slots i x; workers = w.workers }

-- the slot i is now x, whose buffers are as long as those before, and the window is otherwise the same
pub record IsPut (old : Pool) (i : ℕ) (x : Slot) (new : Pool) : Type 0 where
  pub here : (d : Slot) → slice_index_or new.slots i d ≡ x
  pub others : (k : ℕ) (d : Slot) → k ≢ i → slice_index_or new.slots k d ≡ slice_index_or old.slots k d
  pub sizes : slot_sizes new.slots ≡ slot_sizes old.slots
  pub workers : new.workers ≡ old.workers

-- Two windows have the slots of one between them, in order, and half of its workers each; of an odd number the second has one
-- more
pub record AreHalves (whole first second : Pool) : Type 0 where
  pub slots : first.slots ++ second.slots ≡ whole.slots
  pub half : first.workers ≡ whole.workers / 2
  pub workers : first.workers + second.workers ≡ whole.workers
  pub filled : IsFilled first
  pub others : IsFilled second

-- a window keeps the sizes of its slots, and the number of workers
pub record WindowStays (old new : Pool) : Type 0 where
  pub sizes : slot_sizes new.slots ≡ slot_sizes old.slots
  pub workers : new.workers ≡ old.workers
