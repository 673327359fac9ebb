-- The buffers that a job holds after its first look: a header, a translated header, the slots of the window, and the copy buffer. A
-- job takes those that it wants.
use Rattle.std.specs.Prelude.{ℕ, ◌≡◌, ◌+◌, ◌*◌, ◌<◌, ◌≤◌, List, [], length, replicate, sum, Option, Some, None}
use Rattle.fz_base.specs.JobBuffers.{buffer_bound}
use Rattle.fz_base.specs.Takings.{first_past, piled}
use Rattle.fz_checks.specs.WorkBuffers.{translated_buffers, work_buffers}
use Rattle.fz_pool.specs.Window.{Pool, asked_for, fresh_slot, slot_sizes}
use Rattle.fz_pool.specs.declared.slot.Slot.{Slot}
use Rattle.fz_job.specs.declared.workspace.Wants.{Wants}
use Rattle.fz_job.specs.declared.workspace.Workspace.{Workspace}

-- what a job takes that wants these, with W workers
abbrev pub wanted_buffers : Wants → ℕ → List ℕ
wanted_buffers wants W = work_buffers wants.header_len wants.translates wants.tile W

-- the length of the copy buffer, if there is one
abbrev pub copy_len : Option ℕ → ℕ
copy_len None = 0
copy_len (Some n) = 65536

-- the slots of a window that is filled for these tiles
abbrev pub slots_for : ℕ → Option ℕ → List Slot
slots_for W None = []
slots_for W (Some n) = replicate (2 * W) (fresh_slot n)

-- the window with W workers that is filled for them
abbrev pub window_for : ℕ → Option ℕ → Pool
window_for W tile = record { slots = slots_for W tile; workers = W }

-- the buffers have the lengths that were wanted
pub record HasLengths (wants : Wants) (w : Workspace) : Type 0 where
  pub header : length w.header ≡ wants.header_len
  pub translated : length w.translated ≡ sum (translated_buffers wants.translates wants.header_len)
  pub copy : length w.copy ≡ copy_len wants.tile

-- and the slots those of a window that is filled for these tiles
abbrev pub AreSizedFor : Option ℕ → Pool → Type 0
AreSizedFor tile pool = slot_sizes pool.slots ≡ slot_sizes (slots_for pool.workers tile)

-- the buffers are as long as before
pub record SpaceStays (old new : Workspace) : Type 0 where
  pub header : length new.header ≡ length old.header
  pub translated : length new.translated ≡ length old.translated
  pub copy : length new.copy ≡ length old.copy

-- the bytes of all these buffers
abbrev pub held_bytes : Workspace → Pool → ℕ
held_bytes w pool = length w.header + length w.translated + length w.copy + asked_for pool.slots

-- ---- what the laws say

-- as long as no buffer changes its length, what is held is what was taken
abbrev pub HoldsWhatItTook : Type 0
HoldsWhatItTook =
    (wants : Wants) (w : Workspace) (pool : Pool) → HasLengths wants w → AreSizedFor wants.tile pool
    → held_bytes w pool ≡ sum (wanted_buffers wants pool.workers)

-- the pixels of the largest tile, or 0
abbrev pub pixels_of : Option ℕ → ℕ
pixels_of None = 0
pixels_of (Some n) = n

-- with one block that is live before, all are within the bound
abbrev pub StaysInBound : Type 0
StaysInBound = (wants : Wants) (W : ℕ) → 2880 + sum (wanted_buffers wants W) ≤ buffer_bound wants.header_len (pixels_of wants.tile) W

-- the bound is no smaller for a longer header and a larger tile
abbrev pub BoundGrows : Type 0
BoundGrows = (H H' n n' W : ℕ) → H ≤ H' → n ≤ n' → buffer_bound H n W ≤ buffer_bound H' n' W

-- buffers that are within a limit together pass it with none of them
abbrev pub PassesNoLimit : Type 0
PassesNoLimit = (limit live : ℕ) (buffers : List ℕ) → live + sum buffers ≤ limit → first_past limit (piled live buffers) ≡ None

-- the first buffer that passes a limit is, with what is live before it, no more than all of them together
abbrev pub PassesWithinAll : Type 0
PassesWithinAll =
    (limit live before asked : ℕ) (buffers : List ℕ) → first_past limit (piled live buffers) ≡ Some (before, asked)
    → (limit < before + asked) × (before + asked ≤ live + sum buffers)
