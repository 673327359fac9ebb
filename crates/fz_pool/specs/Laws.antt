-- What the laws of this crate say, over only the definitions.
use Rattle.std.specs.Prelude.{◌≡◌, ℕ, ◌+◌, ◌*◌, ◌<◌, ◌≤◌, ◌++◌, ℤ, List, length, map, replicate, slice_get, slice_index_or, Some}
use Rattle.fz_tile.specs.declared.codec.Codec.{Codec}
use Rattle.fz_tile.specs.declared.fault.TileFault.{TileFault}
use Rattle.fz_tile.specs.TileCode.{tile_code, AreElements}
use Rattle.fz_pool.specs.declared.task.Task.{Task}
use Rattle.fz_pool.specs.declared.slot.Slot.{Slot}
use Rattle.fz_pool.specs.Slots.{bits_of_pixel, record_of, IsForEncoding, IsEncoded, IsReady, HasFault}
use Rattle.fz_pool.specs.Window.{AreHalves, Pool, fresh_slot, fresh_bytes, slot_size, slot_sizes, asked_for, with_slot, IsPut}
use Rattle.fz_pool.specs.Calls.{AreReady, AreForDecoding, AreEncoded, HaveNumbers, IsLowestFault}
use Rattle.fz_pool.specs.Round.{HoldTiles, coded_tile, coded_tiles, AreTilesOf}

-- ---- lengths of buffers

-- the slots of a window that was just filled are all alike
abbrev pub AreFresh : Type 0
AreFresh = (m n : ℕ) → slot_sizes (replicate m (fresh_slot n)) ≡ replicate m (2 * n, 8 * n + 64)

-- m slots that are alike are m
abbrev pub AreAsMany : Type 0
AreAsMany = (slots : List Slot) (m : ℕ) (size : ℕ × ℕ) → slot_sizes slots ≡ replicate m size → length slots ≡ m

-- each of them is like the others
abbrev pub IsAlike : Type 0
IsAlike =
    (slots : List Slot) (m : ℕ) (size : ℕ × ℕ) (i : ℕ) (x : Slot) → slot_sizes slots ≡ replicate m size → i < m → slice_get slots i ≡ Some x
    → slot_size x ≡ size

-- what is asked for slots that were just filled
abbrev pub AsksForFresh : Type 0
AsksForFresh = (m n : ℕ) → asked_for (replicate m (fresh_slot n)) ≡ m * fresh_bytes n

-- as much is asked for slots of the same lengths
abbrev pub AsksAlike : Type 0
AsksAlike = (old new : List Slot) → slot_sizes new ≡ slot_sizes old → asked_for new ≡ asked_for old

-- if the slots of a window are alike, those of its halves are
abbrev pub HalvesAlike : Type 0
HalvesAlike = (whole first second : Pool) (size : ℕ × ℕ) → AreHalves whole first second → slot_sizes whole.slots ≡ replicate (2 * whole.workers) size
    → (slot_sizes first.slots ≡ replicate (2 * first.workers) size) × (slot_sizes second.slots ≡ replicate (2 * second.workers) size)

-- if those of two windows are alike, all are
abbrev pub BothAlike : Type 0
BothAlike =
    (first second : Pool) (size : ℕ × ℕ) → slot_sizes first.slots ≡ replicate (2 * first.workers) size
    → slot_sizes second.slots ≡ replicate (2 * second.workers) size
    → slot_sizes (first.slots ++ second.slots) ≡ replicate (2 * (first.workers + second.workers)) size

-- ---- filling slots

-- what is left in a slot that was lent is put into the window, if its buffers are as long as before
abbrev pub PutsSlot : Type 0
PutsSlot = (w : Pool) (i : ℕ) (x y : Slot) → slice_get w.slots i ≡ Some x → slot_size y ≡ slot_size x → IsPut w i y (with_slot w i y)

-- if those below i are ready, and a slot that is ready is put at i, those below i + 1 are
abbrev pub ReadiesNext : Type 0
ReadiesNext =
    (task : Task) (i : ℕ) (old new : Pool) (x : Slot) → AreReady task i old.slots → IsPut old i x new → IsReady task x
    → AreReady task (i + 1) new.slots

-- ---- the tiles of a call

-- slots that were encoded have the codes of the tiles whose pixels they had, in order
abbrev pub EncodesTiles : Type 0
EncodesTiles = (codec : Codec) (bits : ℕ) (tiles : List (List ℤ)) (old new : List Slot) → length tiles ≤ length new → HoldTiles codec bits old tiles
    → AreEncoded (length tiles) old new → coded_tiles (length tiles) new ≡ map (tile_code codec bits) tiles

-- a slot that was encoded shows how many bytes its tile has: they are within its code, and some elements of their
-- column, no more than the plain bytes
abbrev pub TellsLength : Type 0
TellsLength = (x y : Slot) → IsForEncoding x → IsEncoded x y
    → (length (record_of y) ≡ y.job.len) × (y.job.len ≤ length y.code) × AreElements x.job.codec (bits_of_pixel x.job) x.job.pixels (coded_tile y)

-- slots that were decoded without a fault have the pixels of the tiles for which their records stand, in order
abbrev pub DecodesTiles : Type 0
DecodesTiles =
    (count : ℕ) (old new : List Slot) → count ≤ length old → count ≤ length new → HaveNumbers count old new
    → (tiles : List (List ℤ)) × (length tiles ≡ count) × AreTilesOf old new tiles

-- ---- faults

-- if slots have the numbers of their records, none of these is faulty
abbrev pub HasNoFault : Type 0
HasNoFault = (count : ℕ) (old new : List Slot) → AreForDecoding count old → HaveNumbers count old new
    → (i : ℕ) (d : Slot) (fault : TileFault) → i < count → ¬ HasFault (slice_index_or old i d).job (record_of (slice_index_or old i d)) fault

-- there is one lowest fault at most, whatever the slots hold after the call
abbrev pub IsOneLowest : Type 0
IsOneLowest = (count : ℕ) (old new others : List Slot) (i j : ℕ) (fault other : TileFault) → count ≤ length old → AreForDecoding count old
    → IsLowestFault count old new i fault → IsLowestFault count old others j other → (j ≡ i) × (other ≡ fault)
