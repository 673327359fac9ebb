-- The last bytes of a heap that are held back, and go to the sink later.
use Rattle.std.specs.Prelude.{ℕ, ◌+◌, ◌≤◌, List, length, Option}
use Rattle.fz_job.specs.Held.{caught_up}
use Rattle.fz_image.specs.Layout.{heap_at_of}
use Rattle.fz_image.specs.Progress.{IsWritten}
use Rattle.fz_image.specs.declared.layout.Layout.{Layout}
use Rattle.fz_image.specs.declared.progress.Progress.{Progress}
use Rattle.fz_image.specs.declared.progress.Underway.{Underway}

-- the contents once the first n of these bytes, the last of the heap so far, are written
abbrev pub heap_caught_up : Layout → Progress → ℕ → List ℕ → Option (List ℕ) → Option (List ℕ)
heap_caught_up l w n held contents = caught_up (heap_at_of l + w.heap) n held contents

-- the first n of these bytes can be the last of the heap so far
abbrev pub AreLast : ℕ → List ℕ → Progress → Type 0
AreLast n held w = (n ≤ length held) × (n ≤ w.heap)

-- so many of these bytes are held back
abbrev pub AreHeldBack : Underway → List ℕ → Type 0
AreHeldBack u bytes = AreLast u.held_back bytes u.progress

-- the contents once the bytes that are held back are written
abbrev pub contents_of : Layout → Underway → List ℕ → Option (List ℕ) → Option (List ℕ)
contents_of l u bytes contents = heap_caught_up l u.progress u.held_back bytes contents

-- and then the first tiles of a table are written, whose contents were `before`
abbrev pub IsUnderwayFrom : Layout → Option (List ℕ) → Option (List ℕ) → Underway → List ℕ → Option (List ℕ) → Type 0
IsUnderwayFrom l held before u bytes contents = IsWritten l held before (contents_of l u bytes contents) u.progress
