-- Bytes that are held back, and go to the sink later.
use Rattle.std.specs.Prelude.{ℕ, ◌-◌, ◌<◌, ◌≤◌, List, length, take, Option}
use Rattle.fz_base.specs.Sink.{written}
use Rattle.fz_job.specs.declared.held.Held.{Held}

-- the contents once the first n of these bytes, which were held back, are written just before a place
abbrev pub caught_up : ℕ → ℕ → List ℕ → Option (List ℕ) → Option (List ℕ)
caught_up end n held contents = written (end - n) (take n held) contents

-- none are held back
abbrev pub nothing_held : Held
nothing_held = record { count = 0; end = 1 }

-- so many of these bytes can be held back: there are as many, and they go to places after byte 0
pub record IsHeld (h : Held) (held : List ℕ) : Type 0 where
  pub within : h.count ≤ length held
  pub behind : h.count < h.end

-- the contents once they are written
abbrev pub settled : Held → List ℕ → Option (List ℕ) → Option (List ℕ)
settled h held contents = caught_up h.end h.count held contents
