-- What a call does to its meter that takes several buffers, or none of them.
use Rattle.std.specs.Prelude.{ℕ, ◌≡◌, ◌+◌, ◌<◌, ◌≤◌, max, List, sum, Result, OnOk, OnErr, IfErr, ⊤}
use Rattle.fz_base.specs.Meter.{Gauge, taken}
use Rattle.fz_base.specs.Takings.{TellsShort, piled}
use Rattle.fz_base.specs.declared.failure.Short.{Short}
use Rattle.fz_base.specs.declared.failure.Short.TheVariants.{NoMemory, OverLimit}

-- a taking that passes the limit reports the limit
abbrev pub TellsTheLimit : ℕ → Short → Type 0
TellsTheLimit limit NoMemory = ⊤
TellsTheLimit limit (OverLimit live asked told) = (told ≡ limit) × (limit < live + asked)

-- What a call does to its meter that takes these buffers, one after another: it takes them all; or the first of them that passes
-- the limit is reported, or there was no memory, and those that were taken go back.
pub record Takes {X : Type 0} (buffers : List ℕ) (old new : Gauge) (result : Result X Short) : Type 0 where
  pub all : OnOk result ((old.live + sum buffers ≤ old.limit) × (new ≡ taken old (sum buffers)))
  pub given_back : OnErr result (new.live ≡ old.live)
  pub limit : new.limit ≡ old.limit
  pub risen : old.peak ≤ new.peak
  pub peak : new.peak ≤ max old.peak (old.live + sum buffers)
  pub first_past : TellsShort old.limit (piled old.live buffers) result
  pub told : IfErr result (TellsTheLimit old.limit)
