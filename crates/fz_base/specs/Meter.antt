-- Buffers that are counted: what is live, the most that ever was, and the limit.
use Rattle.std.specs.Prelude.{ℕ, ◌≡◌, ◌+◌, ◌-◌, ◌<◌, ◌≤◌, max, min}
use Rattle.fz_base.specs.declared.failure.Short.{Short}
use Rattle.fz_base.specs.declared.failure.Short.TheVariants.{NoMemory, OverLimit}

-- a meter, in bytes
pub record Gauge : Type 0 where
  pub live : ℕ
  pub peak : ℕ
  pub limit : ℕ

-- peak is at least what is live, and at most the limit
abbrev pub IsGauge : Gauge → Type 0
IsGauge g = (g.live ≤ g.peak) × (g.peak ≤ g.limit)

-- after so many bytes were taken
abbrev pub taken : Gauge → ℕ → Gauge
taken g asked = record { live = g.live + asked; peak = max g.peak (g.live + asked); limit = g.limit }

-- after so many bytes were handed back
abbrev pub handed_back : Gauge → ℕ → Gauge
handed_back g asked = record { live = g.live - asked; peak = g.peak; limit = g.limit }

-- with the smaller of its limit and another
abbrev pub narrowed : Gauge → ℕ → Gauge
narrowed g limit = record { live = g.live; peak = g.peak; limit = min g.limit limit }

-- so many bytes more pass the limit, and the three numbers are reported
abbrev pub IsOverLimit : Gauge → ℕ → Short → Type 0
IsOverLimit g n NoMemory = ⊥
IsOverLimit g n (OverLimit live asked limit) = (g.limit < g.live + n) × (live ≡ g.live) × (asked ≡ n) × (limit ≡ g.limit)

-- why a taking was refused: it passes the limit, or there was no memory, which is tried only below the limit
abbrev pub RefusedFor : Gauge → ℕ → Short → Type 0
RefusedFor g n NoMemory = g.live + n ≤ g.limit
RefusedFor g n (OverLimit live asked limit) = IsOverLimit g n (OverLimit live asked limit)
