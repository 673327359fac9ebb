-- What the answer of `fz_sum` says (FITS 4.0, appendix J).
use Rattle.std.specs.Prelude.{◌≡◌, ℕ, ◌+◌, ◌^◌, ◌<◌, ◌≤◌, ℤ, pos, List, length}
use Rattle.fz_sum.specs.Sums.{carried, word_total}
use Rattle.fz_c.specs.declared.fault.Fault.TheVariants.{ManyBytes}
use Rattle.fz_c.specs.Faults.{answer_of}

-- the answer of `fz_sum`
pub data Sums (before : ℕ) (bytes : List ℕ) (sum : ℕ) (answer : ℤ) : Type 0 where
  -- it is the ones' complement sum of the words of these bytes, after a sum of words before them
  done : answer ≡ pos 0 → length bytes ≤ 2 ^ 60 → sum ≡ carried (before + word_total bytes)
      → Sums before bytes sum answer
  -- these are too many bytes
  many_bytes : answer ≡ answer_of ManyBytes → 2 ^ 60 < length bytes → Sums before bytes sum answer
