-- The search for END, block by block.
use Rattle.std.specs.Prelude.{ℕ, ◌≡◌, ◌==◌, ◌+◌, ◌*◌, ◌≤◌, ◌<◌, ◌&&◌, not, nat_lt, nat_le, Bool, false, List}
use Rattle.std.specs.Prelude.{length, take, drop, codes, bytes_eq, None, is_some, Result, Ok, Err, if◌then◌else◌}
use Rattle.fz_base.specs.Refusal.{refusal}
use Rattle.fz_base.specs.declared.fault.Fault.{Fault}
use Rattle.fz_base.specs.declared.fault.Place.TheVariants.{Byte, Card}
use Rattle.fz_base.specs.declared.kind.Kind.TheVariants.{NotFits, Truncated, TrailingBytes, Limit}
use Rattle.fz_block.specs.Cards.{end_of}
use Rattle.fz_block.specs.Checks.{is_set}

-- block b of the header that begins at this byte
abbrev pub block_at : ℕ → ℕ → List ℕ → List ℕ
block_at start b file = take 2880 (drop (start + 2880 * b) file)

-- whether the first block of HDU 0 begins with another card than SIMPLE with T
abbrev pub is_foreign : ℕ → ℕ → List ℕ → Bool
is_foreign k b block = (k == 0 && b == 0) && not (is_set (codes "SIMPLE") (take 80 block))

-- what a block says that is in the file: whether it has END
abbrev pub block_says : ℕ → ℕ → List ℕ → Result Bool Fault
block_says k b block = if is_foreign k b block then Err (refusal k (Card 0) NotFits) else Ok (is_some (end_of block))

-- what block b of the header of HDU k says
abbrev pub next_block_says : ℕ → ℕ → ℕ → List ℕ → Result Bool Fault
next_block_says k start b file =
    if nat_lt (length file) (start + 2880 * (b + 1)) then Err (refusal k (Byte (length file)) Truncated) else block_says k b (block_at start b file)

-- what the checks say that come before the search
abbrev pub begin_says : ℕ → ℕ → List ℕ → Result (Unit {0}) Fault
begin_says k start file =
    if nat_le 65536 k then Err (refusal k (Byte start) Limit)
    else if nat_lt 0 k && not (bytes_eq (take 8 (drop start file)) (codes "XTENSION")) then Err (refusal k (Byte start) TrailingBytes)
    else Ok tt

-- so many blocks were searched, and none has END
pub record Searched (k start b : ℕ) (file : List ℕ) : Type 0 where
  pub within : start + 2880 * b ≤ length file
  pub none : end_of (take (2880 * b) (drop start file)) ≡ None
  pub simple : 0 < b → (k == 0 && not (is_set (codes "SIMPLE") (take 80 (drop start file)))) ≡ false
