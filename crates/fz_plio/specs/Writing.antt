-- Writing words at a place of a list of bytes: what the parts of the encoder do.
use Rattle.std.specs.Prelude.{◌≡◌, ℕ, ◌+◌, ◌*◌, ◌<◌, ◌≤◌, ℤ, nat_abs, List, ◌++◌, length, take, drop, map, Result, OnOk, IsErr}
use Rattle.std.specs.List.{flat_map}
use Rattle.fz_plio.specs.declared.run.Run.{Run as CodeRun}
use Rattle.fz_plio.specs.Words.{word_bytes}
use Rattle.fz_plio.specs.Instructions.{Instruction, instruction_words}
use Rattle.fz_plio.specs.Producer.{Run}

-- old, with these bytes from a place on
abbrev pub overwritten : ℕ → List ℕ → List ℕ → List ℕ
overwritten at bytes old = take at old ++ (bytes ++ drop (at + length bytes) old)

-- the words are put at a place, and the next place is after them; an error comes only if they do not fit
pub record Puts {T E : Type 0} (old new : List ℕ) (at next : ℕ) (ws : List ℕ) (result : Result T E) : Type 0 where
  pub len : length new ≡ length old
  pub place : OnOk result (next ≡ at + 2 * length ws)
  pub fits : OnOk result (at + 2 * length ws ≤ length old)
  pub bytes : OnOk result (new ≡ overwritten at (word_bytes ws) old)
  pub full : IsErr result → length old < at + 2 * length ws

-- the words of instructions
abbrev pub words_of : List Instruction → List ℕ
words_of is = flat_map instruction_words is

-- a run as the code holds it
abbrev pub run_of : CodeRun → Run
run_of r = record { zeros = r.zeros; value = r.value; count = r.count }

-- the numbers of a line, without their type
abbrev pub magnitudes : List ℤ → List ℕ
magnitudes numbers = map nat_abs numbers
