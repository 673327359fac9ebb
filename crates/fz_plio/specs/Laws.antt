-- What the laws of lists say, over only the definitions.
use Rattle.std.specs.Prelude.{ℕ, ◌^◌, ◌≤◌, ◌↔◌, ℤ, List, length, All, IsTrue}
use Rattle.fz_plio.specs.Meaning.{IsLineList}
use Rattle.fz_plio.specs.Producer.{InRange, can_hold_all, line_list}

-- the test whether a list can hold the numbers of a line
abbrev pub TestsRange : Type 0
TestsRange = (numbers : List ℤ) → IsTrue (can_hold_all numbers) ↔ All InRange numbers

-- the list that is written for numbers in range is lawful, and means them
abbrev pub MeansItsNumbers : Type 0
MeansItsNumbers = (numbers : List ℤ) → length numbers ≤ 2 ^ 26 → All InRange numbers → IsLineList (length numbers) (line_list numbers) numbers
