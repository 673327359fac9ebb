-- What an object shows of itself, as its bytes or the ranges that were read, it shows for good: a call may change it, but does not hide it.
use Rattle.std.specs.Prelude.{Option, IsSome}

-- what was shown is still shown after a call
abbrev pub StaysTold : {A : Type 0} → Option A → Option A → Type 0
StaysTold before now = IsSome before → IsSome now
