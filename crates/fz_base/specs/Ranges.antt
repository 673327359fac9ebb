-- Which bytes several reads touch, as ranges: each where it starts, and its length.
use Rattle.std.specs.Prelude.{ℕ, ◌≡◌, ◌+◌, ◌<◌, ◌≤◌, ◌⊎◌, List, [], ◌∷◌, Option, Result, Ok, Err}
use Rattle.fz_base.specs.Source.{logged, LogsOnly, LogsWithin}
use Rattle.fz_base.specs.declared.failure.Stop.{Stop}
use Rattle.fz_base.specs.declared.failure.Stop.TheVariants.{Refused, ReadFault, WriteFault, OverLimit, NoMemory}

-- a byte lies in one of the ranges
abbrev pub LiesIn : List (ℕ × ℕ) → ℕ → Type 0
LiesIn [] byte = ⊥
LiesIn ((start, count) ∷ ranges) byte = ((start ≤ byte) × (byte < start + count)) ⊎ LiesIn ranges byte

-- the ranges read, with these more
abbrev pub logged_all : List (ℕ × ℕ) → Option (List (ℕ × ℕ)) → Option (List (ℕ × ℕ))
logged_all [] ranges = ranges
logged_all ((start, count) ∷ more) ranges = logged_all more (logged start count ranges)

-- some of these reads were logged, from the first on, and no other
abbrev pub LogsSome : List (ℕ × ℕ) → Option (List (ℕ × ℕ)) → Option (List (ℕ × ℕ)) → Type 0
LogsSome [] old new = new ≡ old
LogsSome ((start, count) ∷ more) old new = (new ≡ old) ⊎ LogsSome more (logged start count old) new

-- a call logged these reads: all of them if it answers Ok or Refused, and some if it failed
abbrev pub Logs : {X : Type 0} → List (ℕ × ℕ) → Result X Stop → Option (List (ℕ × ℕ)) → Option (List (ℕ × ℕ)) → Type 0
Logs reads (Ok x) old new = new ≡ logged_all reads old
Logs reads (Err (Refused x)) old new = new ≡ logged_all reads old
Logs reads (Err ReadFault) old new = LogsSome reads old new
Logs reads (Err WriteFault) old new = LogsSome reads old new
Logs reads (Err (OverLimit live asked limit)) old new = LogsSome reads old new
Logs reads (Err NoMemory) old new = LogsSome reads old new

-- every byte of the ranges that were read lies in one of these ranges
abbrev pub LogsIn : List (ℕ × ℕ) → Option (List (ℕ × ℕ)) → Option (List (ℕ × ℕ)) → Type 0
LogsIn ranges old new = LogsOnly (λ read. (byte : ℕ) → read.0 ≤ byte → byte < read.0 + read.1 → LiesIn ranges byte) old new

-- if the bytes of some reads lie in these ranges, so do those of the reads that were logged
abbrev pub LogsSomeLaw : Type 0
LogsSomeLaw =
    (reads ranges : List (ℕ × ℕ)) (old new : Option (List (ℕ × ℕ))) → ((byte : ℕ) → LiesIn reads byte → LiesIn ranges byte)
    → LogsSome reads old new → LogsIn ranges old new

abbrev pub LogsAllLaw : Type 0
LogsAllLaw =
    (reads ranges : List (ℕ × ℕ)) (old new : Option (List (ℕ × ℕ))) → ((byte : ℕ) → LiesIn reads byte → LiesIn ranges byte)
    → new ≡ logged_all reads old → LogsIn ranges old new

-- the same of reads between two places, if the bytes between these lie in the ranges
abbrev pub LogsWithinLaw : Type 0
LogsWithinLaw =
    (from to : ℕ) (ranges : List (ℕ × ℕ)) (old new : Option (List (ℕ × ℕ))) → ((byte : ℕ) → from ≤ byte → byte < to → LiesIn ranges byte)
    → LogsWithin from to old new → LogsIn ranges old new

-- what is read one after another in some ranges is read in them
abbrev pub LogsJoinLaw : Type 0
LogsJoinLaw = (ranges : List (ℕ × ℕ)) (old between new : Option (List (ℕ × ℕ))) → LogsIn ranges old between → LogsIn ranges between new → LogsIn ranges old new
