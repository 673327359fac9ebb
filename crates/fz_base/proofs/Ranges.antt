-- Reads that were logged lie in the ranges in which their bytes lie.
use Rattle.std.proofs.Common.{◌≡◌, ℕ, ◌+◌, ◌<◌, ◌≤◌, inl, inr, List, [], ◌∷◌, Option, refl, sym, subst, arith}
use Rattle.fz_base.specs.Ranges.{LiesIn, logged_all, LogsSome, LogsIn}
use Rattle.fz_base.specs.Source.{logged, LogsWithin, IsRangeBetween}
use Rattle.fz_base.proofs.Logs.{logs_none, logs_one, logs_both, logs_wider}

-- the bytes of a read lie in these ranges
abbrev LieIn : List (ℕ × ℕ) → (ℕ × ℕ) → Type 0
LieIn ranges read = (byte : ℕ) → read.0 ≤ byte → byte < read.0 + read.1 → LiesIn ranges byte

nothing : (ranges : List (ℕ × ℕ)) (old new : Option (List (ℕ × ℕ))) → new ≡ old → LogsIn ranges old new
nothing ranges old new same = subst (LogsIn ranges old) (sym same) (logs_none (LieIn ranges) old)

-- one range was read, and then others
before : (ranges : List (ℕ × ℕ)) (start count : ℕ) (old new : Option (List (ℕ × ℕ))) → LieIn ranges (start, count) → LogsIn ranges (logged start count old) new → LogsIn ranges old new
before ranges start count old new here later =
    logs_both (LieIn ranges) old (logged start count old) new (logs_one (LieIn ranges) start count old (logged start count old) here (inr refl)) later

pub some_lie : (reads ranges : List (ℕ × ℕ)) (old new : Option (List (ℕ × ℕ))) → ((byte : ℕ) → LiesIn reads byte → LiesIn ranges byte) → LogsSome reads old new → LogsIn ranges old new
some_lie [] ranges old new within same = nothing ranges old new same
some_lie ((start, count) ∷ reads) ranges old new within (inl same) = nothing ranges old new same
some_lie ((start, count) ∷ reads) ranges old new within (inr more) =
    before ranges start count old new (λ byte from to. within byte (inl (from, to)))
    (some_lie reads ranges (logged start count old) new (λ byte is. within byte (inr is)) more)

pub all_lie : (reads ranges : List (ℕ × ℕ)) (old new : Option (List (ℕ × ℕ))) → ((byte : ℕ) → LiesIn reads byte → LiesIn ranges byte) → new ≡ logged_all reads old → LogsIn ranges old new
all_lie [] ranges old new within same = nothing ranges old new same
all_lie ((start, count) ∷ reads) ranges old new within same =
    before ranges start count old new (λ byte from to. within byte (inl (from, to)))
    (all_lie reads ranges (logged start count old) new (λ byte is. within byte (inr is)) same)

pub join : (ranges : List (ℕ × ℕ)) (old between new : Option (List (ℕ × ℕ))) → LogsIn ranges old between → LogsIn ranges between new → LogsIn ranges old new
join ranges old between new first second = logs_both (LieIn ranges) old between new first second

-- reads between two places
read_lies : (from to : ℕ) (ranges : List (ℕ × ℕ)) (read : ℕ × ℕ) → ((byte : ℕ) → from ≤ byte → byte < to → LiesIn ranges byte) → IsRangeBetween from to read → LieIn ranges read
read_lies from to ranges read inside within byte first last = inside byte (omega (arith, within.1, first)) (omega (arith, within.2, last))

pub within_lie : (from to : ℕ) (ranges : List (ℕ × ℕ)) (old new : Option (List (ℕ × ℕ))) → ((byte : ℕ) → from ≤ byte → byte < to → LiesIn ranges byte) → LogsWithin from to old new → LogsIn ranges old new
within_lie from to ranges old new inside logs = logs_wider (IsRangeBetween from to) (LieIn ranges) old new (λ read within. read_lies from to ranges read inside within) logs
