-- Why a job that reads and takes stops, from why its calls do, and that a stop takes nothing.
use Rattle.std.proofs.Common.{◌≡◌, ℕ, ◌+◌, ◌*◌, ◌≤◌, max, List, Option, Some, None, IfSome, OnErr, Result, Ok, Err, ap, arith}
use Rattle.fz_base.specs.Counts.{Tally}
use Rattle.fz_base.specs.Stop.{IsDefined, ReadsAndTakes, ReadsOnly, StoppedReading, StoppedTaking, TellsLimit}
use Rattle.fz_base.specs.Takings.{TellsFirstPast, first_past, highest}
use Rattle.fz_base.specs.declared.fault.Fault.{Fault}
use Rattle.fz_base.specs.declared.failure.Stop.{Stop}
use Rattle.fz_base.specs.declared.failure.Stop.TheVariants.{Refused, ReadFault, WriteFault, OverLimit, NoMemory}
use Rattle.fz_block.specs.Checks.{header_blocks_of}
use Rattle.fz_block.specs.Takings.{header_taking}
use Rattle.fz_block.proofs.Nexts.{taking_given}

taking_stop : (before now : Tally) (limit : ℕ) (stop : Stop) → StoppedReading before now stop → StoppedTaking before now limit stop
taking_stop before now limit (Refused x) why = why
taking_stop before now limit ReadFault why = why
taking_stop before now limit WriteFault why = absurd why
taking_stop before now limit (OverLimit live asked told) why = absurd why
taking_stop before now limit NoMemory why = tt

-- a call that read stopped
pub read_stopped : {X Y : Type 0} (before now : Tally) (limit : ℕ) (stop : Stop) → ReadsOnly {X = X} before now (Err stop) → ReadsAndTakes {X = Y} before now limit (Err stop)
read_stopped before now limit stop reads = record { kept = reads.kept; ok = tt; stop = taking_stop before now limit stop reads.stop }

-- all was read
pub read_well : {X Y : Type 0} (before now : Tally) (limit : ℕ) (x : X) (y : Y) → ReadsOnly before now (Ok x) → ReadsAndTakes before now limit (Ok y)
read_well before now limit x y reads = record { kept = reads.kept; ok = reads.ok; stop = tt }

-- all was read, and it is refused
pub read_refused : {X Y : Type 0} (before now : Tally) (limit : ℕ) (x : X) (fault : Fault) → ReadsOnly before now (Ok x) → ReadsAndTakes {X = Y} before now limit (Err (Refused fault))
read_refused before now limit x fault reads = record { kept = reads.kept; ok = tt; stop = reads.ok }

-- a call that reads does not stop at the limit
pub no_limit : (X : Type 0) (before now : Tally) (limit most : ℕ) (stop : Stop) → StoppedReading before now stop → TellsLimit {X = X} limit most (Err stop)
no_limit X before now limit most (Refused x) why = tt
no_limit X before now limit most ReadFault why = tt
no_limit X before now limit most WriteFault why = tt
no_limit X before now limit most (OverLimit live asked told) why = absurd why
no_limit X before now limit most NoMemory why = tt

-- and nothing is taken for a header whose blocks are not found
pub none_taken : (X : Type 0) (held : Option (List ℕ)) (before now : Tally) (limit live k start : ℕ) (stop : Stop) → StoppedReading before now stop → IfSome held (λ g. IsDefined (header_blocks_of k start g) (Err stop)) →
    IfSome held (λ g. TellsFirstPast {X = X} limit (header_taking live (header_blocks_of k start g)) (Err stop))
none_taken X None before now limit live k start stop why e = tt
none_taken X (Some g) before now limit live k start (Refused x) why e = ap (λ b. first_past limit (header_taking live b)) e
none_taken X (Some g) before now limit live k start ReadFault why e = tt
none_taken X (Some g) before now limit live k start WriteFault why e = absurd why
none_taken X (Some g) before now limit live k start (OverLimit l asked told) why e = absurd why
none_taken X (Some g) before now limit live k start NoMemory why e = tt

-- the peak did not rise
pub low_peak : (held : Option (List ℕ)) (old new live k start : ℕ) → new ≡ old → IfSome held (λ g. new ≤ max old (highest (header_taking live (header_blocks_of k start g))))
low_peak None old new live k start same = tt
low_peak (Some g) old new live k start same = omega (arith, same)

-- a header was taken, and its blocks were not read
pub one_taken_then : (X : Type 0) (held : Option (List ℕ)) (before now : Tally) (limit live k start n : ℕ) (stop : Stop) → StoppedReading before now stop → IfSome held (λ g. header_blocks_of k start g ≡ Ok n) → live + 2880 * n ≤ limit →
    IfSome held (λ g. TellsFirstPast {X = X} limit (header_taking live (header_blocks_of k start g)) (Err stop))
one_taken_then X held before now limit live k start n (Refused x) why blocks room = taking_given held limit live k start n blocks room
one_taken_then X None before now limit live k start n ReadFault why blocks room = tt
one_taken_then X (Some g) before now limit live k start n ReadFault why blocks room = tt
one_taken_then X held before now limit live k start n WriteFault why blocks room = absurd why
one_taken_then X held before now limit live k start n (OverLimit l asked told) why blocks room = absurd why
one_taken_then X None before now limit live k start n NoMemory why blocks room = tt
one_taken_then X (Some g) before now limit live k start n NoMemory why blocks room = tt

-- what is said of an error, where it is so of every answer
pub on_error : {A P : Type 0} (r : Result A Stop) → P → OnErr r P
on_error (Ok x) is = tt
on_error (Err stop) is = is
