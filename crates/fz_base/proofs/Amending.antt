-- Writes in place: how long the bytes are then, that they are octets, and what a failed write counts.
use Rattle.std.proofs.Common.{◌≡◌, ℕ, ◌+◌, ◌-◌, ◌^◌, ◌≤◌, ◌<◌, List, [], ◌∷◌, ◌++◌, length, take, drop, replicate, All, Result, Ok, Err, IsErrOf, ◌∙◌, arith}
use Rattle.std.proofs.lemmas.List.Elements.{All-append, All-drop, All-replicate, All-take}
use Rattle.fz_base.specs.Counts.{Tally, counted}
use Rattle.fz_base.specs.Sink.{overwrite}
use Rattle.fz_base.specs.Store.{HasAmended}
use Rattle.fz_base.specs.declared.failure.Failed.{Failed}
use Rattle.fz_base.specs.declared.failure.Failed.TheVariants.{Fault, NoMemory}
use Rattle.fz_base.proofs.Writes.{write_long}

-- a write does not make the bytes longer than a place that is after both
pub write_below : (at most : ℕ) (bytes old : List ℕ) → length old ≤ most → at + length bytes ≤ most → length (overwrite at bytes old) ≤ most
write_below at most [] old low end = low
write_below at most (b ∷ bytes) old low end = omega (arith, write_long at (b ∷ bytes) old (omega arith), low, end)

-- octets over octets are octets
abbrev IsOctet : ℕ → Type 0
IsOctet byte = byte < 256

pub write_octets : (at : ℕ) (bytes old : List ℕ) → All (λ byte. byte < 256) bytes → All (λ byte. byte < 256) old → All (λ byte. byte < 256) (overwrite at bytes old)
write_octets at [] old new were = were
write_octets at (b ∷ bytes) old new were =
    let front : All IsOctet (take at old ++ replicate (at - length old) 0) = All-append IsOctet (take at old) (replicate (at - length old) 0) (All-take IsOctet at old were) (All-replicate IsOctet (at - length old) 0 (omega arith)) in
    All-append IsOctet ((take at old ++ replicate (at - length old) 0) ++ (b ∷ bytes)) (drop (at + length (b ∷ bytes)) old)
    (All-append IsOctet (take at old ++ replicate (at - length old) 0) (b ∷ bytes) front new) (All-drop IsOctet (at + length (b ∷ bytes)) old were)

-- a failed write counts a fault of writing, and perhaps a want
pub fault_amends : {T : Type 0} (before after now : Tally) (result : Result T Failed) → IsErrOf result Fault → now.faults ≡ before.faults → now.names ≡ before.names →
    now.amended.writes ≡ before.amended.writes → now.amended.settled ≡ before.amended.settled → now.amended.faults ≡ counted before.amended.faults → before.amended.faults ≤ now.amended.faults → before.wants ≤ now.wants → (before.wants ≡ 2 ^ 64 - 1 → now.wants ≡ 2 ^ 64 - 1) →
    HasAmended before after now result
fault_amends before after now (Ok x) answer faults names writes settled rose kept wants stay = absurd cc
fault_amends before after now (Err Fault) answer faults names writes settled rose kept wants stay =
    record {
      kept = record {
        faults_kept = omega (arith, faults);
        wants_kept = wants;
        write_faults_kept = kept;
        settled_kept = omega (arith, settled);
        faults_stay = λ end. faults ∙ end;
        wants_stay = stay;
        write_faults_stay = λ end. omega (arith, rose, end);
        names_kept = names;
      };
      faults_same = faults;
      ok = tt;
      unlogged = writes;
      fault = λ is. omega (arith, rose);
      no_memory = λ is. absurd cc;
    }
fault_amends before after now (Err NoMemory) answer faults names writes settled rose kept wants stay = absurd cc
