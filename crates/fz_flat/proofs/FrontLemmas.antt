-- Where the faults are that end the search for the blocks of a header.
use Rattle.std.proofs.Common.{◌≡◌, ℕ, ◌≤◌, Bool, true, false, List, [], ◌∷◌, length, refl, subst, arith}
use Rattle.std.specs.List.{AllByRecursion}
use Rattle.std.specs.Prelude.{Option, Some, None, Err}
use Rattle.fz_base.specs.Counts.{uncounted}
use Rattle.fz_base.specs.Refusal.{first_refusal}
use Rattle.fz_base.specs.Stop.{StoppedReading}
use Rattle.fz_base.specs.declared.failure.Stop.{Stop}
use Rattle.fz_base.specs.declared.failure.Stop.TheVariants.{Refused, ReadFault, WriteFault, OverLimit, NoMemory}
use Rattle.fz_base.specs.declared.fault.Fault.{Fault}
use Rattle.fz_block.specs.Checks.{block_checks, blocks_to_end, header_blocks_of, header_room, unless_refused}
use Rattle.fz_block.specs.Cards.{end_of}
use Rattle.fz_flat.specs.Fronts.{IsByteWithin}

-- the fault of a list of checks is that of one of them
refused-all : (P : Fault → Type 0) (checks : List (Bool × Fault)) (x : Fault) → AllByRecursion (λ check. P check.1) checks → first_refusal checks ≡ Some x → P x
refused-all P [] x all e = absurd (let h : ⊥ = cc in h)
refused-all P ((true, fault) ∷ checks) x all e = let same : fault ≡ x = cc in subst P same all.0
refused-all P ((false, fault) ∷ checks) x all e = refused-all P checks x all.1 e

refused-by : {A : Type 0} (answer : A) (o : Option Fault) (x : Fault) → unless_refused answer o ≡ Err x → o ≡ Some x
refused-by answer None x e = absurd (let h : ⊥ = cc in h)
refused-by answer (Some fault) x e = cc

-- bytes as a file of their own: a fault names the first byte, or the end
pub place-within : (k : ℕ) (bytes : List ℕ) (x : Fault) → header_blocks_of k 0 bytes ≡ Err x → IsByteWithin (length bytes) x.at
unfolding header_blocks_of
place-within k bytes x e =
    let zero : 0 ≤ length bytes = omega arith in
    let end : length bytes ≤ length bytes = omega arith in
    refused-all (λ (y : Fault). IsByteWithin (length bytes) y.at) (block_checks k 0 bytes) x
    (zero, (zero, (end, (tt, (zero, (end, tt))))))
    (refused-by (blocks_to_end (end_of (header_room 0 bytes))) (first_refusal (block_checks k 0 bytes)) x e)

-- a source that never fails stops no reading but by what the bytes say
pub only-refused : (stop : Stop) → StoppedReading uncounted uncounted stop → (x : Fault) × (stop ≡ Refused x)
only-refused (Refused x) e = (x, refl)
only-refused ReadFault e = absurd (omega (arith, e))
only-refused WriteFault e = absurd e
only-refused (OverLimit live asked limit) e = absurd e
only-refused NoMemory e = absurd (omega (arith, e))
