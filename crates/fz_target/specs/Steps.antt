-- Writes that were made in a store: a list of them, or some from the first on.
use Rattle.std.specs.Prelude.{ℕ, ◌≡◌, ◌⊎◌, List, ◌++◌, length, take, slice_get, Option, Some, IfSome}
use Rattle.std.specs.Option.{option_map}
use Rattle.fz_base.specs.Counts.{Amend}
use Rattle.fz_base.specs.Refusal.{refusal}
use Rattle.fz_base.specs.Store.{HasAtLeast, MayAmend}
use Rattle.fz_base.specs.declared.fault.Fault.{Fault}
use Rattle.fz_base.specs.declared.fault.Place.TheVariants.{Card}
use Rattle.fz_base.specs.declared.kind.Kind.TheVariants.{BadCard}
use Rattle.fz_block.specs.declared.header.Header.{Header}
use Rattle.fz_files.specs.Restored.{header_in}
use Rattle.fz_laws.specs.Amends.{applied}
use Rattle.fz_table.specs.Records.{IsOfRow}

-- all of these were made
pub record Wrote (ws : List Amend) (held held' : Option (List ℕ)) (writes writes' : Option (List Amend)) : Type 0 where
  pub held_is : held' ≡ option_map (applied ws) held
  pub logged : writes' ≡ option_map (λ before. before ++ ws) writes

-- the file has the first of some writes, and perhaps a part of the next one, which failed
abbrev pub HasFirstOf : ℕ → List Amend → Option (List ℕ) → Option (List ℕ) → Type 0
HasFirstOf count ws held held' =
    (held' ≡ option_map (applied (take count ws)) held)
    ⊎ ((w : Amend) × (slice_get ws count ≡ Some w) × MayAmend w.at (length w.bytes) (option_map (applied (take count ws)) held) held')

-- some were made, from the first on
pub record WroteSome (ws : List Amend) (held held' : Option (List ℕ)) (writes writes' : Option (List Amend)) : Type 0 where
  pub count : ℕ
  pub logged : writes' ≡ option_map (λ before. before ++ take count ws) writes
  pub held_is : HasFirstOf count ws held held'

-- the store is attached with at least as many bytes as before
abbrev pub KeepsReach : Option ℕ → Option ℕ → Type 0
KeepsReach attached attached' = (n : ℕ) → HasAtLeast attached n → HasAtLeast attached' n

-- the faults of a file that gave other bytes than before, reported while the tiles are worked on: those of a row of the HDU, or of the HDU
abbrev pub ComesInWork : ℕ → Fault → Type 0
ComesInWork hdu x = ((tile : ℕ) × IsOfRow hdu tile x) ⊎ (x ≡ refusal hdu (Card 0) BadCard)

-- the header of an HDU stays, if the file shows its bytes
abbrev pub KeepsHeader : Header → Option (List ℕ) → Option (List ℕ) → Type 0
KeepsHeader h held held' = (header : List ℕ) → IfSome held (λ file. header_in file h ≡ header) → IfSome held' (λ file. header_in file h ≡ header)
