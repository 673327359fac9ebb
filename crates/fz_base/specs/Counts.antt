-- Counts of faults and of wants. They never fall, and stay at 2 ^ 64 - 1. With them is what else every call keeps that does not say
-- otherwise: the names that were opened or made, and what was written in place.
use Rattle.std.specs.Prelude.{ℕ, ◌≡◌, ◌+◌, ◌-◌, ◌^◌, ◌≤◌, min, List, Option, None, Contains, Result, OnOk, IsErrOf}
use Rattle.fz_base.specs.declared.calls.Counts.{Counts}
use Rattle.fz_base.specs.declared.failure.Failed.{Failed}
use Rattle.fz_base.specs.declared.failure.Failed.TheVariants.{Fault, NoMemory}

-- the count rose, or is at the end of its range
abbrev pub Rose : ℕ → ℕ → Type 0
Rose before now = min (before + 1) (2 ^ 64 - 1) ≤ now

-- one write in place: the byte at which it begins, and its bytes
pub record Amend : Type 0 where
  pub at : ℕ
  pub bytes : List ℕ

-- What was written in place in an object: the writes, one after another, if it shows them; how many of these, from the first on, are
-- settled, which is to say on the disk before any later write is; and how often one failed.
pub record Amended : Type 0 where
  pub writes : Option (List Amend)
  pub settled : ℕ
  pub faults : ℕ

-- of an object in which nothing is written in place
abbrev pub unamended : Amended
unamended = record { writes = None; settled = 0; faults = 0 }

-- How often the calls of an object failed, and how often one found no memory; the names by which it was opened or made, one after
-- another, if it shows them; and what was written in place.
pub record Tally : Type 0 where
  pub faults : ℕ
  pub wants : ℕ
  pub names : Option (List (List ℕ))
  pub amended : Amended

-- before the first call, of an object that does not show names
abbrev pub uncounted : Tally
uncounted = record { faults = 0; wants = 0; names = None; amended = unamended }

-- the tally of an object that does not show names
abbrev pub tally_of : Counts → Tally
tally_of counts = record { faults = counts.faults; wants = counts.wants; names = None; amended = unamended }

-- the tally of a store that shows these writes, of which so many are settled, and no names
abbrev pub store_tally : Option (List Amend) → ℕ → Counts → Tally
store_tally writes settled counts =
    record {
      faults = counts.faults;
      wants = counts.wants;
      names = None;
      amended = record { writes = writes; settled = settled; faults = counts.write_faults };
    }

-- a tally without its names, for a call that may open or make: only its counts are said
abbrev pub nameless : Tally → Tally
nameless t = record { faults = t.faults; wants = t.wants; names = None; amended = t.amended }

-- Counts never fall, and one that reached the end of its range stays there. Nothing was opened or made, and nothing was written in place.
pub record CountsKept (before now : Tally) : Type 0 where
  pub faults_kept : before.faults ≤ now.faults
  pub wants_kept : before.wants ≤ now.wants
  pub faults_stay : before.faults ≡ 2 ^ 64 - 1 → now.faults ≡ 2 ^ 64 - 1
  pub wants_stay : before.wants ≡ 2 ^ 64 - 1 → now.wants ≡ 2 ^ 64 - 1
  pub names_kept : now.names ≡ before.names
  pub not_amended : now.amended ≡ before.amended

-- a call of an object changed its counts as its answer says
pub record HasCause {T : Type 0} (before now : Tally) (result : Result T Failed) : Type 0 where
  pub kept : CountsKept before now
  pub ok : OnOk result (now ≡ before)
  pub fault : IsErrOf result Fault → Rose before.faults now.faults
  pub no_memory : IsErrOf result NoMemory → Rose before.wants now.wants

-- one more, up to the end of the range
abbrev pub counted : ℕ → ℕ
counted before = min (before + 1) (2 ^ 64 - 1)

-- the call of this number counted one fault if it is among those that fail, and otherwise none
abbrev pub CountsFault : List ℕ → ℕ → ℕ → ℕ → Type 0
CountsFault failing number faults faults' =
    (Contains failing number → faults' ≡ counted faults) × (¬ Contains failing number → faults' ≡ faults)
