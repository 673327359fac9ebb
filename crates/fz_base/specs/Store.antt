-- What the calls of a store do to its bytes, to its length and to its tally. A store is a source that is also written in place: bytes are
-- put over those that it has, or directly after them. Bytes and writes are none if a store does not show them.
use Rattle.std.specs.Prelude.{ℕ, ◌≡◌, ◌+◌, ◌-◌, ◌^◌, ◌≤◌, max, List, [], ◌∷◌, ◌++◌, length, Option, Some, None, Result, OnOk, OnErr, IsErrOf}
use Rattle.std.specs.Option.{option_map}
use Rattle.fz_base.specs.Counts.{Amend, Amended, Rose, Tally}
use Rattle.fz_base.specs.Sink.{written}
use Rattle.fz_base.specs.declared.failure.Failed.{Failed}
use Rattle.fz_base.specs.declared.failure.Failed.TheVariants.{Fault, NoMemory}

-- attached, with at least so many bytes
abbrev pub HasAtLeast : Option ℕ → ℕ → Type 0
HasAtLeast attached least = (n : ℕ) × (attached ≡ Some n) × (least ≤ n)

-- After a write of so many bytes that failed only bytes of its range may be other ones: some bytes, and not more than it has, are there from
-- its start on, and all else is as it was.
abbrev pub MayAmend : ℕ → ℕ → Option (List ℕ) → Option (List ℕ) → Type 0
MayAmend at count old new = (other : List ℕ) × (length other ≤ count) × (new ≡ written at other old)

-- The attached length after a write of so many bytes from a place on: if it succeeded, the greater of the old length and the end of the
-- write, and otherwise between the two.
pub record Reaches {T E : Type 0} (at count : ℕ) (old new : Option ℕ) (result : Result T E) : Type 0 where
  pub before : ℕ
  pub now : ℕ
  pub was : old ≡ Some before
  pub is : new ≡ Some now
  pub ok : OnOk result (now ≡ max before (at + count))
  pub least : before ≤ now
  pub most : now ≤ max before (at + count)

-- the write of these bytes from a place on
abbrev pub amend_of : ℕ → List ℕ → Amend
amend_of at bytes = record { at = at; bytes = bytes }

-- the writes with this one more at their end
abbrev pub with_write : Amend → Option (List Amend) → Option (List Amend)
with_write w writes = option_map (λ ws. ws ++ w ∷ []) writes

-- the tally with this write more
abbrev pub amended_by : Amend → Tally → Tally
amended_by w t =
    record {
      faults = t.faults;
      wants = t.wants;
      names = t.names;
      amended = record { writes = with_write w t.amended.writes; settled = t.amended.settled; faults = t.amended.faults };
    }

-- how many writes are shown; 0 if none are
abbrev pub count_of : Option (List Amend) → ℕ
count_of None = 0
count_of (Some ws) = length ws

-- all writes are settled
abbrev pub IsSettled : Amended → Type 0
IsSettled a = a.settled ≡ count_of a.writes

-- the tally with all its writes settled
abbrev pub settled_by : Tally → Tally
settled_by t =
    record {
      faults = t.faults;
      wants = t.wants;
      names = t.names;
      amended = record { writes = t.amended.writes; settled = count_of t.amended.writes; faults = t.amended.faults };
    }

-- The counts of a store never fall, and one that reached the end of its range stays there. What is settled stays so. It was not opened.
pub record StoreKept (before now : Tally) : Type 0 where
  pub faults_kept : before.faults ≤ now.faults
  pub wants_kept : before.wants ≤ now.wants
  pub write_faults_kept : before.amended.faults ≤ now.amended.faults
  pub settled_kept : before.amended.settled ≤ now.amended.settled
  pub faults_stay : before.faults ≡ 2 ^ 64 - 1 → now.faults ≡ 2 ^ 64 - 1
  pub wants_stay : before.wants ≡ 2 ^ 64 - 1 → now.wants ≡ 2 ^ 64 - 1
  pub write_faults_stay : before.amended.faults ≡ 2 ^ 64 - 1 → now.amended.faults ≡ 2 ^ 64 - 1
  pub names_kept : now.names ≡ before.names

-- A call that writes in place, or settles, changed the tally of its store as its answer says: if it succeeded, to this one. Otherwise the
-- writes are as they were, and the count of write faults rose, or that of wants. It counts no fault of reading.
pub record HasAmended {T : Type 0} (before after now : Tally) (result : Result T Failed) : Type 0 where
  pub kept : StoreKept before now
  pub faults_same : now.faults ≡ before.faults
  pub ok : OnOk result (now ≡ after)
  pub unlogged : OnErr result (now.amended.writes ≡ before.amended.writes)
  pub fault : IsErrOf result Fault → Rose before.amended.faults now.amended.faults
  pub no_memory : IsErrOf result NoMemory → Rose before.wants now.wants
