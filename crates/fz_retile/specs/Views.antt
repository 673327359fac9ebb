-- What a view shows: the bytes of the file that a packed file stands for, and counts (FITS 4.0, section 10.1).
use Rattle.std.specs.Prelude.{ℕ, ◌≡◌, ◌+◌, ◌-◌, ◌^◌, ◌≤◌, ◌==◌, ◌&&◌, ◌||◌, nat_le, nat_lt, min, Bool, true}
use Rattle.std.specs.Prelude.{false, List, [], ◌∷◌, length, take, drop, IfSome, Option, Some, None, refl, OnErr, OnOk, Result}
use Rattle.std.specs.List.{list_all, range_with_len}
use Rattle.std.specs.Option.{ForSome}
use Rattle.std.proofs.Common.{◌∙◌, subst}
use Rattle.std.proofs.lemmas.Option.{same_Some}
use Rattle.fz_base.specs.Counts.{Tally, counted}
use Rattle.fz_base.specs.declared.failure.Failed.{Failed}
use Rattle.fz_base.specs.declared.fault.Fault.{Fault}
use Rattle.fz_base.specs.declared.fault.Place.{Place}
use Rattle.fz_base.specs.declared.fault.Place.TheVariants.{Byte, Card, Row}
use Rattle.fz_base.specs.declared.kind.Kind.{Kind}
use Rattle.fz_base.specs.declared.kind.Kind.TheVariants.{BadCard}
use Rattle.fz_base.specs.declared.failure.Failed.TheVariants.{Fault as IsFault, NoMemory as IsWant}
use Rattle.fz_base.specs.declared.failure.Stop.{Stop}
use Rattle.fz_base.specs.declared.failure.Stop.TheVariants.{Refused, ReadFault, WriteFault, OverLimit, NoMemory}
use Rattle.fz_base.specs.Source.{HoldsLength}
use Rattle.fz_files.specs.Retiled.{plain_of}

-- the file that bytes stand for, if they are shown and stand for one of at most 2^62 bytes
abbrev pub restored_from : Option (List ℕ) → Option (List ℕ)
restored_from None = None
restored_from (Some g) = plain_of g

-- two counts together, up to the end of the range
abbrev pub together : ℕ → ℕ → ℕ
together a b = min (a + b) (2 ^ 64 - 1)

-- the counts of a source, and more faults beside them: a view does not show names
abbrev pub with_more : Tally → ℕ → Tally
with_more t more = record { faults = together t.faults more; wants = t.wants; names = None; amended = t.amended }

-- the first n bytes of a buffer are those of a file from a place on, if it is shown
abbrev pub ReadsFront : Option (List ℕ) → ℕ → ℕ → List ℕ → Type 0
ReadsFront plain at n buffer = IfSome plain (λ u. take n buffer ≡ take n (drop at u))

-- ---- why a reading of the view failed

-- what the view answers if a call on its source stopped, and its own count of faults then
abbrev pub failed_by : Stop → Failed
failed_by (Refused x) = IsFault
failed_by ReadFault = IsFault
failed_by WriteFault = IsFault
failed_by (OverLimit live asked limit) = IsFault
failed_by NoMemory = IsWant

abbrev pub more_by : Stop → ℕ → ℕ
more_by (Refused x) more = counted more
more_by ReadFault more = more
more_by WriteFault more = more
more_by (OverLimit live asked limit) more = more
more_by NoMemory more = more

-- the first of what was kept and this
abbrev pub or_first : {T : Type 0} → Option T → T → Option T
or_first None x = Some x
or_first (Some first) x = Some first

-- the first reading of the source that failed, after one more call on it stopped
abbrev pub failed_after : Stop → Option Failed → Option Failed
failed_after (Refused x) failed = failed
failed_after ReadFault failed = or_first failed IsFault
failed_after WriteFault failed = or_first failed IsFault
failed_after (OverLimit live asked limit) failed = or_first failed IsFault
failed_after NoMemory failed = or_first failed IsWant

-- and the first refusal of what the look accepted
abbrev pub later_after : Stop → Option Fault → Option Fault
later_after (Refused x) later = or_first later x
later_after ReadFault later = later
later_after WriteFault later = later
later_after (OverLimit live asked limit) later = later
later_after NoMemory later = later

-- A call of a view that answers Ok keeps no refusal anew. A refusal that is kept stays, whatever is refused later.
pub record KeepsFirst {X : Type 0} (later later' : Option Fault) (result : Result X Failed) : Type 0 where
  pub ok : OnOk result (later' ≡ later)
  pub first : OnErr result (IfSome later (λ x. later' ≡ Some x))

-- ---- what was read, and refused, since the look began

-- a byte lies in one of the ranges
abbrev pub lies_in : List (ℕ × ℕ) → ℕ → Bool
lies_in [] byte = false
lies_in ((start, count) ∷ ranges) byte = (nat_le start byte && nat_lt byte (start + count)) || lies_in ranges byte

-- every byte of the ranges that were read does: as a test, since what a view knows of itself is one fact
abbrev pub adds_in : List (ℕ × ℕ) → List (ℕ × ℕ) → List (ℕ × ℕ) → Bool
adds_in ranges [] more = list_all (λ (read : ℕ × ℕ). list_all (lies_in ranges) (range_with_len read.0 read.1)) more
adds_in ranges (r ∷ rs) [] = false
adds_in ranges (r ∷ rs) (s ∷ ss) = (r.0 == s.0 && r.1 == s.1) && adds_in ranges rs ss

abbrev pub reads_in : List (ℕ × ℕ) → Option (List (ℕ × ℕ)) → Option (List (ℕ × ℕ)) → Bool
reads_in ranges None None = true
reads_in ranges None (Some new) = false
reads_in ranges (Some old) None = false
reads_in ranges (Some old) (Some new) = adds_in ranges old new

-- the fault is that of a row, or of an HDU that changed since the look
abbrev pub is_bad_card : Kind → Bool
is_bad_card BadCard = true
is_bad_card kind = false

abbrev pub is_late_at : Place → Kind → Bool
is_late_at (Row row) kind = true
is_late_at (Card n) kind = n == 0 && is_bad_card kind
is_late_at (Byte n) kind = false

abbrev pub is_late : Fault → Bool
is_late x = is_late_at x.at x.kind

-- ---- the laws of a source

-- the length that a view shows is that of its bytes, if these are shown
shown_of : (plain : Option (List ℕ)) (count n : ℕ) → ForSome plain (λ u. length u ≡ count) → Some count ≡ Some n → HoldsLength plain n
shown_of None count n fits e = tt
shown_of (Some u) count n fits e = fits u refl ∙ same_Some count n e

pub agrees_of : (held : Option (List ℕ)) (count n : ℕ) → ForSome (restored_from held) (λ u. length u ≡ count) → Some count ≡ Some n
    → HoldsLength (restored_from held) n
agrees_of held count n fits e = shown_of (restored_from held) count n fits e

-- and is at most 2^62
pub near_of : (count n : ℕ) → count ≤ 2 ^ 62 → Some count ≡ Some n → n ≤ 2 ^ 62
near_of count n short e = subst (λ m. m ≤ 2 ^ 62) (same_Some count n e) short
