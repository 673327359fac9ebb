-- The look at the HDUs so far, and at one more (FITS 4.0, sections 3.1 and 10.1).
use Rattle.std.proofs.Common.{◌≡◌, ℕ, ◌+◌, ◌*◌, ◌<◌, ◌≤◌, ◌^◌, ◌⊎◌, ◌&&◌, ◌==◌, if◌then◌else◌, not, inl, inr, Bool, true, false, List, [], ◌∷◌, ◌++◌, length, refl, sym, ap, ◌∙◌, subst, arith}
use Rattle.std.specs.Prelude.{Option, Some, None, IfSome, Result, Ok, Err}
use Rattle.std.proofs.lemmas.List.{append_assoc}
use Rattle.std.proofs.lemmas.Bool.Decides.{nat_tests}
use Rattle.std.proofs.Math.Bool.{beq}
use Rattle.std.proofs.Math.Dec.{eqb}
use Rattle.fz_base.specs.Refusal.{refusal}
use Rattle.fz_base.specs.Source.{HoldsLength}
use Rattle.fz_base.specs.Stop.{IfRefused}
use Rattle.fz_base.specs.declared.fault.Fault.{Fault}
use Rattle.fz_base.specs.declared.fault.Place.TheVariants.{Byte}
use Rattle.fz_base.specs.declared.kind.Kind.TheVariants.{Limit}
use Rattle.fz_base.specs.declared.failure.Stop.{Stop}
use Rattle.fz_base.specs.declared.failure.Stop.TheVariants.{Refused, ReadFault, WriteFault, OverLimit, NoMemory}
use Rattle.fz_block.specs.Header.{next_start_of}
use Rattle.fz_block.specs.declared.header.Header.{Header}
use Rattle.fz_checks.specs.JobChecks.{is_after_empty}
use Rattle.fz_files.specs.FirstFault.{IsFirstRowFault, all_rows}
use Rattle.fz_files.specs.Restored.{is_packed_primary}
use Rattle.fz_job.specs.declared.survey.Survey.{Survey}
use Rattle.fz_job.specs.Again.{ReadsAsSeen, WasSeen, WereSeen, is_empty_primary, was_primary_image}
use Rattle.fz_job.specs.Known.{IsList}
use Rattle.fz_job.specs.declared.again.ReadHdu.{ReadHdu}
use Rattle.fz_look.specs.Looked.{AreLooked, IsFaultAmong, IsHduLooked, IsSeen, the_primary, with_counted}
use Rattle.fz_look.specs.declared.hdus.Counted.{Counted}
use Rattle.fz_look.specs.declared.hdus.Seen.{Seen}
use Rattle.fz_look.specs.declared.looked.First.{First}
use Rattle.fz_look.proofs.Counted.{IsBehindOne, first_with, looked_more}
use Rattle.fz_look.proofs.Flags.{SaysBehind, one_behind}
use Rattle.fz_look.proofs.Outcomes.{if_refused}
use Rattle.fz_look.proofs.Parts.{IsPart, all_by_count, never_changed, never_refused, next, none_done, one_done, read_same}
use Rattle.fz_look.proofs.Rows.{fault_among}

-- ---- whatever the source shows

-- the first HDU that stands for something begins within so many bytes
pub record BeginsNear (length_is : ℕ) (f : First) : Type 0 where
  pub zero : f.hdu ≡ 0 → f.start ≡ 0
  pub near : 0 < f.hdu → f.start < length_is
  pub few : f.hdu < 2

-- ---- if it shows its bytes

-- nothing is learnt before the first
abbrev pub nothing_seen : Seen
nothing_seen = record { plain_len = 0; data_len = 0; first = the_primary }

-- of a file with these headers those before number k are looked at
pub record AreLooking (g : List ℕ) (s : Survey) (hs : List Header) (k start : ℕ) (after_empty : Bool) (seen : Seen) : Type 0 where
  pub done : List Header
  pub part : IsPart g s hs done k start after_empty
  pub looked : AreLooked g done seen

abbrev pub IsLooking : Survey → ℕ → ℕ → Bool → Seen → List ℕ → Type 0
IsLooking s k start after_empty seen g = (hs : List Header) → IsList g s hs → AreLooking g s hs k start after_empty seen

one_of : (l : List Header) → length l ≡ 1 → (k : Header) × (l ≡ k ∷ [])
one_of [] long = absurd (omega (arith, long))
one_of (k ∷ []) long = (k, refl)
one_of (k ∷ j ∷ ks) long = absurd (omega (arith, long))

module _ (g : List ℕ) (s : Survey) (hs : List Header) (list : IsList g s hs) (done : List Header) (start : ℕ) (after_empty : Bool) where
  -- HDU 1 is after the primary
  after_primary : (k : ℕ) (p : IsPart g s hs done k start after_empty) (few : k < length hs) (a : ReadHdu) → ReadsAsSeen g k start after_empty s.header_len s.tile (Ok a) → k ≡ 1 → IsBehindOne g done (first_with g a after_empty)
  after_primary k p few a again is_one =
      let more = next g s hs done k start after_empty p few in
      let one = one_of done (p.count ∙ is_one) in
      let parts : hs ≡ one.0 ∷ more.0 ∷ more.1.0 = p.parts ∙ ap (λ l. done ++ l) more.1.1 ∙ ap (λ l. l ++ more.0 ∷ more.1.0) one.1 in
      let were : WereSeen g s.header_len s.tile 0 0 (one.0 ∷ more.0 ∷ more.1.0) = subst (λ l. WereSeen g s.header_len s.tile 0 0 l) parts list.seen in
      let second : WasSeen g 1 (next_start_of one.0) s.header_len s.tile more.0 = were.1.0 in
      let same : a.header ≡ more.0 = read_same g s hs done k start after_empty p few a again in
      let says : after_empty ≡ is_empty_primary one.0 = flag_of p.rest more.0 more.1.0 more.1.1 p.flag ∙ sym (one_behind g s.header_len s.tile one.0 more.0 (next_start_of one.0) were.0 second) in
      (one.0, one.1, λ i. record { hdu = (ap (λ (h : Header). h.hdu) same ∙ second.number) i; start = (ap (λ (h : Header). h.start) same ∙ second.place) i; after_empty = says i })
    where
      flag_of : (rest : List Header) (h : Header) (more : List Header) → rest ≡ h ∷ more → SaysBehind g after_empty rest → after_empty ≡ is_after_empty g h
      flag_of rest h more is flag = subst (λ (l : List Header). SaysBehind g after_empty l) is flag

module _ (s : Survey) where
  pub none_looking : (held : Option (List ℕ)) → IfSome held (IsLooking s 0 0 false nothing_seen)
  none_looking None = tt
  none_looking (Some g) = λ hs list. record { done = []; part = none_done g s hs list; looked = record { sound = tt; bytes = refl; first = refl } }

  pub more_looking : (held : Option (List ℕ)) (k start : ℕ) (flag flag' : Bool) (seen : Seen) (a : ReadHdu) (c : Counted) → k < s.hdus → IfSome held (IsLooking s k start flag seen) →
      IfSome held (λ g. ReadsAsSeen g k start flag s.header_len s.tile (Ok a)) → IfSome held (λ g. IsHduLooked g a.header c) → IfSome held (λ g. is_packed_primary g a.header ≡ (flag && was_primary_image a.image)) →
      (flag ≡ true → k ≡ 1) → flag' ≡ is_empty_primary a.header → IfSome held (IsLooking s (k + 1) (next_start_of a.header) flag' (with_counted seen a flag c))
  more_looking None k start flag flag' seen a c few was again looked alone behind says = tt
  more_looking (Some g) k start flag flag' seen a c few was again looked alone behind says = λ hs list.
      let w = was hs list in
      let little : k < length hs = omega (arith, few, list.count) in
      record {
        done = w.done ++ a.header ∷ [];
        part = one_done g s hs w.done k start flag w.part little a flag' again says;
        looked = looked_more g w.done seen a flag c w.looked looked alone (λ is. after_primary g s hs list w.done start flag k w.part little a again (behind is));
      }

  -- all are looked at
  pub all_seen : (held : Option (List ℕ)) (k start : ℕ) (flag : Bool) (seen : Seen) → s.hdus ≤ k → IfSome held (IsLooking s k start flag seen) → IfSome held (λ g. IsSeen g s seen)
  all_seen None k start flag seen last was = tt
  all_seen (Some g) k start flag seen last was = λ hs list.
      let w = was hs list in
      let all : hs ≡ w.done = all_by_count g s hs w.done k start flag w.part (omega (arith, last, list.count)) in
      subst (λ (l : List Header). AreLooked g l seen) (sym all) w.looked

  -- the header of the next was not read
  pub stops_reading : (held : Option (List ℕ)) (stop : Stop) (k start : ℕ) (flag : Bool) (seen : Seen) → k < s.hdus → IfSome held (IsLooking s k start flag seen) → IfSome held (λ g. ReadsAsSeen g k start flag s.header_len s.tile (Err stop)) →
      IfRefused {X = Seen} (Err stop) (λ x. IfSome held (λ g. IsFaultAmong g s x))
  stops_reading held (Refused x) k start flag seen few was again = by_held held was again
    where
      by_held : (held : Option (List ℕ)) → IfSome held (IsLooking s k start flag seen) → IfSome held (λ g. ReadsAsSeen g k start flag s.header_len s.tile (Err (Refused x))) → IfSome held (λ g. IsFaultAmong g s x)
      by_held None was again = tt
      by_held (Some g) was again = λ hs list. let w = was hs list in absurd (never_refused g s hs w.done k start flag w.part (omega (arith, few, list.count)) (Refused x) again)
  stops_reading held ReadFault k start flag seen few was again = tt
  stops_reading held WriteFault k start flag seen few was again = tt
  stops_reading held (OverLimit live asked limit) k start flag seen few was again = tt
  stops_reading held NoMemory k start flag seen few was again = tt

  -- one of its rows is faulty
  pub stops_counting : (held : Option (List ℕ)) (stop : Stop) (k start : ℕ) (flag : Bool) (seen : Seen) (a : ReadHdu) → k < s.hdus → IfSome held (IsLooking s k start flag seen) →
      IfSome held (λ g. ReadsAsSeen g k start flag s.header_len s.tile (Ok a)) → IfRefused {X = Counted} (Err stop) (λ x. IfSome held (λ g. IsFirstRowFault g (all_rows g (a.header ∷ [])) (Some x))) →
      IfRefused {X = Seen} (Err stop) (λ x. IfSome held (λ g. IsFaultAmong g s x))
  stops_counting held (Refused x) k start flag seen a few was again fault = by_held held was again fault
    where
      by_held : (held : Option (List ℕ)) → IfSome held (IsLooking s k start flag seen) → IfSome held (λ g. ReadsAsSeen g k start flag s.header_len s.tile (Ok a)) →
          IfSome held (λ g. IsFirstRowFault g (all_rows g (a.header ∷ [])) (Some x)) → IfSome held (λ g. IsFaultAmong g s x)
      by_held None was again fault = tt
      by_held (Some g) was again fault = λ hs list.
          let w = was hs list in
          let p = one_done g s hs w.done k start flag w.part (omega (arith, few, list.count)) a (is_empty_primary a.header) again refl in
          let parts : hs ≡ w.done ++ a.header ∷ p.rest = p.parts ∙ append_assoc w.done (a.header ∷ []) p.rest in
          inl (subst (λ (l : List Header). IsFirstRowFault g (all_rows g l) (Some x)) (sym parts) (fault_among g w.done p.rest a.header x w.looked.sound fault))
  stops_counting held ReadFault k start flag seen a few was again fault = tt
  stops_counting held WriteFault k start flag seen a few was again fault = tt
  stops_counting held (OverLimit live asked limit) k start flag seen a few was again fault = tt
  stops_counting held NoMemory k start flag seen a few was again fault = tt

  -- a file was not seen if another HDU than the last ends it, or the last does not
  pub stops_changed : (held : Option (List ℕ)) (len k start : ℕ) (flag : Bool) (seen : Seen) (result : Result Seen Stop) → HoldsLength held len → not (beq (eqb start len) (eqb k s.hdus)) ≡ true →
      IfSome held (IsLooking s k start flag seen) → IfRefused result (λ x. IfSome held (λ g. IsFaultAmong g s x))
  stops_changed held len k start flag seen result told differ was = if_refused result (λ x. IfSome held (λ g. IsFaultAmong g s x)) (λ x. by_held held x told was)
    where
      by_held : (held : Option (List ℕ)) (x : Fault) → HoldsLength held len → IfSome held (IsLooking s k start flag seen) → IfSome held (λ g. IsFaultAmong g s x)
      by_held None x told was = tt
      by_held (Some g) x told was = λ hs list. let w = was hs list in absurd (never_changed g s hs list w.done len k start flag w.part told differ)

  -- what they stand for is too long
  pub stops_long : (held : Option (List ℕ)) (len k start : ℕ) (flag : Bool) (seen : Seen) → HoldsLength held len → s.hdus ≤ k → 2 ^ 62 < seen.plain_len → IfSome held (IsLooking s k start flag seen) →
      IfSome held (λ g. IsFaultAmong g s (refusal s.hdus (Byte len) Limit))
  stops_long None len k start flag seen told last long was = tt
  stops_long (Some g) len k start flag seen told last long was = λ hs list.
      let w = all_seen (Some g) k start flag seen last was hs list in
      inr (w.sound, subst (λ n. 2 ^ 62 < n) w.bytes long, λ i. refusal (sym list.count i) (Byte (sym told i)) Limit)

-- ---- the sum of what they stand for, and the first

-- one more is at most 2^45 bytes longer than the HDU
pub sum_near : (k start next all sum : ℕ) → sum ≤ start + k * 2 ^ 45 → start + all ≤ next + 2 ^ 45 → sum + all ≤ next + (k + 1) * 2 ^ 45
sum_near k start next all sum few more = omega (arith, few, more)

pub sum_more : (b : Bool) (k start next all sum : ℕ) → sum ≤ start + k * 2 ^ 45 → start + all ≤ next + 2 ^ 45 → (if b then all else sum + all) ≤ next + (k + 1) * 2 ^ 45
sum_more true k start next all sum few more = omega (arith, more)
sum_more false k start next all sum few more = sum_near k start next all sum few more

pub begins_more : (len : ℕ) (alone : Bool) (f old : First) → (alone ≡ true → BeginsNear len f) → BeginsNear len old → BeginsNear len (if alone then f else old)
begins_more len true f old here before = here refl
begins_more len false f old here before = before

-- HDU 1 begins there
pub begins_at : (len k start : ℕ) (flag : Bool) → k ≡ 1 → start < len → BeginsNear len (record { hdu = k; start = start; after_empty = flag })
begins_at len k start flag one near = record { zero = λ none. absurd (omega (arith, one, none)); near = λ some. near; few = omega (arith, one) }

-- what follows a primary with NAXIS 0 is HDU 1
pub primary_then : (h : Header) (k : ℕ) → h.hdu ≡ k → is_empty_primary h ≡ true → k + 1 ≡ 1
primary_then h k number empty = by_number (h.hdu == 0) refl
  where
    by_number : (b : Bool) → (h.hdu == 0) ≡ b → k + 1 ≡ 1
    by_number true is = let none : h.hdu ≡ 0 = grind (arith, nat_tests) in omega (arith, number, none)
    by_number false is = let never : false ≡ true = sym (ap (λ b. b && h.axes.n == 0) is) ∙ empty in absurd cc

pub left_true : (b c : Bool) → (b && c) ≡ true → b ≡ true
left_true true c both = refl
left_true false c both = absurd cc

-- an HDU that is not the first begins within the file
pub later_near : (start len k place : ℕ) → k ≡ 1 → place ≡ start → (start < len) ⊎ ((k ≡ 0) × (start ≡ 0)) → place < len
later_near start len k place one is (inl near) = omega (arith, near, is)
later_near start len k place one is (inr none) = absurd (omega (arith, one, none.0))
