-- What the look at a packed file learns, if its headers are known, by what the look at its rows says (FITS 4.0, sections 3.1 and 10.1).
use Rattle.std.proofs.Common.{◌≡◌, ℕ, ◌<◌, ◌≤◌, ◌^◌, ◌⊎◌, inl, inr, List, length, refl, sym, ap, ◌∙◌, subst}
use Rattle.std.specs.Prelude.{Option, Some, None, IfSome, IfOk, Result, Ok, Err, if◌then◌else◌}
use Rattle.std.specs.List.{flat_map}
use Rattle.fz_base.specs.Refusal.{refusal}
use Rattle.fz_base.specs.Stop.{IfRefused}
use Rattle.fz_base.specs.declared.fault.Fault.{Fault}
use Rattle.fz_base.specs.declared.fault.Place.TheVariants.{Byte}
use Rattle.fz_base.specs.declared.kind.Kind.TheVariants.{Limit}
use Rattle.fz_base.specs.declared.failure.Stop.{Stop}
use Rattle.fz_base.specs.declared.failure.Stop.TheVariants.{Refused, ReadFault, WriteFault, OverLimit, NoMemory}
use Rattle.fz_block.specs.declared.header.Header.{Header}
use Rattle.fz_files.specs.Decided.{first_fault}
use Rattle.fz_files.specs.FirstFault.{IsFaultBehind, IsFirstFault, IsFirstRowFault, all_rows}
use Rattle.fz_files.specs.Restored.{standing}
use Rattle.fz_files.specs.RestoredFile.{restored, restored_hdu}
use Rattle.fz_files.specs.Retiled.{if_short, plain_of, restored_file, restored_unless}
use Rattle.fz_files.specs.Walks.{headers_for}
use Rattle.fz_files.specs.declared.job.Job.TheVariants.{Unpack}
use Rattle.fz_laws.specs.RoundTrip.{HasNoOtherFault}
use Rattle.fz_job.specs.Surveys.{surveyed}
use Rattle.fz_job.specs.declared.checks.JobChecks.TheVariants.{Unpack as UnpackChecks}
use Rattle.fz_job.specs.declared.survey.Survey.{Survey}
use Rattle.fz_job.specs.Clauses.{TellsFirstFault}
use Rattle.fz_job.specs.Known.{IsKnown, IsList, SurveysKnow}
use Rattle.fz_job.specs.Stages.{HasLargest}
use Rattle.fz_look.specs.Found.{IsSoundFound, looked_with}
use Rattle.fz_look.specs.Looked.{AreLooked, IsFaultAmong, IsLooked, IsLookFault, IsSeen, IsSoundLook}
use Rattle.fz_look.specs.declared.whole_look.Found.{Found}
use Rattle.fz_look.proofs.Tests.{false_lt}

-- the first look at the headers knows this of the file
abbrev pub Knows : Survey → List ℕ → Type 0
Knows s g = surveyed UnpackChecks g ≡ Ok s

-- ---- the file that it stands for

restored_is : (g : List ℕ) → restored g ≡ flat_map (restored_hdu g) (standing g (headers_for Unpack g))
unfolding restored
restored_is g = refl

plain_is : (g : List ℕ) → first_fault Unpack g ≡ None → length (restored g) ≤ 2 ^ 62 → plain_of g ≡ Some (restored g)
unfolding restored_file
plain_is g none short =
    ap (λ (f : Option Fault). if_short (restored_unless f g)) none
    ∙ ap (λ b. if b then None else Some (restored g)) (false_lt (2 ^ 62) (length (restored g)) short)

module _ (know : SurveysKnow Unpack) (s : Survey) where
  -- the first fault of the file is that of its rows
  rows_are : (g : List ℕ) (known : IsKnown Unpack g s) (fault : Option Fault) → IsFirstRowFault g (all_rows g known.headers) fault → IsFirstFault Unpack g fault
  rows_are g known fault rows =
      subst (λ (f : Option Fault). IsFaultBehind f Unpack g fault) (sym known.no_fault) (subst (λ (hs : List Header). IsFirstRowFault g (all_rows g hs) fault) (sym known.are) rows)

  -- what its HDUs stand for is the file that it stands for
  plain_len : (g : List ℕ) (known : IsKnown Unpack g s) → length (restored g) ≡ length (flat_map (restored_hdu g) (standing g known.headers))
  plain_len g known = ap length (restored_is g) ∙ ap (λ (hs : List Header). length (flat_map (restored_hdu g) (standing g hs))) known.are

  looked_by : HasNoOtherFault → (g : List ℕ) → Knows s g → (f : Found) (block : List ℕ) → IsSeen g s f.seen → f.survey ≡ s → f.seen.plain_len ≤ 2 ^ 62 → IsLooked g (looked_with f block)
  looked_by only g exact f block seen same short =
      let known = know g s exact in
      let looked : AreLooked g known.headers f.seen = seen known.headers known.seen in
      let none : IsFirstFault Unpack g None = rows_are g known None looked.sound in
      let long : length (restored g) ≡ f.seen.plain_len = plain_len g known ∙ sym looked.bytes in
      record {
        sound = none;
        plain = plain_is g (sym (only Unpack g None none)) (subst (λ n. n ≤ 2 ^ 62) (sym long) short);
        len = long;
        surveyed = exact ∙ ap Ok (sym same);
        headers = known.headers;
        list = subst (λ (t : Survey). IsList g t known.headers) (sym same) known.seen;
        first = looked.first;
      }

  pub work_looked : HasNoOtherFault → (held : Option (List ℕ)) (length_is : ℕ) (block : List ℕ) → length block ≡ 2880 → (r : Result Found Stop) → IfSome held (Knows s) → IfOk r (λ f. IfSome held (λ g. IsSeen g s f.seen)) →
      IfOk r (λ f. (f.survey ≡ s) × IsSoundFound length_is f) → IfOk r (λ f. IfSome held (λ g. IsLooked g (looked_with f block)))
  work_looked only None length_is block whole (Ok f) exact seen sound = tt
  work_looked only (Some g) length_is block whole (Ok f) exact seen sound = looked_by only g exact f block seen sound.0 (sound.1 block whole).short
  work_looked only held length_is block whole (Err stop) exact seen sound = tt

  pub work_sound : (length_is : ℕ) (block : List ℕ) → length block ≡ 2880 → (r : Result Found Stop) → IfOk r (λ f. (f.survey ≡ s) × IsSoundFound length_is f) → IfOk r (λ f. IsSoundLook length_is (looked_with f block))
  work_sound length_is block whole (Ok f) sound = sound.1 block whole
  work_sound length_is block whole (Err stop) sound = tt

  -- ---- what is refused

  fault_by : (g : List ℕ) → Knows s g → (x : Fault) → IsFaultAmong g s x → IsLookFault g x
  fault_by g exact x among = let known = know g s exact in by_side known (among known.headers known.seen)
    where
      by_side : (known : IsKnown Unpack g s) → IsFirstRowFault g (all_rows g known.headers) (Some x)
          ⊎ (IsFirstRowFault g (all_rows g known.headers) None × (2 ^ 62 < length (flat_map (restored_hdu g) (standing g known.headers))) × (x ≡ refusal (length known.headers) (Byte (length g)) Limit)) → IsLookFault g x
      by_side known (inl rows) = inl (rows_are g known (Some x) rows)
      by_side known (inr long) = inr (
        rows_are g known None long.0,
        subst (λ n. 2 ^ 62 < n) (sym (plain_len g known)) long.1,
        long.2 ∙ ap (λ (hs : List Header). refusal (length hs) (Byte (length g)) Limit) (sym known.are),
      )

  pub work_faulty : {X : Type 0} (held : Option (List ℕ)) (r : Result X Stop) → IfSome held (Knows s) → IfRefused r (λ x. IfSome held (λ g. IsFaultAmong g s x)) → IfRefused r (λ x. IfSome held (λ g. IsLookFault g x))
  work_faulty held (Ok x) exact fault = tt
  work_faulty None (Err (Refused x)) exact fault = tt
  work_faulty (Some g) (Err (Refused x)) exact fault = fault_by g exact x fault
  work_faulty held (Err ReadFault) exact fault = tt
  work_faulty held (Err WriteFault) exact fault = tt
  work_faulty held (Err (OverLimit live asked limit)) exact fault = tt
  work_faulty held (Err NoMemory) exact fault = tt

  -- what the work wants
  pub learnt : (held : Option (List ℕ)) → IfSome held (Knows s) → IfSome held (HasLargest Unpack s.header_len s.tile)
  learnt None exact = tt
  learnt (Some g) exact = let known = know g s exact in record { no_fault = known.no_fault; longest = known.longest; largest = known.largest }

-- a header is refused
pub header_refused : (X : Type 0) (held : Option (List ℕ)) (stop : Stop) → TellsFirstFault {X = X} Unpack held (Err stop) → IfRefused {X = X} (Err stop) (λ x. IfSome held (λ g. IsLookFault g x))
header_refused X None (Refused x) fault = tt
header_refused X (Some g) (Refused x) fault = inl fault
header_refused X held ReadFault fault = tt
header_refused X held WriteFault fault = tt
header_refused X held (OverLimit live asked limit) fault = tt
header_refused X held NoMemory fault = tt
