-- The lines of HDUs that were seen at the first look, one after another (FITS 4.0, sections 3.1 and 10.1).
use Rattle.std.specs.Prelude.{ℕ, ◌≡◌, ◌⊎◌, not, Bool, List, [], ◌∷◌, ◌++◌, length, Option, Some, None, Result, Ok, Err, ⊤}
use Rattle.std.specs.List.{flat_map, list_any}
use Rattle.fz_base.specs.Sink.{MayAppend, appended}
use Rattle.fz_base.specs.declared.fault.Fault.{Fault}
use Rattle.fz_base.specs.declared.failure.Stop.{Stop}
use Rattle.fz_base.specs.declared.failure.Stop.TheVariants.{Refused, ReadFault, WriteFault, OverLimit, NoMemory}
use Rattle.fz_block.specs.declared.header.Header.{Header}
use Rattle.fz_checks.specs.JobChecks.{is_after_empty}
use Rattle.fz_files.specs.FirstFault.{IsFirstRowFault, all_rows}
use Rattle.fz_files.specs.Lines.{before_fault, has_wrong_sum, list_line, verify_line}
use Rattle.fz_job.specs.declared.survey.Survey.{Survey}
use Rattle.fz_job.specs.Again.{WereSeen}
use Rattle.fz_job.specs.Known.{IsList}
use Rattle.fz_verify.specs.Rows.{IsHduFault, IsHduSound}

-- the lines of HDUs
abbrev pub list_lines : List ℕ → List Header → List ℕ
list_lines file hs = flat_map (list_line file) hs

abbrev pub verify_lines : List ℕ → List Header → List ℕ
verify_lines file hs = flat_map (verify_line file) hs

-- ---- those of `list`

-- After Ok the text has got all lines, and after an error a prefix of them. Nothing is refused that was seen.
abbrev pub GotListed : {X : Type 0} → List ℕ → Option (List ℕ) → Option (List ℕ) → Result X Stop → Type 0
GotListed lines old new (Ok x) = new ≡ appended lines old
GotListed lines old new (Err (Refused x)) = ⊥
GotListed lines old new (Err ReadFault) = MayAppend lines old new
GotListed lines old new (Err WriteFault) = MayAppend lines old new
GotListed lines old new (Err (OverLimit live asked limit)) = MayAppend lines old new
GotListed lines old new (Err NoMemory) = MayAppend lines old new

abbrev pub ListsSeen : {X : Type 0} → List ℕ → Survey → Option (List ℕ) → Option (List ℕ) → Result X Stop → Type 0
ListsSeen file s old new result = (hs : List Header) → IsList file s hs → GotListed (list_lines file hs) old new result

-- ---- those of `verify`

-- the text has got the lines of the HDUs before the fault, or of all if there is none
abbrev pub GotBefore : List ℕ → List Header → Option Fault → Option (List ℕ) → Option (List ℕ) → Type 0
GotBefore file hs fault old new = new ≡ appended (verify_lines file (before_fault fault hs)) old

-- it has got a prefix of these lines, whatever the first fault of the rows is
abbrev pub GotSome : List ℕ → List Header → Option (List ℕ) → Option (List ℕ) → Type 0
GotSome file hs old new = (fault : Option Fault) → IsFirstRowFault file (all_rows file hs) fault → MayAppend (verify_lines file (before_fault fault hs)) old new

-- no row of these HDUs is refused, and so many of their sums are wrong: none, or some
pub record AreVerified (file : List ℕ) (hs : List Header) (right : Bool) : Type 0 where
  pub sound : IsFirstRowFault file (all_rows file hs) None
  pub judged : right ≡ not (list_any (has_wrong_sum file) hs)

abbrev pub GotVerified : List ℕ → List Header → Option (List ℕ) → Option (List ℕ) → Result Bool Stop → Type 0
GotVerified file hs old new (Ok right) = AreVerified file hs right × GotBefore file hs None old new
GotVerified file hs old new (Err (Refused x)) = IsFirstRowFault file (all_rows file hs) (Some x) × GotBefore file hs (Some x) old new
GotVerified file hs old new (Err ReadFault) = GotSome file hs old new
GotVerified file hs old new (Err WriteFault) = GotSome file hs old new
GotVerified file hs old new (Err (OverLimit live asked limit)) = GotSome file hs old new
GotVerified file hs old new (Err NoMemory) = GotSome file hs old new

abbrev pub VerifiesSeen : List ℕ → Survey → Option (List ℕ) → Option (List ℕ) → Result Bool Stop → Type 0
VerifiesSeen file s old new result = (hs : List Header) → IsList file s hs → GotVerified file hs old new result

-- the HDUs of the file were seen, and none of their rows is refused
pub record AreRowsSound (s : Survey) (file : List ℕ) : Type 0 where
  pub headers : List Header
  pub seen : IsList file s headers
  pub sound : IsFirstRowFault file (all_rows file headers) None

-- ---- so far

-- the flag says of the first of some HDUs whether it is HDU 1 after a primary with NAXIS 0
abbrev pub SaysBehind : List ℕ → Bool → List Header → Type 0
SaysBehind file after_empty [] = ⊤
SaysBehind file after_empty (h ∷ hs) = after_empty ≡ is_after_empty file h

-- Of a file with these headers those before number k are done, and those from number k on begin at this byte.
pub record IsPart (file : List ℕ) (s : Survey) (hs done : List Header) (k start : ℕ) (after_empty : Bool) : Type 0 where
  pub rest : List Header
  pub parts : hs ≡ done ++ rest
  pub count : length done ≡ k
  pub seen : WereSeen file s.header_len s.tile k start rest
  pub flag : SaysBehind file after_empty rest
  pub first : k ≡ 0 → start ≡ 0

-- their lines were printed
pub record AreListed (file : List ℕ) (s : Survey) (hs : List Header) (k start : ℕ) (after_empty : Bool) (old now : Option (List ℕ)) : Type 0 where
  pub done : List Header
  pub part : IsPart file s hs done k start after_empty
  pub contents : now ≡ appended (list_lines file done) old

pub record AreChecked (file : List ℕ) (s : Survey) (hs : List Header) (k start : ℕ) (after_empty right : Bool) (old now : Option (List ℕ)) : Type 0 where
  pub done : List Header
  pub part : IsPart file s hs done k start after_empty
  pub contents : now ≡ appended (verify_lines file done) old
  pub verified : AreVerified file done right

-- the same of a file, if its HDUs were seen
abbrev pub IsListing : Survey → ℕ → ℕ → Bool → Option (List ℕ) → Option (List ℕ) → List ℕ → Type 0
IsListing s k start after_empty old now file = (hs : List Header) → IsList file s hs → AreListed file s hs k start after_empty old now

abbrev pub IsChecking : Survey → ℕ → ℕ → Bool → Bool → Option (List ℕ) → Option (List ℕ) → List ℕ → Type 0
IsChecking s k start after_empty right old now file = (hs : List Header) → IsList file s hs → AreChecked file s hs k start after_empty right old now

-- ---- one HDU

-- its line was printed
abbrev pub GotLine : List ℕ → Header → Option (List ℕ) → Option (List ℕ) → Type 0
GotLine file h old new = new ≡ appended (verify_line file h) old

-- its rows are sound, and a prefix of its line was printed, which may be none; or nothing was printed
abbrev pub GotLineFront : List ℕ → Header → Option (List ℕ) → Option (List ℕ) → Type 0
GotLineFront file h old new = (IsHduSound file h × MayAppend (verify_line file h) old new) ⊎ (new ≡ old)

-- After Ok its rows are sound, its line was printed, and the answer says whether no sum is wrong. A refusal gives its first faulty row,
-- and then nothing was printed of it.
abbrev pub ChecksHdu : List ℕ → Header → Option (List ℕ) → Option (List ℕ) → Result Bool Stop → Type 0
ChecksHdu file h old new (Ok right) = IsHduSound file h × (right ≡ not (has_wrong_sum file h)) × GotLine file h old new
ChecksHdu file h old new (Err (Refused x)) = IsHduFault file h x × (new ≡ old)
ChecksHdu file h old new (Err ReadFault) = GotLineFront file h old new
ChecksHdu file h old new (Err WriteFault) = GotLineFront file h old new
ChecksHdu file h old new (Err (OverLimit live asked limit)) = GotLineFront file h old new
ChecksHdu file h old new (Err NoMemory) = GotLineFront file h old new
