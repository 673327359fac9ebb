-- The first fault of a file: one of the headers, or else one of the rows.
use Rattle.std.proofs.Common.{◌≡◌, ◌⊎◌, inl, inr, ℕ, List, Option, Some, None, refl, sym, ◌∙◌, subst}
use Rattle.fz_base.specs.declared.fault.Fault.{Fault}
use Rattle.fz_base.specs.declared.fault.Place.TheVariants.{Byte, Card, Row as AtRow}
use Rattle.fz_files.specs.declared.job.Job.{Job}
use Rattle.fz_files.specs.Ends.{WalksEndAtTheFault}
use Rattle.fz_files.specs.FirstFault.{IsFaultBehind, IsFaultThen, IsFirstFault, IsFirstRowFault, IsRowsFault, rows_for, all_rows}
use Rattle.std.specs.Prelude.{◌^◌, nat_lt, Bool, true, false, length, Result, Ok, Err, if◌then◌else◌}
use Rattle.fz_block.specs.Checks.{walk_of}
use Rattle.fz_block.specs.declared.header.Header.{Header}
use Rattle.fz_checks.specs.Judges.{unpack_judge}
use Rattle.fz_head.specs.declared.options.PackOptions.{PackOptions}
use Rattle.fz_files.specs.PlainFault.{plain_fault, too_long}
use Rattle.fz_files.specs.RestoredFile.{restored}
use Rattle.fz_files.specs.Walks.{fault_of_walk, header_fault, headers_for, job_walk}
use Rattle.fz_files.specs.declared.job.Job.TheVariants.{Pack, Unpack, Cut, Verify, List as ListHdus, Drill, Retile}
use Rattle.fz_laws.specs.Places.{BytesLie, CardLies, CardsLie, IsByteOf, LooksAtOneFile, RetileFaultsAreOfBoth, RowLies, RowsLie}
use Rattle.fz_laws.proofs.PlaceRows.{Laws, row_lies, row_place}
use Rattle.fz_laws.proofs.PlaceWalks.{byte_lies, card_lies, no_row}

first_of : (job : Job) (file : List ℕ) (x : Fault) → IsFirstFault job file (Some x) → (header_fault job file ≡ Some x) ⊎ ((header_fault job file ≡ None) × IsRowsFault job file (Some x))
first_of job file x first = by_found (header_fault job file) refl first
  where
    by_found : (found : Option Fault) → header_fault job file ≡ found → IsFaultBehind found job file (Some x) → (header_fault job file ≡ Some x) ⊎ ((header_fault job file ≡ None) × IsRowsFault job file (Some x))
    by_found (Some y) is behind = inl (is ∙ sym behind)
    by_found None is behind = inr (is, behind)

-- among the rows, for a job that looks at one file
among : (job : Job) (file : List ℕ) (x : Fault) → LooksAtOneFile job → IsRowsFault job file (Some x) → IsFirstRowFault file (rows_for job file (headers_for job file)) (Some x)
among (Pack o) file x one is = is
among Unpack file x one is = is
among (Cut wanted sieve) file x one is = is
among Verify file x one is = is
among ListHdus file x one is = is
among (Drill rows) file x one is = is
among (Retile o) file x one is = absurd one

row_is_no_byte : {A : Type 0} (r p : ℕ) → AtRow r ≡ Byte p → A
row_is_no_byte r p e = absurd cc

row_is_no_card : {A : Type 0} (r i : ℕ) → AtRow r ≡ Card i → A
row_is_no_card r i e = absurd cc

pub bytes_lie : Laws → BytesLie
bytes_lie laws job file x p one first at = by_first (first_of job file x first)
  where
    by_first : (header_fault job file ≡ Some x) ⊎ ((header_fault job file ≡ None) × IsRowsFault job file (Some x)) → IsByteOf file x.kind p
    by_first (inl e) = byte_lies laws.find laws.count job file x p at e
    by_first (inr (none, rows)) =
        let row = row_place file (rows_for job file (headers_for job file)) x (among job file x one rows) in
        row_is_no_byte row.0 p (sym row.1 ∙ at)

pub cards_lie : Laws → WalksEndAtTheFault → CardsLie
cards_lie laws ends job file x i one first at = by_first (first_of job file x first)
  where
    by_first : (header_fault job file ≡ Some x) ⊎ ((header_fault job file ≡ None) × IsRowsFault job file (Some x)) → CardLies job file x i
    by_first (inl e) = card_lies laws.find laws.count ends job file x i at e
    by_first (inr (none, rows)) =
        let row = row_place file (rows_for job file (headers_for job file)) x (among job file x one rows) in
        row_is_no_card row.0 i (sym row.1 ∙ at)

pub rows_lie : Laws → WalksEndAtTheFault → RowsLie
rows_lie laws ends job file x row one first at = by_first (first_of job file x first)
  where
    by_first : (header_fault job file ≡ Some x) ⊎ ((header_fault job file ≡ None) × IsRowsFault job file (Some x)) → RowLies job file x row
    by_first (inl e) = absurd (no_row laws.find laws.count ends job file x row at e)
    by_first (inr (none, rows)) = row_lies laws job file x row at none (among job file x one rows)

-- ---- a job that looks at two files

header_walk : (o : PackOptions) (file : List ℕ) → header_fault (Retile o) file ≡ header_fault Unpack file
unfolding job_walk
header_walk o file = by_walk (walk_of (unpack_judge file) 65536 file)
  where
    by_walk : (r : Result (List Header) Fault) → fault_of_walk (Retile o) file r ≡ fault_of_walk Unpack file r
    by_walk (Ok hs) = refl
    by_walk (Err fault) = refl

same_headers : (o : PackOptions) (file : List ℕ) → headers_for (Retile o) file ≡ headers_for Unpack file
unfolding job_walk
same_headers o file = refl

plain_is : (o : PackOptions) (file : List ℕ) (x : Fault) → plain_fault o file ≡ Some x → (x ≡ too_long file) ⊎ IsFirstFault (Pack o) (restored file) (Some x)
unfolding plain_fault
plain_is o file x is = by_length (nat_lt (2 ^ 62) (length (restored file))) is
  where
    by_length : (long : Bool) → (if long then Some (too_long file) else header_fault (Pack o) (restored file)) ≡ Some x → (x ≡ too_long file) ⊎ IsFirstFault (Pack o) (restored file) (Some x)
    by_length true same = inl cc
    by_length false same = inr (subst (λ (r : Option Fault). IsFaultBehind r (Pack o) (restored file) (Some x)) (sym same) refl)

pub retile_faults : RetileFaultsAreOfBoth
retile_faults o file x first = by_found (header_fault (Retile o) file) refl first
  where
    by_rows : header_fault Unpack file ≡ None → IsFaultThen file (all_rows file (headers_for (Retile o) file)) (plain_fault o file) (Some x) →
        IsFirstFault Unpack file (Some x) ⊎ ((x ≡ too_long file) ⊎ IsFirstFault (Pack o) (restored file) (Some x))
    by_rows none (inl rows) =
        inl (subst (λ (r : Option Fault). IsFaultBehind r Unpack file (Some x)) (sym none) (subst (λ (hs : List Header). IsFirstRowFault file (all_rows file hs) (Some x)) (same_headers o file) rows))
    by_rows none (inr (sound, plain)) = inr (plain_is o file x plain)

    by_found : (found : Option Fault) → header_fault (Retile o) file ≡ found → IsFaultBehind found (Retile o) file (Some x) →
        IsFirstFault Unpack file (Some x) ⊎ ((x ≡ too_long file) ⊎ IsFirstFault (Pack o) (restored file) (Some x))
    by_found (Some y) is behind = inl (subst (λ (r : Option Fault). IsFaultBehind r Unpack file (Some x)) (sym (sym (header_walk o file) ∙ is)) behind)
    by_found None is behind = by_rows (sym (header_walk o file) ∙ is) behind
