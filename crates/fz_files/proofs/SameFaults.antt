-- `verify` and `list` refuse what `unpack` refuses.
use Rattle.std.proofs.Common.{◌≡◌, ◌↔◌, ℕ, List, Option, Some, None, Result, Ok, Err, refl, sym, subst}
use Rattle.fz_base.specs.declared.fault.Fault.{Fault}
use Rattle.fz_block.specs.declared.header.Header.{Header}
use Rattle.fz_files.specs.declared.job.Job.TheVariants.{Unpack, Verify, List as ListHdus}
use Rattle.fz_files.specs.FirstFault.{IsFirstFault, IsFaultBehind}
use Rattle.fz_files.specs.Walks.{fault_of_walk, header_fault, job_walk}

verify_walk : (file : List ℕ) (r : Result (List Header) Fault) → fault_of_walk Verify file r ≡ fault_of_walk Unpack file r
verify_walk file (Ok hs) = refl
verify_walk file (Err fault) = refl

list_walk : (file : List ℕ) (r : Result (List Header) Fault) → fault_of_walk ListHdus file r ≡ fault_of_walk Unpack file r
list_walk file (Ok hs) = refl
list_walk file (Err fault) = refl

verify_header : (file : List ℕ) → header_fault Verify file ≡ header_fault Unpack file
unfolding job_walk
verify_header file = verify_walk file (job_walk Unpack file)

list_header : (file : List ℕ) → header_fault ListHdus file ≡ header_fault Unpack file
unfolding job_walk
list_header file = list_walk file (job_walk Unpack file)

behind_same : (file : List ℕ) (refused found : Option Fault) → IsFaultBehind refused Verify file found ↔ IsFaultBehind refused Unpack file found
unfolding job_walk
behind_same file (Some fault) found = (λ is. is, λ is. is)
behind_same file None found = (λ is. is, λ is. is)

pub verify_same : (file : List ℕ) (fault : Option Fault) → IsFirstFault Verify file fault ↔ IsFirstFault Unpack file fault
verify_same file fault = subst (λ r. IsFaultBehind r Verify file fault ↔ IsFirstFault Unpack file fault) (sym (verify_header file)) (behind_same file (header_fault Unpack file) fault)

behind_none : (file : List ℕ) (refused found : Option Fault) → IsFaultBehind refused ListHdus file found ↔ (found ≡ refused)
behind_none file (Some fault) found = (λ is. is, λ is. is)
behind_none file None None = (λ is. refl, λ is. tt)
behind_none file None (Some fault) = (λ is. absurd is, λ is. absurd cc)

pub list_same : (file : List ℕ) (fault : Option Fault) → IsFirstFault ListHdus file fault ↔ (fault ≡ header_fault Unpack file)
list_same file fault = subst (λ r. IsFaultBehind r ListHdus file fault ↔ (fault ≡ header_fault Unpack file)) (sym (list_header file)) (behind_none file (header_fault Unpack file) fault)
