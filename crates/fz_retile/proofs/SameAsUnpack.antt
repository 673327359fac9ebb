-- The headers that `retile` looks at, their first fault, and the bytes that it reads are those of `unpack`.
use Rattle.std.proofs.Common.{◌≡◌, ℕ, List, ◌++◌, refl, ap, ◌∙◌}
use Rattle.std.specs.Prelude.{Option, Some, None, Result, Ok, Err}
use Rattle.fz_base.specs.declared.fault.Fault.{Fault}
use Rattle.fz_block.specs.declared.header.Header.{Header}
use Rattle.fz_head.specs.declared.options.PackOptions.{PackOptions}
use Rattle.fz_files.specs.Reads.{header_ranges}
use Rattle.fz_files.specs.Touched.{all_data_touched, touched_by}
use Rattle.fz_files.specs.Walks.{fault_of_walk, header_fault, job_walk, reached_by}
use Rattle.fz_files.specs.declared.job.Job.TheVariants.{Retile, Unpack}

module _ (o : PackOptions) (file : List ℕ) where
  same_walk : job_walk (Retile o) file ≡ job_walk Unpack file
  unfolding job_walk
  same_walk = refl

  same_reached : reached_by (Retile o) file ≡ reached_by Unpack file
  unfolding reached_by
  same_reached = refl

  fault_by : (walk : Result (List Header) Fault) → fault_of_walk (Retile o) file walk ≡ fault_of_walk Unpack file walk
  fault_by (Ok hs) = refl
  fault_by (Err fault) = refl

  pub same_header_fault : header_fault (Retile o) file ≡ header_fault Unpack file
  same_header_fault = ap (fault_of_walk (Retile o) file) same_walk ∙ fault_by (job_walk Unpack file)

  data_by : (found : Option Fault) → all_data_touched found (Retile o) file ≡ all_data_touched found Unpack file
  unfolding all_data_touched job_walk
  data_by None = refl
  data_by (Some fault) = refl

  same_headers : header_ranges (Retile o) file ≡ header_ranges Unpack file
  unfolding reached_by
  same_headers = refl

  pub same_touched : touched_by (Retile o) file ≡ touched_by Unpack file
  same_touched = λ i. same_headers i ++ (ap (λ (found : Option Fault). all_data_touched found (Retile o) file) same_header_fault ∙ data_by (header_fault Unpack file)) i
