-- Which bytes of PATCH a patch may read (FITS 4.0, sections 3.1, 3.3.2 and 4.4.1).
use Rattle.std.specs.Prelude.{ℕ, ◌≡◌, ◌+◌, ◌*◌, ◌/◌, List, [], ◌∷◌, Option, IfSome, Result, Ok, Err}
use Rattle.fz_base.specs.Ranges.{LogsIn}
use Rattle.fz_base.specs.Refusal.{first_refusal}
use Rattle.fz_base.specs.declared.fault.Fault.{Fault}
use Rattle.fz_block.specs.Checks.{headers_of, unless_refused}
use Rattle.fz_block.specs.Header.{data_start_of}
use Rattle.fz_block.specs.declared.header.Header.{Header}
use Rattle.fz_files.specs.Cutout.{header_range}
use Rattle.fz_files.specs.Packed.{pixel_bits}
use Rattle.fz_grid.specs.Arrays.{product}
use Rattle.fz_grid.specs.Sieve.{sieve_lengths}
use Rattle.fz_laws.specs.Given.{PatchJob, given_header}
use Rattle.fz_laws.specs.PatchChecks.{if_all_pass, own_checks, patch_target, wanted_image}
use Rattle.fz_target.specs.Told.{IfBoth}
use Rattle.fz_target.specs.declared.target.Target.{Target}

-- the header of its first HDU, as far as the search for its END looks
abbrev pub given_header_range : List ℕ → ℕ × ℕ
given_header_range patch = header_range patch (record { hdu = 0; start = 0 })

-- its data without their padding, which are the pixels of the box; of a header that is refused none
abbrev pub given_data : Result Header Fault → List (ℕ × ℕ)
given_data (Ok q) = (data_start_of q, q.data_len) ∷ []
given_data (Err fault) = []

-- where they end, as a target has them
abbrev pub pixels_end : Target → ℕ
pixels_end t = t.pixels_at + pixel_bits t.image.plan / 8 * product (sieve_lengths t.sieve)

-- the target has them where PATCH has its data
abbrev pub HasDataOf : List ℕ → Target → Type 0
HasDataOf patch t =
    (q : Header) × (given_header patch ≡ Ok q) × (t.pixels_at ≡ data_start_of q) × (pixels_end t ≡ data_start_of q + q.data_len)

-- the packed image by the checks of FILE that come before PATCH is looked at, or the fault of the first that refuses
abbrev pub own_target : List ℕ → PatchJob → Result Header Fault → Result Header Fault
own_target file job (Err fault) = Err fault
own_target file job (Ok h) = unless_refused h (first_refusal (own_checks file h job))

abbrev pub found_alone : List ℕ → PatchJob → Result Header Fault
found_alone file job = if_all_pass (headers_of 65536 file) (own_target file job (wanted_image job.wanted file))

-- Every byte that was read of PATCH, whatever the answer: if PATCH shows its bytes, only the header and the data of its first HDU; if FILE does,
-- nothing if FILE alone is refused; and if both do, only the header if that or the box is.
pub record ReadsGiven (held given : Option (List ℕ)) (job : PatchJob) (ranges ranges' : Option (List (ℕ × ℕ))) : Type 0 where
  pub within : IfSome given (λ patch. LogsIn (given_header_range patch ∷ given_data (given_header patch)) ranges ranges')
  pub alone : IfSome held (λ file. (x : Fault) → found_alone file job ≡ Err x → ranges' ≡ ranges)
  pub refused : IfBoth held given (λ file patch. (x : Fault) → patch_target file patch job ≡ Err x → LogsIn (given_header_range patch ∷ []) ranges ranges')
