-- The first fault of some rows.
use Rattle.std.proofs.Common.{ℕ, zero, suc, ◌<◌, inl, inr, List, [], ◌∷◌, length, map, slice_index, Some, arith}
use Rattle.fz_base.specs.declared.fault.Fault.{Fault}
use Rattle.fz_block.specs.declared.header.Header.{Header}
use Rattle.fz_files.specs.FirstFault.{IsFirstRowFault, IsRowFault, IsRowSound, image_row}

-- of rows that are sound up to one that is refused this is the first fault
pub first_fault_at : (file : List ℕ) (h : Header) (tiles : List ℕ) (i : ℕ) (x : Fault) → i < length tiles
    → ((k : ℕ) → k < i → IsRowSound file (image_row h (slice_index tiles k)))
    → IsRowFault file (image_row h (slice_index tiles i)) x
    → IsFirstRowFault file (map (image_row h) tiles) (Some x)
first_fault_at file h [] i x near sound fault = absurd (omega (arith, near))
first_fault_at file h (t ∷ ts) zero x near sound fault = inl fault
first_fault_at file h (t ∷ ts) (suc i) x near sound fault =
    inr (sound 0 (omega arith), first_fault_at file h ts i x (omega (arith, near)) (λ k below. sound (suc k) (omega (arith, below))) fault)
