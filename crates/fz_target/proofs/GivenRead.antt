-- What is read of PATCH: its header, and where its pixels begin; and its box.
use Rattle.std.proofs.Common.{◌≡◌, inr, ℕ, ◌+◌, ◌-◌, ◌*◌, ◌/◌, ◌<◌, ◌≤◌, ◌==◌, Bool, List, [], ◌∷◌, ◌++◌, length, Option, Some, None, Result, Ok, Err, IfSome, if◌then◌else◌, refl, sym, ap, ◌∙◌, arith, append-nil}
use Rattle.std.specs.Option.{option_map}
use Rattle.std.specs.Prelude.{OnErr, OnOk}
use Rattle.std.proofs.Math.Nat.{mul-add, mul-le-mul_left, mul-pos}
use Rattle.fz_base.specs.Refusal.{first_refusal}
use Rattle.fz_base.specs.Source.{LogsWithin, MayLog, logged}
use Rattle.fz_base.specs.declared.fault.Fault.{Fault}
use Rattle.fz_block.specs.Checks.{header_touched}
use Rattle.fz_block.specs.Header.{data_start_of}
use Rattle.fz_block.specs.declared.header.Header.{Header}
use Rattle.fz_files.specs.Packed.{pixel_bits}
use Rattle.fz_grid.specs.Arrays.{product}
use Rattle.fz_grid.specs.Region.{lengths_of}
use Rattle.fz_grid.specs.Sieve.{sieve_lengths}
use Rattle.fz_head.specs.declared.plan.Plan.{Plan}
use Rattle.fz_laws.specs.Given.{array_if}
use Rattle.fz_target.specs.Reads.{HasDataOf, pixels_end}
use Rattle.fz_target.specs.Targets.{given_at, given_found}
use Rattle.fz_target.specs.declared.target.Target.{Target}
use Rattle.fz_target.proofs.Found.{found_ok}

-- no check refuses, and so none refuses with this fault
pub no_own_fault : (x : Fault) (checks : List (Bool × Fault)) → first_refusal checks ≡ None → first_refusal checks ≡ Some x → ⊥
no_own_fault x checks none some = absurd cc

-- nothing was read
same_ranges : (old : Option (List (ℕ × ℕ))) → old ≡ option_map (λ rs. rs ++ []) old
same_ranges None = refl
same_ranges (Some rs) = ap Some (sym (append-nil rs))

pub no_header_read : (held : Option (List ℕ)) (old : Option (List (ℕ × ℕ))) → IfSome held (λ p. LogsWithin 0 (header_touched 0 0 p) old old)
no_header_read None old = tt
no_header_read (Some p) old = ([], (λ k d few. absurd (omega (arith, few))), same_ranges old)

-- the lengths of the box are those of the image of PATCH
pub box_shown : (p : Plan) (q : Header) (corner : List ℕ) (held : Option (List ℕ)) → IfSome held (λ patch. given_found p patch ≡ Ok q) →
    IfSome held (λ patch. lengths_of q.axes ≡ (given_at corner patch).array.lengths)
box_shown p q corner None found = tt
box_shown p q corner (Some patch) found = ap (λ h. (array_if patch h).lengths) (sym (found_ok p patch q found).0)

-- and its pixels are the data
pub begins_here : (t : Target) (q : Header) (held : Option (List ℕ)) → t.pixels_at ≡ data_start_of q → sieve_lengths t.sieve ≡ lengths_of q.axes →
    q.data_len ≡ pixel_bits t.image.plan / 8 * product (lengths_of q.axes) → IfSome held (λ patch. given_found t.image.plan patch ≡ Ok q) → IfSome held (λ patch. HasDataOf patch t)
begins_here t q None at lens whole_data found = tt
begins_here t q (Some patch) at lens whole_data found =
    let size : pixel_bits t.image.plan / 8 * product (sieve_lengths t.sieve) ≡ q.data_len = ap (λ l. pixel_bits t.image.plan / 8 * product l) lens ∙ sym whole_data in
    (q, (found_ok t.image.plan patch q found).0, at, omega (arith, at, size))

-- ---- pixels

-- so many pixels of it, from one on
pub piece_read : ((from to at count : ℕ) (old new : Option (List (ℕ × ℕ))) → 0 < count → from ≤ at → at + count ≤ to → MayLog at count old new → LogsWithin from to old new) →
    (t : Target) (size from count at len : ℕ) (old new : Option (List (ℕ × ℕ))) → size ≡ pixel_bits t.image.plan / 8 → 1 ≤ size → 1 ≤ count → from + count ≤ product (sieve_lengths t.sieve) →
    at ≡ t.pixels_at + size * from → len ≡ size * count → MayLog at len old new → LogsWithin t.pixels_at (pixels_end t) old new
piece_read one t size from count at len old new is big some here place long may =
    let total : ℕ = product (sieve_lengths t.sieve) in
    let low : size * (from + count) ≤ size * total = mul-le-mul_left size here in
    let split : size * (from + count) ≡ size * from + size * count = mul-add size from count in
    let end : pixels_end t ≡ t.pixels_at + size * total = ap (λ n. t.pixels_at + n * total) (sym is) in
    let more : 0 < size * count = mul-pos big some in
    one t.pixels_at (pixels_end t) at len old new (omega (arith, long, more)) (omega (arith, place)) (omega (arith, place, long, low, split, end)) may

-- what a reading logs, whether it failed or not
pub read_logs : {T E : Type 0} (result : Result T E) (at count : ℕ) (old new : Option (List (ℕ × ℕ))) → OnOk result (new ≡ logged at count old) → OnErr result (MayLog at count old new) → MayLog at count old new
read_logs (Ok x) at count old new ok err = inr ok
read_logs (Err e) at count old new ok err = err
