-- The places of the sixteen characters of a sum.
use Rattle.std.proofs.Common.{◌≡◌, ℕ, zero, suc, ◌+◌, ◌-◌, ◌*◌, ◌%◌, ◌^◌, ◌<◌, refl, arith}
use Rattle.std.specs.Prelude.{slice_index}
use Rattle.std.specs.Int.{w32, to_be_bytes}
use Rattle.fz_sum.specs.Characters.{byte_characters, characters}

-- below four
by_four : (P : ℕ → Type 0) → P 0 → P 1 → P 2 → P 3 → (i : ℕ) → i < 4 → P i
by_four P none one two three zero small = none
by_four P none one two three (suc zero) small = one
by_four P none one two three (suc (suc zero)) small = two
by_four P none one two three (suc (suc (suc zero))) small = three
by_four P none one two three (suc (suc (suc (suc i)))) small = absurd (omega arith)

pub characters-places : (sum i j : ℕ) → i < 4 → j < 4 → slice_index (characters sum) ((4 * j + i + 1) % 16) ≡ slice_index (byte_characters (slice_index (to_be_bytes w32 (2 ^ 32 - 1 - sum)) i)) j
unfolding characters
characters-places sum i j below small =
    by_four (λ j. slice_index (characters sum) ((4 * j + i + 1) % 16) ≡ slice_index (byte_characters (slice_index (to_be_bytes w32 (2 ^ 32 - 1 - sum)) i)) j)
    (by_four (λ i. slice_index (characters sum) ((4 * 0 + i + 1) % 16) ≡ slice_index (byte_characters (slice_index (to_be_bytes w32 (2 ^ 32 - 1 - sum)) i)) 0) refl refl refl refl i below)
    (by_four (λ i. slice_index (characters sum) ((4 * 1 + i + 1) % 16) ≡ slice_index (byte_characters (slice_index (to_be_bytes w32 (2 ^ 32 - 1 - sum)) i)) 1) refl refl refl refl i below)
    (by_four (λ i. slice_index (characters sum) ((4 * 2 + i + 1) % 16) ≡ slice_index (byte_characters (slice_index (to_be_bytes w32 (2 ^ 32 - 1 - sum)) i)) 2) refl refl refl refl i below)
    (by_four (λ i. slice_index (characters sum) ((4 * 3 + i + 1) % 16) ≡ slice_index (byte_characters (slice_index (to_be_bytes w32 (2 ^ 32 - 1 - sum)) i)) 3) refl refl refl refl i below)
    j small
