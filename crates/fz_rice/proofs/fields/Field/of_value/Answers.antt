use Rattle.std.proofs.Common.{◌≡◌, ℕ, suc, ◌+◌, ◌-◌, ◌*◌, ◌/◌, ◌%◌, ◌^◌, ◌<◌, ◌≤◌, bit_and, bit_or, refl, ap, ◌∙◌, arith}
use Rattle.std.proofs.lemmas.Nat.{one_shl, or_shifted, mod_below, pow_pos}
use Rattle.std.proofs.Math.Nat.{pow-suc, pow-le-pow_right}
use Rattle.fz_bits.specs.Bits.{number_bits}
use Rattle.fz_rice.proofs.WritesLemmas.{low_bits, one_field}
use Rattle.fz_rice.proofs.fields.Field.of_value.Goals as goal

-- the low bits of a value after a one
field_is : (k v : ℕ) → k < 64 → bit_or (1 * 2 ^ k % 18446744073709551616) (bit_and v (1 * 2 ^ k % 18446744073709551616 - 1)) ≡ 2 ^ k + v % 2 ^ k
field_is k v h =
    ap (λ x. bit_or (1 * 2 ^ k % 18446744073709551616) x) (low_bits 64 k v h) ∙ ap (λ x. bit_or x (v % 2 ^ k)) (one_shl k 64 h ∙ omega arith) ∙ or_shifted 1 k (v % 2 ^ k) (mod_below v (2 ^ k) (pow_pos k)) ∙ omega arith

is : (k v f : ℕ) → k < 64 → f ≡ v → bit_or (1 * 2 ^ k % 18446744073709551616) (bit_and f (1 * 2 ^ k % 18446744073709551616 - 1)) ≡ 2 ^ k + v % 2 ^ k
is k v f h same = field_is k f h ∙ ap (λ x. 2 ^ k + x % 2 ^ k) same

pub invariant_of-result : goal.invariant_of-result
invariant_of-result c =
    let k = c.args.k in
    let twice : 2 ^ suc k ≡ 2 ^ k * 2 = pow-suc 2 k in
    let more : 2 ^ suc k ≤ 2 ^ (c.args.value / 2 ^ k + 1 + k) = pow-le-pow_right (omega arith) (omega arith) in
    record {
      few = c.requires.few;
      fits = rw (is k c.args.value c.from.result (omega arith) c.from.ensures) (omega (arith, mod_below c.args.value (2 ^ k) (pow_pos k), more));
    }

pub returns-clause-bits : goal.returns-clause-bits
returns-clause-bits c =
    let k = c.args.k in
    let q = c.args.value / 2 ^ k in
    ap (number_bits (q + 1 + k)) (is k c.args.value c.from.result (omega arith) c.from.ensures) ∙ one_field c.number_law.ensures k q c.args.value refl
