-- Values written one after another by their fields.
use Rattle.std.proofs.Common.{◌≡◌, ℕ, suc, ◌+◌, ◌-◌, ◌*◌, ◌/◌, ◌%◌, ◌^◌, ◌<◌, ◌≤◌, min, bit_and, bit_or, Bool, List, [], ◌∷◌, ◌++◌, length, take, drop, get_or, Result, Ok, Err, refl, sym, subst, ap, ◌∙◌, arith}
use Rattle.std.specs.List.{flat_map}
use Rattle.std.proofs.lemmas.List.{append-nil, take_more, take-append-drop}
use Rattle.std.proofs.lemmas.Nat.{pow_pos, mod_below, or_shifted, one_shl}
use Rattle.std.proofs.Math.Nat.{pow-suc, pow-le-pow_right}
use Rattle.std.proofs.Math.Seq.{take-add}
use Rattle.fz_bits.specs.Bits.{number_bits}
use Rattle.fz_bits.specs.Laws.{NumberLaws}
use Rattle.fz_bits.specs.declared.writer.BitWriter.{BitWriter}
use Rattle.fz_bits.specs.declared.writer.Full.{Full}
use Rattle.fz_rice.specs.Writing.{Writes, IsField}
use Rattle.fz_rice.proofs.WritesLemmas.{flat_map-append, writes_seq, writes_stop, low_bits, one_field}

-- the values of a part were written after those in front of it
pub values_write : {A B : Type 0} (a : A) (f : ℕ → List Bool) (vs : List ℕ) (at n : ℕ) (r : Result B Full) (old mid new : BitWriter) → Writes {A = A} (Ok a) (flat_map f (take at vs)) old mid → Writes r (flat_map f (take n (drop at vs))) mid new → Writes r (flat_map f (take (at + n) vs)) old new
values_write {A} {B} a f vs at n r old mid new half one =
    let all : flat_map f (take at vs) ++ flat_map f (take n (drop at vs)) ≡ flat_map f (take (at + n) vs) = sym (ap (flat_map f) (take-add at n vs) ∙ flat_map-append f (take at vs) (take n (drop at vs))) in
    subst (λ (x : List Bool). Writes {A = B} r x old new) all (writes_seq a r (flat_map f (take at vs)) (flat_map f (take n (drop at vs))) old mid new half one)

-- one value more was written, or there was no room for it
pub value_write : {A B : Type 0} (a : A) (f : ℕ → List Bool) (vs : List ℕ) (i d : ℕ) (r : Result B Full) (old mid new : BitWriter) → i < length vs → Writes {A = A} (Ok a) (flat_map f (take i vs)) old mid → Writes r (f (get_or vs i d)) mid new → Writes r (flat_map f (take (i + 1) vs)) old new
value_write {A} {B} a f vs i d r old mid new within half one =
    let v = get_or vs i d in
    let all : flat_map f (take i vs) ++ f v ≡ flat_map f (take (i + 1) vs) = sym (ap (flat_map f) (take_more vs i d within) ∙ flat_map-append f (take i vs) (v ∷ []) ∙ ap (λ l. flat_map f (take i vs) ++ l) (append-nil (f v))) in
    subst (λ (x : List Bool). Writes {A = B} r x old new) all (writes_seq a r (flat_map f (take i vs)) (f v) old mid new half one)

-- there is no room for all if there is none for the first
pub values_stop : {A B : Type 0} (e e' : Full) (f : ℕ → List Bool) (vs : List ℕ) (i : ℕ) (old new : BitWriter) → Writes {A = A} (Err e) (flat_map f (take i vs)) old new → Writes {A = B} (Err e') (flat_map f vs) old new
values_stop {A} {B} e e' f vs i old new stop =
    let all : flat_map f (take i vs) ++ flat_map f (drop i vs) ≡ flat_map f vs = sym (flat_map-append f (take i vs) (drop i vs)) ∙ ap (flat_map f) (take-append-drop i vs) in
    subst (λ (x : List Bool). Writes {A = B} (Err e') x old new) all (writes_stop e e' (flat_map f (take i vs)) (flat_map f (drop i vs)) old new stop)

-- the bits of four values
four_bits_of : (f : ℕ → List Bool) (vs : List ℕ) (d : ℕ) → length vs ≡ 4 → f (get_or vs 0 d) ++ (f (get_or vs 1 d) ++ (f (get_or vs 2 d) ++ f (get_or vs 3 d))) ≡ flat_map f vs
four_bits_of f [] d len = absurd (omega (arith, len))
four_bits_of f (a ∷ []) d len = absurd (omega (arith, len))
four_bits_of f (a ∷ b ∷ []) d len = absurd (omega (arith, len))
four_bits_of f (a ∷ b ∷ c ∷ []) d len = absurd (omega (arith, len))
four_bits_of f (a ∷ b ∷ c ∷ e ∷ []) d len = ap (λ l. f a ++ (f b ++ (f c ++ l))) (sym (append-nil (f e)))
four_bits_of f (a ∷ b ∷ c ∷ e ∷ x ∷ vs) d len = absurd (omega (arith, len))

pub four_values : (f : ℕ → List Bool) (vs : List ℕ) (d : ℕ) (p q r s : List Bool) → length vs ≡ 4 → p ≡ f (get_or vs 0 d) → q ≡ f (get_or vs 1 d) → r ≡ f (get_or vs 2 d) → s ≡ f (get_or vs 3 d) → p ++ (q ++ (r ++ s)) ≡ flat_map f vs
four_values f vs d p q r s len ep eq er es = rw (ep, eq, er, es) (four_bits_of f vs d len)

-- the low bits of a value after a one, as far as its zeros have room
pub field_is : NumberLaws → (k v q : ℕ) → k < 32 → q ≡ min (v / 2 ^ k) 64 → IsField k v (bit_or (1 * 2 ^ k % 2 ^ 32) (bit_and v (1 * 2 ^ k % 2 ^ 32 - 1))) (q + (k + 1))
field_is laws k v q h cut =
    let pos = pow_pos k in
    let rest = mod_below v (2 ^ k) pos in
    let twice : 2 ^ suc k ≡ 2 ^ k * 2 = pow-suc 2 k in
    let more : 2 ^ suc k ≤ 2 ^ (q + (k + 1)) = pow-le-pow_right (omega arith) (omega arith) in
    let bits : bit_or (1 * 2 ^ k % 2 ^ 32) (bit_and v (1 * 2 ^ k % 2 ^ 32 - 1)) ≡ 2 ^ k + v % 2 ^ k = ap (λ x. bit_or (1 * 2 ^ k % 2 ^ 32) x) (low_bits 32 k v h) ∙ ap (λ x. bit_or x (v % 2 ^ k)) (one_shl k 32 h ∙ omega arith) ∙ or_shifted 1 k (v % 2 ^ k) rest ∙ omega arith in
    record {
      fits = rw bits (omega (arith, rest, more, twice));
      few = omega (arith, cut);
      is = λ less.
          let same : v / 2 ^ k ≡ q = omega (arith, less, cut) in
          let size : q + (k + 1) ≡ v / 2 ^ k + 1 + k = omega (arith, same) in
          ap (number_bits (q + (k + 1))) bits ∙ ap (λ n. number_bits n (2 ^ k + v % 2 ^ k)) size ∙ one_field laws k (v / 2 ^ k) v refl;
    }
