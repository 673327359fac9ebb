-- Bits written one after another.
use Rattle.std.proofs.Common.{pos, bit_and, ◌≡◌, ℕ, suc, ◌+◌, ◌-◌, ◌*◌, ◌/◌, ◌%◌, ◌^◌, ◌<◌, ◌≤◌, ◌↔◌, Bool, true, false, ℤ, List, [], ◌∷◌, ◌++◌, length, take, drop, get_or, replicate, Result, Ok, Err, IsErr, OnOk, refl, sym, subst, ap, ◌∙◌, arith, append_assoc, length-append}
use Rattle.std.specs.List.{flat_map}
use Rattle.std.proofs.lemmas.Result.{on_ok_weaker}
use Rattle.std.proofs.lemmas.List.{append-nil, take_more, take-append-drop}
use Rattle.std.proofs.lemmas.Nat.{pow_pos, mod_below, mod_low, one_shl, and_mask}
use Rattle.std.proofs.Math.Nat.{pow-suc}
use Rattle.fz_bits.specs.Bits.{number_bits}
use Rattle.fz_bits.specs.Laws.{NumberLaws}
use Rattle.fz_bits.specs.Writer.{written, lent, room}
use Rattle.fz_bits.specs.declared.writer.BitWriter.{BitWriter}
use Rattle.fz_bits.specs.declared.writer.Full.{Full}
use Rattle.fz_rice.specs.Numbers.{residue}
use Rattle.fz_rice.specs.Code.{difference, mapped, differences, split_bits}
use Rattle.std.proofs.Math.Seq.{take-add}
use Rattle.fz_rice.specs.Writing.{Writes}
use Rattle.fz_rice.proofs.NumberBits.{number_bits-lead}

pub writes_of : {A : Type 0} (r : Result A Full) (bits other : List Bool) (width : ℕ) (old new : BitWriter) → lent new ≡ lent old → room new ≡ room old → OnOk r (written new ≡ written old ++ other) → (IsErr r ↔ (room old < length (written old) + width)) → other ≡ bits → length bits ≡ width → Writes r bits old new
writes_of r bits other width old new same space ok full is len = record {
  same = same;
  space = space;
  ok = subst (λ (x : List Bool). OnOk r (written new ≡ written old ++ x)) is ok;
  full = subst (λ (k : ℕ). IsErr r ↔ (room old < length (written old) + k)) (sym len) full;
}

pub writes_seq : {A B : Type 0} (a : A) (r : Result B Full) (front back : List Bool) (old mid new : BitWriter) → Writes {A = A} (Ok a) front old mid → Writes r back mid new → Writes r (front ++ back) old new
writes_seq {A} {B} a r front back old mid new first second =
    let len = ap length first.ok ∙ length-append (written old) front in
    let more = length-append front back in
    record {
      same = second.same ∙ first.same;
      space = second.space ∙ first.space;
      ok = on_ok_weaker r (λ e. e ∙ ap (λ x. x ++ back) first.ok ∙ append_assoc (written old) front back) second.ok;
      full = (λ e. let k = second.full.0 e in omega (arith, k, first.space), λ h. second.full.1 (omega (arith, h, first.space)));
    }

pub writes_stop : {A B : Type 0} (e f : Full) (front back : List Bool) (old new : BitWriter) → Writes {A = A} (Err e) front old new → Writes {A = B} (Err f) (front ++ back) old new
writes_stop e f front back old new first =
    let more = length-append front back in
    record {
      same = first.same;
      space = first.space;
      ok = tt;
      full = (λ k. let h = first.full.0 refl in omega (arith, h), λ h. refl);
    }

pub writes_nothing : (w : BitWriter) → length (written w) ≤ room w → Writes {A = Unit {0}} (Ok tt) [] w w
writes_nothing w fits = record {
  same = refl;
  space = refl;
  ok = sym (append-nil (written w));
  full = (λ k. cc, λ h. absurd (omega (arith, fits)));
}

-- what was written, whatever the answer's value
pub writes_unit : {A : Type 0} (a : A) (bits : List Bool) (old new : BitWriter) → Writes {A = A} (Ok a) bits old new → Writes {A = Unit {0}} (Ok tt) bits old new
writes_unit a bits old new one = record {
  same = one.same;
  space = one.space;
  ok = one.ok;
  full = one.full;
}

-- the low bits of a value, by a mask of n bits
pub low_bits : (n k v : ℕ) → k < n → bit_and v (1 * 2 ^ k % 2 ^ n - 1) ≡ v % 2 ^ k
low_bits n k v h = ap (λ m. bit_and v (m - 1)) (one_shl k n h) ∙ and_mask v k

-- one field of zeros, a one and k bits
pub one_field : NumberLaws → (k q value : ℕ) → q ≡ value / 2 ^ k → number_bits (q + 1 + k) (2 ^ k + value % 2 ^ k) ≡ split_bits k value
one_field laws k q value is =
    let v = 2 ^ k + value % 2 ^ k in
    let pos = pow_pos k in
    let rest = mod_below value (2 ^ k) pos in
    let twice : 2 ^ suc k ≡ 2 ^ k * 2 = pow-suc 2 k in
    let e : q + 1 + k ≡ q + suc k = omega arith in
    let low : v % 2 ^ k ≡ value % 2 ^ k = ap (λ x. x % 2 ^ k) (omega arith) ∙ mod_low 1 k (value % 2 ^ k) rest in
    ap (λ n. number_bits n v) e ∙ number_bits-lead laws q k v (omega arith) (omega arith) ∙ ap (λ x. replicate q false ++ true ∷ number_bits k x) low ∙ ap (λ x. replicate q false ++ true ∷ x) (laws.last k value) ∙ ap (λ n. replicate n false ++ true ∷ number_bits k value) is

-- the residue of the last number
abbrev pub last_residue : ℕ → ℕ → List ℤ → ℕ
last_residue w last [] = last
last_residue w last (x ∷ xs) = last_residue w (residue w x) xs

pub differences-append : (w last : ℕ) (xs ys : List ℤ) → differences w last (xs ++ ys) ≡ differences w last xs ++ differences w (last_residue w last xs) ys
differences-append w last [] ys = refl
differences-append w last (x ∷ xs) ys =
    ap (λ l. mapped w (difference w last (residue w x)) ∷ l) (differences-append w (residue w x) xs ys)

pub last_residue-append : (w last : ℕ) (xs ys : List ℤ) → last_residue w last (xs ++ ys) ≡ last_residue w (last_residue w last xs) ys
last_residue-append w last [] ys = refl
last_residue-append w last (x ∷ xs) ys = last_residue-append w (residue w x) xs ys

pub last_residue-nil : (w last : ℕ) → last_residue w last [] ≡ last
last_residue-nil w last = refl

pub flat_map-append : {X : Type 0} (f : X → List Bool) (xs ys : List X) → flat_map f (xs ++ ys) ≡ flat_map f xs ++ flat_map f ys
flat_map-append f [] ys = refl
flat_map-append f (x ∷ xs) ys = ap (λ l. f x ++ l) (flat_map-append f xs ys) ∙ sym (append_assoc (f x) (flat_map f xs) (flat_map f ys))

-- one number more
pub differences-more : (w start : ℕ) (xs : List ℤ) (i : ℕ) (d : ℤ) → i < length xs → differences w start (take (i + 1) xs) ≡ differences w start (take i xs) ++ mapped w (difference w (last_residue w start (take i xs)) (residue w (get_or xs i d))) ∷ []
differences-more w start xs i d within =
    ap (differences w start) (take_more xs i d within) ∙ differences-append w start (take i xs) (get_or xs i d ∷ [])

pub last_residue-more : (w start : ℕ) (xs : List ℤ) (i : ℕ) (d : ℤ) → i < length xs → last_residue w start (take (i + 1) xs) ≡ residue w (get_or xs i d)
last_residue-more w start xs i d within =
    ap (last_residue w start) (take_more xs i d within) ∙ last_residue-append w start (take i xs) (get_or xs i d ∷ [])

pub bits-more : (f : ℕ → List Bool) (w start : ℕ) (xs : List ℤ) (i : ℕ) (d : ℤ) → i < length xs → flat_map f (differences w start (take (i + 1) xs)) ≡ flat_map f (differences w start (take i xs)) ++ f (mapped w (difference w (last_residue w start (take i xs)) (residue w (get_or xs i d))))
bits-more f w start xs i d within =
    let v = mapped w (difference w (last_residue w start (take i xs)) (residue w (get_or xs i d))) in
    ap (flat_map f) (differences-more w start xs i d within) ∙ flat_map-append f (differences w start (take i xs)) (v ∷ []) ∙ ap (λ l. flat_map f (differences w start (take i xs)) ++ l) (append-nil (f v))

-- all the bits begin with those of the first numbers
pub bits-front : (f : ℕ → List Bool) (w start : ℕ) (xs : List ℤ) (i : ℕ) → flat_map f (differences w start xs) ≡ flat_map f (differences w start (take i xs)) ++ flat_map f (differences w (last_residue w start (take i xs)) (drop i xs))
bits-front f w start xs i =
    ap (λ l. flat_map f (differences w start l)) (sym (take-append-drop i xs)) ∙ ap (flat_map f) (differences-append w start (take i xs) (drop i xs)) ∙ flat_map-append f (differences w start (take i xs)) (differences w (last_residue w start (take i xs)) (drop i xs))

-- one value more was written, or there was no room for it
pub loop_writes : {A B : Type 0} (a : A) (f : ℕ → List Bool) (w start : ℕ) (xs : List ℤ) (i : ℕ) (d : ℤ) (r : Result B Full) (v : ℕ) (old mid new : BitWriter) → i < length xs → v ≡ mapped w (difference w (last_residue w start (take i xs)) (residue w (get_or xs i d))) → Writes {A = A} (Ok a) (flat_map f (differences w start (take i xs))) old mid → Writes r (f v) mid new → Writes r (flat_map f (differences w start (take (i + 1) xs))) old new
loop_writes {A} {B} a f w start xs i d r v old mid new within is half one =
    let front = flat_map f (differences w start (take i xs)) in
    let all : front ++ f v ≡ flat_map f (differences w start (take (i + 1) xs)) = ap (λ k. front ++ f k) is ∙ sym (bits-more f w start xs i d within) in
    subst (λ (x : List Bool). Writes {A = B} r x old new) all (writes_seq a r front (f v) old mid new half one)

-- there is no room for all if there is none for the first
pub loop_stops : {A B : Type 0} (e f' : Full) (f : ℕ → List Bool) (w start : ℕ) (xs : List ℤ) (i : ℕ) (old new : BitWriter) → Writes {A = A} (Err e) (flat_map f (differences w start (take i xs))) old new → Writes {A = B} (Err f') (flat_map f (differences w start xs)) old new
loop_stops {A} {B} e f' f w start xs i old new stop =
    subst (λ (x : List Bool). Writes {A = B} (Err f') x old new) (sym (bits-front f w start xs i)) (writes_stop e f' (flat_map f (differences w start (take i xs))) (flat_map f (differences w (last_residue w start (take i xs)) (drop i xs))) old new stop)

-- the bits of four numbers
pub four_bits : (f : ℕ → List Bool) (w start : ℕ) (xs : List ℤ) (a b c d p q r s : ℕ) → length xs ≡ 4 → a ≡ residue w (get_or xs 0 (pos 0)) → b ≡ residue w (get_or xs 1 (pos 0)) → c ≡ residue w (get_or xs 2 (pos 0)) → d ≡ residue w (get_or xs 3 (pos 0)) → p ≡ mapped w (difference w start a) → q ≡ mapped w (difference w a b) → r ≡ mapped w (difference w b c) → s ≡ mapped w (difference w c d) → f p ++ (f q ++ (f r ++ f s)) ≡ flat_map f (differences w start xs)
four_bits f w start [] a b c d p q r s len ea eb ec ed ep eq er es = absurd (omega (arith, len))
four_bits f w start (x ∷ []) a b c d p q r s len ea eb ec ed ep eq er es = absurd (omega (arith, len))
four_bits f w start (x ∷ y ∷ []) a b c d p q r s len ea eb ec ed ep eq er es = absurd (omega (arith, len))
four_bits f w start (x ∷ y ∷ z ∷ []) a b c d p q r s len ea eb ec ed ep eq er es = absurd (omega (arith, len))
four_bits f w start (x ∷ y ∷ z ∷ u ∷ []) a b c d p q r s len ea eb ec ed ep eq er es =
    rw (ep, eq, er, es, ea, eb, ec, ed, append-nil (f (mapped w (difference w (residue w z) (residue w u))))) refl
four_bits f w start (x ∷ y ∷ z ∷ u ∷ t ∷ xs) a b c d p q r s len ea eb ec ed ep eq er es = absurd (omega (arith, len))

-- the numbers of a part were written after those in front of it
pub part_writes : {A B : Type 0} (a : A) (f : ℕ → List Bool) (w start : ℕ) (xs : List ℤ) (at n last : ℕ) (r : Result B Full) (old mid new : BitWriter) → last ≡ last_residue w start (take at xs) → Writes {A = A} (Ok a) (flat_map f (differences w start (take at xs))) old mid → Writes r (flat_map f (differences w last (take n (drop at xs)))) mid new → Writes r (flat_map f (differences w start (take (at + n) xs))) old new
part_writes {A} {B} a f w start xs at n last r old mid new follows half one =
    let front = flat_map f (differences w start (take at xs)) in
    let part = take n (drop at xs) in
    let all : front ++ flat_map f (differences w last part) ≡ flat_map f (differences w start (take (at + n) xs)) = ap (λ u. front ++ flat_map f (differences w u part)) follows ∙ sym (ap (λ l. flat_map f (differences w start l)) (take-add at n xs) ∙ ap (flat_map f) (differences-append w start (take at xs) part) ∙ flat_map-append f (differences w start (take at xs)) (differences w (last_residue w start (take at xs)) part)) in
    subst (λ (x : List Bool). Writes {A = B} r x old new) all (writes_seq a r front (flat_map f (differences w last part)) old mid new half one)
