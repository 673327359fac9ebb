-- Blocks that are read in two parts, and what marks have to do with codes.
use Rattle.std.proofs.Common.{◌≡◌, ℕ, zero, suc, ◌+◌, ◌-◌, ◌*◌, ◌/◌, ◌%◌, ◌^◌, ◌<◌, ◌≤◌, min, Bool, ℤ, List, [], ◌∷◌, ◌++◌, length, take, drop, replicate, Ok, Err, inl, inr, refl, sym, subst, ap, ◌∙◌, arith, length-append, length-drop}
use Rattle.std.proofs.Math.Nat.{div-add-mod}
use Rattle.std.proofs.Math.Seq.{take-append-add, drop-append-add}
use Rattle.std.proofs.lemmas.Bool.{cases_lt, cases_eq}
use Rattle.std.proofs.lemmas.List.{append-nil, take-append-le, drop_at, take-replicate, drop-drop, drop_all, drop-take, take_rest}
use Rattle.fz_bits.specs.Bits.{number_bits, bits_of}
use Rattle.fz_bits.specs.Laws.{NumberLaws, HasEightBits}
use Rattle.std.specs.List.{All, AllByRecursion}
use Rattle.std.proofs.lemmas.List.Elements.{All-from_recursion}
use Rattle.fz_rice.specs.Numbers.{IsWidth, IsNumber}
use Rattle.fz_rice.specs.Code.{row}
use Rattle.fz_rice.proofs.NumbersLemmas.{IsNumber-numbers_from}
use Rattle.fz_rice.specs.Prefix.{BeginsWith}
use Rattle.fz_rice.specs.Reading.{Reading, and_then, reading_map, number_at, split_at, many_at, id_at, values_at, block_at, blocks_at, last_of, numbers_from, code_at, number, next_residue, GivesNumbers}
use Rattle.fz_rice.specs.Marks.{IsMark, ReadsOn, StopsAfter, with_before}
use Rattle.fz_rice.specs.declared.coder.CodeFault.{CodeFault}
use Rattle.fz_rice.specs.declared.marks.Mark.{Mark}
use Rattle.fz_rice.proofs.Readers.{ok_parts, and_then-ok, reading_map-ok}
use Rattle.fz_rice.proofs.FieldReaders.{number_reader}
use Rattle.fz_rice.proofs.BlockReaders.{values_at-zero, values_at-raw, values_at-split, block_reader}
use Rattle.fz_rice.proofs.CodeReaders.{code_reader, blocks_reader}
use Rattle.fz_rice.proofs.HalfwayLemmas.{numbers_from-append, last_of-append, last_of_lt, map_nothing, map_append}
use Rattle.fz_rice.proofs.DecodeLemmas.{begins, code_read}

-- readers that do the same with a value
and_then-same : {A B : Type 0} (r : Reading A) (f g : A → List Bool → Reading B) → ((a : A) (rest : List Bool) → f a rest ≡ g a rest) → and_then r f ≡ and_then r g
and_then-same (Ok p) f g same = same p.0 p.1
and_then-same (Err e) f g same = refl

-- blocks of n numbers
abbrev read : ℕ → ℕ → ℕ → List Bool → Reading (List ℕ)
read w block n bits = blocks_at w block n n bits

-- what is read after a block
abbrev after : ℕ → ℕ → ℕ → List ℕ → List Bool → Reading (List ℕ)
after w block n vs rest = reading_map (λ more. vs ++ more) (read w block (n - block) rest)

-- enough fuel is enough
fuel_same : (w block f g n : ℕ) (bits : List Bool) → 0 < block → n ≤ f → n ≤ g → blocks_at w block f n bits ≡ blocks_at w block g n bits
unfolding blocks_at
fuel_same w block f g zero bits some x y = refl
fuel_same w block zero g (suc n) bits some x y = absurd (omega arith)
fuel_same w block (suc f) zero (suc n) bits some x y = absurd (omega arith)
fuel_same w block (suc f) (suc g) (suc n) bits some x y =
    and_then-same (block_at w (min block (suc n)) bits) (λ vs rest. reading_map (λ more. vs ++ more) (blocks_at w block f (suc n - block) rest)) (λ vs rest. reading_map (λ more. vs ++ more) (blocks_at w block g (suc n - block) rest)) (λ vs rest. ap (reading_map (λ more. vs ++ more)) (fuel_same w block f g (suc n - block) rest some (omega arith) (omega arith)))

read_none : (w block : ℕ) (bits : List Bool) → read w block 0 bits ≡ Ok ([], bits)
unfolding blocks_at
read_none w block bits = refl

read_some : (w block n : ℕ) (bits : List Bool) → 0 < block → 0 < n → read w block n bits ≡ and_then (block_at w (min block n) bits) (after w block n)
unfolding blocks_at
read_some w block zero bits some h = absurd (omega arith)
read_some w block (suc n) bits some h =
    and_then-same (block_at w (min block (suc n)) bits) (λ vs rest. reading_map (λ more. vs ++ more) (blocks_at w block n (suc n - block) rest)) (after w block (suc n)) (λ vs rest. ap (reading_map (λ more. vs ++ more)) (fuel_same w block n (suc n - block) (suc n - block) rest some (omega arith) (omega arith)))

-- the first block and the others
record Parts (w block n : ℕ) (bits : List Bool) (vs : List ℕ) (rest : List Bool) : Type 0 where
  first : List ℕ
  more : List Bool
  others : List ℕ
  first_is : block_at w (min block n) bits ≡ Ok (first, more)
  others_are : read w block (n - block) more ≡ Ok (others, rest)
  all : first ++ others ≡ vs

parts_of : (w block n : ℕ) (bits : List Bool) (vs : List ℕ) (rest : List Bool) → 0 < block → 0 < n → read w block n bits ≡ Ok (vs, rest) → Parts w block n bits vs rest
parts_of w block n bits vs rest some h e =
    let p = and_then-ok (block_at w (min block n) bits) (after w block n) vs rest (sym (read_some w block n bits some h) ∙ e) in
    let q = reading_map-ok (λ more. p.0 ++ more) (read w block (n - block) p.1) vs rest p.3 in
    record { first = p.0; more = p.1; others = q.0; first_is = p.2; others_are = q.1; all = q.2 }

-- numbers after whole blocks are read after them
join_at : (m w block j k : ℕ) (bits mid : List Bool) (vs : List ℕ) → 0 < block → j ≡ m * block → read w block j bits ≡ Ok (vs, mid) → read w block (j + k) bits ≡ reading_map (λ us. vs ++ us) (read w block k mid)
join_at zero w block j k bits mid vs some whole e =
    let none : j ≡ 0 = omega (arith, whole) in
    let p = ok_parts [] vs bits mid (sym (read_none w block bits) ∙ ap (λ n. read w block n bits) (sym none) ∙ e) in
    ap (λ n. read w block n bits) (let h : j + k ≡ k = omega arith in h) ∙ ap (read w block k) p.1 ∙ map_nothing (read w block k mid) ∙ ap (λ l. reading_map (λ us. l ++ us) (read w block k mid)) p.0
join_at (suc m) w block j k bits mid vs some whole e =
    let size : j ≡ m * block + block = whole ∙ omega arith in
    let p = parts_of w block j bits vs mid some (omega (arith, size)) e in
    let ih = join_at m w block (j - block) k p.more mid p.others some (omega (arith, size)) p.others_are in
    let one : min block (j + k) ≡ min block j = omega (arith, size) in
    let count : j + k - block ≡ j - block + k = omega (arith, size) in
    read_some w block (j + k) bits some (omega (arith, size)) ∙ ap (λ n. and_then (block_at w n bits) (after w block (j + k))) one ∙ ap (λ r. and_then r (after w block (j + k))) p.first_is ∙ ap (λ n. reading_map (λ more. p.first ++ more) (read w block n p.more)) count ∙ ap (reading_map (λ more. p.first ++ more)) ih ∙ map_append p.first p.others (read w block k mid) ∙ ap (λ l. reading_map (λ us. l ++ us) (read w block k mid)) p.all

join : (w block j k : ℕ) (bits mid : List Bool) (vs : List ℕ) → 0 < block → j % block ≡ 0 → read w block j bits ≡ Ok (vs, mid) → read w block (j + k) bits ≡ reading_map (λ us. vs ++ us) (read w block k mid)
join w block j k bits mid vs some whole e =
    let parts = div-add-mod j block in
    let h : j ≡ j / block * block = omega (arith, parts, whole) in
    join_at (j / block) w block j k bits mid vs some h e

-- The first values of those that can be read can be read.
many_front : (one : List Bool → Reading ℕ) (k n : ℕ) (bits rest : List Bool) (vs : List ℕ) → k ≤ n → many_at one n bits ≡ Ok (vs, rest) → (mid : List Bool) × (many_at one k bits ≡ Ok (take k vs, mid))
unfolding many_at
many_front one zero n bits rest vs few e = (bits, refl)
many_front one (suc k) zero bits rest vs few e = absurd (omega arith)
many_front one (suc k) (suc n) bits rest vs few e =
    let p = and_then-ok (one bits) (λ v more. reading_map (λ us. v ∷ us) (many_at one n more)) vs rest e in
    let q = reading_map-ok (λ us. p.0 ∷ us) (many_at one n p.1) vs rest p.3 in
    let front = many_front one k n p.1 rest q.0 (omega arith) q.1 in
    (front.0, ap (λ r. and_then r (λ v more. reading_map (λ us. v ∷ us) (many_at one k more))) p.2 ∙ ap (reading_map (λ us. p.0 ∷ us)) front.1 ∙ ap (λ l. Ok (take (suc k) l, front.0)) q.2)

values_front : (w id k n : ℕ) (bits rest : List Bool) (vs : List ℕ) → k ≤ n → values_at w n id bits ≡ Ok (vs, rest) → (mid : List Bool) × (values_at w k id bits ≡ Ok (take k vs, mid))
values_front w id k n bits rest vs few e =
    elim (cases_eq id 0) [
      | inl none ↦
          let p = ok_parts (replicate n 0) vs bits rest (sym (values_at-zero w n id bits none) ∙ e) in
          (bits, values_at-zero w k id bits none ∙ ap (λ l. Ok (l, bits)) (sym (take-replicate k n 0 few) ∙ ap (take k) p.0))
      | inr some ↦ elim (cases_eq id (row w).raw_id) [
        | inl raw ↦
            let front = many_front (number_at w) k n bits rest vs few (sym (values_at-raw w n id bits some raw) ∙ e) in
            (front.0, values_at-raw w k id bits some raw ∙ front.1)
        | inr split ↦
            let front = many_front (split_at w (id - 1)) k n bits rest vs few (sym (values_at-split w n id bits some split) ∙ e) in
            (front.0, values_at-split w k id bits some split ∙ front.1)
      ]
    ]

block_front : (w k n : ℕ) (bits rest : List Bool) (vs : List ℕ) → k ≤ n → block_at w n bits ≡ Ok (vs, rest) → (mid : List Bool) × (block_at w k bits ≡ Ok (take k vs, mid))
block_front w k n bits rest vs few e =
    let p = and_then-ok (id_at (row w).id_len (row w).raw_id bits) (values_at w n) vs rest e in
    let front = values_front w p.0 k n p.1 rest vs few p.3 in
    (front.0, ap (λ r. and_then r (values_at w k)) p.2 ∙ front.1)

read_front : NumberLaws → (fuel w block k n : ℕ) (bits rest : List Bool) (vs : List ℕ) → IsWidth w → 0 < block → n ≤ fuel → k ≤ n → read w block n bits ≡ Ok (vs, rest) → (mid : List Bool) × (read w block k bits ≡ Ok (take k vs, mid))
read_front laws fuel w block zero n bits rest vs is some enough few e = (bits, read_none w block bits)
read_front laws zero w block (suc k) n bits rest vs is some enough few e = absurd (omega arith)
read_front laws (suc fuel) w block (suc k) n bits rest vs is some enough few e =
    let p = parts_of w block n bits vs rest some (omega arith) e in
    let len : length p.first ≡ min block n = ((block_reader laws w (min block n) is).sound bits p.first p.more p.first_is).1.len in
    elim (cases_lt (suc k) block) [
      | inl less ↦
          let front = block_front w (suc k) (min block n) bits p.more p.first (omega arith) p.first_is in
          let size : min block (suc k) ≡ suc k = omega arith in
          let none : suc k - block ≡ 0 = omega arith in
          (front.0, read_some w block (suc k) bits some (omega arith) ∙ ap (λ j. and_then (block_at w j bits) (after w block (suc k))) size ∙ ap (λ r. and_then r (after w block (suc k))) front.1 ∙ ap (λ j. reading_map (λ more. take (suc k) p.first ++ more) (read w block j front.0)) none ∙ ap (reading_map (λ more. take (suc k) p.first ++ more)) (read_none w block front.0) ∙ ap (λ l. Ok (l, front.0)) (append-nil (take (suc k) p.first) ∙ sym (take-append-le (suc k) p.first p.others (omega (arith, len))) ∙ ap (take (suc k)) p.all))
      | inr more ↦
          let size : min block (suc k) ≡ min block n = omega arith in
          let front = read_front laws fuel w block (suc k - block) (n - block) p.more rest p.others is some (omega arith) (omega arith) p.others_are in
          let whole : suc k ≡ length p.first + (suc k - block) = omega (arith, len) in
          (front.0, read_some w block (suc k) bits some (omega arith) ∙ ap (λ j. and_then (block_at w j bits) (after w block (suc k))) size ∙ ap (λ r. and_then r (after w block (suc k))) p.first_is ∙ ap (reading_map (λ more. p.first ++ more)) front.1 ∙ ap (λ l. Ok (l, front.0)) (sym (take-append-add p.first p.others (suc k - block)) ∙ ap (λ j. take j (p.first ++ p.others)) (sym whole) ∙ ap (take (suc k)) p.all))
    ]

numbers_from-take : (w start k : ℕ) (vs : List ℕ) → numbers_from w start (take k vs) ≡ take k (numbers_from w start vs)
numbers_from-take w start zero vs = refl
numbers_from-take w start (suc k) [] = refl
numbers_from-take w start (suc k) (v ∷ vs) =
    ap (λ l. number w (next_residue w start v) ∷ l) (numbers_from-take w (next_residue w start v) k vs)

-- a whole code that was read
record Whole (w block : ℕ) (xs : List ℤ) (bits : List Bool) : Type 0 where
  start : ℕ
  first : List Bool
  begins : number_at w bits ≡ Ok (start, first)
  values : List ℕ
  rest : List Bool
  blocks : read w block (length xs) first ≡ Ok (values, rest)
  numbers_are : numbers_from w start values ≡ xs

whole_of : NumberLaws → (w block : ℕ) (xs : List ℤ) (bytes : ℕ) (bits : List Bool) → IsWidth w → 1 ≤ block → BeginsWith w block xs bytes bits → Whole w block xs bits
whole_of laws w block xs bytes bits is some b =
    let n = length xs in
    let e : code_at w block n bits ≡ Ok (xs, b.rest) = ap (code_at w block n) b.is ∙ (code_reader laws w block n is (omega arith)).complete xs b.code b.rest (refl, b.is_code) in
    let p = and_then-ok (number_at w bits) (λ start rest. reading_map (numbers_from w start) (read w block n rest)) xs b.rest e in
    let q = reading_map-ok (numbers_from w p.0) (read w block n p.1) xs b.rest p.3 in
    record { start = p.0; first = p.1; begins = p.2; values = q.0; rest = b.rest; blocks = q.1; numbers_are = q.2 }

pub holds_last : NumberLaws → (w block : ℕ) (xs : List ℤ) (bits : List Bool) (mark : Mark) → IsWidth w → IsMark w block xs bits mark → mark.last < 2 ^ w
holds_last laws w block xs bits mark is m =
    let fits = ((number_reader laws w).sound bits m.start m.first m.begins).1.0 in
    subst (λ (u : ℕ). u < 2 ^ w) (sym m.last_is) (last_of_lt w m.start m.values fits)

pub are_numbers : (w block : ℕ) (bits : List Bool) (mark next : Mark) (ys : List ℤ) → IsWidth w → ReadsOn w block bits mark ys next → All (IsNumber w) ys
are_numbers w block bits mark next ys is r =
    All-from_recursion (IsNumber w) ys (subst (λ (l : List ℤ). AllByRecursion (IsNumber w) l) (sym r.numbers_are) (IsNumber-numbers_from w mark.last r.values is))

pub whole_before : NumberLaws → (w block : ℕ) (xs : List ℤ) (bits : List Bool) (mark : Mark) → IsWidth w → 1 ≤ block → IsMark w block xs bits mark → BeginsWith w block xs ((mark.bit + 7) / 8) bits
whole_before laws w block xs bits mark is some m =
    let n = length xs in
    let gives : GivesNumbers w m.start (read w block n m.first) xs mark.last (drop mark.bit bits) = record { values = m.values; is = m.blocks; numbers_are = m.numbers_are; last_is = m.last_is } in
    let e = code_read w block n m.start mark.last bits m.first (drop mark.bit bits) xs m.begins gives in
    let size : mark.bit ≡ length bits - length (drop mark.bit bits) = omega (arith, length-drop mark.bit bits, m.within) in
    begins laws w block n is (omega arith) bits xs (drop mark.bit bits) ((mark.bit + 7) / 8) e (ap (λ k. (k + 7) / 8) size)

pub leads_on : (w block : ℕ) (xs ys : List ℤ) (bits : List Bool) (mark next : Mark) → 1 ≤ block → length xs % block ≡ 0 → IsMark w block xs bits mark → ReadsOn w block bits mark ys next → IsMark w block (xs ++ ys) bits next
leads_on w block xs ys bits mark next some whole m r = record {
  start = m.start;
  first = m.first;
  begins = m.begins;
  values = m.values ++ r.values;
  blocks = ap (λ n. read w block n m.first) (length-append xs ys) ∙ join w block (length xs) (length ys) m.first (drop mark.bit bits) m.values (omega arith) whole m.blocks ∙ ap (reading_map (λ us. m.values ++ us)) r.blocks;
  numbers_are = ap (λ l. l ++ ys) m.numbers_are ∙ ap (λ l. numbers_from w m.start m.values ++ l) (r.numbers_are ∙ ap (λ u. numbers_from w u r.values) m.last_is) ∙ sym (numbers_from-append w m.start m.values r.values);
  last_is = r.last_is ∙ ap (λ u. last_of w u r.values) m.last_is ∙ sym (last_of-append w m.start m.values r.values);
  within = r.within;
}

pub is_front : NumberLaws → (w block : ℕ) (xs ys : List ℤ) (bytes : ℕ) (bits : List Bool) (mark : Mark) → IsWidth w → 1 ≤ block → length ys ≤ length xs → BeginsWith w block xs bytes bits → IsMark w block ys bits mark → ys ≡ take (length ys) xs
is_front laws w block xs ys bytes bits mark is some few b m =
    let h = whole_of laws w block xs bytes bits is some b in
    let k = length ys in
    let begin = ok_parts m.start h.start m.first h.first (sym m.begins ∙ h.begins) in
    let front = read_front laws (length xs) w block k (length xs) h.first h.rest h.values is (omega arith) (omega arith) few h.blocks in
    let p = ok_parts m.values (take k h.values) (drop mark.bit bits) front.0 (sym m.blocks ∙ ap (read w block k) begin.1 ∙ front.1) in
    m.numbers_are ∙ ap (λ u. numbers_from w u m.values) begin.0 ∙ ap (numbers_from w h.start) p.0 ∙ numbers_from-take w h.start k h.values ∙ ap (take k) h.numbers_are

pub are_next : NumberLaws → (w block : ℕ) (xs ys zs : List ℤ) (bytes : ℕ) (bits : List Bool) (mark next : Mark) → IsWidth w → 1 ≤ block → length ys % block ≡ 0 → length ys + length zs ≤ length xs → BeginsWith w block xs bytes bits → IsMark w block ys bits mark → ReadsOn w block bits mark zs next → zs ≡ take (length zs) (drop (length ys) xs)
are_next laws w block xs ys zs bytes bits mark next is some whole few b m r =
    let len = length-append ys zs in
    let all = is_front laws w block xs (ys ++ zs) bytes bits next is some (omega (arith, len)) b (leads_on w block ys zs bits mark next some whole m r) in
    sym (drop_at ys zs (length ys) refl) ∙ ap (drop (length ys)) (all ∙ ap (λ n. take n xs) len) ∙ drop-take (length ys) (length zs) xs

pub never_stops : NumberLaws → (w block : ℕ) (xs ys : List ℤ) (bytes n : ℕ) (bits : List Bool) (mark : Mark) (e : CodeFault) → IsWidth w → 1 ≤ block → length ys % block ≡ 0 → length ys + n ≤ length xs → BeginsWith w block xs bytes bits → IsMark w block ys bits mark → StopsAfter w block bits mark n e → ⊥
never_stops laws w block xs ys bytes n bits mark e is some whole few b m stop =
    let h = whole_of laws w block xs bytes bits is some b in
    let k = length ys + n in
    let begin = ok_parts m.start h.start m.first h.first (sym m.begins ∙ h.begins) in
    let front = read_front laws (length xs) w block k (length xs) h.first h.rest h.values is (omega arith) (omega arith) few h.blocks in
    let joined = join w block (length ys) n m.first (drop mark.bit bits) m.values (omega arith) whole m.blocks in
    let clash : ◌≡◌ {A = Reading (List ℕ)} (Err e) (Ok (take k h.values, front.0)) = sym (joined ∙ ap (reading_map (λ us. m.values ++ us)) stop) ∙ ap (read w block k) begin.1 ∙ front.1 in
    absurd (let none : ⊥ = cc in none)

pub has_start : NumberLaws → (w block : ℕ) (xs : List ℤ) (bytes : ℕ) (bits : List Bool) (e : CodeFault) → IsWidth w → 1 ≤ block → BeginsWith w block xs bytes bits → number_at w bits ≡ Err e → ⊥
has_start laws w block xs bytes bits e is some b none =
    let h = whole_of laws w block xs bytes bits is some b in
    let clash : ◌≡◌ {A = Reading ℕ} (Err e) (Ok (h.start, h.first)) = sym none ∙ h.begins in
    absurd (let never : ⊥ = cc in never)

-- bytes passed over are eight bits each
drop_bytes : NumberLaws → (k : ℕ) (bytes : List ℕ) → drop (8 * k) (bits_of bytes) ≡ bits_of (drop k bytes)
unfolding bits_of
drop_bytes laws zero bytes = refl
drop_bytes laws (suc k) [] = drop_all (8 * suc k) (bits_of []) (omega arith)
drop_bytes laws (suc k) (b ∷ bytes) =
    let size : 8 * suc k ≡ length (number_bits 8 b) + 8 * k = omega (arith, laws.many 8 b) in
    ap (λ n. drop n (number_bits 8 b ++ bits_of bytes)) size ∙ drop-append-add (number_bits 8 b) (bits_of bytes) (8 * k) ∙ drop_bytes laws k bytes

drop_moved : NumberLaws → (k bit : ℕ) (bytes : List ℕ) → drop (8 * k + bit) (bits_of bytes) ≡ drop bit (bits_of (drop k bytes))
drop_moved laws k bit bytes = sym (drop-drop bit (8 * k) (bits_of bytes)) ∙ ap (drop bit) (drop_bytes laws k bytes)

pub reads_on_in_all : NumberLaws → HasEightBits → (w block k : ℕ) (bytes : List ℕ) (ys : List ℤ) (mark next : Mark) → k ≤ length bytes → ReadsOn w block (bits_of (drop k bytes)) mark ys next → ReadsOn w block (bits_of bytes) (with_before k mark) ys (with_before k next)
reads_on_in_all laws eight w block k bytes ys mark next within r = record {
  values = r.values;
  blocks = ap (read w block (length ys)) (drop_moved laws k mark.bit bytes) ∙ r.blocks ∙ ap (λ l. Ok (r.values, l)) (sym (drop_moved laws k next.bit bytes));
  numbers_are = r.numbers_are;
  last_is = r.last_is;
  within = omega (arith, r.within, eight bytes, eight (drop k bytes), length-drop k bytes);
}

pub stops_in_all : NumberLaws → (w block k n : ℕ) (bytes : List ℕ) (mark : Mark) (e : CodeFault) → StopsAfter w block (bits_of (drop k bytes)) mark n e → StopsAfter w block (bits_of bytes) (with_before k mark) n e
stops_in_all laws w block k n bytes mark e stop = ap (read w block n) (drop_moved laws k mark.bit bytes) ∙ stop

-- What the two calls answer.

-- bits behind a front that was passed over
left_is : (at next : ℕ) (bits code rest : List Bool) → drop at bits ≡ code ++ rest → at ≤ length bits → next + length rest ≡ length bits → rest ≡ drop next bits
left_is at next bits code rest is within count =
    let size : next ≡ at + length code = omega (arith, ap length is, length-drop at bits, length-append code rest) in
    sym (ap (λ n. drop n bits) size ∙ sym (drop-drop (length code) at bits) ∙ ap (drop (length code)) is ∙ drop_at code rest (length code) refl)

pub first_is_mark : NumberLaws → (w block : ℕ) (bits rest : List Bool) (mark : Mark) → number_at w bits ≡ Ok (mark.last, rest) → mark.bit + length rest ≡ length bits → IsMark w block [] bits mark
first_is_mark laws w block bits rest mark e count =
    let front = (number_reader laws w).sound bits mark.last rest e in
    record {
      start = mark.last;
      first = rest;
      begins = e;
      values = [];
      blocks = read_none w block rest ∙ ap (λ l. Ok ([], l)) (left_is 0 mark.bit bits front.0 rest front.2 (omega arith) count);
      numbers_are = refl;
      last_is = refl;
      within = omega arith;
    }

pub reads_on : NumberLaws → (w block n : ℕ) (bits rest : List Bool) (mark next : Mark) (numbers : List ℤ) → IsWidth w → 0 < block → length numbers ≡ n → mark.bit ≤ length bits → next.bit + length rest ≡ length bits → GivesNumbers w mark.last (blocks_at w block n n (drop mark.bit bits)) numbers next.last rest → ReadsOn w block bits mark numbers next
reads_on laws w block n bits rest mark next numbers is some len within count gives =
    let front = (blocks_reader laws w block n n is some (omega arith)).sound (drop mark.bit bits) gives.values rest gives.is in
    record {
      values = gives.values;
      blocks = ap (λ k. read w block k (drop mark.bit bits)) len ∙ gives.is ∙ ap (λ l. Ok (gives.values, l)) (left_is mark.bit next.bit bits front.0 rest front.2 within count);
      numbers_are = gives.numbers_are;
      last_is = gives.last_is;
      within = omega arith;
    }

-- the bits after those before `bit` in its byte
pub passed : NumberLaws → (bit v : ℕ) (bytes : List ℕ) (all rest : List Bool) → all ≡ bits_of (take (length bytes - bit / 8) (drop (bit / 8) bytes)) → all ≡ number_bits (bit % 8) v ++ rest → rest ≡ drop bit (bits_of bytes)
passed laws bit v bytes all rest is front =
    let whole : all ≡ bits_of (drop (bit / 8) bytes) = is ∙ ap bits_of (take_rest bytes (bit / 8)) in
    let size : 8 * (bit / 8) + bit % 8 ≡ bit = omega arith in
    sym (drop_at (number_bits (bit % 8) v) rest (bit % 8) (laws.many (bit % 8) v)) ∙ ap (drop (bit % 8)) (sym front ∙ whole) ∙ sym (drop_moved laws (bit / 8) (bit % 8) bytes) ∙ ap (λ n. drop n (bits_of bytes)) size
