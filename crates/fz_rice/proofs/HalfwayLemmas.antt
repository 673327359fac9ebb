-- Numbers that are read one after another: what stands so far, and what is left to read.
use Rattle.std.proofs.Common.{◌≡◌, ℕ, zero, suc, ◌+◌, ◌-◌, ◌%◌, ◌^◌, ◌<◌, ◌≤◌, min, Bool, ℤ, List, [], ◌∷◌, ◌++◌, length, take, set, replicate, Ok, Err, refl, sym, subst, ap, ◌∙◌, arith, append_assoc, add-zero}
use Rattle.std.proofs.Math.Nat.{mod-eq_of_lt}
use Rattle.std.proofs.lemmas.List.{append-nil, take_more_set, take_all}
use Rattle.fz_rice.specs.Code.{row}
use Rattle.fz_rice.specs.Reading.{Reading, and_then, reading_map, many_at, id_at, values_at, block_at, blocks_at, number, next_residue, last_of, numbers_from, GivesNumbers}
use Rattle.fz_rice.specs.declared.coder.CodeFault.{CodeFault}
use Rattle.fz_rice.proofs.NumbersLemmas.{next_lt}

-- the values so far stand in front of what is left to read
pub record Halfway (w start : ℕ) (whole more : Reading (List ℕ)) (numbers : List ℤ) (last : ℕ) : Type 0 where
  pub values : List ℕ
  pub is : whole ≡ reading_map (λ vs. values ++ vs) more
  pub numbers_are : numbers ≡ numbers_from w start values
  pub last_is : last ≡ last_of w start values

pub numbers_from-append : (w start : ℕ) (xs ys : List ℕ) → numbers_from w start (xs ++ ys) ≡ numbers_from w start xs ++ numbers_from w (last_of w start xs) ys
numbers_from-append w start [] ys = refl
numbers_from-append w start (x ∷ xs) ys =
    ap (λ l. number w (next_residue w start x) ∷ l) (numbers_from-append w (next_residue w start x) xs ys)

pub last_of-append : (w start : ℕ) (xs ys : List ℕ) → last_of w start (xs ++ ys) ≡ last_of w (last_of w start xs) ys
last_of-append w start [] ys = refl
last_of-append w start (x ∷ xs) ys = last_of-append w (next_residue w start x) xs ys

pub last_of_lt : (w start : ℕ) (vs : List ℕ) → start < 2 ^ w → last_of w start vs < 2 ^ w
last_of_lt w start [] h = h
last_of_lt w start (v ∷ vs) h = last_of_lt w (next_residue w start v) vs (next_lt w start v)

pub map_nothing : (r : Reading (List ℕ)) → r ≡ reading_map (λ vs. [] ++ vs) r
map_nothing (Ok p) = refl
map_nothing (Err e) = refl

map_twice : (xs : List ℕ) (v : ℕ) (r : Reading (List ℕ)) → reading_map (λ vs. xs ++ vs) (reading_map (λ vs. v ∷ vs) r) ≡ reading_map (λ vs. (xs ++ v ∷ []) ++ vs) r
map_twice xs v (Ok p) = ap (λ l. Ok (l, p.1)) (sym (append_assoc xs (v ∷ []) p.0))
map_twice xs v (Err e) = refl

pub map_append : (xs ys : List ℕ) (r : Reading (List ℕ)) → reading_map (λ vs. xs ++ vs) (reading_map (λ vs. ys ++ vs) r) ≡ reading_map (λ vs. (xs ++ ys) ++ vs) r
map_append xs ys (Ok p) = ap (λ l. Ok (l, p.1)) (sym (append_assoc xs ys p.0))
map_append xs ys (Err e) = refl

pub halfway_start : (w start : ℕ) (whole : Reading (List ℕ)) → Halfway w start whole whole [] start
halfway_start w start whole = record { values = []; is = map_nothing whole; numbers_are = refl; last_is = refl }

pub halfway_value : (w start : ℕ) (whole : Reading (List ℕ)) (read : List Bool → Reading ℕ) (n : ℕ) (bits rest : List Bool) (numbers : List ℤ) (last v : ℕ) → Halfway w start whole (many_at read (suc n) bits) numbers last → read bits ≡ Ok (v, rest) → Halfway w start whole (many_at read n rest) (numbers ++ number w (next_residue w last v) ∷ []) (next_residue w last v)
unfolding many_at
halfway_value w start whole read n bits rest numbers last v half one = record {
  values = half.values ++ v ∷ [];
  is = half.is ∙ ap (λ r. reading_map (λ vs. half.values ++ vs) (and_then r (λ u more. reading_map (λ vs. u ∷ vs) (many_at read n more)))) one ∙ map_twice half.values v (many_at read n rest);
  numbers_are = ap (λ l. l ++ number w (next_residue w last v) ∷ []) half.numbers_are ∙ ap (λ k. numbers_from w start half.values ++ number w (next_residue w k v) ∷ []) half.last_is ∙ sym (numbers_from-append w start half.values (v ∷ []));
  last_is = ap (λ k. next_residue w k v) half.last_is ∙ sym (last_of-append w start half.values (v ∷ []));
}

pub halfway_fault : (w start : ℕ) (whole : Reading (List ℕ)) (read : List Bool → Reading ℕ) (n : ℕ) (bits : List Bool) (numbers : List ℤ) (last : ℕ) (e : CodeFault) → Halfway w start whole (many_at read (suc n) bits) numbers last → read bits ≡ Err e → whole ≡ Err e
unfolding many_at
halfway_fault w start whole read n bits numbers last e half one =
    half.is ∙ ap (λ r. reading_map (λ vs. half.values ++ vs) (and_then r (λ u more. reading_map (λ vs. u ∷ vs) (many_at read n more)))) one

pub halfway_end : (w start : ℕ) (whole : Reading (List ℕ)) (read : List Bool → Reading ℕ) (rest : List Bool) (numbers : List ℤ) (last : ℕ) → Halfway w start whole (many_at read 0 rest) numbers last → GivesNumbers w start whole numbers last rest
unfolding many_at
halfway_end w start whole read rest numbers last half = record {
  values = half.values;
  is = half.is ∙ ap (λ l. Ok (l, rest)) (append-nil half.values);
  numbers_are = half.numbers_are;
  last_is = half.last_is;
}

-- a block of values more
pub halfway_block : (w start block fuel n : ℕ) (whole : Reading (List ℕ)) (bits rest : List Bool) (numbers more : List ℤ) (last next : ℕ) → Halfway w start whole (blocks_at w block (suc fuel) (suc n) bits) numbers last → GivesNumbers w last (block_at w (min block (suc n)) bits) more next rest → Halfway w start whole (blocks_at w block fuel (suc n - block) rest) (numbers ++ more) next
unfolding blocks_at
halfway_block w start block fuel n whole bits rest numbers more last next half one = record {
  values = half.values ++ one.values;
  is = half.is ∙ ap (λ r. reading_map (λ vs. half.values ++ vs) (and_then r (λ u x. reading_map (λ vs. u ++ vs) (blocks_at w block fuel (suc n - block) x)))) one.is ∙ map_append half.values one.values (blocks_at w block fuel (suc n - block) rest);
  numbers_are = ap (λ l. l ++ more) half.numbers_are ∙ ap (λ l. numbers_from w start half.values ++ l) (one.numbers_are ∙ ap (λ k. numbers_from w k one.values) half.last_is) ∙ sym (numbers_from-append w start half.values one.values);
  last_is = one.last_is ∙ ap (λ k. last_of w k one.values) half.last_is ∙ sym (last_of-append w start half.values one.values);
}

pub halfway_block_fault : (w start block fuel n : ℕ) (whole : Reading (List ℕ)) (bits : List Bool) (numbers : List ℤ) (last : ℕ) (e : CodeFault) → Halfway w start whole (blocks_at w block (suc fuel) (suc n) bits) numbers last → block_at w (min block (suc n)) bits ≡ Err e → whole ≡ Err e
unfolding blocks_at
halfway_block_fault w start block fuel n whole bits numbers last e half one =
    half.is ∙ ap (λ r. reading_map (λ vs. half.values ++ vs) (and_then r (λ u x. reading_map (λ vs. u ++ vs) (blocks_at w block fuel (suc n - block) x)))) one

pub halfway_blocks_end : (w start block fuel : ℕ) (whole : Reading (List ℕ)) (rest : List Bool) (numbers : List ℤ) (last : ℕ) → Halfway w start whole (blocks_at w block fuel 0 rest) numbers last → GivesNumbers w start whole numbers last rest
unfolding blocks_at
halfway_blocks_end w start block fuel whole rest numbers last half = record {
  values = half.values;
  is = half.is ∙ ap (λ l. Ok (l, rest)) (append-nil half.values);
  numbers_are = half.numbers_are;
  last_is = half.last_is;
}

-- zeros repeat the number of the residue
pub next-zero : (w last : ℕ) → last < 2 ^ w → next_residue w last 0 ≡ last
next-zero w last h = ap (λ k. k % 2 ^ w) (add-zero last) ∙ mod-eq_of_lt h

pub numbers_from-zeros : (w last n : ℕ) → last < 2 ^ w → numbers_from w last (replicate n 0) ≡ replicate n (number w last)
numbers_from-zeros w last zero h = refl
numbers_from-zeros w last (suc n) h =
    ap (λ u. number w u ∷ numbers_from w u (replicate n 0)) (next-zero w last h) ∙ ap (λ l. number w last ∷ l) (numbers_from-zeros w last n h)

pub last_of-zeros : (w last n : ℕ) → last < 2 ^ w → last_of w last (replicate n 0) ≡ last
last_of-zeros w last zero h = refl
last_of-zeros w last (suc n) h =
    ap (λ u. last_of w u (replicate n 0)) (next-zero w last h) ∙ last_of-zeros w last n h

-- a block whose id was read
pub block_read : (w n id : ℕ) (bits rest : List Bool) → id_at (row w).id_len (row w).raw_id bits ≡ Ok (id, rest) → block_at w n bits ≡ values_at w n id rest
block_read w n id bits rest one = ap (λ r. and_then r (values_at w n)) one

pub block_fault : (w n : ℕ) (bits : List Bool) (e : CodeFault) → id_at (row w).id_len (row w).raw_id bits ≡ Err e → block_at w n bits ≡ Err e
block_fault w n bits e one = ap (λ r. and_then r (values_at w n)) one

pub gives_same : (w start : ℕ) (read other : Reading (List ℕ)) (numbers : List ℤ) (last : ℕ) (rest : List Bool) → other ≡ read → GivesNumbers w start read numbers last rest → GivesNumbers w start other numbers last rest
gives_same w start read other numbers last rest e gives = record {
  values = gives.values;
  is = e ∙ gives.is;
  numbers_are = gives.numbers_are;
  last_is = gives.last_is;
}

-- one value more in its place
pub halfway_step : (w start : ℕ) (whole : Reading (List ℕ)) (read : List Bool → Reading ℕ) (m n i : ℕ) (bits rest : List Bool) (numbers : List ℤ) (x : ℤ) (last v u : ℕ) → Halfway w start whole (many_at read m bits) (take i numbers) last → m ≡ suc n → read bits ≡ Ok (v, rest) → u ≡ next_residue w last v → x ≡ number w u → i < length numbers → Halfway w start whole (many_at read n rest) (take (i + 1) (set numbers i x)) u
halfway_step w start whole read m n i bits rest numbers x last v u half more one next is within =
    let half' : Halfway w start whole (many_at read (suc n) bits) (take i numbers) last = subst (λ (k : ℕ). Halfway w start whole (many_at read k bits) (take i numbers) last) more half in
    let after = halfway_value w start whole read n bits rest (take i numbers) last v half' one in
    let same : take i numbers ++ number w (next_residue w last v) ∷ [] ≡ take (i + 1) (set numbers i x) = ap (λ y. take i numbers ++ y ∷ []) (sym (is ∙ ap (number w) next)) ∙ sym (take_more_set numbers i x within) in
    subst (λ (k : ℕ). Halfway w start whole (many_at read n rest) (take (i + 1) (set numbers i x)) k) (sym next) (subst (λ (l : List ℤ). Halfway w start whole (many_at read n rest) l (next_residue w last v)) same after)

pub halfway_fault_at : (w start : ℕ) (whole : Reading (List ℕ)) (read : List Bool → Reading ℕ) (m : ℕ) (bits : List Bool) (numbers : List ℤ) (last : ℕ) (e : CodeFault) → Halfway w start whole (many_at read m bits) numbers last → 0 < m → read bits ≡ Err e → whole ≡ Err e
halfway_fault_at w start whole read zero bits numbers last e half some one = absurd (omega arith)
halfway_fault_at w start whole read (suc n) bits numbers last e half some one = halfway_fault w start whole read n bits numbers last e half one

pub halfway_all : (w start : ℕ) (whole : Reading (List ℕ)) (read : List Bool → Reading ℕ) (m i : ℕ) (rest : List Bool) (numbers : List ℤ) (last : ℕ) → Halfway w start whole (many_at read m rest) (take i numbers) last → m ≡ 0 → length numbers ≤ i → GivesNumbers w start whole numbers last rest
halfway_all w start whole read m i rest numbers last half none all =
    halfway_end w start whole read rest numbers last (subst (λ (l : List ℤ). Halfway w start whole (many_at read 0 rest) l last) (take_all i numbers all) (subst (λ (k : ℕ). Halfway w start whole (many_at read k rest) (take i numbers) last) none half))

-- the blocks that are left are read with enough fuel
pub record HalfwayBlocks (w start block : ℕ) (whole : Reading (List ℕ)) (n : ℕ) (bits : List Bool) (numbers : List ℤ) (last : ℕ) : Type 0 where
  pub fuel : ℕ
  pub enough : n ≤ fuel
  pub half : Halfway w start whole (blocks_at w block fuel n bits) numbers last

pub blocks_start : (w start block n : ℕ) (bits : List Bool) → HalfwayBlocks w start block (blocks_at w block n n bits) n bits [] start
blocks_start w start block n bits = record { fuel = n; enough = omega arith; half = halfway_start w start (blocks_at w block n n bits) }

blocks_fuel : (w start block fuel n : ℕ) (whole : Reading (List ℕ)) (bits rest : List Bool) (numbers more : List ℤ) (last next : ℕ) → suc n ≤ fuel → Halfway w start whole (blocks_at w block fuel (suc n) bits) numbers last → 0 < block → GivesNumbers w last (block_at w (min block (suc n)) bits) more next rest → HalfwayBlocks w start block whole (suc n - block) rest (numbers ++ more) next
blocks_fuel w start block zero n whole bits rest numbers more last next enough h size one = absurd (omega arith)
blocks_fuel w start block (suc fuel) n whole bits rest numbers more last next enough h size one = record {
  fuel = fuel;
  enough = omega arith;
  half = halfway_block w start block fuel n whole bits rest numbers more last next h one;
}

pub blocks_step : (w start block : ℕ) (whole : Reading (List ℕ)) (n : ℕ) (bits rest : List Bool) (numbers more : List ℤ) (last next : ℕ) → HalfwayBlocks w start block whole n bits numbers last → 0 < n → 0 < block → GivesNumbers w last (block_at w (min block n) bits) more next rest → HalfwayBlocks w start block whole (n - block) rest (numbers ++ more) next
blocks_step w start block whole zero bits rest numbers more last next half some size one = absurd (omega arith)
blocks_step w start block whole (suc n) bits rest numbers more last next half some size one =
    blocks_fuel w start block half.fuel n whole bits rest numbers more last next half.enough half.half size one

fault_fuel : (w start block fuel n : ℕ) (whole : Reading (List ℕ)) (bits : List Bool) (numbers : List ℤ) (last : ℕ) (e : CodeFault) → suc n ≤ fuel → Halfway w start whole (blocks_at w block fuel (suc n) bits) numbers last → block_at w (min block (suc n)) bits ≡ Err e → whole ≡ Err e
fault_fuel w start block zero n whole bits numbers last e enough h one = absurd (omega arith)
fault_fuel w start block (suc fuel) n whole bits numbers last e enough h one = halfway_block_fault w start block fuel n whole bits numbers last e h one

pub blocks_fault : (w start block : ℕ) (whole : Reading (List ℕ)) (n : ℕ) (bits : List Bool) (numbers : List ℤ) (last : ℕ) (e : CodeFault) → HalfwayBlocks w start block whole n bits numbers last → 0 < n → block_at w (min block n) bits ≡ Err e → whole ≡ Err e
blocks_fault w start block whole zero bits numbers last e half some one = absurd (omega arith)
blocks_fault w start block whole (suc n) bits numbers last e half some one =
    fault_fuel w start block half.fuel n whole bits numbers last e half.enough half.half one

pub blocks_end : (w start block : ℕ) (whole : Reading (List ℕ)) (n : ℕ) (bits : List Bool) (numbers : List ℤ) (last : ℕ) → HalfwayBlocks w start block whole n bits numbers last → n ≡ 0 → GivesNumbers w start whole numbers last bits
blocks_end w start block whole n bits numbers last half none =
    halfway_blocks_end w start block half.fuel whole bits numbers last (subst (λ (k : ℕ). Halfway w start whole (blocks_at w block half.fuel k bits) numbers last) none half.half)
