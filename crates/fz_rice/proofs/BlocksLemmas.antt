-- Blocks that are written one after another.
use Rattle.std.proofs.Common.{◌≡◌, ℕ, zero, suc, ◌+◌, ◌-◌, ◌<◌, ◌≤◌, min, Bool, ℤ, List, [], ◌∷◌, ◌++◌, length, take, drop, get_or, Ok, Err, refl, sym, subst, ap, ◌∙◌, arith, append_assoc, length-drop}
use Rattle.std.specs.List.{flat_map}
use Rattle.std.proofs.lemmas.List.{append-nil, take_min, drop_all, drop-drop, get_or-drop, drop_min}
use Rattle.fz_bits.specs.Writer.{written, room}
use Rattle.fz_bits.specs.declared.writer.BitWriter.{BitWriter}
use Rattle.fz_bits.specs.declared.writer.Full.{Full}
use Rattle.fz_rice.specs.Numbers.{residue}
use Rattle.fz_rice.specs.Code.{differences, pieces, pieces_of}
use Rattle.fz_rice.specs.Producer.{chosen_block}
use Rattle.fz_rice.specs.Writing.{Writes}
use Rattle.fz_rice.proofs.NumbersLemmas.{length-differences}
use Rattle.fz_rice.proofs.WritesLemmas.{last_residue, last_residue-more, writes_seq, writes_stop, writes_nothing, writes_unit}

pub pieces_of-enough : (f g block : ℕ) (vs : List ℕ) → 0 < block → length vs ≤ f → length vs ≤ g → pieces_of f block vs ≡ pieces_of g block vs
pieces_of-enough zero zero block vs some h k = refl
pieces_of-enough zero (suc g) block [] some h k = refl
pieces_of-enough zero (suc g) block (v ∷ vs) some h k = absurd (omega (arith, h))
pieces_of-enough (suc f) zero block [] some h k = refl
pieces_of-enough (suc f) zero block (v ∷ vs) some h k = absurd (omega (arith, k))
pieces_of-enough (suc f) (suc g) block [] some h k = refl
pieces_of-enough (suc f) (suc g) block (v ∷ vs) some h k =
    let less = length-drop block (v ∷ vs) in
    ap (λ l. take block (v ∷ vs) ∷ l) (pieces_of-enough f g block (drop block (v ∷ vs)) some (omega (arith, less, h)) (omega (arith, less, k)))

pub pieces-some : (block : ℕ) (vs : List ℕ) → 0 < block → 0 < length vs → pieces block vs ≡ take block vs ∷ pieces block (drop block vs)
pieces-some block [] some h = absurd (omega arith)
pieces-some block (v ∷ vs) some h =
    let less = length-drop block (v ∷ vs) in
    ap (λ l. take block (v ∷ vs) ∷ l) (pieces_of-enough (length vs) (length (drop block (v ∷ vs))) block (drop block (v ∷ vs)) some (omega (arith, less)) (omega arith))

-- the differences of the first numbers, and of those after them
differences-take : (w last block : ℕ) (xs : List ℤ) → take block (differences w last xs) ≡ differences w last (take block xs)
differences-take w last zero xs = refl
differences-take w last (suc block) [] = refl
differences-take w last (suc block) (x ∷ xs) =
    ap (λ l. get_or (differences w last (x ∷ xs)) 0 0 ∷ l) (differences-take w (residue w x) block xs)

differences-drop : (w last block : ℕ) (xs : List ℤ) → drop block (differences w last xs) ≡ differences w (last_residue w last (take block xs)) (drop block xs)
differences-drop w last zero xs = refl
differences-drop w last (suc block) [] = refl
differences-drop w last (suc block) (x ∷ xs) = differences-drop w (residue w x) block xs

-- the bits so far stand in front of the blocks that are left to write
pub record BlocksWritten (w block : ℕ) (xs : List ℤ) (whole : List Bool) (at last : ℕ) (old new : BitWriter) : Type 0 where
  pub front : List Bool
  pub written : Writes {A = Unit {0}} (Ok tt) front old new
  pub is : whole ≡ front ++ flat_map (chosen_block w) (pieces block (differences w last (drop at xs)))

pub blocks_begin : (w block start : ℕ) (xs : List ℤ) (old : BitWriter) → length (written old) ≤ room old → BlocksWritten w block xs (flat_map (chosen_block w) (pieces block (differences w start xs))) 0 start old old
blocks_begin w block start xs old fits = record { front = []; written = writes_nothing old fits; is = refl }

next_block : (w block last : ℕ) (xs : List ℤ) → 0 < block → 0 < length xs → flat_map (chosen_block w) (pieces block (differences w last xs)) ≡ chosen_block w (differences w last (take block xs)) ++ flat_map (chosen_block w) (pieces block (differences w (last_residue w last (take block xs)) (drop block xs)))
next_block w block last xs some h =
    ap (flat_map (chosen_block w)) (pieces-some block (differences w last xs) some (omega (arith, length-differences w last xs))) ∙ ap (λ l. chosen_block w l ++ flat_map (chosen_block w) (pieces block (drop block (differences w last xs)))) (differences-take w last block xs) ∙ ap (λ l. chosen_block w (differences w last (take block xs)) ++ flat_map (chosen_block w) (pieces block l)) (differences-drop w last block xs)

-- the part of a slice that is the next block
pub block_is : (block at end : ℕ) (xs : List ℤ) → end ≡ at + min block (length xs - at) → take (end - at) (drop at xs) ≡ take block (drop at xs)
block_is block at end xs is =
    let len = length-drop at xs in
    ap (λ k. take k (drop at xs)) (omega (arith, len)) ∙ take_min block (drop at xs)

pub blocks_writes : {A : Type 0} (a : A) (w block : ℕ) (xs : List ℤ) (whole : List Bool) (at end last next : ℕ) (old mid new : BitWriter) → 0 < block → at < length xs → end ≡ at + min block (length xs - at) → next ≡ last_residue w last (take block (drop at xs)) → BlocksWritten w block xs whole at last old mid → Writes {A = A} (Ok a) (chosen_block w (differences w last (take block (drop at xs)))) mid new → BlocksWritten w block xs whole end next old new
blocks_writes a w block xs whole at end last next old mid new some within is follows half one =
    let rest = drop at xs in
    let len = length-drop at xs in
    let bits = chosen_block w (differences w last (take block rest)) in
    let gone : drop block rest ≡ drop end xs = sym (drop_min block rest) ∙ drop-drop (min block (length rest)) at xs ∙ ap (λ k. drop k xs) (omega (arith, len)) in
    record {
      front = half.front ++ bits;
      written = writes_unit a (half.front ++ bits) old new (writes_seq tt (Ok a) half.front bits old mid new half.written one);
      is = half.is ∙ ap (λ l. half.front ++ l) (next_block w block last rest some (omega (arith, len))) ∙ sym (append_assoc half.front bits (flat_map (chosen_block w) (pieces block (differences w (last_residue w last (take block rest)) (drop block rest))))) ∙ ap (λ u. (half.front ++ bits) ++ flat_map (chosen_block w) (pieces block (differences w u (drop block rest)))) (sym follows) ∙ ap (λ l. (half.front ++ bits) ++ flat_map (chosen_block w) (pieces block (differences w next l))) gone;
    }

pub blocks_stop : {A B : Type 0} (e f : Full) (w block : ℕ) (xs : List ℤ) (whole : List Bool) (at last : ℕ) (old mid new : BitWriter) → 0 < block → at < length xs → BlocksWritten w block xs whole at last old mid → Writes {A = A} (Err e) (chosen_block w (differences w last (take block (drop at xs)))) mid new → Writes {A = B} (Err f) whole old new
blocks_stop {A} {B} e f w block xs whole at last old mid new some within half one =
    let rest = drop at xs in
    let len = length-drop at xs in
    let bits = chosen_block w (differences w last (take block rest)) in
    let back = flat_map (chosen_block w) (pieces block (differences w (last_residue w last (take block rest)) (drop block rest))) in
    let all : whole ≡ (half.front ++ bits) ++ back = half.is ∙ ap (λ l. half.front ++ l) (next_block w block last rest some (omega (arith, len))) ∙ sym (append_assoc half.front bits back) in
    subst (λ (x : List Bool). Writes {A = B} (Err f) x old new) (sym all) (writes_stop e f (half.front ++ bits) back old new (writes_seq tt (Err e) half.front bits old mid new half.written one))

pub blocks_done : (w block : ℕ) (xs : List ℤ) (whole : List Bool) (at last : ℕ) (old new : BitWriter) → length xs ≤ at → BlocksWritten w block xs whole at last old new → Writes {A = Unit {0}} (Ok tt) whole old new
blocks_done w block xs whole at last old new all half =
    let none : whole ≡ half.front = half.is ∙ ap (λ l. half.front ++ flat_map (chosen_block w) (pieces block (differences w last l))) (drop_all at xs all) ∙ append-nil half.front in
    subst (λ (x : List Bool). Writes {A = Unit {0}} (Ok tt) x old new) (sym none) half.written

-- the residue of the last number of the next block
pub last_is : (w block last at end : ℕ) (xs : List ℤ) (d : ℤ) → 0 < block → at < length xs → end ≡ at + min block (length xs - at) → residue w (get_or xs (end - 1) d) ≡ last_residue w last (take block (drop at xs))
last_is w block last at end xs d some within is =
    let rest = drop at xs in
    let len = length-drop at xs in
    let i = end - at - 1 in
    let size : end - at ≡ i + 1 = omega arith in
    sym (ap (last_residue w last) (sym (block_is block at end xs is) ∙ ap (λ k. take k rest) size) ∙ last_residue-more w last rest i d (omega (arith, len)) ∙ ap (residue w) (get_or-drop at xs i d ∙ ap (λ k. get_or xs k d) (omega arith)))
