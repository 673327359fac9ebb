-- Lengths with an x between them, one after another.
use Rattle.std.proofs.Common.{◌≡◌, ℕ, zero, suc, ◌+◌, ◌<◌, ◌≤◌, List, [], ◌∷◌, ◌++◌, length, take, slice_index, codes, decimal, refl, sym, ap, ◌∙◌, add-one, arith}
use Rattle.std.proofs.Math.Seq.{take-suc}
use Rattle.std.proofs.lemmas.List.{append_assoc, get_or-take, length-take}
use Rattle.fz_files.specs.Lines.{axes_text, joined_lengths}

joined_more : (ns : List ℕ) (m : ℕ) → 0 < length ns → joined_lengths (ns ++ m ∷ []) ≡ joined_lengths ns ++ (codes "x" ++ decimal m)
joined_more [] m some = absurd (omega (arith, some))
joined_more (a ∷ []) m some = append_assoc (decimal a) (codes "x") (decimal m)
joined_more (a ∷ b ∷ ns) m some =
    ap (λ l. (decimal a ++ codes "x") ++ l) (joined_more (b ∷ ns) m (omega arith))
    ∙ sym (append_assoc (decimal a ++ codes "x") (joined_lengths (b ∷ ns)) (codes "x" ++ decimal m))

take_more : (i n : ℕ) (ns : List ℕ) → i < n → n ≤ length ns → take (i + 1) (take n ns) ≡ take i (take n ns) ++ slice_index ns i ∷ []
take_more i n ns few room =
    ap (λ k. take k (take n ns)) (add-one i) ∙ take-suc (take n ns) i 0 (omega (arith, length-take n ns, few, room))
    ∙ ap (λ x. take i (take n ns) ++ x ∷ []) (get_or-take n ns i 0 few)

some_taken : (i n : ℕ) (ns : List ℕ) → 0 < i → i < n → n ≤ length ns → 0 < length (take i (take n ns))
some_taken zero n ns some few room = absurd (omega (arith, some))
some_taken (suc i) zero ns some few room = absurd (omega (arith, few))
some_taken (suc i) (suc n) [] some few room = absurd (omega (arith, room))
some_taken (suc i) (suc n) (a ∷ ns) some few room = omega arith

-- the first, and one more
pub first_length : (n : ℕ) (ns : List ℕ) → 0 < n → n ≤ length ns → joined_lengths (take 1 (take n ns)) ≡ decimal (slice_index ns 0)
first_length zero ns some room = absurd (omega (arith, some))
first_length (suc n) [] some room = absurd (omega (arith, room))
first_length (suc n) (a ∷ ns) some room = refl

pub next_length : (i n : ℕ) (ns : List ℕ) → 0 < i → i < n → n ≤ length ns → joined_lengths (take (i + 1) (take n ns)) ≡ joined_lengths (take i (take n ns)) ++ (codes "x" ++ decimal (slice_index ns i))
next_length i n ns some few room =
    ap joined_lengths (take_more i n ns few room) ∙ joined_more (take i (take n ns)) (slice_index ns i) (some_taken i n ns some few room)

-- all of them
take_twice : (n : ℕ) (ns : List ℕ) → take n (take n ns) ≡ take n ns
take_twice zero ns = refl
take_twice (suc n) [] = refl
take_twice (suc n) (a ∷ ns) = ap (λ l. a ∷ l) (take_twice n ns)

axes_by : (ns : List ℕ) → 0 < length ns → joined_lengths ns ≡ axes_text ns
axes_by [] some = absurd (omega (arith, some))
axes_by (a ∷ ns) some = refl

some_left : (n : ℕ) (ns : List ℕ) → 0 < n → n ≤ length ns → 0 < length (take n ns)
some_left zero ns some room = absurd (omega (arith, some))
some_left (suc n) [] some room = absurd (omega (arith, room))
some_left (suc n) (a ∷ ns) some room = omega arith

pub all_lengths : (i n : ℕ) (ns : List ℕ) → i ≡ n → 0 < n → n ≤ length ns → joined_lengths (take i (take n ns)) ≡ axes_text (take n ns)
all_lengths i n ns is some room = ap (λ k. joined_lengths (take k (take n ns))) is ∙ ap joined_lengths (take_twice n ns) ∙ axes_by (take n ns) (some_left n ns some room)

pub no_lengths : (n : ℕ) (ns : List ℕ) → n ≡ 0 → codes "-" ≡ axes_text (take n ns)
no_lengths n ns none = ap (λ k. axes_text (take k ns)) (sym none)
