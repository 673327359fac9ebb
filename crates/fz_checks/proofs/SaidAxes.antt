-- Tables of nine lengths that are written axis by axis.
use Rattle.std.proofs.Common.{◌≡◌, ◌≢◌, ℕ, suc, ◌+◌, ◌-◌, ◌<◌, ◌≤◌, List, [], ◌∷◌, ◌++◌, length, get_or, set, map, replicate, refl, ap, sym, ◌∙◌, subst, arith, inl, inr, append_assoc, length-append, get_or-set_other, get_or-set_same}
use Rattle.std.specs.List.{range_with_len}
use Rattle.std.proofs.lemmas.Bool.{cases_eq}
use Rattle.std.proofs.lemmas.List.{get_or_append_left, length-replicate, set_at}
use Rattle.std.proofs.lemmas.List.FromFn.{length-map-range_with_len, get_or-map-range_with_len, map-range_with_len_more}
use Rattle.fz_block.specs.declared.axes.Axes.{Axes}
use Rattle.fz_block.specs.Facts.{nine_axes}

-- what holds of each entry so far holds of one more
pub each-more : (P : ℕ → ℕ → Type 0) (xs : List ℕ) (i v : ℕ) → i < length xs → P i v → ((k : ℕ) → k < i → P k (get_or xs k 0)) → (k : ℕ) → k < i + 1 → P k (get_or (set xs i v) k 0)
each-more P xs i v inside here below k within = elim (cases_eq k i) [
  | inl same ↦ subst (λ j. P j (get_or (set xs i v) j 0)) (sym same) (subst (λ w. P i w) (sym (get_or-set_same xs i v 0 inside)) here)
  | inr other ↦
      let apart : k ≢ i = omega arith in
      subst (λ w. P k w) (sym (get_or-set_other xs i k v 0 apart)) (below k (omega arith))
]

-- the next length takes the place of the first 0
pub write_next : (f : ℕ → ℕ) (i most : ℕ) (ns : List ℕ) (n : ℕ) → i < most → ns ≡ map f (range_with_len 1 i) ++ replicate (most - i) 0 → n ≡ f (1 + i) →
    set ns i n ≡ map f (range_with_len 1 (i + 1)) ++ replicate (most - (i + 1)) 0
write_next f i most ns n below written here =
    let before : List ℕ = map f (range_with_len 1 i) in
    let rest : List ℕ = replicate (most - (i + 1)) 0 in
    let more : most - i ≡ suc (most - (i + 1)) = omega arith in
    let now : ns ≡ before ++ 0 ∷ rest = written ∙ ap (λ k. before ++ replicate k 0) more in
    ap (λ l. set l i n) now
    ∙ (set_at before 0 rest n i (length-map-range_with_len f 1 i)
    ∙ (sym (append_assoc before (n ∷ []) rest)
    ∙ (ap (λ k. (before ++ k ∷ []) ++ rest) here
    ∙ ap (λ l. l ++ rest) (sym (map-range_with_len_more f 1 i (1 + i) refl)))))

-- how long a table is whose front was written
pub long-of : (f : ℕ → ℕ) (n most : ℕ) (xs : List ℕ) → n ≤ most → xs ≡ map f (range_with_len 1 n) ++ replicate (most - n) 0 → length xs ≡ most
long-of f n most xs fits written =
    ap length written ∙ (length-append (map f (range_with_len 1 n)) (replicate (most - n) 0) ∙ omega (arith, length-map-range_with_len f 1 n, length-replicate {A = ℕ} (most - n) 0))

-- an entry of a table that was written by the number of the axis
pub entry-of : (f : ℕ → ℕ) (n i j : ℕ) (rest : List ℕ) → i < n → 1 + i ≡ j → get_or (map f (range_with_len 1 n) ++ rest) i 0 ≡ f j
entry-of f n i j rest within next =
    get_or_append_left (map f (range_with_len 1 n)) rest 0 i (omega (arith, length-map-range_with_len f 1 n)) ∙ get_or-map-range_with_len f 1 n i j 0 within next

-- a table of nine by its parts
pub nine-of : (f : ℕ → ℕ) (axes : Axes) (n m : ℕ) → axes.n ≡ n → n ≡ m → axes.len ≡ map f (range_with_len 1 n) ++ replicate (9 - n) 0 → axes ≡ nine_axes (map f (range_with_len 1 m))
nine-of f axes n m at_n count written = λ i. record { n = same_n i; len = same_len i }
  where
    long : length (map f (range_with_len 1 m)) ≡ m
    long = length-map-range_with_len f 1 m

    same_n : axes.n ≡ length (map f (range_with_len 1 m))
    same_n = at_n ∙ (count ∙ sym long)

    same_len : axes.len ≡ map f (range_with_len 1 m) ++ replicate (9 - length (map f (range_with_len 1 m))) 0
    same_len = written ∙ (ap (λ k. map f (range_with_len 1 k) ++ replicate (9 - k) 0) count ∙ ap (λ k. map f (range_with_len 1 m) ++ replicate (9 - k) 0) (sym long))
