-- What two boxes have in common, axis by axis.
use Rattle.std.proofs.Common.{◌≡◌, ℕ, ◌+◌, ◌-◌, ◌<◌, ◌≤◌, max, min, false, ◌&&◌, List, ◌∷◌, length, get_or, take, drop, refl, ap, sym, ◌∙◌, arith}
use Rattle.std.proofs.lemmas.Bool.{lt-ltb}
use Rattle.fz_grid.specs.declared.region.Region.{Region}
use Rattle.fz_grid.specs.Region.{region_corner, region_lengths}
use Rattle.fz_grid.specs.Overlap.{common_corner, common_lengths, has_pixel}
use Rattle.fz_grid.proofs.Lists.{rest_more}

pub common_corner_more : (ps qs : List ℕ) (n m i j : ℕ) → i < n → n ≤ length ps → i < m → m ≤ length qs → i + 1 ≡ j → common_corner (drop i (take n ps)) (drop i (take m qs)) ≡ max (get_or ps i 0) (get_or qs i 0) ∷ common_corner (drop j (take n ps)) (drop j (take m qs))
common_corner_more ps qs n m i j below inside below' inside' next =
    let at_ps = rest_more ps n i j below inside next in
    let at_qs = rest_more qs m i j below' inside' next in
    ap (λ l. common_corner l (drop i (take m qs))) at_ps ∙ ap (common_corner (get_or ps i 0 ∷ drop j (take n ps))) at_qs

pub common_lengths_more : (ps ms qs ks : List ℕ) (n m i j x : ℕ) → i < n → n ≤ length ps → n ≤ length ms → i < m → m ≤ length qs → m ≤ length ks → i + 1 ≡ j → x ≡ min (get_or ps i 0 + get_or ms i 0) (get_or qs i 0 + get_or ks i 0) - max (get_or ps i 0) (get_or qs i 0) → common_lengths (drop i (take n ps)) (drop i (take n ms)) (drop i (take m qs)) (drop i (take m ks)) ≡ x ∷ common_lengths (drop j (take n ps)) (drop j (take n ms)) (drop j (take m qs)) (drop j (take m ks))
common_lengths_more ps ms qs ks n m i j x below inside_ps inside_ms below' inside_qs inside_ks next x_is =
    let at_ps = rest_more ps n i j below inside_ps next in
    let at_ms = rest_more ms n i j below inside_ms next in
    let at_qs = rest_more qs m i j below' inside_qs next in
    let at_ks = rest_more ks m i j below' inside_ks next in
    let rest = common_lengths (drop j (take n ps)) (drop j (take n ms)) (drop j (take m qs)) (drop j (take m ks)) in
    ap (λ l. common_lengths l (drop i (take n ms)) (drop i (take m qs)) (drop i (take m ks))) at_ps
    ∙ (ap (λ l. common_lengths (get_or ps i 0 ∷ drop j (take n ps)) l (drop i (take m qs)) (drop i (take m ks))) at_ms
    ∙ (ap (λ l. common_lengths (get_or ps i 0 ∷ drop j (take n ps)) (get_or ms i 0 ∷ drop j (take n ms)) l (drop i (take m ks))) at_qs
    ∙ (ap (λ l. common_lengths (get_or ps i 0 ∷ drop j (take n ps)) (get_or ms i 0 ∷ drop j (take n ms)) (get_or qs i 0 ∷ drop j (take m qs)) l) at_ks
    ∙ ap (λ y. y ∷ rest) (sym x_is))))

-- the length in common by what is left of each box from the greater corner on
pub length_is : (p m q k lo a b x : ℕ) → lo ≡ max p q → a ≡ m - (lo - p) → b ≡ k - (lo - q) → x ≡ min a b → x ≡ min (p + m) (q + k) - max p q
length_is p m q k lo a b x lo_is a_is b_is x_is = omega arith

pub no_pixel : (x : ℕ) (xs : List ℕ) → x ≡ 0 → has_pixel (x ∷ xs) ≡ false
no_pixel x xs none = ap (λ y. has_pixel (y ∷ xs)) none

pub some_pixel : (x : ℕ) (xs : List ℕ) → 0 < x → has_pixel (x ∷ xs) ≡ has_pixel xs
some_pixel x xs some = ap (λ b. b && has_pixel xs) (lt-ltb 0 x some)

-- what two regions have in common from axis i on
pub common_at : (one two : Region) (i lo a b x : ℕ) → length one.lo ≡ 9 → length one.len ≡ 9 → length two.lo ≡ 9 → length two.len ≡ 9 → one.n ≤ 9 → two.n ≡ one.n → i < one.n → lo ≡ max (get_or one.lo i 0) (get_or two.lo i 0) → a ≡ get_or one.len i 0 - (lo - get_or one.lo i 0) → b ≡ get_or two.len i 0 - (lo - get_or two.lo i 0) → x ≡ min a b → common_lengths (drop i (region_corner one)) (drop i (region_lengths one)) (drop i (region_corner two)) (drop i (region_lengths two)) ≡ x ∷ common_lengths (drop (i + 1) (region_corner one)) (drop (i + 1) (region_lengths one)) (drop (i + 1) (region_corner two)) (drop (i + 1) (region_lengths two))
common_at one two i lo a b x lo_one len_one lo_two len_two few same below lo_is a_is b_is x_is =
    common_lengths_more one.lo one.len two.lo two.len one.n two.n i (i + 1) x below (omega arith) (omega arith) (omega arith) (omega arith) (omega arith) refl (length_is (get_or one.lo i 0) (get_or one.len i 0) (get_or two.lo i 0) (get_or two.len i 0) lo a b x lo_is a_is b_is x_is)
