-- The picks of one axis, and its tiles with a pick.
use Rattle.std.proofs.Common.{◌≡◌, ℕ, suc, zero, ◌+◌, ◌-◌, ◌*◌, ◌/◌, ◌%◌, ◌<◌, ◌≤◌, max, min, Bool, true, false, cond, ltb, ◌∷◌, map, refl, ap, sym, ◌∙◌, arith, inl, inr}
use Rattle.std.specs.List.{filter, range_with_len}
use Rattle.std.proofs.lemmas.Bool.{cases_lt, false≢true, le-ltb, lt-ltb, ltb-true}
use Rattle.std.proofs.lemmas.Nat.{div-add-mod', div-mul-add, le-div, mod_below}
use Rattle.std.proofs.Math.Nat.{div-lt_iff_lt-mul, mul-le-mul_right}
use Rattle.fz_grid.specs.Sieve.{pick_count, picks_before}
use Rattle.fz_grid.specs.Visits.{visited, visited_count}
use Rattle.fz_grid.proofs.GridLemmas.{tiles_on}

-- a number of steps of s, rounded up
abbrev pub steps_to : ℕ → ℕ → ℕ
steps_to y s = (y + (s - 1)) / s

pub quotient_lt : (x y t : ℕ) → 0 < t → x < y * t → x / t < y
quotient_lt x y t some below =
    let P = div-lt_iff_lt-mul {k = t} {x = x} {y = y} some in
    P.1 below

pub steps_le : (y s k : ℕ) → 0 < s → y ≤ k * s → steps_to y s ≤ k
steps_le y s k some fits =
    let below : y + (s - 1) < (k + 1) * s = omega arith in
    let less = quotient_lt (y + (s - 1)) (k + 1) s some below in
    omega (arith, less)

pub steps_gt : (y s k : ℕ) → 0 < s → k * s < y → k < steps_to y s
steps_gt y s k some below =
    let fits : (k + 1) * s ≤ y + (s - 1) = omega arith in
    let least = le-div (k + 1) (y + (s - 1)) s some fits in
    omega (arith, least)

pub steps_reach : (y s : ℕ) → 0 < s → y ≤ steps_to y s * s
steps_reach y s some = omega (arith, div-add-mod' (y + (s - 1)) s, mod_below (y + (s - 1)) s some)

pub steps_near : (y s : ℕ) → 0 < s → steps_to y s * s ≤ y + (s - 1)
steps_near y s some = omega (arith, div-add-mod' (y + (s - 1)) s)

-- pick k lies within c and e
pub pick_within : (o h s c e k : ℕ) → 0 < s → k < pick_count o h s → c ≤ o + k * s → o + k * s < e → 0 < picks_before o h s e - picks_before o h s c
pick_within o h s c e k some inside from to =
    let low = steps_le (c - o) s k some (omega arith) in
    let high = steps_gt (e - o) s k some (omega arith) in
    omega (arith, low, high)

-- the first pick from c on, where one lies before e
pub the_pick : (o h s c e : ℕ) → 0 < s → 0 < picks_before o h s e - picks_before o h s c → (k : ℕ) × (k < pick_count o h s) × (c ≤ o + k * s) × (o + k * s < e)
the_pick o h s c e some shared =
    let k = steps_to (c - o) s in
    let more : k < steps_to (e - o) s = omega arith in
    let inside : k < pick_count o h s = omega arith in
    let from : c ≤ o + k * s = omega (arith, steps_reach (c - o) s some) in
    let to : o + k * s < e = elim (cases_lt (k * s) (e - o)) [ inl below ↦ omega (arith, below) | inr not_below ↦ absurd (too_far k more not_below) ] in
    (k, inside, from, to)
  where
    too_far : (k : ℕ) → k < steps_to (e - o) s → e - o ≤ k * s → ⊥
    too_far k more not_below =
        let few = steps_le (e - o) s k some not_below in
        omega (arith, more, few)

-- each pick is at most the upper end
pub pick_le : (o h s k : ℕ) → o ≤ h → k < pick_count o h s → o + k * s ≤ h
pick_le o h s k order inside =
    let most : k * s ≤ (h - o) / s * s = mul-le-mul_right s (omega arith) in
    omega (arith, most, div-add-mod' (h - o) s)

-- how many picks tile d of the axis has
abbrev pub picks_on : ℕ → ℕ → ℕ → ℕ → ℕ → ℕ → ℕ
picks_on n t o h s d = picks_before o h s (d * t + min t (n - d * t)) - picks_before o h s (d * t)

-- an axis, the length of its tiles, and a sieve of it
pub record IsSifted (n t o h s : ℕ) : Type 0 where
  pub tile : 0 < t
  pub step : 0 < s
  pub order : o ≤ h
  pub inside : h < n

count_wide : (o h s t : ℕ) → t ≤ s → visited_count o h s t ≡ pick_count o h s
count_wide o h s t wide = ap (λ b. cond b ((o + (h - o) / s * s) / t - o / t + 1) (pick_count o h s)) (le-ltb s t wide)

count_narrow : (o h s t : ℕ) → s < t → visited_count o h s t ≡ (o + (h - o) / s * s) / t - o / t + 1
count_narrow o h s t narrow = ap (λ b. cond b ((o + (h - o) / s * s) / t - o / t + 1) (pick_count o h s)) (lt-ltb s t narrow)

visited_wide : (o s t k : ℕ) → t ≤ s → visited o s t k ≡ (o + k * s) / t
visited_wide o s t k wide =
    let greater : max s t ≡ s = omega arith in
    ap (λ m. (o + k * m) / t) greater

visited_narrow : (o s t k : ℕ) → 0 < t → s < t → visited o s t k ≡ o / t + k
visited_narrow o s t k tile narrow =
    let greater : max s t ≡ t = omega arith in
    let split : o + k * t ≡ (o / t + k) * t + o % t = omega (arith, div-add-mod' o t) in
    ap (λ m. (o + k * m) / t) greater ∙ (ap (λ x. x / t) split ∙ div-mul-add (o / t + k) t (o % t) (mod_below o t tile))

pub visited_rises : (o s t k : ℕ) → 0 < t → visited o s t k < visited o s t (suc k)
visited_rises o s t k tile =
    let m = max s t in
    let whole = div-add-mod' (o + k * m) t in
    let long : t ≤ m = omega arith in
    let step : suc k * m ≡ k * m + m = omega arith in
    let fits : ((o + k * m) / t + 1) * t ≤ o + suc k * m = omega (arith, whole, long, step) in
    let least = le-div ((o + k * m) / t + 1) (o + suc k * m) t tile fits in
    omega (arith, least)

-- a tile that is visited has a pick
tile_of_pick : (n t o h s k : ℕ) → IsSifted n t o h s → k < pick_count o h s → 0 < picks_on n t o h s ((o + k * s) / t)
tile_of_pick n t o h s k sifted inside =
    let x = o + k * s in
    let d = x / t in
    let most = pick_le o h s k sifted.order inside in
    let whole = div-add-mod' x t in
    let rest = mod_below x t sifted.tile in
    pick_within o h s (d * t) (d * t + min t (n - d * t)) k sifted.step inside (omega (arith, whole)) (omega (arith, whole, rest, most, sifted.inside))

between : (n t o h s d : ℕ) → IsSifted n t o h s → s < t → o < d * t → d ≤ (o + (h - o) / s * s) / t → 0 < picks_on n t o h s d
between n t o h s d sifted narrow after before =
    let last = o + (h - o) / s * s in
    let reach : d * t ≤ last / t * t = mul-le-mul_right t before in
    let y = d * t - o in
    let most : y ≤ (h - o) / s * s = omega (arith, reach, div-add-mod' last t) in
    let k = steps_to y s in
    let few = steps_le y s ((h - o) / s) sifted.step most in
    let inside : k < pick_count o h s = omega (arith, few) in
    let at_most = pick_le o h s k sifted.order inside in
    pick_within o h s (d * t) (d * t + min t (n - d * t)) k sifted.step inside (omega (arith, steps_reach y s sifted.step)) (omega (arith, steps_near y s sifted.step, at_most, sifted.inside))

pub visited_has : (n t o h s k : ℕ) → IsSifted n t o h s → k < visited_count o h s t → 0 < picks_on n t o h s (visited o s t k)
visited_has n t o h s k sifted inside = elim (cases_lt s t) [ inl narrow ↦ slow narrow | inr wide ↦ quick wide ]
  where
    quick : t ≤ s → 0 < picks_on n t o h s (visited o s t k)
    quick wide =
        let here = tile_of_pick n t o h s k sifted (omega (arith, inside, count_wide o h s t wide)) in
        omega (arith, ap (picks_on n t o h s) (visited_wide o s t k wide), here)

    slow : s < t → 0 < picks_on n t o h s (visited o s t k)
    slow narrow =
        let d = o / t + k in
        let last = o + (h - o) / s * s in
        let first_before : o / t ≤ last / t = le-div (o / t) last t sifted.tile (omega (arith, div-add-mod' o t)) in
        let in_last : d ≤ last / t = omega (arith, inside, count_narrow o h s t narrow, first_before) in
        let has : 0 < picks_on n t o h s d = elim (cases_lt o (d * t)) [ inl after ↦ between n t o h s d sifted narrow after in_last | inr not_after ↦ first not_after ] in
        omega (arith, ap (picks_on n t o h s) (visited_narrow o s t k sifted.tile narrow), has)
      where
        first : (o / t + k) * t ≤ o → 0 < picks_on n t o h s (o / t + k)
        first not_after =
            let d = o / t + k in
            let most = pick_le o h s 0 sifted.order (omega arith) in
            let whole = div-add-mod' o t in
            let rest = mod_below o t sifted.tile in
            let least : o / t * t ≤ d * t = mul-le-mul_right t (omega arith) in
            pick_within o h s (d * t) (d * t + min t (n - d * t)) 0 sifted.step (omega arith) (omega (arith, not_after)) (omega (arith, whole, rest, least, most, sifted.inside))

-- the tile of a pick that lies in tile d is d
in_tile : (n t d x : ℕ) → 0 < t → d * t ≤ x → x < d * t + min t (n - d * t) → x / t ≡ d
in_tile n t d x tile from to =
    let rest = x - d * t in
    let split : x ≡ d * t + rest = omega arith in
    ap (λ y. y / t) split ∙ div-mul-add d t rest (omega arith)

-- and a tile with a pick is visited
pub has_visited : (n t o h s d : ℕ) → IsSifted n t o h s → 0 < picks_on n t o h s d → (k : ℕ) × (k < visited_count o h s t) × (d ≡ visited o s t k)
has_visited n t o h s d sifted has =
    elim (cases_lt s t) [ inl narrow ↦ slow narrow | inr wide ↦ quick wide ]
  where
    quick : t ≤ s → (k : ℕ) × (k < visited_count o h s t) × (d ≡ visited o s t k)
    quick wide =
        let pick = the_pick o h s (d * t) (d * t + min t (n - d * t)) sifted.step has in
        let here = in_tile n t d (o + pick.0 * s) sifted.tile pick.2 pick.3 in
        (pick.0, omega (arith, pick.1, count_wide o h s t wide), sym here ∙ sym (visited_wide o s t pick.0 wide))

    slow : s < t → (k : ℕ) × (k < visited_count o h s t) × (d ≡ visited o s t k)
    slow narrow =
        let pick = the_pick o h s (d * t) (d * t + min t (n - d * t)) sifted.step has in
        let x = o + pick.0 * s in
        let last = o + (h - o) / s * s in
        let here = in_tile n t d x sifted.tile pick.2 pick.3 in
        let step : pick.0 * s ≤ (h - o) / s * s = mul-le-mul_right s (omega (arith, pick.1)) in
        let low : o / t ≤ x / t = le-div (o / t) x t sifted.tile (omega (arith, div-add-mod' o t)) in
        let high : x / t ≤ last / t = le-div (x / t) last t sifted.tile (omega (arith, div-add-mod' x t, step)) in
        let k = d - o / t in
        let same : o / t + k ≡ d = omega (arith, here, low) in
        (k, omega (arith, count_narrow o h s t narrow, here, low, high), sym same ∙ sym (visited_narrow o s t k sifted.tile narrow))

pub visited_inside : (n t o h s k : ℕ) → IsSifted n t o h s → k < visited_count o h s t → visited o s t k < tiles_on n t
visited_inside n t o h s k sifted inside =
    let d = visited o s t k in
    let pick = the_pick o h s (d * t) (d * t + min t (n - d * t)) sifted.step (visited_has n t o h s k sifted inside) in
    let x = o + pick.0 * s in
    let here = in_tile n t d x sifted.tile pick.2 pick.3 in
    let most = pick_le o h s pick.0 sifted.order pick.1 in
    let room = div-add-mod' (n + (t - 1)) t in
    let rest = mod_below (n + (t - 1)) t sifted.tile in
    let below = quotient_lt x (tiles_on n t) t sifted.tile (omega (arith, room, rest, most, sifted.inside)) in
    omega (arith, here, below)

visited_ge : (o s t k : ℕ) → 0 < t → k ≤ visited o s t k
visited_ge o s t zero tile = omega arith
visited_ge o s t (suc k) tile = omega (arith, visited_ge o s t k tile, visited_rises o s t k tile)

pub count_some : (o h s t : ℕ) → 1 ≤ visited_count o h s t
count_some o h s t = elim (cases_lt s t) [ inl narrow ↦ omega (arith, count_narrow o h s t narrow) | inr wide ↦ omega (arith, count_wide o h s t wide) ]

-- no more tiles are visited than there are
pub count_le : (n t o h s : ℕ) → IsSifted n t o h s → visited_count o h s t ≤ tiles_on n t
count_le n t o h s sifted =
    let some = count_some o h s t in
    let last = visited_count o h s t - 1 in
    omega (arith, some, visited_ge o s t last sifted.tile, visited_inside n t o h s last sifted (omega arith))

-- the numbers that pass a test, where they are the values of a rising function
filter_rising : (p : ℕ → Bool) (f : ℕ → ℕ) (a n j m : ℕ) → ((k : ℕ) → f k < f (suc k)) → (0 < m → a ≤ f j) → ((k : ℕ) → j ≤ k → k < j + m → f k < a + n) → ((k : ℕ) → j ≤ k → k < j + m → p (f k) ≡ true) → ((d : ℕ) → a ≤ d → p d ≡ true → (k : ℕ) × (j ≤ k) × (k < j + m) × (d ≡ f k)) → filter p (range_with_len a n) ≡ map f (range_with_len j m)
filter_rising p f a zero j zero rises from inside passes only = refl
filter_rising p f a zero j (suc m) rises from inside passes only = absurd (omega (arith, from (omega arith), inside j (omega arith) (omega arith)))
filter_rising p f a (suc n) j m rises from inside passes only =
    by (λ j' m' from' inside' passes' only'. filter_rising p f (a + 1) n j' m' rises from' inside' passes' only') (p a) refl m refl
  where
    Later : Type 0
    Later =
        (j' m' : ℕ)
        → (0 < m' → a + 1 ≤ f j')
        → ((k : ℕ) → j' ≤ k → k < j' + m' → f k < a + 1 + n)
        → ((k : ℕ) → j' ≤ k → k < j' + m' → p (f k) ≡ true)
        → ((d : ℕ) → a + 1 ≤ d → p d ≡ true → (k : ℕ) × (j' ≤ k) × (k < j' + m') × (d ≡ f k))
        → filter p (range_with_len (a + 1) n) ≡ map f (range_with_len j' m')

    higher : (j k : ℕ) → j < k → f j < f k
    higher j zero less = absurd (omega arith)
    higher j (suc k) less = elim (cases_lt j k) [ inl before ↦ omega (arith, higher j k before, rises k) | inr not_before ↦ same not_before ]
      where
        same : k ≤ j → f j < f (suc k)
        same not_before =
            let here : k ≡ j = omega arith in
            omega (arith, ap f here, rises k)

    by : Later → (t : Bool) → p a ≡ t → (m' : ℕ) → m ≡ m' → filter p (range_with_len a (suc n)) ≡ map f (range_with_len j m)
    by later true is zero count =
        let found = only a (omega arith) is in
        absurd (omega (arith, found.1, found.2, count))
    by later true is (suc m') count =
        let found = only a (omega arith) is in
        let some : 0 < m = omega arith in
        let first : found.0 ≡ j = elim (cases_lt j found.0) [ inl after ↦ absurd (too_high found.0 after found.3) | inr not_after ↦ omega (arith, found.1) ] in
        let here : a ≡ f j = found.3 ∙ ap f first in
        let rest = later (j + 1) m' (λ h. omega (arith, higher j (j + 1) (omega arith), here))
        (λ k from' to. omega (arith, inside k (omega arith) (omega arith)))
        (λ k from' to. passes k (omega arith) (omega arith))
        (λ d from' ok. next d from' ok here m' count) in
        ap (λ b. cond b (a ∷ filter p (range_with_len (a + 1) n)) (filter p (range_with_len (a + 1) n))) is
        ∙ (ap (λ l. a ∷ l) rest ∙ (ap (λ x. x ∷ map f (range_with_len (j + 1) m')) here ∙ ap (λ c. map f (range_with_len j c)) (sym count)))
      where
        too_high : (k : ℕ) → j < k → a ≡ f k → ⊥
        too_high k after at =
            let some : 0 < m = omega arith in
            omega (arith, higher j k after, at, from some)

        next : (d : ℕ) → a + 1 ≤ d → p d ≡ true → a ≡ f j → (m' : ℕ) → m ≡ suc m' → (k : ℕ) × (j + 1 ≤ k) × (k < j + 1 + m') × (d ≡ f k)
        next d from' ok here m' count =
            let found = only d (omega arith) ok in
            let above : j + 1 ≤ found.0 = elim (cases_lt j found.0) [ inl after ↦ omega (arith, after) | inr not_after ↦ absurd (at_first found.0 found.1 not_after found.3) ] in
            (found.0, above, omega (arith, found.2, count), found.3)
          where
            at_first : (k : ℕ) → j ≤ k → k ≤ j → d ≡ f k → ⊥
            at_first k low high is_value =
                let same : k ≡ j = omega arith in
                omega (arith, ap f same, is_value, here)
    by later false is m' count =
        let rest = later j m (λ h. above h)
        (λ k from' to. omega (arith, inside k from' to))
        passes
        (λ d from' ok. only d (omega arith) ok) in
        ap (λ b. cond b (a ∷ filter p (range_with_len (a + 1) n)) (filter p (range_with_len (a + 1) n))) is ∙ rest
      where
        above : 0 < m → a + 1 ≤ f j
        above some = elim (cases_lt a (f j)) [ inl less ↦ omega (arith, less) | inr not_less ↦ absurd (equal not_less) ]
          where
            equal : f j ≤ a → ⊥
            equal not_less =
                let here : a ≡ f j = omega (arith, from some) in
                false≢true (sym is ∙ (ap p here ∙ passes j (omega arith) (omega arith)))

-- the tiles of an axis with a pick, in their order
pub axis_visited : (n t o h s : ℕ) → IsSifted n t o h s → filter (λ d. ltb 0 (picks_on n t o h s d)) (range_with_len 0 (tiles_on n t)) ≡ map (visited o s t) (range_with_len 0 (visited_count o h s t))
axis_visited n t o h s sifted =
    filter_rising (λ d. ltb 0 (picks_on n t o h s d)) (visited o s t) 0 (tiles_on n t) 0 (visited_count o h s t)
    (λ k. visited_rises o s t k sifted.tile)
    (λ h'. omega arith)
    (λ k from to. omega (arith, visited_inside n t o h s k sifted (omega arith)))
    (λ k from to. lt-ltb 0 (picks_on n t o h s (visited o s t k)) (visited_has n t o h s k sifted (omega arith)))
    (λ d from ok.
    let found = has_visited n t o h s d sifted (ltb-true 0 (picks_on n t o h s d) ok) in
    (found.0, omega arith, omega (arith, found.1), found.2))
