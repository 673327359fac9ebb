-- The part of an axis's picks that lies in a box.
use Rattle.std.proofs.Common.{◌≡◌, ℕ, suc, zero, ◌+◌, ◌-◌, ◌*◌, ◌/◌, ◌<◌, ◌≤◌, min, true, List, [], ◌∷◌, length, get_or, take, set, refl, ap, subst, sym, ◌∙◌, arith, inl, inr, ◌≢◌, length-take, get_or-set_other, get_or-set_same}
use Rattle.std.proofs.lemmas.Bool.{cases_lt}
use Rattle.std.proofs.lemmas.List.{get_or-take}
use Rattle.std.proofs.lemmas.Nat.{div-mul-add}
use Rattle.std.proofs.Math.Nat.{add-div_right}
use Rattle.fz_grid.specs.declared.part.AxisPart.{AxisPart}
use Rattle.fz_grid.specs.Grid.{moved}
use Rattle.fz_grid.specs.Overlap.{has_pixel}
use Rattle.fz_grid.specs.Parts.{IsPartAlong}
use Rattle.fz_grid.specs.Sieve.{pick_count, picks_before, picks_in, stepped}
use Rattle.fz_grid.proofs.CommonLemmas.{each_some}
use Rattle.fz_grid.proofs.PickAxes.{quotient_lt, steps_le, steps_reach, steps_to}

-- the first pick that is not before c stands at c or after it
pub first_pick : (o h s c e : ℕ) → 0 < s → 0 < picks_before o h s e - picks_before o h s c → (picks_before o h s c < pick_count o h s) × (c ≤ o + picks_before o h s c * s)
first_pick o h s c e some shared =
    let k = picks_before o h s c in
    let same : k ≡ steps_to (c - o) s = omega arith in
    let times : k * s ≡ steps_to (c - o) s * s = ap (λ x. x * s) same in
    (omega arith, omega (arith, times, steps_reach (c - o) s some))

-- and the last one before e stands before e
pub last_pick : (o h s c e : ℕ) → 0 < s → 0 < picks_before o h s e - picks_before o h s c → (picks_before o h s e - 1 < pick_count o h s) × (o + (picks_before o h s e - 1) * s < e)
last_pick o h s c e some shared =
    let j = picks_before o h s e - 1 in
    let less : j < steps_to (e - o) s = omega arith in
    (omega arith, elim (cases_lt (j * s) (e - o)) [ inl below ↦ omega (arith, below) | inr not_below ↦ absurd (too_far j less not_below) ])
  where
    too_far : (j : ℕ) → j < steps_to (e - o) s → e - o ≤ j * s → ⊥
    too_far j less not_below = omega (arith, less, steps_le (e - o) s j some not_below)

-- from the first to the last
pub count_steps : (first count behind s : ℕ) → behind ≡ first + count → 1 ≤ count → (behind - 1) * s ≡ first * s + (count - 1) * s
count_steps first count behind s is some =
    let split : behind - 1 ≡ first + (count - 1) = omega arith in
    ap (λ x. x * s) split ∙ omega arith

pub none_before : (o h s x : ℕ) → 0 < s → x ≤ o → picks_before o h s x ≡ 0
none_before o h s x some before =
    let none : x - o ≡ 0 = omega arith in
    let less = quotient_lt (0 + (s - 1)) 1 s some (omega arith) in
    ap (λ y. min ((y + (s - 1)) / s) (pick_count o h s)) none ∙ omega (arith, less)

pub some_before : (o h s x : ℕ) → 0 < s → o < x → picks_before o h s x ≡ min ((x - o - 1) / s) ((h - o) / s) + 1
some_before o h s x some after =
    let turned : x - o + (s - 1) ≡ (x - o - 1) + s = omega arith in
    let step : (x - o + (s - 1)) / s ≡ (x - o - 1) / s + 1 = ap (λ y. y / s) turned ∙ add-div_right (x - o - 1) some in
    ap (λ y. min y (pick_count o h s)) step ∙ omega arith

picks_in_at : (os hs ss cs ns : List ℕ) (i : ℕ) → length hs ≡ length os → length ss ≡ length os → length cs ≡ length os → length ns ≡ length os → i < length os → get_or (picks_in os hs ss cs ns) i 0 ≡ picks_before (get_or os i 0) (get_or hs i 0) (get_or ss i 0) (get_or cs i 0 + get_or ns i 0) - picks_before (get_or os i 0) (get_or hs i 0) (get_or ss i 0) (get_or cs i 0)
picks_in_at [] hs ss cs ns i of_hs of_ss of_cs of_ns h = absurd (omega arith)
picks_in_at (o ∷ os) [] ss cs ns i of_hs of_ss of_cs of_ns h = absurd (omega arith)
picks_in_at (o ∷ os) (h' ∷ hs) [] cs ns i of_hs of_ss of_cs of_ns h = absurd (omega arith)
picks_in_at (o ∷ os) (h' ∷ hs) (s ∷ ss) [] ns i of_hs of_ss of_cs of_ns h = absurd (omega arith)
picks_in_at (o ∷ os) (h' ∷ hs) (s ∷ ss) (c ∷ cs) [] i of_hs of_ss of_cs of_ns h = absurd (omega arith)
picks_in_at (o ∷ os) (h' ∷ hs) (s ∷ ss) (c ∷ cs) (n ∷ ns) zero of_hs of_ss of_cs of_ns h = refl
picks_in_at (o ∷ os) (h' ∷ hs) (s ∷ ss) (c ∷ cs) (n ∷ ns) (suc i) of_hs of_ss of_cs of_ns h =
    picks_in_at os hs ss cs ns i (omega arith) (omega arith) (omega arith) (omega arith) (omega arith)

picks_in_length : (os hs ss cs ns : List ℕ) → length hs ≡ length os → length ss ≡ length os → length cs ≡ length os → length ns ≡ length os → length (picks_in os hs ss cs ns) ≡ length os
picks_in_length [] hs ss cs ns of_hs of_ss of_cs of_ns = refl
picks_in_length (o ∷ os) [] ss cs ns of_hs of_ss of_cs of_ns = absurd (omega arith)
picks_in_length (o ∷ os) (h' ∷ hs) [] cs ns of_hs of_ss of_cs of_ns = absurd (omega arith)
picks_in_length (o ∷ os) (h' ∷ hs) (s ∷ ss) [] ns of_hs of_ss of_cs of_ns = absurd (omega arith)
picks_in_length (o ∷ os) (h' ∷ hs) (s ∷ ss) (c ∷ cs) [] of_hs of_ss of_cs of_ns = absurd (omega arith)
picks_in_length (o ∷ os) (h' ∷ hs) (s ∷ ss) (c ∷ cs) (n ∷ ns) of_hs of_ss of_cs of_ns =
    ap suc (picks_in_length os hs ss cs ns (omega arith) (omega arith) (omega arith) (omega arith))

-- where a box has a pick, each axis has one; of tables whose first n entries are the lists
pub axis_has : (os hs ss cs ns : List ℕ) (n m : ℕ) → m ≡ n → n ≤ length os → n ≤ length hs → n ≤ length ss → n ≤ length cs → n ≤ length ns → has_pixel (picks_in (take n os) (take n hs) (take n ss) (take m cs) (take m ns)) ≡ true → (i : ℕ) → i < n → 0 < picks_before (get_or os i 0) (get_or hs i 0) (get_or ss i 0) (get_or cs i 0 + get_or ns i 0) - picks_before (get_or os i 0) (get_or hs i 0) (get_or ss i 0) (get_or cs i 0)
axis_has os hs ss cs ns n m same in_os in_hs in_ss in_cs in_ns has i h =
    let of_os = length-take n os in
    let of_hs : length (take n hs) ≡ length (take n os) = omega (arith, of_os, length-take n hs) in
    let of_ss : length (take n ss) ≡ length (take n os) = omega (arith, of_os, length-take n ss) in
    let of_cs : length (take m cs) ≡ length (take n os) = omega (arith, of_os, length-take m cs) in
    let of_ns : length (take m ns) ≡ length (take n os) = omega (arith, of_os, length-take m ns) in
    let inside : i < length (take n os) = omega (arith, of_os) in
    let long = picks_in_length (take n os) (take n hs) (take n ss) (take m cs) (take m ns) of_hs of_ss of_cs of_ns in
    let some = each_some (picks_in (take n os) (take n hs) (take n ss) (take m cs) (take m ns)) has i (omega (arith, long)) in
    let here = picks_in_at (take n os) (take n hs) (take n ss) (take m cs) (take m ns) i of_hs of_ss of_cs of_ns inside in
    let in_m : i < m = omega arith in
    let at_o = get_or-take n os i 0 h in
    let at_h = get_or-take n hs i 0 h in
    let at_s = get_or-take n ss i 0 h in
    let at_c = get_or-take m cs i 0 in_m in
    let at_n = get_or-take m ns i 0 in_m in
    rw (sym at_o, sym at_h, sym at_s, sym at_c, sym at_n) (omega (arith, some, here))

-- the picks of an axis in a box, by what stands in the tables
pub record IsPartBy (o h s c n first count lo hi : ℕ) : Type 0 where
  pub is_first : first ≡ picks_before o h s c
  pub is_count : count ≡ picks_before o h s (c + n) - picks_before o h s c
  pub some : 1 ≤ count
  pub fits : first + count ≤ pick_count o h s
  pub from : lo + c ≡ o + first * s
  pub to : hi ≡ lo + (count - 1) * s
  pub inside : hi < n

pub by_axis : (o h s c n : ℕ) (axis : AxisPart) → IsPartAlong o h s c n axis → IsPartBy o h s c n axis.first axis.count axis.lo axis.hi
by_axis o h s c n axis is =
    record { is_first = is.first; is_count = is.count; some = is.some; fits = is.fits; from = is.from; to = is.to; inside = is.inside }

-- one axis more
pub parts_more : (os hs ss cs ns firsts counts los ends : List ℕ) (i : ℕ) (axis : AxisPart) → i < length firsts → i < length counts → i < length los → i < length ends → ((k : ℕ) → k < i → IsPartBy (get_or os k 0) (get_or hs k 0) (get_or ss k 0) (get_or cs k 0) (get_or ns k 0) (get_or firsts k 0) (get_or counts k 0) (get_or los k 0) (get_or ends k 0)) → IsPartAlong (get_or os i 0) (get_or hs i 0) (get_or ss i 0) (get_or cs i 0) (get_or ns i 0) axis → (k : ℕ) → k < i + 1 → IsPartBy (get_or os k 0) (get_or hs k 0) (get_or ss k 0) (get_or cs k 0) (get_or ns k 0) (get_or (set firsts i axis.first) k 0) (get_or (set counts i axis.count) k 0) (get_or (set los i axis.lo) k 0) (get_or (set ends i axis.hi) k 0)
parts_more os hs ss cs ns firsts counts los ends i axis in_firsts in_counts in_los in_ends before here k h =
    elim (cases_lt k i) [ inl earlier ↦ kept earlier | inr later ↦ new later ]
  where
    P : ℕ → ℕ → ℕ → ℕ → ℕ → Type 0
    P k a b c d = IsPartBy (get_or os k 0) (get_or hs k 0) (get_or ss k 0) (get_or cs k 0) (get_or ns k 0) a b c d

    kept : k < i → P k (get_or (set firsts i axis.first) k 0) (get_or (set counts i axis.count) k 0) (get_or (set los i axis.lo) k 0) (get_or (set ends i axis.hi) k 0)
    kept earlier =
        let other : k ≢ i = omega arith in
        rw (get_or-set_other firsts i k axis.first 0 other, get_or-set_other counts i k axis.count 0 other, get_or-set_other los i k axis.lo 0 other, get_or-set_other ends i k axis.hi 0 other) (before k earlier)

    new : i ≤ k → P k (get_or (set firsts i axis.first) k 0) (get_or (set counts i axis.count) k 0) (get_or (set los i axis.lo) k 0) (get_or (set ends i axis.hi) k 0)
    new later =
        let same : i ≡ k = omega arith in
        subst (λ j. P j (get_or (set firsts i axis.first) j 0) (get_or (set counts i axis.count) j 0) (get_or (set los i axis.lo) j 0) (get_or (set ends i axis.hi) j 0)) same
        (rw (get_or-set_same firsts i axis.first 0 in_firsts, get_or-set_same counts i axis.count 0 in_counts, get_or-set_same los i axis.lo 0 in_los, get_or-set_same ends i axis.hi 0 in_ends) (by_axis _ _ _ _ _ axis here))

-- the same picks, counted from the box's corner
pub parts_list : (os ss fs cs ls ks : List ℕ) (n : ℕ) → n ≤ length os → n ≤ length ss → n ≤ length fs → n ≤ length cs → n ≤ length ls → length ks ≡ n → ((i : ℕ) → i < n → get_or ls i 0 + get_or cs i 0 ≡ get_or os i 0 + get_or fs i 0 * get_or ss i 0) → stepped (take n os) (take n ss) (moved (take n fs) ks) ≡ moved (take n cs) (stepped (take n ls) (take n ss) ks)
parts_list os ss fs cs ls ks zero in_os in_ss in_fs in_cs in_ls of_ks each = refl
parts_list [] ss fs cs ls ks (suc n) in_os in_ss in_fs in_cs in_ls of_ks each = absurd (omega arith)
parts_list (o ∷ os) [] fs cs ls ks (suc n) in_os in_ss in_fs in_cs in_ls of_ks each = absurd (omega arith)
parts_list (o ∷ os) (s ∷ ss) [] cs ls ks (suc n) in_os in_ss in_fs in_cs in_ls of_ks each = absurd (omega arith)
parts_list (o ∷ os) (s ∷ ss) (f ∷ fs) [] ls ks (suc n) in_os in_ss in_fs in_cs in_ls of_ks each = absurd (omega arith)
parts_list (o ∷ os) (s ∷ ss) (f ∷ fs) (c ∷ cs) [] ks (suc n) in_os in_ss in_fs in_cs in_ls of_ks each = absurd (omega arith)
parts_list (o ∷ os) (s ∷ ss) (f ∷ fs) (c ∷ cs) (l ∷ ls) [] (suc n) in_os in_ss in_fs in_cs in_ls of_ks each = absurd (omega arith)
parts_list (o ∷ os) (s ∷ ss) (f ∷ fs) (c ∷ cs) (l ∷ ls) (k ∷ ks) (suc n) in_os in_ss in_fs in_cs in_ls of_ks each =
    let here : l + c ≡ o + f * s = each zero (omega arith) in
    let head : o + (f + k) * s ≡ c + (l + k * s) = omega (arith, here) in
    ap (λ y. y ∷ stepped (take n os) (take n ss) (moved (take n fs) ks)) head
    ∙ ap (λ r. (c + (l + k * s)) ∷ r) (parts_list os ss fs cs ls ks n (omega arith) (omega arith) (omega arith) (omega arith) (omega arith) (omega arith) (λ i h. each (suc i) (omega arith)))

-- the picks in a box are as many as were counted
pub count_again : (lo hi step s count : ℕ) → step ≡ s → 1 ≤ s → 1 ≤ count → hi ≡ lo + (count - 1) * s → count ≡ pick_count lo hi step
count_again lo hi step s count same some at_least to =
    let apart : hi - lo ≡ (count - 1) * s + 0 = omega (arith, to) in
    let steps : (hi - lo) / step ≡ count - 1 = ap (λ x. (hi - lo) / x) same ∙ (ap (λ x. x / s) apart ∙ div-mul-add (count - 1) s 0 some) in
    omega (arith, steps, at_least)
