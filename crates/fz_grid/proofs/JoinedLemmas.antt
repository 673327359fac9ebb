-- Lines of a box that stand together in the array.
use Rattle.std.proofs.Common.{◌≡◌, ◌≢◌, ℕ, suc, zero, ◌+◌, ◌*◌, ◌/◌, ◌%◌, ◌<◌, ◌≤◌, List, [], ◌∷◌, length, get_or, take, map, ap, subst, sym, ◌∙◌, arith, inl, inr}
use Rattle.std.specs.List.{flat_map, range_with_len}
use Rattle.std.proofs.lemmas.Bool.{cases_lt}
use Rattle.std.proofs.lemmas.List.{append-nil}
use Rattle.std.proofs.lemmas.List.Folds.{flat_map-map}
use Rattle.std.proofs.lemmas.Nat.{div-add-mod', div_below, mod_below}
use Rattle.std.proofs.Math.Nat.{div-one, mod-one, mul-le-mul_left, mul-le-mul_right, mul-lt-mul_of_pos_left}
use Rattle.fz_grid.specs.Arrays.{product}
use Rattle.fz_grid.specs.Nth.{nth_place}
use Rattle.fz_grid.specs.Region.{places_of}
use Rattle.fz_grid.specs.Runs.{AreApart, AreRunsOf}
use Rattle.fz_grid.proofs.BoxLemmas.{IsBox, box_tail, lengths_positive, places_by_number, places_rows}
use Rattle.fz_grid.proofs.Lists.{AllPositive, product_pos, take_positive}
use Rattle.fz_grid.proofs.Ones.{ones, ones_box}
use Rattle.fz_grid.proofs.Ranges.{flat_map_same, flat_map_twice, range_moved, rows_joined}

-- the first m axes stand together: the box is as long as the array along all but the last of them
pub record AreJoined (array lengths : List ℕ) (m : ℕ) : Type 0 where
  pub some : 1 ≤ m
  pub few : m ≤ length array
  pub full : (i : ℕ) → i + 1 < m → get_or lengths i 0 ≡ get_or array i 0
  pub shorter : (i : ℕ) → i + 1 ≡ m → m < length array → get_or lengths i 0 ≢ get_or array i 0

joined_tail : (n r m : ℕ) (ns rs : List ℕ) → AreJoined (n ∷ ns) (r ∷ rs) (suc (suc m)) → AreJoined ns rs (suc m)
joined_tail n r m ns rs joined =
    record {
      some = omega arith;
      few = omega (arith, joined.few);
      full = λ i h. joined.full (suc i) (omega arith);
      shorter = λ i e h. joined.shorter (suc i) (omega arith) (omega arith);
    }

-- one line of the box at each place of its higher axes
line : (n o r p : ℕ) → map (λ c. o + c + n * p) (range_with_len 0 r) ≡ range_with_len (o + n * p) r
line n o r p = range_moved (o + n * p) 0 r (λ c. o + c + n * p) (λ i h. omega arith)

-- the first places of the lines, each with so many places
starts_of : (n o k : ℕ) (ps : List ℕ) → flat_map (λ s. range_with_len s k) (flat_map (λ p. map (λ c. o + c + n * p) (range_with_len 0 1)) ps) ≡ flat_map (λ p. range_with_len (o + n * p) k) ps
starts_of n o k ps =
    flat_map_twice (λ s. range_with_len s k) (λ p. map (λ c. o + c + n * p) (range_with_len 0 1)) ps
    ∙ flat_map_same (λ p. flat_map (λ s. range_with_len s k) (map (λ c. o + c + n * p) (range_with_len 0 1))) (λ p. range_with_len (o + n * p) k) ps (λ p.
    ap (flat_map (λ s. range_with_len s k)) (line n o 1 p) ∙ append-nil (range_with_len (o + n * p) k))

pub runs_list : (ns os rs : List ℕ) (m : ℕ) → IsBox ns os rs → AreJoined ns rs m → flat_map (λ s. range_with_len s (product (take m rs))) (places_of ns os (ones m rs)) ≡ places_of ns os rs
runs_list ns os rs zero box joined = absurd (omega (arith, joined.some))
runs_list [] os rs (suc m) box joined = absurd (omega (arith, joined.few))
runs_list (n ∷ ns) [] rs (suc m) box joined = absurd (omega (arith, box.same_corner))
runs_list (n ∷ ns) (o ∷ os) [] (suc m) box joined = absurd (omega (arith, box.same_lengths))
runs_list (n ∷ ns) (o ∷ os) (r ∷ rs) (suc zero) box joined =
    let higher = places_of ns os rs in
    let long : r * 1 ≡ r = omega arith in
    ap (λ k. flat_map (λ s. range_with_len s k) (places_of (n ∷ ns) (o ∷ os) (1 ∷ rs))) long
    ∙ (ap (flat_map (λ s. range_with_len s r)) (places_rows n o 1 ns os rs)
    ∙ (starts_of n o r higher
    ∙ (flat_map_same (λ p. range_with_len (o + n * p) r) (λ p. map (λ c. o + c + n * p) (range_with_len 0 r)) higher (λ p. sym (line n o r p))
    ∙ sym (places_rows n o r ns os rs))))
runs_list (n ∷ ns) (o ∷ os) (r ∷ rs) (suc (suc m)) box joined =
    let full : r ≡ n = joined.full zero (omega arith) in
    let some = box.positive zero (omega arith) in
    let none : o ≡ 0 = omega (arith, box.inside zero (omega arith), full) in
    let k = product (take (suc m) rs) in
    let starts = places_of ns os (ones (suc m) rs) in
    let rest = runs_list ns os rs (suc m) (box_tail n o r ns os rs box) (joined_tail n r m ns rs joined) in
    let row : ℕ → List ℕ = λ p. map (λ c. c + n * p) (range_with_len 0 n) in
    let rows : (p : ℕ) → map (λ c. o + c + n * p) (range_with_len 0 r) ≡ row p =
    λ p. ap (λ x. map (λ c. x + c + n * p) (range_with_len 0 r)) none ∙ (ap (λ x. map (λ c. 0 + c + n * p) (range_with_len 0 x)) full ∙ (line n 0 n p ∙ sym (range_moved (0 + n * p) 0 n (λ c. c + n * p) (λ i h. omega arith)))) in
    let run : (q : ℕ) → range_with_len (o + n * q) (r * k) ≡ flat_map row (range_with_len q k) =
    λ q. ap (λ x. range_with_len (x + n * q) (r * k)) none ∙ (ap (λ x. range_with_len (0 + n * q) (x * k)) full ∙ (ap (λ x. range_with_len x (n * k)) (omega arith) ∙ sym (rows_joined n q k (omega (arith, full, some))))) in
    ap (flat_map (λ s. range_with_len s (r * k))) (places_rows n o 1 ns os (ones (suc m) rs))
    ∙ (starts_of n o (r * k) starts
    ∙ (flat_map_same (λ q. range_with_len (o + n * q) (r * k)) (λ q. flat_map row (range_with_len q k)) starts run
    ∙ (sym (flat_map_twice row (λ q. range_with_len q k) starts)
    ∙ (ap (flat_map row) rest
    ∙ (flat_map_same row (λ p. map (λ c. o + c + n * p) (range_with_len 0 r)) (places_of ns os rs) (λ p. sym (rows p))
    ∙ sym (places_rows n o r ns os rs))))))

-- a later place of a box has a higher number
nth_rises : (ns os rs : List ℕ) (j k : ℕ) → IsBox ns os rs → j < k → k < product rs → nth_place ns os rs j < nth_place ns os rs k
nth_rises [] os [] j k box later inside = absurd (omega arith)
nth_rises [] os (r ∷ rs) j k box later inside = absurd (omega (arith, box.same_lengths))
nth_rises (n ∷ ns) [] rs j k box later inside = absurd (omega (arith, box.same_corner))
nth_rises (n ∷ ns) (o ∷ os) [] j k box later inside = absurd (omega (arith, box.same_lengths))
nth_rises (n ∷ ns) (o ∷ os) (r ∷ rs) j k box later inside =
    let rest : j / r < k / r → k / r < product rs → nth_place ns os rs (j / r) < nth_place ns os rs (k / r) =
    λ higher below. nth_rises ns os rs (j / r) (k / r) (box_tail n o r ns os rs box) higher below in
    elim (cases_lt (j / r) (k / r)) [ inl higher ↦ other_row rest higher | inr not_higher ↦ same_row not_higher ]
  where
    some : 1 ≤ r
    some = box.positive zero (omega arith)

    other_row : (j / r < k / r → k / r < product rs → nth_place ns os rs (j / r) < nth_place ns os rs (k / r)) → j / r < k / r → nth_place (n ∷ ns) (o ∷ os) (r ∷ rs) j < nth_place (n ∷ ns) (o ∷ os) (r ∷ rs) k
    other_row rising higher =
        let turned : k < product rs * r = omega arith in
        let below : k / r < product rs = div_below k r (product rs) some turned in
        let rest = rising higher below in
        let row : n * (nth_place ns os rs (j / r) + 1) ≤ n * nth_place ns os rs (k / r) = mul-le-mul_left n (omega arith) in
        omega (arith, row, mod_below j r some, box.inside zero (omega arith))

    same_row : k / r ≤ j / r → nth_place (n ∷ ns) (o ∷ os) (r ∷ rs) j < nth_place (n ∷ ns) (o ∷ os) (r ∷ rs) k
    same_row not_higher =
        let whole_j = div-add-mod' j r in
        let whole_k = div-add-mod' k r in
        let same : j / r ≡ k / r = elim (cases_lt (k / r) (j / r)) [ inl less ↦ absurd (too_high less) | inr no_less ↦ omega arith ] in
        let low : j % r < k % r = omega (arith, ap (λ q. q * r) same, whole_j, whole_k) in
        omega (arith, ap (λ q. n * nth_place ns os rs q) same, low)
      where
        too_high : k / r < j / r → ⊥
        too_high less =
            let most : (k / r + 1) * r ≤ j / r * r = mul-le-mul_right r (omega arith) in
            omega (arith, most, div-add-mod' j r, div-add-mod' k r, mod_below k r some)

-- between the first places of two lines there is more than a run
nth_apart : (ns os rs : List ℕ) (m j k : ℕ) → IsBox ns os rs → AreJoined ns rs m → j < k → k < product (ones m rs) → nth_place ns os (ones m rs) j + product (take m rs) < nth_place ns os (ones m rs) k
nth_apart ns os rs zero j k box joined later inside = absurd (omega (arith, joined.some))
nth_apart [] os rs (suc m) j k box joined later inside = absurd (omega (arith, joined.few))
nth_apart (n ∷ ns) [] rs (suc m) j k box joined later inside = absurd (omega (arith, box.same_corner))
nth_apart (n ∷ ns) (o ∷ os) [] (suc m) j k box joined later inside = absurd (omega (arith, box.same_lengths))
nth_apart (n ∷ ns) (o ∷ os) (r ∷ rs) (suc zero) j k box joined later inside =
    let tail = box_tail n o r ns os rs box in
    let rest : nth_place ns os rs j < nth_place ns os rs k = nth_rises ns os rs j k tail later (omega arith) in
    let row : n * (nth_place ns os rs j + 1) ≤ n * nth_place ns os rs k = mul-le-mul_left n (omega arith) in
    let step : o + 0 + n * nth_place ns os rs j + r * 1 < o + 0 + n * nth_place ns os rs k = omega (arith, row, shorter ns rs (box.inside zero (omega arith)) tail joined (omega arith)) in
    rw (mod-one j, mod-one k, div-one j, div-one k) step
  where
    shorter : (ns rs : List ℕ) → o + r ≤ n → IsBox ns os rs → AreJoined (n ∷ ns) (r ∷ rs) 1 → 1 < product rs → r < n
    shorter [] [] fits box joined many = absurd (omega arith)
    shorter [] (x ∷ rs) fits box joined many = absurd (omega (arith, box.same_lengths))
    shorter (x ∷ ns) rs fits box joined many = let differs : r ≢ n = joined.shorter zero (omega arith) (omega arith) in omega (arith, differs)
nth_apart (n ∷ ns) (o ∷ os) (r ∷ rs) (suc (suc m)) j k box joined later inside =
    let full : r ≡ n = joined.full zero (omega arith) in
    let some : 0 < n = omega (arith, full, box.positive zero (omega arith)) in
    let place = nth_place ns os (ones (suc m) rs) in
    let run = product (take (suc m) rs) in
    let rest : place j + run < place k = nth_apart ns os rs (suc m) j k (box_tail n o r ns os rs box) (joined_tail n r m ns rs joined) later (omega arith) in
    let row : n * (place j + run) < n * place k = mul-lt-mul_of_pos_left rest some in
    let long : r * run ≡ n * run = ap (λ x. x * run) full in
    let step : o + 0 + n * place j + r * run < o + 0 + n * place k = omega (arith, row, long) in
    rw (mod-one j, mod-one k, div-one j, div-one k) step

apart_of : (s : ℕ → ℕ) (k a count : ℕ) → 0 < k → ((i : ℕ) → i + 1 < a + count → s i + k < s (i + 1)) → AreApart (map (λ x. (x, k)) (map s (range_with_len a count)))
apart_of s k a zero some apart = tt
apart_of s k a (suc zero) some apart = some
apart_of s k a (suc (suc count)) some apart =
    (some, (λ e. absurd (omega (arith, apart a (omega arith), e))), apart_of s k (a + 1) (suc count) some (λ i h. apart i (omega arith)))

-- the lines that stand together are the longest runs
pub are_runs : (ns os rs : List ℕ) (m : ℕ) → IsBox ns os rs → AreJoined ns rs m → AreRunsOf (places_of ns os rs) (map (λ s. (s, product (take m rs))) (places_of ns os (ones m rs)))
are_runs ns os rs m box joined =
    let k = product (take m rs) in
    let starts = places_of ns os (ones m rs) in
    let cut = ones_box ns os rs m box in
    let positive = lengths_positive ns os (ones m rs) cut in
    let count = product (ones m rs) in
    let by_number = places_by_number ns os (ones m rs) positive in
    let apart = apart_of (nth_place ns os (ones m rs)) k 0 count (front_positive rs m (lengths_positive ns os rs box)) (λ i h. nth_apart ns os rs m i (i + 1) box joined (omega arith) (omega arith)) in
    record {
      listed = flat_map-map (λ (run : ℕ × ℕ). range_with_len run.0 run.1) (λ s. (s, k)) starts ∙ runs_list ns os rs m box joined;
      longest = subst (λ (l : List ℕ). AreApart (map (λ s. (s, k)) l)) (sym by_number) apart;
    }
  where
    front_positive : (rs : List ℕ) (m : ℕ) → AllPositive rs → 0 < product (take m rs)
    front_positive rs m positive = product_pos (take m rs) (take_positive rs m positive)
