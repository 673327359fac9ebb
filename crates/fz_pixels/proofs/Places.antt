-- Places of the tiles of an image, and of their picks in what is cut out of it: all are covered.
use Rattle.std.proofs.Common.{◌≡◌, ℕ, zero, suc, ◌+◌, ◌*◌, ◌<◌, ◌≤◌, inl, inr, Bool, true, false, cond, ◌&&◌, List, [], ◌∷◌, length, get_or, refl, sym, ap, subst, ◌∙◌, arith}
use Rattle.std.specs.List.{filter, range_with_len}
use Rattle.std.proofs.lemmas.Bool.{cases_lt, lt-ltb}
use Rattle.fz_grid.specs.Arrays.{product}
use Rattle.fz_grid.specs.Division.{AreTileLengths, tile_places}
use Rattle.fz_grid.specs.Grid.{tile_corner, tile_count}
use Rattle.fz_grid.specs.Laws.{BoxesHaveTheirPixels, NumbersAreInOneTile}
use Rattle.fz_grid.specs.Overlap.{has_pixel}
use Rattle.fz_grid.specs.Sieve.{all_before, picked_tiles, sieve_hi, sieve_lengths, sieve_lo, sieve_step}
use Rattle.fz_grid.specs.declared.sieve.Sieve.{Sieve}
use Rattle.fz_grid.specs.Cutout.{Sifts, part_lengths, picks_in_cutout}
use Rattle.fz_grid.specs.CutoutLaws.{PlacesArePickedOnce}
use Rattle.fz_pixels.proofs.Covering.{AreCovered, IsIn, in_nth}

-- the places of a list are below n
abbrev pub AllBelow : ℕ → List ℕ → Type 0
AllBelow n ps = (k : ℕ) → k < length ps → get_or ps k 0 < n

-- ---- tiles

in_range : (a n t : ℕ) → a ≤ t → t < a + n → IsIn t (range_with_len a n)
in_range a zero t from to = absurd (omega (arith, from, to))
in_range a (suc n) t from to = elim (cases_lt a t) as (λ _. IsIn t (range_with_len a (suc n))) [
  | inl above ↦ inr (in_range (a + 1) n t (omega (arith, above)) (omega (arith, to)))
  | inr here ↦ inl (omega (arith, here, from))
]

pub tiles_cover : NumbersAreInOneTile → (array tile : List ℕ) → AreTileLengths array tile → AreCovered (product array) (tile_places array tile) (range_with_len 0 (tile_count array tile))
tiles_cover one array tile tiles p low =
    let found = one array tile p tiles low in (
      found.tile_number,
      in_range 0 (tile_count array tile) found.tile_number (omega arith) (omega (arith, found.found.tile_in)),
      in_nth (tile_places array tile found.tile_number) found.pixel_number p found.found.pixel_in found.found.here,
    )

-- ---- picks

-- a box with a place has a pixel along each axis
some_pixel : (rs : List ℕ) (p : ℕ) → p < product rs → has_pixel rs ≡ true
some_pixel [] p below = refl
some_pixel (zero ∷ rs) p below = absurd (omega arith)
some_pixel (suc r ∷ rs) p below = ap (λ b. b && has_pixel rs) (lt-ltb 0 (suc r) (omega arith)) ∙ some_pixel rs 0 (factor (suc r) (product rs) below)
  where
    factor : (n m : ℕ) → p < n * m → 0 < m
    factor n zero h = absurd (omega arith)
    factor n (suc m) h = omega arith

kept_here : (test : ℕ → Bool) (a : ℕ) (rest : List ℕ) (t : ℕ) → a ≡ t → test t ≡ true → IsIn t (cond (test a) (a ∷ rest) rest)
kept_here test a rest t same passes =
    let yes' : test a ≡ true = ap test same ∙ passes in
    subst (λ b. IsIn t (cond b (a ∷ rest) rest)) (sym yes') (inl same)

kept_later : (b : Bool) (a : ℕ) (rest : List ℕ) (t : ℕ) → IsIn t rest → IsIn t (cond b (a ∷ rest) rest)
kept_later false a rest t has = has
kept_later true a rest t has = inr has

-- a number that passes the test is one of those that do
kept : (test : ℕ → Bool) (a n t : ℕ) → a ≤ t → t < a + n → test t ≡ true → IsIn t (filter test (range_with_len a n))
kept test a zero t from to passes = absurd (omega (arith, from, to))
kept test a (suc n) t from to passes = elim (cases_lt a t) as (λ _. IsIn t (filter test (range_with_len a (suc n)))) [
  | inl above ↦ kept_later (test a) a (filter test (range_with_len (a + 1) n)) t (kept test (a + 1) n t (omega (arith, above)) (omega (arith, to)) passes)
  | inr not_above ↦ kept_here test a (filter test (range_with_len (a + 1) n)) t (omega (arith, not_above, from)) passes
]

pub picks_cover : BoxesHaveTheirPixels → PlacesArePickedOnce → (array tile : List ℕ) (sieve : Sieve) → AreTileLengths array tile → Sifts array sieve
    → AreCovered (product (sieve_lengths sieve)) (picks_in_cutout array tile sieve) (picked_tiles array tile (sieve_lo sieve) (sieve_hi sieve) (sieve_step sieve))
picks_cover pixels once array tile sieve tiles sifts p low =
    let found = once array tile sieve p tiles sifts low in
    let t : ℕ = found.tile_number in
    let counts : List ℕ = part_lengths array tile sieve t in
    let long : length (picks_in_cutout array tile sieve t) ≡ product counts =
    pixels (sieve_lengths sieve) (all_before (sieve_lo sieve) (sieve_hi sieve) (sieve_step sieve) (tile_corner array tile t)) counts in
    let some : has_pixel counts ≡ true = some_pixel counts found.pick_number (omega (arith, long, found.found.pick_in)) in (
      t,
      kept (λ u. has_pixel (part_lengths array tile sieve u)) 0 (tile_count array tile) t (omega arith) (omega (arith, found.found.tile_in)) some,
      in_nth (picks_in_cutout array tile sieve t) found.pick_number p found.found.pick_in found.found.here,
    )
