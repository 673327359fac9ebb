-- The tiles of the images of a packed file: the widest of them, cut to an image, is the tile of the image.
use Rattle.std.specs.Prelude.{⊤, min, max}
use Rattle.std.proofs.Common.{◌≡◌, ◌⊎◌, inl, inr, ℕ, zero, suc, ◌-◌, ◌<◌, ◌≤◌, ◌&&◌, nat_le, Bool, true, false, List, [], ◌∷◌, ◌++◌, length, map, replicate, slice_index, Option, Some, None, refl, sym, subst, ◌∙◌, ap, arith}
use Rattle.std.proofs.Math.Seq.{take-append_seam}
use Rattle.std.proofs.lemmas.Bool.Decides.{nat_tests}
use Rattle.std.specs.List.{AllByRecursion, list_all}
use Rattle.fz_block.specs.Facts.{nine_axes}
use Rattle.fz_block.specs.declared.axes.Axes.{Axes}
use Rattle.fz_block.specs.declared.header.Header.{Header}
use Rattle.fz_grid.specs.Division.{AreTileLengths}
use Rattle.fz_grid.specs.Laws.{DividedArraysHaveTiles}
use Rattle.fz_grid.specs.Region.{IsDivided, lengths_of}
use Rattle.fz_head.specs.Planned.{IsTile, asked_tile, cut_tile, pack_plan_of}
use Rattle.fz_head.specs.declared.options.PackOptions.{PackOptions}
use Rattle.fz_head.specs.declared.plan.Plan.{Plan}
use Rattle.fz_strict.specs.FoundOptions.{tile_found, wider, widest}

-- ---- a tile that is no longer, where an image of these lengths is, than the tile of the image

abbrev pub Fits : List ℕ → List ℕ → List ℕ → Type 0
Fits [] ts ws = ⊤
Fits (n ∷ ns) [] ws = ⊤
Fits (n ∷ ns) (t ∷ ts) [] = ⊤
Fits (n ∷ ns) (t ∷ ts) (w ∷ ws) = (min w n ≤ t) × Fits ns ts ws

fits_none : (ns ts : List ℕ) → Fits ns ts []
fits_none [] ts = tt
fits_none (n ∷ ns) [] = tt
fits_none (n ∷ ns) (t ∷ ts) = tt

greater_fits : (x y n t : ℕ) → min x n ≤ t → min y n ≤ t → min (max x y) n ≤ t
greater_fits x y n t a b = omega (arith, a, b)

wider_fits : (ns ts xs ys : List ℕ) → Fits ns ts xs → Fits ns ts ys → Fits ns ts (wider xs ys)
wider_fits [] ts xs ys a b = tt
wider_fits (n ∷ ns) [] xs ys a b = tt
wider_fits (n ∷ ns) (t ∷ ts) [] ys a b = b
wider_fits (n ∷ ns) (t ∷ ts) (x ∷ xs) [] a b = a
wider_fits (n ∷ ns) (t ∷ ts) (x ∷ xs) (y ∷ ys) a b = (greater_fits x y n t a.0 b.0, wider_fits ns ts xs ys a.1 b.1)

one_fits : (n : ℕ) → min 1 n ≤ 1
one_fits n = omega arith

least_fits : (a m n : ℕ) → min (min a m) n ≤ min a n
least_fits a m n = omega arith

cut_fits : (ns ms asked : List ℕ) → Fits ns (cut_tile ns asked) (cut_tile ms asked)
cut_fits [] ms asked = tt
cut_fits (n ∷ ns) [] [] = tt
cut_fits (n ∷ ns) [] (a ∷ asked) = tt
cut_fits (n ∷ ns) (m ∷ ms) [] = (one_fits n, cut_fits ns ms [])
cut_fits (n ∷ ns) (m ∷ ms) (a ∷ asked) = (least_fits a m n, cut_fits ns ms asked)

row_fits : (m n : ℕ) → min (min m m) n ≤ min n n
row_fits m n = omega arith

-- the same of the tiles that are asked for, which are rows where none is
asked_fits : (tile : Option Axes) (ns ms : List ℕ) → Fits ns (cut_tile ns (asked_tile tile ns)) (cut_tile ms (asked_tile tile ms))
asked_fits (Some axes) ns ms = cut_fits ns ms (lengths_of axes)
asked_fits None [] ms = tt
asked_fits None (n ∷ ns) [] = tt
asked_fits None (n ∷ ns) (m ∷ ms) = (row_fits m n, cut_fits ns ms [])

-- ---- a tile that is at least as long as another along each axis of that

abbrev pub Covers : List ℕ → List ℕ → Type 0
Covers [] ws = ⊤
Covers (t ∷ ts) [] = ⊥
Covers (t ∷ ts) (w ∷ ws) = (t ≤ w) × Covers ts ws

covers_self : (ts : List ℕ) → Covers ts ts
covers_self [] = tt
covers_self (t ∷ ts) = (omega arith, covers_self ts)

covers_first : (ts xs : List ℕ) → Covers ts (wider ts xs)
covers_first [] xs = tt
covers_first (t ∷ ts) [] = (omega arith, covers_self ts)
covers_first (t ∷ ts) (x ∷ xs) = (omega arith, covers_first ts xs)

covers_second : (ts xs ys : List ℕ) → Covers ts ys → Covers ts (wider xs ys)
covers_second [] xs ys c = tt
covers_second (t ∷ ts) [] ys c = c
covers_second (t ∷ ts) (x ∷ xs) [] c = absurd c
covers_second (t ∷ ts) (x ∷ xs) (y ∷ ys) c = let here = c.0 in (omega (arith, here), covers_second ts xs ys c.1)

-- ---- a tile that is within an image

abbrev pub Inside : List ℕ → List ℕ → Type 0
Inside [] [] = ⊤
Inside [] (t ∷ ts) = ⊥
Inside (n ∷ ns) [] = ⊥
Inside (n ∷ ns) (t ∷ ts) = (t ≤ n) × Inside ns ts

pub both_true : (a b : Bool) → (a && b) ≡ true → (a ≡ true) × (b ≡ true)
both_true true b e = (refl, e)
both_true false b e = absurd cc

one_within : (n : ℕ) → nat_le 1 n ≡ true → 1 ≤ n
one_within n e = grind (arith, nat_tests)

cut_inside : (ns asked : List ℕ) → list_all (nat_le 1) ns ≡ true → Inside ns (cut_tile ns asked)
cut_inside [] asked some = tt
cut_inside (n ∷ ns) [] some = let both = both_true (nat_le 1 n) (list_all (nat_le 1) ns) some in (one_within n both.0, cut_inside ns [] both.1)
cut_inside (n ∷ ns) (a ∷ asked) some = let both = both_true (nat_le 1 n) (list_all (nat_le 1) ns) some in (omega arith, cut_inside ns asked both.1)

cut_here : (w n t : ℕ) → t ≤ n → min w n ≤ t → t ≤ w → min w n ≡ t
cut_here w n t within fits covers = omega (arith, within, fits, covers)

cut_is : (ns ts ws : List ℕ) → Inside ns ts → Fits ns ts ws → Covers ts ws → cut_tile ns ws ≡ ts
cut_is [] [] ws within fits covers = refl
cut_is [] (t ∷ ts) ws within fits covers = absurd within
cut_is (n ∷ ns) [] ws within fits covers = absurd within
cut_is (n ∷ ns) (t ∷ ts) [] within fits covers = absurd covers
cut_is (n ∷ ns) (t ∷ ts) (w ∷ ws) within fits covers = λ i. cut_here w n t within.0 fits.0 covers.0 i ∷ cut_is ns ts ws within.1 fits.1 covers.1 i

-- ---- the images of a list

-- the header is one of these
abbrev pub Among : Header → List Header → Type 0
Among h [] = ⊥
Among h (g ∷ gs) = (h ≡ g) ⊎ Among h gs

pub axes_again : (lengths : List ℕ) → lengths_of (nine_axes lengths) ≡ lengths
axes_again lengths = take-append_seam lengths (replicate (9 - length lengths) 0)

-- the tile of an image, by the options
abbrev pub tile_by : PackOptions → Header → List ℕ
tile_by o h = cut_tile (lengths_of h.axes) (asked_tile o.tile (lengths_of h.axes))

pub plan_tile : (o : PackOptions) (h : Header) → lengths_of (pack_plan_of o h).tile ≡ tile_by o h
unfolding pack_plan_of
plan_tile o h = axes_again (tile_by o h)

widest_fits : (o : PackOptions) (ns : List ℕ) (hs : List Header) → Fits ns (cut_tile ns (asked_tile o.tile ns)) (widest (map (pack_plan_of o) hs))
widest_fits o ns [] = fits_none ns (cut_tile ns (asked_tile o.tile ns))
widest_fits o ns (g ∷ gs) =
    let ts : List ℕ = cut_tile ns (asked_tile o.tile ns) in
    wider_fits ns ts (lengths_of (pack_plan_of o g).tile) (widest (map (pack_plan_of o) gs))
    (subst (Fits ns ts) (sym (plan_tile o g)) (asked_fits o.tile ns (lengths_of g.axes))) (widest_fits o ns gs)

widest_covers : (o : PackOptions) (h : Header) (hs : List Header) → Among h hs → Covers (tile_by o h) (widest (map (pack_plan_of o) hs))
widest_covers o h [] among = absurd among
widest_covers o h (g ∷ gs) (inl is) =
    let ts : List ℕ = lengths_of (pack_plan_of o g).tile in
    let ws : List ℕ = widest (map (pack_plan_of o) gs) in
    let same : ts ≡ tile_by o h = plan_tile o g ∙ ap (tile_by o) (sym is) in
    subst (λ l. Covers l (wider ts ws)) same (covers_first ts ws)
widest_covers o h (g ∷ gs) (inr among) =
    covers_second (tile_by o h) (lengths_of (pack_plan_of o g).tile) (widest (map (pack_plan_of o) gs)) (widest_covers o h gs among)

-- the tile that is found makes the same tile of each image
pub found_tile : (o : PackOptions) (h : Header) (hs : List Header) → Among h hs → list_all (nat_le 1) (lengths_of h.axes) ≡ true →
    cut_tile (lengths_of h.axes) (asked_tile (tile_found (map (pack_plan_of o) hs)) (lengths_of h.axes)) ≡ tile_by o h
found_tile o h [] among some = absurd among
found_tile o h (g ∷ gs) among some =
    let ns : List ℕ = lengths_of h.axes in
    let ws : List ℕ = widest (map (pack_plan_of o) (g ∷ gs)) in
    ap (cut_tile ns) (axes_again ws)
    ∙ cut_is ns (tile_by o h) ws (cut_inside ns (asked_tile o.tile ns) some) (widest_fits o ns (g ∷ gs)) (widest_covers o h (g ∷ gs) among)

-- ---- a call takes it

-- 1 to 9 lengths, each at least 1
pub record IsShort (ws : List ℕ) : Type 0 where
  pub some : 1 ≤ length ws
  pub few : length ws ≤ 9
  pub each : AllByRecursion (λ n. 1 ≤ n) ws

wider_each : (xs ys : List ℕ) → AllByRecursion (λ n. 1 ≤ n) xs → AllByRecursion (λ n. 1 ≤ n) ys → AllByRecursion (λ n. 1 ≤ n) (wider xs ys)
wider_each [] ys a b = b
wider_each (x ∷ xs) [] a b = a
wider_each (x ∷ xs) (y ∷ ys) a b = let here = a.0 in (omega (arith, here), wider_each xs ys a.1 b.1)

wider_few : (xs ys : List ℕ) (n : ℕ) → length xs ≤ n → length ys ≤ n → length (wider xs ys) ≤ n
wider_few [] ys n a b = b
wider_few (x ∷ xs) [] n a b = a
wider_few (x ∷ xs) (y ∷ ys) zero a b = absurd omega (arith, a)
wider_few (x ∷ xs) (y ∷ ys) (suc n) a b = let rest = wider_few xs ys n (omega (arith, a)) (omega (arith, b)) in omega (arith, rest)

wider_some : (xs ys : List ℕ) → 1 ≤ length xs → 1 ≤ length (wider xs ys)
wider_some [] ys some = absurd omega (arith, some)
wider_some (x ∷ xs) [] some = omega arith
wider_some (x ∷ xs) (y ∷ ys) some = omega arith

each_positive : (xs : List ℕ) → ((i : ℕ) → i < length xs → 0 < slice_index xs i) → AllByRecursion (λ n. 1 ≤ n) xs
each_positive [] each = tt
each_positive (x ∷ xs) each =
    let here : 0 < x = each 0 (omega arith) in
    (omega (arith, here), each_positive xs (λ i less. each (suc i) (omega (arith, less))))

at_positive : (xs ys : List ℕ) → AllByRecursion (λ n. 1 ≤ n) xs → (i : ℕ) → i < length xs → 1 ≤ slice_index (xs ++ ys) i
at_positive [] ys each i less = absurd omega (arith, less)
at_positive (x ∷ xs) ys each zero less = each.0
at_positive (x ∷ xs) ys each (suc i) less = at_positive xs ys each.1 i (omega (arith, less))

-- the tile of a plan is that
abbrev pub HasShortTile : Plan → Type 0
HasShortTile p = IsShort (lengths_of p.tile)

pub divided_short : DividedArraysHaveTiles → (p : Plan) → length (lengths_of p.tile) ≡ p.tile.n → IsDivided p.shape p.tile → HasShortTile p
divided_short laws p count is =
    let same = is.same_axes in
    let some = is.some in
    let few = is.axes in
    let lengths : AreTileLengths (lengths_of p.shape) (lengths_of p.tile) = laws p.shape p.tile is in
    let axes = lengths.axes in
    record {
      some = omega (arith, count, same, some);
      few = omega (arith, count, same, few);
      each = each_positive (lengths_of p.tile) (λ i less. lengths.positive i (omega (arith, axes, less)));
    }

few_widest : (ps : List Plan) → AllByRecursion HasShortTile ps → length (widest ps) ≤ 9
few_widest [] each = omega arith
few_widest (p ∷ ps) each = wider_few (lengths_of p.tile) (widest ps) 9 each.0.few (few_widest ps each.1)

each_widest : (ps : List Plan) → AllByRecursion HasShortTile ps → AllByRecursion (λ n. 1 ≤ n) (widest ps)
each_widest [] each = tt
each_widest (p ∷ ps) each = wider_each (lengths_of p.tile) (widest ps) each.0.each (each_widest ps each.1)

pub found_is_tile : (ps : List Plan) → AllByRecursion HasShortTile ps → IsTile (tile_found ps)
found_is_tile [] each = tt
found_is_tile (p ∷ ps) each =
    let ws : List ℕ = widest (p ∷ ps) in (
      wider_some (lengths_of p.tile) (widest ps) each.0.some,
      few_widest (p ∷ ps) each,
      at_positive ws (replicate (9 - length ws) 0) (each_widest (p ∷ ps) each),
    )
