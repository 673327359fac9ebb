-- The plan of an image that passes its checks divides the image into tiles.
use Rattle.std.proofs.Common.{◌≡◌, ℕ, zero, suc, ◌-◌, ◌<◌, ◌≤◌, ◌^◌, true, leb, List, [], ◌∷◌, length, take, get_or, replicate, sym, refl, ap, ◌∙◌, subst, arith}
use Rattle.std.specs.Prelude.{Option, Some, None, Ok}
use Rattle.std.specs.List.{list_all}
use Rattle.std.proofs.lemmas.Bool.{and_parts, leb-true, ltb-false}
use Rattle.std.proofs.lemmas.List.{get_or-take, get_or_append_left, length-take, take_at}
use Rattle.std.proofs.lemmas.List.FromFn.{length-map-range_with_len}
use Rattle.fz_base.specs.Refusal.{first_refusal}
use Rattle.fz_base.specs.declared.fault.Fault.{Fault}
use Rattle.fz_block.specs.Checks.{unless_refused}
use Rattle.fz_block.specs.Facts.{IsHeaderOf, nine_axes}
use Rattle.fz_block.specs.Hdus.{axes_of, cards_of, size_at}
use Rattle.fz_block.specs.declared.axes.Axes.{Axes}
use Rattle.fz_block.specs.declared.header.Header.{Header}
use Rattle.fz_grid.specs.Arrays.{product}
use Rattle.fz_grid.specs.Grid.{tile_count}
use Rattle.fz_grid.specs.Region.{IsDivided, lengths_of}
use Rattle.fz_head.specs.declared.options.PackOptions.{PackOptions}
use Rattle.fz_head.specs.declared.plan.Plan.{Plan}
use Rattle.fz_head.specs.Packable.{is_packable, is_image}
use Rattle.fz_head.specs.PackChecks.{pack_answer, pack_checks, name_checks, limit_checks, offset_check}
use Rattle.fz_head.specs.Planned.{AreOptions, IsTile, asked_tile, cut_tile, pack_plan_of}
use Rattle.fz_checks.proofs.FrontCards.{clear, clear-front, clear-rest, few-axes}

-- what an answer without a refusal says
pub unless-ok : {A : Type 0} (answer p : A) (o : Option Fault) → unless_refused answer o ≡ Ok p → (o ≡ None) × (answer ≡ p)
unless-ok answer p None e = (refl, cc)
unless-ok answer p (Some fault) e = cc

-- each entry of a list is at least 1
abbrev pub ArePositive : List ℕ → Type 0
ArePositive xs = (i : ℕ) → i < length xs → 1 ≤ get_or xs i 0

pub all-positive : (xs : List ℕ) → list_all (leb 1) xs ≡ true → ArePositive xs
all-positive [] e i within = absurd (omega arith)
all-positive (x ∷ xs) e zero within = leb-true 1 x (and_parts (leb 1 x) (list_all (leb 1) xs) e).0
all-positive (x ∷ xs) e (suc i) within = all-positive xs (and_parts (leb 1 x) (list_all (leb 1) xs) e).1 i (omega arith)

positive-take : (n : ℕ) (xs : List ℕ) → ((i : ℕ) → i < n → 1 ≤ get_or xs i 0) → ArePositive (take n xs)
positive-take n xs each i within =
    let inside : i < n = omega (arith, length-take n xs) in
    subst (λ k. 1 ≤ k) (sym (get_or-take n xs i 0 inside)) (each i inside)

positive-front : (xs : List ℕ) → ArePositive xs → ArePositive (take 1 xs)
positive-front xs all i within =
    let inside : i < 1 = omega (arith, length-take 1 xs) in
    let there : i < length xs = omega (arith, length-take 1 xs) in
    subst (λ k. 1 ≤ k) (sym (get_or-take 1 xs i 0 inside)) (all i there)

pub asked-positive : (tile : Option Axes) (lengths : List ℕ) → IsTile tile → ArePositive lengths → ArePositive (asked_tile tile lengths)
asked-positive None lengths is all = positive-front lengths all
asked-positive (Some axes) lengths is all = positive-take axes.n axes.len is.2

-- the tile that is cut to the axes
pub length-cut_tile : (lengths asked : List ℕ) → length (cut_tile lengths asked) ≡ length lengths
length-cut_tile [] asked = refl
length-cut_tile (n ∷ ns) [] = ap suc (length-cut_tile ns [])
length-cut_tile (n ∷ ns) (t ∷ ts) = ap suc (length-cut_tile ns ts)

positive-rest : (x : ℕ) (xs : List ℕ) → ArePositive (x ∷ xs) → ArePositive xs
positive-rest x xs all i within = all (suc i) (omega arith)

pub cut-between : (lengths asked : List ℕ) → ArePositive lengths → ArePositive asked → (i : ℕ) → i < length lengths → (1 ≤ get_or (cut_tile lengths asked) i 0) × (get_or (cut_tile lengths asked) i 0 ≤ get_or lengths i 0)
cut-between [] asked pl pa i within = absurd (omega arith)
cut-between (n ∷ ns) [] pl pa zero within = (omega arith, pl 0 (omega arith))
cut-between (n ∷ ns) [] pl pa (suc i) within = cut-between ns [] (positive-rest n ns pl) pa i (omega arith)
cut-between (n ∷ ns) (t ∷ ts) pl pa zero within = (let a : 1 ≤ n = pl 0 (omega arith) in let b : 1 ≤ t = pa 0 (omega arith) in omega arith, omega arith)
cut-between (n ∷ ns) (t ∷ ts) pl pa (suc i) within = cut-between ns ts (positive-rest n ns pl) (positive-rest t ts pa) i (omega arith)

-- the axes of a table of nine
pub lengths-nine_axes : (lengths : List ℕ) → lengths_of (nine_axes lengths) ≡ lengths
lengths-nine_axes lengths = take_at lengths (replicate (9 - length lengths) 0) (length lengths) refl

pub nine-entry : (lengths : List ℕ) (i : ℕ) → i < length lengths → get_or (nine_axes lengths).len i 0 ≡ get_or lengths i 0
nine-entry lengths i within = get_or_append_left lengths (replicate (9 - length lengths) 0) 0 i within

-- the parts of what makes an image packable
pub record Parts (h : Header) : Type 0 where
  pub some : 1 ≤ h.axes.n
  pub all : ArePositive (lengths_of h.axes)

pub packable-parts : (h : Header) → is_packable h ≡ true → Parts h
unfolding is_packable
packable-parts h e =
    let one = and_parts (is_image h.sort) _ e in
    let two = and_parts (leb 1 h.axes.n) _ one.1 in
    let three = and_parts (list_all (leb 1) (lengths_of h.axes)) _ two.1 in
    record { some = leb-true 1 h.axes.n two.0; all = all-positive (lengths_of h.axes) three.0 }

divided : (lengths asked : List ℕ) → 1 ≤ length lengths → length lengths ≤ 9 → ArePositive lengths → ArePositive asked →
    product lengths ≤ 2 ^ 40 → product (cut_tile lengths asked) ≤ 2 ^ 26 → tile_count lengths (cut_tile lengths asked) < 2 ^ 31 →
    IsDivided (nine_axes lengths) (nine_axes (cut_tile lengths asked))
divided lengths asked some few pl pa pixels tile_pixels tiles = record {
  some = some;
  axes = few;
  same_axes = length-cut_tile lengths asked;
  positive = λ i within. subst (λ k. 1 ≤ k) (sym (nine-entry (cut_tile lengths asked) i (omega (arith, length-cut_tile lengths asked)))) (cut-between lengths asked pl pa i within).0;
  inside = λ i within.
      omega (arith, nine-entry (cut_tile lengths asked) i (omega (arith, length-cut_tile lengths asked)), nine-entry lengths i within, (cut-between lengths asked pl pa i within).1);
  pixels = subst (λ l. product l ≤ 2 ^ 40) (sym (lengths-nine_axes lengths)) pixels;
  tile_pixels = subst (λ l. product l ≤ 2 ^ 26) (sym (lengths-nine_axes (cut_tile lengths asked))) tile_pixels;
  tiles = subst (λ l. tile_count l (lengths_of (nine_axes (cut_tile lengths asked))) < 2 ^ 31) (sym (lengths-nine_axes lengths))
      (subst (λ l. tile_count lengths l < 2 ^ 31) (sym (lengths-nine_axes (cut_tile lengths asked))) tiles);
}

-- the axes of a header that was read
pub axes-count : (header : List ℕ) (h : Header) → IsHeaderOf header h → h.axes.n ≡ size_at header 2
axes-count header h is = ap (λ (f : Header). f.axes.n) is.facts ∙ length-map-range_with_len (size_at header) 3 (size_at header 2)

pub axes-few : (header : List ℕ) (h : Header) → IsHeaderOf header h → h.axes.n ≤ 9
axes-few header h is = omega (arith, axes-count header h is, few-axes h.hdu header is.mandatory)

pub planned-divided : (o : PackOptions) (header : List ℕ) (h : Header) (p : Plan) → AreOptions o → IsHeaderOf header h → is_packable h ≡ true → pack_answer o h header ≡ Ok p → IsDivided p.shape p.tile
unfolding pack_answer pack_plan_of
planned-divided o header h p options is packable answer =
    let lengths : List ℕ = axes_of header in
    let asked : List ℕ = asked_tile o.tile lengths in
    let parts = packable-parts h packable in
    let ok = unless-ok (pack_plan_of o h) p (first_refusal (pack_checks o h header)) answer in
    let axes : h.axes ≡ nine_axes lengths = ap (λ (f : Header). f.axes) is.facts in
    let here : lengths_of h.axes ≡ lengths = ap lengths_of axes ∙ lengths-nine_axes lengths in
    let limits = clear (limit_checks h (pack_plan_of o h) o.sums (cards_of header)) (clear-front (limit_checks h (pack_plan_of o h) o.sums (cards_of header)) (offset_check h (pack_plan_of o h).codec (cards_of header) ∷ []) (clear-rest (name_checks h header) _ ok.0)) in
    let tile : nine_axes (cut_tile (lengths_of h.axes) (asked_tile o.tile (lengths_of h.axes))) ≡ nine_axes (cut_tile lengths asked) = ap (λ l. nine_axes (cut_tile l (asked_tile o.tile l))) here in
    let cut : lengths_of (nine_axes (cut_tile (lengths_of h.axes) (asked_tile o.tile (lengths_of h.axes)))) ≡ cut_tile lengths asked = ap lengths_of tile ∙ lengths-nine_axes (cut_tile lengths asked) in
    let tiles = ltb-false 2147483647 _ limits.1.1.0 in
    let same : tile_count (lengths_of h.axes) (lengths_of (nine_axes (cut_tile (lengths_of h.axes) (asked_tile o.tile (lengths_of h.axes))))) ≡ tile_count lengths (cut_tile lengths asked) =
    ap (λ l. tile_count l (lengths_of (nine_axes (cut_tile (lengths_of h.axes) (asked_tile o.tile (lengths_of h.axes)))))) here ∙ ap (tile_count lengths) cut in
    let count : length lengths ≡ h.axes.n = sym (ap (λ (a : Axes). a.n) axes) in
    let positive : ArePositive lengths = subst ArePositive here parts.all in
    let is_divided : IsDivided (nine_axes lengths) (nine_axes (cut_tile lengths asked)) =
    divided lengths asked (omega (arith, parts.some, count)) (omega (arith, axes-few header h is, count)) positive (asked-positive o.tile lengths options.tile positive)
    (subst (λ l. product l ≤ 2 ^ 40) here (ltb-false (2 ^ 40) (product (lengths_of h.axes)) limits.0))
    (subst (λ l. product l ≤ 2 ^ 26) cut (ltb-false (2 ^ 26) _ limits.1.0))
    (omega (arith, tiles, same)) in
    subst (λ (q : Plan). IsDivided q.shape q.tile) ok.1 (subst (λ a. IsDivided a (nine_axes (cut_tile (lengths_of h.axes) (asked_tile o.tile (lengths_of h.axes))))) (sym axes) (subst (IsDivided (nine_axes lengths)) (sym tile) is_divided))
