-- The options that the headers of images say, gathered one image after another.
use Rattle.std.specs.Prelude.{is_some, max, nat_lt}
use Rattle.std.proofs.Common.{◌≡◌, ℕ, zero, suc, ◌+◌, ◌-◌, ◌<◌, ◌≤◌, ⊎_elim, Bool, true, false, cond, pos, List, [], ◌∷◌, ◌++◌, length, map, replicate, slice_index, Option, Some, None, IfSome, if◌then◌else◌, refl, sym, subst, ◌∙◌, ap, arith, append-nil}
use Rattle.std.proofs.lemmas.Bool.Decides.{leb_tells}
use Rattle.std.proofs.lemmas.List.{ext_get_or, get_or_append_left, length-append, length-replicate, map-append}
use Rattle.std.proofs.lemmas.List.Elements.{filter-append}
use Rattle.std.specs.List.{filter}
use Rattle.std.specs.Ordering.{int_eq}
use Rattle.fz_block.specs.Facts.{nine_axes}
use Rattle.fz_block.specs.Hdus.{cards_of}
use Rattle.fz_block.specs.declared.axes.Axes.{Axes}
use Rattle.fz_block.specs.declared.header.Header.{Header}
use Rattle.fz_files.specs.Restored.{header_in, is_image, plan_in}
use Rattle.fz_grid.specs.Region.{lengths_of}
use Rattle.fz_head.specs.PackedPlan.{plan_of_cards, said_tile}
use Rattle.fz_head.specs.Planned.{IsTile}
use Rattle.fz_checks.specs.declared.job_checks.PackedImage.{PackedImage}
use Rattle.fz_head.specs.declared.plan.Plan.{Plan}
use Rattle.fz_tile.specs.declared.codec.Codec.{Codec}
use Rattle.fz_strict.specs.FoundOptions.{block_of, codec_found, has_sums, options_of, sums_found, sums_in, tile_found, wider, widest, word_of}
use Rattle.fz_strict.specs.Gathered.{IsFound, codec_or_any, greater_tile, greatest_tile, length_along, longer, options_found, or_codec, said_codec, with_cards, with_image}
use Rattle.fz_strict.specs.declared.options.Found.{Found}
use Rattle.fz_strict.proofs.TilesFound.{axes_again}

-- ---- the codec

abbrev pub first_codec : List Plan → Option Codec
first_codec [] = None
first_codec (p ∷ ps) = or_codec (said_codec p) (first_codec ps)

or_behind : (a b c : Option Codec) → or_codec (or_codec a b) c ≡ or_codec a (or_codec b c)
or_behind None b c = refl
or_behind (Some x) b c = refl

or_none : (a : Option Codec) → or_codec a None ≡ a
or_none None = refl
or_none (Some x) = refl

first_more : (ps : List Plan) (p : Plan) → first_codec (ps ++ p ∷ []) ≡ or_codec (first_codec ps) (said_codec p)
first_more [] p = or_none (said_codec p)
first_more (q ∷ ps) p = ap (or_codec (said_codec q)) (first_more ps p) ∙ sym (or_behind (said_codec q) (first_codec ps) (said_codec p))

first_found : (ps : List Plan) → codec_or_any (first_codec ps) ≡ codec_found ps
first_found [] = refl
first_found (p ∷ ps) = by_width (int_eq p.bitpix (pos 64)) (first_found ps)
  where
    by_width : (long : Bool) → codec_or_any (first_codec ps) ≡ codec_found ps →
        codec_or_any (or_codec (if long then None else Some p.codec) (first_codec ps)) ≡ (if long then codec_found ps else p.codec)
    by_width true rest = rest
    by_width false rest = refl

-- ---- the tile

wider_none : (xs : List ℕ) → wider xs [] ≡ xs
wider_none [] = refl
wider_none (x ∷ xs) = refl

greatest : (x y z : ℕ) → max (max x y) z ≡ max x (max y z)
greatest x y z = omega arith

wider_behind : (xs ys zs : List ℕ) → wider (wider xs ys) zs ≡ wider xs (wider ys zs)
wider_behind [] ys zs = refl
wider_behind (x ∷ xs) [] zs = refl
wider_behind (x ∷ xs) (y ∷ ys) [] = refl
wider_behind (x ∷ xs) (y ∷ ys) (z ∷ zs) = λ i. greatest x y z i ∷ wider_behind xs ys zs i

widest_more : (ps : List Plan) (p : Plan) → widest (ps ++ p ∷ []) ≡ wider (widest ps) (lengths_of p.tile)
widest_more [] p = wider_none (lengths_of p.tile)
widest_more (q ∷ ps) p = ap (wider (lengths_of q.tile)) (widest_more ps p) ∙ sym (wider_behind (lengths_of q.tile) (widest ps) (lengths_of p.tile))

-- a length that is not there is 0
past : (xs : List ℕ) (i : ℕ) → length xs ≤ i → slice_index xs i ≡ 0
past [] i none = refl
past (x ∷ xs) zero none = absurd (omega (arith, none))
past (x ∷ xs) (suc i) none = past xs i (omega (arith, none))

zeros_at : (k i : ℕ) → slice_index (replicate k 0) i ≡ 0
zeros_at zero i = refl
zeros_at (suc k) zero = refl
zeros_at (suc k) (suc i) = zeros_at k i

zeros_behind : (xs : List ℕ) (k i : ℕ) → slice_index (xs ++ replicate k 0) i ≡ slice_index xs i
zeros_behind [] k i = zeros_at k i
zeros_behind (x ∷ xs) k zero = refl
zeros_behind (x ∷ xs) k (suc i) = zeros_behind xs k i

along_nine : (xs : List ℕ) (i : ℕ) → length_along (nine_axes xs) i ≡ slice_index xs i
along_nine xs i = ⊎_elim
    (λ yes. ap (λ (b : Bool). if b then slice_index (xs ++ replicate (9 - length xs) 0) i else 0) yes.0 ∙ zeros_behind xs (9 - length xs) i)
    (λ no. ap (λ (b : Bool). if b then slice_index (xs ++ replicate (9 - length xs) 0) i else 0) no.0 ∙ sym (past xs i (omega (arith, no.1))))
    (leb_tells (suc i) (length xs))

max_left : (n : ℕ) → n ≡ max 0 n
max_left n = omega arith

max_right : (n : ℕ) → n ≡ max n 0
max_right n = omega arith

wider_at : (xs ys : List ℕ) (i : ℕ) → slice_index (wider xs ys) i ≡ max (slice_index xs i) (slice_index ys i)
wider_at [] ys i = max_left (slice_index ys i)
wider_at (x ∷ xs) [] i = max_right (slice_index (x ∷ xs) i)
wider_at (x ∷ xs) (y ∷ ys) zero = refl
wider_at (x ∷ xs) (y ∷ ys) (suc i) = wider_at xs ys i

next_length : (m n k : ℕ) → m ≡ max n k → suc m ≡ max (suc n) (suc k)
next_length m n k is = omega (arith, is)

wider_length : (xs ys : List ℕ) → length (wider xs ys) ≡ max (length xs) (length ys)
wider_length [] ys = max_left (length ys)
wider_length (x ∷ xs) [] = max_right (length (x ∷ xs))
wider_length (x ∷ xs) (y ∷ ys) = next_length (length (wider xs ys)) (length xs) (length ys) (wider_length xs ys)

module _ (xs ys : List ℕ) (short : length xs ≤ 9) (few : length ys ≤ 9) where
  abbrev all : List ℕ
  all = wider xs ys ++ replicate (9 - length (wider xs ys)) 0

  abbrev found : Axes
  found = greater_tile (nine_axes xs) (nine_axes ys)

  at : (i : ℕ) → longer (nine_axes xs) (nine_axes ys) i ≡ slice_index all i
  at i = (λ j. max (along_nine xs i j) (along_nine ys i j)) ∙ sym (wider_at xs ys i) ∙ sym (zeros_behind (wider xs ys) (9 - length (wider xs ys)) i)

  each : (i : ℕ) → i < 9 → slice_index found.len i ≡ slice_index all i
  each zero low = at 0
  each (suc zero) low = at 1
  each (suc (suc zero)) low = at 2
  each (suc (suc (suc zero))) low = at 3
  each (suc (suc (suc (suc zero)))) low = at 4
  each (suc (suc (suc (suc (suc zero))))) low = at 5
  each (suc (suc (suc (suc (suc (suc zero)))))) low = at 6
  each (suc (suc (suc (suc (suc (suc (suc zero))))))) low = at 7
  each (suc (suc (suc (suc (suc (suc (suc (suc zero)))))))) low = at 8
  each (suc (suc (suc (suc (suc (suc (suc (suc (suc i))))))))) low = absurd (omega (arith, low))

  long : length all ≡ 9
  long = omega (arith, length-append (wider xs ys) (replicate (9 - length (wider xs ys)) 0), length-replicate {A = ℕ} (9 - length (wider xs ys)) 0, wider_length xs ys, short, few)

  lens : found.len ≡ all
  lens = ext_get_or 0 found.len all (sym long) each

  pub greater_nine : greater_tile (nine_axes xs) (nine_axes ys) ≡ nine_axes (wider xs ys)
  greater_nine = λ i. record { n = sym (wider_length xs ys) i; len = lens i }

-- the tile of a plan, cut to nine places
abbrev pub HasNine : Plan → Type 0
HasNine p = p.tile ≡ nine_axes (lengths_of p.tile)

pub plan_nine : (cards : List (List ℕ)) → HasNine (plan_of_cards cards)
unfolding plan_of_cards
plan_nine cards = ap nine_axes (sym (axes_again (said_tile cards)))

tile_more : (ps : List Plan) (p : Plan) → HasNine p → IsTile (tile_found ps) → IsTile (Some p.tile) → tile_found (ps ++ p ∷ []) ≡ Some (greatest_tile (tile_found ps) p.tile)
tile_more [] p nine found tile = ap Some (ap nine_axes (wider_none (lengths_of p.tile)) ∙ sym nine)
tile_more (q ∷ ps) p nine found tile =
    let count : p.tile.n ≡ length (lengths_of p.tile) = ap (λ (a : Axes). a.n) nine in
    let few : length (lengths_of p.tile) ≤ 9 = omega (arith, count, tile.1) in
    ap (λ l. Some (nine_axes l)) (widest_more (q ∷ ps) p)
    ∙ ap Some (sym (greater_nine (widest (q ∷ ps)) (lengths_of p.tile) found.1 few) ∙ ap (greater_tile (nine_axes (widest (q ∷ ps)))) (sym nine))

-- ---- the sums

sums_more : (file : List ℕ) (images : List Header) (h : Header) →
    sums_found file (images ++ h ∷ []) ≡ (if is_some (tile_found (map (plan_in file) images)) then sums_found file images else sums_in file h)
sums_more file [] h = refl
sums_more file (j ∷ images) h = refl

-- ---- all

abbrev pub gathered : List ℕ → List Header → Found
gathered file images = record { codec = first_codec (map (plan_in file) images); tile = tile_found (map (plan_in file) images); sums = sums_found file images }

pub gathered_found : (file : List ℕ) (images : List Header) → options_found (gathered file images) ≡ options_of file images
gathered_found file images =
    let ps : List Plan = map (plan_in file) images in
    λ i. record {
      codec = word_of (first_found ps i);
      tile = tile_found ps;
      block = block_of (first_found ps i);
      sums = sums_found file images;
      workers = 1;
    }

pub gathered_more : (file : List ℕ) (images : List Header) (h : Header) → IsTile (tile_found (map (plan_in file) images)) → IsTile (Some (plan_in file h).tile) →
    gathered file (images ++ h ∷ []) ≡ with_image (gathered file images) (plan_in file h) (sums_in file h)
gathered_more file images h found tile =
    let ps : List Plan = map (plan_in file) images in
    let p : Plan = plan_in file h in
    let split : map (plan_in file) (images ++ h ∷ []) ≡ ps ++ p ∷ [] = map-append (plan_in file) images (h ∷ []) in
    let codec : first_codec (map (plan_in file) (images ++ h ∷ [])) ≡ or_codec (first_codec ps) (said_codec p) = ap first_codec split ∙ first_more ps p in
    let tiles : tile_found (map (plan_in file) (images ++ h ∷ [])) ≡ Some (greatest_tile (tile_found ps) p.tile) =
    ap tile_found split ∙ tile_more ps p (plan_nine (cards_of (header_in file h))) found tile in
    λ i. record { codec = codec i; tile = tiles i; sums = sums_more file images h i }

-- ---- an HDU more

-- what a header that was read says of the image of its HDU
abbrev pub IsImageRead : List ℕ → Header → Option PackedImage → Type 0
IsImageRead file h None = is_image file h ≡ false
IsImageRead file h (Some i) = (is_image file h ≡ true) × (plan_in file h ≡ i.plan)

pub cards_more : (file : List ℕ) (done : List Header) (h : Header) (f : Found) (image : Option PackedImage) → f ≡ gathered file (filter (is_image file) done) → IsFound f → IsImageRead file h image →
    IfSome image (λ i. IsTile (Some i.plan.tile)) → with_cards f (cards_of (header_in file h)) image ≡ gathered file (filter (is_image file) (done ++ h ∷ []))
cards_more file done h f None is allowed read tile =
    let none : filter (is_image file) (h ∷ []) ≡ [] = ap (λ b. cond b (h ∷ []) []) read in
    is ∙ ap (gathered file) (sym (filter-append (is_image file) done (h ∷ []) ∙ ap (λ l. filter (is_image file) done ++ l) none ∙ append-nil (filter (is_image file) done)))
cards_more file done h f (Some image) is allowed read tile =
    let images : List Header = filter (is_image file) done in
    let one : filter (is_image file) (h ∷ []) ≡ h ∷ [] = ap (λ b. cond b (h ∷ []) []) read.0 in
    let all : filter (is_image file) (done ++ h ∷ []) ≡ images ++ h ∷ [] = filter-append (is_image file) done (h ∷ []) ∙ ap (λ l. images ++ l) one in
    let before : IsTile (tile_found (map (plan_in file) images)) = subst IsTile (ap (λ (x : Found). x.tile) is) allowed.tile in
    let here : IsTile (Some (plan_in file h).tile) = subst (λ (p : Plan). IsTile (Some p.tile)) (sym read.1) tile in
    (λ i. with_image (is i) (sym read.1 i) (sums_in file h)) ∙ sym (gathered_more file images h before here) ∙ ap (gathered file) (sym all)
