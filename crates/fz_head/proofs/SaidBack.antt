-- The plan by which a packed header was made is the one that it stands for.
use Rattle.std.proofs.Common.{◌≡◌, ℕ, zero, suc, ◌+◌, ◌-◌, ◌<◌, ◌≤◌, ◌^◌, Bool, true, false, cond, List, [], ◌∷◌, ◌++◌, length, get_or, map, min, refl, ap, sym, ◌∙◌, subst, arith, inl, inr}
use Rattle.std.specs.Prelude.{ℤ, pos, negsuc, not, ◌&&◌, ◌||◌, Option, Some, None, is_none, is_some, nat_lt, unwrap_or, codes}
use Rattle.std.specs.Option.{option_map}
use Rattle.std.specs.List.{AllByRecursion, find, flat_map, position, range_with_len}
use Rattle.std.proofs.lemmas.Bool.{and_right, le-ltb, lt-ltb}
use Rattle.std.proofs.lemmas.List.FromFn.{length-map-range_with_len, get_or-map-range_with_len}
use Rattle.fz_base.specs.declared.fault.Fault.{Fault}
use Rattle.fz_card.specs.Layout.{padded}
use Rattle.fz_card.specs.Made.{numbered_name}
use Rattle.fz_card.specs.Reading.{integer_of, text_of}
use Rattle.fz_card.specs.CardLists.{has_name}
use Rattle.fz_card.specs.Laws.{CardLaws}
use Rattle.fz_block.specs.Cards.{card_at}
use Rattle.fz_block.specs.Facts.{nine_axes}
use Rattle.fz_block.specs.Hdus.{axes_of, size_at, size_in}
use Rattle.fz_block.specs.declared.axes.Axes.{Axes}
use Rattle.fz_grid.specs.Arrays.{product}
use Rattle.fz_grid.specs.Grid.{tile_count}
use Rattle.fz_grid.specs.Region.{IsDivided, lengths_of}
use Rattle.fz_tile.specs.Pixels.{IsBitpix}
use Rattle.fz_tile.specs.declared.codec.Codec.{Codec}
use Rattle.fz_tile.specs.declared.codec.Codec.TheVariants.{Rice, Plio, Plain}
use Rattle.fz_head.specs.declared.plan.Plan.{Plan}
use Rattle.fz_head.specs.declared.totals.Totals.{Totals}
use Rattle.fz_head.specs.CardLists.{index_of, the_card}
use Rattle.fz_head.specs.PackedChecks.{axis_checks, axis_count_checks, bitpix_checks, codec_checks, grid_check, is_integer, is_integer_size, is_positive, shape_checks, tile_check}
use Rattle.fz_head.specs.PackedHeader.{codec_name, packed_card, made_cards}
use Rattle.fz_head.specs.PackedPlan.{default_tile, is_codec_name, is_plain_name, numbered_in, said_axes, said_bitpix, said_codec, said_tile, size_of, tile_along, word_in}
use Rattle.fz_head.specs.PlainHeader.{axis_count}
use Rattle.fz_head.proofs.BackAgain.{IsPacked, whole, count-is, found_named}
use Rattle.fz_head.proofs.CardNames.{axis-pair, bitpix-pair, naxis-pair}
use Rattle.fz_head.proofs.FrontCards.{At_axis, At_bitpix, At_naxis}
use Rattle.fz_head.proofs.FrontValues.{HasValues, positive-size}
use Rattle.fz_head.proofs.ImageCards.{is_free, or_false}
use Rattle.fz_head.proofs.MadeFinds.{tile_card, zcmptype-found, ztile-found}
use Rattle.fz_head.proofs.MadeTables.{AreClear, clear-append}
use Rattle.fz_head.proofs.MadeValues.{codec-text, number-says, text-says}
use Rattle.fz_head.proofs.PlannedTiles.{lengths-nine_axes, nine-entry}
use Rattle.fz_head.proofs.Ranges.{Between, map_same}
use Rattle.fz_head.proofs.SaidCards.{position-step}
use Rattle.fz_head.proofs.SaidPlans.{is-bitpix}
use Rattle.fz_head.proofs.SingleCards.{integer_of-packed_card}

-- what was found has an index, and what was not has none
some-mapped : (o : Option ℕ) → is_some o ≡ true → is_some (option_map suc o) ≡ true
some-mapped None e = e
some-mapped (Some i) e = refl

pub found-index : {X : Type 0} (has : X → Bool) (xs : List X) (x : X) → find has xs ≡ Some x → is_some (position has xs) ≡ true
found-index has [] x e = cc
found-index has (y ∷ ys) x e = ap is_some (position-step has y ys) ∙ by_test (has y) e (λ h. found-index has ys x h)
  where
    by_test : (b : Bool) → cond b (Some y) (find has ys) ≡ Some x → (find has ys ≡ Some x → is_some (position has ys) ≡ true) → is_some (cond b (Some 0) (option_map suc (position has ys))) ≡ true
    by_test true h rest = refl
    by_test false h rest = some-mapped (position has ys) (rest h)

pub none-position : {X : Type 0} (has : X → Bool) (xs : List X) → AllByRecursion (λ x. has x ≡ false) xs → position has xs ≡ None
none-position has [] none = refl
none-position has (x ∷ xs) none =
    position-step has x xs ∙ (ap (λ b. cond b (Some 0) (option_map suc (position has xs))) none.0 ∙ ap (option_map suc) (none-position has xs none.1))

pub not-none : {X : Type 0} (o : Option X) → is_some o ≡ true → is_none o ≡ false
not-none None e = cc
not-none (Some x) e = refl

-- a codec by its name
codec-known : (c : Codec) → is_codec_name (Some (codec_name c)) ≡ true
codec-known (Rice block bytepix) = refl
codec-known Plio = refl
codec-known Plain = refl

-- the bits of a pixel
bits-said : (o : Option ℤ) (v : ℤ) → v ≡ unwrap_or o (pos 0) → is_integer_size (Some v) ≡ true → o ≡ Some v
bits-said None v e size = let zero_size : is_integer_size (Some (pos 0)) ≡ true = ap (λ b. is_integer_size (Some b)) (sym e) ∙ size in cc
bits-said (Some w) v e size = ap Some (sym e)

no-float : (v : ℤ) → IsBitpix v → (is_integer (negsuc 31) (Some v) || is_integer (negsuc 63) (Some v)) ≡ false
no-float v (inl e) = ap (λ b. is_integer (negsuc 31) (Some b) || is_integer (negsuc 63) (Some b)) e
no-float v (inr (inl e)) = ap (λ b. is_integer (negsuc 31) (Some b) || is_integer (negsuc 63) (Some b)) e
no-float v (inr (inr (inl e))) = ap (λ b. is_integer (negsuc 31) (Some b) || is_integer (negsuc 63) (Some b)) e
no-float v (inr (inr (inr e))) = ap (λ b. is_integer (negsuc 31) (Some b) || is_integer (negsuc 63) (Some b)) e

-- the entries of a list, by their numbers from 1 on
entries-from : (xs : List ℕ) (a : ℕ) → map (λ i. get_or xs (i - (1 + a)) 0) (range_with_len (1 + a) (length xs)) ≡ xs
entries-from [] a = refl
entries-from (x ∷ xs) a =
    let first : 1 + a - (1 + a) ≡ 0 = omega arith in
    let on : 1 + a + 1 ≡ 1 + (a + 1) = omega arith in
    ap (λ k. get_or (x ∷ xs) k 0 ∷ map (λ i. get_or (x ∷ xs) (i - (1 + a)) 0) (range_with_len (1 + a + 1) (length xs))) first
    ∙ ap (λ l. x ∷ l)
    (ap (λ k. map (λ i. get_or (x ∷ xs) (i - (1 + a)) 0) (range_with_len k (length xs))) on
    ∙ (map_same (λ i. get_or (x ∷ xs) (i - (1 + a)) 0) (λ i. get_or xs (i - (1 + (a + 1))) 0) (1 + (a + 1)) (length xs)
    (λ i low high. let step : i - (1 + a) ≡ suc (i - (1 + (a + 1))) = omega arith in ap (λ k. get_or (x ∷ xs) k 0) step)
    ∙ entries-from xs (a + 1)))

map-shift : {X : Type 0} (f g : ℕ → X) (a b n : ℕ) → ((i : ℕ) → i < n → f (a + i) ≡ g (b + i)) → map f (range_with_len a n) ≡ map g (range_with_len b n)
map-shift f g a b zero same = refl
map-shift f g a b (suc n) same =
    let here : a + 0 ≡ a = omega arith in
    let there : b + 0 ≡ b = omega arith in
    ap (λ x. x ∷ map f (range_with_len (a + 1) n)) (ap f (sym here) ∙ (same 0 (omega arith) ∙ ap g there))
    ∙ ap (λ xs. g b ∷ xs) (map-shift f g (a + 1) (b + 1) n (λ i below.
    let ea : a + 1 + i ≡ a + suc i = omega arith in
    let eb : b + suc i ≡ b + 1 + i = omega arith in
    ap f ea ∙ (same (suc i) (omega arith) ∙ ap g eb)))

-- checks of numbers, one after another
clear-flat : (checks : ℕ → List (Bool × Fault)) (a n : ℕ) → Between a n (λ i. AreClear (checks i)) → AreClear (flat_map checks (range_with_len a n))
clear-flat checks a zero all = tt
clear-flat checks a (suc n) all = clear-append (checks a) (flat_map checks (range_with_len (a + 1) n)) (all a (omega arith) (omega arith)) (clear-flat checks (a + 1) n (λ i low high. all i (omega arith) (omega arith)))

-- by the laws of cards
module _ (laws : CardLaws) where
  module _ (header : List ℕ) (k : ℕ) (primary : Bool) (n last : ℕ) (p : Plan) (s : Totals) (sums : List (List ℕ)) (is : IsPacked header primary n last (made_cards p s) sums) where
    abbrev C : List (List ℕ)
    C = whole header last (made_cards p s) sums

    -- what stands there
    pub stands : (name card : List ℕ) → find (has_name name) C ≡ Some card → is_some (index_of name C) ≡ true
    stands name card found = found-index (has_name name) C card found

    pub there : (name card : List ℕ) → find (has_name name) C ≡ Some card → is_none (index_of name C) ≡ false
    there name card found = not-none (index_of name C) (stands name card found)

    pub card-said : (name card : List ℕ) → find (has_name name) C ≡ Some card → the_card name C ≡ card
    card-said name card found = ap (λ o. unwrap_or o []) found

    -- the codec
    pub codec-said : said_codec C ≡ Some (codec_name p.codec)
    codec-said =
        ap text_of (card-said (padded (codes "ZCMPTYPE")) _ (zcmptype-found p s (map packed_card (map (card_at header) (range_with_len 0 last)) ++ sums)))
        ∙ text-says laws (padded (codes "ZCMPTYPE")) (codec_name p.codec) refl (codec-text p.codec)

    pub codec-clear : AreClear (codec_checks k C)
    codec-clear = (
      there (padded (codes "ZCMPTYPE")) _ (zcmptype-found p s (map packed_card (map (card_at header) (range_with_len 0 last)) ++ sums)),
      (ap is_none codec-said, (ap (λ t. not (is_codec_name t)) codec-said ∙ ap not (codec-known p.codec), tt)),
    )

    -- an integer of a mandatory card
    kept-integer : (name : List ℕ) (i : ℕ) → i < last → find (has_name name) C ≡ Some (packed_card (card_at header i)) → integer_of (the_card name C) ≡ integer_of (card_at header i)
    kept-integer name i before found = ap integer_of (card-said name _ found) ∙ integer_of-packed_card laws (card_at header i) (is_free laws header primary n last is.image i before).eight

    bitpix-found : find (has_name (padded (codes "ZBITPIX"))) C ≡ Some (packed_card (card_at header 1))
    bitpix-found = found_named laws header primary n last (made_cards p s) sums is (padded (codes "BITPIX")) (padded (codes "ZBITPIX")) 1 bitpix-pair (omega (arith, is.enough)) (At_bitpix refl) is.image.front.bitpix

    naxis-found : find (has_name (padded (codes "ZNAXIS"))) C ≡ Some (packed_card (card_at header 2))
    naxis-found = found_named laws header primary n last (made_cards p s) sums is (padded (codes "NAXIS")) (padded (codes "ZNAXIS")) 2 naxis-pair (omega (arith, is.enough)) (At_naxis refl) is.image.front.naxis

    axis-found : (i : ℕ) → 1 ≤ i → i ≤ n → find (has_name (numbered_name (codes "ZNAXIS") i)) C ≡ Some (packed_card (card_at header (2 + i)))
    axis-found i low high =
        found_named laws header primary n last (made_cards p s) sums is (numbered_name (codes "NAXIS") i) (numbered_name (codes "ZNAXIS") i) (2 + i) (axis-pair laws i low (omega (arith, is.image.front.few))) (omega (arith, is.enough)) (At_axis i low high refl) (is.image.front.axis i low high)

    -- the bits of a pixel
    module _ (bits : p.bitpix ≡ unwrap_or (integer_of (card_at header 1)) (pos 0)) (size : is_integer_size (Some p.bitpix) ≡ true) (long : p.bitpix ≡ pos 64 → p.codec ≡ Plain) where
      bits-are : integer_of (word_in (codes "ZBITPIX") C) ≡ Some p.bitpix
      bits-are = kept-integer (padded (codes "ZBITPIX")) 1 (omega (arith, is.enough)) bitpix-found ∙ bits-said (integer_of (card_at header 1)) p.bitpix bits size

      pub bitpix-said : said_bitpix C ≡ p.bitpix
      bitpix-said = ap (λ o. unwrap_or o (pos 0)) bits-are

      stored-long : (v : ℤ) → IsBitpix v → (v ≡ pos 64 → p.codec ≡ Plain) → (is_integer (pos 64) (Some v) && not (is_plain_name (Some (codec_name p.codec)))) ≡ false
      stored-long v (inl e) plain = ap (λ b. is_integer (pos 64) (Some b) && not (is_plain_name (Some (codec_name p.codec)))) e
      stored-long v (inr (inl e)) plain = ap (λ b. is_integer (pos 64) (Some b) && not (is_plain_name (Some (codec_name p.codec)))) e
      stored-long v (inr (inr (inl e))) plain = ap (λ b. is_integer (pos 64) (Some b) && not (is_plain_name (Some (codec_name p.codec)))) e
      stored-long v (inr (inr (inr e))) plain = and_right (is_integer (pos 64) (Some v)) (not (is_plain_name (Some (codec_name p.codec)))) (ap (λ c. not (is_plain_name (Some (codec_name c)))) (plain e))

      pub bitpix-clear : AreClear (bitpix_checks k C)
      bitpix-clear =
          let bitpix : IsBitpix p.bitpix = is-bitpix (Some p.bitpix) size in (
            there (padded (codes "ZBITPIX")) _ bitpix-found,
            (
              ap (λ o. is_integer (negsuc 31) o || is_integer (negsuc 63) o) bits-are ∙ no-float p.bitpix bitpix,
              (
                ap (λ o. not (is_integer_size o)) bits-are ∙ ap not size,
                (ap (λ o. is_integer (pos 64) o && not (is_plain_name (said_codec C))) bits-are ∙ (ap (λ t. is_integer (pos 64) (Some p.bitpix) && not (is_plain_name t)) codec-said ∙ stored-long p.bitpix bitpix long), tt),
              ),
            ),
          )

    -- the axes and the tile
    module _ (own : ℕ) (values : HasValues header own n) (shape : p.shape ≡ nine_axes (axes_of header)) (divided : IsDivided p.shape p.tile) where
      count : p.shape.n ≡ n
      count = ap (λ (a : Axes). a.n) shape ∙ (length-map-range_with_len (size_at header) 3 (size_at header 2) ∙ sym is.count)

      said-count : axis_count C ≡ n
      said-count = count-is laws header primary n last (made_cards p s) sums is

      axis-integer : (i : ℕ) → 1 ≤ i → i ≤ n → integer_of (numbered_in (codes "ZNAXIS") i C) ≡ integer_of (card_at header (2 + i))
      axis-integer i low high = kept-integer (numbered_name (codes "ZNAXIS") i) (2 + i) (omega (arith, is.enough)) (axis-found i low high)

      axis-size : (i : ℕ) → 1 ≤ i → i ≤ n → size_of (numbered_in (codes "ZNAXIS") i C) ≡ size_at header (2 + i)
      axis-size i low high = ap size_in (axis-integer i low high)

      entry : (i : ℕ) → 1 ≤ i → i ≤ n → get_or p.shape.len (i - 1) 0 ≡ size_at header (2 + i)
      entry i low high =
          let long : length (axes_of header) ≡ n = length-map-range_with_len (size_at header) 3 (size_at header 2) ∙ sym is.count in
          ap (λ (a : Axes). get_or a.len (i - 1) 0) shape
          ∙ (nine-entry (axes_of header) (i - 1) (omega arith)
          ∙ get_or-map-range_with_len (size_at header) 3 (size_at header 2) (i - 1) (2 + i) 0 (omega (arith, is.count)) (omega arith))

      pub axes-said : said_axes C ≡ lengths_of p.shape
      axes-said =
          ap (λ m. map (λ i. size_of (numbered_in (codes "ZNAXIS") i C)) (range_with_len 1 m)) said-count
          ∙ (map-shift (λ i. size_of (numbered_in (codes "ZNAXIS") i C)) (size_at header) 1 3 n
          (λ i below. let place : 2 + (1 + i) ≡ 3 + i = omega arith in axis-size (1 + i) (omega arith) (omega arith) ∙ ap (size_at header) place)
          ∙ (ap (λ m. map (size_at header) (range_with_len 3 m)) is.count ∙ sym (ap lengths_of shape ∙ lengths-nine_axes (axes_of header))))

      -- each axis has a place, and is not too long
      axis-some : (i : ℕ) → 1 ≤ i → i ≤ n → 1 ≤ size_at header (2 + i)
      axis-some i low high = let one = divided.positive (i - 1) (omega (arith, count)) in let two = divided.inside (i - 1) (omega (arith, count)) in omega (arith, one, two, entry i low high)

      count-clear : AreClear (axis_count_checks k C)
      count-clear = (
        there (padded (codes "ZNAXIS")) _ naxis-found,
        (
          ap (λ o. not (is_positive o)) (kept-integer (padded (codes "ZNAXIS")) 2 (omega (arith, is.enough)) naxis-found)
              ∙ ap not (positive-size (integer_of (card_at header 2)) values.naxis (omega (arith, is.count, divided.some, count))),
          (le-ltb 9 (axis_count C) (omega (arith, said-count, is.image.front.few)), tt),
        ),
      )

      axis-clear : (i : ℕ) → 1 ≤ i → i ≤ n → AreClear (axis_checks k C i)
      axis-clear i low high = (
        there (numbered_name (codes "ZNAXIS") i) _ (axis-found i low high),
        (
          ap (λ o. not (is_positive o)) (axis-integer i low high) ∙ ap not (positive-size (integer_of (card_at header (2 + i))) (values.axis i low high) (axis-some i low high)),
          (le-ltb 2147483647 (size_of (numbered_in (codes "ZNAXIS") i C)) (omega (arith, axis-size i low high, values.short i low high)), tt),
        ),
      )

      -- the tile
      module _ (L : List ℕ) (tile : p.tile ≡ nine_axes L) where
        length-tile : length L ≡ n
        length-tile = sym (ap (λ (a : Axes). a.n) tile) ∙ (divided.same_axes ∙ count)

        tile-entry : (i : ℕ) → 1 ≤ i → i ≤ n → get_or p.tile.len (i - 1) 0 ≡ get_or L (i - 1) 0
        tile-entry i low high = ap (λ (a : Axes). get_or a.len (i - 1) 0) tile ∙ nine-entry L (i - 1) (omega (arith, length-tile))

        pub tile-inside : (i : ℕ) → 1 ≤ i → i ≤ n → get_or p.tile.len (i - 1) 0 ≤ size_at header (2 + i)
        tile-inside i low high = let two = divided.inside (i - 1) (omega (arith, count)) in omega (arith, two, entry i low high)

        ztile : (i : ℕ) → 1 ≤ i → i ≤ n → find (has_name (numbered_name (codes "ZTILE") i)) C ≡ Some (tile_card p i)
        ztile i low high = ztile-found laws p s (map packed_card (map (card_at header) (range_with_len 0 last)) ++ sums) i (omega (arith, divided.axes)) low (omega (arith, count))

        ztile-says : (i : ℕ) → 1 ≤ i → i ≤ n → integer_of (numbered_in (codes "ZTILE") i C) ≡ Some (pos (get_or p.tile.len (i - 1) 0))
        ztile-says i low high =
            ap integer_of (card-said (numbered_name (codes "ZTILE") i) _ (ztile i low high))
            ∙ number-says laws (numbered_name (codes "ZTILE") i) (get_or p.tile.len (i - 1) 0) (laws.numbers.eight_bytes (codes "ZTILE") i (omega arith, omega (arith, is.image.front.few))) (omega (arith, tile-inside i low high, values.short i low high))

        along : (i : ℕ) → 1 ≤ i → i ≤ n → tile_along C i ≡ get_or L (i - 1) 0
        along i low high =
            let axis = size_of (numbered_in (codes "ZNAXIS") i C) in
            let smaller : min (get_or p.tile.len (i - 1) 0) (size_at header (2 + i)) ≡ get_or p.tile.len (i - 1) 0 = omega (arith, tile-inside i low high) in
            ap (λ b. cond b (min (size_of (numbered_in (codes "ZTILE") i C)) axis) (default_tile i axis)) (stands (numbered_name (codes "ZTILE") i) _ (ztile i low high))
            ∙ (ap (λ o. min (size_in o) axis) (ztile-says i low high)
            ∙ (ap (min (get_or p.tile.len (i - 1) 0)) (axis-size i low high) ∙ (smaller ∙ tile-entry i low high)))

        pub tile-said : said_tile C ≡ lengths_of p.tile
        tile-said =
            ap (λ m. map (tile_along C) (range_with_len 1 m)) said-count
            ∙ (map_same (tile_along C) (λ i. get_or L (i - 1) 0) 1 n (λ i low high. along i low (omega arith))
            ∙ (ap (λ m. map (λ i. get_or L (i - 1) 0) (range_with_len 1 m)) (sym length-tile)
            ∙ (entries-from L 0 ∙ sym (ap lengths_of tile ∙ lengths-nine_axes L))))

        tile-clear : (i : ℕ) → 1 ≤ i → i ≤ n → AreClear (tile_check k C i ∷ [])
        tile-clear i low high = (
          and_right (is_some (index_of (numbered_name (codes "ZTILE") i) C)) (not (is_positive (integer_of (numbered_in (codes "ZTILE") i C))))
              (ap (λ o. not (is_positive o)) (ztile-says i low high) ∙ ap not (lt-ltb 0 (get_or p.tile.len (i - 1) 0) (divided.positive (i - 1) (omega (arith, count))))),
          tt,
        )

        grid-clear : AreClear (grid_check k C ∷ [])
        grid-clear =
            let pixels : product (said_axes C) ≤ 2 ^ 40 = subst (λ l. product l ≤ 2 ^ 40) (sym axes-said) divided.pixels in
            let tile_pixels : product (said_tile C) ≤ 2 ^ 26 = subst (λ l. product l ≤ 2 ^ 26) (sym tile-said) divided.tile_pixels in
            let tiles : tile_count (lengths_of p.shape) (lengths_of p.tile) ≤ 2147483647 = omega (arith, divided.tiles) in
            let rows : tile_count (said_axes C) (said_tile C) ≤ 2147483647 = subst (λ l. tile_count l (said_tile C) ≤ 2147483647) (sym axes-said) (subst (λ l. tile_count (lengths_of p.shape) l ≤ 2147483647) (sym tile-said) tiles) in (
              or_false (nat_lt (2 ^ 40) (product (said_axes C))) _ (le-ltb (2 ^ 40) (product (said_axes C)) pixels)
                  (or_false (nat_lt (2 ^ 26) (product (said_tile C))) _ (le-ltb (2 ^ 26) (product (said_tile C)) tile_pixels) (le-ltb 2147483647 (tile_count (said_axes C) (said_tile C)) rows)),
              tt,
            )

        pub shape-clear : AreClear (shape_checks k C)
        shape-clear =
            clear-append (axis_count_checks k C) _ count-clear
            (clear-append (flat_map (axis_checks k C) (range_with_len 1 (axis_count C))) _
            (subst (λ m. AreClear (flat_map (axis_checks k C) (range_with_len 1 m))) (sym said-count) (clear-flat (axis_checks k C) 1 n (λ i low high. axis-clear i low (omega arith))))
            (clear-append (flat_map (λ i. tile_check k C i ∷ []) (range_with_len 1 (axis_count C))) _
            (subst (λ m. AreClear (flat_map (λ i. tile_check k C i ∷ []) (range_with_len 1 m))) (sym said-count) (clear-flat (λ i. tile_check k C i ∷ []) 1 n (λ i low high. tile-clear i low (omega arith))))
            grid-clear))
