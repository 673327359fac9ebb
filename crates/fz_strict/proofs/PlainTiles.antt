-- The tiles of the array for which the rows of a packed image stand, as those of a plain file.
use Rattle.std.specs.Prelude.{unsigned_abs}
use Rattle.std.proofs.Common.{◌≡◌, ℕ, zero, suc, ◌+◌, ◌<◌, ◌≤◌, inl, inr, ℤ, pos, List, [], ◌∷◌, ◌++◌, length, map, drop, replicate, refl, sym, ap, ◌∙◌, subst, arith}
use Rattle.std.specs.List.{range_with_len}
use Rattle.std.proofs.Math.Seq.{drop-append_seam}
use Rattle.std.proofs.lemmas.List.{length-replicate}
use Rattle.std.proofs.lemmas.List.FromFn.{length-map-range_with_len}
use Rattle.fz_block.specs.declared.header.Header.{Header}
use Rattle.fz_files.specs.Packed.{array_of, pixel_bits, tile_codes, tiles_in}
use Rattle.fz_files.specs.Restored.{RowStandsFor, RowsStandFor, header_in, pixels_of as tile_pixels, plan_in}
use Rattle.fz_grid.specs.Arrays.{NumberArray, product}
use Rattle.fz_grid.specs.Grid.{tile}
use Rattle.fz_grid.specs.Laws.{TilesHaveAPixel, TilesHaveAtMostTheirLengths}
use Rattle.fz_grid.specs.Region.{lengths_of}
use Rattle.fz_checks.specs.JobChecks.{IsImageOf, image_in}
use Rattle.fz_head.specs.declared.plan.Plan.{Plan}
use Rattle.fz_image.specs.Layout.{IsLayout}
use Rattle.fz_image.specs.Tiles.{AreCodesFrom, codes_from, image_in as image_of, pixels_of, tile_in}
use Rattle.fz_image.specs.declared.layout.Layout.{Layout}
use Rattle.fz_tile.specs.Codecs.{CanWrite}
use Rattle.fz_tile.specs.Laws.{FillsColumn}
use Rattle.fz_tile.specs.Pixels.{IsBitpix}
use Rattle.fz_tile.specs.TileCode.{AreElements, tile_code}
use Rattle.fz_compare.specs.Compared.{RowsStandForTiles}
use Rattle.fz_strict.specs.SameHdus.{plain_image}
use Rattle.fz_strict.proofs.Packs.{PixelLaws, array_is}

-- what is taken of the laws of tiles
pub record TileLaws : Type 0 where
  pub pixels : PixelLaws
  pub some : TilesHaveAPixel
  pub most : TilesHaveAtMostTheirLengths
  pub fills : FillsColumn

both_maps : {A B C : Type 0} (f : B → C) (g : A → B) (xs : List A) → map f (map g xs) ≡ map (λ x. f (g x)) xs
both_maps f g [] = refl
both_maps f g (x ∷ xs) = ap (λ l. f (g x) ∷ l) (both_maps f g xs)

-- the bits of a pixel as BITPIX
positive : (b : ℤ) → IsBitpix b → b ≡ pos (unsigned_abs b)
positive b (inl e) = subst (λ (z : ℤ). z ≡ pos (unsigned_abs z)) (sym e) refl
positive b (inr (inl e)) = subst (λ (z : ℤ). z ≡ pos (unsigned_abs z)) (sym e) refl
positive b (inr (inr (inl e))) = subst (λ (z : ℤ). z ≡ pos (unsigned_abs z)) (sym e) refl
positive b (inr (inr (inr e))) = subst (λ (z : ℤ). z ≡ pos (unsigned_abs z)) (sym e) refl

module _ (laws : TileLaws) (file : List ℕ) (h : Header) (image : IsImageOf (header_in file h) h (image_in h (header_in file h))) (a : NumberArray) (rows : RowsStandFor file h a) (l : Layout) (is : IsLayout l) (plan : l.plan ≡ plan_in file h) where
  abbrev p : Plan
  p = plan_in file h

  -- a plain file whose image this is
  abbrev pub u : List ℕ
  u = replicate l.pixels_at 0 ++ (plain_image file h a).payload

  data_there : drop l.pixels_at u ≡ (plain_image file h a).payload
  data_there = ap (λ n. drop n u) (sym (length-replicate l.pixels_at 0)) ∙ drop-append_seam (replicate l.pixels_at 0) (plain_image file h a).payload

  image_is : image_of l u ≡ a
  image_is = (λ i. array_of (plan i) (data_there i)) ∙ array_is laws.pixels file h image a rows

  tile_is : (t : ℕ) → tile_in l u t ≡ tile a (lengths_of p.tile) t
  tile_is t = λ i. tile (image_is i) (lengths_of (plan i).tile) t

  count_is : l.tiles ≡ tiles_in p
  count_is = is.tiles ∙ ap tiles_in plan

  pub plain_stands : RowsStandForTiles file h l u
  plain_stands t low = subst (RowStandsFor file h t) (sym (tile_is t)) (rows.tiles t (omega (arith, low, count_is)))

  pub plain_codes : codes_from l u 0 l.tiles ≡ tile_codes p a
  unfolding tile_codes
  plain_codes =
      both_maps (tile_code l.plan.codec (pixel_bits l.plan)) (tile_in l u) (range_with_len 0 l.tiles)
      ∙ (λ i. map (λ t. tile_code (plan i).codec (pixel_bits (plan i)) (tile_is t i)) (range_with_len 0 (count_is i)))

  pub codes_count : length (tile_codes p a) ≡ l.tiles
  unfolding tile_codes
  codes_count = length-map-range_with_len (λ t. tile_code p.codec (pixel_bits p) (tile a (lengths_of p.tile) t)) 0 (tiles_in p) ∙ sym count_is

  can_write : CanWrite p.codec (pos (pixel_bits p))
  can_write =
      let can : CanWrite p.codec p.bitpix = subst (λ (q : Plan). CanWrite q.codec q.bitpix) plan is.plan.writable in
      subst (CanWrite p.codec) (positive p.bitpix can.size) can

  one_code : (t : ℕ) → t < tiles_in p → AreElements l.plan.codec (pixel_bits l.plan) (pixels_of l t) (tile_code p.codec (pixel_bits p) (tile a (lengths_of p.tile) t))
  one_code t low =
      let xs : List ℤ = tile a (lengths_of p.tile) t in
      let divides = laws.pixels.tiles p.shape p.tile image.divided in
      let count : length xs ≡ tile_pixels p t = (rows.tiles t low).count in
      let some : 1 ≤ tile_pixels p t = laws.some (lengths_of p.shape) (lengths_of p.tile) t divides low in
      let most : tile_pixels p t ≤ product (lengths_of p.tile) = laws.most (lengths_of p.shape) (lengths_of p.tile) t divides.axes in
      let elements : AreElements p.codec (pixel_bits p) (length xs) (tile_code p.codec (pixel_bits p) xs) =
      laws.fills p.codec (pixel_bits p) xs can_write (omega (arith, count, some)) (omega (arith, count, most, image.divided.tile_pixels)) in
      subst (λ (q : Plan). AreElements q.codec (pixel_bits q) (tile_pixels q t) (tile_code p.codec (pixel_bits p) xs)) (sym plan)
      (subst (λ m. AreElements p.codec (pixel_bits p) m (tile_code p.codec (pixel_bits p) xs)) count elements)

  codes_each : (n t : ℕ) → t + n ≤ tiles_in p → AreCodesFrom l t (map (λ k. tile_code p.codec (pixel_bits p) (tile a (lengths_of p.tile) k)) (range_with_len t n))
  codes_each zero t few = tt
  codes_each (suc n) t few =
      let next : t + 1 ≡ suc t = omega arith in
      (one_code t (omega (arith, few)), subst (λ k. AreCodesFrom l (suc t) (map (λ j. tile_code p.codec (pixel_bits p) (tile a (lengths_of p.tile) j)) (range_with_len k n))) (sym next) (codes_each n (suc t) (omega (arith, few))))

  pub codes_of_plain : AreCodesFrom l 0 (tile_codes p a)
  unfolding tile_codes
  codes_of_plain = codes_each (tiles_in p) 0 (omega arith)
