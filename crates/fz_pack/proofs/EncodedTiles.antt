-- The tiles of a round, encoded.
use Rattle.std.proofs.Common.{◌≡◌, ℕ, suc, ◌+◌, ◌*◌, ◌≤◌, ℤ, pos, List, [], ◌∷◌, length, map, take, replicate, ⊎_elim, Option, Some, None, IfSome, refl, sym, ap, ◌∙◌, subst, arith}
use Rattle.std.specs.Prelude.{unsigned_abs}
use Rattle.std.proofs.lemmas.List.{length-map, length-take-le}
use Rattle.fz_tile.specs.Codecs.{CanWrite}
use Rattle.fz_tile.specs.Laws.{FillsColumn}
use Rattle.fz_tile.specs.Pixels.{IsBitpix}
use Rattle.fz_tile.specs.TileCode.{AreElements, tile_code}
use Rattle.fz_files.specs.Packed.{pixel_bits}
use Rattle.fz_pool.specs.Calls.{AreEncoded}
use Rattle.fz_pool.specs.Laws.{AreAsMany, EncodesTiles}
use Rattle.fz_pool.specs.Round.{coded_tile, coded_tiles}
use Rattle.fz_pool.specs.Window.{Pool, slot_sizes}
use Rattle.fz_image.specs.Layout.{IsLayout}
use Rattle.fz_image.specs.Tiles.{AreCodesFrom, AreEncodedTiles, AreLoaded, HaveTheirPixels, codes_from, tiles_from}
use Rattle.fz_image.specs.declared.layout.Layout.{Layout}

-- the bits of a pixel as BITPIX
positive : (b : ℤ) → IsBitpix b → b ≡ pos (unsigned_abs b)
positive b is = ⊎_elim
    (λ (e : b ≡ pos 8). subst (λ (z : ℤ). z ≡ pos (unsigned_abs z)) (sym e) refl)
    (⊎_elim
    (λ (e : b ≡ pos 16). subst (λ (z : ℤ). z ≡ pos (unsigned_abs z)) (sym e) refl)
    (⊎_elim
    (λ (e : b ≡ pos 32). subst (λ (z : ℤ). z ≡ pos (unsigned_abs z)) (sym e) refl)
    (λ (e : b ≡ pos 64). subst (λ (z : ℤ). z ≡ pos (unsigned_abs z)) (sym e) refl)))
    is

-- what is written for tiles fills their column
codes_are : (l : Layout) (t : ℕ) (tiles : List (List ℤ)) → FillsColumn → CanWrite l.plan.codec (pos (pixel_bits l.plan)) → HaveTheirPixels l t tiles → AreCodesFrom l t (map (tile_code l.plan.codec (pixel_bits l.plan)) tiles)
codes_are l t [] fills can have = tt
codes_are l t (xs ∷ tiles) fills can have =
    (subst (λ n. AreElements l.plan.codec (pixel_bits l.plan) n (tile_code l.plan.codec (pixel_bits l.plan) xs)) have.0 (fills l.plan.codec (pixel_bits l.plan) xs can have.1 have.2), codes_are l (suc t) tiles fills can have.3)

module _ (l : Layout) (held : Option (List ℕ)) (t count : ℕ) (was now : Pool) (is : IsLayout l) (as_many : AreAsMany) (encodes : EncodesTiles) (fills : FillsColumn) (room : (n : ℕ) × (slot_sizes now.slots ≡ replicate (2 * now.workers) (2 * n, 8 * n + 64))) (near : count ≤ 2 * now.workers) (loaded : AreLoaded l held t count was) (encoded : AreEncoded count was.slots now.slots) where
  slots : length now.slots ≡ 2 * now.workers
  slots = as_many now.slots (2 * now.workers) (2 * room.0, 8 * room.0 + 64) room.1

  codes : coded_tiles count now.slots ≡ map (tile_code l.plan.codec (pixel_bits l.plan)) loaded.tiles
  codes =
      ap (λ n. coded_tiles n now.slots) (sym loaded.count_is)
      ∙ encodes l.plan.codec (pixel_bits l.plan) loaded.tiles was.slots now.slots (omega (arith, loaded.count_is, slots, near)) loaded.hold (subst (λ n. AreEncoded n was.slots now.slots) (sym loaded.count_is) encoded)

  told_codes : (h : Option (List ℕ)) → IfSome h (λ file. loaded.tiles ≡ tiles_from l file t count) → IfSome h (λ file. coded_tiles count now.slots ≡ codes_from l file t count)
  told_codes None told = tt
  told_codes (Some file) told = codes ∙ ap (map (tile_code l.plan.codec (pixel_bits l.plan))) told

  pub encoded_tiles : AreEncodedTiles l held t count now
  encoded_tiles = record {
    filled = slots;
    lens = λ i d low. ((encoded i d low).written (loaded.ready i d low).hold.0 (loaded.ready i d low).hold.1).within;
    number = length-map (take count now.slots) coded_tile ∙ length-take-le count now.slots (omega (arith, slots, near));
    each = subst (AreCodesFrom l t) (sym codes) (codes_are l t loaded.tiles fills (subst (CanWrite l.plan.codec) (positive l.plan.bitpix is.plan.writable.size) is.plan.writable) loaded.pixels);
    told = told_codes held loaded.told;
  }
