-- How many bytes an HDU stands for: the image of a packed table, or itself (FITS 4.0, sections 3.1, 3.3.2 and 4.4.1).
use Rattle.std.proofs.Common.{◌≡◌, ℕ, ◌+◌, ◌-◌, ◌*◌, ◌<◌, inl, inr, ℤ, pos, unsigned_abs, List, ◌++◌, length, map, replicate, codes, refl, ap, arith}
use Rattle.std.specs.List.{flat_map, range_with_len}
use Rattle.std.proofs.lemmas.List.{length-append}
use Rattle.fz_block.specs.Hdus.{header_bytes}
use Rattle.fz_block.specs.Header.{whole_blocks_of}
use Rattle.fz_block.specs.declared.header.Header.{Header}
use Rattle.fz_grid.specs.Arrays.{IsArray}
use Rattle.fz_grid.specs.Laws.{JoinedIsArray}
use Rattle.fz_grid.specs.Region.{lengths_of}
use Rattle.fz_grid.specs.Whole.{joined}
use Rattle.fz_tile.specs.Pixels.{IsBitpix}
use Rattle.fz_files.specs.Packed.{tiles_in}
use Rattle.fz_files.specs.Restored.{plan_in}
use Rattle.fz_files.specs.RestoredFile.{image_array, tile_pixels}

-- a header has at least the letters END
pub some_header : (cards : List (List ℕ)) → 0 < length (header_bytes cards)
some_header cards =
    let text : List ℕ = flat_map (λ (c : List ℕ). c) cards ++ codes "END" in
    let all : length (header_bytes cards) ≡ length text + length (replicate {A = ℕ} (whole_blocks_of (80 * (length cards + 1)) - length text) 32) =
    length-append text (replicate (whole_blocks_of (80 * (length cards + 1)) - length text) 32) in
    let end : length text ≡ length (flat_map (λ (c : List ℕ). c) cards) + 3 = length-append (flat_map (λ (c : List ℕ). c) cards) (codes "END") in
    omega (arith, all, end)

pub bits_of : (bitpix : ℤ) → IsBitpix bitpix → IsBitpix (pos (unsigned_abs bitpix))
bits_of bitpix (inl is) = inl (ap (λ b. pos (unsigned_abs b)) is)
bits_of bitpix (inr (inl is)) = inr (inl (ap (λ b. pos (unsigned_abs b)) is))
bits_of bitpix (inr (inr (inl is))) = inr (inr (inl (ap (λ b. pos (unsigned_abs b)) is)))
bits_of bitpix (inr (inr (inr is))) = inr (inr (inr (ap (λ b. pos (unsigned_abs b)) is)))

module _ (g : List ℕ) (h : Header) where
  -- ---- an image

  pub array_lengths : (image_array g h).lengths ≡ lengths_of (plan_in g h).shape
  unfolding joined
  array_lengths = refl

  pub array_whole : JoinedIsArray → IsArray (image_array g h)
  array_whole law = law (lengths_of (plan_in g h).shape) (lengths_of (plan_in g h).tile) (map (tile_pixels g h) (range_with_len 0 (tiles_in (plan_in g h))))
