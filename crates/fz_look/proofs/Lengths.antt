-- How many bytes an HDU stands for: the image of a packed table, or itself (FITS 4.0, sections 3.1, 3.3.2 and 4.4.1).
use Rattle.std.proofs.Common.{◌≡◌, ℕ, ◌+◌, ◌-◌, ◌*◌, ◌/◌, ◌≤◌, inl, inr, ℤ, pos, unsigned_abs, Bool, true, false, if◌then◌else◌, List, length, map, take, drop, replicate, refl, ap, ◌∙◌, arith}
use Rattle.std.specs.List.{range_with_len}
use Rattle.std.proofs.lemmas.List.{length-append, length-drop, length-replicate, length-take}
use Rattle.fz_block.specs.Hdus.{cards_of, hdu_bytes, header_bytes}
use Rattle.fz_block.specs.Header.{data_start_of, next_start_of, whole_blocks_of}
use Rattle.fz_block.specs.Walk.{hdu_of}
use Rattle.fz_block.specs.declared.header.Header.{Header}
use Rattle.fz_grid.specs.Arrays.{IsArray, product}
use Rattle.fz_grid.specs.Laws.{JoinedIsArray}
use Rattle.fz_grid.specs.Region.{lengths_of}
use Rattle.fz_grid.specs.Whole.{joined}
use Rattle.fz_tile.specs.Laws.{HasPlainLen}
use Rattle.fz_tile.specs.Pixels.{IsBitpix}
use Rattle.fz_tile.specs.Plain.{plain_bytes}
use Rattle.fz_head.specs.PlainHeader.{plain_header}
use Rattle.fz_files.specs.Packed.{pixel_bits, tiles_in, zero_filled}
use Rattle.fz_files.specs.Restored.{header_in, image_bytes, is_image, plan_in}
use Rattle.fz_files.specs.RestoredFile.{image_array, restored_hdu, tile_pixels}

pub bits_of : (bitpix : ℤ) → IsBitpix bitpix → IsBitpix (pos (unsigned_abs bitpix))
bits_of bitpix (inl is) = inl (ap (λ b. pos (unsigned_abs b)) is)
bits_of bitpix (inr (inl is)) = inr (inl (ap (λ b. pos (unsigned_abs b)) is))
bits_of bitpix (inr (inr (inl is))) = inr (inr (inl (ap (λ b. pos (unsigned_abs b)) is)))
bits_of bitpix (inr (inr (inr is))) = inr (inr (inr (ap (λ b. pos (unsigned_abs b)) is)))

-- the fill goes to whole blocks
pub long_filled : (bytes : List ℕ) → length (zero_filled bytes) ≡ whole_blocks_of (length bytes)
long_filled bytes =
    let all : length (zero_filled bytes) ≡ length bytes + length (replicate {A = ℕ} (whole_blocks_of (length bytes) - length bytes) 0) =
    length-append bytes (replicate (whole_blocks_of (length bytes) - length bytes) 0) in
    omega (arith, all, length-replicate {A = ℕ} (whole_blocks_of (length bytes) - length bytes) 0)

module _ (g : List ℕ) (h : Header) where
  pub image_is : is_image g h ≡ true → restored_hdu g h ≡ image_bytes (plan_in g h) (cards_of (header_in g h)) (image_array g h)
  image_is is = ap (λ (b : Bool). if b then image_bytes (plan_in g h) (cards_of (header_in g h)) (image_array g h) else hdu_bytes (hdu_of g h)) is

  pub copy_is : is_image g h ≡ false → restored_hdu g h ≡ hdu_bytes (hdu_of g h)
  copy_is is = ap (λ (b : Bool). if b then image_bytes (plan_in g h) (cards_of (header_in g h)) (image_array g h) else hdu_bytes (hdu_of g h)) is

  -- ---- an HDU that is copied

  pub bytes_len : next_start_of h ≤ length g → length (hdu_bytes (hdu_of g h)) + h.start ≡ next_start_of h
  bytes_len within =
      let header : List ℕ = take (2880 * h.blocks) (drop h.start g) in
      let payload : List ℕ = take (whole_blocks_of h.data_len) (drop (data_start_of h) g) in
      omega (
        arith,
        within,
        length-append header payload,
        length-take (2880 * h.blocks) (drop h.start g),
        length-drop h.start g,
        length-take (whole_blocks_of h.data_len) (drop (data_start_of h) g),
        length-drop (data_start_of h) g,
      )

  pub copy_len : is_image g h ≡ false → next_start_of h ≤ length g → length (restored_hdu g h) + h.start ≡ next_start_of h
  copy_len is within = ap (λ (l : List ℕ). length l + h.start) (copy_is is) ∙ bytes_len within

  -- ---- an image

  pub array_lengths : (image_array g h).lengths ≡ lengths_of (plan_in g h).shape
  unfolding joined
  array_lengths = refl

  pub array_whole : JoinedIsArray → IsArray (image_array g h)
  array_whole law = law (lengths_of (plan_in g h).shape) (lengths_of (plan_in g h).tile) (map (tile_pixels g h) (range_with_len 0 (tiles_in (plan_in g h))))

  pub pixels_len : HasPlainLen → JoinedIsArray → IsBitpix (plan_in g h).bitpix →
      length (plain_bytes (pixel_bits (plan_in g h)) (image_array g h).numbers) ≡ pixel_bits (plan_in g h) / 8 * product (lengths_of (plan_in g h).shape)
  pixels_len len law size =
      len (pixel_bits (plan_in g h)) (image_array g h).numbers (bits_of (plan_in g h).bitpix size)
      ∙ ap (λ n. pixel_bits (plan_in g h) / 8 * n) (array_whole law ∙ ap product array_lengths)

  pub image_len : HasPlainLen → JoinedIsArray → is_image g h ≡ true → IsBitpix (plan_in g h).bitpix →
      length (restored_hdu g h) ≡ length (header_bytes (plain_header (cards_of (header_in g h)))) + whole_blocks_of (pixel_bits (plan_in g h) / 8 * product (lengths_of (plan_in g h).shape))
  image_len len law is size =
      let front : List ℕ = header_bytes (plain_header (cards_of (header_in g h))) in
      let bytes : List ℕ = plain_bytes (pixel_bits (plan_in g h)) (image_array g h).numbers in
      ap length (image_is is) ∙ length-append front (zero_filled bytes)
      ∙ ap (λ n. length front + n) (long_filled bytes ∙ ap whole_blocks_of (pixels_len len law size))
