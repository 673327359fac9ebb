-- What is left of a line of a box: where its bytes are in the band, and that they are plain bytes (FITS 4.0, sections 3.3.2 and 10.1).
use Rattle.std.proofs.Common.{◌≡◌, ℕ, ◌+◌, ◌-◌, ◌*◌, ◌/◌, ◌%◌, ◌<◌, ◌≤◌, inl, inr, ℤ, unsigned_abs, List, length, take, drop, sym, ap, ◌∙◌, subst, arith, mul_comm}
use Rattle.std.specs.Prelude.{slice_index}
use Rattle.std.proofs.lemmas.List.{take-take}
use Rattle.std.proofs.lemmas.Nat.{div_below}
use Rattle.fz_block.specs.declared.header.Header.{Header}
use Rattle.fz_grid.specs.Arrays.{coordinates_of, place_of, product}
use Rattle.fz_grid.specs.Laws.{JoinedIsArray}
use Rattle.fz_grid.specs.Region.{IsWithin, lengths_of, region_lengths}
use Rattle.fz_grid.specs.declared.region.Region.{Region}
use Rattle.fz_grid.specs.Cutout.{picked_numbers}
use Rattle.fz_tile.specs.Pixels.{IsBitpix}
use Rattle.fz_tile.specs.Plain.{plain_bytes}
use Rattle.fz_checks.specs.declared.job_checks.PackedImage.{PackedImage}
use Rattle.fz_head.specs.declared.plan.Plan.{Plan}
use Rattle.fz_files.specs.Packed.{pixel_bits}
use Rattle.fz_files.specs.Restored.{plan_in}
use Rattle.fz_files.specs.RestoredFile.{image_array}
use Rattle.fz_job.specs.Images.{IsReadable, IsSaid}
use Rattle.fz_look.specs.Boxes.{HasBox, HasPixel, inside_of, sieve_in}
use Rattle.fz_look.specs.Laws.{HoldsBox, LineIsBytes}
use Rattle.fz_retile.proofs.ViewLengths.{array_lengths, array_whole, bits_of}

-- a pixel has a byte
some_bytes : (b : ℤ) → IsBitpix b → 0 < unsigned_abs b / 8
some_bytes b (inl is) = subst (λ x. 0 < unsigned_abs x / 8) (sym is) (omega arith)
some_bytes b (inr (inl is)) = subst (λ x. 0 < unsigned_abs x / 8) (sym is) (omega arith)
some_bytes b (inr (inr (inl is))) = subst (λ x. 0 < unsigned_abs x / 8) (sym is) (omega arith)
some_bytes b (inr (inr (inr is))) = subst (λ x. 0 < unsigned_abs x / 8) (sym is) (omega arith)

-- the pixel of a byte is one of the array
pixel_there : (w from count : ℕ) → 0 < w → from < w * count → from / w < count
pixel_there w from count some low = div_below from w count some (omega (arith, low, mul_comm w count))

pub pixel_low : (i : PackedImage) → IsReadable i → (from size : ℕ) → size ≡ pixel_bits i.plan / 8 → from < pixel_bits i.plan / 8 * product (lengths_of i.plan.shape) → from / size < product (lengths_of i.plan.shape)
pixel_low i readable from size width low =
    pixel_there size from (product (lengths_of i.plan.shape)) (subst (λ w. 0 < w) (sym width) (some_bytes i.plan.bitpix readable.codec.size)) (subst (λ w. from < w * product (lengths_of i.plan.shape)) (sym width) low)

-- the first bytes of a part of the band
pub part_of : (n first end : ℕ) (band : List ℕ) → first + n ≤ end → take n (take (end - first) (drop first band)) ≡ take n (drop first band)
part_of n first end band few = take-take n (end - first) (drop first band) (omega (arith, few))

module _ (i : PackedImage) (readable : IsReadable i) (r : Region) (at : List ℕ) (from size place : ℕ) (width : size ≡ pixel_bits i.plan / 8) (los : length r.lo ≡ 9) (lens : length r.len ≡ 9) (ats : length at ≡ 9)
    (within : IsWithin i.plan.shape r) (has : HasPixel r at) (place_is : place ≡ place_of (region_lengths r) (inside_of r at)) where
  abbrev left : ℕ
  left = slice_index r.lo 0 + slice_index r.len 0 - slice_index at 0

  -- the bytes from the one on are those of the array
  pub line_shown : LineIsBytes → JoinedIsArray → (g : List ℕ) (e : Header) (n : ℕ) (band into : List ℕ) → IsSaid g e i → take i.plan.shape.n at ≡ coordinates_of (lengths_of i.plan.shape) (from / size) →
      from / size < product (lengths_of i.plan.shape) → HasBox g e (sieve_in r) band → from % size + n ≤ size * left → take n into ≡ take n (drop (from % size + size * place) band) →
      (take n into ≡ take n (drop from (plain_bytes (pixel_bits (plan_in g e)) (image_array g e).numbers))) × (from + n ≤ pixel_bits i.plan / 8 * product (lengths_of i.plan.shape))
  line_shown law whole g e n band into said there low box few is =
      let plan : plan_in g e ≡ i.plan = said.plan in
      let lengths = array_lengths g e ∙ ap (λ (q : Plan). lengths_of q.shape) plan in
      let filled : HoldsBox (plain_bytes (pixel_bits i.plan) (picked_numbers (image_array g e) (sieve_in r))) band =
      subst (λ (q : Plan). HoldsBox (plain_bytes (pixel_bits q) (picked_numbers (image_array g e) (sieve_in r))) band) plan box in
      let both =
      law (pixel_bits i.plan) from n i.plan.shape r at (image_array g e) band (bits_of i.plan.bitpix readable.codec.size) (array_whole g e whole) lengths
      readable.divided.some readable.divided.axes los lens ats within has
      (subst (λ w. take i.plan.shape.n at ≡ coordinates_of (lengths_of i.plan.shape) (from / w)) width there)
      (subst (λ w. from / w < product (lengths_of i.plan.shape)) width low)
      filled
      (subst (λ w. from % w + n ≤ w * left) width few) in (
        is
            ∙ (λ j. take n (drop (from % width j + width j * place_is j) band))
            ∙ both.0
            ∙ ap (λ (q : Plan). take n (drop from (plain_bytes (pixel_bits q) (image_array g e).numbers))) (sym plan),
        both.1,
      )
