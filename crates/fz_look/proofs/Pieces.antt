-- The plain bytes of the HDU at hand: those of one that is copied, the header of an image, its pixels and its fill (FITS 4.0, sections 3.1, 3.3.2
-- and 4.4.1).
use Rattle.std.proofs.Common.{◌≡◌, ℕ, ◌+◌, ◌-◌, ◌*◌, ◌/◌, ◌≤◌, Bool, true, false, if◌then◌else◌, List, [], ◌∷◌, ◌++◌, length, take, drop, replicate, Option, Some, None, Ok, refl, sym, ap, ◌∙◌, subst, arith}
use Rattle.std.proofs.lemmas.List.{drop-append-le, drop-drop, drop-replicate, drop-take, drop_at, length-append, length-drop, length-replicate, take-append-drop, take-append-le, take-replicate, take-take}
use Rattle.fz_base.specs.Refusal.{first_refusal}
use Rattle.fz_base.specs.declared.fault.Fault.{Fault}
use Rattle.fz_block.specs.Checks.{unless_refused}
use Rattle.fz_block.specs.Facts.{IsHeaderOf}
use Rattle.fz_block.specs.Hdus.{cards_of, hdu_bytes, header_bytes}
use Rattle.fz_block.specs.Header.{next_start_of, whole_blocks_of}
use Rattle.fz_block.specs.Walk.{hdu_of}
use Rattle.fz_block.specs.declared.header.Header.{Header}
use Rattle.fz_grid.specs.Arrays.{product}
use Rattle.fz_grid.specs.Laws.{JoinedIsArray}
use Rattle.fz_grid.specs.Region.{lengths_of}
use Rattle.fz_tile.specs.Laws.{HasPlainLen}
use Rattle.fz_tile.specs.Pixels.{IsBitpix}
use Rattle.fz_tile.specs.Plain.{plain_bytes}
use Rattle.fz_checks.specs.JobChecks.{IsImageOf, image_in, image_to_unpack, is_after_empty, unpack_checks}
use Rattle.fz_head.specs.Packable.{is_packed}
use Rattle.fz_head.specs.PlainHeader.{plain_header}
use Rattle.fz_checks.specs.declared.job_checks.PackedImage.{PackedImage}
use Rattle.fz_files.specs.Packed.{pixel_bits, zero_filled}
use Rattle.fz_files.specs.Restored.{header_in, is_image, plan_in, standing}
use Rattle.fz_files.specs.RestoredFile.{image_array, restored, restored_hdu}
use Rattle.fz_files.specs.declared.job.Job.TheVariants.{Unpack}
use Rattle.fz_job.specs.declared.survey.Survey.{Survey}
use Rattle.fz_job.specs.Known.{IsKnown}
use Rattle.fz_look.specs.Here.{data_len_of, here_of, here_with, made_header, place_of}
use Rattle.fz_look.specs.Laws.{ArePieces}
use Rattle.fz_look.specs.declared.here.Here.{Here}
use Rattle.fz_look.proofs.Hands.{copied_here, header_same, here, image_here, seen}
use Rattle.fz_look.proofs.Knowing.{are_here, first_here, seen_here}
use Rattle.fz_look.proofs.Lengths.{bytes_len, copy_is, image_is, pixels_len}
use Rattle.fz_look.proofs.Places.{bytes_are, plain_front}

-- ---- slices

-- so many items are some and then more
pub split_take : (a b : ℕ) (l : List ℕ) → take (a + b) l ≡ take a l ++ take b (drop a l)
split_take a b l =
    sym (take-append-drop a (take (a + b) l))
    ∙ (λ i. take-take a (a + b) l (omega arith) i ++ drop-take a b l i)

pub slice_take : (n m most : ℕ) (l : List ℕ) → m + n ≤ most → take n (drop m (take most l)) ≡ take n (drop m l)
slice_take n m most l within =
    let long : most ≡ m + (most - m) = omega (arith, within) in
    ap (λ k. take n (drop m (take k l))) long ∙ ap (take n) (drop-take m (most - m) l) ∙ take-take n (most - m) (drop m l) (omega (arith, within))

slice_front : (n m : ℕ) (front back : List ℕ) → m + n ≤ length front → take n (drop m (front ++ back)) ≡ take n (drop m front)
slice_front n m front back within =
    ap (take n) (drop-append-le m front back (omega (arith, within)))
    ∙ take-append-le n (drop m front) back (omega (arith, within, length-drop m front))

slice_back : (n m k : ℕ) (front back : List ℕ) → m ≡ length front + k → take n (drop m (front ++ back)) ≡ take n (drop k back)
slice_back n m k front back is =
    ap (λ j. take n (drop j (front ++ back))) is
    ∙ ap (take n) (sym (drop-drop k (length front) (front ++ back)) ∙ ap (drop k) (drop_at front back (length front) refl))

slice_zeros : (n m most : ℕ) → m + n ≤ most → take n (drop m (replicate {A = ℕ} most 0)) ≡ replicate n 0
slice_zeros n m most within = ap (take n) (drop-replicate m most 0) ∙ take-replicate n (most - m) 0 (omega (arith, within))

-- no items
slice_none : (n : ℕ) (xs ys : List ℕ) → n ≡ 0 → take n xs ≡ take n ys
slice_none n xs ys none = ap (λ k. take k xs) none ∙ sym (ap (λ k. take k ys) none)

-- ---- an image can be read

passed_by : {A : Type 0} (x y : A) (r : Option Fault) → unless_refused x r ≡ Ok y → r ≡ None
passed_by x y None is = refl
passed_by x y (Some fault) is = absurd cc

abbrev pub ChecksAreKept : Type 0
ChecksAreKept = (h : Header) (header : List ℕ) (after_empty : Bool) → IsHeaderOf header h → is_packed header h ≡ true → first_refusal (unpack_checks h header after_empty) ≡ None → IsImageOf header h (image_in h header)

pub image_read : ChecksAreKept → (h : Header) (header : List ℕ) (flag : Bool) (image : Option PackedImage) → IsHeaderOf header h → is_packed header h ≡ true → image_to_unpack h header flag ≡ Ok image → IsImageOf header h (image_in h header)
unfolding image_to_unpack
image_read law h header flag image is packed found =
    law h header flag is packed (passed_by (if is_packed header h then Some (image_in h header) else None) image (first_refusal (unpack_checks h header flag)) found)

-- ---- pieces

module _ (law : ChecksAreKept) (len : HasPlainLen) (array : JoinedIsArray) (g : List ℕ) (s : Survey) (known : IsKnown Unpack g s) where
  module _ (front : List Header) (j : Header) (back : List Header) (parts : standing g known.headers ≡ front ++ j ∷ back) where
    abbrev P : ℕ
    P = place_of g j

    abbrev R : List ℕ
    R = restored_hdu g j

    abbrev B : List ℕ
    B = plain_bytes (pixel_bits (plan_in g j)) (image_array g j).numbers

    abbrev M : List ℕ
    M = header_bytes (plain_header (cards_of (header_in g j)))

    piece : (at n m : ℕ) → at ≡ P + m → m + n ≤ length R → take n (drop at (restored g)) ≡ take n (drop m R)
    piece at n m is within =
        let rest : List ℕ = plain_front g (first_here g s known).hdu back in
        let there : drop P (restored g) ≡ R ++ rest = bytes_are g (first_here g s known).hdu front j back (are_here g s known front j back parts) in
        ap (λ k. take n (drop k (restored g))) is
        ∙ ap (take n) (sym (drop-drop m P (restored g)) ∙ ap (drop m) there)
        ∙ slice_front n m R rest within

    -- an HDU that is copied
    copied_piece : is_image g j ≡ false → (at n : ℕ) → P ≤ at → at + n ≤ P + length R → take n (drop at (restored g)) ≡ take n (drop (j.start + (at - P)) g)
    copied_piece none at n low high =
        let m : ℕ = at - P in
        let within : next_start_of j ≤ length g = (seen_here g s known front j back parts).within in
        let all : length (hdu_bytes (hdu_of g j)) + j.start ≡ next_start_of j = bytes_len g j within in
        let one : R ≡ hdu_bytes (hdu_of g j) = copy_is g j none in
        let count : ℕ = 2880 * j.blocks + whole_blocks_of j.data_len in
        let both : hdu_bytes (hdu_of g j) ≡ take count (drop j.start g) =
        ap (λ (l : List ℕ). take (2880 * j.blocks) (drop j.start g) ++ take (whole_blocks_of j.data_len) l) (sym (drop-drop (2880 * j.blocks) j.start g))
        ∙ sym (split_take (2880 * j.blocks) (whole_blocks_of j.data_len) (drop j.start g)) in
        piece at n m (omega (arith, low)) (omega (arith, low, high))
        ∙ ap (λ (l : List ℕ). take n (drop m l)) (one ∙ both)
        ∙ slice_take n m count (drop j.start g) (omega (arith, low, high, all, ap length one))
        ∙ ap (take n) (drop-drop m j.start g)

    -- the header of an image
    made_is : (b : Bool) → is_image g j ≡ b → made_header g j ≡ (if b then M else [])
    made_is b is = ap (λ (c : Bool). if c then M else []) is

    header_piece : (b : Bool) → is_image g j ≡ b → (at n : ℕ) → P ≤ at → at + n ≤ P + length (made_header g j) → take n (drop at (restored g)) ≡ take n (drop (at - P) (made_header g j))
    header_piece false is at n low high =
        let none : length (made_header g j) ≡ 0 = ap length (made_is false is) in
        slice_none n (drop at (restored g)) (drop (at - P) (made_header g j)) (omega (arith, low, high, none))
    header_piece true is at n low high =
        let made : made_header g j ≡ M = made_is true is in
        let all : R ≡ M ++ zero_filled B = image_is g j is in
        let room : length R ≡ length M + length (zero_filled B) = ap length all ∙ length-append M (zero_filled B) in
        piece at n (at - P) (omega (arith, low)) (omega (arith, low, high, room, ap length made))
        ∙ ap (λ (l : List ℕ). take n (drop (at - P) l)) all
        ∙ slice_front n (at - P) M (zero_filled B) (omega (arith, low, high, ap length made))
        ∙ ap (λ (l : List ℕ). take n (drop (at - P) l)) (sym made)

    -- its pixels

    module _ (is : is_image g j ≡ true) (size : IsBitpix (plan_in g j).bitpix) where
      front_len : length (made_header g j) ≡ length M
      front_len = ap length (made_is true is)

      data_len : data_len_of g j ≡ length B
      data_len =
          ap (λ (c : Bool). if c then pixel_bits (plan_in g j) / 8 * product (lengths_of (plan_in g j).shape) else length (restored_hdu g j)) is
          ∙ sym (pixels_len g j len array size)

      all_parts : R ≡ M ++ zero_filled B
      all_parts = image_is g j is

      all_len : length R ≡ length M + length (zero_filled B)
      all_len = ap length all_parts ∙ length-append M (zero_filled B)

      fill_len : length (zero_filled B) ≡ length B + (whole_blocks_of (length B) - length B)
      fill_len = length-append B (replicate (whole_blocks_of (length B) - length B) 0) ∙ ap (λ n. length B + n) (length-replicate {A = ℕ} (whole_blocks_of (length B) - length B) 0)

      pixel_piece : (at n : ℕ) → P + length (made_header g j) ≤ at → at + n ≤ P + length (made_header g j) + data_len_of g j →
          take n (drop at (restored g)) ≡ take n (drop (at - (P + length (made_header g j))) B)
      pixel_piece at n low high =
          let m : ℕ = at - P in
          let k : ℕ = at - (P + length (made_header g j)) in
          piece at n m (omega (arith, low)) (omega (arith, low, high, front_len, data_len, all_len, fill_len))
          ∙ ap (λ (l : List ℕ). take n (drop m l)) all_parts
          ∙ slice_back n m k M (zero_filled B) (omega (arith, low, front_len))
          ∙ slice_front n k B (replicate (whole_blocks_of (length B) - length B) 0) (omega (arith, low, high, data_len))

      fill_piece : (at n : ℕ) → P + length (made_header g j) + data_len_of g j ≤ at → at + n ≤ P + length R → take n (drop at (restored g)) ≡ replicate n 0
      fill_piece at n low high =
          let m : ℕ = at - P in
          let k : ℕ = m - length M in
          let z : ℕ = whole_blocks_of (length B) - length B in
          piece at n m (omega (arith, low)) (omega (arith, low, high))
          ∙ ap (λ (l : List ℕ). take n (drop m l)) all_parts
          ∙ slice_back n m k M (zero_filled B) (omega (arith, low, front_len))
          ∙ slice_back n k (k - length B) B (replicate z 0) (omega (arith, low, front_len, data_len))
          ∙ slice_zeros n (k - length B) z (omega (arith, low, high, front_len, data_len, all_len, fill_len))

  -- of the HDU at hand

  module _ (h : Here) (found : here_of g h.read.header.hdu ≡ Some h) where
    size_here : (i : PackedImage) → h.read.image ≡ Some i → IsBitpix (plan_in g (here g s known h found).header).bitpix
    size_here i some =
        let a = here g s known h found in
        let was = (seen g s known h found).seen in
        let packed : is_image g a.header ≡ true = subst (λ (e : Header). is_image g e ≡ true) (sym (header_same g s known h found)) (image_here g s known h found i some).1 in
        (image_read law a.header (header_in g a.header) (is_after_empty g a.header) was.image was.is_header packed was.said).readable.size

    packed_here : (i : PackedImage) → h.read.image ≡ Some i → is_image g (here g s known h found).header ≡ true
    packed_here i some = subst (λ (e : Header). is_image g e ≡ true) (sym (header_same g s known h found)) (image_here g s known h found i some).1

    stays_here : h.read.image ≡ None → is_image g (here g s known h found).header ≡ false
    stays_here none = subst (λ (e : Header). is_image g e ≡ false) (sym (header_same g s known h found)) (copied_here g s known h found none)

    pieces_with : ArePieces g (here_with g (here g s known h found).header)
    pieces_with =
        let a = here g s known h found in
        let back : here_with g a.header ≡ h = a.with_it in
        record {
          copied = λ at n none low high. sym (copied_piece a.front a.header a.back a.parts (stays_here (ap (λ (x : Here). x.read.image) (sym back) ∙ none)) at n low high);
          header = λ at n low high. sym (header_piece a.front a.header a.back a.parts (is_image g a.header) refl at n low high);
          pixels = λ i at n some low high. let is_some : h.read.image ≡ Some i = ap (λ (x : Here). x.read.image) (sym back) ∙ some in
              sym (pixel_piece a.front a.header a.back a.parts (packed_here i is_some) (size_here i is_some) at n low high);
          fill = λ i at n some low high. let is_some : h.read.image ≡ Some i = ap (λ (x : Here). x.read.image) (sym back) ∙ some in
              sym (fill_piece a.front a.header a.back a.parts (packed_here i is_some) (size_here i is_some) at n low high);
        }

    pub pieces : ArePieces g h
    pieces =
        let a = here g s known h found in
        subst (λ (e : Here). ArePieces g e) a.with_it pieces_with
