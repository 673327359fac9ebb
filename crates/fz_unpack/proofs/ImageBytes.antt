-- The image of a packed HDU that was written: its header, its pixels and the fill (FITS 4.0, sections 3.3.2 and 4.4.1).
use Rattle.std.proofs.Common.{◌≡◌, ℕ, ◌+◌, ◌-◌, ◌*◌, ◌/◌, ◌<◌, inl, inr, ℤ, pos, unsigned_abs, List, [], ◌∷◌, ◌++◌, length, replicate, codes, cond, Bool, true, false, Option, Some, None, IfSome, Result, Ok, Err, OnOk, sym, ap, ◌∙◌, subst, arith}
use Rattle.std.specs.Prelude.{IfOk}
use Rattle.std.specs.List.{flat_map}
use Rattle.std.proofs.lemmas.List.{length-append, length-replicate}
use Rattle.fz_base.specs.Sink.{written}
use Rattle.fz_base.specs.declared.fault.Fault.{Fault}
use Rattle.fz_card.specs.Layout.{blanks}
use Rattle.fz_block.specs.Hdus.{cards_of, header_bytes}
use Rattle.fz_block.specs.Header.{whole_blocks_of}
use Rattle.fz_block.specs.declared.header.Header.{Header}
use Rattle.fz_grid.specs.Arrays.{NumberArray, IsArray, product}
use Rattle.fz_grid.specs.Region.{lengths_of}
use Rattle.fz_tile.specs.Laws.{HasPlainLen}
use Rattle.fz_tile.specs.Pixels.{IsBitpix}
use Rattle.fz_tile.specs.Plain.{plain_bytes}
use Rattle.fz_head.specs.PlainHeader.{plain_header}
use Rattle.fz_checks.specs.declared.job_checks.PackedImage.{PackedImage}
use Rattle.fz_head.specs.declared.plan.Plan.{Plan}
use Rattle.fz_files.specs.FirstFault.{IsFirstRowFault, rows_of}
use Rattle.fz_files.specs.Packed.{pixel_bits, zero_filled}
use Rattle.fz_files.specs.Restored.{header_in, is_image, plan_in}
use Rattle.fz_job.specs.Images.{IsSaid}
use Rattle.fz_job.specs.Behind.{written_behind}
use Rattle.fz_unpack.specs.Behind.{HoldsImage, IsHduFault}
use Rattle.fz_unpack.specs.Images.{HoldsPixels}
use Rattle.fz_unpack.proofs.Hdus.{AreOneWrite, behind_some, both_behind}
use Rattle.fz_unpack.proofs.Rows.{fault_before}

-- a header has at least the letters END
pub some_header : (cards : List (List ℕ)) → 0 < length (header_bytes cards)
some_header cards =
    let text : List ℕ = flat_map (λ (c : List ℕ). c) cards ++ codes "END" in
    let all : length (header_bytes cards) ≡ length text + length (blanks (whole_blocks_of (80 * (length cards + 1)) - length text)) =
    length-append text (blanks (whole_blocks_of (80 * (length cards + 1)) - length text)) in
    let end : length text ≡ length (flat_map (λ (c : List ℕ). c) cards) + 3 = length-append (flat_map (λ (c : List ℕ). c) cards) (codes "END") in
    omega (arith, all, end)

bits_of : (bitpix : ℤ) → IsBitpix bitpix → IsBitpix (pos (unsigned_abs bitpix))
bits_of bitpix (inl is) = inl (ap (λ b. pos (unsigned_abs b)) is)
bits_of bitpix (inr (inl is)) = inr (inl (ap (λ b. pos (unsigned_abs b)) is))
bits_of bitpix (inr (inr (inl is))) = inr (inr (inl (ap (λ b. pos (unsigned_abs b)) is)))
bits_of bitpix (inr (inr (inr is))) = inr (inr (inr (ap (λ b. pos (unsigned_abs b)) is)))

-- the bytes of the pixels
long_pixels : HasPlainLen → (p : Plan) (a : NumberArray) → IsBitpix p.bitpix → IsArray a → a.lengths ≡ lengths_of p.shape →
    length (plain_bytes (pixel_bits p) a.numbers) ≡ pixel_bits p / 8 * product (lengths_of p.shape)
long_pixels len p a size whole lengths =
    len (pixel_bits p) a.numbers (bits_of p.bitpix size) ∙ ap (λ n. pixel_bits p / 8 * n) (whole ∙ ap product lengths)

-- the fill goes to whole blocks
long_filled : (bytes : List ℕ) → length (zero_filled bytes) ≡ whole_blocks_of (length bytes)
long_filled bytes =
    let all : length (zero_filled bytes) ≡ length bytes + length (replicate {A = ℕ} (whole_blocks_of (length bytes) - length bytes) 0) =
    length-append bytes (replicate (whole_blocks_of (length bytes) - length bytes) 0) in
    omega (arith, all, length-replicate {A = ℕ} (whole_blocks_of (length bytes) - length bytes) 0)

-- the pixels, and zeros after them, are one write
filled_write : AreOneWrite → (bytes : List ℕ) (at n : ℕ) (before two now : Option (List ℕ)) → length bytes ≡ n → two ≡ written at bytes before →
    now ≡ written (at + n) (replicate (whole_blocks_of n - n) 0) two → now ≡ written at (zero_filled bytes) before
filled_write next bytes at n before two now long put fill =
    fill
    ∙ ap (λ k. written (at + k) (replicate (whole_blocks_of k - k) 0) two) (sym long)
    ∙ ap (written (at + length bytes) (replicate (whole_blocks_of (length bytes) - length bytes) 0)) put
    ∙ next at bytes (replicate (whole_blocks_of (length bytes) - length bytes) 0) before

-- header, pixels and fill are the image
image_there : AreOneWrite → HasPlainLen → (file : List ℕ) (h : Header) (at data_at data_len end : ℕ) (front : List ℕ) (before one two now : Option (List ℕ)) → IsBitpix (plan_in file h).bitpix →
    data_len ≡ pixel_bits (plan_in file h) / 8 * product (lengths_of (plan_in file h).shape) → front ≡ header_bytes (plain_header (cards_of (header_in file h))) → 0 < length front → data_at ≡ at + length front →
    one ≡ written_behind at front before → HoldsPixels file h data_at one two → now ≡ written (data_at + data_len) (replicate (whole_blocks_of data_len - data_len) 0) two → end ≡ data_at + whole_blocks_of data_len →
    HoldsImage h file at end before now
image_there next len file h at data_at data_len end front before one two now size long is some place begun pixels filled ends =
    let p : Plan = plan_in file h in
    let bytes : List ℕ = plain_bytes (pixel_bits p) pixels.array.numbers in
    let blocks : List ℕ = zero_filled bytes in
    let count : length bytes ≡ data_len = long_pixels len p pixels.array size pixels.rows.whole pixels.rows.lengths ∙ sym long in
    let behind : 0 < at + length front = omega (arith, some) in
    let put : now ≡ written data_at blocks one = filled_write next bytes data_at data_len one two now count pixels.contents filled in
    let data_long : length blocks ≡ whole_blocks_of data_len = long_filled bytes ∙ ap whole_blocks_of count in
    let both : length (front ++ blocks) ≡ length front + length blocks = length-append front blocks in
    record {
      image = front ++ blocks;
      is = record { array = pixels.array; rows = pixels.rows; image = ap (λ l. l ++ blocks) is };
      holds = record {
        contents = put
            ∙ ap (λ k. written k blocks one) place
            ∙ ap (written (at + length front) blocks) begun
            ∙ sym (behind_some (at + length front) blocks (written_behind at front before) behind)
            ∙ both_behind next at front blocks before behind;
        behind = omega (arith, ends, place, data_long, both);
      };
    }

pub image_held : AreOneWrite → HasPlainLen → (held : Option (List ℕ)) (h : Header) (image : PackedImage) (at data_at data_len end : ℕ) (front : List ℕ) (before one two now : Option (List ℕ)) →
    IfSome held (λ file. IsSaid file h image) → IsBitpix image.plan.bitpix → data_len ≡ pixel_bits image.plan / 8 * product (lengths_of image.plan.shape) →
    IfSome held (λ file. front ≡ header_bytes (plain_header (cards_of (header_in file h)))) → 0 < length front → data_at ≡ at + length front → one ≡ written_behind at front before →
    IfSome held (λ file. HoldsPixels file h data_at one two) → now ≡ written (data_at + data_len) (replicate (whole_blocks_of data_len - data_len) 0) two → end ≡ data_at + whole_blocks_of data_len →
    IfSome held (λ file. HoldsImage h file at end before now)
image_held next len None h image at data_at data_len end front before one two now said size long is some place begun pixels filled ends = tt
image_held next len (Some file) h image at data_at data_len end front before one two now said size long is some place begun pixels filled ends =
    let plan : image.plan ≡ plan_in file h = sym said.plan in
    image_there next len file h at data_at data_len end front before one two now (subst (λ (p : Plan). IsBitpix p.bitpix) plan size)
    (long ∙ ap (λ (p : Plan). pixel_bits p / 8 * product (lengths_of p.shape)) plan) is some place begun pixels filled ends

-- ---- a refused row

fault_by : (b : Bool) (file : List ℕ) (h : Header) (x : Fault) → b ≡ true → IsFirstRowFault file (rows_of file h) (Some x) → IsFirstRowFault file (flat_map (rows_of file) (cond b (h ∷ []) [])) (Some x)
fault_by true file h x is fault = fault_before file (rows_of file h) [] x fault
fault_by false file h x is fault = absurd cc

-- the first of a packed HDU
pub hdu_faulty : (held : Option (List ℕ)) (h : Header) (x : Fault) → IfSome held (λ file. is_image file h ≡ true) → IfSome held (λ file. IsFirstRowFault file (rows_of file h) (Some x)) → IfSome held (λ file. IsHduFault file h x)
hdu_faulty None h x packed fault = tt
hdu_faulty (Some file) h x packed fault = fault_by (is_image file h) file h x packed fault

-- ---- both that an answer says

pub ok_both : {X E : Type 0} (r : Result X E) {P : Type 0} {Q R : X → Type 0} → (P → (x : X) → Q x → R x) → OnOk r P → IfOk r Q → IfOk r R
ok_both (Ok x) both one two = both one x two
ok_both (Err e) both one two = tt
