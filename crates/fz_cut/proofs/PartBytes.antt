-- The part that was written: its header, its pixels and the fill (FITS 4.0, sections 3.3.2 and 4.4.1).
use Rattle.std.proofs.Common.{◌≡◌, ℕ, ◌+◌, ◌-◌, ◌*◌, ◌/◌, ◌<◌, ◌≤◌, inl, inr, ℤ, pos, unsigned_abs, List, ◌++◌, length, take, drop, replicate, Option, Some, None, IfSome, refl, sym, ap, ◌∙◌, subst, arith}
use Rattle.std.proofs.lemmas.List.{drop-append-le, drop-take, length-drop}
use Rattle.fz_base.specs.Sink.{written}
use Rattle.fz_block.specs.Hdus.{cards_of, header_bytes}
use Rattle.fz_block.specs.Header.{whole_blocks_of}
use Rattle.fz_block.specs.declared.header.Header.{Header}
use Rattle.fz_grid.specs.Arrays.{NumberArray, product}
use Rattle.fz_grid.specs.Sieve.{sieve_lengths}
use Rattle.fz_grid.specs.declared.sieve.Sieve.{Sieve}
use Rattle.fz_grid.specs.Cutout.{picked_numbers}
use Rattle.fz_grid.specs.CutoutLaws.{CutoutsAreWhole}
use Rattle.fz_tile.specs.Laws.{HasPlainLen}
use Rattle.fz_tile.specs.Pixels.{IsBitpix}
use Rattle.fz_tile.specs.Plain.{plain_bytes}
use Rattle.fz_checks.specs.declared.job_checks.PackedImage.{PackedImage}
use Rattle.fz_head.specs.declared.plan.Plan.{Plan}
use Rattle.fz_files.specs.CutoutBytes.{cutout_cards}
use Rattle.fz_files.specs.Packed.{pixel_bits, zero_filled}
use Rattle.fz_files.specs.Restored.{header_in, plan_in}
use Rattle.fz_job.specs.Images.{IsSaid}
use Rattle.fz_cut.specs.Part.{HoldsPart}
use Rattle.fz_cut.specs.Picks.{HoldsPicks}

-- writes one after another are one write
abbrev pub AreOneWrite : Type 0
AreOneWrite = (at : ℕ) (front back : List ℕ) (contents : Option (List ℕ)) → written (at + length front) back (written at front contents) ≡ written at (front ++ back) contents

-- the bytes of a buffer after the first, up to an end
pub behind_first : (n : ℕ) (out whole : List ℕ) → 1 ≤ n → take n out ≡ whole → take (n - 1) (drop 1 out) ≡ drop 1 whole
behind_first n out whole some is =
    let sum : 1 + (n - 1) ≡ n = omega (arith, some) in
    sym (drop-take 1 (n - 1) out) ∙ ap (λ k. drop 1 (take k out)) sum ∙ ap (drop 1) is

bits_of : (bitpix : ℤ) → IsBitpix bitpix → IsBitpix (pos (unsigned_abs bitpix))
bits_of bitpix (inl is) = inl (ap (λ b. pos (unsigned_abs b)) is)
bits_of bitpix (inr (inl is)) = inr (inl (ap (λ b. pos (unsigned_abs b)) is))
bits_of bitpix (inr (inr (inl is))) = inr (inr (inl (ap (λ b. pos (unsigned_abs b)) is)))
bits_of bitpix (inr (inr (inr is))) = inr (inr (inr (ap (λ b. pos (unsigned_abs b)) is)))

-- the bytes of the pixels
long_picks : HasPlainLen → CutoutsAreWhole → (p : Plan) (sieve : Sieve) (a : NumberArray) → IsBitpix p.bitpix →
    length (plain_bytes (pixel_bits p) (picked_numbers a sieve)) ≡ pixel_bits p / 8 * product (sieve_lengths sieve)
long_picks len whole p sieve a size =
    len (pixel_bits p) (picked_numbers a sieve) (bits_of p.bitpix size) ∙ ap (λ n. pixel_bits p / 8 * n) (whole a sieve)

-- the pixels, and zeros after them, are one write
filled_write : AreOneWrite → (bytes : List ℕ) (at n : ℕ) (before two now : Option (List ℕ)) → length bytes ≡ n → two ≡ written at bytes before →
    now ≡ written (at + n) (replicate (whole_blocks_of n - n) 0) two → now ≡ written at (zero_filled bytes) before
filled_write next bytes at n before two now long put fill =
    fill
    ∙ ap (λ k. written (at + k) (replicate (whole_blocks_of k - k) 0) two) (sym long)
    ∙ ap (written (at + length bytes) (replicate (whole_blocks_of (length bytes) - length bytes) 0)) put
    ∙ next at bytes (replicate (whole_blocks_of (length bytes) - length bytes) 0) before

-- header, pixels and fill are the part, but for byte 0
part_there : AreOneWrite → HasPlainLen → CutoutsAreWhole → (file : List ℕ) (h : Header) (sieve : Sieve) (data_at data_len : ℕ) (front : List ℕ) (before one two now : Option (List ℕ)) → IsBitpix (plan_in file h).bitpix →
    data_len ≡ pixel_bits (plan_in file h) / 8 * product (sieve_lengths sieve) → front ≡ header_bytes (cutout_cards sieve (cards_of (header_in file h))) → 0 < length front → data_at ≡ length front →
    one ≡ written 1 (drop 1 front) before → HoldsPicks file h (plan_in file h) sieve data_at one two → now ≡ written (data_at + data_len) (replicate (whole_blocks_of data_len - data_len) 0) two →
    HoldsPart file h sieve before now
part_there next len whole file h sieve data_at data_len front before one two now size long is some place begun picks filled =
    let p : Plan = plan_in file h in
    let bytes : List ℕ = plain_bytes (pixel_bits p) (picked_numbers picks.array sieve) in
    let blocks : List ℕ = zero_filled bytes in
    let count : length bytes ≡ data_len = long_picks len whole p sieve picks.array size ∙ sym long in
    let put : now ≡ written data_at blocks one = filled_write next bytes data_at data_len one two now count picks.contents filled in
    let behind : data_at ≡ 1 + length (drop 1 front) = omega (arith, place, some, length-drop 1 front) in
    let rest : drop 1 front ++ blocks ≡ drop 1 (front ++ blocks) = sym (drop-append-le 1 front blocks (omega (arith, some))) in
    record {
      bytes = front ++ blocks;
      is = record {
        numbers = picked_numbers picks.array sieve;
        cut = record { array = picks.array; rows = picks.rows; picked = refl };
        made = ap (λ l. l ++ blocks) is;
      };
      contents = put ∙ ap (λ k. written k blocks one) behind ∙ ap (written (1 + length (drop 1 front)) blocks) begun ∙ next 1 (drop 1 front) blocks before ∙ ap (λ l. written 1 l before) rest;
    }

pub part_held : AreOneWrite → HasPlainLen → CutoutsAreWhole → (held : Option (List ℕ)) (h : Header) (image : PackedImage) (sieve : Sieve) (data_at data_len : ℕ) (front : List ℕ) (before one two now : Option (List ℕ)) →
    IfSome held (λ file. IsSaid file h image) → IsBitpix image.plan.bitpix → data_len ≡ pixel_bits image.plan / 8 * product (sieve_lengths sieve) →
    IfSome held (λ file. front ≡ header_bytes (cutout_cards sieve (cards_of (header_in file h)))) → 0 < length front → data_at ≡ length front → one ≡ written 1 (drop 1 front) before →
    IfSome held (λ file. HoldsPicks file h image.plan sieve data_at one two) → now ≡ written (data_at + data_len) (replicate (whole_blocks_of data_len - data_len) 0) two →
    IfSome held (λ file. HoldsPart file h sieve before now)
part_held next len whole None h image sieve data_at data_len front before one two now said size long is some place begun picks filled = tt
part_held next len whole (Some file) h image sieve data_at data_len front before one two now said size long is some place begun picks filled =
    let plan : image.plan ≡ plan_in file h = sym said.plan in
    part_there next len whole file h sieve data_at data_len front before one two now (subst (λ (p : Plan). IsBitpix p.bitpix) plan size)
    (long ∙ ap (λ (p : Plan). pixel_bits p / 8 * product (sieve_lengths sieve)) plan) is some place begun
    (subst (λ (p : Plan). HoldsPicks file h p sieve data_at one two) plan picks) filled
