use Rattle.std.proofs.Common.{◌≡◌, ℕ, ℤ, List, length, take, subst, sym, refl, ap, ◌∙◌}
use Rattle.std.specs.Prelude.{unsigned_abs}
use Rattle.fz_tile.specs.Pixels.{HoldPixels}
use Rattle.fz_tile.specs.TileCode.{tile_code, IsWritten}
use Rattle.fz_pool.specs.Slots.{bits_of_pixel, numbers_of}
use Rattle.fz_pool.proofs.SlotLemmas.{refilled_all, round_trip}
use Rattle.fz_pool.proofs.code.encode_slot.Goals as goal

pub returns : goal.returns
returns c = let x = c.args.slot.now in let out = c.encode_tile-coded.new.out in let k = c.encode_tile-coded.result in
    let len : length out ≡ length x.code = c.encode_tile-coded.auto.out ∙ ap (λ (l : List ℕ). length l) c.as_mut_slice.ensures.value in
    let same = refilled_all x.code out len in
    let bits = ap (λ (b : ℤ). unsigned_abs b) (round_trip x.job.bitpix c.requires.codec.size) in
    let given : List ℤ = take c.place_count-places.result c.as_slice.result.now in
    let numbers : given ≡ numbers_of x = λ i. take (c.place_count-places.ensures i) (c.as_slice.ensures i) in
    let code : (xs : List ℤ) → HoldPixels (bits_of_pixel x.job) (numbers_of x) xs → IsWritten (tile_code x.job.codec (bits_of_pixel x.job) xs) k.place k.len out =
    λ xs hold. subst (λ (n : ℕ). IsWritten (tile_code x.job.codec n xs) k.place k.len out) bits
    (c.encode_tile-coded.ensures.code xs (subst (λ (n : ℕ). HoldPixels n given xs) (sym bits) (subst (λ (ns : List ℤ). HoldPixels (bits_of_pixel x.job) ns xs) (sym numbers) hold))) in
    record {
      written = λ xs hold. subst (λ (bytes : List ℕ). IsWritten (tile_code x.job.codec (bits_of_pixel x.job) xs) k.place k.len bytes) (sym same) (code xs hold);
      job = refl;
      numbers = refl;
      fault = refl;
      size = ap (λ (l : List ℕ). length l) same ∙ len;
    }
