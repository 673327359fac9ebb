-- The slot with the code of a tile: how long the code is (FITS 4.0, section 10.1.3).
use Rattle.std.proofs.Common.{◌≡◌, ℕ, ◌*◌, ◌/◌, ◌^◌, ◌<◌, ◌≤◌, ℤ, pos, unsigned_abs, inl, inr, length, take, sym, ap, subst, arith}
use Rattle.std.proofs.lemmas.List.{length-take}
use Rattle.fz_tile.specs.Codecs.{CanWrite}
use Rattle.fz_tile.specs.Laws.{FillsColumn}
use Rattle.fz_tile.specs.Pixels.{IsBitpix}
use Rattle.fz_tile.specs.TileCode.{AreElements, TileCode, tile_code}
use Rattle.fz_tile.specs.declared.codec.Codec.{Codec}
use Rattle.fz_head.specs.declared.plan.Plan.{Plan}
use Rattle.fz_files.specs.Packed.{pixel_bits}
use Rattle.fz_pool.specs.Window.{Pool}
use Rattle.fz_pool.specs.declared.slot.Slot.{Slot}
use Rattle.fz_target.specs.Tiles.{HasCode, HasFirst, HasSomeCode, IsFirstOf}

-- what slot 0 has, this slot has
pub first_has : (w : Pool) (x : Slot) (code : TileCode) → IsFirstOf w x → HasFirst (HasCode code) w → HasCode code x
first_has w x code first has = subst (HasCode code) (first x) (has x)

-- the size of a pixel is that of the plan
writes_bits : (codec : Codec) (bitpix : ℤ) → CanWrite codec bitpix → CanWrite codec (pos (unsigned_abs bitpix))
writes_bits codec bitpix can = by_size can.size
  where
    by_size : IsBitpix bitpix → CanWrite codec (pos (unsigned_abs bitpix))
    by_size (inl e) = subst (λ b. CanWrite codec (pos (unsigned_abs b))) (sym e) (subst (CanWrite codec) e can)
    by_size (inr (inl e)) = subst (λ b. CanWrite codec (pos (unsigned_abs b))) (sym e) (subst (CanWrite codec) e can)
    by_size (inr (inr (inl e))) = subst (λ b. CanWrite codec (pos (unsigned_abs b))) (sym e) (subst (CanWrite codec) e can)
    by_size (inr (inr (inr e))) = subst (λ b. CanWrite codec (pos (unsigned_abs b))) (sym e) (subst (CanWrite codec) e can)

few_bytes : (bitpix : ℤ) (n : ℕ) → IsBitpix bitpix → n ≤ 2 ^ 26 → unsigned_abs bitpix / 8 * n ≤ 2 ^ 29
few_bytes bitpix n (inl e) few = subst (λ b. unsigned_abs b / 8 * n ≤ 2 ^ 29) (sym e) (omega (arith, few))
few_bytes bitpix n (inr (inl e)) few = subst (λ b. unsigned_abs b / 8 * n ≤ 2 ^ 29) (sym e) (omega (arith, few))
few_bytes bitpix n (inr (inr (inl e))) few = subst (λ b. unsigned_abs b / 8 * n ≤ 2 ^ 29) (sym e) (omega (arith, few))
few_bytes bitpix n (inr (inr (inr e))) few = subst (λ b. unsigned_abs b / 8 * n ≤ 2 ^ 29) (sym e) (omega (arith, few))

pub record IsCodeIn (x : Slot) : Type 0 where
  pub within : x.job.len ≤ length x.code
  pub some : 0 < x.job.len
  pub most : x.job.len ≤ 2 ^ 29

pub code_in : FillsColumn → (p : Plan) (tile : ℕ) (w : Pool) (x : Slot) → CanWrite p.codec p.bitpix → HasSomeCode p tile w → IsFirstOf w x → IsCodeIn x
code_in fills p tile w x can has first =
    let code : TileCode = tile_code p.codec (pixel_bits p) has.pixels in
    let is : HasCode code x = first_has w x code first has.code in
    let elements : AreElements p.codec (pixel_bits p) (length has.pixels) code = fills p.codec (pixel_bits p) has.pixels (writes_bits p.codec p.bitpix can) has.some has.few in
    let few : pixel_bits p / 8 * length has.pixels ≤ 2 ^ 29 = few_bytes p.bitpix (length has.pixels) can.size has.few in
    let same : length (take x.job.len x.code) ≡ length code.bytes = ap (λ (e : TileCode). length e.bytes) is.0 in
    let cut = length-take x.job.len x.code in
    record {
      within = omega (arith, same, cut, is.1);
      some = omega (arith, is.1, elements.some);
      most = omega (arith, is.1, elements.most, few);
    }
