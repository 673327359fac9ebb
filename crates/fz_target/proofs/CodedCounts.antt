-- How many elements the code in a slot has in its column (FITS 4.0, sections 7.3.5 and 10.1.3).
use Rattle.std.proofs.Common.{◌≡◌, ◌*◌, ◌/◌, ◌<◌, ◌≤◌, Bool, true, false, ℤ, unsigned_abs, inl, inr, length, if◌then◌else◌, sym, subst, arith, length-take-le}
use Rattle.std.proofs.Common.{w32, of_z, to_z, FitsSigned}
use Rattle.std.proofs.Math.Nat.{div-le_self}
use Rattle.std.proofs.lemmas.Int.{to_z-of_z}
use Rattle.fz_tile.specs.Pixels.{IsBitpix}
use Rattle.fz_tile.specs.TileCode.{TileCode}
use Rattle.fz_head.specs.PackedTable.{coded_unit}
use Rattle.fz_head.specs.Planned.{pixel_len}
use Rattle.fz_head.specs.declared.plan.Plan.{Plan}
use Rattle.fz_files.specs.Packed.{coded_count, is_coded, stored_count}
use Rattle.fz_pool.specs.Round.{coded_tile}
use Rattle.fz_pool.specs.declared.slot.Slot.{Slot}

pub slot_long : (x : Slot) → x.job.len ≤ length x.code → length (coded_tile x).bytes ≡ x.job.len
slot_long x within = length-take-le x.job.len x.code within

-- neither count is above that of bytes
pub coded_low : (p : Plan) (e : TileCode) → coded_count p e ≤ length e.bytes
coded_low p e = by_place (is_coded e.place)
  where
    by_place : (b : Bool) → (if b then length e.bytes / coded_unit p.codec else 0) ≤ length e.bytes
    by_place true = div-le_self (length e.bytes) (coded_unit p.codec)
    by_place false = omega arith

pub stored_low : (p : Plan) (e : TileCode) → stored_count p e ≤ length e.bytes
stored_low p e = by_place (is_coded e.place)
  where
    by_place : (b : Bool) → (if b then 0 else length e.bytes / pixel_len p.bitpix) ≤ length e.bytes
    by_place true = omega arith
    by_place false = div-le_self (length e.bytes) (pixel_len p.bitpix)

-- a pixel has at least one byte
pub pixel_some : (bitpix : ℤ) → IsBitpix bitpix → 0 < unsigned_abs bitpix / 8 * 1
pixel_some bitpix (inl e) = subst (λ b. 0 < unsigned_abs b / 8 * 1) (sym e) (omega arith)
pixel_some bitpix (inr (inl e)) = subst (λ b. 0 < unsigned_abs b / 8 * 1) (sym e) (omega arith)
pixel_some bitpix (inr (inr (inl e))) = subst (λ b. 0 < unsigned_abs b / 8 * 1) (sym e) (omega arith)
pixel_some bitpix (inr (inr (inr e))) = subst (λ b. 0 < unsigned_abs b / 8 * 1) (sym e) (omega arith)

-- it is held by 32 bits
bits_fit : (bitpix : ℤ) → IsBitpix bitpix → FitsSigned w32 bitpix
bits_fit bitpix (inl e) = subst (FitsSigned w32) (sym e) (record { sfits = omega arith })
bits_fit bitpix (inr (inl e)) = subst (FitsSigned w32) (sym e) (record { sfits = omega arith })
bits_fit bitpix (inr (inr (inl e))) = subst (FitsSigned w32) (sym e) (record { sfits = omega arith })
bits_fit bitpix (inr (inr (inr e))) = subst (FitsSigned w32) (sym e) (record { sfits = omega arith })

pub bits_back : (bitpix : ℤ) → IsBitpix bitpix → to_z w32 (of_z w32 bitpix) ≡ bitpix
bits_back bitpix is = to_z-of_z w32 bitpix (bits_fit bitpix is)
