-- What the decoder says, of the BITPIX and the place that it was given.
use Rattle.std.proofs.Common.{◌≡◌, ℕ, ◌↔◌, ℤ, List, length, unsigned_abs, w32, of_z, to_z, Result, Ok, Err, OnOk, inl, inr, refl, sym, subst}
use Rattle.fz_table.specs.declared.record.Record.{Record}
use Rattle.fz_tile.specs.Pixels.{HoldPixels, IsBitpix, pixel_count}
use Rattle.fz_tile.specs.Record.{IsRecord}
use Rattle.fz_tile.specs.Refusals.{IsFault}
use Rattle.fz_tile.specs.declared.coded.Place2.{Place2}
use Rattle.fz_tile.specs.declared.fault.TileFault.{TileFault}
use Rattle.fz_head.specs.declared.plan.Plan.{Plan}
use Rattle.fz_flat.specs.Decoded.{Decodes}
use Rattle.fz_flat.specs.Tiles.{pixel_bits, place_in}

-- a BITPIX is passed on as it is
pub back_of : (b : ℤ) → IsBitpix b → to_z w32 (of_z w32 b) ≡ b
back_of b (inl is) = subst (λ (y : ℤ). to_z w32 (of_z w32 y) ≡ y) (sym is) refl
back_of b (inr (inl is)) = subst (λ (y : ℤ). to_z w32 (of_z w32 y) ≡ y) (sym is) refl
back_of b (inr (inr (inl is))) = subst (λ (y : ℤ). to_z w32 (of_z w32 y) ≡ y) (sym is) refl
back_of b (inr (inr (inr is))) = subst (λ (y : ℤ). to_z w32 (of_z w32 y) ≡ y) (sym is) refl

-- what an answer of the decoder says, case by case
pub decoded_as : {X : Type 0} (p : Plan) (found : Record) (bytes : List ℕ) (count : ℕ) (numbers : List ℤ) (r : Result X TileFault) (z : ℤ) (q : Place2) → z ≡ p.bitpix → q ≡ place_in found.column
    → OnOk r ((xs : List ℤ) × (length xs ≡ pixel_count (unsigned_abs z) count) × IsRecord p.codec (unsigned_abs z) q found.total bytes xs × HoldPixels (unsigned_abs z) numbers xs)
    → ((why : TileFault) → (r ≡ Err why) ↔ IsFault p.codec (unsigned_abs z) q found.total bytes (pixel_count (unsigned_abs z) count) why)
    → Decodes p found bytes (pixel_count (pixel_bits p) count) numbers r
decoded_as p found bytes count numbers (Ok x) z q back placed (xs, many, are, hold) faults = record {
  pixels = xs;
  count = subst (λ (y : ℤ). length xs ≡ pixel_count (unsigned_abs y) count) back many;
  are = subst (λ (y : ℤ). IsRecord p.codec (unsigned_abs y) (place_in found.column) found.total bytes xs) back
      (subst (λ (w : Place2). IsRecord p.codec (unsigned_abs z) w found.total bytes xs) placed are);
  hold = subst (λ (y : ℤ). HoldPixels (unsigned_abs y) numbers xs) back hold;
}
decoded_as p found bytes count numbers (Err why) z q back placed ok faults =
    subst (λ (y : ℤ). IsFault p.codec (unsigned_abs y) (place_in found.column) found.total bytes (pixel_count (unsigned_abs y) count) why) back
    (subst (λ (w : Place2). IsFault p.codec (unsigned_abs z) w found.total bytes (pixel_count (unsigned_abs z) count) why) placed ((faults why).0 refl))
