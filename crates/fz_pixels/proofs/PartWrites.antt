-- The picks of one tile: the numbers that hold its pixels, and room for its bytes.
use Rattle.std.proofs.Common.{◌≡◌, ℕ, ◌*◌, ◌/◌, ◌≤◌, inl, inr, ℤ, List, length, take, unsigned_abs, w32, of_z, to_z, refl, sym, subst, ◌∙◌, arith}
use Rattle.std.proofs.lemmas.List.{length-map}
use Rattle.std.proofs.lemmas.Nat.{mul-le}
use Rattle.fz_grid.specs.Grid.{box_coordinates}
use Rattle.fz_grid.specs.declared.sieve.Sieve.{Sieve}
use Rattle.fz_grid.specs.Cutout.{part_lengths, picks_in_cutout, picks_in_tile}
use Rattle.fz_tile.specs.Pixels.{HoldPixels, IsBitpix, place_count}
use Rattle.fz_head.specs.declared.plan.Plan.{Plan}
use Rattle.fz_files.specs.Packed.{pixel_bits}
use Rattle.fz_files.specs.Restored.{pixels_of}
use Rattle.fz_fetch.specs.Fetched.{HoldsPixels}

pub part_held : (p : Plan) (t places : ℕ) (numbers xs : List ℤ) → HoldsPixels p t numbers xs → places ≡ place_count (pixel_bits p) (pixels_of p t) → HoldPixels (pixel_bits p) (take places numbers) xs
part_held p t places numbers xs held is = subst (λ n. HoldPixels (pixel_bits p) (take n numbers) xs) (sym is) held.hold

few_bytes : (b : ℤ) → IsBitpix b → unsigned_abs b / 8 ≤ 8
few_bytes b (inl is) = subst (λ z. unsigned_abs z / 8 ≤ 8) (sym is) (omega arith)
few_bytes b (inr (inl is)) = subst (λ z. unsigned_abs z / 8 ≤ 8) (sym is) (omega arith)
few_bytes b (inr (inr (inl is))) = subst (λ z. unsigned_abs z / 8 ≤ 8) (sym is) (omega arith)
few_bytes b (inr (inr (inr is))) = subst (λ z. unsigned_abs z / 8 ≤ 8) (sym is) (omega arith)

pub part_room : (b : ℤ) (picks pixels room : ℕ) → IsBitpix b → picks ≤ pixels → 8 * pixels ≤ room → unsigned_abs b / 8 * picks ≤ room
part_room b picks pixels room size fits most = let here : unsigned_abs b / 8 * picks ≤ 8 * pixels = mul-le (unsigned_abs b / 8) picks 8 pixels (few_bytes b size) fits in omega (arith, here, most)

-- a BITPIX is passed on as it is
pub back_of : (b : ℤ) → IsBitpix b → to_z w32 (of_z w32 b) ≡ b
back_of b (inl is) = subst (λ (y : ℤ). to_z w32 (of_z w32 y) ≡ y) (sym is) refl
back_of b (inr (inl is)) = subst (λ (y : ℤ). to_z w32 (of_z w32 y) ≡ y) (sym is) refl
back_of b (inr (inr (inl is))) = subst (λ (y : ℤ). to_z w32 (of_z w32 y) ≡ y) (sym is) refl
back_of b (inr (inr (inr is))) = subst (λ (y : ℤ). to_z w32 (of_z w32 y) ≡ y) (sym is) refl

-- a tile has as many picks as its part of the cutout
pub picks_same : (array tile : List ℕ) (sieve : Sieve) (t : ℕ) → length (picks_in_tile array tile sieve t) ≡ length (picks_in_cutout array tile sieve t)
picks_same array tile sieve t =
    let of_tile : length (picks_in_tile array tile sieve t) ≡ length (box_coordinates (part_lengths array tile sieve t)) = length-map (box_coordinates (part_lengths array tile sieve t)) _ in
    let of_cut : length (picks_in_cutout array tile sieve t) ≡ length (box_coordinates (part_lengths array tile sieve t)) = length-map (box_coordinates (part_lengths array tile sieve t)) _ in
    of_tile ∙ sym of_cut
