-- Boxes of the image that the numbers of a plan say.
use Rattle.std.proofs.Common.{◌≡◌, ℕ, ◌≤◌, ℤ, List, length, ap, subst, ◌∙◌, arith}
use Rattle.fz_grid.specs.declared.sieve.Sieve.{Sieve}
use Rattle.fz_checks.specs.declared.job_checks.PackedImage.{PackedImage}
use Rattle.fz_flat.specs.Boxes.{AreListed, HasBox, RowsStop, TilesStop, needs_of, numbers_in, picked_in, sieve_there}
use Rattle.fz_flat.specs.Plans.{image_there}
use Rattle.fz_flat.specs.Tiles.{places_of}
use Rattle.fz_flat.specs.declared.boxes.FzBox.{FzBox}
use Rattle.fz_flat.specs.declared.needs.FzNeeds.{FzNeeds}
use Rattle.fz_flat.specs.declared.plan.FzPlan.{FzPlan}
use Rattle.fz_flat.specs.declared.record.FzRecord.{FzRecord}
use Rattle.fz_flat.specs.declared.stops.Stopped.{Stopped}
use Rattle.fz_c.specs.Boxes.{HasRoomForBox, IsSifted, tiles_of}
use Rattle.fz_c.specs.Images.{plan_there}
use Rattle.fz_c.specs.declared.boxes.Sifted.{Sifted}

module _ (plan : FzPlan) (part : FzBox) (found : Sifted) (is : IsSifted plan part found) where
  -- what it needs is what the box needs
  needs_are : (needs : FzNeeds) → needs ≡ needs_of found.image found.sieve → needs ≡ needs_of (image_there plan) (sieve_there part)
  needs_are needs e = e ∙ ap (λ (i : PackedImage). needs_of i found.sieve) is.image ∙ ap (λ (s : Sieve). needs_of (image_there plan) s) is.sieve

  pub room_for_box : (needs : FzNeeds) (count room : ℕ) → needs ≡ needs_of found.image found.sieve → needs.places ≤ count → needs.numbers ≤ room → HasRoomForBox plan part count room
  room_for_box needs count room e places numbers =
      let of_places : needs.places ≡ places_of (plan_there plan) 0 = ap (λ (n : FzNeeds). n.places) (needs_are needs e) in
      let of_numbers : needs.numbers ≡ numbers_in (plan_there plan) (sieve_there part) = ap (λ (n : FzNeeds). n.numbers) (needs_are needs e) in
      record { places_there = omega (arith, places, of_places); room_there = omega (arith, numbers, of_numbers) }

  pub room_for_tiles : (needs : FzNeeds) (room : ℕ) → needs ≡ needs_of found.image found.sieve → needs.tiles ≤ room → length (tiles_of plan part) ≤ room
  room_for_tiles needs room e tiles =
      let of_tiles : needs.tiles ≡ length (tiles_of plan part) = ap (λ (n : FzNeeds). n.tiles) (needs_are needs e) in
      omega (arith, tiles, of_tiles)

  pub rows_stop : (from : ℕ) (rows : List ℕ) (stop : Stopped) → RowsStop found.image from rows (picked_in found.image.plan found.sieve) stop → RowsStop (image_there plan) from rows (tiles_of plan part) stop
  rows_stop from rows stop here =
      subst (λ (s : Sieve). RowsStop (image_there plan) from rows (picked_in (image_there plan).plan s) stop) is.sieve
      (subst (λ (i : PackedImage). RowsStop i from rows (picked_in i.plan found.sieve) stop) is.image here)

  pub tiles_stop : (from : ℕ) (rows : List ℕ) (at : ℕ) (codes : List ℕ) (stop : Stopped) → TilesStop found.image from rows at codes (picked_in found.image.plan found.sieve) stop
      → TilesStop (image_there plan) from rows at codes (tiles_of plan part) stop
  tiles_stop from rows at codes stop here =
      subst (λ (s : Sieve). TilesStop (image_there plan) from rows at codes (picked_in (image_there plan).plan s) stop) is.sieve
      (subst (λ (i : PackedImage). TilesStop i from rows at codes (picked_in i.plan found.sieve) stop) is.image here)

  pub are_listed : (from : ℕ) (rows : List ℕ) (before reads : List FzRecord) → AreListed found.image from rows (picked_in found.image.plan found.sieve) before reads → AreListed (image_there plan) from rows (tiles_of plan part) before reads
  are_listed from rows before reads here =
      subst (λ (s : Sieve). AreListed (image_there plan) from rows (picked_in (image_there plan).plan s) before reads) is.sieve
      (subst (λ (i : PackedImage). AreListed i from rows (picked_in i.plan found.sieve) before reads) is.image here)

  pub has_box : (from : ℕ) (rows : List ℕ) (at : ℕ) (codes : List ℕ) (before out : List ℤ) → HasBox found.image found.sieve from rows at codes before out
      → HasBox (image_there plan) (sieve_there part) from rows at codes before out
  has_box from rows at codes before out here =
      subst (λ (s : Sieve). HasBox (image_there plan) s from rows at codes before out) is.sieve
      (subst (λ (i : PackedImage). HasBox i found.sieve from rows at codes before out) is.image here)
