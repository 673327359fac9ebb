-- The parts of tiles make the cutout.
use Rattle.std.proofs.Common.{◌≡◌, ◌↔◌, ℕ, ◌<◌, IsTrue, ℤ, pos, List, [], length, get_or, refl, ap, subst, sym, ◌∙◌, arith}
use Rattle.std.proofs.lemmas.List.{ext_get_or, get_or-map}
use Rattle.std.proofs.lemmas.Simd.{map-map}
use Rattle.fz_grid.specs.declared.sieve.Sieve.{Sieve}
use Rattle.fz_grid.specs.Arrays.{AreCoordinatesOf, IsArray, NumberArray, at, coordinates_of, place_of, product}
use Rattle.fz_grid.specs.Division.{AreTileLengths, IsPixel}
use Rattle.fz_grid.specs.Grid.{box_coordinates, moved, tile, tile_corner, tile_lengths}
use Rattle.fz_grid.specs.Laws.{CoordinatesAreInOneTile, TilesAreAtTheirPlaces, TilesMakeOneArray}
use Rattle.fz_grid.specs.Overlap.{IsInBox, has_pixel}
use Rattle.fz_grid.specs.Sieve.{IsPick, all_before, pick_counts, sieve_hi, sieve_lengths, sieve_lo, sieve_step, stepped}
use Rattle.fz_grid.specs.Cutout.{
  HoldsParts,
  HoldsTiles,
  IsPickAt,
  IsPickedOnce,
  IsSteppedBoxOf,
  Sifts,
  first_from,
  numbers_at,
  part_lengths,
  picked_numbers,
  picks_in_cutout,
  picks_in_tile,
}
use Rattle.fz_grid.proofs.AxisLemmas.{pick_le}
use Rattle.fz_grid.proofs.BoxLists.{PlaceLaws, box_at, box_length, box_nth, box_same, moved_box, moved_same, some_pixel, some_place}
use Rattle.fz_grid.proofs.PartLemmas.{AreAxes, befores_length, counts_at, counts_length, is_pick, parts_length, pick_numbers, placed, stepped_at, stepped_length, tile_axes, unplaced}

-- a pick is a place of the array
pub pick_inside : (xs os hs ss ms : List ℕ) → IsSteppedBoxOf xs os hs ss → AreCoordinatesOf (pick_counts os hs ss) ms → AreCoordinatesOf xs (stepped os ss ms)
pick_inside xs os hs ss ms box are =
    let of_hs : length hs ≡ length os = omega (arith, box.his, box.los) in
    let of_ss : length ss ≡ length os = omega (arith, box.steps, box.los) in
    let long = counts_length os hs ss of_hs of_ss in
    let of_ms : length ms ≡ length os = omega (arith, are.axes, long) in
    record {
      axes = stepped_length os ss ms of_ss of_ms ∙ box.los;
      below = λ i h.
          let in_os : i < length os = omega (arith, box.los) in
          let below = are.below i (omega (arith, long)) in
          let most = pick_le (get_or os i 0) (get_or hs i 0) (get_or ss i 0) (get_or ms i 0) (box.ordered i h) (omega (arith, below, counts_at os hs ss i of_hs of_ss in_os)) in
          omega (arith, stepped_at os ss ms i of_ss of_ms in_os, most, box.inside i h);
    }

-- the axes of a sieve and of a tile
pub sieve_axes : (ns ts : List ℕ) (sieve : Sieve) (t : ℕ) → AreTileLengths ns ts → Sifts ns sieve → AreAxes (sieve_lo sieve) (sieve_hi sieve) (sieve_step sieve) (tile_corner ns ts t) (tile_lengths ns ts t)
sieve_axes ns ts sieve t tiles sifts =
    let axes = tile_axes ns ts t tiles.axes in
    record {
      his = omega (arith, sifts.los, sifts.his);
      steps = omega (arith, sifts.los, sifts.steps);
      corner = omega (arith, sifts.los, axes.0);
      lengths = omega (arith, sifts.los, axes.1);
      positive = λ i h. sifts.positive i (omega (arith, sifts.los));
    }

pub cutout_whole : PlaceLaws → (a : NumberArray) (sieve : Sieve) → length (picked_numbers a sieve) ≡ product (sieve_lengths sieve)
cutout_whole laws a sieve = box_length laws (λ k. at a (stepped (sieve_lo sieve) (sieve_step sieve) k)) (sieve_lengths sieve)

pub tiles_give : PlaceLaws → (a : NumberArray) (ts : List ℕ) (sieve : Sieve) (t : ℕ) → AreTileLengths a.lengths ts → Sifts a.lengths sieve → numbers_at (picked_numbers a sieve) (picks_in_cutout a.lengths ts sieve t) ≡ numbers_at (tile a ts t) (picks_in_tile a.lengths ts sieve t)
unfolding tile
tiles_give laws a ts sieve t tiles sifts =
    let os = sieve_lo sieve in
    let hs = sieve_hi sieve in
    let ss = sieve_step sieve in
    let corner = tile_corner a.lengths ts t in
    let lens = tile_lengths a.lengths ts t in
    let counts = part_lengths a.lengths ts sieve t in
    let cut = sieve_lengths sieve in
    let firsts = all_before os hs ss corner in
    let starts = first_from os hs ss corner in
    let cutout = picked_numbers a sieve in
    let of_tile = tile a ts t in
    map-map (λ p. get_or cutout p (pos 0)) (λ k. place_of cut (moved firsts k)) (box_coordinates counts)
    ∙ (box_same laws (λ k. get_or cutout (place_of cut (moved firsts k)) (pos 0)) (λ k. get_or of_tile (place_of lens (stepped starts ss k)) (pos 0)) counts (λ k are.
    let here = placed os hs ss corner lens k (sieve_axes a.lengths ts sieve t tiles sifts) are in
    let left : get_or cutout (place_of cut (moved firsts k)) (pos 0) ≡ at a (stepped os ss (moved firsts k)) = box_at laws (λ j. at a (stepped os ss j)) cut (moved firsts k) (pos 0) here.among in
    let right : get_or of_tile (place_of lens (stepped starts ss k)) (pos 0) ≡ at a (moved corner (stepped starts ss k)) =
    ap (λ l. get_or l (place_of lens (stepped starts ss k)) (pos 0)) (map-map (at a) (moved corner) (box_coordinates lens))
    ∙ box_at laws (λ c. at a (moved corner c)) lens (stepped starts ss k) (pos 0) here.inside in
    left ∙ (ap (at a) (sym here.same) ∙ sym right))
    ∙ sym (map-map (λ p. get_or of_tile p (pos 0)) (λ k. place_of lens (stepped starts ss k)) (box_coordinates counts)))

-- a pick at a place of the cutout: its numbers, and the pixel of the tile
pub record IsFound (ns ts : List ℕ) (sieve : Sieve) (place t k : ℕ) : Type 0 where
  pub numbers : moved (all_before (sieve_lo sieve) (sieve_hi sieve) (sieve_step sieve) (tile_corner ns ts t)) (coordinates_of (part_lengths ns ts sieve t) k) ≡ coordinates_of (sieve_lengths sieve) place
  pub pick_number : place_of (part_lengths ns ts sieve t) (coordinates_of (part_lengths ns ts sieve t) k) ≡ k
  pub pixel : ℕ
  pub is_pixel : IsPixel ns ts (stepped (sieve_lo sieve) (sieve_step sieve) (coordinates_of (sieve_lengths sieve) place)) t pixel

find : PlaceLaws → (ns ts : List ℕ) (sieve : Sieve) (place t k : ℕ) → AreTileLengths ns ts → Sifts ns sieve → IsPickAt ns ts sieve place t k → IsFound ns ts sieve place t k
find laws ns ts sieve place t k tiles sifts pick =
    let os = sieve_lo sieve in
    let hs = sieve_hi sieve in
    let ss = sieve_step sieve in
    let corner = tile_corner ns ts t in
    let lens = tile_lengths ns ts t in
    let counts = part_lengths ns ts sieve t in
    let cut = sieve_lengths sieve in
    let firsts = all_before os hs ss corner in
    let starts = first_from os hs ss corner in
    let long = box_length laws (λ j. place_of cut (moved firsts j)) counts in
    let below : k < product counts = omega (arith, pick.pick_in, long) in
    let js = coordinates_of counts k in
    let there = laws.numbers counts k below in
    let here = placed os hs ss corner lens js (sieve_axes ns ts sieve t tiles sifts) there.0 in
    let nth = box_nth laws (λ j. place_of cut (moved firsts j)) counts k 0 below in
    let is_place : place_of cut (moved firsts js) ≡ place = sym nth ∙ pick.here in
    let numbers : moved firsts js ≡ coordinates_of cut place = sym (laws.coordinates cut (moved firsts js) here.among) ∙ ap (coordinates_of cut) is_place in
    let q = stepped starts ss js in
    let pixels = box_length laws (moved corner) lens in
    record {
      numbers = numbers;
      pick_number = there.1;
      pixel = place_of lens q;
      is_pixel =
          record {
            tile_in = pick.tile_in;
            pixel_in = omega (arith, pixels, laws.inside lens q here.inside);
            here = box_at laws (moved corner) lens q [] here.inside ∙ (here.same ∙ ap (stepped os ss) numbers);
          };
    }

pub picked_once : PlaceLaws → CoordinatesAreInOneTile → (ns ts : List ℕ) (sieve : Sieve) (place : ℕ) → AreTileLengths ns ts → Sifts ns sieve → place < product (sieve_lengths sieve) → IsPickedOnce ns ts sieve place
picked_once laws one_tile ns ts sieve place tiles sifts below =
    let os = sieve_lo sieve in
    let hs = sieve_hi sieve in
    let ss = sieve_step sieve in
    let cut = sieve_lengths sieve in
    let ks = coordinates_of cut place in
    let there = laws.numbers cut place below in
    let one = one_tile ns ts (stepped os ss ks) tiles (pick_inside ns os hs ss ks sifts there.0) in
    let t = one.tile_number in
    let corner = tile_corner ns ts t in
    let lens = tile_lengths ns ts t in
    let counts = part_lengths ns ts sieve t in
    let firsts = all_before os hs ss corner in
    let axes = sieve_axes ns ts sieve t tiles sifts in
    let pixels = box_length laws (moved corner) lens in
    let in_tile : one.pixel_number < product lens = omega (arith, pixels, one.found.pixel_in) in
    let at_pixel : moved corner (coordinates_of lens one.pixel_number) ≡ stepped os ss ks = sym (box_nth laws (moved corner) lens one.pixel_number [] in_tile) ∙ one.found.here in
    let in_box = subst (IsInBox corner lens) at_pixel (moved_box corner lens (coordinates_of lens one.pixel_number) (omega (arith, axes.corner, axes.lengths)) (laws.numbers lens one.pixel_number in_tile).0) in
    let part = unplaced os hs ss corner lens ks axes there.0 in_box in
    let k = place_of counts part.0 in
    let long = box_length laws (λ j. place_of cut (moved firsts j)) counts in
    let found : IsPickAt ns ts sieve place t k = record {
      tile_in = one.found.tile_in;
      pick_in = omega (arith, long, laws.inside counts part.0 part.1);
      here = box_at laws (λ j. place_of cut (moved firsts j)) counts part.0 0 part.1 ∙ (ap (place_of cut) part.2 ∙ there.1);
    } in
    let counts_long : length counts ≡ length firsts = omega (arith, parts_length os hs ss corner lens axes, befores_length os hs ss corner lens axes) in
    record {
      tile_number = t;
      pick_number = k;
      found = found;
      only =
          λ u j pick.
          let by = find laws ns ts sieve place u j tiles sifts pick in
          let same : u ≡ t = (one.only u by.pixel by.is_pixel).0 in
          let pick' : IsPickAt ns ts sieve place t j = subst (λ v. IsPickAt ns ts sieve place v j) same pick in
          let by' = find laws ns ts sieve place t j tiles sifts pick' in
          let long' = box_length laws (λ i. place_of cut (moved firsts i)) counts in
          let are = (laws.numbers counts j (omega (arith, long', pick'.pick_in))).0 in
          let numbers : coordinates_of counts j ≡ part.0 = moved_same firsts (coordinates_of counts j) part.0 (omega (arith, are.axes, counts_long)) (omega (arith, part.1.axes, counts_long)) (by'.numbers ∙ sym part.2) in
          (same, sym by'.pick_number ∙ ap (place_of counts) numbers);
    }

-- the number at a place that a list is asked for
asked : (xs : List ℤ) (ps : List ℕ) (k : ℕ) → k < length ps → get_or (numbers_at xs ps) k (pos 0) ≡ get_or xs (get_or ps k 0) (pos 0)
asked xs ps k below = get_or-map (λ p. get_or xs p (pos 0)) ps k 0 (pos 0) below

pub parts_make : PlaceLaws → CoordinatesAreInOneTile → (a : NumberArray) (ts : List ℕ) (sieve : Sieve) (cutout : List ℤ) → AreTileLengths a.lengths ts → Sifts a.lengths sieve → HoldsParts a ts sieve cutout → cutout ≡ picked_numbers a sieve
parts_make laws one_tile a ts sieve cutout tiles sifts holds =
    let wanted = picked_numbers a sieve in
    ext_get_or (pos 0) cutout wanted (holds.count ∙ sym (cutout_whole laws a sieve)) (λ p h.
    let once = picked_once laws one_tile a.lengths ts sieve p tiles sifts (omega (arith, holds.count)) in
    let t = once.tile_number in
    let k = once.pick_number in
    let places = picks_in_cutout a.lengths ts sieve t in
    let counts = part_lengths a.lengths ts sieve t in
    let long = box_length laws (λ j. place_of (sieve_lengths sieve) (moved (all_before (sieve_lo sieve) (sieve_hi sieve) (sieve_step sieve) (tile_corner a.lengths ts t)) j)) counts in
    let some = some_pixel counts k (omega (arith, long, once.found.pick_in)) in
    let same : numbers_at cutout places ≡ numbers_at wanted places = holds.numbers t once.found.tile_in some ∙ sym (tiles_give laws a ts sieve t tiles sifts) in
    ap (λ q. get_or cutout q (pos 0)) (sym once.found.here)
    ∙ (sym (asked cutout places k once.found.pick_in)
    ∙ (ap (λ l. get_or l k (pos 0)) same
    ∙ (asked wanted places k once.found.pick_in ∙ ap (λ q. get_or wanted q (pos 0)) once.found.here))))

pub tiles_make : TilesAreAtTheirPlaces → TilesMakeOneArray → (a : NumberArray) (ts : List ℕ) (image : List ℤ) → AreTileLengths a.lengths ts → IsArray a → HoldsTiles a ts image → image ≡ a.numbers
tiles_make places one a ts image tiles whole holds =
    let b : NumberArray = record { lengths = a.lengths; numbers = image } in
    ap (λ (x : NumberArray). x.numbers) (one b a ts tiles holds.count whole refl (λ t h. places b ts t ∙ holds.numbers t h))

pub some_pick : PlaceLaws → (ns ts : List ℕ) (sieve : Sieve) (t : ℕ) → AreTileLengths ns ts → Sifts ns sieve → IsTrue (has_pixel (part_lengths ns ts sieve t)) ↔ ((cs : List ℕ) × IsPick (sieve_lo sieve) (sieve_hi sieve) (sieve_step sieve) cs × IsInBox (tile_corner ns ts t) (tile_lengths ns ts t) cs)
some_pick laws ns ts sieve t tiles sifts = (there, back)
  where
    Found : Type 0
    Found = (cs : List ℕ) × IsPick (sieve_lo sieve) (sieve_hi sieve) (sieve_step sieve) cs × IsInBox (tile_corner ns ts t) (tile_lengths ns ts t) cs

    there : IsTrue (has_pixel (part_lengths ns ts sieve t)) → Found
    there has =
        let os = sieve_lo sieve in
        let hs = sieve_hi sieve in
        let ss = sieve_step sieve in
        let corner = tile_corner ns ts t in
        let lens = tile_lengths ns ts t in
        let counts = part_lengths ns ts sieve t in
        let axes = sieve_axes ns ts sieve t tiles sifts in
        let js = coordinates_of counts 0 in
        let here = placed os hs ss corner lens js axes (laws.numbers counts 0 (some_place counts has)).0 in
        let numbers = moved (all_before os hs ss corner) js in
        (stepped os ss numbers, is_pick os hs ss numbers axes.his axes.steps (λ i h. sifts.ordered i (omega (arith, sifts.los))) here.among, subst (IsInBox corner lens) here.same (moved_box corner lens (stepped (first_from os hs ss corner) ss js) (omega (arith, axes.corner, axes.lengths)) here.inside))

    back : Found → IsTrue (has_pixel (part_lengths ns ts sieve t))
    back found =
        let os = sieve_lo sieve in
        let hs = sieve_hi sieve in
        let ss = sieve_step sieve in
        let axes = sieve_axes ns ts sieve t tiles sifts in
        let counts = part_lengths ns ts sieve t in
        let ms = pick_numbers os hs ss found.0 axes.his axes.steps axes.positive found.1 in
        let part = unplaced os hs ss (tile_corner ns ts t) (tile_lengths ns ts t) ms.0 axes ms.1 (subst (IsInBox (tile_corner ns ts t) (tile_lengths ns ts t)) (sym ms.2) found.2) in
        some_pixel counts (place_of counts part.0) (laws.inside counts part.0 part.1)
