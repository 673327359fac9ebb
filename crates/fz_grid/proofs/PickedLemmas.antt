-- The tiles with a pick, as a list.
use Rattle.std.proofs.Common.{◌≡◌, ℕ, suc, zero, ◌+◌, ◌<◌, ◌≤◌, Bool, true, false, cond, IsTrue, Contains, ℤ, List, [], ◌∷◌, ap, subst, sym, ◌∙◌, arith, inl, inr}
use Rattle.std.specs.List.{filter, range_with_len}
use Rattle.std.proofs.lemmas.Bool.{cases_lt}
use Rattle.fz_grid.specs.declared.sieve.Sieve.{Sieve}
use Rattle.fz_grid.specs.Arrays.{NumberArray, coordinates_of, product}
use Rattle.fz_grid.specs.Division.{AreTileLengths}
use Rattle.fz_grid.specs.Grid.{tile, tile_corner, tile_count, tile_lengths, moved}
use Rattle.fz_grid.specs.Laws.{CoordinatesAreInOneTile}
use Rattle.fz_grid.specs.Overlap.{IsInBox, has_pixel}
use Rattle.fz_grid.specs.Sieve.{IsPick, picked_tiles, sieve_hi, sieve_lo, sieve_step}
use Rattle.fz_grid.specs.Cutout.{HoldsParts, Sifts, numbers_at, part_lengths, picked_numbers, picks_in_tile}
use Rattle.fz_grid.proofs.BoxLists.{PlaceLaws, box_length, box_nth, moved_box}
use Rattle.fz_grid.proofs.CutoutLemmas.{cutout_whole, parts_make, pick_inside, sieve_axes, some_pick, tiles_give}
use Rattle.fz_grid.proofs.PartLemmas.{pick_numbers}

-- a number that passes the test is one of those that do
kept_here : (test : ℕ → Bool) (a : ℕ) (rest : List ℕ) (t : ℕ) → a ≡ t → test t ≡ true → Contains (cond (test a) (a ∷ rest) rest) t
kept_here test a rest t same passes =
    let yes' : test a ≡ true = ap test same ∙ passes in
    subst (λ b. Contains (cond b (a ∷ rest) rest) t) (sym yes') (0, omega arith, same)

kept_later : (b : Bool) (a : ℕ) (rest : List ℕ) (t : ℕ) → Contains rest t → Contains (cond b (a ∷ rest) rest) t
kept_later false a rest t has = has
kept_later true a rest t has = (suc has.0, omega (arith, has.1), has.2)

pub kept : (test : ℕ → Bool) (a n t : ℕ) → a ≤ t → t < a + n → test t ≡ true → Contains (filter test (range_with_len a n)) t
kept test a zero t from to passes = absurd (omega (arith, from, to))
kept test a (suc n) t from to passes = elim (cases_lt a t) as (λ _. Contains (filter test (range_with_len a (suc n))) t) [
  | inl above ↦ kept_later (test a) a (filter test (range_with_len (a + 1) n)) t (kept test (a + 1) n t (omega (arith, above)) (omega (arith, to)) passes)
  | inr not_above ↦ kept_here test a (filter test (range_with_len (a + 1) n)) t (omega (arith, not_above, from)) passes
]

-- a tile with a pick is one of those
is_picked : (ns ts : List ℕ) (sieve : Sieve) (t : ℕ) → t < tile_count ns ts → IsTrue (has_pixel (part_lengths ns ts sieve t)) → Contains (picked_tiles ns ts (sieve_lo sieve) (sieve_hi sieve) (sieve_step sieve)) t
is_picked ns ts sieve t inside has = kept (λ u. has_pixel (part_lengths ns ts sieve u)) 0 (tile_count ns ts) t (omega arith) (omega (arith, inside)) has

pub pick_tile : PlaceLaws → CoordinatesAreInOneTile → (ns ts : List ℕ) (sieve : Sieve) (cs : List ℕ) → AreTileLengths ns ts → Sifts ns sieve → IsPick (sieve_lo sieve) (sieve_hi sieve) (sieve_step sieve) cs →
    (t : ℕ) × Contains (picked_tiles ns ts (sieve_lo sieve) (sieve_hi sieve) (sieve_step sieve)) t × IsInBox (tile_corner ns ts t) (tile_lengths ns ts t) cs
pick_tile laws one_tile ns ts sieve cs tiles sifts is =
    let os = sieve_lo sieve in
    let hs = sieve_hi sieve in
    let ss = sieve_step sieve in
    let first = sieve_axes ns ts sieve 0 tiles sifts in
    let ms = pick_numbers os hs ss cs first.his first.steps first.positive is in
    let one = one_tile ns ts cs tiles (rw (sym ms.2) (pick_inside ns os hs ss ms.0 sifts ms.1)) in
    let t = one.tile_number in
    let corner = tile_corner ns ts t in
    let lens = tile_lengths ns ts t in
    let axes = sieve_axes ns ts sieve t tiles sifts in
    let pixels = box_length laws (moved corner) lens in
    let in_tile : one.pixel_number < product lens = omega (arith, pixels, one.found.pixel_in) in
    let at_pixel : moved corner (coordinates_of lens one.pixel_number) ≡ cs = sym (box_nth laws (moved corner) lens one.pixel_number [] in_tile) ∙ one.found.here in
    let in_box = subst (IsInBox corner lens) at_pixel (moved_box corner lens (coordinates_of lens one.pixel_number) (omega (arith, axes.corner, axes.lengths)) (laws.numbers lens one.pixel_number in_tile).0) in
    (t, is_picked ns ts sieve t one.found.tile_in ((some_pick laws ns ts sieve t tiles sifts).1 (cs, is, in_box)), in_box)

-- arrays of the same lengths, of which the tiles with a pick are the same
same_picks : PlaceLaws → CoordinatesAreInOneTile → (ns ts : List ℕ) (xs ys : List ℤ) (sieve : Sieve) → AreTileLengths ns ts → Sifts ns sieve →
    ((t : ℕ) → Contains (picked_tiles ns ts (sieve_lo sieve) (sieve_hi sieve) (sieve_step sieve)) t → tile (record { lengths = ns; numbers = xs }) ts t ≡ tile (record { lengths = ns; numbers = ys }) ts t) →
    picked_numbers (record { lengths = ns; numbers = xs }) sieve ≡ picked_numbers (record { lengths = ns; numbers = ys }) sieve
same_picks laws one_tile ns ts xs ys sieve tiles sifts same =
    let a : NumberArray = record { lengths = ns; numbers = xs } in
    let b : NumberArray = record { lengths = ns; numbers = ys } in
    let holds : HoldsParts b ts sieve (picked_numbers a sieve) = record {
      count = cutout_whole laws a sieve;
      numbers = λ t inside has.
          tiles_give laws a ts sieve t tiles sifts ∙ ap (λ (l : List ℤ). numbers_at l (picks_in_tile ns ts sieve t)) (same t (is_picked ns ts sieve t inside has));
    } in
    parts_make laws one_tile b ts sieve (picked_numbers a sieve) tiles sifts holds

pub one_cutout : PlaceLaws → CoordinatesAreInOneTile → (a b : NumberArray) (ts : List ℕ) (sieve : Sieve) → AreTileLengths a.lengths ts → Sifts a.lengths sieve → a.lengths ≡ b.lengths →
    ((t : ℕ) → Contains (picked_tiles a.lengths ts (sieve_lo sieve) (sieve_hi sieve) (sieve_step sieve)) t → tile a ts t ≡ tile b ts t) → picked_numbers a sieve ≡ picked_numbers b sieve
one_cutout laws one_tile a b ts sieve tiles sifts lengths same =
    same_picks laws one_tile a.lengths ts a.numbers b.numbers sieve tiles sifts (λ t has. same t has ∙ ap (λ l. tile (record { lengths = l; numbers = b.numbers }) ts t) (sym lengths))
    ∙ ap (λ l. picked_numbers (record { lengths = l; numbers = b.numbers }) sieve) lengths
