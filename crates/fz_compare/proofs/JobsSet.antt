-- Tiles whose pixels are in the slots of a window, to be encoded.
use Rattle.std.proofs.Common.{◌≡◌, ℕ, zero, suc, ◌+◌, ◌*◌, ◌<◌, ◌≤◌, ◌==◌, ◌⊎◌, inl, inr, Bool, true, false, ℤ, List, [], ◌∷◌, length, slice_get, slice_index_or, Option, Some, IfSome, if◌then◌else◌, refl, sym, ap, ◌∙◌, subst, arith}
use Rattle.std.specs.List.{range_with_len}
use Rattle.std.proofs.lemmas.List.FromFn.{length-range_with_len}
use Rattle.std.proofs.lemmas.Option.{get_or_from_slice_get, slice_get-get_or}
use Rattle.fz_fetch.specs.Fetched.{HasTile, HaveTiles}
use Rattle.fz_files.specs.Packed.{pixel_bits}
use Rattle.fz_pool.specs.Laws.{AreAsMany, IsAlike}
use Rattle.fz_pool.specs.Round.{HoldsTile}
use Rattle.fz_pool.specs.Slots.{IsForEncoding}
use Rattle.fz_pool.specs.Window.{IsPut, Pool, fresh_slot, slot_size}
use Rattle.fz_pool.specs.declared.slot.Slot.{Slot}
use Rattle.fz_tile.specs.Pixels.{place_count}
use Rattle.fz_image.specs.Layout.{IsLayout}
use Rattle.fz_image.specs.Tiles.{AreLoaded, HaveRoom, HaveTheirPixels, pixels_of, tiles_from}
use Rattle.fz_image.specs.declared.layout.Layout.{Layout}
use Rattle.fz_compare.specs.Compared.{HasFewPixels, with_job}
use Rattle.fz_compare.proofs.Rounds.{number_at}

-- ---- one slot after another

-- the first i slots have the jobs of tiles from the first on, and the others are as before
pub record AreSet (l : Layout) (first i : ℕ) (old new : Pool) : Type 0 where
  pub here : (k : ℕ) (d : Slot) → k < i → slice_index_or new.slots k d ≡ with_job l (first + k) (slice_index_or old.slots k d)
  pub others : (k : ℕ) (d : Slot) → i ≤ k → slice_index_or new.slots k d ≡ slice_index_or old.slots k d
  pub few : (k : ℕ) → k < i → HasFewPixels l (first + k)

pub none_set : (l : Layout) (first : ℕ) (w : Pool) → AreSet l first 0 w w
none_set l first w = record {
  here = λ k d low. absurd (omega (arith, low));
  others = λ k d far. refl;
  few = λ k low. absurd (omega (arith, low));
}

-- a number below the next one is below this one, or this one
below_or : (k n : ℕ) → k < n + 1 → (k < n) ⊎ (k ≡ n)
below_or zero zero h = inr refl
below_or zero (suc n) h = inl (omega arith)
below_or (suc k) zero h = absurd (omega (arith, h))
below_or (suc k) (suc n) h = next (below_or k n (omega (arith, h)))
  where
    next : (k < n) ⊎ (k ≡ n) → (suc k < suc n) ⊎ (suc k ≡ suc n)
    next (inl low) = inl (omega (arith, low))
    next (inr same) = inr (ap suc same)

module _ (l : Layout) (first i : ℕ) (old mid new : Pool) (x : Slot) (is : slice_get mid.slots i ≡ Some x) (put : IsPut mid i (with_job l (first + i) x) new) (few : HasFewPixels l (first + i)) (so_far : AreSet l first i old mid) where
  was : (d : Slot) → x ≡ slice_index_or old.slots i d
  was d = sym (get_or_from_slice_get mid.slots i x d is) ∙ so_far.others i d (omega arith)

  here_at : (k : ℕ) (d : Slot) → (k < i) ⊎ (k ≡ i) → slice_index_or new.slots k d ≡ with_job l (first + k) (slice_index_or old.slots k d)
  here_at k d (inl low) = put.others k d (λ same. absurd (omega (arith, low, same))) ∙ so_far.here k d low
  here_at k d (inr same) =
      subst (λ n. slice_index_or new.slots n d ≡ with_job l (first + n) (slice_index_or old.slots n d)) (sym same)
      (put.here d ∙ ap (with_job l (first + i)) (was d))

  few_at : (k : ℕ) → (k < i) ⊎ (k ≡ i) → HasFewPixels l (first + k)
  few_at k (inl low) = so_far.few k low
  few_at k (inr same) = subst (λ n. HasFewPixels l (first + n)) (sym same) few

  pub set_more : AreSet l first (i + 1) old new
  set_more = record {
    here = λ k d near. here_at k d (below_or k i near);
    others = λ k d far. put.others k d (λ same. absurd (omega (arith, far, same))) ∙ so_far.others k d (omega (arith, far));
    few = λ k near. few_at k (below_or k i near);
  }

-- ---- all of them

place_few : (bits n : ℕ) → place_count bits n ≤ 2 * n
place_few bits n = by_test (bits == 64)
  where
    by_test : (long : Bool) → (if long then 2 * n else n) ≤ 2 * n
    by_test true = omega arith
    by_test false = omega arith

-- a slot with the pixels of a tile and its job is to be encoded
ready_slot : (l : Layout) (t n : ℕ) (x : Slot) (xs : List ℤ) → IsLayout l → HasFewPixels l t → HasTile l.plan t x xs → slot_size x ≡ (2 * n, 8 * n + 64) → pixels_of l 0 ≤ n → IsForEncoding (with_job l t x)
ready_slot l t n x xs is few has size big =
    let numbers : length x.numbers ≡ 2 * n = ap (λ (s : ℕ × ℕ). s.0) size in
    let code : length x.code ≡ 8 * n + 64 = ap (λ (s : ℕ × ℕ). s.1) size in
    record {
      codec = is.plan.writable;
      pixels = (few.some, few.most);
      places = omega (arith, place_few (pixel_bits l.plan) (pixels_of l t), few.no_larger, big, numbers);
      hold = (xs, has.hold);
      room = omega (arith, few.no_larger, big, code);
    }

their_pixels : (l : Layout) (t : ℕ) (tiles : List (List ℤ)) →
    ((i : ℕ) (e : List ℤ) → i < length tiles → (length (slice_index_or tiles i e) ≡ pixels_of l (t + i)) × HasFewPixels l (t + i)) → HaveTheirPixels l t tiles
their_pixels l t [] each = tt
their_pixels l t (xs ∷ tiles) each =
    let first = each 0 [] (omega arith) in
    let here : t + 0 ≡ t = omega arith in
    let few : HasFewPixels l t = subst (HasFewPixels l) here first.1 in
    let count : length xs ≡ pixels_of l t = first.0 ∙ ap (pixels_of l) here in (
      count,
      omega (arith, count, few.some),
      omega (arith, count, few.most),
      their_pixels l (suc t) tiles
          (λ i e low.
          let later = each (suc i) e (omega (arith, low)) in
          let place : t + suc i ≡ suc t + i = omega arith in
          (later.0 ∙ ap (pixels_of l) place, subst (HasFewPixels l) place later.1)),
    )

module _ (l : Layout) (held : Option (List ℕ)) (first count : ℕ) (old new : Pool) (is : IsLayout l) (as_many : AreAsMany) (alike : IsAlike) (room : HaveRoom l old) (near : count ≤ 2 * old.workers) (set : AreSet l first count old new) (pixels : List (List ℤ)) (have : HaveTiles l.plan (range_with_len first count) old.slots pixels) where
  long : length pixels ≡ count
  long = have.count ∙ length-range_with_len first count

  slots : length old.slots ≡ 2 * old.workers
  slots = as_many old.slots (2 * old.workers) (2 * room.0, 8 * room.0 + 64) room.1

  size : (i : ℕ) (d : Slot) → i < count → slot_size (slice_index_or old.slots i d) ≡ (2 * room.0, 8 * room.0 + 64)
  size i d low =
      alike old.slots (2 * old.workers) (2 * room.0, 8 * room.0 + 64) i (slice_index_or old.slots i d) room.1 (omega (arith, low, near))
      (slice_get-get_or old.slots i d (omega (arith, low, near, slots)))

  has : (i : ℕ) (d : Slot) (e : List ℤ) → i < count → HasTile l.plan (first + i) (slice_index_or old.slots i d) (slice_index_or pixels i e)
  has i d e low =
      subst (λ t. HasTile l.plan t (slice_index_or old.slots i d) (slice_index_or pixels i e)) (number_at first count i low)
      (have.each i d e (omega (arith, low, length-range_with_len first count)))

  ready : (i : ℕ) (d : Slot) → i < count → IsForEncoding (slice_index_or new.slots i d)
  ready i d low =
      subst IsForEncoding (sym (set.here i d low))
      (ready_slot l (first + i) room.0 (slice_index_or old.slots i d) (slice_index_or pixels i []) is (set.few i low) (has i d [] low) (size i d low) room.2)

  holds : (i : ℕ) (d : Slot) (e : List ℤ) → i < length pixels → HoldsTile l.plan.codec (pixel_bits l.plan) (slice_index_or new.slots i d) (slice_index_or pixels i e)
  holds i d e low =
      let near : i < count = omega (arith, low, long) in
      subst (λ (x : Slot). HoldsTile l.plan.codec (pixel_bits l.plan) x (slice_index_or pixels i e)) (sym (set.here i d near))
      (record { codec_is = refl; bits_are = refl; hold = (has i d e near).hold })

  pub are_loaded : IfSome held (λ file. pixels ≡ tiles_from l file first count) → AreLoaded l held first count new
  are_loaded told = record {
    ready = ready;
    tiles = pixels;
    count_is = long;
    pixels = their_pixels l first pixels (λ i e low. let near : i < count = omega (arith, low, long) in ((has i (fresh_slot 0) e near).count, set.few i near));
    hold = holds;
    told = told;
  }
