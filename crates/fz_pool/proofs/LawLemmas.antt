-- What the laws for callers rest on.
use Rattle.std.proofs.Common.{◌≡◌, ◌≢◌, ℕ, zero, suc, ◌+◌, ◌*◌, ◌<◌, ◌≤◌, eqb, cond, Bool, true, false, ℤ, pos, List, [], ◌∷◌, ◌++◌, map, length, take, get_or, Some, slice_get, ⊎_elim, refl, sym, ap, ◌∙◌, subst, arith}
use Rattle.std.specs.Prelude.{unsigned_abs}
use Rattle.std.specs.List.{flat_map}
use Rattle.std.proofs.lemmas.List.{get_or-map, get_or-take, get_or-set_same, get_or-set_other, get_or_default, get_or_append_left, get_or_push, length-append, length-map, same_lists}
use Rattle.std.proofs.lemmas.Option.{get_or_from_slice_get, slice_get_within}
use Rattle.std.proofs.Math.Seq.{map-set_same}
use mathlib.Core.Logic.{dite}
use native.Mathlib.Decide.{dec_le, ℕ_discrete}
use Rattle.fz_tile.specs.declared.codec.Codec.{Codec}
use Rattle.fz_tile.specs.declared.fault.TileFault.{TileFault}
use Rattle.fz_tile.specs.Pixels.{IsBitpix, HoldPixels, halves}
use Rattle.fz_tile.specs.Codecs.{CanRead, CanWrite}
use Rattle.fz_tile.specs.TileCode.{TileCode, tile_code, IsWritten, AreElements}
use Rattle.fz_tile.specs.Laws.{StandsUnrefused, IsRefusedOnce, FillsColumn}
use Rattle.fz_pool.specs.declared.task.Task.{Task}
use Rattle.fz_pool.specs.declared.slot.Job.{Job}
use Rattle.fz_pool.specs.declared.slot.Slot.{Slot}
use Rattle.fz_pool.specs.Slots.{bits_of_pixel, places_of, numbers_of, record_of, IsForEncoding, IsEncoded, IsReady, HasNumbers, HasFault}
use Rattle.fz_pool.specs.Window.{Pool, slot_size, with_slot, IsPut}
use Rattle.fz_pool.specs.Calls.{AreReady, AreForDecoding, AreEncoded, HaveNumbers, IsLowestFault}
use Rattle.fz_pool.specs.Round.{HoldsTile, HoldTiles, coded_tile, coded_tiles, IsTileOf, AreTilesOf}
use Rattle.fz_pool.proofs.SizeLemmas.{more_ready}
use Rattle.fz_pool.proofs.RoundLemmas.{long_all}

-- ---- filling slots

pub put_is : (w : Pool) (i : ℕ) (x y : Slot) → slice_get w.slots i ≡ Some x → slot_size y ≡ slot_size x → IsPut w i y (with_slot w i y)
put_is w i x y at size = record {
  here = λ d. get_or-set_same w.slots i y d (slice_get_within w.slots i x at);
  others = λ k d other. get_or-set_other w.slots i k y d other;
  sizes = map-set_same slot_size w.slots i y x (size ∙ ap slot_size (sym (get_or_from_slice_get w.slots i x x at)));
  workers = refl;
}

pub next_ready : (task : Task) (i : ℕ) (old new : Pool) (x : Slot) → AreReady task i old.slots → IsPut old i x new → IsReady task x → AreReady task (i + 1) new.slots
next_ready task i old new x are put is = more_ready (IsReady task) old.slots new.slots i (λ d. subst (IsReady task) (sym (put.here d)) is) put.others are

-- ---- the tiles of a call

same_code : (a b : TileCode) → a.place ≡ b.place → a.bytes ≡ b.bytes → a ≡ b
same_code a b place bytes = λ i. record { place = place i; bytes = bytes i }

coded_one : (codec : Codec) (bits : ℕ) (x y : Slot) (pixels : List ℤ) → HoldsTile codec bits x pixels → IsEncoded x y → coded_tile y ≡ tile_code codec bits pixels
coded_one codec bits x y pixels h e =
    let hold : HoldPixels (bits_of_pixel x.job) (numbers_of x) pixels = subst (λ (b : ℕ). HoldPixels b (numbers_of x) pixels) (sym h.bits_are) h.hold in
    let first : IsWritten (tile_code x.job.codec (bits_of_pixel x.job) pixels) y.job.place y.job.len y.code = e.written pixels hold in
    let written : IsWritten (tile_code codec bits pixels) y.job.place y.job.len y.code = subst (λ (c : Codec). IsWritten (tile_code c bits pixels) y.job.place y.job.len y.code) h.codec_is
    (subst (λ (b : ℕ). IsWritten (tile_code x.job.codec b pixels) y.job.place y.job.len y.code) h.bits_are first) in
    same_code (coded_tile y) (tile_code codec bits pixels) written.place_is written.bytes_are

-- a BITPIX that is one is the bits of its pixels
abs_back : (b : ℤ) → IsBitpix b → pos (unsigned_abs b) ≡ b
abs_back b is = ⊎_elim
    (λ (e : b ≡ pos 8). subst (λ (z : ℤ). pos (unsigned_abs z) ≡ z) (sym e) refl)
    (⊎_elim
    (λ (e : b ≡ pos 16). subst (λ (z : ℤ). pos (unsigned_abs z) ≡ z) (sym e) refl)
    (⊎_elim
    (λ (e : b ≡ pos 32). subst (λ (z : ℤ). pos (unsigned_abs z) ≡ z) (sym e) refl)
    (λ (e : b ≡ pos 64). subst (λ (z : ℤ). pos (unsigned_abs z) ≡ z) (sym e) refl)))
    is

-- two places for each pixel of 64 bits
halves_len : (xs : List ℤ) → length (flat_map halves xs) ≡ 2 * length xs
halves_len [] = refl
halves_len (x ∷ xs) = let h = halves_len xs in omega arith

count_back : (two : Bool) (xs : List ℤ) (n : ℕ) → length (cond two (flat_map halves xs) xs) ≡ cond two (2 * n) n → length xs ≡ n
count_back true xs n e = let h = halves_len xs in omega arith
count_back false xs n e = e

-- the pixels in a slot's numbers are as many as its job says
pixels_of : (x : Slot) (xs : List ℤ) → IsForEncoding x → HoldPixels (bits_of_pixel x.job) (numbers_of x) xs → length xs ≡ x.job.pixels
pixels_of x xs ready h = count_back (eqb (bits_of_pixel x.job) 64) xs x.job.pixels (ap (λ (l : List ℤ). length l) (sym h.are) ∙ long_all (places_of x.job) x.numbers ready.places)

module _ (fills : FillsColumn) where
  pub length_told : (x y : Slot) → IsForEncoding x → IsEncoded x y
      → (length (record_of y) ≡ y.job.len) × (y.job.len ≤ length y.code) × AreElements x.job.codec (bits_of_pixel x.job) x.job.pixels (coded_tile y)
  length_told x y ready e =
      let bits : ℕ = bits_of_pixel x.job in
      let xs : List ℤ = ready.hold.0 in
      let hold : HoldPixels bits (numbers_of x) xs = ready.hold.1 in
      let written : IsWritten (tile_code x.job.codec bits xs) y.job.place y.job.len y.code = e.written xs hold in
      let count : length xs ≡ x.job.pixels = pixels_of x xs ready hold in
      let some = ready.pixels.0 in let most = ready.pixels.1 in
      let can : CanWrite x.job.codec (pos bits) = subst (CanWrite x.job.codec) (sym (abs_back x.job.bitpix ready.codec.size)) ready.codec in (
        long_all y.job.len y.code written.within,
        written.within,
        subst (λ (c : TileCode). AreElements x.job.codec bits x.job.pixels c) (sym (same_code (coded_tile y) (tile_code x.job.codec bits xs) written.place_is written.bytes_are))
            (subst (λ (n : ℕ). AreElements x.job.codec bits n (tile_code x.job.codec bits xs)) count (fills x.job.codec bits xs can (omega arith) (omega arith))),
      )

-- some element, where there is one
some_of : {A : Type 0} (l : List A) (k : ℕ) → k < length l → A
some_of [] k h = absurd (omega arith)
some_of (x ∷ xs) k h = x

pub coded_all : (codec : Codec) (bits : ℕ) (tiles : List (List ℤ)) (old new : List Slot) → length tiles ≤ length new → HoldTiles codec bits old tiles
    → AreEncoded (length tiles) old new → coded_tiles (length tiles) new ≡ map (tile_code codec bits) tiles
coded_all codec bits tiles old new near hold are = same_lists (coded_tiles (length tiles) new) (map (tile_code codec bits) tiles) (left ∙ sym (length-map tiles (tile_code codec bits))) each
  where
    taken : length (take (length tiles) new) ≡ (length tiles)
    taken = long_all (length tiles) new near

    left : length (coded_tiles (length tiles) new) ≡ (length tiles)
    left = length-map (take (length tiles) new) coded_tile ∙ taken

    each : (k : ℕ) (d : TileCode) → k < length (coded_tiles (length tiles) new) → get_or (coded_tiles (length tiles) new) k d ≡ get_or (map (tile_code codec bits) tiles) k d
    each k d l = let long = left in let front = taken in let inside : k < (length tiles) = omega arith in let x : Slot = some_of new k (omega arith) in
        get_or-map coded_tile (take (length tiles) new) k x d (omega arith)
        ∙ (ap coded_tile (get_or-take (length tiles) new k x inside)
        ∙ (coded_one codec bits (get_or old k x) (get_or new k x) (get_or tiles k []) (hold k x [] inside) (are k x inside)
        ∙ sym (get_or-map (tile_code codec bits) tiles k [] d inside)))

pub tiles_all : (count : ℕ) (old new : List Slot) → count ≤ length old → count ≤ length new → HaveNumbers count old new → (tiles : List (List ℤ)) × (length tiles ≡ count) × AreTilesOf old new tiles
tiles_all zero old new a b have = ([], refl, λ i d e l. absurd (omega arith))
tiles_all (suc n) old new a b have =
    let before = tiles_all n old new (omega arith) (omega arith) (λ i d l. have i d (omega arith)) in
    let tiles : List (List ℤ) = before.0 in
    let long : length tiles ≡ n = before.1 in
    let x : Slot = some_of old n (omega arith) in
    let h = have n x (omega arith) in
    let pixels : List ℤ = h.pixels in
    let last : IsTileOf (get_or old n x) (get_or new n x) pixels = record { count = h.count; are = h.are; hold = h.hold } in
    let longer = length-append tiles (pixels ∷ []) in (
      tiles ++ pixels ∷ [],
      omega arith,
      λ i d e l. dite (ℕ_discrete i n)
          (λ (here : i ≡ n). subst (λ (j : ℕ). IsTileOf (get_or old j d) (get_or new j d) (get_or (tiles ++ pixels ∷ []) j e)) (sym here)
          (subst (λ (p : List ℤ). IsTileOf (get_or old n d) (get_or new n d) p) (sym (get_or_push tiles pixels e n long))
          (subst (λ (z : Slot). IsTileOf z (get_or new n d) pixels) (get_or_default old n x d (omega arith))
          (subst (λ (z : Slot). IsTileOf (get_or old n x) z pixels) (get_or_default new n x d (omega arith)) last))))
          (λ (other : i ≢ n). let near : i < n = omega arith in
          subst (λ (p : List ℤ). IsTileOf (get_or old i d) (get_or new i d) p) (sym (get_or_append_left tiles (pixels ∷ []) e i (omega arith))) (before.2 i d e (omega arith))),
    )

-- ---- faults

can_read : (j : Job) → CanRead j.codec j.bitpix → CanRead j.codec (pos (bits_of_pixel j))
can_read j can = subst (CanRead j.codec) (sym (abs_back j.bitpix can.size)) can

module _ (unrefused : StandsUnrefused) (once : IsRefusedOnce) where
  no_fault_of : (j : Job) (bytes : List ℕ) (numbers : List ℤ) (fault : TileFault) → CanRead j.codec j.bitpix → HasNumbers j bytes numbers → ¬ HasFault j bytes fault
  no_fault_of j bytes numbers fault can h = unrefused j.codec (bits_of_pixel j) j.total j.pixels j.place bytes fault (can_read j can) (h.pixels, h.count, h.are)

  pub no_fault : (count : ℕ) (old new : List Slot) → AreForDecoding count old → HaveNumbers count old new
      → (i : ℕ) (d : Slot) (fault : TileFault) → i < count → ¬ HasFault (get_or old i d).job (record_of (get_or old i d)) fault
  no_fault count old new ready have i d fault near = no_fault_of (get_or old i d).job _ _ fault (ready i d near).codec (have i d near)

  -- of two lowest faults neither is below the other
  not_below : (count : ℕ) (old new others : List Slot) (i j : ℕ) (fault other : TileFault) → count ≤ length old → AreForDecoding count old
      → IsLowestFault count old new i fault → IsLowestFault count old others j other → ¬ (j < i)
  not_below count old new others i j fault other long ready a b below = let near = b.near in let d : Slot = some_of old j (omega arith) in
      no_fault_of (get_or old j d).job _ _ other (ready j d near).codec (a.below j d below) (b.is_fault d)

  pub one_lowest : (count : ℕ) (old new others : List Slot) (i j : ℕ) (fault other : TileFault) → count ≤ length old → AreForDecoding count old
      → IsLowestFault count old new i fault → IsLowestFault count old others j other → (j ≡ i) × (other ≡ fault)
  one_lowest count old new others i j fault other long ready a b =
      let near = b.near in let d : Slot = some_of old j (omega arith) in
      let same : j ≡ i = dite (dec_le i j)
      (λ (l : i ≤ j). dite (dec_le j i) (λ (g : j ≤ i). omega arith) (λ (g : ¬ (j ≤ i)). absurd (not_below count old others new j i other fault long ready b a (omega arith))))
      (λ (l : ¬ (i ≤ j)). absurd (not_below count old new others i j fault other long ready a b (omega arith))) in
      let at : HasFault (get_or old j d).job (record_of (get_or old j d)) fault = subst (λ (k : ℕ). HasFault (get_or old k d).job (record_of (get_or old k d)) fault) (sym same) (a.is_fault d) in
      let job : Job = (get_or old j d).job in
      (same, once job.codec (bits_of_pixel job) job.total job.pixels job.place (record_of (get_or old j d)) fault other (can_read job (ready j d near).codec) at (b.is_fault d))
