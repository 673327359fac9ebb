-- One tile: its old pixels are fetched, those of PATCH put over them, and the new ones encoded (FITS 4.0, section 10.1.3).
use Rattle.std.proofs.Common.{◌≡◌, inl, inr, ℕ, zero, suc, ◌+◌, ◌*◌, ◌^◌, ◌<◌, ◌≤◌, ℤ, pos, List, [], ◌∷◌, length, replicate, take, Option, Some, None, Err, refl, sym, ap, subst, ◌∙◌, arith, slice_get, slice_index_or}
use Rattle.std.specs.Prelude.{IfSome}
use Rattle.fz_base.specs.Counts.{CountsKept, Tally}
use Rattle.fz_base.specs.Stop.{StoppedByRead}
use Rattle.fz_base.specs.declared.failure.Stop.{Stop}
use Rattle.fz_base.specs.declared.failure.Stop.TheVariants.{Refused, ReadFault, WriteFault, OverLimit, NoMemory}
use Rattle.fz_base.specs.declared.fault.Fault.{Fault}
use Rattle.fz_block.specs.declared.header.Header.{Header}
use Rattle.fz_fetch.specs.Fetched.{AreFetched, HasTile, IsOfRowAmong}
use Rattle.fz_job.specs.Images.{HaveRoom, IsSaid}
use Rattle.fz_fetch.specs.Stops.{StoppedFetching}
use Rattle.fz_files.specs.FirstFault.{IsFirstRowFault, image_row}
use Rattle.fz_files.specs.Packed.{pixel_bits}
use Rattle.fz_files.specs.Restored.{RowStandsFor, pixels_of}
use Rattle.fz_checks.specs.declared.job_checks.PackedImage.{PackedImage}
use Rattle.fz_head.specs.declared.plan.Plan.{Plan}
use Rattle.fz_laws.specs.NewNumbers.{new_numbers}
use Rattle.fz_pool.specs.Calls.{AreEncoded, AreForEncoding}
use Rattle.fz_pool.specs.Slots.{IsEncoded, IsForEncoding, bits_of_pixel, places_of}
use Rattle.fz_pool.specs.Window.{IsFilled, IsPut, Pool, slot_sizes}
use Rattle.fz_pool.specs.declared.slot.Job.{Job}
use Rattle.fz_pool.specs.declared.slot.Slot.{Slot}
use Rattle.fz_tile.specs.Codecs.{CanRead, CanWrite}
use Rattle.fz_tile.specs.Laws.{StandsUnrefused}
use Rattle.fz_tile.specs.Pixels.{HoldPixels, place_count}
use Rattle.fz_tile.specs.TileCode.{IsWritten, TileCode, tile_code}
use Rattle.fz_target.specs.Ends.{ReadsTiles, StoppedTile}
use Rattle.fz_target.specs.Targets.{IsGivenTo, IsTarget, IsTargetIn, given_at}
use Rattle.fz_target.specs.Tiles.{HasCode, HasFirst, HasNewCode, HasSomeCode, IsFilledSlot, encoding_job}
use Rattle.fz_target.specs.Told.{IfBoth}
use Rattle.fz_target.specs.declared.target.Target.{Target}
use Rattle.fz_target.proofs.Pieces.{count_twice}
use Rattle.fz_target.proofs.Unrefused.{CanReadTiles, StandsForOneList, bits_are, one_row, row_unrefused}
use Rattle.fz_table.specs.Records.{IsOfRow}

-- ---- slot 0

first_slot : (slots : List Slot) (d x : Slot) → slice_get slots 0 ≡ Some x → slice_index_or slots 0 d ≡ x
first_slot [] d x e = absurd cc
first_slot (y ∷ slots) d x e = cc

pub has_code : (code : TileCode) (y : Slot) → IsWritten code y.job.place y.job.len y.code → HasCode code y
has_code code y is = (λ i. record { place = is.place_is i; bytes = is.bytes_are i }, is.len_is)

module _ (t : Target) (tile : ℕ) (given : Option (List ℕ)) (x y : Slot) (filled : IsFilledSlot t tile given x y) where
  -- it is ready to be encoded
  pub slot_ready : CanWrite t.image.plan.codec t.image.plan.bitpix → IsForEncoding y
  slot_ready can =
      let n : ℕ = filled.room.0 in
      let m : ℕ = pixels_of t.image.plan tile in
      let numbers : length y.numbers ≡ 2 * n = ap (λ (s : ℕ × ℕ). s.0) filled.room.1 in
      let code : length y.code ≡ 8 * n + 64 = ap (λ (s : ℕ × ℕ). s.1) filled.room.1 in
      let most : m ≤ n = filled.room.2 in
      let all : place_count (pixel_bits t.image.plan) m ≤ 2 * m = count_twice (pixel_bits t.image.plan) m in
      let places : places_of (encoding_job t tile) ≤ length y.numbers = omega (arith, all, numbers, most) in
      record {
        codec = subst (λ (j : Job). CanWrite j.codec j.bitpix) (sym filled.job) can;
        pixels = subst (λ (j : Job). (1 ≤ j.pixels) × (j.pixels ≤ 2 ^ 26)) (sym filled.job) filled.few;
        places = subst (λ (j : Job). places_of j ≤ length y.numbers) (sym filled.job) places;
        hold = (filled.some.0, subst (λ (j : Job). HoldPixels (bits_of_pixel j) (take (places_of j) y.numbers) filled.some.0) (sym filled.job) filled.some.1.hold);
        room = subst (λ (j : Job). 8 * j.pixels + 64 ≤ length y.code) (sym filled.job) (omega (arith, code, most));
      }

  -- and then has the code of its pixels
  pub slot_coded : (z : Slot) (zs : List ℤ) → IsEncoded y z → HasTile t.image.plan tile y zs → HasCode (tile_code t.image.plan.codec (pixel_bits t.image.plan) zs) z
  slot_coded z zs coded has =
      let hold : HoldPixels (bits_of_pixel y.job) (take (places_of y.job) y.numbers) zs = subst (λ (j : Job). HoldPixels (bits_of_pixel j) (take (places_of j) y.numbers) zs) (sym filled.job) has.hold in
      has_code (tile_code t.image.plan.codec (pixel_bits t.image.plan) zs) z
      (subst (λ (j : Job). IsWritten (tile_code j.codec (bits_of_pixel j) zs) z.job.place z.job.len z.code) filled.job (coded.written zs hold))

-- the same of the window

module _ (t : Target) (tile : ℕ) (given : Option (List ℕ)) (x y : Slot) (before now after : Pool) (put : IsPut before 0 y now) (filled : IsFilledSlot t tile given x y) where
  pub first_ready : CanWrite t.image.plan.codec t.image.plan.bitpix → AreForEncoding 1 now.slots
  first_ready can i d low = at_zero i low
    where
      at_zero : (k : ℕ) → k < 1 → IsForEncoding (slice_index_or now.slots k d)
      at_zero zero less = subst IsForEncoding (sym (put.here d)) (slot_ready t tile given x y filled can)
      at_zero (suc k) less = absurd (omega (arith, less))

  first_coded : AreEncoded 1 now.slots after.slots → (zs : List ℤ) → HasTile t.image.plan tile y zs → HasFirst (HasCode (tile_code t.image.plan.codec (pixel_bits t.image.plan) zs)) after
  first_coded coded zs has d =
      let one : IsEncoded (slice_index_or now.slots 0 d) (slice_index_or after.slots 0 d) = coded 0 d (omega arith) in
      slot_coded t tile given x y filled (slice_index_or after.slots 0 d) zs (subst (λ (s : Slot). IsEncoded s (slice_index_or after.slots 0 d)) (put.here d) one) has

  pub some_code : AreEncoded 1 now.slots after.slots → IsFilled after → 1 ≤ after.workers → HasSomeCode t.image.plan tile after
  some_code coded full workers =
      let zs : List ℤ = filled.some.0 in
      let has : HasTile t.image.plan tile y zs = filled.some.1 in
      let count : length zs ≡ pixels_of t.image.plan tile = has.count in
      record {
        pixels = zs;
        count = count;
        some = omega (arith, count, filled.few.0);
        few = omega (arith, count, filled.few.1);
        numbers = has.hold.pixels;
        filled = full;
        workers = workers;
        code = first_coded coded zs has;
      }

  -- the code of the new pixels, where the row of the file stands for those that were fetched
  pub new_first : StandsForOneList → (held : Option (List ℕ)) → slice_get before.slots 0 ≡ Some x → AreEncoded 1 now.slots after.slots → IsTarget t → IfSome held (λ f. IsTargetIn f t) →
      AreFetched held t.header t.image.plan (tile ∷ []) before.slots →
      IfBoth held given (λ f p. (corner : List ℕ) → IsGivenTo corner p t → HasNewCode f t.header t.image.plan (given_at corner p) tile after)
  new_first one held was coded is said fetched = by_held held said fetched.told given filled.new
    where
      ys : List ℤ
      ys = slice_index_or fetched.pixels 0 []

      fetched_is : HasTile t.image.plan tile x ys
      fetched_is = subst (λ (s : Slot). HasTile t.image.plan tile s ys) (first_slot before.slots x x was) (fetched.have.each 0 x [] (omega arith))

      by_held : (h : Option (List ℕ)) → IfSome h (λ f. IsTargetIn f t) → IfSome h (λ f. (i : ℕ) (e : List ℤ) → i < 1 → RowStandsFor f t.header (slice_index_or (tile ∷ []) i 0) (slice_index_or fetched.pixels i e)) →
          (g : Option (List ℕ)) → IfSome g (λ p. (corner : List ℕ) (xs : List ℤ) → IsGivenTo corner p t → HasTile t.image.plan tile x xs → HasTile t.image.plan tile y (new_numbers t.image.plan (given_at corner p) tile xs)) →
          IfBoth h g (λ f p. (corner : List ℕ) → IsGivenTo corner p t → HasNewCode f t.header t.image.plan (given_at corner p) tile after)
      by_held None in_file told g new = tt
      by_held (Some f) in_file told None new = tt
      by_held (Some f) in_file told (Some p) new = λ corner to xs row.
          let stands : RowStandsFor f t.header tile ys = told 0 [] (omega arith) in
          let can : CanReadTiles f t.header = subst (λ q. CanRead q.codec (pos (pixel_bits q))) (sym in_file.said.plan) (bits_are t.image.plan.codec t.image.plan.bitpix is.readable.codec) in
          let same : ys ≡ xs = one_row one f t.header tile xs ys can row stands in
          first_coded coded (new_numbers t.image.plan (given_at corner p) tile xs) (new corner xs to (subst (HasTile t.image.plan tile x) same fetched_is))

-- ---- what a call keeps

pub said_of : (t : Target) (held : Option (List ℕ)) → IfSome held (λ f. IsTargetIn f t) → IfSome held (λ f. IsSaid f t.header t.image)
said_of t None said = tt
said_of t (Some f) said = said.said

pub room_still : (image : PackedImage) (w w' : Pool) → slot_sizes w'.slots ≡ slot_sizes w.slots → w'.workers ≡ w.workers → HaveRoom image w → HaveRoom image w'
room_still image w w' sizes workers room = (room.0, sizes ∙ (room.1 ∙ ap (λ n. replicate (2 * n) (2 * room.0, 8 * room.0 + 64)) (sym workers)), room.2)

-- ---- the row

pub row_sound : (held : Option (List ℕ)) (h : Header) (p : Plan) (tile : ℕ) (slots : List Slot) → AreFetched held h p (tile ∷ []) slots → IfSome held (λ f. IsFirstRowFault f (image_row h tile ∷ []) None)
row_sound held h p tile slots fetched = by_held held fetched.told
  where
    by_held : (k : Option (List ℕ)) → IfSome k (λ f. (i : ℕ) (e : List ℤ) → i < 1 → RowStandsFor f h (slice_index_or (tile ∷ []) i 0) (slice_index_or fetched.pixels i e)) → IfSome k (λ f. IsFirstRowFault f (image_row h tile ∷ []) None)
    by_held None told = tt
    by_held (Some f) told = ((slice_index_or fetched.pixels 0 [], told 0 [] (omega arith)), tt)

-- pixels that were fetched are in slot 0
pub first_fetched : (held : Option (List ℕ)) (h : Header) (p : Plan) (tile : ℕ) (w : Pool) → AreFetched held h p (tile ∷ []) w.slots → (xs : List ℤ) × HasFirst (λ (x : Slot). HasTile p tile x xs) w
first_fetched held h p tile w fetched = (slice_index_or fetched.pixels 0 [], λ d. fetched.have.each 0 d [] (omega arith))

-- a row that is refused stands for no pixels
pub refused_row : StandsUnrefused → (t : Target) (tile : ℕ) (held : Option (List ℕ)) (x : Fault) → IsTarget t → IfSome held (λ f. IsTargetIn f t) → IfSome held (λ f. IsFirstRowFault f (image_row t.header tile ∷ []) (Some x)) →
    IfSome held (λ f. (xs : List ℤ) → ¬ RowStandsFor f t.header tile xs)
refused_row unrefused t tile None x is said fault = tt
refused_row unrefused t tile (Some f) x is said fault = λ xs row. by_side xs row fault
  where
    can : CanReadTiles f t.header
    can = subst (λ q. CanRead q.codec (pos (pixel_bits q))) (sym said.said.plan) (bits_are t.image.plan.codec t.image.plan.bitpix is.readable.codec)

    by_side : (xs : List ℤ) → RowStandsFor f t.header tile xs → IsFirstRowFault f (image_row t.header tile ∷ []) (Some x) → ⊥
    by_side xs row (inl here) = row_unrefused unrefused f t.header tile xs x can row here
    by_side xs row (inr later) = later.1

pub of_one_row : (hdu tile : ℕ) (x : Fault) → IsOfRowAmong hdu (tile ∷ []) x → IsOfRow hdu tile x
of_one_row hdu tile x (zero, less, of_row) = of_row
of_one_row hdu tile x (suc i, less, of_row) = absurd (omega (arith, less))

-- ---- why it stopped

same_counts : (t : Tally) → CountsKept t t
same_counts t = record { faults_kept = omega arith; wants_kept = omega arith; faults_stay = λ e. e; wants_stay = λ e. e; names_kept = refl; not_amended = refl }

pub fetch_stopped : {X : Type 0} (store store' patch : Tally) (stop : Stop) → CountsKept store store' → StoppedFetching store store' stop → ReadsTiles {X = X} store store' patch patch (Err stop)
fetch_stopped store store' patch stop kept why = record { store_kept = kept; patch_kept = same_counts patch; ok = tt; stop = by_stop stop why }
  where
    by_stop : (s : Stop) → StoppedFetching store store' s → StoppedTile store store' patch patch s
    by_stop (Refused x) same = (same, refl)
    by_stop ReadFault rose = inl rose
    by_stop WriteFault none = none
    by_stop (OverLimit live asked limit) none = none
    by_stop NoMemory any = tt

pub put_stopped : {X : Type 0} (store store' patch patch' : Tally) (stop : Stop) → CountsKept store store' → store' ≡ store → CountsKept patch patch' → StoppedByRead patch patch' stop → ReadsTiles {X = X} store store' patch patch' (Err stop)
put_stopped store store' patch patch' stop of_store same kept why = record { store_kept = of_store; patch_kept = kept; ok = tt; stop = by_stop stop why }
  where
    by_stop : (s : Stop) → StoppedByRead patch patch' s → StoppedTile store store' patch patch' s
    by_stop (Refused x) none = absurd none
    by_stop ReadFault rose = inr rose
    by_stop WriteFault none = none
    by_stop (OverLimit live asked limit) none = none
    by_stop NoMemory any = tt
