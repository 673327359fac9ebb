-- Tiles that were loaded and then decoded: their pixels, and the first fault of their rows.
use Rattle.std.proofs.Common.{◌≡◌, ℕ, ◌<◌, ◌≤◌, inl, inr, ℤ, List, [], ◌∷◌, ◌++◌, length, map, take, slice_index, slice_index_or, Option, Some, None, IfSome, Err, refl, sym, ap, ◌∙◌, subst, arith}
use Rattle.fz_base.specs.Ranges.{LogsIn}
use Rattle.fz_base.specs.Refusal.{refusal}
use Rattle.fz_base.specs.Stop.{IfRefused}
use Rattle.fz_base.specs.declared.failure.Stop.{Stop}
use Rattle.fz_base.specs.declared.failure.Stop.TheVariants.{Refused}
use Rattle.fz_base.specs.declared.fault.Fault.{Fault}
use Rattle.fz_base.specs.declared.fault.Place.TheVariants.{Row as AtRow}
use Rattle.fz_block.specs.declared.header.Header.{Header}
use Rattle.fz_table.specs.Reads.{tile_ranges}
use Rattle.fz_table.specs.Records.{record_at, record_bytes}
use Rattle.fz_table.specs.declared.record.Record.{Record}
use Rattle.fz_table.specs.declared.table.Table.{Table}
use Rattle.fz_tile.specs.Pixels.{HoldPixels}
use Rattle.fz_tile.specs.Record.{IsRecord}
use Rattle.fz_tile.specs.Refusals.{IsFault}
use Rattle.fz_tile.specs.declared.fault.TileFault.{TileFault}
use Rattle.fz_checks.specs.TileKinds.{kind_of_tile}
use Rattle.fz_checks.specs.declared.job_checks.PackedImage.{PackedImage}
use Rattle.fz_head.specs.declared.plan.Plan.{Plan}
use Rattle.fz_files.specs.Cutout.{ranges_of_row}
use Rattle.fz_files.specs.FirstFault.{IsFirstRowFault, IsRowFault, IsRowSound, image_row}
use Rattle.fz_files.specs.Packed.{pixel_bits}
use Rattle.fz_files.specs.Restored.{RecordMeans, RowStandsFor, image_table, pixels_of, place_in, plan_in, tile_of}
use Rattle.fz_pool.specs.Calls.{AreForDecoding, HaveNumbers, IsLowestFault}
use Rattle.fz_pool.specs.Laws.{DecodesTiles}
use Rattle.fz_pool.specs.Round.{AreTilesOf, IsTileOf}
use Rattle.fz_pool.specs.Slots.{HasFault, bits_of_pixel, places_of, record_of}
use Rattle.fz_pool.specs.Window.{fresh_slot}
use Rattle.fz_pool.specs.declared.slot.Job.{Job}
use Rattle.fz_pool.specs.declared.slot.Slot.{Slot}
use Rattle.fz_fetch.specs.Fetched.{AreFetched, HasTile, IsOfRowAmong, RowsGive, TellsRowFault}
use Rattle.fz_job.specs.Images.{fetched_ranges, IsSaid}
use Rattle.fz_fetch.specs.Loaded.{AreLoaded, IsRecordIn, IsRefusedIn, tiles_ranges}
use Rattle.fz_fetch.specs.Tiles.{decoding_job}
use Rattle.fz_fetch.proofs.Faults.{first_fault_at}

-- ---- one tile

-- a record of the image is that of the row in the file
pub chosen_in : (file : List ℕ) (h : Header) (image : PackedImage) (t : ℕ) → IsSaid file h image
    → record_at file h.hdu (image_table file h) t (tile_of (plan_in file h) t) ≡ record_at file h.hdu image.table t (tile_of image.plan t)
chosen_in file h image t said =
    ap (λ (s : Table). record_at file h.hdu s t (tile_of (plan_in file h) t)) said.table ∙ ap (λ (p : Plan). record_at file h.hdu image.table t (tile_of p t)) said.plan

-- what the bytes of a slot are a record of, the row stands for
stands : (file : List ℕ) (h : Header) (image : PackedImage) (t : ℕ) (x : Slot) (found : Record) (xs : List ℤ) → IsSaid file h image → x.job ≡ decoding_job image.plan t found
    → IsRecordIn file h.hdu image t found → record_of x ≡ record_bytes file found
    → length xs ≡ x.job.pixels → IsRecord x.job.codec (bits_of_pixel x.job) x.job.place x.job.total (record_of x) xs → RowStandsFor file h t xs
stands file h image t x found xs said job chosen bytes count are = record {
  found = found;
  chosen = chosen_in file h image t said ∙ chosen;
  count = count ∙ ap (λ (j : Job). j.pixels) job ∙ sym (ap (λ (p : Plan). pixels_of p t) said.plan);
  means = subst (λ (p : Plan). RecordMeans file p found xs) (sym said.plan)
      (subst (λ (b : List ℕ). IsRecord image.plan.codec (pixel_bits image.plan) (place_in found.column) found.total b xs) bytes
      (subst (λ (j : Job). IsRecord j.codec (bits_of_pixel j) j.place j.total (record_of x) xs) job are));
}

-- where the bytes of a slot are no record, the row is refused for that
faulty_row : (file : List ℕ) (h : Header) (image : PackedImage) (t : ℕ) (x : Slot) (found : Record) (why : TileFault) → IsSaid file h image → x.job ≡ decoding_job image.plan t found
    → IsRecordIn file h.hdu image t found → record_of x ≡ record_bytes file found → HasFault x.job (record_of x) why
    → IsRowFault file (image_row h t) (refusal h.hdu (AtRow t) (kind_of_tile why))
faulty_row file h image t x found why said job chosen bytes fault = inr (
  why,
  record {
    found = found;
    chosen = chosen_in file h image t said ∙ chosen;
    fault = subst (λ (p : Plan). IsFault p.codec (pixel_bits p) (place_in found.column) found.total (record_bytes file found) (pixels_of p t) why) (sym said.plan)
        (subst (λ (b : List ℕ). IsFault image.plan.codec (pixel_bits image.plan) (place_in found.column) found.total b (pixels_of image.plan t) why) bytes
        (subst (λ (j : Job). IsFault j.codec (bits_of_pixel j) j.place j.total (record_of x) j.pixels why) job fault));
  },
  refl,
)

-- the slot that came of a record has the pixels of its tile
has_tile : (p : Plan) (t : ℕ) (x y : Slot) (found : Record) (xs : List ℤ) → x.job ≡ decoding_job p t found → IsTileOf x y xs → HasTile p t y xs
has_tile p t x y found xs job tile = record {
  count = tile.count ∙ ap (λ (j : Job). j.pixels) job;
  hold = subst (λ (j : Job). HoldPixels (bits_of_pixel j) (take (places_of j) y.numbers) xs) job tile.hold;
}

-- ---- all tiles

module _ (h : Header) (image : PackedImage) (tiles : List ℕ) where
  -- rows whose slots have numbers are sound
  sound : (file : List ℕ) → IsSaid file h image → (count : ℕ) (old new : List Slot) → AreLoaded (Some file) h.hdu image tiles count old → (near : ℕ) → near ≤ count → HaveNumbers near old new
      → (k : ℕ) → k < near → IsRowSound file (image_row h (slice_index tiles k))
  sound file said count old new loaded near within have k below =
      let d : Slot = fresh_slot 0 in
      let is = loaded k d (omega (arith, within, below)) in
      let numbers = have k d below in
      (numbers.pixels, stands file h image (slice_index tiles k) (slice_index_or old k d) is.found numbers.pixels said is.job is.told.0 is.told.1 numbers.count numbers.are)

  -- tiles that are loaded and have their numbers are fetched
  pub fetched : DecodesTiles → (held : Option (List ℕ)) → IfSome held (λ file. IsSaid file h image) → (count : ℕ) (old new : List Slot) → count ≡ length tiles → count ≤ length old → count ≤ length new
      → AreLoaded held h.hdu image tiles count old → HaveNumbers count old new → AreFetched held h image.plan tiles new
  fetched decodes held said count old new all room room' loaded have =
      let found = decodes count old new room room' have in
      record {
        pixels = found.0;
        have = record {
          count = found.1 ∙ all;
          each = λ i d e near.
              let is = loaded i d (omega (arith, near, all)) in
              has_tile image.plan (slice_index tiles i) (slice_index_or old i d) (slice_index_or new i d) is.found (slice_index_or found.0 i e) is.job (found.2 i d e (omega (arith, near, all, found.1)));
        };
        told = give held said loaded found.0 found.1 found.2;
      }
    where
      give : (h' : Option (List ℕ)) → IfSome h' (λ file. IsSaid file h image) → AreLoaded h' h.hdu image tiles count old → (pixels : List (List ℤ)) → length pixels ≡ count → AreTilesOf old new pixels
          → IfSome h' (λ file. RowsGive file h tiles pixels)
      give None said loaded pixels size are = tt
      give (Some file) said loaded pixels size are = λ i e near.
          let d : Slot = fresh_slot 0 in
          let is = loaded i d (omega (arith, near, all)) in
          let tile = are i d e (omega (arith, near, all, size)) in
          stands file h image (slice_index tiles i) (slice_index_or old i d) is.found (slice_index_or pixels i e) said is.job is.told.0 is.told.1 tile.count tile.are

  -- the lowest fault of a decoding is the first fault of the rows
  pub first_in_slots : (held : Option (List ℕ)) → IfSome held (λ file. IsSaid file h image) → (count : ℕ) (old new : List Slot) → count ≤ length tiles → AreLoaded held h.hdu image tiles count old
      → (i : ℕ) (why : TileFault) → IsLowestFault count old new i why
      → IfSome held (λ file. IsFirstRowFault file (map (image_row h) tiles) (Some (refusal h.hdu (AtRow (slice_index tiles i)) (kind_of_tile why))))
  first_in_slots None said count old new few loaded i why lowest = tt
  first_in_slots (Some file) said count old new few loaded i why lowest =
      let d : Slot = fresh_slot 0 in
      let near : i < count = lowest.near in
      let is = loaded i d near in
      first_fault_at file h tiles i (refusal h.hdu (AtRow (slice_index tiles i)) (kind_of_tile why)) (omega (arith, near, few))
      (sound file said count old new loaded i (omega (arith, near)) lowest.below)
      (faulty_row file h image (slice_index tiles i) (slice_index_or old i d) is.found why said is.job is.told.0 is.told.1 (lowest.is_fault d))

  -- where no slot has one, the row after them that was refused has it
  pub first_behind : (held : Option (List ℕ)) → IfSome held (λ file. IsSaid file h image) → (count : ℕ) (old new : List Slot) → count < length tiles → AreLoaded held h.hdu image tiles count old
      → HaveNumbers count old new → (x : Fault) → IfSome held (λ file. IsRefusedIn file h.hdu image (slice_index tiles count) x)
      → IfSome held (λ file. IsFirstRowFault file (map (image_row h) tiles) (Some x))
  first_behind None said count old new near loaded have x refused = tt
  first_behind (Some file) said count old new near loaded have x refused =
      first_fault_at file h tiles count x near (sound file said count old new loaded count (omega arith) have) (inl (chosen_in file h image (slice_index tiles count) said ∙ refused))

  -- ready slots are loaded ones
  pub ready : (held : Option (List ℕ)) (count : ℕ) (slots : List Slot) → AreLoaded held h.hdu image tiles count slots → AreForDecoding count slots
  ready held count slots loaded i d near = (loaded i d near).ready

-- ---- ranges

-- what is read for tiles of the image is what is touched in the file
ranges_same : (file : List ℕ) (h : Header) (image : PackedImage) → IsSaid file h image → (tiles : List ℕ) → tiles_ranges file h.hdu image tiles ≡ fetched_ranges file h tiles
ranges_same file h image said [] = refl
ranges_same file h image said (t ∷ ts) =
    let one : tile_ranges file h.hdu image.table t (tile_of image.plan t) ≡ ranges_of_row file (image_row h t) =
    ap (λ (s : Table). tile_ranges file h.hdu s t (tile_of image.plan t)) (sym said.table) ∙ ap (λ (p : Plan). tile_ranges file h.hdu (image_table file h) t (tile_of p t)) (sym said.plan) in
    ap (λ l. l ++ tiles_ranges file h.hdu image ts) one ∙ ap (λ l. ranges_of_row file (image_row h t) ++ l) (ranges_same file h image said ts)

pub fetched_in : (held : Option (List ℕ)) (h : Header) (image : PackedImage) (tiles : List ℕ) (old new : Option (List (ℕ × ℕ))) → IfSome held (λ file. IsSaid file h image)
    → IfSome held (λ file. LogsIn (tiles_ranges file h.hdu image tiles) old new) → IfSome held (λ file. LogsIn (fetched_ranges file h tiles) old new)
fetched_in None h image tiles old new said logs = tt
fetched_in (Some file) h image tiles old new said logs = subst (λ (rs : List (ℕ × ℕ)). LogsIn rs old new) (ranges_same file h image said tiles) logs

-- ---- answers

-- an answer that refuses the rows for their first fault tells it
pub tells : (X : Type 0) (held : Option (List ℕ)) (h : Header) (tiles : List ℕ) (stop : Stop) (x : Fault) → stop ≡ Refused x
    → IfSome held (λ file. IsFirstRowFault file (map (image_row h) tiles) (Some x)) → TellsRowFault {X = X} held h tiles (Err stop)
tells X held h tiles stop x is first = subst (λ (s : Stop). TellsRowFault {X = X} held h tiles (Err s)) (sym is) first

-- and one that refuses the row of a tile names it
pub names : (X : Type 0) (hdu : ℕ) (tiles : List ℕ) (i : ℕ) (why : TileFault) (stop : Stop) → i < length tiles
    → stop ≡ Refused (refusal hdu (AtRow (slice_index tiles i)) (kind_of_tile why)) → IfRefused {X = X} (Err stop) (IsOfRowAmong hdu tiles)
names X hdu tiles i why stop near is = subst (λ (s : Stop). IfRefused {X = X} (Err s) (IsOfRowAmong hdu tiles)) (sym is) (i, near, (refl, refl))
