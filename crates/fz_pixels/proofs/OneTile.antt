-- One tile that was read and decoded without a window: its row stands for the pixels, or is refused.
use Rattle.std.proofs.Common.{◌≡◌, ℕ, ◌≤◌, ◌^◌, inl, inr, ℤ, List, [], ◌∷◌, length, take, Option, Some, None, IfSome, Result, Ok, Err, OnOk, ◌↔◌, refl, sym, ap, ◌∙◌, subst}
use Rattle.std.proofs.lemmas.List.{append-nil}
use Rattle.fz_base.specs.Ranges.{LogsIn}
use Rattle.fz_base.specs.Refusal.{refusal}
use Rattle.fz_base.specs.Stop.{IfRefused}
use Rattle.fz_base.specs.declared.failure.Stop.{Stop}
use Rattle.fz_base.specs.declared.failure.Stop.TheVariants.{Refused, ReadFault, WriteFault, OverLimit, NoMemory}
use Rattle.fz_base.specs.declared.fault.Fault.{Fault}
use Rattle.fz_base.specs.declared.fault.Place.TheVariants.{Row as AtRow}
use Rattle.fz_block.specs.declared.header.Header.{Header}
use Rattle.fz_table.specs.Reads.{tile_ranges}
use Rattle.fz_table.specs.Records.{IsOfRow, record_bytes}
use Rattle.fz_table.specs.declared.record.Record.{Record}
use Rattle.fz_tile.specs.Pixels.{HoldPixels, HoldTile, pixel_count, place_count}
use Rattle.fz_tile.specs.Record.{IsRecord}
use Rattle.fz_tile.specs.Refusals.{IsFault}
use Rattle.fz_tile.specs.declared.codec.Codec.{Codec}
use Rattle.fz_tile.specs.declared.coded.Place2.{Place2}
use Rattle.fz_tile.specs.declared.fault.TileFault.{TileFault}
use Rattle.fz_checks.specs.TileKinds.{kind_of_tile}
use Rattle.fz_checks.specs.declared.job_checks.PackedImage.{PackedImage}
use Rattle.fz_head.specs.declared.plan.Plan.{Plan}
use Rattle.fz_files.specs.FirstFault.{IsRowFault, image_row}
use Rattle.fz_files.specs.Packed.{pixel_bits}
use Rattle.fz_files.specs.Restored.{RecordMeans, RowStandsFor, pixels_of, place_in, tile_of}
use Rattle.fz_pixels.specs.Decoded.{Decodes, MeansPixels}
use Rattle.fz_fetch.specs.Fetched.{IsFetched}
use Rattle.fz_job.specs.Images.{fetched_ranges, IsSaid}
use Rattle.fz_fetch.specs.Loaded.{IsRecordIn, IsRefusedIn, tiles_ranges}
use Rattle.fz_pixels.proofs.FetchedTiles.{chosen_in, fetched_in}
use Rattle.fz_pixels.proofs.PixelBytes.{count_pixels}

-- ---- decoding

-- places of a tile's pixels hold a tile
pub tile_held : (bits n count : ℕ) → count ≡ place_count bits n → 1 ≤ n → n ≤ 2 ^ 26 → HoldTile bits count
tile_held bits n count is some most =
    let back : pixel_count bits count ≡ n = ap (pixel_count bits) is ∙ count_pixels bits n in
    record { even = is ∙ ap (place_count bits) (sym back); some = subst (λ k. 1 ≤ k) (sym back) some; most = subst (λ k. k ≤ 2 ^ 26) (sym back) most }

-- what an answer of a decoding says, case by case
pub decoded_as : {X : Type 0} (codec : Codec) (bits : ℕ) (place : Place2) (total n : ℕ) (bytes : List ℕ) (numbers : List ℤ) (r : Result X TileFault)
    → OnOk r ((xs : List ℤ) × (length xs ≡ n) × IsRecord codec bits place total bytes xs × HoldPixels bits numbers xs)
    → ((why : TileFault) → (r ≡ Err why) ↔ IsFault codec bits place total bytes n why) → Decodes codec bits place total n bytes numbers r
decoded_as codec bits place total n bytes numbers (Ok x) (xs, count, are, hold) faults = record { pixels = xs; count = count; are = are; hold = hold }
decoded_as codec bits place total n bytes numbers (Err why) ok faults = (faults why).0 refl

-- ---- the row in the file

module _ (h : Header) (image : PackedImage) (t : ℕ) (found : Record) (bytes : List ℕ) where
  -- what the bytes of its record stand for, the row stands for
  row_stands : (file : List ℕ) → IsSaid file h image → IsRecordIn file h.hdu image t found → bytes ≡ record_bytes file found → (xs : List ℤ) → length xs ≡ pixels_of image.plan t
      → IsRecord image.plan.codec (pixel_bits image.plan) (place_in found.column) found.total bytes xs → RowStandsFor file h t xs
  row_stands file said chosen same xs count are = record {
    found = found;
    chosen = chosen_in file h image t said ∙ chosen;
    count = count ∙ sym (ap (λ (p : Plan). pixels_of p t) said.plan);
    means = subst (λ (p : Plan). RecordMeans file p found xs) (sym said.plan)
        (subst (λ (b : List ℕ). IsRecord image.plan.codec (pixel_bits image.plan) (place_in found.column) found.total b xs) same are);
  }

  pub stands_told : (held : Option (List ℕ)) → IfSome held (λ file. IsSaid file h image) → IfSome held (λ file. IsRecordIn file h.hdu image t found) → IfSome held (λ file. bytes ≡ record_bytes file found)
      → (xs : List ℤ) → length xs ≡ pixels_of image.plan t → IsRecord image.plan.codec (pixel_bits image.plan) (place_in found.column) found.total bytes xs
      → IfSome held (λ file. RowStandsFor file h t xs)
  stands_told None said chosen same xs count are = tt
  stands_told (Some file) said chosen same xs count are = row_stands file said chosen same xs count are

  -- where they stand for nothing, the row is refused for that
  row_faulty : (file : List ℕ) → IsSaid file h image → IsRecordIn file h.hdu image t found → bytes ≡ record_bytes file found → (why : TileFault)
      → IsFault image.plan.codec (pixel_bits image.plan) (place_in found.column) found.total bytes (pixels_of image.plan t) why
      → IsRowFault file (image_row h t) (refusal h.hdu (AtRow t) (kind_of_tile why))
  row_faulty file said chosen same why fault = inr (
    why,
    record {
      found = found;
      chosen = chosen_in file h image t said ∙ chosen;
      fault = subst (λ (p : Plan). IsFault p.codec (pixel_bits p) (place_in found.column) found.total (record_bytes file found) (pixels_of p t) why) (sym said.plan)
          (subst (λ (b : List ℕ). IsFault image.plan.codec (pixel_bits image.plan) (place_in found.column) found.total b (pixels_of image.plan t) why) same fault);
    },
    refl,
  )

  pub faulty_told : (held : Option (List ℕ)) → IfSome held (λ file. IsSaid file h image) → IfSome held (λ file. IsRecordIn file h.hdu image t found) → IfSome held (λ file. bytes ≡ record_bytes file found)
      → (why : TileFault) → IsFault image.plan.codec (pixel_bits image.plan) (place_in found.column) found.total bytes (pixels_of image.plan t) why
      → IfSome held (λ file. IsRowFault file (image_row h t) (refusal h.hdu (AtRow t) (kind_of_tile why)))
  faulty_told None said chosen same why fault = tt
  faulty_told (Some file) said chosen same why fault = row_faulty file said chosen same why fault

  -- the numbers are those of the tile
  pub fetched_told : (held : Option (List ℕ)) → IfSome held (λ file. IsSaid file h image) → IfSome held (λ file. IsRecordIn file h.hdu image t found) → IfSome held (λ file. bytes ≡ record_bytes file found)
      → (numbers : List ℤ)
      → MeansPixels image.plan.codec (pixel_bits image.plan) (place_in found.column) found.total (pixels_of image.plan t) bytes (take (place_count (pixel_bits image.plan) (pixels_of image.plan t)) numbers)
      → IsFetched held h image.plan t numbers
  fetched_told held said chosen same numbers is = record {
    pixels = is.pixels;
    hold = record { count = is.count; hold = is.hold };
    told = stands_told held said chosen same is.pixels is.count is.are;
  }

  -- ---- answers

  pub faulty_answer : (X : Type 0) (held : Option (List ℕ)) (stop : Stop) (why : TileFault) → stop ≡ Refused (refusal h.hdu (AtRow t) (kind_of_tile why))
      → IfSome held (λ file. IsSaid file h image) → IfSome held (λ file. IsRecordIn file h.hdu image t found) → IfSome held (λ file. bytes ≡ record_bytes file found)
      → IsFault image.plan.codec (pixel_bits image.plan) (place_in found.column) found.total bytes (pixels_of image.plan t) why
      → IfRefused {X = X} (Err stop) (λ x. IfSome held (λ file. IsRowFault file (image_row h t) x))
  faulty_answer X held stop why is said chosen same fault =
      subst (λ (s : Stop). IfRefused {X = X} (Err s) (λ x. IfSome held (λ file. IsRowFault file (image_row h t) x))) (sym is) (faulty_told held said chosen same why fault)

pub names_row : (X : Type 0) (hdu t : ℕ) (stop : Stop) (why : TileFault) → stop ≡ Refused (refusal hdu (AtRow t) (kind_of_tile why)) → IfRefused {X = X} (Err stop) (IsOfRow hdu t)
names_row X hdu t stop why is = subst (λ (s : Stop). IfRefused {X = X} (Err s) (IsOfRow hdu t)) (sym is) (refl, refl)

-- a row that no record was found for is refused
refused_in : (held : Option (List ℕ)) (h : Header) (image : PackedImage) (t : ℕ) (x : Fault) → IfSome held (λ file. IsSaid file h image) → IfSome held (λ file. IsRefusedIn file h.hdu image t x)
    → IfSome held (λ file. IsRowFault file (image_row h t) x)
refused_in None h image t x said is = tt
refused_in (Some file) h image t x said is = inl (chosen_in file h image t said ∙ is)

pub refused_told : {X : Type 0} (held : Option (List ℕ)) (h : Header) (image : PackedImage) (t : ℕ) (r : Result X Stop) → IfSome held (λ file. IsSaid file h image)
    → IfRefused r (λ x. IfSome held (λ file. IsRefusedIn file h.hdu image t x)) → IfRefused r (λ x. IfSome held (λ file. IsRowFault file (image_row h t) x))
refused_told held h image t (Ok x) said is = tt
refused_told held h image t (Err (Refused x)) said is = refused_in held h image t x said is
refused_told held h image t (Err ReadFault) said is = tt
refused_told held h image t (Err WriteFault) said is = tt
refused_told held h image t (Err (OverLimit live asked limit)) said is = tt
refused_told held h image t (Err NoMemory) said is = tt

-- ---- ranges

in_one : (held : Option (List ℕ)) (h : Header) (image : PackedImage) (t : ℕ) (old new : Option (List (ℕ × ℕ))) → IfSome held (λ file. LogsIn (tile_ranges file h.hdu image.table t (tile_of image.plan t)) old new)
    → IfSome held (λ file. LogsIn (tiles_ranges file h.hdu image (t ∷ [])) old new)
in_one None h image t old new logs = tt
in_one (Some file) h image t old new logs =
    subst (λ (rs : List (ℕ × ℕ)). LogsIn rs old new) (sym (append-nil (tile_ranges file h.hdu image.table t (tile_of image.plan t)))) logs

pub fetched_one : (held : Option (List ℕ)) (h : Header) (image : PackedImage) (t : ℕ) (old new : Option (List (ℕ × ℕ))) → IfSome held (λ file. IsSaid file h image)
    → IfSome held (λ file. LogsIn (tile_ranges file h.hdu image.table t (tile_of image.plan t)) old new) → IfSome held (λ file. LogsIn (fetched_ranges file h (t ∷ [])) old new)
fetched_one held h image t old new said logs = fetched_in held h image (t ∷ []) old new said (in_one held h image t old new logs)
