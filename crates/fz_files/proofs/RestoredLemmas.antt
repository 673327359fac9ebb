-- A packed file stands for at most one file.
use Rattle.std.proofs.Common.{◌≡◌, ℕ, ◌<◌, ◌≤◌, Bool, true, false, ℤ, pos, slice_index, List, [], ◌∷◌, ◌++◌, length, replicate, Option, Some, None, if◌then◌else◌, refl, sym, subst, ◌∙◌, ap, ◌-◌}
use Rattle.std.proofs.Math.Seq.{take-append_seam}
use Rattle.std.proofs.Math.ListN.{get_or-append}
use Rattle.std.proofs.lemmas.List.FromFn.{length-map-range_with_len}
use Rattle.fz_base.specs.declared.fault.Fault.{Fault}
use Rattle.fz_block.specs.Checks.{walk_of}
use Rattle.fz_block.specs.Facts.{nine_axes}
use Rattle.fz_block.specs.Hdus.{cards_of}
use Rattle.fz_block.specs.declared.header.Header.{Header}
use Rattle.fz_grid.specs.Arrays.{NumberArray}
use Rattle.fz_grid.specs.Division.{AreTileLengths}
use Rattle.fz_grid.specs.Grid.{tile, tile_count}
use Rattle.fz_grid.specs.Laws.{TilesMakeOneArray}
use Rattle.fz_grid.specs.Region.{IsDivided, lengths_of}
use Rattle.fz_tile.specs.Codecs.{CanRead}
use Rattle.fz_tile.specs.Record.{IsRecord}
use Rattle.fz_tile.specs.declared.codec.Codec.{Codec}
use Rattle.fz_tile.specs.declared.coded.Place2.{Place2}
use Rattle.fz_table.specs.Records.{record_bytes}
use Rattle.fz_table.specs.declared.record.Record.{Record}
use Rattle.fz_checks.specs.Judges.{unpack_judge}
use Rattle.fz_head.specs.PackedPlan.{plan_of_cards, said_axes, said_tile, tile_along}
use Rattle.fz_head.specs.PlainHeader.{axis_count}
use Rattle.fz_head.specs.declared.plan.Plan.{Plan}
use Rattle.fz_files.specs.declared.job.Job.{Job}
use Rattle.fz_files.specs.declared.job.Job.TheVariants.{Unpack}
use Rattle.fz_files.specs.FirstFault.{IsFaultBehind}
use Rattle.fz_files.specs.Packed.{pixel_bits}
use Rattle.fz_files.specs.Restored.{RowStandsFor, RowsStandFor, RecordMeans, StandsForAs, HduStandsFor, HdusStandFor, header_in, image_bytes, is_image, is_packed_primary, place_in, plan_in, standing}
use Rattle.fz_files.specs.StandsFor.{StandsFor}
use Rattle.fz_files.specs.Walks.{header_fault, headers_for, found_headers, job_walk}
use Rattle.fz_files.proofs.ImageLemmas.{UnpackFindsImage, EachIs, IsReadable, ReadableIf, unpacked_readable}
use Rattle.fz_files.proofs.FaultLemmas.{WalkFindsHeaders, found_walk, readable_plan, same_record}

-- a record stands for at most one list of so many pixels
abbrev pub StandsForOneList : Type 0
StandsForOneList =
    (codec : Codec) (bitpix total : ℕ) (place : Place2) (read : List ℕ) (xs ys : List ℤ) → CanRead codec (pos bitpix) → length ys ≡ length xs →
    IsRecord codec bitpix place total read xs → IsRecord codec bitpix place total read ys → ys ≡ xs

-- ---- the tiles of an image

pub axes_again : (lengths : List ℕ) → lengths_of (nine_axes lengths) ≡ lengths
axes_again lengths = take-append_seam lengths (replicate (9 - length lengths) 0)

-- the lengths of a tile, which divides the array
tile_lengths_are : (lengths tile : List ℕ) → length tile ≡ length lengths → IsDivided (nine_axes lengths) (nine_axes tile) → AreTileLengths lengths tile
tile_lengths_are lengths tile same divided = record {
  axes = same;
  positive = λ i less.
      let some : 1 ≤ slice_index (tile ++ replicate (9 - length tile) 0) i = divided.positive i less in
      let here : slice_index (tile ++ replicate (9 - length tile) 0) i ≡ slice_index tile i = get_or-append tile (replicate (9 - length tile) 0) 0 i (subst (λ n. i < n) (sym same) less) in
      subst (λ n. 1 ≤ n) here some;
}

pub cards_divide : (cards : List (List ℕ)) → IsDivided (plan_of_cards cards).shape (plan_of_cards cards).tile →
    AreTileLengths (lengths_of (plan_of_cards cards).shape) (lengths_of (plan_of_cards cards).tile)
unfolding plan_of_cards
cards_divide cards divided =
    let axes : List ℕ = said_axes cards in
    let tile : List ℕ = said_tile cards in
    let same : length tile ≡ length axes = length-map-range_with_len (tile_along cards) 1 (axis_count cards) ∙ sym (length-map-range_with_len _ 1 (axis_count cards)) in
    subst (λ l. AreTileLengths l (lengths_of (nine_axes tile))) (sym (axes_again axes))
    (subst (λ l. AreTileLengths axes l) (sym (axes_again tile)) (tile_lengths_are axes tile same divided))

-- ---- an image

pub one_row : StandsForOneList → (file : List ℕ) (h : Header) (t : ℕ) (xs ys : List ℤ) → IsReadable file h → RowStandsFor file h t xs → RowStandsFor file h t ys → ys ≡ xs
one_row one file h t xs ys is a b =
    let p : Plan = plan_in file h in
    let same : b.found ≡ a.found = same_record b.found a.found _ b.chosen a.chosen in
    one p.codec (pixel_bits p) a.found.total (place_in a.found.column) (record_bytes file a.found) xs ys (readable_plan file h is)
    (b.count ∙ sym a.count) a.means (subst (λ (f : Record). RecordMeans file p f ys) same b.means)

one_array : StandsForOneList → TilesMakeOneArray → (file : List ℕ) (h : Header) (a b : NumberArray) → IsReadable file h → RowsStandFor file h a → RowsStandFor file h b → a ≡ b
one_array one make file h a b is of_a of_b =
    let p : Plan = plan_in file h in
    make a b (lengths_of p.tile) (subst (λ l. AreTileLengths l (lengths_of p.tile)) (sym of_a.lengths) (cards_divide (cards_of (header_in file h)) is.divided))
    of_a.whole of_b.whole (of_a.lengths ∙ sym of_b.lengths)
    (λ t less.
    let inside : t < tile_count (lengths_of p.shape) (lengths_of p.tile) = subst (λ l. t < tile_count l (lengths_of p.tile)) of_a.lengths less in
    sym (one_row one file h t (tile a (lengths_of p.tile) t) (tile b (lengths_of p.tile) t) is (of_a.tiles t inside) (of_b.tiles t inside)))

one_hdu : StandsForOneList → TilesMakeOneArray → (file : List ℕ) (h : Header) (x y : List ℕ) → ReadableIf file h → HduStandsFor file h x → HduStandsFor file h y → x ≡ y
one_hdu one make file h x y is of_x of_y = by_packed (is_image file h) is of_x of_y
  where
    by_packed : (packed : Bool) → (packed ≡ true → IsReadable file h) → StandsForAs packed file h x → StandsForAs packed file h y → x ≡ y
    by_packed true is of_x of_y =
        let same : of_x.array ≡ of_y.array = one_array one make file h of_x.array of_y.array (is refl) of_x.rows of_y.rows in
        of_x.image ∙ (ap (image_bytes (plan_in file h) (cards_of (header_in file h))) same ∙ sym of_y.image)
    by_packed false is of_x of_y = of_x ∙ sym of_y

-- ---- the file

one_list : StandsForOneList → TilesMakeOneArray → (file : List ℕ) (hs : List Header) (x y : List ℕ) → EachIs (ReadableIf file) hs → HdusStandFor file hs x → HdusStandFor file hs y → x ≡ y
one_list one make file [] x y are of_x of_y = of_x ∙ sym of_y
one_list one make file (h ∷ hs) x y are (front, back, parts, here, rest) (front', back', parts', here', rest') =
    let same : front ≡ front' = one_hdu one make file h front front' are.0 here here' in
    let behind : back ≡ back' = one_list one make file hs back back' are.1 rest rest' in
    parts ∙ ((λ i. same i ++ behind i) ∙ sym parts')

standing_are : (file : List ℕ) (P : Header → Type 0) (hs : List Header) → EachIs P hs → EachIs P (standing file hs)
standing_are file P [] are = tt
standing_are file P (h ∷ []) are = are
standing_are file P (h ∷ (k ∷ hs)) are = by_test (is_packed_primary file k)
  where
    by_test : (packed : Bool) → EachIs P (if packed then k ∷ hs else h ∷ k ∷ hs)
    by_test true = are.1
    by_test false = are

-- a file without a fault has none in its headers
pub no_header_fault : (refused : Option Fault) (job : Job) (file : List ℕ) → IsFaultBehind refused job file None → refused ≡ None
no_header_fault None job file is = refl
no_header_fault (Some fault) job file is = absurd cc

sound_headers : WalkFindsHeaders → UnpackFindsImage → (file : List ℕ) → header_fault Unpack file ≡ None → EachIs (ReadableIf file) (headers_for Unpack file)
unfolding job_walk
sound_headers finds law file none =
    let found = found_walk Unpack file (walk_of (unpack_judge file) 65536 file) none in
    let walk = finds (unpack_judge file) 65536 file found.0 found.1 in
    subst (λ r. EachIs (ReadableIf file) (found_headers r)) (sym found.1)
    (unpacked_readable law 0 0 walk.3.0 file found.0 walk.3.2 walk.2)

pub one_file : StandsForOneList → TilesMakeOneArray → WalkFindsHeaders → UnpackFindsImage → (file restored other : List ℕ) → StandsFor file restored → StandsFor file other → restored ≡ other
one_file one make finds law file restored other a b =
    one_list one make file (standing file (headers_for Unpack file)) restored other
    (standing_are file (ReadableIf file) (headers_for Unpack file) (sound_headers finds law file (no_header_fault (header_fault Unpack file) Unpack file a.sound)))
    a.parts b.parts
