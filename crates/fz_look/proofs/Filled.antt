-- A band that is filled with the pixels of a box, tile by tile (FITS 4.0, sections 3.3.2 and 10.1).
use Rattle.std.proofs.Common.{◌≡◌, ℕ, ◌+◌, ◌-◌, ◌<◌, ◌≤◌, IsTrue, true, inl, inr, ℤ, pos, unsigned_abs, List, [], ◌∷◌, ◌++◌, length, map, take, drop, replicate, slice_index_or, Option, Some, None, IfSome, Result, Ok, Err, refl, sym, ap, ◌∙◌, subst, arith}
use Rattle.std.specs.List.{AllByRecursion}
use Rattle.std.proofs.lemmas.List.{append-nil, append_assoc, get_or_at, length-append, length-map, map-append, take_at}
use Rattle.std.proofs.lemmas.List.Elements.{All-nil}
use Rattle.fz_base.specs.Ranges.{LiesIn, LogsIn, LogsJoinLaw}
use Rattle.fz_base.specs.Sink.{overwrite}
use Rattle.fz_base.specs.Stop.{IfRefused}
use Rattle.fz_base.specs.declared.failure.Stop.{Stop}
use Rattle.fz_base.specs.declared.failure.Stop.TheVariants.{Refused, ReadFault, WriteFault, OverLimit, NoMemory}
use Rattle.fz_base.specs.declared.fault.Fault.{Fault}
use Rattle.fz_block.specs.declared.axes.Axes.{Axes}
use Rattle.fz_block.specs.declared.header.Header.{Header}
use Rattle.fz_grid.specs.Grid.{tile, tile_count}
use Rattle.fz_grid.specs.Laws.{JoinedIsArray}
use Rattle.fz_grid.specs.Overlap.{has_pixel}
use Rattle.fz_grid.specs.Region.{IsDivided, lengths_of}
use Rattle.fz_grid.specs.Sieve.{picked_tiles, sieve_hi, sieve_lo, sieve_step, tile_picks}
use Rattle.fz_grid.specs.declared.sieve.Sieve.{Sieve}
use Rattle.fz_grid.specs.Cutout.{Sifts, part_lengths, picked_numbers}
use Rattle.fz_table.specs.Records.{IsOfRow, record_bytes}
use Rattle.fz_table.specs.declared.record.Record.{Record}
use Rattle.fz_tile.specs.Codecs.{CanRead}
use Rattle.fz_tile.specs.Laws.{StandsUnrefused}
use Rattle.fz_tile.specs.Pixels.{IsBitpix}
use Rattle.fz_tile.specs.Plain.{AreBytes, plain_bytes}
use Rattle.fz_tile.specs.Record.{IsRecord}
use Rattle.fz_tile.specs.Refusals.{IsFault}
use Rattle.fz_tile.specs.declared.codec.Codec.{Codec}
use Rattle.fz_tile.specs.declared.coded.Place2.{Place2}
use Rattle.fz_checks.specs.declared.job_checks.PackedImage.{PackedImage}
use Rattle.fz_head.specs.declared.plan.Plan.{Plan}
use Rattle.fz_files.specs.Decided.{first_fault}
use Rattle.fz_files.specs.FirstFault.{IsFirstFault, IsRowFault, image_row, picked_tiles_of}
use Rattle.fz_files.specs.Packed.{pixel_bits, tiles_in}
use Rattle.fz_files.specs.Restored.{RecordMeans, RowStandsFor, RowsStandFor, is_image, pixels_of, place_in, plan_in}
use Rattle.fz_files.specs.RestoredFile.{image_array}
use Rattle.fz_files.specs.Touched.{touched_by}
use Rattle.fz_files.specs.Walks.{headers_for}
use Rattle.fz_files.specs.declared.job.Job.TheVariants.{Unpack}
use Rattle.fz_laws.specs.RoundTrip.{HasFirstFault, ImageArraysStand}
use Rattle.fz_fetch.specs.Fetched.{HoldsPixels, IsFetched}
use Rattle.fz_job.specs.Images.{fetched_ranges, IsReadable, IsSaid}
use Rattle.fz_pixels.specs.Laws.{JoinsRoundsOfParts, PartsMakeTheBytes}
use Rattle.fz_pixels.specs.Marks.{HoldsBetween, IsPartFetched}
use Rattle.fz_pixels.specs.Scattered.{part_written, parts_written}
use Rattle.fz_job.specs.declared.survey.Survey.{Survey}
use Rattle.fz_job.specs.Hdus.{DataAreOfHdus, KnownAreTouched, TilesAreOfImage, UnpacksWithin}
use Rattle.fz_job.specs.Known.{IsKnown}
use Rattle.fz_job.specs.Clauses.{IsOfSomeRow}
use Rattle.fz_look.specs.Boxes.{HasBox, HasPart}
use Rattle.fz_look.specs.Here.{here_of}
use Rattle.fz_look.specs.Laws.{IsKnownImage}
use Rattle.fz_look.specs.declared.here.Here.{Here}
use Rattle.fz_look.proofs.Hands.{header_same, here, image_here}
use Rattle.fz_look.proofs.Lengths.{array_lengths, array_whole}
use Rattle.fz_look.proofs.Touching.{standing_in, tile_logs}

-- ---- the rows of an image

-- a record stands for at most one list of so many pixels
abbrev pub StandsForOneList : Type 0
StandsForOneList =
    (codec : Codec) (bitpix total : ℕ) (place : Place2) (read : List ℕ) (xs ys : List ℤ) → CanRead codec (pos bitpix) → length ys ≡ length xs →
    IsRecord codec bitpix place total read xs → IsRecord codec bitpix place total read ys → ys ≡ xs

bits_are : (codec : Codec) (bitpix : ℤ) → CanRead codec bitpix → CanRead codec (pos (unsigned_abs bitpix))
bits_are codec bitpix can = by_size can.size
  where
    by_size : IsBitpix bitpix → CanRead codec (pos (unsigned_abs bitpix))
    by_size (inl e) = subst (λ b. CanRead codec (pos (unsigned_abs b))) (sym e) (subst (CanRead codec) e can)
    by_size (inr (inl e)) = subst (λ b. CanRead codec (pos (unsigned_abs b))) (sym e) (subst (CanRead codec) e can)
    by_size (inr (inr (inl e))) = subst (λ b. CanRead codec (pos (unsigned_abs b))) (sym e) (subst (CanRead codec) e can)
    by_size (inr (inr (inr e))) = subst (λ b. CanRead codec (pos (unsigned_abs b))) (sym e) (subst (CanRead codec) e can)

same_record : (found other : Record) (r : Result Record Fault) → r ≡ Ok found → r ≡ Ok other → found ≡ other
same_record found other r e f = cc

no_record : (found : Record) (fault : Fault) (r : Result Record Fault) → r ≡ Ok found → r ≡ Err fault → ⊥
no_record found fault r e f = absurd cc

module _ (g : List ℕ) (h : Header) (can : CanRead (plan_in g h).codec (pos (pixel_bits (plan_in g h)))) where
  one_row : StandsForOneList → (t : ℕ) (xs ys : List ℤ) → RowStandsFor g h t xs → RowStandsFor g h t ys → ys ≡ xs
  one_row one t xs ys a b =
      let p : Plan = plan_in g h in
      let same : b.found ≡ a.found = same_record b.found a.found _ b.chosen a.chosen in
      one p.codec (pixel_bits p) a.found.total (place_in a.found.column) (record_bytes g a.found) xs ys can
      (b.count ∙ sym a.count) a.means (subst (λ (f : Record). RecordMeans g p f ys) same b.means)

  never_faulty : StandsUnrefused → (t : ℕ) (xs : List ℤ) (x : Fault) → RowStandsFor g h t xs → IsRowFault g (image_row h t) x → ⊥
  never_faulty none t xs x row (inl refused) = no_record row.found x _ row.chosen refused
  never_faulty none t xs x row (inr faulty) =
      let p : Plan = plan_in g h in
      let same : faulty.1.found ≡ row.found = same_record faulty.1.found row.found _ faulty.1.chosen row.chosen in
      none p.codec (pixel_bits p) row.found.total (pixels_of p t) (place_in row.found.column) (record_bytes g row.found) faulty.0 can
      (xs, row.count, row.means)
      (subst (λ (f : Record). IsFault p.codec (pixel_bits p) (place_in f.column) f.total (record_bytes g f) (pixels_of p t) faulty.0) same faulty.1.fault)

module _ (arrays : ImageArraysStand) (faults : HasFirstFault) (one : StandsForOneList) (none : StandsUnrefused) (touches : KnownAreTouched Unpack) (tiles : TilesAreOfImage) (unpacks : UnpacksWithin) (hdus : DataAreOfHdus Unpack)
    (g : List ℕ) (s : Survey) (known : IsKnown Unpack g s) (h : Here) (found : here_of g h.read.header.hdu ≡ Some h) (i : PackedImage) (some : h.read.image ≡ Some i) where
  said : IsSaid g h.read.header i
  said = (image_here g s known h found i some).0

  -- the rows stand for the array
  rows_stand : AreBytes g → first_fault Unpack g ≡ None → RowsStandFor g h.read.header (image_array g h.read.header)
  rows_stand bytes sound =
      let a = here g s known h found in
      let all = standing_in g known.headers a.front a.header a.back a.parts in
      let first : IsFirstFault Unpack g None = subst (IsFirstFault Unpack g) sound (faults Unpack g bytes) in
      let count : length (headers_for Unpack g) ≡ length all.0 + length (a.header ∷ a.back) = ap length (known.are ∙ all.1) ∙ length-append all.0 (a.header ∷ a.back) in
      let there : slice_index_or (headers_for Unpack g) (length all.0) a.header ≡ a.header =
      ap (λ (l : List Header). slice_index_or l (length all.0) a.header) (known.are ∙ all.1) ∙ get_or_at all.0 a.header a.back a.header (length all.0) refl in
      let at : is_image g (slice_index_or (headers_for Unpack g) (length all.0) a.header) ≡ true → RowsStandFor g (slice_index_or (headers_for Unpack g) (length all.0) a.header) (image_array g (slice_index_or (headers_for Unpack g) (length all.0) a.header)) =
      arrays g first (length all.0) a.header (omega (arith, count)) in
      let same : slice_index_or (headers_for Unpack g) (length all.0) a.header ≡ h.read.header = there ∙ header_same g s known h found in
      subst (λ (e : Header). is_image g e ≡ true → RowsStandFor g e (image_array g e)) same at (image_here g s known h found i some).1

  pub is_known_image : AreBytes g → first_fault Unpack g ≡ None → IsReadable i → IsKnownImage g h.read.header i
  is_known_image bytes sound readable =
      let rows = rows_stand bytes sound in
      let plan : i.plan ≡ plan_in g h.read.header = sym said.plan in
      let can : CanRead (plan_in g h.read.header).codec (pos (pixel_bits (plan_in g h.read.header))) =
      subst (λ (p : Plan). CanRead p.codec (pos (pixel_bits p))) plan (bits_are i.plan.codec i.plan.bitpix readable.codec) in
      let low_in : (t : ℕ) → t < tiles_in i.plan → t < tiles_in (plan_in g h.read.header) = λ t low. subst (λ (p : Plan). t < tiles_in p) plan low in
      record {
        said = said;
        stands = λ t low. subst (λ (p : Plan). RowStandsFor g h.read.header t (tile (image_array g h.read.header) (lengths_of p.tile) t)) (sym plan) (rows.tiles t (low_in t low));
        rows = λ t xs low stands.
            one_row g h.read.header can one t (tile (image_array g h.read.header) (lengths_of (plan_in g h.read.header).tile) t) xs (rows.tiles t (low_in t low)) stands
            ∙ ap (λ (p : Plan). tile (image_array g h.read.header) (lengths_of p.tile) t) (sym plan);
        never = λ t x low. never_faulty g h.read.header can none t (tile (image_array g h.read.header) (lengths_of (plan_in g h.read.header).tile) t) x (rows.tiles t (low_in t low));
        touched = λ t old new low read. tile_logs g s known touches h found tiles unpacks hdus i t old new some low read;
      }

-- ---- tiles with a pixel in the box

-- a tile of the image that holds a pick
abbrev pub IsTileWithPick : Plan → Sieve → ℕ → Type 0
IsTileWithPick p sieve t = (t < tiles_in p) × IsTrue (has_pixel (part_lengths (lengths_of p.shape) (lengths_of p.tile) sieve t))

all_both : (P Q : ℕ → Type 0) (ts : List ℕ) → AllByRecursion P ts → AllByRecursion Q ts → AllByRecursion (λ t. P t × Q t) ts
all_both P Q [] ps qs = tt
all_both P Q (t ∷ ts) ps qs = ((ps.0, qs.0), all_both P Q ts ps.1 qs.1)

pub tiles_of_grid : (p : Plan) (sieve : Sieve) (shape tile : Axes) (left : List ℕ) → shape ≡ p.shape → tile ≡ p.tile →
    left ≡ picked_tiles (lengths_of shape) (lengths_of tile) (sieve_lo sieve) (sieve_hi sieve) (sieve_step sieve) → left ≡ picked_tiles_of p sieve
tiles_of_grid p sieve shape tile left same_shape same_tile is =
    is ∙ (λ i. picked_tiles (lengths_of (same_shape i)) (lengths_of (same_tile i)) (sieve_lo sieve) (sieve_hi sieve) (sieve_step sieve))

pub tiles_with_pick : (p : Plan) (sieve : Sieve) (shape tile : Axes) (left : List ℕ) → shape ≡ p.shape → tile ≡ p.tile →
    AllByRecursion (λ t. IsTrue (has_pixel (tile_picks (lengths_of shape) (lengths_of tile) (sieve_lo sieve) (sieve_hi sieve) (sieve_step sieve) t))) left →
    AllByRecursion (λ t. t < tile_count (lengths_of shape) (lengths_of tile)) left → AllByRecursion (IsTileWithPick p sieve) left
tiles_with_pick p sieve shape tile left same_shape same_tile picked inside =
    let have : (s t : Axes) → ℕ → Type 0 =
    λ s t u. IsTrue (has_pixel (tile_picks (lengths_of s) (lengths_of t) (sieve_lo sieve) (sieve_hi sieve) (sieve_step sieve) u)) in
    let low : (s t : Axes) → ℕ → Type 0 = λ s t u. u < tile_count (lengths_of s) (lengths_of t) in
    let inside' : AllByRecursion (low p.shape p.tile) left =
    subst (λ (s : Axes). AllByRecursion (low s p.tile) left) same_shape (subst (λ (t : Axes). AllByRecursion (low shape t) left) same_tile inside) in
    let picked' : AllByRecursion (have p.shape p.tile) left =
    subst (λ (s : Axes). AllByRecursion (have s p.tile) left) same_shape (subst (λ (t : Axes). AllByRecursion (have shape t) left) same_tile picked) in
    all_both (low p.shape p.tile) (have p.shape p.tile) left inside' picked'

pub first_left : (P : ℕ → Type 0) (t : ℕ) (left behind : List ℕ) → left ≡ t ∷ behind → AllByRecursion P left → P t × AllByRecursion P behind
first_left P t left behind is all = let parts = subst (AllByRecursion P) is all in (parts.0, parts.1)

-- ---- the band so far

-- the parts of the first tiles are in the band, where the bytes are shown, and the others are left
pub record IsFilling (held : Option (List ℕ)) (h : Header) (p : Plan) (sieve : Sieve) (left before now : List ℕ) : Type 0 where
  pub front : List ℕ
  pub parts : picked_tiles_of p sieve ≡ front ++ left
  pub told : IfSome held (λ g. Some now ≡ parts_written p sieve 0 front (map (tile (image_array g h) (lengths_of p.tile)) front) (Some before))

none_told : (held : Option (List ℕ)) (h : Header) (p : Plan) (sieve : Sieve) (before : List ℕ) → IfSome held (λ g. Some before ≡ parts_written p sieve 0 [] (map (tile (image_array g h) (lengths_of p.tile)) []) (Some before))
none_told None h p sieve before = tt
none_told (Some g) h p sieve before = refl

pub none_filled : (held : Option (List ℕ)) (h : Header) (p : Plan) (sieve : Sieve) (left before : List ℕ) → left ≡ picked_tiles_of p sieve → IsFilling held h p sieve left before before
none_filled held h p sieve left before is = record { front = []; parts = sym is; told = none_told held h p sieve before }

one_told : JoinsRoundsOfParts → (held : Option (List ℕ)) (h : Header) (p : Plan) (sieve : Sieve) (front : List ℕ) (t : ℕ) (before mid now : List ℕ) → IfSome held (λ g. HasPart g h p sieve t mid now) →
    IfSome held (λ g. Some mid ≡ parts_written p sieve 0 front (map (tile (image_array g h) (lengths_of p.tile)) front) (Some before)) →
    IfSome held (λ g. Some now ≡ parts_written p sieve 0 (front ++ t ∷ []) (map (tile (image_array g h) (lengths_of p.tile)) (front ++ t ∷ [])) (Some before))
one_told joins None h p sieve front t before mid now put told = tt
one_told joins (Some g) h p sieve front t before mid now put told =
    let T : ℕ → List ℤ = tile (image_array g h) (lengths_of p.tile) in
    put
    ∙ ap (part_written p sieve 0 t (T t)) told
    ∙ sym (joins p sieve 0 front (t ∷ []) (map T front) (T t ∷ []) (Some before) (length-map front T))
    ∙ ap (λ xs. parts_written p sieve 0 (front ++ t ∷ []) xs (Some before)) (sym (map-append T front (t ∷ [])))

pub one_filled : JoinsRoundsOfParts → (held : Option (List ℕ)) (h : Header) (p : Plan) (sieve : Sieve) (t : ℕ) (left behind : List ℕ) (before mid now : List ℕ) → left ≡ t ∷ behind → IfSome held (λ g. HasPart g h p sieve t mid now) →
    IsFilling held h p sieve left before mid → IsFilling held h p sieve behind before now
one_filled joins held h p sieve t left behind before mid now next put done = record {
  front = done.front ++ t ∷ [];
  parts = done.parts ∙ ap (λ l. done.front ++ l) next ∙ sym (append_assoc done.front (t ∷ []) behind);
  told = one_told joins held h p sieve done.front t before mid now put done.told;
}

-- ---- the part of one tile

-- if the whole tile was read
pub whole_put : (held : Option (List ℕ)) (h : Header) (i : PackedImage) (sieve : Sieve) (t : ℕ) (numbers : List ℤ) (before now : List ℕ) → t < tiles_in i.plan → IfSome held (λ g. IsKnownImage g h i) → IsFetched held h i.plan t numbers →
    ((xs : List ℤ) → HoldsPixels i.plan t numbers xs → Some now ≡ part_written i.plan sieve 0 t xs (Some before)) → IfSome held (λ g. HasPart g h i.plan sieve t before now)
whole_put None h i sieve t numbers before now low known fetched put = tt
whole_put (Some g) h i sieve t numbers before now low known fetched put =
    put fetched.pixels fetched.hold ∙ ap (λ xs. part_written i.plan sieve 0 t xs (Some before)) (known.rows t fetched.pixels low fetched.told)

-- if a part of it was
pub part_put : (held : Option (List ℕ)) (h : Header) (i : PackedImage) (sieve : Sieve) (t first end : ℕ) (numbers : List ℤ) (before now : List ℕ) → t < tiles_in i.plan → IfSome held (λ g. IsKnownImage g h i) →
    IsPartFetched held h i.plan t first end numbers → ((xs : List ℤ) → HoldsBetween i.plan t first end numbers xs → Some now ≡ part_written i.plan sieve 0 t xs (Some before)) →
    IfSome held (λ g. HasPart g h i.plan sieve t before now)
part_put None h i sieve t first end numbers before now low known fetched put = tt
part_put (Some g) h i sieve t first end numbers before now low known fetched put =
    let T : List ℤ = tile (image_array g h) (lengths_of i.plan.tile) t in
    put T (fetched.told T (known.stands t low))

-- ---- all of them

front_is : (bytes band : List ℕ) → take (length bytes) (overwrite 0 bytes band) ≡ bytes
front_is [] band = refl
front_is (b ∷ bytes) band =
    let none : 0 - length band ≡ 0 = omega arith in
    ap (λ n. take (length (b ∷ bytes)) (take 0 band ++ replicate n 0 ++ (b ∷ bytes) ++ drop (0 + length (b ∷ bytes)) band)) none
    ∙ take_at (b ∷ bytes) (drop (0 + length (b ∷ bytes)) band) (length (b ∷ bytes)) refl

same_band : (now written : List ℕ) → ◌≡◌ {A = Option (List ℕ)} (Some now) (Some written) → now ≡ written
same_band now written is = cc

pub all_filled : JoinedIsArray → PartsMakeTheBytes → (held : Option (List ℕ)) (h : Header) (i : PackedImage) (sieve : Sieve) (left before now : List ℕ) → left ≡ [] → IsDivided i.plan.shape i.plan.tile → IsBitpix i.plan.bitpix →
    Sifts (lengths_of i.plan.shape) sieve → IfSome held (λ g. IsKnownImage g h i) → IsFilling held h i.plan sieve left before now → IfSome held (λ g. HasBox g h sieve now)
all_filled array whole None h i sieve left before now none divided size sifts known done = tt
all_filled array whole (Some g) h i sieve left before now none divided size sifts known done =
    let p : Plan = i.plan in
    let plan : p ≡ plan_in g h = sym known.said.plan in
    let every : done.front ≡ picked_tiles_of p sieve = sym (done.parts ∙ ap (λ l. done.front ++ l) none ∙ append-nil done.front) in
    let bytes : List ℕ = plain_bytes (pixel_bits p) (picked_numbers (image_array g h) sieve) in
    let lengths = array_lengths g h ∙ ap (λ (q : Plan). lengths_of q.shape) (sym plan) in
    let all : Some now ≡ Some (overwrite 0 bytes before) =
    done.told ∙ ap (λ ts. parts_written p sieve 0 ts (map (tile (image_array g h) (lengths_of p.tile)) ts) (Some before)) every
    ∙ whole p sieve 0 (image_array g h) (Some before) divided size sifts (array_whole g h array) lengths in
    subst (λ (q : Plan). let b = plain_bytes (pixel_bits q) (picked_numbers (image_array g h) sieve) in take (length b) now ≡ b) plan
    (ap (take (length bytes)) (same_band now (overwrite 0 bytes before) all) ∙ front_is bytes before)

-- ---- one tile

module _ (h : Header) (i : PackedImage) where
  pub said_of : (held : Option (List ℕ)) → IfSome held (λ g. IsKnownImage g h i) → IfSome held (λ g. IsSaid g h i)
  said_of None known = tt
  said_of (Some g) known = known.said

  -- its row is not refused
  pub never_of : (X Y : Type 0) (held : Option (List ℕ)) (stop : Stop) (t : ℕ) → t < tiles_in i.plan → IfSome held (λ g. IsKnownImage g h i) → IfRefused {X = X} (Err stop) (λ x. IfSome held (λ g. IsRowFault g (image_row h t) x)) →
      IfSome held (λ g. IfRefused {X = Y} (Err stop) (λ x. ⊥))
  never_of X Y None stop t low known fault = tt
  never_of X Y (Some g) (Refused x) t low known fault = known.never t x low fault
  never_of X Y (Some g) ReadFault t low known fault = tt
  never_of X Y (Some g) WriteFault t low known fault = tt
  never_of X Y (Some g) (OverLimit live asked limit) t low known fault = tt
  never_of X Y (Some g) NoMemory t low known fault = tt

  pub touched_of : (held : Option (List ℕ)) (t : ℕ) (old new : Option (List (ℕ × ℕ))) → t < tiles_in i.plan → IfSome held (λ g. IsKnownImage g h i) → IfSome held (λ g. LogsIn (fetched_ranges g h (t ∷ [])) old new) →
      IfSome held (λ g. LogsIn (touched_by Unpack g) old new)
  touched_of None t old new low known read = tt
  touched_of (Some g) t old new low known read = known.touched t old new low read

pub some_row : (X Y : Type 0) (stop : Stop) (hdu t : ℕ) → IfRefused {X = X} (Err stop) (IsOfRow hdu t) → IfRefused {X = Y} (Err stop) IsOfSomeRow
some_row X Y (Refused x) hdu t row = (t, row.1)
some_row X Y ReadFault hdu t row = tt
some_row X Y WriteFault hdu t row = tt
some_row X Y (OverLimit live asked limit) hdu t row = tt
some_row X Y NoMemory hdu t row = tt

-- nothing was refused, if the call succeeded
pub never_ok : (X : Type 0) (x : X) (held : Option (List ℕ)) → IfSome held (λ g. IfRefused {X = X} (Ok x) (λ y. ⊥))
never_ok X x None = tt
never_ok X x (Some g) = tt

-- no bytes were read
pub none_read : (held : Option (List ℕ)) (R : List ℕ → List (ℕ × ℕ)) (old : Option (List (ℕ × ℕ))) → IfSome held (λ g. LogsIn (R g) old old)
none_read None R old = tt
none_read (Some g) R old = nothing (R g) old
  where
    nothing : (ranges : List (ℕ × ℕ)) (same : Option (List (ℕ × ℕ))) → LogsIn ranges same same
    nothing ranges None = ([], All-nil (λ read. (byte : ℕ) → read.0 ≤ byte → byte < read.0 + read.1 → LiesIn ranges byte), refl)
    nothing ranges (Some rs) = ([], All-nil (λ read. (byte : ℕ) → read.0 ≤ byte → byte < read.0 + read.1 → LiesIn ranges byte), ap Some (sym (append-nil rs)))

pub both_read : LogsJoinLaw → (held : Option (List ℕ)) (R : List ℕ → List (ℕ × ℕ)) (old mid new : Option (List (ℕ × ℕ))) → IfSome held (λ g. LogsIn (R g) old mid) → IfSome held (λ g. LogsIn (R g) mid new) → IfSome held (λ g. LogsIn (R g) old new)
both_read join None R old mid new one two = tt
both_read join (Some g) R old mid new one two = join (R g) old mid new one two
