-- The pixels of a box: one tile after another is put to its places, and then all of them are there.
use Rattle.std.proofs.Common.{◌≡◌, ◌⊎◌, inl, inr, ℕ, ◌+◌, ◌-◌, ◌<◌, ℤ, List, [], ◌∷◌, length, take, drop, refl, sym, ap, ◌∙◌, subst, arith}
use Rattle.std.specs.List.{AllByRecursion}
use Rattle.std.specs.Prelude.{Contains, slice_index}
use Rattle.fz_grid.specs.declared.sieve.Sieve.{Sieve}
use Rattle.fz_table.specs.declared.record.Record.{Record}
use Rattle.fz_tile.specs.Pixels.{places}
use Rattle.fz_tile.specs.Record.{IsRecord}
use Rattle.fz_tile.specs.declared.fault.TileFault.{TileFault}
use Rattle.fz_head.specs.declared.plan.Plan.{Plan}
use Rattle.fz_checks.specs.TileKinds.{kind_of_tile}
use Rattle.fz_checks.specs.declared.job_checks.PackedImage.{PackedImage}
use Rattle.fz_flat.specs.Boxes.{HasRecord, MeansTile, SaysRecord, TileStops, TilesStop, bytes_of, picked_in}
use Rattle.fz_flat.specs.Boxes.TileStops.{faulty}
use Rattle.fz_flat.specs.Cutting.{HasPick, PlacesTile, in_box, in_tile, width_of}
use Rattle.fz_flat.specs.Placed.{HasPixelsOf, IsNearer, pixel_in}
use Rattle.fz_flat.specs.Rows.{TileIsFaulty, TileMeans}
use Rattle.fz_flat.specs.Tiles.{pixel_bits, pixels_of, place_in, places_of, tiles_in}
use Rattle.fz_flat.specs.declared.stops.Stopped.{Stopped}
use Rattle.fz_flat.specs.declared.stops.Why.TheVariants.{Refused}
use Rattle.fz_flat.proofs.PlacedLemmas.{done_by, is_first, is_later, kept_by, none_in, split_first}

-- ---- one tile

module _ (image : PackedImage) (from : ℕ) (rows : List ℕ) (at : ℕ) (codes : List ℕ) (t : ℕ) (found : Record) (start : ℕ) where
  -- what was read of its record
  pub bytes_are : start ≡ found.start - at → take (start + found.read - start) (drop start codes) ≡ bytes_of at codes found
  bytes_are is =
      let many : start + found.read - start ≡ found.read = omega arith in
      ap (λ n. take n (drop start codes)) many ∙ ap (λ n. take found.read (drop n codes)) is

  pub faulty_tile : (code : List ℕ) (stop : Stopped) → SaysRecord image from rows t found → HasRecord at codes found → start ≡ found.start - at → code ≡ take (start + found.read - start) (drop start codes)
      → stop.tile ≡ t → (fault : TileFault) → TileIsFaulty image.plan t found code fault → stop.why ≡ Refused (kind_of_tile fault) → TileStops image from rows at codes stop
  faulty_tile code stop says there is code_is same fault is_faulty why =
      faulty found (subst (λ n. SaysRecord image from rows n found) (sym same) says) there fault
      (subst (λ n. TileIsFaulty image.plan n found (bytes_of at codes found) fault) (sym same) (subst (λ l. TileIsFaulty image.plan t found l fault) (code_is ∙ bytes_are is) is_faulty)) why

pub places_tile : (image : PackedImage) (sieve : Sieve) (from : ℕ) (rows : List ℕ) (at : ℕ) (codes : List ℕ) (t : ℕ) (found : Record) (start : ℕ) (before numbers : List ℤ) (count : ℕ) (old new : List ℤ)
    → SaysRecord image from rows t found → HasRecord at codes found → start ≡ found.start - at
    → TileMeans image.plan t found (take (start + found.read - start) (drop start codes)) before numbers → count ≡ places_of image.plan t
    → ((k : ℕ) → k < length (in_tile image.plan sieve t) → slice_index (in_tile image.plan sieve t) k < pixels_of image.plan t)
    → ((whole : List ℤ) → HasPixelsOf (width_of image.plan) whole (in_box image.plan sieve t) (take count numbers) (in_tile image.plan sieve t) → IsNearer (width_of image.plan) whole old new (in_box image.plan sieve t))
    → PlacesTile image sieve from rows at codes t old new
places_tile image sieve from rows at codes t found start before numbers count old new says there is means count_is inside placed =
    let b : ℕ = pixel_bits image.plan in
    let numbers_are : take count numbers ≡ places b means.pixels = ap (λ n. take n numbers) count_is ∙ means.hold.are in
    record {
      pixels = means.pixels;
      means = record {
        found = found;
        says = says;
        record_there = there;
        count = means.count;
        means = subst (λ (l : List ℕ). IsRecord image.plan.codec b (place_in found.column) found.total l means.pixels) (bytes_are image from rows at codes t found start is) means.are;
      };
      inside = λ k low. subst (λ n. slice_index (in_tile image.plan sieve t) k < n) (sym means.count) (inside k low);
      nearer = λ whole has. placed whole (subst (λ (l : List ℤ). HasPixelsOf (width_of image.plan) whole (in_box image.plan sieve t) l (in_tile image.plan sieve t)) (sym numbers_are) has);
    }

-- ---- one tile after another

module _ (image : PackedImage) (sieve : Sieve) (from : ℕ) (rows : List ℕ) (at : ℕ) (codes : List ℕ) where
  abbrev picked : List ℕ
  picked = picked_in image.plan sieve

  abbrev w : ℕ
  w = width_of image.plan

  abbrev Means : ℕ → List ℤ → Type 0
  Means t xs = MeansTile image from rows at codes t xs

  -- a tile stands for some pixels, and the places of those that are in the box are among them
  pub record Stands (t : ℕ) : Type 0 where
    pub pixels : List ℤ
    pub means : Means t pixels
    pub inside : (k : ℕ) → k < length (in_tile image.plan sieve t) → slice_index (in_tile image.plan sieve t) k < length pixels

  -- a whole has the pixels of all tiles
  abbrev pub FitsAll : List ℤ → Type 0
  FitsAll whole = (t : ℕ) → Contains picked t → (xs : List ℤ) → Means t xs → ((k : ℕ) → k < length (in_tile image.plan sieve t) → slice_index (in_tile image.plan sieve t) k < length xs)
      → HasPixelsOf w whole (in_box image.plan sieve t) (places (pixel_bits image.plan) xs) (in_tile image.plan sieve t)

  -- each place is as it was, or as in the whole, and those of these tiles are as in the whole
  pub record AreNearer (whole old now : List ℤ) (ts : List ℕ) : Type 0 where
    pub each : (i : ℕ) → (pixel_in w now i ≡ pixel_in w old i) ⊎ (pixel_in w now i ≡ pixel_in w whole i)
    pub there : (t : ℕ) → Contains ts t → (i : ℕ) → Contains (in_box image.plan sieve t) i → pixel_in w now i ≡ pixel_in w whole i

  module _ (before : List ℤ) where
    -- with those that are left all is done
    pub record AreGone (left : List ℕ) (mid : List ℤ) : Type 0 where
      pub part : (t : ℕ) → Contains left t → Contains picked t
      pub stand : ((t : ℕ) → Contains left t → Stands t) → (t : ℕ) → Contains picked t → Stands t
      pub nearer : (whole : List ℤ) → FitsAll whole → (now : List ℤ) → AreNearer whole mid now left → AreNearer whole before now picked
      pub stops : (stopped : Stopped) → TilesStop image from rows at codes left stopped → TilesStop image from rows at codes picked stopped

    pub none_gone : (left : List ℕ) → left ≡ picked → AreGone left before
    none_gone left is = record {
      part = λ t here. subst (λ (l : List ℕ). Contains l t) is here;
      stand = λ all t here. all t (subst (λ (l : List ℕ). Contains l t) (sym is) here);
      nearer = λ whole fits now near. subst (AreNearer whole before now) is near;
      stops = λ stopped here. subst (λ (l : List ℕ). TilesStop image from rows at codes l stopped) is here;
    }

    pub tile_stops : (left left' : List ℕ) (t : ℕ) (mid : List ℤ) (stopped : Stopped) → AreGone left mid → left ≡ t ∷ left' → (stopped.tile ≡ t) × TileStops image from rows at codes stopped → TilesStop image from rows at codes picked stopped
    tile_stops left left' t mid stopped old next here = old.stops stopped (subst (λ (l : List ℕ). TilesStop image from rows at codes l stopped) (sym next) (inl here))

    -- one tile more
    pub more_gone : (left left' : List ℕ) (t : ℕ) (mid out : List ℤ) → AreGone left mid → left ≡ t ∷ left' → PlacesTile image sieve from rows at codes t mid out → AreGone left' out
    more_gone left left' t mid out old next placed = record {
      part = λ u here. old.part u (later u here);
      stand = λ all. old.stand (λ u here. elim (split_first t left' u (subst (λ (l : List ℕ). Contains l u) next here)) as (λ _. Stands u) [
        | inl same ↦ subst Stands same stands
        | inr more ↦ all u more
      ]);
      nearer = λ whole fits now near. old.nearer whole fits now (record {
        each = λ i. kept_by w whole mid out now i (near.each i) ((placed.nearer whole (mine whole fits)).each i);
        there = λ u here i is. elim (split_first t left' u (subst (λ (l : List ℕ). Contains l u) next here)) as (λ _. pixel_in w now i ≡ pixel_in w whole i) [
          | inl same ↦ done_by w whole out now i (near.each i) ((placed.nearer whole (mine whole fits)).there i (subst (λ n. Contains (in_box image.plan sieve n) i) (sym same) is))
          | inr more ↦ near.there u more i is
        ];
      });
      stops = λ stopped here. old.stops stopped (subst (λ (l : List ℕ). TilesStop image from rows at codes l stopped) (sym next) (inr ((placed.pixels, placed.means), here)));
    }
      where
        later : (u : ℕ) → Contains left' u → Contains left u
        later u here = subst (λ (l : List ℕ). Contains l u) (sym next) (is_later t left' u here)

        first : Contains left t
        first = subst (λ (l : List ℕ). Contains l t) (sym next) (is_first t left')

        stands : Stands t
        stands = record { pixels = placed.pixels; means = placed.means; inside = placed.inside }

        mine : (whole : List ℤ) → FitsAll whole → HasPixelsOf w whole (in_box image.plan sieve t) (places (pixel_bits image.plan) placed.pixels) (in_tile image.plan sieve t)
        mine whole fits = fits t (old.part t first) placed.pixels placed.means placed.inside

    pub stand_all : (left : List ℕ) (out : List ℤ) → AreGone left out → left ≡ [] → (t : ℕ) → Contains picked t → Stands t
    stand_all left out old none = old.stand (λ t here. absurd (none_in t (subst (λ (l : List ℕ). Contains l t) none here)))

    pub near_all : (left : List ℕ) (out : List ℤ) → AreGone left out → left ≡ [] → (whole : List ℤ) → FitsAll whole → AreNearer whole before out picked
    near_all left out old none whole fits = old.nearer whole fits out (record {
      each = λ i. inl refl;
      there = λ t here i is. absurd (none_in t (subst (λ (l : List ℕ). Contains l t) none here));
    })

-- each of these tiles is one of the image
pub all_known : (p : Plan) (sieve : Sieve) (ts : List ℕ) → AllByRecursion (HasPick p sieve) ts → (t : ℕ) → Contains ts t → t < tiles_in p
all_known p sieve [] all t here = absurd (none_in t here)
all_known p sieve (u ∷ us) all t here = elim (split_first u us t here) as (λ _. t < tiles_in p) [
  | inl same ↦ subst (λ n. n < tiles_in p) same all.0.known
  | inr later ↦ all_known p sieve us all.1 t later
]
