-- The tiles of a box, one after another: those that are gone, and those that are left.
use Rattle.std.proofs.Common.{◌≡◌, ◌==◌, if◌then◌else◌, Bool, true, false, cond, ℕ, suc, ◌+◌, ◌-◌, ◌<◌, ◌≤◌, ◌^◌, IsTrue, inl, inr, List, [], ◌∷◌, ◌++◌, length, take, drop, map, set, refl, sym, ap, ◌∙◌, subst, arith}
use Rattle.std.specs.List.{AllByRecursion, between, filter, range_with_len}
use Rattle.std.specs.Prelude.{Result, slice_index}
use Rattle.std.proofs.lemmas.Bool.Decides.{nat_tests}
use Rattle.std.proofs.lemmas.List.{append-nil, append_assoc, drop-set-lt, get_or_at, length-append, length-set, take-append-drop, take_more_set}
use Rattle.std.proofs.lemmas.List.FromFn.{length-range_with_len}
use Rattle.std.proofs.lemmas.Slice.{between_to_end}
use Rattle.fz_base.specs.declared.fault.Fault.{Fault}
use Rattle.fz_block.specs.declared.axes.Axes.{Axes}
use Rattle.fz_grid.specs.Grid.{tile_count}
use Rattle.fz_grid.specs.Overlap.{has_pixel}
use Rattle.fz_grid.specs.Region.{lengths_of}
use Rattle.fz_grid.specs.Sieve.{picked_tiles, sieve_hi, sieve_lo, sieve_step, tile_picks}
use Rattle.fz_grid.specs.declared.sieve.Sieve.{Sieve}
use Rattle.fz_table.specs.Rows.{row_start}
use Rattle.fz_table.specs.declared.record.Record.{Record}
use Rattle.fz_head.specs.declared.plan.Plan.{Plan}
use Rattle.fz_checks.specs.declared.job_checks.PackedImage.{PackedImage}
use Rattle.fz_flat.specs.Boxes.{AreListed, RowStops, RowsStop, SayRecords, SaysRecord, picked_in, said_at}
use Rattle.fz_flat.specs.Cutting.{HasPick}
use Rattle.fz_flat.specs.Rows.{flat_record, row_says}
use Rattle.fz_flat.specs.Tiles.{tiles_in}
use Rattle.fz_flat.specs.declared.record.FzRecord.{FzRecord}
use Rattle.fz_flat.specs.declared.stops.Stopped.{Stopped}

-- ---- the tiles that an iterator over a grid gives

all_picks : (p : Plan) (sieve : Sieve) (ts : List ℕ) → AllByRecursion (λ t. t < tiles_in p) ts
    → AllByRecursion (λ t. IsTrue (has_pixel (tile_picks (lengths_of p.shape) (lengths_of p.tile) (sieve_lo sieve) (sieve_hi sieve) (sieve_step sieve) t))) ts → AllByRecursion (HasPick p sieve) ts
all_picks p sieve [] low picked = tt
all_picks p sieve (t ∷ ts) low picked = (record { known = low.0; picked = picked.0 }, all_picks p sieve ts low.1 picked.1)

module _ (p : Plan) (sieve : Sieve) (shape tile : Axes) (left : List ℕ) (same_shape : shape ≡ p.shape) (same_tile : tile ≡ p.tile) where
  pub grid_tiles : left ≡ picked_tiles (lengths_of shape) (lengths_of tile) (sieve_lo sieve) (sieve_hi sieve) (sieve_step sieve) → left ≡ picked_in p sieve
  grid_tiles is = is ∙ (λ i. picked_tiles (lengths_of (same_shape i)) (lengths_of (same_tile i)) (sieve_lo sieve) (sieve_hi sieve) (sieve_step sieve))

  pub grid_picks : AllByRecursion (λ t. IsTrue (has_pixel (tile_picks (lengths_of shape) (lengths_of tile) (sieve_lo sieve) (sieve_hi sieve) (sieve_step sieve) t))) left
      → AllByRecursion (λ t. t < tile_count (lengths_of shape) (lengths_of tile)) left → AllByRecursion (HasPick p sieve) left
  grid_picks picked inside =
      let low : (s t : Axes) → ℕ → Type 0 = λ s t u. u < tile_count (lengths_of s) (lengths_of t) in
      let have : (s t : Axes) → ℕ → Type 0 = λ s t u. IsTrue (has_pixel (tile_picks (lengths_of s) (lengths_of t) (sieve_lo sieve) (sieve_hi sieve) (sieve_step sieve) u)) in
      all_picks p sieve left
      (subst (λ (s : Axes). AllByRecursion (low s p.tile) left) same_shape (subst (λ (t : Axes). AllByRecursion (low shape t) left) same_tile inside))
      (subst (λ (s : Axes). AllByRecursion (have s p.tile) left) same_shape (subst (λ (t : Axes). AllByRecursion (have shape t) left) same_tile picked))

-- some of a list are no more than all
length_if : (b : Bool) (t : ℕ) (ts : List ℕ) → length (cond b (t ∷ ts) ts) ≤ suc (length ts)
length_if true t ts = omega arith
length_if false t ts = omega arith

length_some : (test : ℕ → Bool) (ts : List ℕ) → length (filter test ts) ≤ length ts
length_some test [] = omega arith
length_some test (t ∷ ts) =
    let here = length_if (test t) t (filter test ts) in
    let later = length_some test ts in
    omega (arith, here, later)

pub few_picked : (p : Plan) (sieve : Sieve) → length (picked_in p sieve) ≤ tiles_in p
few_picked p sieve =
    let most = length_some (λ t. has_pixel (tile_picks (lengths_of p.shape) (lengths_of p.tile) (sieve_lo sieve) (sieve_hi sieve) (sieve_step sieve) t)) (range_with_len 0 (tiles_in p)) in
    let all = length-range_with_len 0 (tiles_in p) in
    omega (arith, most, all)

-- ---- the first tile, the last one, and how many are gone

pub record AreEnds (picked left : List ℕ) (first last count : ℕ) : Type 0 where
  pub gone : List ℕ
  pub all : picked ≡ gone ++ left
  pub count_is : count ≡ length gone
  pub first_is : first ≡ slice_index gone 0
  pub last_is : last ≡ slice_index gone (count - 1)

pub no_ends : (picked left : List ℕ) → left ≡ picked → AreEnds picked left 0 0 0
no_ends picked left is = record { gone = []; all = sym is; count_is = refl; first_is = refl; last_is = refl }

first_more : (gone : List ℕ) (t count first next : ℕ) → count ≡ length gone → first ≡ slice_index gone 0 → next ≡ (if count == 0 then t else first) → next ≡ slice_index (gone ++ t ∷ []) 0
first_more [] t count first next is here e =
    let none : (count == 0) ≡ true = grind (arith, nat_tests, is) in
    e ∙ ap (λ (b : Bool). if b then t else first) none
first_more (g ∷ gone) t count first next is here e =
    let some : (count == 0) ≡ false = grind (arith, nat_tests, is) in
    e ∙ ap (λ (b : Bool). if b then t else first) some ∙ here

pub more_ends : (picked left left' : List ℕ) (t first last count first' last' count' : ℕ) → AreEnds picked left first last count → left ≡ t ∷ left'
    → first' ≡ (if count == 0 then t else first) → last' ≡ t → count' ≡ count + 1 → AreEnds picked left' first' last' count'
more_ends picked left left' t first last count first' last' count' old next first_is last_is count_is =
    let one : length (old.gone ++ t ∷ []) ≡ length old.gone + 1 = length-append old.gone (t ∷ []) in
    let index : count' - 1 ≡ length old.gone = omega (arith, count_is, old.count_is) in
    record {
      gone = old.gone ++ t ∷ [];
      all = old.all ∙ ap (λ (l : List ℕ). old.gone ++ l) next ∙ sym (append_assoc old.gone (t ∷ []) left');
      count_is = count_is ∙ omega (arith, one, old.count_is);
      first_is = first_more old.gone t count first first' old.count_is old.first_is first_is;
      last_is = last_is ∙ sym (get_or_at old.gone t [] 0 (length old.gone) refl) ∙ ap (slice_index (old.gone ++ t ∷ [])) (sym index);
    }

-- the first tile is one of the image
pub known_if : (m t count first next : ℕ) → t < m → first < m → next ≡ (if count == 0 then t else first) → next < m
known_if m t count first next low known e = by (count == 0) e
  where
    by : (b : Bool) → next ≡ (if b then t else first) → next < m
    by true is = omega (arith, is, low)
    by false is = omega (arith, is, known)

pub all_gone : (picked left : List ℕ) (first last count : ℕ) (ends : AreEnds picked left first last count) → left ≡ [] → picked ≡ ends.gone
all_gone picked left first last count ends none = ends.all ∙ ap (λ (l : List ℕ). ends.gone ++ l) none ∙ append-nil ends.gone

pub few_left : (p : Plan) (picked left left' : List ℕ) (t first last count : ℕ) → AreEnds picked left first last count → left ≡ t ∷ left' → length picked < 2 ^ 31 → count + 1 < 2 ^ 32
few_left p picked left left' t first last count ends next few =
    let both : length picked ≡ length ends.gone + length left = ap length ends.all ∙ length-append ends.gone left in
    omega (arith, both, few, ends.count_is)

-- ---- the records of those that are left, and then of all

module _ (image : PackedImage) (from : ℕ) (rows picked : List ℕ) (before : List FzRecord) where
  -- the records of those that are left make the list, after so many
  pub record IsListing (left : List ℕ) (count : ℕ) (reads : List FzRecord) : Type 0 where
    pub room : count + length left ≤ length reads
    pub listed : (founds : List Record) → SayRecords image from rows left founds → (now : List FzRecord)
        → now ≡ take count reads ++ (map flat_record founds ++ drop (count + length founds) reads) → AreListed image from rows picked before now
    pub stops : (stopped : Stopped) → RowsStop image from rows left stopped → RowsStop image from rows picked stopped

  pub none_listed : (left : List ℕ) → left ≡ picked → length picked ≤ length before → IsListing left 0 before
  none_listed left is room = record {
    room = subst (λ (l : List ℕ). 0 + length l ≤ length before) (sym is) (omega (arith, room));
    listed = λ founds say now e. record {
      founds = founds;
      say = subst (λ (l : List ℕ). SayRecords image from rows l founds) is say;
      are = let same : 0 + length founds ≡ length founds = omega arith in e ∙ ap (λ n. map flat_record founds ++ drop n before) same;
    };
    stops = λ stopped here. subst (λ (l : List ℕ). RowsStop image from rows l stopped) is here;
  }

  pub more_listed : (left left' : List ℕ) (t count : ℕ) (reads : List FzRecord) (found : Record) → IsListing left count reads → left ≡ t ∷ left' → SaysRecord image from rows t found
      → (count' : ℕ) → count' ≡ count + 1 → IsListing left' count' (set reads count (flat_record found))
  more_listed left left' t count reads found old next says count' one =
      let y : FzRecord = flat_record found in
      let low : count < length reads = omega (arith, old.room, ap length next) in
      let same : length (set reads count y) ≡ length reads = length-set reads count y in
      let left_is : length left ≡ suc (length left') = ap length next in
      record {
        room = omega (arith, same, old.room, left_is, one);
        listed = λ founds say now e.
            let front : take count' (set reads count y) ≡ take count reads ++ y ∷ [] = ap (λ n. take n (set reads count y)) one ∙ take_more_set reads count y low in
            let ends : count' + length founds ≡ count + suc (length founds) = omega (arith, one) in
            let back : drop (count' + length founds) (set reads count y) ≡ drop (count + suc (length founds)) reads =
            ap (λ n. drop n (set reads count y)) ends ∙ drop-set-lt (count + suc (length founds)) reads count y (omega arith) in
            old.listed (found ∷ founds) (subst (λ (l : List ℕ). SayRecords image from rows l (found ∷ founds)) (sym next) (says, say)) now
            (e ∙ ap (λ (l : List FzRecord). l ++ (map flat_record founds ++ drop (count' + length founds) (set reads count y))) front
            ∙ append_assoc (take count reads) (y ∷ []) (map flat_record founds ++ drop (count' + length founds) (set reads count y))
            ∙ ap (λ (l : List FzRecord). take count reads ++ (y ∷ (map flat_record founds ++ l))) back);
        stops = λ stopped later. old.stops stopped (subst (λ (l : List ℕ). RowsStop image from rows l stopped) (sym next) (inr ((found, says), later)));
      }

  pub all_listed : (left : List ℕ) (count : ℕ) (reads : List FzRecord) → IsListing left count reads → left ≡ [] → AreListed image from rows picked before reads
  all_listed left count reads old none =
      let same : count + 0 ≡ count = omega arith in
      old.listed [] (subst (λ (l : List ℕ). SayRecords image from rows l []) (sym none) refl) reads (sym (take-append-drop count reads) ∙ ap (λ n. take count reads ++ drop n reads) (sym same))

  pub row_stops : (left left' : List ℕ) (t count : ℕ) (reads : List FzRecord) (stopped : Stopped) → IsListing left count reads → left ≡ t ∷ left' → (stopped.tile ≡ t) × RowStops image from rows stopped → RowsStop image from rows picked stopped
  row_stops left left' t count reads stopped old next here = old.stops stopped (subst (λ (l : List ℕ). RowsStop image from rows l stopped) (sym next) (inl here))

-- ---- the row of a tile, in bytes that were read

-- what is said of the row that begins there
pub said_from : (image : PackedImage) (from : ℕ) (rows : List ℕ) (t at len : ℕ) (r : Result Record Fault) → at ≡ row_start image.table t - from → length rows ≤ len
    → r ≡ row_says 0 image (between at len rows) t → said_at image from rows t ≡ r
said_from image from rows t at len r is long says =
    sym (says ∙ ap (λ l. row_says 0 image l t) (between_to_end rows at len long ∙ ap (λ n. drop n rows) is))
