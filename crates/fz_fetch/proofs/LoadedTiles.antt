-- Tiles that are loaded one after another, and the ranges that are read for them.
use Rattle.std.proofs.Common.{◌≡◌, ℕ, zero, suc, ◌+◌, ◌<◌, ◌≤◌, ◌⊎◌, inl, inr, ⊎_elim, List, [], ◌∷◌, ◌++◌, length, slice_index, slice_index_or, Option, Some, None, IfSome, refl, sym, ap, ◌∙◌, subst, arith}
use Rattle.fz_base.specs.Ranges.{LiesIn, LogsIn, LogsAllLaw, LogsJoinLaw}
use Rattle.fz_table.specs.Reads.{record_ranges, row_ranges, tile_ranges}
use Rattle.fz_table.specs.Records.{record_at}
use Rattle.fz_checks.specs.declared.job_checks.PackedImage.{PackedImage}
use Rattle.fz_files.specs.Restored.{tile_of}
use Rattle.fz_pool.specs.Calls.{AreSameFrom}
use Rattle.fz_pool.specs.Window.{IsPut, Pool}
use Rattle.fz_pool.specs.declared.slot.Slot.{Slot}
use Rattle.fz_fetch.specs.Loaded.{AreLoaded, IsLoaded, tiles_ranges}
use Rattle.fz_fetch.specs.Rows.{rows_ranges}
use Rattle.fz_fetch.proofs.Reading.{in_first, in_second, lies_in_one}
use Rattle.fz_fetch.proofs.Records.{wider}

-- a number below the next one is below this one, or this one
below_or : (k n : ℕ) → k < n + 1 → (k < n) ⊎ (k ≡ n)
below_or zero zero h = inr refl
below_or zero (suc n) h = inl (omega arith)
below_or (suc k) zero h = absurd (omega (arith, h))
below_or (suc k) (suc n) h = next (below_or k n (omega (arith, h)))
  where
    next : (k < n) ⊎ (k ≡ n) → (suc k < suc n) ⊎ (suc k ≡ suc n)
    next (inl low) = inl (omega (arith, low))
    next (inr same) = inr (ap suc same)

-- where a slot is put after those that are loaded, and is loaded, one more is
pub loaded_more : (held : Option (List ℕ)) (hdu : ℕ) (image : PackedImage) (tiles : List ℕ) (i : ℕ) (old new : Pool) (x : Slot) → IsPut old i x new
    → IsLoaded held hdu image (slice_index tiles i) x → AreLoaded held hdu image tiles i old.slots → AreLoaded held hdu image tiles (i + 1) new.slots
loaded_more held hdu image tiles i old new x put now before k d near = here (below_or k i near)
  where
    here : (k < i) ⊎ (k ≡ i) → IsLoaded held hdu image (slice_index tiles k) (slice_index_or new.slots k d)
    here (inl low) =
        let slot : slice_index_or new.slots k d ≡ slice_index_or old.slots k d = put.others k d (λ same. absurd (omega (arith, low, same))) in
        subst (λ (y : Slot). IsLoaded held hdu image (slice_index tiles k) y) (sym slot) (before k d low)
    here (inr same) =
        let slot : slice_index_or new.slots k d ≡ x = ap (λ n. slice_index_or new.slots n d) same ∙ put.here d in
        subst (λ (y : Slot). IsLoaded held hdu image (slice_index tiles k) y) (sym slot) (subst (λ (n : ℕ). IsLoaded held hdu image (slice_index tiles n) x) (sym same) now)

-- ---- the other slots

-- those after a slot that is put are as before
pub put_alone : (i : ℕ) (old new : Pool) (x : Slot) → IsPut old i x new → AreSameFrom (i + 1) old.slots new.slots
put_alone i old new x put k d later = put.others k d (λ same. absurd (omega (arith, later, same)))

-- what stays in two steps stays in both
pub same_then : (a b n : ℕ) (old mid new : List Slot) → a ≤ n → b ≤ n → AreSameFrom a old mid → AreSameFrom b mid new → AreSameFrom n old new
same_then a b n old mid new first second before now k d later = now k d (omega (arith, second, later)) ∙ before k d (omega (arith, first, later))

-- ---- ranges

pub lies_in_either : (xs ys : List (ℕ × ℕ)) (byte : ℕ) → LiesIn (xs ++ ys) byte → LiesIn xs byte ⊎ LiesIn ys byte
lies_in_either [] ys byte lies = inr lies
lies_in_either ((start, count) ∷ xs) ys byte (inl here) = inl (inl here)
lies_in_either ((start, count) ∷ xs) ys byte (inr later) = ⊎_elim (λ first. inl (inr first)) (λ second. inr second) (lies_in_either xs ys byte later)

-- the descriptors of tiles are read for them, whatever their rows say
rows_in_tiles : (file : List ℕ) (hdu : ℕ) (image : PackedImage) (tiles : List ℕ) (byte : ℕ) → LiesIn (rows_ranges image.table tiles) byte → LiesIn (tiles_ranges file hdu image tiles) byte
rows_in_tiles file hdu image [] byte lies = lies
rows_in_tiles file hdu image (t ∷ ts) byte lies =
    let row : List (ℕ × ℕ) = row_ranges image.table t in
    let found : List (ℕ × ℕ) = record_ranges (record_at file hdu image.table t (tile_of image.plan t)) in
    let rest : LiesIn (rows_ranges image.table ts) byte → LiesIn (tiles_ranges file hdu image ts) byte = rows_in_tiles file hdu image ts byte in
    ⊎_elim
    (λ here. in_first (row ++ found) (tiles_ranges file hdu image ts) byte (in_first row found byte here))
    (λ later. in_second (row ++ found) (tiles_ranges file hdu image ts) byte (rest later))
    (lies_in_either row (rows_ranges image.table ts) byte lies)

-- nothing is read at first
pub read_none : LogsAllLaw → (held : Option (List ℕ)) (hdu : ℕ) (image : PackedImage) (tiles : List ℕ) (old : Option (List (ℕ × ℕ))) → IfSome held (λ file. LogsIn (tiles_ranges file hdu image tiles) old old)
read_none all None hdu image tiles old = tt
read_none all (Some file) hdu image tiles old = all [] (tiles_ranges file hdu image tiles) old old (λ byte lies. elim lies [ ]) refl

-- what is read for one of the tiles is read for all
pub read_more : LogsJoinLaw → (held held' : Option (List ℕ)) (hdu : ℕ) (image : PackedImage) (tiles : List ℕ) (i : ℕ) (old mid new : Option (List (ℕ × ℕ))) → i < length tiles → held' ≡ held
    → IfSome held (λ file. LogsIn (tiles_ranges file hdu image tiles) old mid)
    → IfSome held' (λ file. LogsIn (tile_ranges file hdu image.table (slice_index tiles i) (tile_of image.plan (slice_index tiles i))) mid new)
    → IfSome held (λ file. LogsIn (tiles_ranges file hdu image tiles) old new)
read_more join None held' hdu image tiles i old mid new near same before now = tt
read_more join (Some file) held' hdu image tiles i old mid new near same before now =
    let ranges : ℕ → List (ℕ × ℕ) = λ t. tile_ranges file hdu image.table t (tile_of image.plan t) in
    let here : LogsIn (ranges (slice_index tiles i)) mid new = subst (λ (h : Option (List ℕ)). IfSome h (λ f. LogsIn (tile_ranges f hdu image.table (slice_index tiles i) (tile_of image.plan (slice_index tiles i))) mid new)) same now in
    join (tiles_ranges file hdu image tiles) old mid new before
    (wider (ranges (slice_index tiles i)) (tiles_ranges file hdu image tiles) mid new (λ byte lies. lies_in_one ranges tiles i byte near lies) here)

-- the rows alone, and then what is read for the tiles
pub rows_alone : (held : Option (List ℕ)) (hdu : ℕ) (image : PackedImage) (tiles : List ℕ) (old new : Option (List (ℕ × ℕ))) → LogsIn (rows_ranges image.table tiles) old new
    → IfSome held (λ file. LogsIn (tiles_ranges file hdu image tiles) old new)
rows_alone None hdu image tiles old new logs = tt
rows_alone (Some file) hdu image tiles old new logs = wider (rows_ranges image.table tiles) (tiles_ranges file hdu image tiles) old new (rows_in_tiles file hdu image tiles) logs

pub rows_then_tiles : LogsJoinLaw → (held held' : Option (List ℕ)) (hdu : ℕ) (image : PackedImage) (tiles : List ℕ) (old mid new : Option (List (ℕ × ℕ))) → held' ≡ held
    → LogsIn (rows_ranges image.table tiles) old mid → IfSome held' (λ file. LogsIn (tiles_ranges file hdu image tiles) mid new) → IfSome held (λ file. LogsIn (tiles_ranges file hdu image tiles) old new)
rows_then_tiles join None held' hdu image tiles old mid new same first second = tt
rows_then_tiles join (Some file) held' hdu image tiles old mid new same first second =
    join (tiles_ranges file hdu image tiles) old mid new
    (wider (rows_ranges image.table tiles) (tiles_ranges file hdu image tiles) old mid (rows_in_tiles file hdu image tiles) first)
    (subst (λ (h : Option (List ℕ)). IfSome h (λ f. LogsIn (tiles_ranges f hdu image tiles) mid new)) same second)
