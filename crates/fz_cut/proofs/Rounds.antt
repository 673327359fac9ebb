-- Rounds of tiles that hold a pick, fetched and written one after another (FITS 4.0, sections 3.3.2 and 10.1).
use Rattle.std.proofs.Common.{◌≡◌, ℕ, zero, suc, ◌+◌, ◌<◌, IsTrue, inl, inr, ℤ, List, [], ◌∷◌, ◌++◌, length, map, take, set, slice_index, Option, Some, None, IfSome, refl, sym, ap, ◌∙◌, subst, arith}
use Rattle.std.specs.List.{AllByRecursion, flat_map}
use Rattle.std.proofs.lemmas.Grind.{flat_map-append, take-set_at}
use Rattle.std.proofs.lemmas.List.{append_assoc, length-append, map-append}
use Rattle.fz_base.specs.Ranges.{LiesIn, LogsIn, LogsJoinLaw}
use Rattle.fz_base.specs.declared.fault.Fault.{Fault}
use Rattle.fz_block.specs.declared.axes.Axes.{Axes}
use Rattle.fz_block.specs.declared.header.Header.{Header}
use Rattle.fz_grid.specs.Grid.{tile_count}
use Rattle.fz_grid.specs.Overlap.{has_pixel}
use Rattle.fz_grid.specs.Region.{lengths_of}
use Rattle.fz_grid.specs.Sieve.{picked_tiles, sieve_hi, sieve_lo, sieve_step, tile_picks}
use Rattle.fz_grid.specs.declared.sieve.Sieve.{Sieve}
use Rattle.fz_grid.specs.Cutout.{part_lengths}
use Rattle.fz_checks.specs.declared.job_checks.PackedImage.{PackedImage}
use Rattle.fz_head.specs.declared.plan.Plan.{Plan}
use Rattle.fz_files.specs.Cutout.{ranges_of_row}
use Rattle.fz_files.specs.FirstFault.{ImageRow, IsFirstRowFault, image_row, picked_tiles_of}
use Rattle.fz_files.specs.Packed.{tiles_in}
use Rattle.fz_fetch.specs.Fetched.{RowsGive}
use Rattle.fz_job.specs.Images.{fetched_ranges, IsSaid}
use Rattle.fz_pixels.specs.Laws.{JoinsRoundsOfParts}
use Rattle.fz_pixels.specs.Scattered.{parts_written}
use Rattle.fz_cut.specs.Part.{IsPickFault}
use Rattle.fz_cut.specs.Picks.{AreWrittenParts, picked_ranges}
use Rattle.fz_cut.proofs.Logs.{nothing, wider}
use Rattle.fz_cut.proofs.Rows.{fault_before, fault_behind}

-- a tile of the image that holds a pick
abbrev pub IsTileWithPick : Plan → Sieve → ℕ → Type 0
IsTileWithPick p sieve t = (t < tiles_in p) × IsTrue (has_pixel (part_lengths (lengths_of p.shape) (lengths_of p.tile) sieve t))

-- the first tiles with a pick were written; some are pending, and the others are left
pub record AreDone (held : Option (List ℕ)) (h : Header) (p : Plan) (sieve : Sieve) (at : ℕ) (pending left : List ℕ) (before now : Option (List ℕ)) : Type 0 where
  pub front : List ℕ
  pub parts : picked_tiles_of p sieve ≡ front ++ (pending ++ left)
  pub written : AreWrittenParts held h p sieve at front before now

-- ---- lists of tiles

pub all_both : (P Q : ℕ → Type 0) (ts : List ℕ) → AllByRecursion P ts → AllByRecursion Q ts → AllByRecursion (λ t. P t × Q t) ts
all_both P Q [] ps qs = tt
all_both P Q (t ∷ ts) ps qs = ((ps.0, qs.0), all_both P Q ts ps.1 qs.1)

all_back : (P : ℕ → Type 0) (xs ys : List ℕ) → AllByRecursion P (xs ++ ys) → AllByRecursion P ys
all_back P [] ys all = all
all_back P (x ∷ xs) ys all = all_back P xs ys all.1

all_at : (P : ℕ → Type 0) (xs ys : List ℕ) → AllByRecursion P (xs ++ ys) → (i : ℕ) → i < length xs → P (slice_index xs i)
all_at P [] ys all i near = absurd (omega (arith, near))
all_at P (x ∷ xs) ys all zero near = all.0
all_at P (x ∷ xs) ys all (suc i) near = all_at P xs ys all.1 i (omega (arith, near))

-- the tiles that are pending hold a pick
pub pending_picked : (held : Option (List ℕ)) (h : Header) (p : Plan) (sieve : Sieve) (at : ℕ) (pending left : List ℕ) (before now : Option (List ℕ)) → AllByRecursion (IsTileWithPick p sieve) (picked_tiles_of p sieve) →
    AreDone held h p sieve at pending left before now → (i : ℕ) → i < length pending → IsTileWithPick p sieve (slice_index pending i)
pending_picked held h p sieve at pending left before now all done =
    all_at (IsTileWithPick p sieve) pending left (all_back (IsTileWithPick p sieve) done.front (pending ++ left) (subst (AllByRecursion (IsTileWithPick p sieve)) done.parts all))

-- those that the iterator over them gives, of a grid with the lengths of the image
pub tiles_of_grid : (p : Plan) (sieve : Sieve) (shape tile : Axes) (left : List ℕ) → shape ≡ p.shape → tile ≡ p.tile →
    left ≡ picked_tiles (lengths_of shape) (lengths_of tile) (sieve_lo sieve) (sieve_hi sieve) (sieve_step sieve) → left ≡ picked_tiles_of p sieve
tiles_of_grid p sieve shape tile left same_shape same_tile is =
    is ∙ (λ i. picked_tiles (lengths_of (same_shape i)) (lengths_of (same_tile i)) (sieve_lo sieve) (sieve_hi sieve) (sieve_step sieve))

pub tiles_with_pick : (p : Plan) (sieve : Sieve) (shape tile : Axes) (left : List ℕ) → shape ≡ p.shape → tile ≡ p.tile →
    left ≡ picked_tiles (lengths_of shape) (lengths_of tile) (sieve_lo sieve) (sieve_hi sieve) (sieve_step sieve) →
    AllByRecursion (λ t. IsTrue (has_pixel (tile_picks (lengths_of shape) (lengths_of tile) (sieve_lo sieve) (sieve_hi sieve) (sieve_step sieve) t))) left →
    AllByRecursion (λ t. t < tile_count (lengths_of shape) (lengths_of tile)) left → AllByRecursion (IsTileWithPick p sieve) (picked_tiles_of p sieve)
tiles_with_pick p sieve shape tile left same_shape same_tile is picked inside =
    let have : (s t : Axes) → ℕ → Type 0 =
    λ s t u. IsTrue (has_pixel (tile_picks (lengths_of s) (lengths_of t) (sieve_lo sieve) (sieve_hi sieve) (sieve_step sieve) u)) in
    let low : (s t : Axes) → ℕ → Type 0 = λ s t u. u < tile_count (lengths_of s) (lengths_of t) in
    let inside' : AllByRecursion (low p.shape p.tile) left =
    subst (λ (s : Axes). AllByRecursion (low s p.tile) left) same_shape (subst (λ (t : Axes). AllByRecursion (low shape t) left) same_tile inside) in
    let picked' : AllByRecursion (have p.shape p.tile) left =
    subst (λ (s : Axes). AllByRecursion (have s p.tile) left) same_shape (subst (λ (t : Axes). AllByRecursion (have shape t) left) same_tile picked) in
    subst (AllByRecursion (IsTileWithPick p sieve)) (tiles_of_grid p sieve shape tile left same_shape same_tile is) (all_both (low p.shape p.tile) (have p.shape p.tile) left inside' picked')

-- ---- step by step

given_none : (held : Option (List ℕ)) (h : Header) → IfSome held (λ file. RowsGive file h [] [])
given_none None h = tt
given_none (Some file) h = λ i e low. absurd (omega (arith, low))

pub none_done : (held : Option (List ℕ)) (h : Header) (p : Plan) (sieve : Sieve) (at : ℕ) (left : List ℕ) (contents : Option (List ℕ)) → left ≡ picked_tiles_of p sieve → AreDone held h p sieve at [] left contents contents
none_done held h p sieve at left contents is = record {
  front = [];
  parts = sym is;
  written = record { pixels = []; count = refl; told = given_none held h; contents = refl };
}

-- one tile more is pending
pub one_pending : (held : Option (List ℕ)) (h : Header) (p : Plan) (sieve : Sieve) (at : ℕ) (tiles : List ℕ) (count t : ℕ) (left left' : List ℕ) (before now : Option (List ℕ)) → count < length tiles → left ≡ t ∷ left' →
    AreDone held h p sieve at (take count tiles) left before now → AreDone held h p sieve at (take (count + 1) (set tiles count t)) left' before now
one_pending held h p sieve at tiles count t left left' before now room is done =
    let more : take (count + 1) (set tiles count t) ≡ take count tiles ++ t ∷ [] = take-set_at tiles count (count + 1) t refl room in
    record {
      front = done.front;
      parts = done.parts ∙ ap (λ l. done.front ++ (take count tiles ++ l)) is ∙ ap (λ l. done.front ++ l) (sym (append_assoc (take count tiles) (t ∷ []) left') ∙ ap (λ l. l ++ left') (sym more));
      written = done.written;
    }

given_at : (file : List ℕ) (h : Header) (front back : List ℕ) (xs ys : List (List ℤ)) → length xs ≡ length front → RowsGive file h front xs → RowsGive file h back ys → RowsGive file h (front ++ back) (xs ++ ys)
given_at file h [] back [] ys same one two i e low = two i e low
given_at file h [] back (x ∷ xs) ys same one two i e low = absurd (omega (arith, same))
given_at file h (t ∷ ts) back [] ys same one two i e low = absurd (omega (arith, same))
given_at file h (t ∷ ts) back (x ∷ xs) ys same one two zero e low = one 0 e (omega arith)
given_at file h (t ∷ ts) back (x ∷ xs) ys same one two (suc i) e low =
    given_at file h ts back xs ys (omega (arith, same)) (λ k d near. one (suc k) d (omega (arith, near))) two i e (omega (arith, low))

given_both : (held : Option (List ℕ)) (h : Header) (front back : List ℕ) (xs ys : List (List ℤ)) → length xs ≡ length front → IfSome held (λ file. RowsGive file h front xs) → IfSome held (λ file. RowsGive file h back ys) →
    IfSome held (λ file. RowsGive file h (front ++ back) (xs ++ ys))
given_both None h front back xs ys same one two = tt
given_both (Some file) h front back xs ys same one two = given_at file h front back xs ys same one two

-- those that were pending are written
pub round_done : JoinsRoundsOfParts → (held : Option (List ℕ)) (h : Header) (p : Plan) (sieve : Sieve) (at : ℕ) (pending left : List ℕ) (before mid now : Option (List ℕ)) →
    AreDone held h p sieve at pending left before mid → AreWrittenParts held h p sieve at pending mid now → AreDone held h p sieve at [] left before now
round_done joins held h p sieve at pending left before mid now done round =
    let one = done.written in
    let pixels : length (one.pixels ++ round.pixels) ≡ length one.pixels + length round.pixels = length-append one.pixels round.pixels in
    let numbers : length (done.front ++ pending) ≡ length done.front + length pending = length-append done.front pending in
    record {
      front = done.front ++ pending;
      parts = done.parts ∙ sym (append_assoc done.front pending left);
      written = record {
        pixels = one.pixels ++ round.pixels;
        count = omega (arith, pixels, numbers, one.count, round.count);
        told = given_both held h done.front pending one.pixels round.pixels one.count one.told round.told;
        contents = round.contents ∙ ap (parts_written p sieve at pending round.pixels) one.contents ∙ sym (joins p sieve at done.front pending one.pixels round.pixels before one.count);
      };
    }

-- where a round is full, the tiles that are pending are written, and none is then
pub pending_written : JoinsRoundsOfParts → (held held' : Option (List ℕ)) (h : Header) (p : Plan) (sieve : Sieve) (at : ℕ) (tiles : List ℕ) (count n : ℕ) (left : List ℕ) (before mid now now' : Option (List ℕ)) →
    held' ≡ held → now' ≡ now → n ≡ 0 → AreDone held h p sieve at (take count tiles) left before mid → AreWrittenParts held' h p sieve at (take count tiles) mid now →
    AreDone held h p sieve at (take n tiles) left before now'
pending_written joins held held' h p sieve at tiles count n left before mid now now' same put none done round =
    let written : AreWrittenParts held h p sieve at (take count tiles) mid now = subst (λ (l : Option (List ℕ)). AreWrittenParts l h p sieve at (take count tiles) mid now) same round in
    let empty : AreDone held h p sieve at (take n tiles) left before now =
    subst (λ (k : ℕ). AreDone held h p sieve at (take k tiles) left before now) (sym none) (round_done joins held h p sieve at (take count tiles) left before mid now done written) in
    subst (λ (l : Option (List ℕ)). AreDone held h p sieve at (take n tiles) left before l) (sym put) empty

-- and otherwise they stay
pub pending_kept : (held : Option (List ℕ)) (h : Header) (p : Plan) (sieve : Sieve) (at : ℕ) (tiles : List ℕ) (count n : ℕ) (left : List ℕ) (before mid now : Option (List ℕ)) →
    now ≡ mid → n ≡ count → AreDone held h p sieve at (take count tiles) left before mid → AreDone held h p sieve at (take n tiles) left before now
pending_kept held h p sieve at tiles count n left before mid now same kept done =
    subst (λ (l : Option (List ℕ)). AreDone held h p sieve at (take n tiles) left before l) (sym same)
    (subst (λ (k : ℕ). AreDone held h p sieve at (take k tiles) left before mid) (sym kept) done)

-- and were the last
pub last_done : JoinsRoundsOfParts → (held : Option (List ℕ)) (h : Header) (p : Plan) (sieve : Sieve) (at : ℕ) (pending left : List ℕ) (before mid now : Option (List ℕ)) → left ≡ [] →
    AreDone held h p sieve at pending left before mid → AreWrittenParts held h p sieve at pending mid now → AreDone held h p sieve at [] [] before now
last_done joins held h p sieve at pending left before mid now none done round =
    subst (λ (l : List ℕ). AreDone held h p sieve at [] l before now) none (round_done joins held h p sieve at pending left before mid now done round)

-- ---- rows that are refused

given_sound : (file : List ℕ) (h : Header) (tiles : List ℕ) (pixels : List (List ℤ)) → RowsGive file h tiles pixels → IsFirstRowFault file (map (image_row h) tiles) None
given_sound file h [] pixels give = tt
given_sound file h (t ∷ ts) [] give = ((_, give 0 [] (omega arith)), given_sound file h ts [] (λ i e low. give (suc i) e (omega (arith, low))))
given_sound file h (t ∷ ts) (xs ∷ pixels) give = ((xs, give 0 [] (omega arith)), given_sound file h ts pixels (λ i e low. give (suc i) e (omega (arith, low))))

-- that of a tile that is pending is the first of all
pub round_fault : (held : Option (List ℕ)) (h : Header) (image : PackedImage) (sieve : Sieve) (at : ℕ) (pending left : List ℕ) (before mid : Option (List ℕ)) (x : Fault) → IfSome held (λ file. IsSaid file h image) →
    AreDone held h image.plan sieve at pending left before mid → IfSome held (λ file. IsFirstRowFault file (map (image_row h) pending) (Some x)) → IfSome held (λ file. IsPickFault file h sieve x)
round_fault None h image sieve at pending left before mid x said done fault = tt
round_fault (Some file) h image sieve at pending left before mid x said done fault =
    let rows : List ℕ → List ImageRow = map (image_row h) in
    let front : List ℕ = done.front in
    let parts : rows (picked_tiles_of image.plan sieve) ≡ rows front ++ (rows pending ++ rows left) =
    ap rows done.parts ∙ map-append (image_row h) front (pending ++ left) ∙ ap (λ l. rows front ++ l) (map-append (image_row h) pending left) in
    subst (λ (p : Plan). IsFirstRowFault file (rows (picked_tiles_of p sieve)) (Some x)) (sym said.plan)
    (subst (λ l. IsFirstRowFault file l (Some x)) (sym parts)
    (fault_behind file (rows front) (rows pending ++ rows left) x (given_sound file h front done.written.pixels done.written.told)
    (fault_before file (rows pending) (rows left) x fault)))

-- ---- ranges that are read

lies_left : (xs ys : List (ℕ × ℕ)) (byte : ℕ) → LiesIn xs byte → LiesIn (xs ++ ys) byte
lies_left [] ys byte is = absurd is
lies_left (x ∷ xs) ys byte (inl here) = inl here
lies_left (x ∷ xs) ys byte (inr later) = inr (lies_left xs ys byte later)

lies_right : (xs ys : List (ℕ × ℕ)) (byte : ℕ) → LiesIn ys byte → LiesIn (xs ++ ys) byte
lies_right [] ys byte is = is
lies_right (x ∷ xs) ys byte is = inr (lies_right xs ys byte is)

-- none at first
pub none_read : (held : Option (List ℕ)) (h : Header) (sieve : Sieve) (old : Option (List (ℕ × ℕ))) → IfSome held (λ file. LogsIn (picked_ranges file h sieve) old old)
none_read None h sieve old = tt
none_read (Some file) h sieve old = nothing (picked_ranges file h sieve) old

-- those of the tiles that are pending are among those of all tiles with a pick
pub round_reads : LogsJoinLaw → (held : Option (List ℕ)) (h : Header) (image : PackedImage) (sieve : Sieve) (at : ℕ) (pending left : List ℕ) (before mid : Option (List ℕ)) (old between new : Option (List (ℕ × ℕ))) → IfSome held (λ file. IsSaid file h image) →
    AreDone held h image.plan sieve at pending left before mid → IfSome held (λ file. LogsIn (picked_ranges file h sieve) old between) → IfSome held (λ file. LogsIn (fetched_ranges file h pending) between new) →
    IfSome held (λ file. LogsIn (picked_ranges file h sieve) old new)
round_reads join None h image sieve at pending left before mid old between new said done one two = tt
round_reads join (Some file) h image sieve at pending left before mid old between new said done one two =
    let ranges : List ℕ → List (ℕ × ℕ) = λ ts. flat_map (ranges_of_row file) (map (image_row h) ts) in
    let front : List ℕ = done.front in
    let both : (xs ys : List ℕ) → ranges (xs ++ ys) ≡ ranges xs ++ ranges ys =
    λ xs ys. ap (flat_map (ranges_of_row file)) (map-append (image_row h) xs ys) ∙ flat_map-append (ranges_of_row file) (map (image_row h) xs) (map (image_row h) ys) in
    let parts : picked_ranges file h sieve ≡ ranges front ++ (ranges pending ++ ranges left) =
    ap (λ (p : Plan). ranges (picked_tiles_of p sieve)) said.plan ∙ ap ranges done.parts ∙ both front (pending ++ left) ∙ ap (λ l. ranges front ++ l) (both pending left) in
    let inside : (byte : ℕ) → LiesIn (fetched_ranges file h pending) byte → LiesIn (picked_ranges file h sieve) byte =
    λ byte is. subst (λ l. LiesIn l byte) (sym parts) (lies_right (ranges front) (ranges pending ++ ranges left) byte (lies_left (ranges pending) (ranges left) byte is)) in
    join (picked_ranges file h sieve) old between new one (wider (fetched_ranges file h pending) (picked_ranges file h sieve) between new inside two)
