-- The tiles with a pixel in the box that are still to be worked on.
use Rattle.std.proofs.Common.{◌≡◌, ℕ, ◌<◌, IsTrue, List, [], ◌∷◌, ◌++◌, ap, sym, ◌∙◌, subst}
use Rattle.std.specs.List.{AllByRecursion}
use Rattle.std.proofs.lemmas.List.{append-nil}
use Rattle.fz_block.specs.declared.axes.Axes.{Axes}
use Rattle.fz_grid.specs.Grid.{tile_count}
use Rattle.fz_grid.specs.Overlap.{has_pixel}
use Rattle.fz_grid.specs.Region.{lengths_of}
use Rattle.fz_grid.specs.Sieve.{picked_tiles, sieve_hi, sieve_lo, sieve_step, tile_picks}
use Rattle.fz_grid.specs.SieveWalks.{sieve_tiles_left}
use Rattle.fz_grid.specs.declared.sieving.SieveTiles.{SieveTiles}
use Rattle.fz_files.specs.FirstFault.{picked_tiles_of}
use Rattle.fz_target.specs.Tiles.{IsBoxTile}
use Rattle.fz_target.specs.declared.target.Target.{Target}

-- those that the iterator over them gives, of a grid with the lengths of the image
pub tiles_of_grid : (t : Target) (shape tile : Axes) (left : List ℕ) → shape ≡ t.image.plan.shape → tile ≡ t.image.plan.tile →
    left ≡ picked_tiles (lengths_of shape) (lengths_of tile) (sieve_lo t.sieve) (sieve_hi t.sieve) (sieve_step t.sieve) → picked_tiles_of t.image.plan t.sieve ≡ left
tiles_of_grid t shape tile left same_shape same_tile is =
    sym (is ∙ (λ i. picked_tiles (lengths_of (same_shape i)) (lengths_of (same_tile i)) (sieve_lo t.sieve) (sieve_hi t.sieve) (sieve_step t.sieve)))

all_boxes : (t : Target) (ts : List ℕ) → AllByRecursion (λ u. u < tile_count (lengths_of t.image.plan.shape) (lengths_of t.image.plan.tile)) ts →
    AllByRecursion (λ u. IsTrue (has_pixel (tile_picks (lengths_of t.image.plan.shape) (lengths_of t.image.plan.tile) (sieve_lo t.sieve) (sieve_hi t.sieve) (sieve_step t.sieve) u))) ts →
    AllByRecursion (IsBoxTile t) ts
all_boxes t [] low picked = tt
all_boxes t (u ∷ ts) low picked = (record { near = low.0; picked = picked.0 }, all_boxes t ts low.1 picked.1)

-- it is a tile of an array with these lengths, and has a pixel in the box
abbrev IsLow : Axes → Axes → ℕ → Type 0
IsLow shape tile u = u < tile_count (lengths_of shape) (lengths_of tile)

abbrev IsPicked : Target → Axes → Axes → ℕ → Type 0
IsPicked t shape tile u = IsTrue (has_pixel (tile_picks (lengths_of shape) (lengths_of tile) (sieve_lo t.sieve) (sieve_hi t.sieve) (sieve_step t.sieve) u))

-- each is a tile of the image with a pixel in the box
pub boxes_of_grid : (t : Target) (shape tile : Axes) (left : List ℕ) → shape ≡ t.image.plan.shape → tile ≡ t.image.plan.tile →
    AllByRecursion (λ u. IsTrue (has_pixel (tile_picks (lengths_of shape) (lengths_of tile) (sieve_lo t.sieve) (sieve_hi t.sieve) (sieve_step t.sieve) u))) left →
    AllByRecursion (λ u. u < tile_count (lengths_of shape) (lengths_of tile)) left → AllByRecursion (IsBoxTile t) left
boxes_of_grid t shape tile left same_shape same_tile picked inside =
    let inside' : AllByRecursion (IsLow t.image.plan.shape t.image.plan.tile) left =
    subst (λ (s : Axes). AllByRecursion (IsLow s t.image.plan.tile) left) same_shape (subst (λ (t' : Axes). AllByRecursion (IsLow shape t') left) same_tile inside) in
    let picked' : AllByRecursion (IsPicked t t.image.plan.shape t.image.plan.tile) left =
    subst (λ (s : Axes). AllByRecursion (IsPicked t s t.image.plan.tile) left) same_shape (subst (λ (t' : Axes). AllByRecursion (IsPicked t shape t') left) same_tile picked) in
    all_boxes t left inside' picked'

-- the iterator, as a loop has it
pub given_tiles : (a b : SieveTiles) (all : List ℕ) → a ≡ b → all ≡ sieve_tiles_left b → all ≡ sieve_tiles_left a
given_tiles a b all same is = is ∙ ap (λ (s : SieveTiles). sieve_tiles_left s) (sym same)

pub given_boxes : (t : Target) (a b : SieveTiles) → a ≡ b → AllByRecursion (IsBoxTile t) (sieve_tiles_left b) → AllByRecursion (IsBoxTile t) (sieve_tiles_left a)
given_boxes t a b same all = subst (λ (s : SieveTiles). AllByRecursion (IsBoxTile t) (sieve_tiles_left s)) (sym same) all

-- the next one, and those after it
pub next_box : (t : Target) (tile : ℕ) (left after : List ℕ) → left ≡ tile ∷ after → AllByRecursion (IsBoxTile t) left → IsBoxTile t tile
next_box t tile left after next all = (subst (AllByRecursion (IsBoxTile t)) next all).0

pub later_boxes : (t : Target) (tile : ℕ) (left after : List ℕ) → left ≡ tile ∷ after → AllByRecursion (IsBoxTile t) left → AllByRecursion (IsBoxTile t) after
later_boxes t tile left after next all = (subst (AllByRecursion (IsBoxTile t)) next all).1

-- none are left
pub all_taken : (all front left : List ℕ) → left ≡ [] → all ≡ front ++ left → all ≡ front
all_taken all front left none parts = parts ∙ ap (λ l. front ++ l) none ∙ append-nil front
