-- The tiles with a pixel in the box that are still to be worked on.
use Rattle.std.proofs.Common.{◌≡◌, ℕ, List, [], ◌∷◌, ◌++◌, ap, sym, ◌∙◌, subst}
use Rattle.std.specs.List.{AllByRecursion}
use Rattle.std.proofs.lemmas.List.{append-nil}
use Rattle.fz_grid.specs.SieveWalks.{sieve_tiles_left}
use Rattle.fz_grid.specs.declared.sieving.SieveTiles.{SieveTiles}
use Rattle.fz_target.specs.Tiles.{IsBoxTile}
use Rattle.fz_target.specs.declared.target.Target.{Target}

-- the iterator, as a loop has it
pub given_tiles : (a b : SieveTiles) (all : List ℕ) → a ≡ b → all ≡ sieve_tiles_left b → all ≡ sieve_tiles_left a
given_tiles a b all same is = is ∙ ap (λ (s : SieveTiles). sieve_tiles_left s) (sym same)

pub given_boxes : (t : Target) (a b : SieveTiles) → a ≡ b → AllByRecursion (IsBoxTile t) (sieve_tiles_left b) → AllByRecursion (IsBoxTile t) (sieve_tiles_left a)
given_boxes t a b same all = subst (λ (s : SieveTiles). AllByRecursion (IsBoxTile t) (sieve_tiles_left s)) (sym same) all

-- the next one, and those after it
pub next_box : (t : Target) (tile : ℕ) (left after : List ℕ) → left ≡ tile ∷ after → AllByRecursion (IsBoxTile t) left → IsBoxTile t tile
next_box t tile left after next all = (subst (AllByRecursion (IsBoxTile t)) next all).0

pub later_boxes : (t : Target) (tile : ℕ) (left after : List ℕ) → left ≡ tile ∷ after → AllByRecursion (IsBoxTile t) left → AllByRecursion (IsBoxTile t) after
later_boxes t tile left after next all = (subst (AllByRecursion (IsBoxTile t)) next all).1

-- none are left
pub all_taken : (all front left : List ℕ) → left ≡ [] → all ≡ front ++ left → all ≡ front
all_taken all front left none parts = parts ∙ ap (λ l. front ++ l) none ∙ append-nil front
