-- Tiles in the two halves of a window: those of one are written, and others read into it, while those of the other are encoded.
use Rattle.std.specs.Prelude.{ℕ, ◌≡◌, ◌+◌, ◌*◌, ◌^◌, ◌≤◌, Bool, IsTrue, List, length, replicate, Option, Result, OnOk}
use Rattle.fz_base.specs.Counts.{Tally}
use Rattle.fz_base.specs.FirstByte.{StaysShut}
use Rattle.fz_base.specs.Told.{StaysTold}
use Rattle.fz_base.specs.declared.failure.Stop.{Stop}
use Rattle.fz_base.specs.Stop.{ReadsAndWrites}
use Rattle.fz_pool.specs.Round.{coded_tiles}
use Rattle.fz_pool.specs.Window.{Pool, slot_sizes}
use Rattle.fz_image.specs.Held.{AreHeldBack, contents_of}
use Rattle.fz_image.specs.Layout.{HasPixels, IsLayout, ReadsPixels}
use Rattle.fz_image.specs.Progress.{AreNext, tiles_written, with_tiles}
use Rattle.fz_image.specs.Tiles.{AreEncodedTiles, AreLoaded, HaveRoom, pixels_of}
use Rattle.fz_image.specs.declared.layout.Layout.{Layout}
use Rattle.fz_image.specs.declared.progress.Progress.{Progress}
use Rattle.fz_image.specs.declared.progress.Underway.{Underway}

-- what is known of the source and the sink at one time
pub record Ends : Type 0 where
  pub held : Option (List ℕ)
  pub attached : Option ℕ
  pub ranges : Option (List (ℕ × ℕ))
  pub reads : Tally
  pub created : Bool
  pub contents : Option (List ℕ)
  pub writes : Tally

-- of these
abbrev pub ends_at : Option (List ℕ) → Option ℕ → Option (List (ℕ × ℕ)) → Tally → Bool → Option (List ℕ) → Tally → Ends
ends_at held attached ranges reads created contents writes = record {
  held = held;
  attached = attached;
  ranges = ranges;
  reads = reads;
  created = created;
  contents = contents;
  writes = writes;
}

-- what reading and writing keep of them
pub record EndsStay (old new : Ends) : Type 0 where
  pub held_is : new.held ≡ old.held
  pub attached_is : new.attached ≡ old.attached
  pub created_is : new.created ≡ old.created
  pub shut : StaysShut old.contents new.contents
  pub told_ranges : StaysTold old.ranges new.ranges
  pub told_contents : StaysTold old.contents new.contents

-- the slots of a window are all of these lengths
abbrev pub AreAlike : ℕ × ℕ → Pool → Type 0
AreAlike size w = slot_sizes w.slots ≡ replicate (2 * w.workers) size

-- the slots of both halves are alike, and have room for a tile of the layout
abbrev pub HaveRooms : Layout → Pool → Pool → Type 0
HaveRooms l first second = (n : ℕ) × AreAlike (2 * n, 8 * n + 64) first × AreAlike (2 * n, 8 * n + 64) second × (pixels_of l 0 ≤ n)

-- so many tiles, which the first slots of the one half have encoded, are the next ones, and so many after them the first slots of
-- the other half have to be encoded
pub record StandReady (l : Layout) (file : Option (List ℕ)) (w : Progress) (coded loaded : ℕ) (first second : Pool) : Type 0 where
  pub within : w.tiles + coded + loaded ≤ l.tiles
  pub has_coded : AreEncodedTiles l file w.tiles coded second
  pub few_coded : coded ≤ 2 * second.workers
  pub has_loaded : AreLoaded l file (w.tiles + coded) loaded first
  pub few_loaded : loaded ≤ 2 * first.workers

-- the tiles in the first slots can be written, and more tiles read
pub record CanMove (l : Layout) (e : Ends) (u : Underway) (pool : Pool) (tiles next more : ℕ) (rows bytes : List ℕ) : Type 0 where
  pub layout : IsLayout l
  pub pixels : HasPixels e.attached l
  pub created : IsTrue e.created
  pub coded : AreNext l u.progress.heap tiles pool
  pub tiles_left : u.progress.tiles + tiles ≤ l.tiles
  pub summed : u.progress.sum.count ≤ 2 ^ 60
  pub rows_fit : l.row_len * tiles ≤ length rows
  pub last : AreHeldBack u bytes
  pub room : HaveRoom l pool
  pub more_left : next + more ≤ l.tiles
  pub near : more ≤ 2 * pool.workers

-- they were written, and more tiles read into the first slots
pub record HasMoved
    {X : Type 0} (l : Layout) (e e' : Ends) (u u' : Underway) (pool pool' : Pool) (tiles next more : ℕ)
    (rows rows' bytes bytes' : List ℕ) (result : Result X Stop) : Type 0 where
  pub progress : OnOk result (u'.progress ≡ with_tiles l u.progress (coded_tiles tiles pool.slots))
  pub contents : OnOk result (contents_of l u' bytes' e'.contents
      ≡ tiles_written l u.progress (coded_tiles tiles pool.slots) (contents_of l u bytes e.contents))
  pub last : OnOk result (AreHeldBack u' bytes')
  pub loaded : OnOk result (AreLoaded l e.held next more pool')
  pub ends : EndsStay e e'
  pub log : ReadsPixels l e.ranges e'.ranges
  pub rows_len : length rows' ≡ length rows
  pub room : length bytes' ≡ length bytes
  pub sizes : slot_sizes pool'.slots ≡ slot_sizes pool.slots
  pub workers : pool'.workers ≡ pool.workers
