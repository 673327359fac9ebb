-- The halves of the window between two turns.
use Rattle.std.proofs.Common.{◌≡◌, ℕ, ◌+◌, ◌*◌, ◌≤◌, List, length, Option, Some, None, IfSome, IsTrue, refl, arith}
use Rattle.fz_pool.specs.Laws.{AreAsMany}
use Rattle.fz_pool.specs.Round.{coded_tiles}
use Rattle.fz_pool.specs.Window.{Pool}
use Rattle.fz_image.specs.Held.{AreHeldBack, IsUnderwayFrom, contents_of}
use Rattle.fz_image.specs.Layout.{HasPixels, IsLayout}
use Rattle.fz_image.specs.Tiles.{AreEncodedTiles, codes_from}
use Rattle.fz_pack.specs.Turns.{AreAlike, CanMove, Ends, HaveRooms, StandReady}
use Rattle.fz_image.specs.declared.layout.Layout.{Layout}
use Rattle.fz_image.specs.declared.progress.Progress.{Progress}
use Rattle.fz_image.specs.declared.progress.Underway.{Underway}
use Rattle.fz_pack.proofs.LoadedTiles.{loaded_none}
use Rattle.fz_pack.proofs.Progresses.{are_next, summed_small}
use Rattle.fz_pack.proofs.Sizes.{rows_fit}

-- no slot has the bytes of a tile at first
encoded_none : (l : Layout) (held : Option (List ℕ)) (first : ℕ) (w : Pool) → length w.slots ≡ 2 * w.workers → AreEncodedTiles l held first 0 w
encoded_none l held first w filled = record {
  filled = filled;
  lens = λ i d near. absurd (omega (arith, near));
  number = refl;
  each = tt;
  told = none held;
}
  where
    none : (h : Option (List ℕ)) → IfSome h (λ file. coded_tiles 0 w.slots ≡ codes_from l file first 0)
    none None = tt
    none (Some file) = refl

pub none_ready : (l : Layout) (held : Option (List ℕ)) (w : Progress) (first second : Pool) → HaveRooms l first second → AreAsMany → w.tiles ≤ l.tiles → StandReady l held w 0 0 first second
none_ready l held w first second rooms many few = record {
  within = omega (arith, few);
  has_coded = encoded_none l held w.tiles second (many second.slots (2 * second.workers) (2 * rooms.0, 8 * rooms.0 + 64) rooms.2);
  few_coded = omega arith;
  has_loaded = loaded_none l held (w.tiles + 0) first;
  few_loaded = omega arith;
}

-- where the slots are still alike, they have room as before
pub still_rooms : (l : Layout) (first second first' second' : Pool) → HaveRooms l first second → ((size : ℕ × ℕ) → AreAlike size first → AreAlike size second → AreAlike size first' × AreAlike size second') → HaveRooms l first' second'
still_rooms l first second first' second' rooms alike =
    let n : ℕ = rooms.0 in
    let both = alike (2 * n, 8 * n + 64) rooms.1 rooms.2 in
    (n, both.0, both.1, rooms.3)

-- the next tiles can be written, and after the others more read into their slots
pub can_move : (l : Layout) (e : Ends) (u : Underway) (before : Option (List ℕ)) (coded loaded more : ℕ) (first second : Pool) (rows bytes : List ℕ) → IsLayout l → HasPixels e.attached l → IsTrue e.created →
    HaveRooms l first second → 4096 ≤ length rows → 2 * second.workers ≤ 128 → AreHeldBack u bytes → IsUnderwayFrom l e.held before u bytes e.contents → StandReady l e.held u.progress coded loaded first second →
    more ≤ 2 * second.workers → u.progress.tiles + coded + loaded + more ≤ l.tiles → CanMove l e u second coded (u.progress.tiles + coded + loaded) more rows bytes
can_move l e u before coded loaded more first second rows bytes is pixels created rooms long slots last was ready near left =
    let w = u.progress in
    let within : w.tiles + coded + loaded ≤ l.tiles = ready.within in
    let few : w.tiles + coded ≤ l.tiles = omega (arith, within) in
    record {
      layout = is;
      pixels = pixels;
      created = created;
      coded = are_next l e.held e.held before (contents_of l u bytes e.contents) w coded second is was ready.has_coded ready.few_coded few;
      tiles_left = few;
      summed = summed_small l e.held before (contents_of l u bytes e.contents) w is was;
      rows_fit = rows_fit l coded (length rows) is (omega (arith, ready.few_coded, slots)) long;
      last = last;
      room = (rooms.0, rooms.2, rooms.3);
      more_left = left;
      near = near;
    }
