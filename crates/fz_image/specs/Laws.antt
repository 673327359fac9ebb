-- What the law of tables says: of tables that are made tile by tile, whatever the pixels are (FITS 4.0, sections 7.3.5 and 10.1.3).
use Rattle.std.specs.Prelude.{ℕ, ◌≡◌, ◌+◌, ◌*◌, ◌^◌, ◌≤◌, List, ◌++◌, length, Option}
use Rattle.fz_tile.specs.TileCode.{TileCode}
use Rattle.fz_pool.specs.Window.{Pool}
use Rattle.fz_image.specs.Layout.{IsLayout, pixel_bytes_of}
use Rattle.fz_image.specs.Progress.{AreNext, no_progress, with_tiles}
use Rattle.fz_image.specs.Tiles.{AreCodesFrom, AreEncodedTiles}
use Rattle.fz_image.specs.declared.layout.Layout.{Layout}

-- tiles that were encoded, and are the next ones after those with these codes, find room in the heap
abbrev pub NextTilesFit : Type 0
NextTilesFit =
    (l : Layout) (held : Option (List ℕ)) (cs : List TileCode) (count : ℕ) (w : Pool) → IsLayout l → AreCodesFrom l 0 cs
    → length cs + count ≤ l.tiles → count ≤ 2 * w.workers → AreEncodedTiles l held (length cs) count w
    → AreNext l (with_tiles l no_progress cs).heap count w

-- with more tiles the codes are those of the first tiles, and what was written is that of all
abbrev pub TilesJoin : Type 0
TilesJoin =
    (l : Layout) (cs es : List TileCode) → IsLayout l → AreCodesFrom l 0 cs → AreCodesFrom l (length cs) es
    → AreCodesFrom l 0 (cs ++ es) × (with_tiles l (with_tiles l no_progress cs) es ≡ with_tiles l no_progress (cs ++ es))

-- the heap of the first tiles has at most 2^43 bytes, and at most 2^60 are in the sum
pub record IsSmall (l : Layout) (cs : List TileCode) : Type 0 where
  pub heap : (with_tiles l no_progress cs).heap ≤ 2 ^ 43
  pub sum : (with_tiles l no_progress cs).sum.count ≤ 2 ^ 60

abbrev pub TablesAreSmall : Type 0
TablesAreSmall = (l : Layout) (cs : List TileCode) → IsLayout l → AreCodesFrom l 0 cs → length cs ≤ l.tiles → IsSmall l cs
