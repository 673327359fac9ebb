-- What the law of tables says, from what is shown of tables that are written.
use Rattle.std.proofs.Common.{◌≡◌, ℕ, ◌+◌, ◌*◌, ◌≤◌, List, ◌++◌, length, Option, refl, sym, ap, ◌∙◌, subst, arith}
use Rattle.std.proofs.Math.Nat.{mul-le-mul_left}
use Rattle.fz_tile.specs.TileCode.{TileCode}
use Rattle.fz_files.specs.Packed.{heap_of, rows_from}
use Rattle.fz_pool.specs.Round.{coded_tiles}
use Rattle.fz_pool.specs.Window.{Pool}
use Rattle.fz_image.specs.Laws.{IsSmall, NextTilesFit, TablesAreSmall, TilesJoin}
use Rattle.fz_image.specs.Layout.{IsLayout}
use Rattle.fz_image.specs.Progress.{AreNext, no_progress, with_tiles}
use Rattle.fz_image.specs.Tiles.{AreCodesFrom, AreEncodedTiles}
use Rattle.fz_image.specs.declared.layout.Layout.{Layout}
use Rattle.fz_image.proofs.Codes.{rows_len}
use Rattle.fz_image.proofs.Progresses.{Joins, progress_joined}
use Rattle.fz_image.proofs.Sizes.{pixel_bytes_small, rows_small}
use Rattle.fz_image.proofs.TileTotals.{codes_append, codes_within, next_fits}

pub next_tiles : NextTilesFit
next_tiles l held cs count w is first few near e =
    let es = coded_tiles count w.slots in
    let all : length cs + length es ≤ l.tiles = omega (arith, e.number, few) in
    record {
      filled = e.filled;
      near = near;
      lens = e.lens;
      fits = next_fits l cs es (0 + length (heap_of cs)) is first e.each all refl;
    }

pub tiles_join : Joins → TilesJoin
tiles_join joins l cs es is first next =
    let at : AreCodesFrom l (0 + length cs) es = subst (λ n. AreCodesFrom l n es) (omega arith) next in
    (codes_append l 0 cs es first at, progress_joined l cs es joins is.row_len)

pub tables_small : TablesAreSmall
tables_small l cs is first few =
    let rows : length (rows_from l.plan 0 cs) ≡ l.row_len * length cs = rows_len l.plan 0 cs ∙ ap (λ n. n * length cs) (sym is.row_len) in
    let most : l.row_len * length cs ≤ l.row_len * l.tiles = mul-le-mul_left l.row_len few in
    record {
      heap = omega (arith, codes_within l cs is first few, pixel_bytes_small l is);
      sum = omega (arith, rows, most, rows_small l is, codes_within l cs is first few, pixel_bytes_small l is);
    }
