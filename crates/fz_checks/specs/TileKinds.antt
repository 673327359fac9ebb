-- As which kind a record that gives no pixels is refused (FITS 4.0, section 10.4).
use Rattle.fz_base.specs.declared.kind.Kind.{Kind}
use Rattle.fz_base.specs.declared.kind.Kind.TheVariants as kind
use Rattle.fz_tile.specs.declared.fault.TileFault.{TileFault}
use Rattle.fz_tile.specs.declared.fault.TileFault.TheVariants.{CodeShort, CodeValue, LineList, PixelRange, TileSize}

-- the kind of a tile's fault
abbrev pub kind_of_tile : TileFault → Kind
kind_of_tile CodeShort = kind.CodeShort
kind_of_tile CodeValue = kind.CodeValue
kind_of_tile LineList = kind.LineList
kind_of_tile PixelRange = kind.PixelRange
kind_of_tile TileSize = kind.TileSize
