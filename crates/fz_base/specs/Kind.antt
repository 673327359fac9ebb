-- The refusal kinds by their fixed numbers.
use Rattle.std.specs.Prelude.{ℕ}
use Rattle.fz_base.specs.declared.kind.Kind.{Kind}
use Rattle.fz_base.specs.declared.kind.Kind.TheVariants.{NotFits, Truncated, LongHeader, BadCard, Duplicate, HeaderFill, DataFill}
use Rattle.fz_base.specs.declared.kind.Kind.TheVariants.{TrailingBytes, Reserved, AlreadyPacked, Limit, Groups, UnknownCodec}
use Rattle.fz_base.specs.declared.kind.Kind.TheVariants.{Quantised, CompressedTable, BadTable, RowCount, DescriptorRange}
use Rattle.fz_base.specs.declared.kind.Kind.TheVariants.{TileMissing, GzipTile, CodeShort, CodeValue, LineList, PixelRange, TileSize}
use Rattle.fz_base.specs.declared.kind.Kind.TheVariants.{MisplacedPrimary, NotPacked, OutOfBox, PlioOffset, Unpatchable, BadPatch}

-- the number of a kind; 30 stays unused, since it was the number of a kind that is gone
abbrev pub kind_number : Kind → ℕ
kind_number NotFits = 1
kind_number Truncated = 2
kind_number LongHeader = 3
kind_number BadCard = 4
kind_number Duplicate = 5
kind_number HeaderFill = 6
kind_number DataFill = 7
kind_number TrailingBytes = 8
kind_number Reserved = 9
kind_number AlreadyPacked = 10
kind_number Limit = 11
kind_number Groups = 12
kind_number UnknownCodec = 13
kind_number Quantised = 14
kind_number CompressedTable = 15
kind_number BadTable = 16
kind_number RowCount = 17
kind_number DescriptorRange = 18
kind_number TileMissing = 19
kind_number GzipTile = 20
kind_number CodeShort = 21
kind_number CodeValue = 22
kind_number LineList = 23
kind_number PixelRange = 24
kind_number TileSize = 25
kind_number MisplacedPrimary = 26
kind_number NotPacked = 27
kind_number OutOfBox = 28
kind_number PlioOffset = 29
kind_number Unpatchable = 31
kind_number BadPatch = 32
