-- The answer of a call is 0, or it says why there is nothing: minus the number of a kind of refusal if the bytes are at fault, and
-- otherwise a number beyond -100, where no kind is.
use Rattle.std.specs.Prelude.{ℕ, ◌+◌, ◌*◌, ℤ, pos, neg_ℤ}
use Rattle.fz_base.specs.declared.kind.Kind.{Kind}
use Rattle.fz_base.specs.declared.kind.Kind.TheVariants as kind
use Rattle.fz_base.specs.Kind.{kind_number}
use Rattle.fz_tile.specs.declared.fault.TileFault.{TileFault}
use Rattle.fz_tile.specs.declared.fault.TileFault.TheVariants.{CodeShort, CodeValue, LineList, PixelRange, TileSize}
use Rattle.fz_c.specs.declared.fault.Fault.{Fault}
use Rattle.fz_c.specs.declared.fault.Fault.TheVariants.{Refused, NoCodec, NoColumn, NoTile, FewBytes, NoRoom, NumberRange, ManyBytes, NoPart}
use Rattle.fz_c.specs.declared.fault.Fault.TheVariants.{Rejected, NoHdu, NoPlan, FewPlaces, NoBox, FewRows}

-- the kind of a refused record
abbrev pub kind_of : TileFault → Kind
kind_of CodeShort = kind.CodeShort
kind_of CodeValue = kind.CodeValue
kind_of LineList = kind.LineList
kind_of PixelRange = kind.PixelRange
kind_of TileSize = kind.TileSize

-- the answer of a fault
abbrev pub answer_of : Fault → ℤ
answer_of (Refused why) = neg_ℤ (pos (kind_number (kind_of why)))
answer_of NoCodec = neg_ℤ (pos 101)
answer_of NoColumn = neg_ℤ (pos 102)
answer_of NoTile = neg_ℤ (pos 103)
answer_of FewBytes = neg_ℤ (pos 104)
answer_of NoRoom = neg_ℤ (pos 105)
answer_of NumberRange = neg_ℤ (pos 106)
answer_of ManyBytes = neg_ℤ (pos 107)
answer_of NoPart = neg_ℤ (pos 108)
answer_of (Rejected kind) = neg_ℤ (pos (kind_number kind))
answer_of NoHdu = neg_ℤ (pos 109)
answer_of NoPlan = neg_ℤ (pos 110)
answer_of FewPlaces = neg_ℤ (pos 111)
answer_of NoBox = neg_ℤ (pos 112)
answer_of FewRows = neg_ℤ (pos 113)

-- a version of three numbers as one
abbrev pub version_number : ℕ → ℕ → ℕ → ℕ
version_number major minor patch = 10000 * major + 100 * minor + patch

-- the version in the file VERSION
abbrev pub version : ℕ
version = version_number 1 0 0
