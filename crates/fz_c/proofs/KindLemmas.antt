-- A number of a kind has two digits.
use Rattle.std.proofs.Common.{◌≡◌, ℕ, zero, suc, ◌≤◌, pos, arith}
use Rattle.std.specs.Prelude.{neg_ℤ}
use Rattle.fz_base.specs.Kind.{kind_number}
use Rattle.fz_base.specs.declared.kind.Kind.{Kind}
use Rattle.fz_base.specs.declared.kind.Kind.TheVariants.{NotFits, Truncated, LongHeader, BadCard, Duplicate, HeaderFill, DataFill, TrailingBytes}
use Rattle.fz_base.specs.declared.kind.Kind.TheVariants.{Reserved, AlreadyPacked, Limit, Groups, UnknownCodec, Quantised, CompressedTable, BadTable}
use Rattle.fz_base.specs.declared.kind.Kind.TheVariants.{RowCount, DescriptorRange, TileMissing, GzipTile, CodeShort, CodeValue, LineList, PixelRange}
use Rattle.fz_base.specs.declared.kind.Kind.TheVariants.{TileSize, MisplacedPrimary, NotPacked, OutOfBox, PlioOffset, Unpatchable, BadPatch}
use Rattle.fz_flat.specs.declared.fronts.Unread.{Unread}
use Rattle.fz_flat.specs.declared.fronts.Unread.TheVariants.{NoPlace, GoesOn, Refused as IsRefused}
use Rattle.fz_c.specs.Faults.{answer_of}
use Rattle.fz_c.specs.Fronts.{fault_for}

pub small : (kind : Kind) → kind_number kind ≤ 99
small NotFits = omega arith
small Truncated = omega arith
small LongHeader = omega arith
small BadCard = omega arith
small Duplicate = omega arith
small HeaderFill = omega arith
small DataFill = omega arith
small TrailingBytes = omega arith
small Reserved = omega arith
small AlreadyPacked = omega arith
small Limit = omega arith
small Groups = omega arith
small UnknownCodec = omega arith
small Quantised = omega arith
small CompressedTable = omega arith
small BadTable = omega arith
small RowCount = omega arith
small DescriptorRange = omega arith
small TileMissing = omega arith
small GzipTile = omega arith
small CodeShort = omega arith
small CodeValue = omega arith
small LineList = omega arith
small PixelRange = omega arith
small TileSize = omega arith
small MisplacedPrimary = omega arith
small NotPacked = omega arith
small OutOfBox = omega arith
small PlioOffset = omega arith
small Unpatchable = omega arith
small BadPatch = omega arith

-- and it is not 0
some : (kind : Kind) → 1 ≤ kind_number kind
some NotFits = omega arith
some Truncated = omega arith
some LongHeader = omega arith
some BadCard = omega arith
some Duplicate = omega arith
some HeaderFill = omega arith
some DataFill = omega arith
some TrailingBytes = omega arith
some Reserved = omega arith
some AlreadyPacked = omega arith
some Limit = omega arith
some Groups = omega arith
some UnknownCodec = omega arith
some Quantised = omega arith
some CompressedTable = omega arith
some BadTable = omega arith
some RowCount = omega arith
some DescriptorRange = omega arith
some TileMissing = omega arith
some GzipTile = omega arith
some CodeShort = omega arith
some CodeValue = omega arith
some LineList = omega arith
some PixelRange = omega arith
some TileSize = omega arith
some MisplacedPrimary = omega arith
some NotPacked = omega arith
some OutOfBox = omega arith
some PlioOffset = omega arith
some Unpatchable = omega arith
some BadPatch = omega arith

below_zero : (n : ℕ) → 1 ≤ n → neg_ℤ (pos n) ≡ pos 0 → ⊥
below_zero zero positive e = omega (arith, positive)
below_zero (suc n) positive e = let h : ⊥ = cc in h

-- no answer for a front that says nothing is 0
pub not_zero : (why : Unread) → answer_of (fault_for why) ≡ pos 0 → ⊥
not_zero NoPlace e = below_zero 109 (omega arith) e
not_zero GoesOn e = below_zero 104 (omega arith) e
not_zero (IsRefused x) e = below_zero (kind_number x.kind) (some x.kind) e
