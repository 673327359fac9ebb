-- The lines that the program prints for the status of a run.
use Rattle.std.specs.Prelude.{ℕ, ◌≡◌, ◌⊎◌, Bool, true, false, List, [], ◌∷◌, ◌++◌, codes, decimal, Option}
use Rattle.fz_base.specs.Counts.{Rose, Tally}
use Rattle.fz_base.specs.Sink.{appended, MayAppend}
use Rattle.fz_base.specs.Kind.{kind_number}
use Rattle.fz_base.specs.declared.kind.Kind.{Kind}
use Rattle.fz_base.specs.declared.kind.Kind.TheVariants.{NotFits, Truncated, LongHeader, BadCard, Duplicate, HeaderFill, DataFill}
use Rattle.fz_base.specs.declared.kind.Kind.TheVariants.{TrailingBytes, Reserved, AlreadyPacked, Limit as PastLimit, Groups}
use Rattle.fz_base.specs.declared.kind.Kind.TheVariants.{UnknownCodec, Quantised, CompressedTable, BadTable, RowCount, DescriptorRange}
use Rattle.fz_base.specs.declared.kind.Kind.TheVariants.{TileMissing, GzipTile, CodeShort, CodeValue, LineList, PixelRange, TileSize}
use Rattle.fz_base.specs.declared.kind.Kind.TheVariants.{MisplacedPrimary, NotPacked, OutOfBox, PlioOffset, Unpatchable, BadPatch}
use Rattle.fz_base.specs.declared.fault.Fault.{Fault}
use Rattle.fz_base.specs.declared.fault.Place.{Place}
use Rattle.fz_base.specs.declared.fault.Place.TheVariants.{Byte, Card, Row}
use Rattle.fz_app.specs.declared.status.Status.{Status}
use Rattle.fz_app.specs.declared.status.Status.TheVariants.{Done, Different, Usage, Refused, ReadFault, WriteFault, OverLimit, NoMemory}

-- a kind by its name
abbrev pub kind_name_of : Kind → List ℕ
kind_name_of NotFits = codes "NotFits"
kind_name_of Truncated = codes "Truncated"
kind_name_of LongHeader = codes "LongHeader"
kind_name_of BadCard = codes "BadCard"
kind_name_of Duplicate = codes "Duplicate"
kind_name_of HeaderFill = codes "HeaderFill"
kind_name_of DataFill = codes "DataFill"
kind_name_of TrailingBytes = codes "TrailingBytes"
kind_name_of Reserved = codes "Reserved"
kind_name_of AlreadyPacked = codes "AlreadyPacked"
kind_name_of PastLimit = codes "Limit"
kind_name_of Groups = codes "Groups"
kind_name_of UnknownCodec = codes "UnknownCodec"
kind_name_of Quantised = codes "Quantised"
kind_name_of CompressedTable = codes "CompressedTable"
kind_name_of BadTable = codes "BadTable"
kind_name_of RowCount = codes "RowCount"
kind_name_of DescriptorRange = codes "DescriptorRange"
kind_name_of TileMissing = codes "TileMissing"
kind_name_of GzipTile = codes "GzipTile"
kind_name_of CodeShort = codes "CodeShort"
kind_name_of CodeValue = codes "CodeValue"
kind_name_of LineList = codes "LineList"
kind_name_of PixelRange = codes "PixelRange"
kind_name_of TileSize = codes "TileSize"
kind_name_of MisplacedPrimary = codes "MisplacedPrimary"
kind_name_of NotPacked = codes "NotPacked"
kind_name_of OutOfBox = codes "OutOfBox"
kind_name_of PlioOffset = codes "PlioOffset"
kind_name_of Unpatchable = codes "Unpatchable"
kind_name_of BadPatch = codes "BadPatch"

-- a place by its sort and its number
abbrev pub place_text : Place → List ℕ
place_text (Byte p) = codes "byte " ++ decimal p
place_text (Card p) = codes "card " ++ decimal p
place_text (Row p) = codes "row " ++ decimal p

-- a refusal: number and name of its kind, the HDU, the place
abbrev pub refusal_text : Fault → List ℕ
refusal_text x =
    codes "refused: " ++ decimal (kind_number x.kind) ++ codes " " ++ kind_name_of x.kind ++ codes " hdu " ++ decimal x.hdu ++ codes " " ++ place_text x.at

-- the line of a status; none if the job's own lines report its output
abbrev pub status_line : Status → List ℕ
status_line Done = []
status_line Different = []
status_line Usage = codes "usage: fz pack, unpack, cut, verify, list, drill, retile or patch\n"
status_line (Refused x) = refusal_text x ++ codes "\n"
status_line ReadFault = codes "read fault\n"
status_line WriteFault = codes "write fault\n"
status_line (OverLimit live asked limit) =
    codes "over limit: live " ++ decimal live ++ codes " asked " ++ decimal asked ++ codes " limit " ++ decimal limit ++ codes "\n"
status_line NoMemory = codes "no memory\n"

-- What a text got of a line: nothing if there is no line; otherwise the line, and its counts stayed; or, if a count of its
-- faults or wants rose, a prefix of the line, possibly empty.
abbrev pub GotLine : List ℕ → Option (List ℕ) → Option (List ℕ) → Tally → Tally → Type 0
GotLine [] old new before now = (new ≡ old) × (now ≡ before)
GotLine (b ∷ line) old new before now =
    ((new ≡ appended (b ∷ line) old) × (now ≡ before))
    ⊎ (MayAppend (b ∷ line) old new × (Rose before.faults now.faults ⊎ Rose before.wants now.wants))

-- the line that says whether a file is the packed file of the file that it stands for
abbrev pub strict_text : Bool → List ℕ
strict_text true = codes "strict yes\n"
strict_text false = codes "strict no\n"
