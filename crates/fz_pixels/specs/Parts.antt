-- What the functions of this crate promise each other of tiles that are read in parts (FITS 4.0, sections 10.1.3 and 10.4.1).
use Rattle.std.specs.Prelude.{ℕ, ◌≡◌, ◌+◌, ◌-◌, ◌*◌, ◌/◌, ◌<◌, ◌≤◌, min, ℤ, List, length, map, take, drop, Option, Some, None, IfSome, MatchOption}
use Rattle.fz_grid.specs.Cutout.{numbers_at}
use Rattle.fz_grid.specs.declared.line.Line.{Line}
use Rattle.fz_table.specs.Records.{record_bytes}
use Rattle.fz_table.specs.declared.record.Record.{Record}
use Rattle.fz_table.specs.declared.record.TileColumn.TheVariants.{Coded, Stored}
use Rattle.fz_rice.specs.Marks.{with_before}
use Rattle.fz_rice.specs.declared.marks.Mark.{Mark}
use Rattle.fz_tile.specs.Parts.{AreWholeBlocks, HasFirstMark, IsMarkAfter}
use Rattle.fz_tile.specs.Record.{IsRecord, read_len}
use Rattle.fz_tile.specs.declared.codec.Codec.{Codec}
use Rattle.fz_tile.specs.declared.codec.Codec.TheVariants.{Rice, Plio, Plain}
use Rattle.fz_tile.specs.declared.coded.Place2.TheVariants as place
use Rattle.fz_checks.specs.declared.job_checks.PackedImage.{PackedImage}
use Rattle.fz_files.specs.Restored.{pixels_of}
use Rattle.fz_fetch.specs.Loaded.{IsRecordIn}
use Rattle.fz_pixels.specs.Marks.{HasBlocks, part_start}
use Rattle.fz_pixels.specs.declared.marks.TileMark.{TileMark}

-- ---- records

-- how many whole bytes are before a mark, of the bytes that are read of a record
abbrev pub bytes_before : Option TileMark → ℕ → ℕ
bytes_before None read = 0
bytes_before (Some m) read = min (m.mark.bit / 8) read

-- so many bytes are before it
abbrev pub AreBefore : Option TileMark → ℕ → Type 0
AreBefore None skipped = skipped ≡ 0
AreBefore (Some m) skipped = 8 * skipped ≤ m.mark.bit

-- the record of tile t is its plain bytes
abbrev pub IsStoredIn : List ℕ → ℕ → PackedImage → ℕ → Type 0
IsStoredIn file hdu image t = (found : Record) × IsRecordIn file hdu image t found × (found.column ≡ Stored)

-- this record of tile t is a code, and `code` begins with what is read of it without the bytes before the mark
pub record IsRestRead (held : Option (List ℕ)) (hdu : ℕ) (image : PackedImage) (t : ℕ) (from : Option TileMark) (found : Record) (code : List ℕ) : Type 0 where
  pub column : found.column ≡ Coded
  pub len : found.read ≡ read_len (pixels_of image.plan t) found.total
  pub told :
      IfSome held (λ file. IsRecordIn file hdu image t found
      × (take (found.read - bytes_before from found.read) code ≡ drop (bytes_before from found.read) (record_bytes file found)))

-- ---- marks

-- BLOCKSIZE of the codes that are read in parts
abbrev pub blocksize_of : Codec → Option ℕ
blocksize_of (Rice block bytepix) = Some block
blocksize_of Plio = None
blocksize_of Plain = None

-- a code is read on from this mark, or from its first pixel if there is none
abbrev pub IsMarked : Codec → List ℕ → Option TileMark → Type 0
IsMarked codec read None = HasBlocks codec
IsMarked codec read (Some m) = IsMarkAfter codec read m.pixel m.mark

-- the mark, counted from these bytes on; or that before the first pixel
abbrev pub IsMarkOf : Codec → ℕ → List ℕ → ℕ → Option TileMark → Option Mark → Type 0
IsMarkOf codec bits code skipped None result = HasFirstMark codec bits code result
IsMarkOf codec bits code skipped (Some m) result = MatchOption result ⊥ (λ mark. with_before skipped mark ≡ m.mark)

-- these bytes are a record without its first bytes; it stands for the pixels, and is read on from the mark
pub record IsRestOf (codec : Codec) (bits : ℕ) (code : List ℕ) (from : Option TileMark) (skipped total : ℕ) (read : List ℕ) (xs : List ℤ) : Type 0 where
  pub within : skipped ≤ length read
  pub stands : IsRecord codec bits place.Coded total read xs
  pub code_is : code ≡ drop skipped read
  pub marked : IsMarked codec read from

-- the numbers from place i on and before place j are the pixels there; if these are whole blocks, the code is read on from the next mark
pub record AreBetween (codec : Codec) (read : List ℕ) (i j : ℕ) (xs numbers : List ℤ) (next : TileMark) : Type 0 where
  pub pixels : take (j - i) (drop i numbers) ≡ take (j - i) (drop i xs)
  pub next_is : AreWholeBlocks codec j → IsMarkAfter codec read j next.mark

-- of each record whose rest this is the pixels from the mark on and before pixel j were read
abbrev pub ReadsBetween : Codec → ℕ → List ℕ → Option TileMark → ℕ → ℕ → List ℤ → Option TileMark → Type 0
ReadsBetween codec bits code from skipped j numbers result = (total : ℕ) (read : List ℕ) (xs : List ℤ)
    → IsRestOf codec bits code from skipped total read xs → j ≤ length xs
    → MatchOption result ⊥ (λ next. AreBetween codec read (part_start from) j xs numbers next)

-- ---- picks

-- a place is from place i on, and before place j
abbrev pub IsPlaceBetween : ℕ → ℕ → ℕ → Type 0
IsPlaceBetween i j p = (i ≤ p) × (p < j)

-- the picks of the line are from pixel i of a tile on and before pixel j, and within so many places of the cutout
pub record IsLineBetween (i j in_cutout : ℕ) (line : Line) : Type 0 where
  pub some : 1 ≤ line.count
  pub step : 1 ≤ line.step
  pub first : i ≤ line.in_tile
  pub last : line.in_tile + (line.count - 1) * line.step < j
  pub cutout : line.in_cutout + line.count ≤ in_cutout

-- the pixels at these places of a tile, of its pixels from pixel i on
abbrev pub pixels_from : ℕ → List ℤ → List ℕ → List ℤ
pixels_from i pixels places = numbers_at pixels (map (λ p. p - i) places)
