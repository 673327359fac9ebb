-- The tables of names: how the names of an image are called in a packed header, which names a packed header has of itself, and
-- which an image to be packed may not have (FITS 4.0, sections 4.4, 7.3 and 10.1).
use Rattle.std.specs.Prelude.{◌≡◌, ℕ, ◌<◌, ◌≤◌, ◌^◌, ◌⊎◌, ⊤, List, [], ◌∷◌, codes}
use Rattle.fz_card.specs.Layout.{padded}
use Rattle.fz_card.specs.Made.{numbered_name}

-- the stem and a number from the first one to the last one, as a name
pub record IsNumberedName (stem : List ℕ) (first last : ℕ) (name : List ℕ) : Type 0 where
  pub number : ℕ
  pub low : first ≤ number
  pub high : number ≤ last
  pub made : name ≡ numbered_name stem number

-- a line of a list: a word, or a stem and the last of the numbers from 1 on after it
pub data Names : Type 0 where
  Word : List ℕ → Names
  Numbered : List ℕ → ℕ → Names

-- the name is the word, or is the stem and one of the numbers
abbrev pub IsIn : Names → List ℕ → Type 0
IsIn (Word word) name = name ≡ padded word
IsIn (Numbered stem last) name = IsNumberedName stem 1 last name

-- the last number of the line, if it has one, is a number of 64 bits
abbrev pub IsShortLine : Names → Type 0
IsShortLine (Word word) = ⊤
IsShortLine (Numbered stem last) = last < 2 ^ 64

-- the same for each line of a list
abbrev pub AreShortLines : List Names → Type 0
AreShortLines [] = ⊤
AreShortLines (line ∷ lines) = IsShortLine line × AreShortLines lines

-- the name is in some line of the list
abbrev pub IsInSome : List Names → List ℕ → Type 0
IsInSome [] name = ⊥
IsInSome (line ∷ lines) name = IsIn line name ⊎ IsInSome lines name

-- a line of the table: a word of an image and the word for it in a packed header, or two such stems and the last of the numbers from 1 on after them
pub data Renaming : Type 0 where
  Words : List ℕ → List ℕ → Renaming
  Stems : List ℕ → List ℕ → ℕ → Renaming

-- the two stems, with the same number after them
pub record AreNumberedNames (plain packed : List ℕ) (last : ℕ) (a b : List ℕ) : Type 0 where
  pub number : ℕ
  pub low : 1 ≤ number
  pub high : number ≤ last
  pub plain_made : a ≡ numbered_name plain number
  pub packed_made : b ≡ numbered_name packed number

-- the line renames a to b
abbrev pub Renames : Renaming → List ℕ → List ℕ → Type 0
Renames (Words plain packed) a b = (a ≡ padded plain) × (b ≡ padded packed)
Renames (Stems plain packed last) a b = AreNumberedNames plain packed last a b

-- some line of the table renames a to b
abbrev pub SomeRenames : List Renaming → List ℕ → List ℕ → Type 0
SomeRenames [] a b = ⊥
SomeRenames (line ∷ lines) a b = Renames line a b ⊎ SomeRenames lines a b

-- the names of an image that a packed header has under another name
unfoldable pub renamings : List Renaming
renamings =
    Words (codes "SIMPLE") (codes "ZSIMPLE") ∷
    Words (codes "XTENSION") (codes "ZTENSION") ∷
    Words (codes "BITPIX") (codes "ZBITPIX") ∷
    Words (codes "NAXIS") (codes "ZNAXIS") ∷
    Words (codes "EXTEND") (codes "ZEXTEND") ∷
    Words (codes "BLOCKED") (codes "ZBLOCKED") ∷
    Words (codes "PCOUNT") (codes "ZPCOUNT") ∷
    Words (codes "GCOUNT") (codes "ZGCOUNT") ∷
    Words (codes "CHECKSUM") (codes "ZHECKSUM") ∷
    Words (codes "DATASUM") (codes "ZDATASUM") ∷
    Stems (codes "NAXIS") (codes "ZNAXIS") 9 ∷
    []

-- the name a of an image is b in a packed header
unfoldable pub IsRenamed : List ℕ → List ℕ → Type 0
IsRenamed a b = SomeRenames renamings a b

-- the names that are only in a packed header: those of its columns, and those of the compression
unfoldable pub packed_names : List Names
packed_names =
    Word (codes "TFIELDS") ∷
    Numbered (codes "TTYPE") 999 ∷
    Numbered (codes "TFORM") 999 ∷
    Word (codes "THEAP") ∷
    Word (codes "ZIMAGE") ∷
    Word (codes "ZCMPTYPE") ∷
    Numbered (codes "ZTILE") 999 ∷
    Numbered (codes "ZNAME") 999 ∷
    Numbered (codes "ZVAL") 999 ∷
    Word (codes "ZBLANK") ∷
    Word (codes "ZQUANTIZ") ∷
    Word (codes "ZDITHER0") ∷
    Word (codes "ZMASKCMP") ∷
    []

-- the names that say how the table itself is built, and its sums
unfoldable pub own_names : List Names
own_names =
    Word (codes "XTENSION") ∷
    Word (codes "BITPIX") ∷
    Word (codes "NAXIS") ∷
    Numbered (codes "NAXIS") 999 ∷
    Word (codes "PCOUNT") ∷
    Word (codes "GCOUNT") ∷
    Word (codes "CHECKSUM") ∷
    Word (codes "DATASUM") ∷
    []

-- the names that say something of a table that is packed in another way, and those of the axes of a packed image
unfoldable pub foreign_names : List Names
foreign_names =
    Word (codes "ZTABLE") ∷
    Word (codes "ZSCALE") ∷
    Word (codes "ZZERO") ∷
    Numbered (codes "ZNAXIS") 99 ∷
    []

-- the name is in a packed header only for the table: it is not restored with the image
unfoldable pub IsDropped : List ℕ → Type 0
IsDropped name = IsInSome own_names name ⊎ IsInSome packed_names name

-- the name would be taken for one of a packed header: it is one that a renamed name has there, one that is only in a packed header,
-- or one of a table that is packed in another way
unfoldable pub IsReserved : List ℕ → Type 0
IsReserved name = ((a : List ℕ) × IsRenamed a name) ⊎ (IsInSome packed_names name ⊎ IsInSome foreign_names name)

-- NAXISi with i above 9: an image to be packed has no more than nine axes
abbrev pub IsHighAxis : List ℕ → Type 0
IsHighAxis name = IsNumberedName (codes "NAXIS") 10 999 name
