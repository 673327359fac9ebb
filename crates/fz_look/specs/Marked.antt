-- Marks that are kept of the tiles of the image at hand, from which their Rice codes are read on (FITS 4.0, section 10.4.1).
use Rattle.std.specs.Prelude.{ℕ, ◌≡◌, ◌⊎◌, ◌+◌, ◌-◌, ◌*◌, ◌/◌, ◌%◌, ◌≤◌, min, ℤ, pos, List, drop, length, slice_index_or, Option}
use Rattle.std.specs.Int.{w32, cast_unsigned}
use Rattle.std.specs.Option.{ForSome}
use Rattle.fz_block.specs.declared.header.Header.{Header}
use Rattle.fz_tile.specs.declared.codec.Codec.{Codec}
use Rattle.fz_tile.specs.declared.codec.Codec.TheVariants.{Rice, Plio, Plain}
use Rattle.fz_pixels.specs.Marks.{IsMarkIn}
use Rattle.fz_pixels.specs.declared.marks.TileMark.{TileMark}
use Rattle.fz_look.specs.declared.here.Here.{Here}

-- ---- the table of marks

-- a place of the table, read as unsigned
abbrev pub word_at : List ℤ → ℕ → ℕ
word_at table k = cast_unsigned w32 (slice_index_or table k (pos 0))

-- the place at which the mark of tile t begins, if a mark has four of so many places
abbrev pub mark_place : ℕ → ℕ → ℕ
mark_place n t = 4 * (t % (n / 4))

-- The table has this mark of tile t: the number of the tile and one, so that zeros are of none, and what the mark says.
pub record IsKept (table : List ℤ) (t : ℕ) (m : TileMark) : Type 0 where
  pub room : 4 ≤ length table
  pub tile : word_at table (mark_place (length table) t) ≡ t + 1
  pub pixel : word_at table (mark_place (length table) t + 1) ≡ m.pixel
  pub bit : word_at table (mark_place (length table) t + 2) ≡ m.mark.bit
  pub last : word_at table (mark_place (length table) t + 3) ≡ m.mark.last

-- each mark of the new table is this one of tile t, or was kept before
abbrev pub KeepsMark : ℕ → TileMark → List ℤ → List ℤ → Type 0
KeepsMark t m old new = (u : ℕ) (k : TileMark) → IsKept new u k → ((u ≡ t) × (k ≡ m)) ⊎ IsKept old u k

-- Each mark of the table is one of the image with this header. That it is is one fact, and not also the numbers before it, so that a view can keep it.
abbrev pub AreMarks : List ℕ → Header → List ℤ → Type 0
AreMarks g h table = (t : ℕ) (m : TileMark) → IsKept table t m → ∥ IsMarkIn g h t m ∥₁

-- ---- the table among numbers that tiles need at most half of

-- It begins where so many of them are left, if tiles are read in parts: a pixel of these takes one. For other images there is none.
abbrev pub table_place : Codec → ℕ → ℕ
table_place (Rice block bytepix) n = n - min (n / 2) 16384
table_place Plio n = n
table_place Plain n = n

abbrev pub table_in : Codec → List ℤ → List ℤ
table_in codec numbers = drop (table_place codec (length numbers)) numbers

-- the marks among these numbers are those of the image at hand, if the bytes are shown
abbrev pub AreMarksOf : Option (List ℕ) → Option Here → List ℤ → Type 0
AreMarksOf held here numbers = ForSome held (λ g. ForSome here (λ h. ForSome h.read.image (λ i. AreMarks g h.read.header (table_in i.plan.codec numbers))))

-- among these there are none, whatever the codec is
abbrev pub HasNoMarks : List ℤ → Type 0
HasNoMarks numbers = (codec : Codec) (t : ℕ) (m : TileMark) → IsKept (table_in codec numbers) t m → ⊥
