-- The HDUs of a file, each a header and its data with fill (FITS 4.0, sections 3.1, 3.3 and 4.4.1).
use Rattle.std.specs.Prelude.{ℕ, zero, suc, ◌≡◌, ◌==◌, ◌+◌, ◌-◌, ◌*◌, ◌/◌, false, ℤ, pos, negsuc, List, [], ◌∷◌, ◌++◌}
use Rattle.std.specs.Prelude.{length, take, drop, map, Option, Some, None, IsSome, unwrap_or, codes, ⊤, if◌then◌else◌}
use Rattle.std.specs.List.{flat_map, range_with_len}
use Rattle.fz_card.specs.Layout.{blanks, filled}
use Rattle.fz_card.specs.Reading.{integer_of}
use Rattle.fz_block.specs.Cards.{is_named, card_at, end_of}
use Rattle.fz_block.specs.Header.{whole_blocks_of}

-- an HDU by its bytes: the header, and the data with fill
pub record Hdu : Type 0 where
  pub header : List ℕ
  pub payload : List ℕ

abbrev pub hdu_bytes : Hdu → List ℕ
hdu_bytes h = h.header ++ h.payload

-- a header is whole blocks, of which the last holds the first card named END
pub record IsHeader (header : List ℕ) : Type 0 where
  pub before : ℕ
  pub blocks : length header ≡ 2880 * (before + 1)
  pub none : end_of (take (2880 * before) header) ≡ None
  pub has : IsSome (end_of header)

-- how large the number is that a card says, without its sign; 0 if it says none
abbrev pub size_in : Option ℤ → ℕ
size_in None = 0
size_in (Some (pos n)) = n
size_in (Some (negsuc n)) = suc n

abbrev pub size_at : List ℕ → ℕ → ℕ
size_at header i = size_in (integer_of (card_at header i))

-- NAXIS is card 2
abbrev pub naxis_of : List ℕ → ℕ
naxis_of header = size_at header 2

-- the lengths of the axes: NAXIS1 is card 3
abbrev pub axes_of : List ℕ → List ℕ
axes_of header = map (size_at header) (range_with_len 3 (naxis_of header))

-- the indexes of PCOUNT and GCOUNT, which are after the axes of an extension
abbrev pub pcount_index : List ℕ → ℕ
pcount_index header = 3 + naxis_of header

abbrev pub gcount_index : List ℕ → ℕ
gcount_index header = 4 + naxis_of header

-- PCOUNT and GCOUNT of HDU k; a primary has 0 and 1
abbrev pub pcount_of : ℕ → List ℕ → ℕ
pcount_of zero header = 0
pcount_of (suc k) header = size_at header (pcount_index header)

abbrev pub gcount_of : ℕ → List ℕ → ℕ
gcount_of zero header = 1
gcount_of (suc k) header = size_at header (gcount_index header)

-- the product of the lengths
abbrev pub places : List ℕ → ℕ
places [] = 1
places (n ∷ ns) = n * places ns

-- the length of the data without fill, by PCOUNT and GCOUNT; there are none without an axis
abbrev pub array_len : List ℕ → ℕ → ℕ → ℕ
array_len header pcount gcount =
    if naxis_of header == 0 then 0 else size_at header 1 / 8 * (gcount * (pcount + places (axes_of header)))

-- the same of HDU k
abbrev pub data_len_of : ℕ → List ℕ → ℕ
data_len_of k header = array_len header (pcount_of k header) (gcount_of k header)

-- HDU k of a file
pub record IsHdu (k : ℕ) (h : Hdu) : Type 0 where
  pub header : IsHeader h.header
  pub payload : length h.payload ≡ whole_blocks_of (data_len_of k h.header)

-- HDUs from number k on
abbrev pub AreHdus : ℕ → List Hdu → Type 0
AreHdus k [] = ⊤
AreHdus k (h ∷ hs) = IsHdu k h × AreHdus (suc k) hs

-- the HDUs of a file: their bytes, one after another, are the file
pub record AreHdusOf (file : List ℕ) (hdus : List Hdu) : Type 0 where
  pub parts : flat_map hdu_bytes hdus ≡ file
  pub each : AreHdus 0 hdus

-- the cards of a header before END
abbrev pub cards_of : List ℕ → List (List ℕ)
cards_of header = map (card_at header) (range_with_len 0 (unwrap_or (end_of header) 0))

-- the bytes of a header with these cards: then END, and blanks to whole blocks
abbrev pub header_bytes : List (List ℕ) → List ℕ
header_bytes cards = filled (whole_blocks_of (80 * (length cards + 1))) (flat_map (λ c. c) cards ++ codes "END")

-- the byte after the letters END
abbrev pub behind_end : List ℕ → ℕ
behind_end header = 80 * unwrap_or (end_of header) 0 + 3

-- only blanks are after the letters END
abbrev pub HasBlankFill : List ℕ → Type 0
HasBlankFill header = drop (behind_end header) header ≡ blanks (length header - behind_end header)

-- a card of 80 bytes that does not end a header
pub record IsCardBeforeEnd (card : List ℕ) : Type 0 where
  pub long : length card ≡ 80
  pub name : is_named (codes "END") card ≡ false
