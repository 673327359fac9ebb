-- The HDUs of a packed file, each beside what `pack` makes of what it stands for (FITS 4.0, sections 10.1.1 to 10.1.3).
use Rattle.std.specs.Prelude.{ℕ, suc, ◌≡◌, ◌==◌, ◌↔◌, ◌+◌, ◌^◌, ◌<◌, ◌≤◌, List, [], ◌∷◌, ◌++◌, length}
use Rattle.std.specs.Prelude.{codes, Bool, true, false, Option, Some, None, Ok, if◌then◌else◌, ⊤}
use Rattle.std.specs.List.{flat_map}
use Rattle.fz_block.specs.Cards.{card_at}
use Rattle.fz_block.specs.Checks.{header_of, is_set}
use Rattle.fz_block.specs.Facts.{facts_of}
use Rattle.fz_block.specs.Hdus.{Hdu, IsHeader, cards_of, hdu_bytes, header_bytes}
use Rattle.fz_block.specs.Walk.{PassesAt, hdu_of}
use Rattle.fz_block.specs.declared.header.Header.{Header}
use Rattle.fz_grid.specs.Arrays.{NumberArray}
use Rattle.fz_tile.specs.Plain.{AreBytes, plain_bytes}
use Rattle.fz_checks.specs.JobChecks.{plan_to_pack}
use Rattle.fz_head.specs.PlainHeader.{plain_header}
use Rattle.fz_head.specs.Planned.{AreOptions}
use Rattle.fz_head.specs.declared.options.PackOptions.{PackOptions}
use Rattle.fz_head.specs.declared.plan.Plan.{Plan}
use Rattle.fz_files.specs.FirstFault.{IsFirstFault}
use Rattle.fz_files.specs.Packed.{before_table, packed_hdu, packed_table, pixel_bits, tile_codes, zero_filled}
use Rattle.fz_files.specs.Restored.{HduStandsFor, RowsStandFor, header_in, is_image, is_packed_primary, plan_in, standing}
use Rattle.fz_files.specs.Walks.{headers_for}
use Rattle.fz_files.specs.declared.job.Job.TheVariants.{Unpack}

-- the bytes before the first HDU that stands for something: those of the primary before a packed primary
abbrev pub front_of : List ℕ → List Header → List ℕ
front_of file [] = []
front_of file (h ∷ []) = []
front_of file (h ∷ k ∷ hs) = if is_packed_primary file k then hdu_bytes (hdu_of file h) else []

-- what `pack` answers for an HDU that comes back as it was packed: the plan of a packed image, and no plan of another HDU, which it copies
abbrev pub plan_again : List ℕ → Header → Option Plan
plan_again file h = if is_image file h then Some (plan_in file h) else None

-- An HDU of a packed file, with these bytes in front of it, is what `pack` makes of HDU d, for which it stands: d is HDU k of the restored
-- file, begins there at this byte and ends at byte 2^62 at most; no check of `pack` refuses its header, which asks for the plan of the packed
-- image, or is copied if there is none, so that no image is left as it is; and packed again it is the HDU, byte by byte.
pub record IsSame (o : PackOptions) (file front : List ℕ) (k start : ℕ) (h : Header) (d : Hdu) : Type 0 where
  pub stands : HduStandsFor file h (hdu_bytes d)
  pub passes : PassesAt k start (2 ^ 62) d
  pub plan : plan_to_pack o (facts_of k start d.header) d.header ≡ Ok (plan_again file h)
  pub packed : packed_hdu o k d ≡ front ++ hdu_bytes (hdu_of file h)

-- so are HDUs from number k on, one for each, of which the first has these bytes in front of it
abbrev pub AreSame : PackOptions → List ℕ → List ℕ → ℕ → ℕ → List Header → List Hdu → Type 0
AreSame o file front k start [] [] = ⊤
AreSame o file front k start [] (d ∷ ds) = ⊥
AreSame o file front k start (h ∷ hs) [] = ⊥
AreSame o file front k start (h ∷ hs) (d ∷ ds) = IsSame o file front k start h d × AreSame o file [] (suc k) (start + length (hdu_bytes d)) hs ds

-- Every HDU of the file is what `pack` makes, by these options, of what it stands for: of the HDUs of the restored file, of which there are
-- at most 65,535.
pub record HasSameHdus (o : PackOptions) (file : List ℕ) : Type 0 where
  pub options : AreOptions o
  pub sound : IsFirstFault Unpack file None
  pub hdus : List Hdu
  pub few : length hdus ≤ 65535
  pub bytes : AreBytes (flat_map hdu_bytes hdus)
  pub same : AreSame o file (front_of file (headers_for Unpack file)) 0 0 (standing file (headers_for Unpack file)) hdus

-- the header of the image that a packed one stands for
abbrev pub header_again : List ℕ → Header → List ℕ
header_again file h = header_bytes (plain_header (cards_of (header_in file h)))

-- the image that a packed one stands for, if its tiles are those of this array
abbrev pub plain_image : List ℕ → Header → NumberArray → Hdu
plain_image file h a = record {
  header = header_again file h;
  payload = zero_filled (plain_bytes (pixel_bits (plan_in file h)) a.numbers);
}

-- what a packed image stands for, and what another HDU
abbrev pub IsPlainAs : Bool → List ℕ → Header → Hdu → Type 0
IsPlainAs true file h d = (a : NumberArray) → RowsStandFor file h a → d ≡ plain_image file h a
IsPlainAs false file h d = d ≡ hdu_of file h

-- An HDU of a packed file stands for one HDU only: the tiles of a packed image are those of one array, an HDU stands for the same bytes each
-- time, and these are one header and one payload.
pub record StandsForOne (file : List ℕ) (h : Header) : Type 0 where
  pub array : is_image file h ≡ true → (a b : NumberArray) → RowsStandFor file h a → RowsStandFor file h b → a ≡ b
  pub bytes : (x y : List ℕ) → HduStandsFor file h x → HduStandsFor file h y → x ≡ y
  pub hdu : (d : Hdu) → IsHeader d.header → HduStandsFor file h (hdu_bytes d) → IsPlainAs (is_image file h) file h d

-- The image comes back as HDU k, which begins at this byte: its header passes the checks of every job there, and no check of `pack` refuses
-- it, which asks for the plan of the packed image.
pub record ComesBackAs (o : PackOptions) (file : List ℕ) (k start : ℕ) (h : Header) : Type 0 where
  pub number : k < 65536
  pub short : length (header_again file h) ≤ 737280
  pub simple : k ≡ 0 → is_set (codes "SIMPLE") (card_at (header_again file h) 0) ≡ true
  pub facts : Header
  pub found : header_of k start (2 ^ 62) (header_again file h) ≡ Ok facts
  pub plan : plan_to_pack o facts (header_again file h) ≡ Ok (Some (plan_in file h))

-- the table that `pack` makes of it: that of the plan and of the codes of its tiles
abbrev pub table_again : PackOptions → List ℕ → Header → NumberArray → List ℕ
table_again o file h a = packed_table o.sums (plan_in file h) (plain_header (cards_of (header_in file h))) (tile_codes (plan_in file h) a)

-- A packed image whose tiles are those of this array is what `pack` makes of what it stands for: the image comes back, and its table is in
-- the file, after the empty primary if that is due.
pub record IsSameImage (o : PackOptions) (file front : List ℕ) (k start : ℕ) (h : Header) (a : NumberArray) : Type 0 where
  pub back : ComesBackAs o file k start h
  pub table : before_table k ++ table_again o file h a ≡ front ++ hdu_bytes (hdu_of file h)

-- Another HDU is that if `pack` copies it, it ends at byte 2^62 at most, and nothing is in front of it.
pub record IsSameCopy (o : PackOptions) (file front : List ℕ) (k start : ℕ) (h : Header) : Type 0 where
  pub number : k < 65536
  pub end : start + length (hdu_bytes (hdu_of file h)) ≤ 2 ^ 62
  pub plan : plan_to_pack o h (hdu_of file h).header ≡ Ok None
  pub alone : front ≡ []

-- So it is decided of an HDU whether it is what `pack` makes of HDU d, for which it stands. One that is no packed image is the first of both
-- files, or of neither.
pub record IsDecided (o : PackOptions) (file : List ℕ) (h : Header) : Type 0 where
  pub image :
      (front : List ℕ) (k start : ℕ) (d : Hdu) (a : NumberArray) → is_image file h ≡ true → RowsStandFor file h a →
      IsSame o file front k start h d ↔ ((d ≡ plain_image file h a) × IsSameImage o file front k start h a)
  pub copy :
      (front : List ℕ) (k start : ℕ) (d : Hdu) → is_image file h ≡ false → (k == 0) ≡ (h.hdu == 0) →
      IsSame o file front k start h d ↔ ((d ≡ hdu_of file h) × IsSameCopy o file front k start h)
