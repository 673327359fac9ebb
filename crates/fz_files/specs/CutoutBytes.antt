-- The bytes of a cutout: the header of the part, with the reference pixels that the cut moves, the pixels, and fill (FITS 4.0, sections
-- 3.3.2, 4.4.1 and 8.1).
use Rattle.std.specs.Prelude.{ℕ, zero, suc, ◌≡◌, ◌==◌, ◌-◌, ℤ, List, [], ◌∷◌, ◌++◌, map, replicate}
use Rattle.std.specs.Prelude.{slice_index, codes, Option, Some, None, unwrap_or, if◌then◌else◌}
use Rattle.fz_card.specs.Layout.{card_name}
use Rattle.fz_card.specs.Naming.{number_behind, up_to}
use Rattle.fz_card.specs.DecimalReading.{shifted}
use Rattle.fz_block.specs.Hdus.{cards_of, header_bytes}
use Rattle.fz_block.specs.declared.header.Header.{Header}
use Rattle.fz_grid.specs.Sieve.{sieve_lengths}
use Rattle.fz_grid.specs.declared.region.Region.{Region}
use Rattle.fz_grid.specs.declared.sieve.Sieve.{Sieve}
use Rattle.fz_tile.specs.Plain.{plain_bytes}
use Rattle.fz_head.specs.PlainHeader.{cutout_header}
use Rattle.fz_head.specs.declared.plan.Plan.{Plan}
use Rattle.fz_files.specs.declared.job.Job.TheVariants.{Cut}
use Rattle.fz_files.specs.Cutout.{AreCutFrom}
use Rattle.fz_files.specs.FirstFault.{IsFirstFault}
use Rattle.fz_files.specs.Packed.{pixel_bits, zero_filled}
use Rattle.fz_files.specs.Restored.{header_in, plan_in}
use Rattle.fz_files.specs.Walks.{headers_for, last_of}

-- the part of a sieve as a region: its corner, and as many places along each axis as there are picks
abbrev pub picked_region : Sieve → Region
picked_region sieve = record { n = sieve.n; lo = sieve.lo; len = sieve_lengths sieve ++ replicate (9 - sieve.n) 0 }

-- by how much the reference pixel of axis i, counted from 1, moves: by the corner if every pixel from there on is picked
abbrev pub shift_along : Sieve → ℕ → ℕ
shift_along sieve i = if slice_index sieve.step (i - 1) == 1 then slice_index sieve.lo (i - 1) else 0

-- the same by the axis that a card names, if it names one
abbrev pub shift_if : Sieve → Option ℕ → ℕ
shift_if sieve None = 0
shift_if sieve (Some i) = shift_along sieve i

-- a card less a number: one that has no decimal stays
abbrev pub card_less : List ℕ → ℕ → List ℕ
card_less card zero = card
card_less card (suc by) = unwrap_or (shifted card (suc by)) card

-- a card of the part: CRPIXi of one of its axes is shifted, and every other stays
abbrev pub moved_card : Sieve → List ℕ → List ℕ
moved_card sieve card = card_less card (shift_if sieve (up_to sieve.n (number_behind (codes "CRPIX") (card_name card))))

-- the cards of the part that a sieve picks from the image of a packed header with these cards
abbrev pub cutout_cards : Sieve → List (List ℕ) → List (List ℕ)
cutout_cards sieve cards = map (moved_card sieve) (cutout_header cards (picked_region sieve))

-- the part with these numbers as a file: its header, the bytes of its pixels, and fill
abbrev pub cutout_bytes : Plan → List (List ℕ) → Sieve → List ℤ → List ℕ
cutout_bytes p cards sieve numbers = header_bytes (cutout_cards sieve cards) ++ zero_filled (plain_bytes (pixel_bits p) numbers)

-- The file has no fault of `cut`, and these bytes are the cutout of its HDU of the wanted number, or of the first packed one.
pub record IsCutout (wanted : Option ℕ) (sieve : Sieve) (file bytes : List ℕ) : Type 0 where
  pub sound : IsFirstFault (Cut wanted sieve) file None
  pub header : Header
  pub last : last_of (headers_for (Cut wanted sieve) file) ≡ header ∷ []
  pub numbers : List ℤ
  pub cut : AreCutFrom file header sieve numbers
  pub made : bytes ≡ cutout_bytes (plan_in file header) (cards_of (header_in file header)) sieve numbers
