-- The cards that a header must have, each in its place: first XTENSION of an extension, then BITPIX, NAXIS and the lengths of
-- the axes, and PCOUNT and GCOUNT of an extension (FITS 4.0, sections 4.4.1.1, 4.4.1.2 and 7).
use Rattle.std.specs.Prelude.{ℕ, zero, suc, ℤ, pos, negsuc, ◌+◌, ◌&&◌, ◌||◌, not, nat_lt, Bool}
use Rattle.std.specs.Prelude.{true, false, List, [], ◌∷◌, ◌++◌, codes, Option, Some, None, is_some}
use Rattle.std.specs.List.{flat_map, range_with_len}
use Rattle.std.specs.Ordering.{int_eq}
use Rattle.fz_base.specs.Refusal.{refusal}
use Rattle.fz_base.specs.declared.fault.Fault.{Fault}
use Rattle.fz_base.specs.declared.fault.Place.TheVariants.{Card}
use Rattle.fz_base.specs.declared.kind.Kind.TheVariants.{BadCard, Limit}
use Rattle.fz_card.specs.Reading.{integer_of, text_of}
use Rattle.fz_block.specs.Cards.{card_at, is_named, is_numbered}
use Rattle.fz_block.specs.Hdus.{size_at, naxis_of, pcount_index, gcount_index}

-- the bits of a pixel are 8, 16, 32 or 64, with a minus for floating-point numbers of 32 or 64
abbrev pub is_bitpix : Option ℤ → Bool
is_bitpix None = false
is_bitpix (Some v) =
    int_eq v (pos 8) || (int_eq v (pos 16) || (int_eq v (pos 32) || (int_eq v (pos 64) || (int_eq v (negsuc 31) || int_eq v (negsuc 63)))))

-- a number that is 0 or more
abbrev pub is_size : Option ℤ → Bool
is_size None = false
is_size (Some (pos n)) = true
is_size (Some (negsuc n)) = false

-- the card of this index must be so
abbrev pub must : ℕ → ℕ → Bool → Bool × Fault
must hdu i is_so = (not is_so, refusal hdu (Card i) BadCard)

-- card 0 of an extension is XTENSION with a text; that of HDU 0 is SIMPLE with T, which is a check of its own
abbrev pub extension_checks : ℕ → List ℕ → List (Bool × Fault)
extension_checks zero header = []
extension_checks (suc k) header = must (suc k) 0 (is_named (codes "XTENSION") (card_at header 0) && is_some (text_of (card_at header 0))) ∷ []

-- card 2 + i is NAXISi: 0 to 2^31 - 1
abbrev pub axis_checks : ℕ → List ℕ → ℕ → List (Bool × Fault)
axis_checks k header i =
    must k (2 + i) (is_numbered (codes "NAXIS") i (card_at header (2 + i)) && is_size (integer_of (card_at header (2 + i))))
    ∷ (nat_lt 2147483647 (size_at header (2 + i)), refusal k (Card (2 + i)) Limit) ∷ []

-- after the axes of an extension are PCOUNT and GCOUNT
abbrev pub count_checks : ℕ → List ℕ → List (Bool × Fault)
count_checks zero header = []
count_checks (suc k) header =
    must (suc k) (pcount_index header)
    (is_named (codes "PCOUNT") (card_at header (pcount_index header)) && is_size (integer_of (card_at header (pcount_index header))))
    ∷ must (suc k) (gcount_index header)
    (is_named (codes "GCOUNT") (card_at header (gcount_index header)) && is_size (integer_of (card_at header (gcount_index header))))
    ∷ []

-- card 1 is BITPIX
abbrev pub bitpix_check : ℕ → List ℕ → Bool × Fault
bitpix_check k header = must k 1 (is_named (codes "BITPIX") (card_at header 1) && is_bitpix (integer_of (card_at header 1)))

-- card 2 is NAXIS: at most 9 axes are taken
abbrev pub naxis_checks : ℕ → List ℕ → List (Bool × Fault)
naxis_checks k header =
    must k 2 (is_named (codes "NAXIS") (card_at header 2) && is_size (integer_of (card_at header 2)))
    ∷ (nat_lt 9 (naxis_of header), refusal k (Card 2) Limit) ∷ []

-- the mandatory cards of HDU k, in order
abbrev pub mandatory_checks : ℕ → List ℕ → List (Bool × Fault)
mandatory_checks k header =
    extension_checks k header
    ++ (bitpix_check k header ∷ naxis_checks k header
    ++ (flat_map (axis_checks k header) (range_with_len 1 (naxis_of header)) ++ count_checks k header))
