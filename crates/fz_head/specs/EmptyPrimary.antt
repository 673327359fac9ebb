-- The primary without data before a packed primary (FITS 4.0, sections 4.4.1.1 and 10.1).
use Rattle.std.specs.Prelude.{ℕ, List, [], ◌∷◌, codes}
use Rattle.fz_head.specs.PackedHeader.{flag_card, number_card}

-- its cards
abbrev pub empty_primary : List (List ℕ)
empty_primary = flag_card (codes "SIMPLE") ∷ number_card (codes "BITPIX") 8 ∷ number_card (codes "NAXIS") 0 ∷ flag_card (codes "EXTEND") ∷ []
