-- The cards of a header that is made (FITS 4.0, section 4.4.1.1).
use Rattle.std.specs.Prelude.{ℕ, ◌≡◌, List, length}
use Rattle.std.specs.List.{AllByRecursion}

-- each has 80 bytes
abbrev pub AreCards : List (List ℕ) → Type 0
AreCards cards = AllByRecursion (λ card. length card ≡ 80) cards
