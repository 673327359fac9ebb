-- The cards of a header as a list, looked up by their names.
use Rattle.std.specs.Prelude.{ℕ, List, [], Option, unwrap_or}
use Rattle.std.specs.List.{position}
use Rattle.fz_card.specs.CardLists.{first_of_name, has_name}

-- the index of the first card of this name
abbrev pub index_of : List ℕ → List (List ℕ) → Option ℕ
index_of name cards = position (has_name name) cards

-- the first card of this name, or no bytes if there is none
abbrev pub the_card : List ℕ → List (List ℕ) → List ℕ
the_card name cards = unwrap_or (first_of_name name cards) []
