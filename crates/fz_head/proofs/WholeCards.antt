-- Cards of 80 bytes before END, by what is not their name, and as a list.
use Rattle.std.proofs.Common.{◌≡◌, ℕ, List, [], ◌∷◌, length}
use Rattle.std.specs.Prelude.{All, codes}
use Rattle.std.specs.List.{AllByRecursion}
use Rattle.std.proofs.lemmas.Bool.{both_ways, false_from_ne_true}
use Rattle.std.proofs.lemmas.List.Elements.{All-nil, All-cons, All-head, All-tail}
use Rattle.std.proofs.lemmas.Slice.Eq.{bytes_eq-Decides}
use Rattle.fz_card.specs.Layout.{card_name, padded}
use Rattle.fz_block.specs.Cards.{is_named}
use Rattle.fz_block.specs.Hdus.{IsCardBeforeEnd}

-- a card of 80 bytes that does not end the header
pub record IsWholeCard (card : List ℕ) : Type 0 where
  pub bytes : length card ≡ 80
  pub no_end : ¬ (card_name card ≡ padded (codes "END"))

abbrev pub AreWholeCards : List (List ℕ) → Type 0
AreWholeCards cards = AllByRecursion IsWholeCard cards

before-end : (card : List ℕ) → IsWholeCard card → IsCardBeforeEnd card
before-end card is = record {
  long = is.bytes;
  name = false_from_ne_true (is_named (codes "END") card) (λ e. is.no_end ((bytes_eq-Decides (card_name card) (padded (codes "END"))).0 e));
}

is-whole : (card : List ℕ) → IsCardBeforeEnd card → IsWholeCard card
is-whole card is = record {
  bytes = is.long;
  no_end = λ e. both_ways (is_named (codes "END") card) is.name ((bytes_eq-Decides (card_name card) (padded (codes "END"))).1 e);
}

pub all-before-end : (cards : List (List ℕ)) → AreWholeCards cards → All IsCardBeforeEnd cards
all-before-end [] are = All-nil IsCardBeforeEnd
all-before-end (c ∷ cs) are = All-cons IsCardBeforeEnd c cs (before-end c are.0) (all-before-end cs are.1)

pub all-whole : (cards : List (List ℕ)) → All IsCardBeforeEnd cards → AreWholeCards cards
all-whole [] are = tt
all-whole (c ∷ cs) are = (is-whole c (All-head IsCardBeforeEnd c cs are), all-whole cs (All-tail IsCardBeforeEnd c cs are))
