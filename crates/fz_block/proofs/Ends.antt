-- Going over the cards of a header in search of END.
use Rattle.std.proofs.Common.{◌≡◌, ℕ, suc, ◌+◌, ◌-◌, ◌*◌, ◌<◌, ◌≤◌, true, false, List, drop, codes, Option, Some, None, refl, ◌∙◌, ap, arith, add-zero, zero-add}
use Rattle.std.specs.Option.{option_map}
use Rattle.std.proofs.lemmas.List.{drop-drop}
use Rattle.fz_block.specs.Cards.{card_at, is_named, end_among}

-- what the search after so many cards says of all of them
abbrev pub from : ℕ → Option ℕ → Option ℕ
from i found = option_map (λ k. i + k) found

pub from-zero : (found : Option ℕ) → from 0 found ≡ found
from-zero None = refl
from-zero (Some k) = ap Some (zero-add k)

pub from-suc : (i : ℕ) (found : Option ℕ) → from i (option_map suc found) ≡ from (i + 1) found
from-suc i None = refl
from-suc i (Some k) = let e : i + suc k ≡ i + 1 + k = omega arith in ap Some e

-- no card is left
pub end_none : (i count : ℕ) (cards : List ℕ) → count ≤ i → from i (end_among (count - i) (drop (80 * i) cards)) ≡ None
unfolding end_among
end_none i count cards h = let none : count - i ≡ 0 = omega arith in rw none refl

-- the next card is END
pub end_here : (i count : ℕ) (cards : List ℕ) → i < count → is_named (codes "END") (card_at cards i) ≡ true → from i (end_among (count - i) (drop (80 * i) cards)) ≡ Some i
unfolding end_among
end_here i count cards h named =
    let more : count - i ≡ suc (count - i - 1) = omega arith in rw (more, named) (ap Some (add-zero i))

-- the next card is another
pub end_later : (i count : ℕ) (cards : List ℕ) → i < count → is_named (codes "END") (card_at cards i) ≡ false →
    from i (end_among (count - i) (drop (80 * i) cards)) ≡ from (i + 1) (end_among (count - (i + 1)) (drop (80 * (i + 1)) cards))
unfolding end_among
end_later i count cards h named =
    let more : count - i ≡ suc (count - (i + 1)) = omega arith in
    let next : drop 80 (drop (80 * i) cards) ≡ drop (80 * (i + 1)) cards =
    let step : 80 * i + 80 ≡ 80 * (i + 1) = omega arith in
    drop-drop 80 (80 * i) cards ∙ ap (λ n. drop n cards) step in
    rw (more, named) (from-suc i (end_among (count - (i + 1)) (drop 80 (drop (80 * i) cards))) ∙ ap (λ cs. from (i + 1) (end_among (count - (i + 1)) cs)) next)

pub ruleset ends = (from-zero, end_none, end_here, end_later)
