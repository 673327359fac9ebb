-- Going over the cards of a header in search of one that has a property.
use Rattle.std.proofs.Common.{◌≡◌, ℕ, zero, suc, ◌+◌, ◌-◌, ◌*◌, ◌<◌, ◌≤◌, Bool, true, false, List, drop, take, Some, None, if◌then◌else◌, refl, ◌∙◌, ap, arith, add-zero}
use Rattle.std.specs.Option.{option_map}
use Rattle.std.proofs.lemmas.List.{drop-drop}
use Rattle.fz_block.specs.Cards.{card_at, first_among}
use Rattle.fz_block.proofs.Among.{behind}
use Rattle.fz_block.proofs.Ends.{from, from-zero, from-suc}

-- no card is left
pub first_none : (has : List ℕ → Bool) (i count : ℕ) (cards : List ℕ) → count ≤ i → from i (first_among has (count - i) (drop (80 * i) cards)) ≡ None
unfolding first_among
first_none has i count cards h = let none : count - i ≡ 0 = omega arith in rw none refl

-- the next card has it
pub first_here : (has : List ℕ → Bool) (i count : ℕ) (cards : List ℕ) → i < count → has (card_at cards i) ≡ true → from i (first_among has (count - i) (drop (80 * i) cards)) ≡ Some i
unfolding first_among
first_here has i count cards h so =
    let more : count - i ≡ suc (count - i - 1) = omega arith in rw (more, so) (ap Some (add-zero i))

-- the next card has it not
pub first_later : (has : List ℕ → Bool) (i count : ℕ) (cards : List ℕ) → i < count → has (card_at cards i) ≡ false →
    from i (first_among has (count - i) (drop (80 * i) cards)) ≡ from (i + 1) (first_among has (count - (i + 1)) (drop (80 * (i + 1)) cards))
unfolding first_among
first_later has i count cards h so =
    let more : count - i ≡ suc (count - (i + 1)) = omega arith in
    let next : drop 80 (drop (80 * i) cards) ≡ drop (80 * (i + 1)) cards =
    let step : 80 * i + 80 ≡ 80 * (i + 1) = omega arith in
    drop-drop 80 (80 * i) cards ∙ ap (λ n. drop n cards) step in
    rw (more, so) (from-suc i (first_among has (count - (i + 1)) (drop 80 (drop (80 * i) cards))) ∙ ap (λ cs. from (i + 1) (first_among has (count - (i + 1)) cs)) next)

-- the card has it, and none before it
pub first_found : (has : List ℕ → Bool) (n i : ℕ) (cards : List ℕ) → i < n → has (card_at cards i) ≡ true → ((k : ℕ) → k < i → has (card_at cards k) ≡ false) → first_among has n cards ≡ Some i
unfolding first_among
first_found has zero i cards within here before = absurd (omega (arith, within))
first_found has (suc n) zero cards within here before = ap (λ b. if b then Some 0 else option_map suc (first_among has n (drop 80 cards))) here
first_found has (suc n) (suc i) cards within here before =
    let later : first_among has n (drop 80 cards) ≡ Some i =
    first_found has n i (drop 80 cards) (omega (arith, within)) (ap (λ l. has (take 80 l)) (behind i cards) ∙ here)
    (λ k less. ap (λ l. has (take 80 l)) (behind k cards) ∙ before (suc k) (omega (arith, less))) in
    ap (λ b. if b then Some 0 else option_map suc (first_among has n (drop 80 cards))) (before 0 (omega arith)) ∙ ap (option_map suc) later

-- no card has it
pub first_nowhere : (has : List ℕ → Bool) (n : ℕ) (cards : List ℕ) → ((k : ℕ) → k < n → has (card_at cards k) ≡ false) → first_among has n cards ≡ None
unfolding first_among
first_nowhere has zero cards none = refl
first_nowhere has (suc n) cards none =
    let later : first_among has n (drop 80 cards) ≡ None =
    first_nowhere has n (drop 80 cards) (λ k less. ap (λ l. has (take 80 l)) (behind k cards) ∙ none (suc k) (omega (arith, less))) in
    ap (λ b. if b then Some 0 else option_map suc (first_among has n (drop 80 cards))) (none 0 (omega arith)) ∙ ap (option_map suc) later

pub ruleset firsts = (from-zero, first_none, first_here, first_later)
