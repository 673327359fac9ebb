-- Where the cards of a header stand.
use Rattle.std.proofs.Common.{◌≡◌, ℕ, zero, suc, ◌+◌, ◌*◌, ◌/◌, ◌<◌, ◌≤◌, Bool, true, false, List, length, take, drop, codes, Option, Some, None, IsSome, IfSome, unwrap_or, if◌then◌else◌, ap, arith}
use Rattle.std.specs.Option.{option_map}
use Rattle.fz_block.specs.Cards.{is_named, end_among, end_of}
use Rattle.fz_block.specs.Facts.{IsHeaderOf}
use Rattle.fz_block.specs.declared.header.Header.{Header}

below_suc : (found : Option ℕ) (n : ℕ) → IfSome found (λ i. i < n) → IfSome (option_map suc found) (λ i. i < suc n)
below_suc None n h = h
below_suc (Some i) n h = omega (arith, h)

first_or : (b : Bool) (found : Option ℕ) (n : ℕ) → IfSome found (λ i. i < n) → IfSome (if b then Some 0 else option_map suc found) (λ i. i < suc n)
first_or true found n h = omega arith
first_or false found n h = below_suc found n h

-- END is one of the cards
pub end_within : (n : ℕ) (cards : List ℕ) → IfSome (end_among n cards) (λ i. i < n)
unfolding end_among
end_within zero cards = tt
end_within (suc n) cards = first_or (is_named (codes "END") (take 80 cards)) (end_among n (drop 80 cards)) n (end_within n (drop 80 cards))

end_below : (found : Option ℕ) (n : ℕ) → IsSome found → IfSome found (λ i. i < n) → unwrap_or found 0 < n
end_below None n has h = absurd cc
end_below (Some i) n has h = h

-- the index of END
pub cards_are : (header : List ℕ) (h : Header) → IsHeaderOf header h → h.cards ≡ unwrap_or (end_of header) 0
cards_are header h is = ap (λ (k : Header). k.cards) is.facts

-- END stands in the header
pub cards_within : (header : List ℕ) (h : Header) → IsHeaderOf header h → 80 * (h.cards + 1) ≤ length header
cards_within header h is =
    let below : unwrap_or (end_of header) 0 < length header / 80 = end_below (end_of header) (length header / 80) is.whole.has (end_within (length header / 80) header) in
    omega (arith, cards_are header h is)

-- a card before END stands in the header
pub before_end : (found : Option ℕ) (cards len : ℕ) → 80 * (cards + 1) ≤ len → IfSome found (λ i. i < cards) → IfSome found (λ i. 80 * (i + 1) ≤ len)
before_end None cards len h below = below
before_end (Some i) cards len h below = omega arith
