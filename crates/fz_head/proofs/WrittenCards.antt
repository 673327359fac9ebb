-- Steps that write cards, one after another.
use Rattle.std.proofs.Common.{◌≡◌, ℕ, ◌+◌, ◌-◌, ◌*◌, ◌<◌, ◌≤◌, List, [], ◌∷◌, ◌++◌, length, take, get_or, map, replicate, codes, sym, refl, ap, ◌∙◌, subst, arith, append_assoc, append-nil, zero-add}
use Rattle.std.specs.List.{flat_map, range_with_len}
use Rattle.std.proofs.lemmas.List.{length-append, length-take-le, take_more, map-append}
use Rattle.std.proofs.lemmas.List.FromFn.{map-range_with_len_more}
use Rattle.fz_card.specs.declared.card.Card.{Card}
use Rattle.fz_card.specs.Layout.{blanks, filled}
use Rattle.fz_block.specs.Header.{whole_blocks_of}
use Rattle.fz_block.specs.Hdus.{header_bytes}
use Rattle.fz_head.proofs.Ranges.{map-map-range}
use Rattle.fz_head.specs.Written.{AreWritten, Adds, card_list}

-- nothing is written
pub adds-none : (count : ℕ) (out : List ℕ) → Adds [] count out count out
adds-none count out cards is = subst (λ l. AreWritten l count out) (sym (append-nil cards)) is

-- one step after another
pub adds-then : (a b : List (List ℕ)) (n0 n1 n2 : ℕ) (o0 o1 o2 : List ℕ) → Adds a n0 o0 n1 o1 → Adds b n1 o1 n2 o2 → Adds (a ++ b) n0 o0 n2 o2
adds-then a b n0 n1 n2 o0 o1 o2 first second cards is =
    subst (λ l. AreWritten l n2 o2) (append_assoc cards a b) (second (cards ++ a) (first cards is))

pub adds-same : (a b : List (List ℕ)) (n0 n1 : ℕ) (o0 o1 : List ℕ) → a ≡ b → Adds a n0 o0 n1 o1 → Adds b n0 o0 n1 o1
adds-same a b n0 n1 o0 o1 same adds = subst (λ l. Adds l n0 o0 n1 o1) same adds

-- one card more of a list
pub adds-next : (all : List Card) (i : ℕ) (card : Card) (n0 n1 n2 : ℕ) (o0 o1 o2 : List ℕ) → i < length all → card ≡ get_or all i card →
    Adds (card_list (take i all)) n0 o0 n1 o1 → Adds (card.bytes ∷ []) n1 o1 n2 o2 → Adds (card_list (take (i + 1) all)) n0 o0 n2 o2
adds-next all i card n0 n1 n2 o0 o1 o2 within read first second =
    let more : card_list (take (i + 1) all) ≡ card_list (take i all) ++ (card.bytes ∷ []) =
    ap card_list (take_more all i card within ∙ ap (λ c. take i all ++ c ∷ []) (sym read)) ∙ map-append (λ (c : Card). c.bytes) (take i all) (card ∷ []) in
    adds-same (card_list (take i all) ++ (card.bytes ∷ [])) (card_list (take (i + 1) all)) n0 n2 o0 o2 (sym more)
    (adds-then (card_list (take i all)) (card.bytes ∷ []) n0 n1 n2 o0 o1 o2 first second)

-- one card more of a range
pub adds-more : (f : ℕ → List ℕ) (a i j : ℕ) (card : List ℕ) (n0 n1 n2 : ℕ) (o0 o1 o2 : List ℕ) → a + i ≡ j → card ≡ f j →
    Adds (map f (range_with_len a i)) n0 o0 n1 o1 → Adds (card ∷ []) n1 o1 n2 o2 → Adds (map f (range_with_len a (i + 1))) n0 o0 n2 o2
adds-more f a i j card n0 n1 n2 o0 o1 o2 place is first second =
    adds-same (map f (range_with_len a i) ++ (card ∷ [])) (map f (range_with_len a (i + 1))) n0 n2 o0 o2 (ap (λ c. map f (range_with_len a i) ++ (c ∷ [])) is ∙ sym (map-range_with_len_more f a i j place))
    (adds-then (map f (range_with_len a i)) (card ∷ []) n0 n1 n2 o0 o1 o2 first second)

-- the blocks that END and blanks make of the cards
fits : (count : ℕ) → 80 * count + 3 ≤ whole_blocks_of (80 * (count + 1))
fits count = omega arith

pub finished : (cards : List (List ℕ)) (count : ℕ) (front : List ℕ) → front ≡ flat_map (λ card. card) cards → count ≡ length cards → length front ≡ 80 * count →
    front ++ (codes "END" ++ replicate (whole_blocks_of (80 * (count + 1)) - (80 * count + 3)) 32) ≡ header_bytes cards
finished cards count front is number long =
    let text : length (front ++ codes "END") ≡ 80 * count + 3 = length-append front (codes "END") ∙ omega (arith, long) in
    sym (append_assoc front (codes "END") (replicate (whole_blocks_of (80 * (count + 1)) - (80 * count + 3)) 32))
    ∙ (ap (λ k. (front ++ codes "END") ++ blanks (whole_blocks_of (80 * (count + 1)) - k)) (sym text)
    ∙ (ap (λ f. filled (whole_blocks_of (80 * (count + 1))) (f ++ codes "END")) is
    ∙ ap (λ k. filled (whole_blocks_of (80 * (k + 1))) (flat_map (λ card. card) cards ++ codes "END")) number))

pub end-written : (cards : List (List ℕ)) (count size : ℕ) (o0 o1 o2 : List ℕ) → AreWritten cards count o0 → size ≡ whole_blocks_of (80 * (count + 1)) → size ≤ length o0 → length o2 ≡ length o0 →
    take (80 * count + 3) o1 ≡ take (80 * count) o0 ++ codes "END" → take size o2 ≡ take (80 * count + 3) o1 ++ blanks (size - (80 * count + 3)) → (take size o2 ≡ header_bytes cards) × (size ≡ length (header_bytes cards))
end-written cards count size o0 o1 o2 is blocks room same ended filled_up =
    let front : List ℕ = take (80 * count) o0 in
    let long : length front ≡ 80 * count = length-take-le (80 * count) o0 (omega (arith, fits count)) in
    let bytes : take size o2 ≡ header_bytes cards =
    filled_up
    ∙ (ap (λ l. l ++ blanks (size - (80 * count + 3))) ended
    ∙ (append_assoc front (codes "END") (blanks (size - (80 * count + 3)))
    ∙ (ap (λ k. front ++ (codes "END" ++ blanks (k - (80 * count + 3)))) blocks
    ∙ finished cards count front is.bytes is.number long))) in
    (bytes, sym (length-take-le size o2 (omega arith)) ∙ ap length bytes)

-- the same of a range that is mapped twice, and after other cards
pub adds-more-mapped : (g : List ℕ → List ℕ) (f : ℕ → List ℕ) (i : ℕ) (card : List ℕ) (n0 n1 n2 : ℕ) (o0 o1 o2 : List ℕ) → card ≡ g (f i) →
    Adds (map g (map f (range_with_len 0 i))) n0 o0 n1 o1 → Adds (card ∷ []) n1 o1 n2 o2 → Adds (map g (map f (range_with_len 0 (i + 1)))) n0 o0 n2 o2
adds-more-mapped g f i card n0 n1 n2 o0 o1 o2 is first second =
    adds-same (map (λ k. g (f k)) (range_with_len 0 (i + 1))) (map g (map f (range_with_len 0 (i + 1)))) n0 n2 o0 o2 (sym (map-map-range g f 0 (i + 1)))
    (adds-more (λ k. g (f k)) 0 i i card n0 n1 n2 o0 o1 o2 (zero-add i) is
    (adds-same (map g (map f (range_with_len 0 i))) (map (λ k. g (f k)) (range_with_len 0 i)) n0 n1 o0 o1 (map-map-range g f 0 i) first) second)

pub adds-more-behind : (front : List (List ℕ)) (f : ℕ → List ℕ) (a i j : ℕ) (card : List ℕ) (n0 n1 n2 : ℕ) (o0 o1 o2 : List ℕ) → a + i ≡ j → card ≡ f j →
    Adds (front ++ map f (range_with_len a i)) n0 o0 n1 o1 → Adds (card ∷ []) n1 o1 n2 o2 → Adds (front ++ map f (range_with_len a (i + 1))) n0 o0 n2 o2
adds-more-behind front f a i j card n0 n1 n2 o0 o1 o2 place is first second =
    adds-same ((front ++ map f (range_with_len a i)) ++ (card ∷ [])) (front ++ map f (range_with_len a (i + 1))) n0 n2 o0 o2
    (append_assoc front (map f (range_with_len a i)) (card ∷ []) ∙ ap (λ l. front ++ l) (ap (λ c. map f (range_with_len a i) ++ (c ∷ [])) is ∙ sym (map-range_with_len_more f a i j place)))
    (adds-then (front ++ map f (range_with_len a i)) (card ∷ []) n0 n1 n2 o0 o1 o2 first second)

-- nothing stands in the buffer at first
pub written-none : (out : List ℕ) → AreWritten [] 0 out
written-none out = record { bytes = refl; number = refl }

-- a header of so many blocks is long enough for END after its cards, and with a block more for 29 cards more
pub blocks-enough : (before cards count len : ℕ) → len ≡ 2880 * (before + 1) → 80 * (cards + 1) ≤ len → count ≤ cards + 29 → whole_blocks_of (80 * (count + 1)) ≤ len + 2880
blocks-enough before cards count len is fits few = omega arith

-- fewer cards than 256 blocks have room for, with END
pub blocks-short : (count size : ℕ) → size ≡ whole_blocks_of (80 * (count + 1)) → count < 9216 → size ≤ 737280
blocks-short count size is few = omega arith
