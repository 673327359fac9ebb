-- A header's bytes and its list of cards.
use Rattle.std.proofs.Common.{◌≡◌, ℕ, zero, suc, ◌+◌, ◌-◌, ◌*◌, ◌/◌, ◌≤◌, nat_lt, Bool, true, false, List, [], ◌∷◌, ◌++◌, length, take, drop, map, codes, Option, Some, None, unwrap_or, cond, not, zero-add, refl, sym, ◌∙◌, ap, arith, if◌then◌else◌}
use Rattle.std.specs.List.{All, flat_map, position, position_or_len, range_with_len}
use Rattle.std.specs.Option.{option_map}
use Rattle.std.proofs.lemmas.List.{append_assoc, drop-drop, take-take, take_at, length-append, length-replicate, length-take, take-append-drop, take-replicate}
use Rattle.std.proofs.lemmas.Bool.Decides.{nat_tests}
use Rattle.std.proofs.lemmas.List.Elements.{All-head, All-tail}
use Rattle.std.proofs.lemmas.Slice.Eq.{bytes_eq-Decides}
use Rattle.std.proofs.Math.Seq.{take-add, drop-append_seam}
use Rattle.fz_card.specs.Layout.{blanks, padded}
use Rattle.fz_block.specs.Cards.{card_at, is_named, end_among, end_of, first_among}
use Rattle.fz_block.specs.Hdus.{IsHeader, IsCardBeforeEnd, HasBlankFill, behind_end, cards_of, header_bytes}
use Rattle.fz_block.specs.Header.{whole_blocks_of}
use Rattle.fz_block.proofs.Room.{end_of_blocks}
use Rattle.fz_block.proofs.Wholes.{none_before, ends_at}

-- the bytes of all cards
abbrev joined : List (List ℕ) → List ℕ
joined cards = flat_map (λ c. c) cards

next_card : (a : ℕ) (header : List ℕ) → drop 80 (drop (80 * a) header) ≡ drop (80 * (a + 1)) header
next_card a header =
    let step : 80 * a + 80 ≡ 80 * (a + 1) = omega arith in
    drop-drop 80 (80 * a) header ∙ ap (λ n. drop n header) step

-- so many cards of a header are its bytes
pub cards_front : (header : List ℕ) (a n : ℕ) → joined (map (card_at header) (range_with_len a n)) ≡ take (80 * n) (drop (80 * a) header)
cards_front header a zero = refl
cards_front header a (suc n) =
    let count : 80 + 80 * n ≡ 80 * suc n = omega arith in
    ap (λ l. card_at header a ++ l) (cards_front header (a + 1) n)
    ∙ (ap (λ l. take 80 (drop (80 * a) header) ++ take (80 * n) l) (sym (next_card a header))
    ∙ (sym (take-add 80 (80 * n) (drop (80 * a) header)) ∙ ap (λ m. take m (drop (80 * a) header)) count))

-- cards of 80 bytes are the cards of their bytes
pub cards_again : (cards : List (List ℕ)) (bytes rest : List ℕ) (a : ℕ) → All IsCardBeforeEnd cards → drop (80 * a) bytes ≡ joined cards ++ rest →
    map (card_at bytes) (range_with_len a (length cards)) ≡ cards
cards_again [] bytes rest a all there = refl
cards_again (c ∷ cards) bytes rest a all there =
    let is = All-head IsCardBeforeEnd c cards all in
    let apart : drop (80 * a) bytes ≡ c ++ (joined cards ++ rest) = there ∙ append_assoc c (joined cards) rest in
    let first : card_at bytes a ≡ c = ap (take 80) apart ∙ take_at c (joined cards ++ rest) 80 is.long in
    let behind : drop (80 * (a + 1)) bytes ≡ joined cards ++ rest =
    sym (next_card a bytes) ∙ (ap (drop 80) apart ∙ (ap (λ n. drop n (c ++ (joined cards ++ rest))) (sym is.long) ∙ drop-append_seam c (joined cards ++ rest))) in
    ap (λ x. x ∷ map (card_at bytes) (range_with_len (a + 1) (length cards))) first
    ∙ ap (λ l. c ∷ l) (cards_again cards bytes rest (a + 1) (All-tail IsCardBeforeEnd c cards all) behind)

pub joined_length : (cards : List (List ℕ)) → All IsCardBeforeEnd cards → length (joined cards) ≡ 80 * length cards
joined_length [] all = refl
joined_length (c ∷ cards) all =
    let is = All-head IsCardBeforeEnd c cards all in
    let rest = joined_length cards (All-tail IsCardBeforeEnd c cards all) in
    omega (arith, length-append c (joined cards), is.long, rest)

-- the first END is after them
end_behind : (cards : List (List ℕ)) (more : ℕ) (rest : List ℕ) → All IsCardBeforeEnd cards → end_among (suc more) rest ≡ Some 0 →
    end_among (length cards + suc more) (joined cards ++ rest) ≡ Some (length cards)
unfolding end_among
end_behind [] more rest all end = ap (λ n. end_among n rest) (zero-add (suc more)) ∙ end
end_behind (c ∷ cards) more rest all end =
    let is = All-head IsCardBeforeEnd c cards all in
    let apart : joined (c ∷ cards) ++ rest ≡ c ++ (joined cards ++ rest) = append_assoc c (joined cards) rest in
    let first : take 80 (joined (c ∷ cards) ++ rest) ≡ c = ap (take 80) apart ∙ take_at c (joined cards ++ rest) 80 is.long in
    let behind : drop 80 (joined (c ∷ cards) ++ rest) ≡ joined cards ++ rest =
    ap (drop 80) apart ∙ (ap (λ n. drop n (c ++ (joined cards ++ rest))) (sym is.long) ∙ drop-append_seam c (joined cards ++ rest)) in
    let named : is_named (codes "END") (take 80 (joined (c ∷ cards) ++ rest)) ≡ false = ap (is_named (codes "END")) first ∙ is.name in
    let count : suc (length cards) + suc more ≡ suc (length cards + suc more) = omega arith in
    ap (λ n. end_among n (joined (c ∷ cards) ++ rest)) count
    ∙ (ap (λ b. if b then Some 0 else option_map suc (end_among (length cards + suc more) (drop 80 (joined (c ∷ cards) ++ rest)))) named
    ∙ (ap (λ l. option_map suc (end_among (length cards + suc more) l)) behind
    ∙ ap (option_map suc) (end_behind cards more rest (All-tail IsCardBeforeEnd c cards all) end)))

-- END and blanks
end_card_named : (k : ℕ) → 77 ≤ k → is_named (codes "END") (take 80 (codes "END" ++ blanks k)) ≡ true
end_card_named k enough =
    let name : take 8 (take 80 (codes "END" ++ blanks k)) ≡ padded (codes "END") =
    take-take 8 80 (codes "END" ++ blanks k) (omega arith) ∙ ap (λ l. codes "END" ++ l) (take-replicate 5 k 32 (omega arith)) in
    (bytes_eq-Decides (take 8 (take 80 (codes "END" ++ blanks k))) (padded (codes "END"))).1 name

end_first : (more k : ℕ) → 77 ≤ k → end_among (suc more) (codes "END" ++ blanks k) ≡ Some 0
unfolding end_among
end_first more k enough = ap (λ b. if b then Some 0 else option_map suc (end_among more (drop 80 (codes "END" ++ blanks k)))) (end_card_named k enough)

-- how many blanks
abbrev blanks_behind : ℕ → ℕ
blanks_behind n = whole_blocks_of (80 * (n + 1)) - (80 * n + 3)

bytes_apart : (cards : List (List ℕ)) → All IsCardBeforeEnd cards → header_bytes cards ≡ joined cards ++ (codes "END" ++ blanks (blanks_behind (length cards)))
bytes_apart cards all =
    let size : length (joined cards ++ codes "END") ≡ 80 * length cards + 3 = length-append (joined cards) (codes "END") ∙ ap (λ n. n + 3) (joined_length cards all) in
    ap (λ n. (joined cards ++ codes "END") ++ blanks (whole_blocks_of (80 * (length cards + 1)) - n)) size
    ∙ append_assoc (joined cards) (codes "END") (blanks (blanks_behind (length cards)))

pub bytes_length : (cards : List (List ℕ)) → All IsCardBeforeEnd cards → length (header_bytes cards) ≡ whole_blocks_of (80 * (length cards + 1))
bytes_length cards all =
    let n = length cards in
    let last : length (codes "END" ++ blanks (blanks_behind n)) ≡ 3 + blanks_behind n =
    length-append (codes "END") (blanks (blanks_behind n)) ∙ ap (λ m. 3 + m) (length-replicate {A = ℕ} (blanks_behind n) 32) in
    let sizes : length (joined cards ++ (codes "END" ++ blanks (blanks_behind n))) ≡ length (joined cards) + (3 + blanks_behind n) =
    length-append (joined cards) (codes "END" ++ blanks (blanks_behind n)) ∙ ap (λ m. length (joined cards) + m) last in
    ap length (bytes_apart cards all) ∙ (sizes ∙ (ap (λ m. m + (3 + blanks_behind n)) (joined_length cards all) ∙ whole n))
  where
    whole : (n : ℕ) → 80 * n + (3 + blanks_behind n) ≡ whole_blocks_of (80 * (n + 1))
    whole n = omega arith

pub end_of_bytes : (cards : List (List ℕ)) → All IsCardBeforeEnd cards → end_of (header_bytes cards) ≡ Some (length cards)
end_of_bytes cards all =
    let n = length cards in
    let long = bytes_length cards all in
    let count : length (header_bytes cards) / 80 ≡ n + suc (36 * (n / 36 + 1) - (n + 1)) = omega (arith, long) in
    ap (λ m. end_among m (header_bytes cards)) count
    ∙ (ap (end_among (n + suc (36 * (n / 36 + 1) - (n + 1)))) (bytes_apart cards all)
    ∙ end_behind cards (36 * (n / 36 + 1) - (n + 1)) (codes "END" ++ blanks (blanks_behind n)) all (end_first (36 * (n / 36 + 1) - (n + 1)) (blanks_behind n) (enough n)))
  where
    enough : (n : ℕ) → 77 ≤ blanks_behind n
    enough n = omega arith

pub cards_of_bytes : (cards : List (List ℕ)) → All IsCardBeforeEnd cards → cards_of (header_bytes cards) ≡ cards
cards_of_bytes cards all =
    ap (λ e. map (card_at (header_bytes cards)) (range_with_len 0 (unwrap_or e 0))) (end_of_bytes cards all)
    ∙ cards_again cards (header_bytes cards) (codes "END" ++ blanks (blanks_behind (length cards))) 0 all (bytes_apart cards all)

pub bytes_header : (cards : List (List ℕ)) → All IsCardBeforeEnd cards → IsHeader (header_bytes cards)
bytes_header cards all =
    let n = length cards in
    let long : length (header_bytes cards) ≡ 2880 * (n / 36 + 1) = bytes_length cards all ∙ blocks n in
    let end = end_of_bytes cards all in
    record {
      before = n / 36;
      blocks = long;
      none = end_of_blocks (n / 36) (header_bytes cards) (omega (arith, long)) ∙ none_before (length (header_bytes cards) / 80) (36 * (n / 36)) n (header_bytes cards) end (omega arith);
      has = rw end refl;
    }
  where
    blocks : (n : ℕ) → whole_blocks_of (80 * (n + 1)) ≡ 2880 * (n / 36 + 1)
    blocks n = omega arith

pub bytes_fill : (cards : List (List ℕ)) → All IsCardBeforeEnd cards → HasBlankFill (header_bytes cards)
bytes_fill cards all =
    let n = length cards in
    let place : behind_end (header_bytes cards) ≡ 80 * n + 3 = ap (λ e. 80 * unwrap_or e 0 + 3) (end_of_bytes cards all) in
    let size : length (joined cards ++ codes "END") ≡ 80 * n + 3 = length-append (joined cards) (codes "END") ∙ ap (λ m. m + 3) (joined_length cards all) in
    let left : blanks_behind n ≡ length (header_bytes cards) - behind_end (header_bytes cards) = omega (arith, bytes_length cards all, place) in
    ap (λ m. drop m (header_bytes cards)) (place ∙ sym size)
    ∙ (ap (drop (length (joined cards ++ codes "END"))) (bytes_apart cards all ∙ sym (append_assoc (joined cards) (codes "END") (blanks (blanks_behind n))))
    ∙ (drop-append_seam (joined cards ++ codes "END") (blanks (blanks_behind n)) ∙ ap blanks left))

-- the letters of END
end_letters : (card : List ℕ) → is_named (codes "END") card ≡ true → take 3 card ≡ codes "END"
end_letters card named =
    let name : take 8 card ≡ padded (codes "END") = (bytes_eq-Decides (take 8 card) (padded (codes "END"))).0 named in
    sym (take-take 3 8 card (omega arith)) ∙ ap (take 3) name

-- the card that was found
found_named : (n i : ℕ) (xs : List ℕ) → end_among n xs ≡ Some i → is_named (codes "END") (take 80 (drop (80 * i) xs)) ≡ true
unfolding end_among
found_named zero i xs found = absurd cc
found_named (suc n) i xs found = by_card (is_named (codes "END") (take 80 xs)) (end_among n (drop 80 xs)) refl (λ j h. found_named n j (drop 80 xs) h) found
  where
    by_card : (b : Bool) (later : Option ℕ) → is_named (codes "END") (take 80 xs) ≡ b → ((j : ℕ) → later ≡ Some j → is_named (codes "END") (take 80 (drop (80 * j) (drop 80 xs))) ≡ true) →
        (if b then Some 0 else option_map suc later) ≡ Some i → is_named (codes "END") (take 80 (drop (80 * i) xs)) ≡ true
    by_card true later named rest found =
        let same : 0 ≡ i = cc in
        ap (λ k. is_named (codes "END") (take 80 (drop (80 * k) xs))) (sym same) ∙ named
    by_card false None named rest found = absurd cc
    by_card false (Some j) named rest found =
        let same : suc j ≡ i = cc in
        let step : 80 + 80 * j ≡ 80 * i = omega (arith, same) in
        ap (λ l. is_named (codes "END") (take 80 l)) (ap (λ m. drop m xs) (sym step) ∙ sym (drop-drop (80 * j) 80 xs)) ∙ rest j refl

pub header_again : (header : List ℕ) → IsHeader header → HasBlankFill header → header_bytes (cards_of header) ≡ header
header_again header is fill =
    let end = ends_at header is in
    let i = end.card in
    let long = is.blocks in
    let below = end.below in
    let low = end.low in
    let count : length (cards_of header) ≡ i = ap (λ e. length (map (card_at header) (range_with_len 0 (unwrap_or e 0)))) end.found ∙ length-cards header i in
    let front : joined (cards_of header) ≡ take (80 * i) header = ap (λ e. joined (map (card_at header) (range_with_len 0 (unwrap_or e 0)))) end.found ∙ cards_front header 0 i in
    let place : behind_end header ≡ 80 * i + 3 = ap (λ e. 80 * unwrap_or e 0 + 3) end.found in
    let letters : take 3 (drop (80 * i) header) ≡ codes "END" =
    sym (take-take 3 80 (drop (80 * i) header) (omega arith)) ∙ end_letters (take 80 (drop (80 * i) header)) (found_named (36 * (is.before + 1)) i header end.among) in
    let start : joined (cards_of header) ++ codes "END" ≡ take (80 * i + 3) header =
    ap (λ l. l ++ codes "END") front ∙ (ap (λ l. take (80 * i) header ++ l) (sym letters) ∙ sym (take-add (80 * i) 3 header)) in
    let size : length (joined (cards_of header) ++ codes "END") ≡ 80 * i + 3 = ap length start ∙ (length-take (80 * i + 3) header ∙ omega (arith, below, long)) in
    let whole : whole_blocks_of (80 * (length (cards_of header) + 1)) ≡ length header = ap (λ n. whole_blocks_of (80 * (n + 1))) count ∙ omega (arith, low, below, long) in
    let left : whole_blocks_of (80 * (length (cards_of header) + 1)) - length (joined (cards_of header) ++ codes "END") ≡ length header - behind_end header = omega (arith, whole, size, place) in
    let back : blanks (whole_blocks_of (80 * (length (cards_of header) + 1)) - length (joined (cards_of header) ++ codes "END")) ≡ drop (80 * i + 3) header =
    ap blanks left ∙ (sym fill ∙ ap (λ n. drop n header) place) in
    ap (λ l. (joined (cards_of header) ++ codes "END") ++ l) back ∙ (ap (λ l. l ++ drop (80 * i + 3) header) start ∙ take-append-drop (80 * i + 3) header)
  where
    length-range : (f : ℕ → List ℕ) (a n : ℕ) → length (map f (range_with_len a n)) ≡ n
    length-range f a zero = refl
    length-range f a (suc n) = ap suc (length-range f (a + 1) n)

    length-cards : (header : List ℕ) (n : ℕ) → length (map (card_at header) (range_with_len 0 n)) ≡ n
    length-cards header n = length-range (card_at header) 0 n

-- the first card with a property, by the bytes and by the list
first_of : {X : Type 0} (has : X → Bool) (x : X) (xs : List X) → position has (x ∷ xs) ≡ (if has x then Some 0 else option_map suc (position has xs))
first_of has x xs = by_first (has x) (position_or_len has xs) (length xs)
  where
    by_later : (b : Bool) (p : ℕ) → cond b (Some (suc p)) None ≡ option_map suc (cond b (Some p) None)
    by_later true p = refl
    by_later false p = refl

    one_less : (b : Bool) (p n : ℕ) → nat_lt p n ≡ b → nat_lt (suc p) (suc n) ≡ b
    one_less true p n less = grind (arith, nat_tests, less)
    one_less false p n less = grind (arith, nat_tests, less)

    by_first : (b : Bool) (p n : ℕ) → cond (nat_lt (cond (not b) (1 + p) 0) (suc n)) (Some (cond (not b) (1 + p) 0)) None ≡ (if b then Some 0 else option_map suc (cond (nat_lt p n) (Some p) None))
    by_first true p n = let less : nat_lt 0 (suc n) ≡ true = grind (arith, nat_tests) in ap (λ b. cond b (Some 0) None) less
    by_first false p n =
        let one : 1 + p ≡ suc p = omega arith in
        ap (λ q. cond (nat_lt q (suc n)) (Some q) None) one ∙ (ap (λ b. cond b (Some (suc p)) None) (one_less (nat_lt p n) p n refl) ∙ by_later (nat_lt p n) p)

pub first_among_list : (has : List ℕ → Bool) (header : List ℕ) (a n : ℕ) → first_among has n (drop (80 * a) header) ≡ position has (map (card_at header) (range_with_len a n))
unfolding first_among
first_among_list has header a zero = refl
first_among_list has header a (suc n) =
    ap (λ l. if has (card_at header a) then Some 0 else option_map suc (first_among has n l)) (next_card a header)
    ∙ (ap (λ o. if has (card_at header a) then Some 0 else option_map suc o) (first_among_list has header (a + 1) n)
    ∙ sym (first_of has (card_at header a) (map (card_at header) (range_with_len (a + 1) n))))
