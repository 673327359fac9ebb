-- How many cards the header of a table has.
use Rattle.std.proofs.Common.{◌≡◌, ℕ, suc, ◌+◌, ◌-◌, ◌*◌, List, [], ◌++◌, length, map, codes, All, refl, slice_index, arith}
use Rattle.std.specs.List.{range_with_len}
use Rattle.std.proofs.lemmas.List.{length-append, length-map}
use Rattle.std.proofs.lemmas.List.FromFn.{length-map-range_with_len}
use Rattle.fz_block.specs.Hdus.{HasBlankFill, IsCardBeforeEnd, IsHeader, header_bytes}
use Rattle.fz_block.specs.Header.{whole_blocks_of}
use Rattle.fz_head.specs.declared.plan.Plan.{Plan}
use Rattle.fz_head.specs.declared.totals.Totals.{Totals}
use Rattle.fz_head.specs.PackedHeader.{column_cards, made_cards, numbered_number_card, packed_card, packed_with, packed_header, parameter_cards, sum_cards, table_cards, tile_cards}

pub packed_count : (cards : List (List ℕ)) (p : Plan) (s : Totals) → length (packed_with cards p s []) ≡ 14 + p.shape.n + length (parameter_cards p.codec) + length cards
packed_count cards p s =
    let lengths : List (List ℕ) = map (λ i. numbered_number_card (codes "ZTILE") i (slice_index p.tile.len (i - 1))) (range_with_len 1 p.shape.n) in
    let tiles : length lengths ≡ p.shape.n = length-map-range_with_len (λ i. numbered_number_card (codes "ZTILE") i (slice_index p.tile.len (i - 1))) 1 p.shape.n in
    let first : length (table_cards p s) ≡ 8 = refl in
    let second : length (column_cards p s) ≡ 4 = refl in
    let third : length (tile_cards p) ≡ suc (suc (length lengths)) = refl in
    let made = length-append (table_cards p s) (column_cards p s ++ (tile_cards p ++ parameter_cards p.codec)) in
    let behind = length-append (column_cards p s) (tile_cards p ++ parameter_cards p.codec) in
    let both = length-append (tile_cards p) (parameter_cards p.codec) in
    let image : length (map packed_card cards ++ []) ≡ length (map packed_card cards) + 0 = length-append (map packed_card cards) [] in
    let same : length (map packed_card cards) ≡ length cards = length-map cards packed_card in
    let all : length (packed_with cards p s []) ≡ length (made_cards p s) + length (map packed_card cards ++ []) = length-append (made_cards p s) (map packed_card cards ++ []) in
    omega (arith, tiles, first, second, third, made, behind, both, image, same, all)

-- what a law says of the bytes of cards
abbrev pub HaveBytes : Type 0
HaveBytes = (cards : List (List ℕ)) → All IsCardBeforeEnd cards → IsHeader (header_bytes cards) × HasBlankFill (header_bytes cards) × (length (header_bytes cards) ≡ whole_blocks_of (80 * (length cards + 1)))

pub packed_size : (cards : List (List ℕ)) (p : Plan) (s : Totals) → HaveBytes → All IsCardBeforeEnd (packed_with cards p s (sum_cards s.sums)) →
    length (header_bytes (packed_header cards p s)) ≡ whole_blocks_of (80 * (length (packed_header cards p s) + 1))
unfolding packed_header
packed_size cards p s law all = (law (packed_with cards p s (sum_cards s.sums)) all).2
