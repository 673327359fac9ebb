-- How many cards the header of a table has.
use Rattle.std.proofs.Common.{◌≡◌, ℕ, ◌+◌, ◌-◌, ◌*◌, List, length, All, sym, ap, ◌∙◌}
use Rattle.fz_block.specs.Hdus.{HasBlankFill, IsCardBeforeEnd, IsHeader, header_bytes}
use Rattle.fz_block.specs.Header.{whole_blocks_of}
use Rattle.fz_head.specs.declared.plan.Plan.{Plan}
use Rattle.fz_head.specs.declared.totals.Totals.{Totals}
use Rattle.fz_head.specs.PackedHeader.{packed_with, packed_header, sum_cards}

-- what a law says of the bytes of cards
abbrev pub HaveBytes : Type 0
HaveBytes = (cards : List (List ℕ)) → All IsCardBeforeEnd cards → IsHeader (header_bytes cards) × HasBlankFill (header_bytes cards) × (length (header_bytes cards) ≡ whole_blocks_of (80 * (length cards + 1)))

pub packed_size : (cards : List (List ℕ)) (p : Plan) (s : Totals) → HaveBytes → All IsCardBeforeEnd (packed_with cards p s (sum_cards s.sums)) →
    length (header_bytes (packed_header cards p s)) ≡ whole_blocks_of (80 * (length (packed_header cards p s) + 1))
unfolding packed_header
packed_size cards p s law all = (law (packed_with cards p s (sum_cards s.sums)) all).2

-- the headers of two tables of one image are as long
pub same_size : (cards : List (List ℕ)) (p : Plan) (s t : Totals) → HaveBytes → All IsCardBeforeEnd (packed_with cards p s (sum_cards s.sums)) → All IsCardBeforeEnd (packed_with cards p t (sum_cards t.sums)) →
    length (packed_header cards p s) ≡ length (packed_header cards p t) → length (header_bytes (packed_header cards p s)) ≡ length (header_bytes (packed_header cards p t))
same_size cards p s t law first second same =
    packed_size cards p s law first ∙ ap (λ n. whole_blocks_of (80 * (n + 1))) same ∙ sym (packed_size cards p t law second)
