-- The header of the part is that of its region, and then moved.
use Rattle.std.proofs.Common.{◌≡◌, ℕ, ◌<◌, ◌^◌, All, List, length, take, drop, slice_index, sym, ap, ◌∙◌, subst, arith}
use Rattle.std.proofs.lemmas.List.{length-take, take_at}
use Rattle.fz_block.specs.Hdus.{IsCardBeforeEnd, cards_of, header_bytes}
use Rattle.fz_grid.specs.Region.{IsWithin}
use Rattle.fz_grid.specs.declared.region.Region.{Region}
use Rattle.fz_head.specs.PlainHeader.{cutout_header}
use Rattle.fz_files.specs.CutoutBytes.{cutout_cards, picked_region}
use Rattle.fz_cut.proofs.Moves.{cards_are}
use Rattle.fz_cut.proofs.Within.{part_short, part_within}
use Rattle.fz_cut.proofs.part_header.make_header.Goals as goal

pub to_cut-len-requires-clause-region : goal.to_cut-len-requires-clause-region
to_cut-len-requires-clause-region c =
    let sieve = c.args.sieve.now in
    let few = c.requires.sieve.axes in
    subst (IsWithin c.args.image.now.plan.shape) (sym c.picked_region.ensures)
    (part_within sieve (omega (arith, few, c.tables_law.ensures.lo)) (omega (arith, few, c.tables_law.ensures.hi)) (omega (arith, few, c.tables_law.ensures.step)) c.args.image.now.plan.shape c.requires.within)

pub move_pixels-requires-clause-few : goal.move_pixels-requires-clause-few
move_pixels-requires-clause-few c = omega (arith, c.requires.header.short, c.to_cut-len.ensures.fits, length-take c.to_cut-len.result c.to_cut-len.new.out)

pub returns-clause-made : goal.returns-clause-made
returns-clause-made c =
    let sieve = c.args.sieve.now in
    let few = c.requires.sieve.axes in
    let packed : List ℕ = c.args.packed.now in
    let n : ℕ = c.to_cut-len.result in
    let out : List ℕ = c.to_cut-len.new.out in
    let cards : List (List ℕ) = cutout_header (cards_of packed) (picked_region sieve) in
    let short : (i : ℕ) → i < sieve.n → slice_index (picked_region sieve).len i < 10 ^ 18 =
    part_short sieve (omega (arith, few, c.tables_law.ensures.lo)) (omega (arith, few, c.tables_law.ensures.hi)) (omega (arith, few, c.tables_law.ensures.step)) c.requires.sieve in
    let all : All IsCardBeforeEnd cards = c.whole_cards_law.ensures.cutout (cards_of packed) (picked_region sieve) (c.whole_cards_law.ensures.read packed c.requires.header.whole) few short in
    let before : take n out ≡ header_bytes cards = c.to_cut-len.ensures.written ∙ ap (λ (r : Region). header_bytes (cutout_header (cards_of packed) r)) c.picked_region.ensures in
    let after : c.move_pixels.new.header ≡ header_bytes (cutout_cards sieve (cards_of packed)) = c.move_pixels.ensures.moved cards (cards_are cards all) before in
    let long : length c.move_pixels.new.header ≡ n = c.move_pixels.ensures.len ∙ ap length c.to_cut-len.ensures.written ∙ sym c.to_cut-len.ensures.size in
    take_at c.move_pixels.new.header (drop n out) n long ∙ after

pub returns-clause-size : goal.returns-clause-size
returns-clause-size c =
    let sieve = c.args.sieve.now in
    let few = c.requires.sieve.axes in
    let packed : List ℕ = c.args.packed.now in
    let n : ℕ = c.to_cut-len.result in
    let out : List ℕ = c.to_cut-len.new.out in
    let cards : List (List ℕ) = cutout_header (cards_of packed) (picked_region sieve) in
    let short : (i : ℕ) → i < sieve.n → slice_index (picked_region sieve).len i < 10 ^ 18 =
    part_short sieve (omega (arith, few, c.tables_law.ensures.lo)) (omega (arith, few, c.tables_law.ensures.hi)) (omega (arith, few, c.tables_law.ensures.step)) c.requires.sieve in
    let all : All IsCardBeforeEnd cards = c.whole_cards_law.ensures.cutout (cards_of packed) (picked_region sieve) (c.whole_cards_law.ensures.read packed c.requires.header.whole) few short in
    let before : take n out ≡ header_bytes cards = c.to_cut-len.ensures.written ∙ ap (λ (r : Region). header_bytes (cutout_header (cards_of packed) r)) c.picked_region.ensures in
    let after : c.move_pixels.new.header ≡ header_bytes (cutout_cards sieve (cards_of packed)) = c.move_pixels.ensures.moved cards (cards_are cards all) before in
    let long : length c.move_pixels.new.header ≡ n = c.move_pixels.ensures.len ∙ ap length c.to_cut-len.ensures.written ∙ sym c.to_cut-len.ensures.size in
    sym long ∙ ap length after
