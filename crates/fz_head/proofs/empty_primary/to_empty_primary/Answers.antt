use Rattle.std.proofs.Common.{◌≡◌, [], ◌∷◌, arith}
use Rattle.fz_head.specs.EmptyPrimary.{empty_primary}
use Rattle.fz_head.proofs.WrittenCards.{adds-same, written-none}
use Rattle.fz_head.proofs.empty_primary.to_empty_primary.Goals as goal

pub returns : goal.returns
returns c =
    let p1 = c.logical_card.ensures in
    let p2 = c.int_card.ensures in
    let p3 = c.int_card-2.ensures in
    let p4 = c.logical_card-2.ensures in
    let same : c.logical_card.result.bytes ∷ c.int_card.result.bytes ∷ c.int_card-2.result.bytes ∷ c.logical_card-2.result.bytes ∷ [] ≡ empty_primary = λ i. p1 i ∷ p2 i ∷ p3 i ∷ p4 i ∷ [] in
    let adds = adds-same _ empty_primary 0 c.put_all-count.result c.args.out.now c.put_all-count.new.out same c.put_all-count.ensures.written in
    let bytes = c.finish.ensures.header empty_primary (adds [] (written-none c.args.out.now)) in
    record { written = bytes.0; size = omega (arith, c.finish.ensures.size, c.put_all-count.ensures.number) }
