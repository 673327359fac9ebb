-- One axis after another.
use Rattle.std.proofs.Common.{◌≡◌, ℕ, ◌<◌, get_or, take, ap, ◌∙◌, arith, length-set}
use Rattle.fz_grid.specs.Arrays.{place_of}
use Rattle.fz_grid.specs.Region.{lengths_of, region_lengths}
use Rattle.fz_block.specs.declared.axes.Axes.{Axes}
use Rattle.fz_look.specs.Boxes.{inside_of}
use Rattle.fz_retile.proofs.Corners.{corner_is, counted_more}
use Rattle.fz_retile.proofs.pixels.place_in.Goals as goal

pub overflow_sub-inside : goal.overflow_sub-inside
overflow_sub-inside c = (c.requires.has c.loop-i.i (omega arith)).0

pub loop-i-init : goal.loop-i-init
loop-i-init c = record { long = omega arith; counted = λ k low. absurd (omega (arith, low)) }

pub loop-i-preserved : goal.loop-i-preserved
loop-i-preserved c =
    let old = c.loop-i.invariant in
    let i : ℕ = c.loop-i.i in
    record {
      long = length-set c.loop-i.inside i _ ∙ old.long;
      counted = counted_more c.args.region.now.lo c.args.at.now c.loop-i.inside i _ (omega (arith, old.long, c.requires.region.axes)) (omega arith) old.counted;
    }

pub index-requires-clause-at : goal.index-requires-clause-at
index-requires-clause-at c = λ k low.
    let within : k < c.args.region.now.n = omega (arith, low, ap (λ (a : Axes). a.n) c.axes.ensures) in
    let there = c.requires.has k within in
    let here = c.loop-i.invariant.counted k (omega (arith, within)) in
    omega (arith, there.0, there.1, here, ap (λ (a : Axes). get_or a.len k 0) c.axes.ensures)

pub returns-clause-place : goal.returns-clause-place
returns-clause-place c =
    let r = c.args.region.now in
    let lengths = ap (λ (a : Axes). lengths_of a) c.axes.ensures in
    let inside : take r.n c.loop-i.inside ≡ inside_of r c.args.at.now =
    corner_is r.n r.lo c.args.at.now c.loop-i.inside (omega (arith, c.requires.region.axes)) (omega (arith, c.requires.region.axes)) (omega (arith, c.requires.region.axes, c.loop-i.invariant.long)) (λ k low. c.loop-i.invariant.counted k (omega (arith, low))) in
    c.index.ensures.place
    ∙ (λ i. place_of (lengths i) (take (c.axes.ensures i).n c.loop-i.inside))
    ∙ ap (place_of (region_lengths r)) inside
