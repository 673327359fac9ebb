-- One card after another.
use Rattle.std.proofs.Common.{◌≡◌, ℕ, ◌*◌, ◌/◌, List, length, drop, codes, refl, ap, ◌∙◌, ◌++◌, arith}
use Rattle.fz_card.specs.Layout.{blanks}
use Rattle.fz_files.specs.CutoutBytes.{moved_card}
use Rattle.fz_cut.proofs.Moves.{header_moved, moved_front, other_stays, step_long, step_moved}
use Rattle.fz_cut.proofs.moved.move_pixels.Goals as goal

pub loop-i-init : goal.loop-i-init
loop-i-init c = record {
  moved = refl;
  front = omega arith;
  len = refl;
}

pub loop-i-preserved : goal.loop-i-preserved
loop-i-preserved c =
    let f : List ℕ → List ℕ = moved_card c.args.sieve.now in
    let i : ℕ = c.loop-i.i in
    let old = c.loop-i.invariant in
    record {
      moved = step_moved f i c.args.header.now c.loop-i.header c.move_card.new.header old.moved old.front c.move_card.ensures.card;
      front = step_long f i c.args.header.now c.loop-i.header old.moved old.front c.move_card.ensures.whole;
      len = c.move_card.ensures.len ∙ old.len;
    }

pub returns-clause-moved : goal.returns-clause-moved
returns-clause-moved c = λ cards are is.
    let f : List ℕ → List ℕ = moved_card c.args.sieve.now in
    let h : List ℕ = c.args.header.now in
    let old = c.loop-i.invariant in
    let other = c.numbers_law.ensures.other_stem in
    let all : c.loop-i.i ≡ length h / 80 = omega arith in
    let moved : c.loop-i.header ≡ moved_front f (length h / 80) h ++ drop (80 * (length h / 80)) h = old.moved ∙ ap (λ n. moved_front f n h ++ drop (80 * n) h) all in
    header_moved f (other_stays other c.args.sieve.now (blanks 80) refl) (other_stays other c.args.sieve.now (codes "END" ++ blanks 77) refl) cards h c.loop-i.header are is moved old.len
