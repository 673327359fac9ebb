-- One line more.
use Rattle.std.proofs.Common.{◌≡◌, List, [], ◌∷◌, sym, subst, ◌∙◌, arith}
use Rattle.std.specs.List.{AllByRecursion}
use Rattle.fz_grid.specs.Line.{IsLineWithin, lines_in_cutout}
use Rattle.fz_grid.specs.LineWalks.{lines_left}
use Rattle.fz_grid.specs.declared.line.Line.{Line}
use Rattle.fz_flat.specs.Placed.{IsNearer}
use Rattle.fz_flat.proofs.PlacedLemmas.{line_more, nearer_none}
use Rattle.fz_flat.proofs.placing.place_lines.Goals as goal

pub place_line-requires-clause-line : goal.place_line-requires-clause-line
place_line-requires-clause-line c =
    let pixels = c.requires.lines.0 in
    let cutout = c.requires.lines.1.0 in
    let next : lines_left c.loop-line.line-iterator ≡ c.in-Some.line ∷ lines_left c.next.new.self = c.in-Some.ensures.steps in
    let here = (subst (AllByRecursion (IsLineWithin pixels cutout)) next (c.loop-line.invariant.within pixels cutout c.requires.lines.1.1)).0 in
    (pixels, (cutout, here, c.requires.lines.1.2, omega (arith, c.requires.lines.1.3, c.loop-line.invariant.size)))

pub loop-line-preserved : goal.loop-line-preserved
loop-line-preserved c =
    let next : lines_left c.loop-line.line-iterator ≡ c.in-Some.line ∷ lines_left c.next.new.self = c.in-Some.ensures.steps in
    record {
      size = c.place_line.ensures.len ∙ c.loop-line.invariant.size;
      within = λ pixels cutout all. (subst (AllByRecursion (IsLineWithin pixels cutout)) next (c.loop-line.invariant.within pixels cutout all)).1;
      nearer = λ whole has.
          let old = c.loop-line.invariant.nearer whole has in
          let more = line_more c.args.width whole c.in-Some.line (lines_left c.loop-line.line-iterator) (lines_left c.next.new.self) c.args.numbers.now c.loop-line.out c.place_line.new.out next c.place_line.ensures.inside c.place_line.ensures.outside old.0 in
          (more.0, λ now near. old.1 now (more.1 now near));
    }

pub returns-clause-placed : goal.returns-clause-placed
returns-clause-placed c whole has =
    let none : lines_left c.loop-line.line-iterator ≡ [] = c.in-None.ensures.steps.0 in
    (c.loop-line.invariant.nearer whole has).1 c.loop-line.out
    (subst (λ (l : List Line). IsNearer c.args.width whole c.loop-line.out c.loop-line.out (lines_in_cutout l)) (sym none) (nearer_none c.args.width whole c.loop-line.out))
