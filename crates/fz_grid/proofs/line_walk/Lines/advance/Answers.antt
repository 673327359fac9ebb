use Rattle.std.proofs.Common.{◌-◌, ◌+◌, ◌∷◌, map, ap, sym, ◌∙◌, arith}
use Rattle.std.specs.List.{range_with_len}
use Rattle.fz_grid.specs.LineWalks.{nth_line}
use Rattle.fz_grid.proofs.LineLemmas.{next_of}
use Rattle.fz_grid.proofs.line_walk.Lines.advance.Goals as goal

pub returns : goal.returns
returns c =
    let lines = c.args.self.now in
    let nth = nth_line lines.tile lines.cutout lines.part lines.rows in
    next_of nth lines.next lines.end (omega arith)
    ∙ ap (λ l. l ∷ map nth (range_with_len (lines.next + 1) (lines.end - (lines.next + 1)))) (sym c.line-line.ensures)
