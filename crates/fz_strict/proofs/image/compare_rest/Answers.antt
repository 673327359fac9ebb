-- The header was restored and the tiles are those that `pack` writes, or not.
use Rattle.std.specs.Prelude.{IfOk}
use Rattle.std.proofs.Common.{◌≡◌, ℕ, ◌+◌, ◌*◌, ◌≤◌, List, length, Option, Some, None, IfSome, sym, subst}
use Rattle.fz_block.specs.Header.{next_start_of}
use Rattle.fz_image.specs.declared.progress.Progress.{Progress}
use Rattle.fz_strict.specs.Backs.{ComparesRest, IsBack}
use Rattle.fz_compare.specs.Compared.{IsSoFar}
use Rattle.fz_strict.specs.declared.image.Restored.{Restored}
use Rattle.fz_strict.proofs.BackImages.{none_rest, none_written_rest}
use Rattle.fz_strict.proofs.image.compare_rest.Goals as goal

pub compare_frame-requires-clause-restored : goal.compare_frame-requires-clause-restored
compare_frame-requires-clause-restored g c =
    let q = c.requires.restored in
    (q.0, q.1, subst (λ (r : Option Restored). IfSome r (IsBack c.args.frame.sums q.0 q.1 c.args.frame.plain.now)) c.in-Some.is q.2)

pub compare_frame-requires-clause-progress : goal.compare_frame-requires-clause-progress
compare_frame-requires-clause-progress g c =
    let l = c.in-Some.restored.layout in
    subst (λ (w : Option Progress). IfSome w (λ q. IsSoFar l q × (q.tiles ≡ l.tiles))) c.in-Some-progress.is
    (subst (λ (r : Option Restored). IfSome c.args.progress (λ w. IfSome r (λ x. IsSoFar x.layout w × (w.tiles ≡ x.layout.tiles)))) c.in-Some.is c.requires.progress)

pub compare_frame-requires-clause-made : goal.compare_frame-requires-clause-made
compare_frame-requires-clause-made g c =
    subst (λ (r : Option Restored). IfSome r (λ x. 2880 * x.header.blocks + 2880 ≤ length c.args.made.now)) c.in-Some.is c.requires.made

pub returns-in-Some-progress-clause-compared : goal.returns-in-Some-progress-clause-compared
returns-in-Some-progress-clause-compared g c =
    let held : Option (List ℕ) = g.S.Source.held c.args.source.now in
    let f = c.args.frame in
    subst (λ (w : Option Progress). IfOk c.compare_frame.result (λ now. IfSome held (λ file. ComparesRest file f.header.now f.sums f.plain.now c.args.restored.now w now))) (sym c.in-Some-progress.is)
    (subst (λ (r : Option Restored). IfOk c.compare_frame.result (λ now. IfSome held (λ file. ComparesRest file f.header.now f.sums f.plain.now r (Some c.in-Some-progress.progress) now))) (sym c.in-Some.is)
    c.compare_frame.ensures.compared)

pub returns-in-None-progress-clause-compared : goal.returns-in-None-progress-clause-compared
returns-in-None-progress-clause-compared g c =
    let held : Option (List ℕ) = g.S.Source.held c.args.source.now in
    let f = c.args.frame in
    subst (λ (r : Option Restored). IfSome held (λ file. ComparesRest file f.header.now f.sums f.plain.now r c.args.progress None)) (sym c.in-Some.is)
    (none_written_rest held f.header.now f.sums f.plain.now c.in-Some.restored c.args.progress c.in-None-progress.is)

pub returns-in-None-clause-compared : goal.returns-in-None-clause-compared
returns-in-None-clause-compared g c =
    let f = c.args.frame in
    none_rest (g.S.Source.held c.args.source.now) f.header.now f.sums f.plain.now c.args.restored.now c.args.progress c.in-None.is

pub returns-in-None-progress-clause-read : goal.returns-in-None-progress-clause-read
returns-in-None-progress-clause-read g c = c.log_law.ensures.none 0 (next_start_of c.args.frame.header.now) (g.S.Source.ranges c.args.source.now)

pub returns-in-None-clause-read : goal.returns-in-None-clause-read
returns-in-None-clause-read g c = c.log_law.ensures.none 0 (next_start_of c.args.frame.header.now) (g.S.Source.ranges c.args.source.now)
