-- Where no header may begin, the search does not begin.
use Rattle.std.proofs.Common.{◌≡◌, ℕ, List, Option, Result, Err, sym, subst, rules, IfOk, IfSome}
use Rattle.fz_base.specs.Source.{LogsWithin}
use Rattle.fz_base.specs.Stop.{IsDefined}
use Rattle.fz_base.specs.declared.failure.Stop.{Stop}
use Rattle.fz_block.specs.Again.{HasBlocks, IsLastBlock}
use Rattle.fz_block.specs.Checks.{header_blocks_of, header_touched}
use Rattle.fz_block.proofs.Search.{search_never_begins}
use Rattle.fz_block.proofs.Touched.{touched_first, touched_both, logs_begun}
use Rattle.fz_block.proofs.blocks.header_blocks.Goals as goal

pub returns-in_err-check_begin-clause-exact : goal.returns-in_err-check_begin-clause-exact
returns-in_err-check_begin-clause-exact g c =
    let stopped : c.from_residual.result ≡ Err c.in_err-check_begin.field-0.0 = search rules in
    subst (λ (r : Result ℕ Stop). IfSome (g.S.Source.held c.args.source.now) (λ f. IsDefined (header_blocks_of c.args.hdu c.args.start f) r)) (sym stopped)
    (search_never_begins (g.S.Source.held c.args.source.now) c.args.hdu c.args.start c.in_err-check_begin.field-0.0 c.in_err-check_begin.ensures.exact)

pub returns-in_err-check_begin-clause-touched : goal.returns-in_err-check_begin-clause-touched
returns-in_err-check_begin-clause-touched g c =
    touched_first c.log_law.ensures.wider (g.S.Source.held c.args.source.now) c.args.length c.args.hdu c.args.start (g.S.Source.ranges c.args.source.now) (g.S.Source.ranges c.check_begin.new.source)
    (g.met.S.Source.agrees c.args.source.now c.args.length c.requires.attached) c.in_err-check_begin.ensures.log

pub returns-clause-kept : goal.returns-clause-kept
returns-clause-kept g c =
    subst (λ (h : Option (List ℕ)). IfOk c.search_end.result (λ n. HasBlocks h c.args.start n c.search_end.new.buf)) c.in_ok-check_begin.ensures.source.held_is c.search_end.ensures.kept

pub returns-clause-last : goal.returns-clause-last
returns-clause-last g c =
    subst (λ (h : Option (List ℕ)). IfOk c.search_end.result (λ n. IsLastBlock h c.args.start n c.search_end.new.buf)) c.in_ok-check_begin.ensures.source.held_is c.search_end.ensures.last

pub returns-clause-log : goal.returns-clause-log
returns-clause-log g c =
    logs_begun c.log_law.ensures.both c.log_law.ensures.wider c.args.length c.args.start (g.S.Source.ranges c.args.source.now) (g.S.Source.ranges c.check_begin.new.source) (g.S.Source.ranges c.search_end.new.source)
    c.in_ok-check_begin.ensures.log c.search_end.ensures.log

pub returns-clause-touched : goal.returns-clause-touched
returns-clause-touched g c =
    let held : Option (List ℕ) = g.S.Source.held c.args.source.now in
    let first : IfSome held (λ f. LogsWithin c.args.start (header_touched c.args.hdu c.args.start f) (g.S.Source.ranges c.args.source.now) (g.S.Source.ranges c.check_begin.new.source)) =
    touched_first c.log_law.ensures.wider held c.args.length c.args.hdu c.args.start (g.S.Source.ranges c.args.source.now) (g.S.Source.ranges c.check_begin.new.source)
    (g.met.S.Source.agrees c.args.source.now c.args.length c.requires.attached) c.in_ok-check_begin.ensures.log in
    let second : IfSome held (λ f. LogsWithin c.args.start (header_touched c.args.hdu c.args.start f) (g.S.Source.ranges c.check_begin.new.source) (g.S.Source.ranges c.search_end.new.source)) =
    subst (λ (h : Option (List ℕ)). IfSome h (λ f. LogsWithin c.args.start (header_touched c.args.hdu c.args.start f) (g.S.Source.ranges c.check_begin.new.source) (g.S.Source.ranges c.search_end.new.source)))
    c.in_ok-check_begin.ensures.source.held_is c.search_end.ensures.touched in
    touched_both c.log_law.ensures.both held c.args.hdu c.args.start (g.S.Source.ranges c.args.source.now) (g.S.Source.ranges c.check_begin.new.source) (g.S.Source.ranges c.search_end.new.source) first second
