-- If the source shows its bytes, the search answers what the definition says.
use Rattle.std.proofs.Common.{◌≡◌, ◌+◌, ◌*◌, min, ℕ, List, Option, Result, Ok, Err, refl, sym, ◌∙◌, subst, arith, rules, IfSome}
use Rattle.fz_base.specs.Source.{HoldsLength}
use Rattle.fz_base.specs.Stop.{IsDefined}
use Rattle.fz_base.specs.declared.failure.Stop.{Stop}
use Rattle.fz_block.specs.Again.{HasBlocks, IsLastBlock}
use Rattle.fz_block.specs.Checks.{header_blocks_of}
use Rattle.fz_block.specs.Scan.{next_block_says}
use Rattle.fz_block.proofs.Kept.{none_kept}
use Rattle.fz_block.proofs.Search.{search_begins, search_stops, search_ends, search_goes_on, search_fails}
use Rattle.fz_block.proofs.Touched.{logs_on, logs_of_header, touched_blocks}
use Rattle.fz_block.proofs.blocks.search_end.Goals as goal

pub loop-b-init : goal.loop-b-init
loop-b-init g c = record {
  held = refl;
  attached = refl;
  tally = refl;
  log = c.log_law.ensures.none c.args.start (min c.args.length (c.args.start + 2880 * 0)) (g.S.Source.ranges c.args.source.now);
  within = omega (arith, c.requires.within);
  long = refl;
  kept = none_kept (g.S.Source.held c.args.source.now) c.args.start c.args.buf.now;
  searched = search_begins (g.S.Source.held c.args.source.now) c.args.length c.args.hdu c.args.start
      (g.met.S.Source.agrees c.args.source.now c.args.length c.requires.attached) c.requires.within;
}

pub returns-in_err-has_end-clause-exact : goal.returns-in_err-has_end-clause-exact
returns-in_err-has_end-clause-exact g c =
    let stopped : c.from_residual.result ≡ Err c.in_err-has_end.field-0.0 = search rules in
    let held : Option (List ℕ) = g.S.Source.held c.args.source.now in
    let says : IfSome held (λ f. IsDefined (next_block_says c.args.hdu c.args.start c.loop-b.b f) (Err c.in_err-has_end.field-0.0)) =
    subst (λ (h : Option (List ℕ)). IfSome h (λ f. IsDefined (next_block_says c.args.hdu c.args.start c.loop-b.b f) (Err c.in_err-has_end.field-0.0)))
    c.loop-b.invariant.held c.in_err-has_end.ensures.exact in
    subst (λ (r : Result ℕ Stop). IfSome held (λ f. IsDefined (header_blocks_of c.args.hdu c.args.start f) r)) (sym stopped)
    (search_stops held c.args.hdu c.args.start c.loop-b.b c.in_err-has_end.field-0.0 c.requires.begins c.loop-b.invariant.searched (omega arith) says)

pub returns-then-branch-clause-exact : goal.returns-then-branch-clause-exact
returns-then-branch-clause-exact g c =
    let says : IfSome (g.S.Source.held c.args.source.now) (λ f. next_block_says c.args.hdu c.args.start c.loop-b.b f ≡ Ok c.in_ok-has_end.field-0) =
    subst (λ (h : Option (List ℕ)). IfSome h (λ f. next_block_says c.args.hdu c.args.start c.loop-b.b f ≡ Ok c.in_ok-has_end.field-0))
    c.loop-b.invariant.held c.in_ok-has_end.ensures.exact in
    search_ends (g.S.Source.held c.args.source.now) c.args.hdu c.args.start c.loop-b.b c.in_ok-has_end.field-0 c.if-branch.true c.requires.begins
    c.loop-b.invariant.searched (omega arith) says

pub returns-then-branch-clause-kept : goal.returns-then-branch-clause-kept
returns-then-branch-clause-kept g c =
    let more : HasBlocks (g.S.Source.held c.args.source.now) c.args.start c.loop-b.b c.loop-b.buf → HasBlocks (g.S.Source.held c.args.source.now) c.args.start (c.loop-b.b + 1) c.has_end.new.buf =
    subst (λ (h : Option (List ℕ)). HasBlocks h c.args.start c.loop-b.b c.loop-b.buf → HasBlocks h c.args.start (c.loop-b.b + 1) c.has_end.new.buf)
    c.loop-b.invariant.held c.in_ok-has_end.ensures.kept in
    more c.loop-b.invariant.kept

pub returns-then-branch-clause-last : goal.returns-then-branch-clause-last
returns-then-branch-clause-last g c =
    subst (λ (h : Option (List ℕ)). IsLastBlock h c.args.start (c.loop-b.b + 1) c.has_end.new.buf) c.loop-b.invariant.held c.in_ok-has_end.ensures.last

pub loop-b-preserved : goal.loop-b-preserved
loop-b-preserved g c =
    let says : IfSome (g.S.Source.held c.args.source.now) (λ f. next_block_says c.args.hdu c.args.start c.loop-b.b f ≡ Ok c.in_ok-has_end.field-0) =
    subst (λ (h : Option (List ℕ)). IfSome h (λ f. next_block_says c.args.hdu c.args.start c.loop-b.b f ≡ Ok c.in_ok-has_end.field-0))
    c.loop-b.invariant.held c.in_ok-has_end.ensures.exact in
    let more : HasBlocks (g.S.Source.held c.args.source.now) c.args.start c.loop-b.b c.loop-b.buf → HasBlocks (g.S.Source.held c.args.source.now) c.args.start (c.loop-b.b + 1) c.has_end.new.buf =
    subst (λ (h : Option (List ℕ)). HasBlocks h c.args.start c.loop-b.b c.loop-b.buf → HasBlocks h c.args.start (c.loop-b.b + 1) c.has_end.new.buf)
    c.loop-b.invariant.held c.in_ok-has_end.ensures.kept in
    record {
      held = search rules;
      attached = search rules;
      tally = search rules;
      log = logs_on c.log_law.ensures.both c.log_law.ensures.wider c.args.length c.args.start c.loop-b.b (g.S.Source.ranges c.args.source.now) (g.S.Source.ranges c.loop-b.source) (g.S.Source.ranges c.has_end.new.source)
          c.loop-b.invariant.log c.in_ok-has_end.ensures.log;
      within = search rules;
      long = c.has_end.ensures.len ∙ c.loop-b.invariant.long;
      kept = more c.loop-b.invariant.kept;
      searched = search_goes_on (g.S.Source.held c.args.source.now) c.args.hdu c.args.start c.loop-b.b c.in_ok-has_end.field-0 c.if-branch.false
          c.loop-b.invariant.searched says;
    }

pub returns-clause-exact : goal.returns-clause-exact
returns-clause-exact g c =
    search_fails (g.S.Source.held c.args.source.now) c.args.hdu c.args.start c.loop-b.b c.refused-fault.result (omega arith) c.requires.begins
    c.loop-b.invariant.searched c.refused-fault.ensures

pub returns-in_err-has_end-clause-log : goal.returns-in_err-has_end-clause-log
returns-in_err-has_end-clause-log g c =
    logs_of_header c.log_law.ensures.wider c.args.length c.args.start (c.loop-b.b + 1) (g.S.Source.ranges c.args.source.now) (g.S.Source.ranges c.has_end.new.source) (omega arith)
    (logs_on c.log_law.ensures.both c.log_law.ensures.wider c.args.length c.args.start c.loop-b.b (g.S.Source.ranges c.args.source.now) (g.S.Source.ranges c.loop-b.source) (g.S.Source.ranges c.has_end.new.source)
    c.loop-b.invariant.log c.in_err-has_end.ensures.log)

pub returns-in_err-has_end-clause-touched : goal.returns-in_err-has_end-clause-touched
returns-in_err-has_end-clause-touched g c =
    let told : HoldsLength (g.S.Source.held c.args.source.now) c.args.length = g.met.S.Source.agrees c.args.source.now c.args.length c.requires.attached in
    touched_blocks c.log_law.ensures.wider (g.S.Source.held c.args.source.now) c.args.length c.args.hdu c.args.start c.loop-b.b (c.loop-b.b + 1) (g.S.Source.ranges c.args.source.now) (g.S.Source.ranges c.has_end.new.source)
    told c.requires.begins c.loop-b.invariant.searched (omega arith) (omega arith)
    (logs_on c.log_law.ensures.both c.log_law.ensures.wider c.args.length c.args.start c.loop-b.b (g.S.Source.ranges c.args.source.now) (g.S.Source.ranges c.loop-b.source) (g.S.Source.ranges c.has_end.new.source)
    c.loop-b.invariant.log c.in_err-has_end.ensures.log)

pub returns-then-branch-clause-log : goal.returns-then-branch-clause-log
returns-then-branch-clause-log g c =
    logs_of_header c.log_law.ensures.wider c.args.length c.args.start (c.loop-b.b + 1) (g.S.Source.ranges c.args.source.now) (g.S.Source.ranges c.has_end.new.source) (omega arith)
    (logs_on c.log_law.ensures.both c.log_law.ensures.wider c.args.length c.args.start c.loop-b.b (g.S.Source.ranges c.args.source.now) (g.S.Source.ranges c.loop-b.source) (g.S.Source.ranges c.has_end.new.source)
    c.loop-b.invariant.log c.in_ok-has_end.ensures.log)

pub returns-then-branch-clause-touched : goal.returns-then-branch-clause-touched
returns-then-branch-clause-touched g c =
    let told : HoldsLength (g.S.Source.held c.args.source.now) c.args.length = g.met.S.Source.agrees c.args.source.now c.args.length c.requires.attached in
    touched_blocks c.log_law.ensures.wider (g.S.Source.held c.args.source.now) c.args.length c.args.hdu c.args.start c.loop-b.b (c.loop-b.b + 1) (g.S.Source.ranges c.args.source.now) (g.S.Source.ranges c.has_end.new.source)
    told c.requires.begins c.loop-b.invariant.searched (omega arith) (omega arith)
    (logs_on c.log_law.ensures.both c.log_law.ensures.wider c.args.length c.args.start c.loop-b.b (g.S.Source.ranges c.args.source.now) (g.S.Source.ranges c.loop-b.source) (g.S.Source.ranges c.has_end.new.source)
    c.loop-b.invariant.log c.in_ok-has_end.ensures.log)

pub returns-clause-log : goal.returns-clause-log
returns-clause-log g c =
    logs_of_header c.log_law.ensures.wider c.args.length c.args.start c.loop-b.b (g.S.Source.ranges c.args.source.now) (g.S.Source.ranges c.loop-b.source) (omega arith) c.loop-b.invariant.log

pub returns-clause-touched : goal.returns-clause-touched
returns-clause-touched g c =
    let told : HoldsLength (g.S.Source.held c.args.source.now) c.args.length = g.met.S.Source.agrees c.args.source.now c.args.length c.requires.attached in
    touched_blocks c.log_law.ensures.wider (g.S.Source.held c.args.source.now) c.args.length c.args.hdu c.args.start c.loop-b.b c.loop-b.b (g.S.Source.ranges c.args.source.now) (g.S.Source.ranges c.loop-b.source)
    told c.requires.begins c.loop-b.invariant.searched (omega arith) (omega arith) c.loop-b.invariant.log
