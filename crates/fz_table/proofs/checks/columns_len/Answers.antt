use Rattle.std.proofs.Common.{◌+◌, refl, sym, arith, rules}
use Rattle.fz_table.specs.Tables.{form_checks}
use Rattle.fz_table.proofs.Places.{columns_len-none, columns_len-more}
use Rattle.fz_table.proofs.checks.columns_len.Goals as goal

pub loop-before-init : goal.loop-before-init
loop-before-init c = record { passed = refl; added = sym (columns_len-none c.args.buf.now); short = omega arith }

pub returns-in_err-len-clause-exact : goal.returns-in_err-len-clause-exact
returns-in_err-len-clause-exact c =
    let h = c.args.buf.now in
    let i = c.loop-before.before in
    let stopped = c.refusals_law.ensures.stopped (form_checks h c.args.header.now) 1 i c.args.fields (i + 1) _ (omega arith) c.loop-before-test.true c.loop-before.invariant.passed c.in_err-len.ensures.exact in
    search (rules, stopped)

pub loop-before-preserved : goal.loop-before-preserved
loop-before-preserved c =
    let h = c.args.buf.now in
    let i = c.loop-before.before in
    record {
      passed = c.refusals_law.ensures.passed (form_checks h c.args.header.now) 1 i (i + 1) (omega arith) c.loop-before.invariant.passed c.in_ok-len.ensures.exact;
      added = omega (arith, columns_len-more h i (i + 1) refl, c.in_ok-len.ensures.len);
      short = omega (arith, c.in_ok-len.ensures.short);
    }
