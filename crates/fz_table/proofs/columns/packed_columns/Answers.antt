use Rattle.std.proofs.Common.{◌≡◌, ℕ, ◌+◌, ◌-◌, refl, sym, subst, arith, rules}
use Rattle.fz_table.specs.Tables.{column_checks}
use Rattle.fz_table.specs.Found.{AreFound}
use Rattle.fz_table.proofs.Places.{columns_len-none, columns_len-more, columns_len-le, none_are}
use Rattle.fz_table.proofs.columns.packed_columns.Goals as goal

pub loop-before-init : goal.loop-before-init
loop-before-init c = record { passed = refl; at = sym (columns_len-none c.args.buf.now); found = none_are c.args.buf.now }

pub with_column-requires-clause-short : goal.with_column-requires-clause-short
with_column-requires-clause-short c = omega (arith, columns_len-le c.args.buf.now c.loop-before.before c.args.fields)

pub with_column-requires-clause-before : goal.with_column-requires-clause-before
with_column-requires-clause-before c =
    let P : ℕ → Type 0 = λ n. AreFound c.args.buf.now n c.loop-before.found in
    let same : c.loop-before.before ≡ c.loop-before.before + 1 - 1 = omega arith in
    subst P same c.loop-before.invariant.found

pub returns-in_err-found-clause-exact : goal.returns-in_err-found-clause-exact
returns-in_err-found-clause-exact c =
    let i = c.loop-before.before in
    let stopped = c.refusals_law.ensures.stopped (column_checks c.args.buf.now c.args.header.now) 1 i c.args.fields (i + 1) _ (omega arith) c.loop-before-test.true c.loop-before.invariant.passed c.in_err-found.ensures.exact in
    search (rules, stopped)

pub overflow_add-at : goal.overflow_add-at
overflow_add-at c =
    let h = c.args.buf.now in
    let i = c.loop-before.before in
    omega (arith, columns_len-more h i (i + 1) refl, columns_len-le h (i + 1) c.args.fields (omega arith))

pub loop-before-preserved : goal.loop-before-preserved
loop-before-preserved c =
    let h = c.args.buf.now in
    let i = c.loop-before.before in
    record {
      passed = c.refusals_law.ensures.passed (column_checks h c.args.header.now) 1 i (i + 1) (omega arith) c.loop-before.invariant.passed c.in_ok-found.ensures.exact;
      at = omega (arith, columns_len-more h i (i + 1) refl);
      found = c.in_ok-found.ensures.found;
    }

pub returns-clause-found : goal.returns-clause-found
returns-clause-found c =
    let P : ℕ → Type 0 = λ n. AreFound c.args.buf.now n c.loop-before.found in
    let same : c.loop-before.before ≡ c.args.fields = omega arith in
    subst P same c.loop-before.invariant.found
