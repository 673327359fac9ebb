use Rattle.std.proofs.Common.{◌+◌, arith}
use Rattle.fz_target.proofs.Digits.{number_more, part_short}
use Rattle.std.proofs.lemmas.Str.Parse.{digit_at}
use Rattle.fz_target.proofs.most.number_in.Goals as goal

pub overflow_mul-number : goal.overflow_mul-number
overflow_mul-number c = omega (arith, part_short c.args.digits.now (c.loop-digit.digit-index + 1) c.requires.digits c.requires.few, number_more c.args.digits.now c.loop-digit.digit-index c.requires.digits c.loop-digit-test.true)

pub overflow_sub-digit : goal.overflow_sub-digit
overflow_sub-digit c = (digit_at c.args.digits.now c.loop-digit.digit-index c.requires.digits c.loop-digit-test.true).0

pub overflow_add-number : goal.overflow_add-number
overflow_add-number c = omega (arith, part_short c.args.digits.now (c.loop-digit.digit-index + 1) c.requires.digits c.requires.few, number_more c.args.digits.now c.loop-digit.digit-index c.requires.digits c.loop-digit-test.true)

pub loop-digit-preserved : goal.loop-digit-preserved
loop-digit-preserved c = omega (arith, number_more c.args.digits.now c.loop-digit.digit-index c.requires.digits c.loop-digit-test.true)

pub returns-clause-short : goal.returns-clause-short
returns-clause-short c = omega (arith, part_short c.args.digits.now c.loop-digit.digit-index c.requires.digits c.requires.few)
