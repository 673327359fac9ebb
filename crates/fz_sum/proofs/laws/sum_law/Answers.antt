use Rattle.fz_sum.specs.Sums.{word_total, ones_sum}
use Rattle.fz_sum.proofs.Carries.{carried-lt}
use Rattle.fz_sum.proofs.Totals.{total_at-zeros, ones_sum-filled, pieces-added, pieces-sum, total_at-words_of, total_at-words, total_at-append}
use Rattle.fz_sum.proofs.laws.sum_law.Goals as goal

pub returns-clause-pieces : goal.returns-clause-pieces
returns-clause-pieces c = pieces-added

pub returns-clause-value : goal.returns-clause-value
returns-clause-value c = pieces-sum

pub returns-clause-whole : goal.returns-clause-whole
returns-clause-whole c = total_at-words_of

pub returns-clause-words : goal.returns-clause-words
returns-clause-words c = total_at-words

pub returns-clause-joined : goal.returns-clause-joined
returns-clause-joined c = total_at-append

pub returns-clause-fits : goal.returns-clause-fits
unfolding ones_sum
returns-clause-fits c = λ bytes. carried-lt (word_total bytes)

pub returns-clause-zeros : goal.returns-clause-zeros
returns-clause-zeros c = total_at-zeros

pub returns-clause-filled : goal.returns-clause-filled
returns-clause-filled c = ones_sum-filled
