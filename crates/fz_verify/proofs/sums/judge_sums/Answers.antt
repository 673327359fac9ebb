-- The sum of the data, and then that of the HDU.
use Rattle.fz_verify.proofs.Few.{cards_fit}
use Rattle.fz_verify.proofs.Judged.{judged}
use Rattle.fz_verify.proofs.sums.judge_sums.Goals as goal

pub returns-clause-verdicts : goal.returns-clause-verdicts
returns-clause-verdicts g c =
    judged c.sum_law.ensures.joined c.sum_law.ensures.whole c.sum_law.ensures.words c.args.header.now c.args.buf.now c.requires.header (g.S.Source.held c.args.source.now) c.requires.read
    c.add_data.new.sum c.add.new.self c.datasum_verdict-datasum.result c.checksum_verdict-checksum.result c.value.result c.value-2.result
    c.in_ok-add_data.ensures.added c.add.ensures c.value.ensures c.value-2.ensures c.datasum_verdict-datasum.ensures.function c.checksum_verdict-checksum.ensures.function

pub datasum_verdict-datasum-requires : goal.datasum_verdict-datasum-requires
datasum_verdict-datasum-requires g c = cards_fit c.args.buf.now c.args.header.now c.requires.header

pub checksum_verdict-checksum-requires : goal.checksum_verdict-checksum-requires
checksum_verdict-checksum-requires g c = cards_fit c.args.buf.now c.args.header.now c.requires.header
