-- A job that writes a file leaves the text, one that prints leaves the sink, and `drill` the source too.
use Rattle.fz_base.specs.Counts.{nameless}
use Rattle.fz_words.specs.Seen.{asked_of}
use Rattle.fz_app.proofs.NamesAnswers as names
use Rattle.std.proofs.Common.{ap}
use Rattle.fz_app.proofs.RequestAnswers.{is_other, other_ends, ran, reports, verified, verify_ends}
use Rattle.fz_app.proofs.run_job.run_request.Goals as goal

pub returns-in-Pack-clause-promised : goal.returns-in-Pack-clause-promised
returns-in-Pack-clause-promised g c = ran (asked_of c.args.request.now) _ _ c.ended.result c.run_pack.result c.ended.ensures (c.run_pack.ensures.promised (record { contents = g.T.Text.contents c.args.text.now; tally = g.T.Text.tally c.args.text.now }))

pub returns-in-Unpack-clause-promised : goal.returns-in-Unpack-clause-promised
returns-in-Unpack-clause-promised g c = ran (asked_of c.args.request.now) _ _ c.ended-in-Unpack.result c.run_unpack.result c.ended-in-Unpack.ensures (c.run_unpack.ensures.promised (record { contents = g.T.Text.contents c.args.text.now; tally = g.T.Text.tally c.args.text.now }))

pub returns-in-Cut-clause-promised : goal.returns-in-Cut-clause-promised
returns-in-Cut-clause-promised g c = ran (asked_of c.args.request.now) _ _ c.ended-in-Cut.result c.run_cut.result c.ended-in-Cut.ensures (c.run_cut.ensures.promised (record { contents = g.T.Text.contents c.args.text.now; tally = g.T.Text.tally c.args.text.now }))

pub returns-in-Verify-clause-promised : goal.returns-in-Verify-clause-promised
returns-in-Verify-clause-promised g c = verified (asked_of c.args.request.now) _ _ c.verified.result c.run_verify.result c.verified.ensures (c.run_verify.ensures.promised (record { contents = g.K.Sink.contents c.args.sink.now; created = g.K.Sink.created c.args.sink.now; finished = g.K.Sink.finished c.args.sink.now; tally = nameless (g.K.Sink.tally c.args.sink.now) }) c.requires.empty)

pub returns-in-List-clause-promised : goal.returns-in-List-clause-promised
returns-in-List-clause-promised g c = ran (asked_of c.args.request.now) _ _ c.ended-in-List.result c.run_list.result c.ended-in-List.ensures (c.run_list.ensures.promised (record { contents = g.K.Sink.contents c.args.sink.now; created = g.K.Sink.created c.args.sink.now; finished = g.K.Sink.finished c.args.sink.now; tally = nameless (g.K.Sink.tally c.args.sink.now) }) c.requires.empty)

pub returns-in-Drill-clause-promised : goal.returns-in-Drill-clause-promised
returns-in-Drill-clause-promised g c = ran (asked_of c.args.request.now) _ _ c.ended-in-Drill.result c.run_drill.result c.ended-in-Drill.ensures (c.run_drill.ensures.promised (g.S.Source.held c.args.source.now) (g.S.Source.ranges c.args.source.now) (nameless (g.S.Source.tally c.args.source.now)) (record { contents = g.K.Sink.contents c.args.sink.now; created = g.K.Sink.created c.args.sink.now; finished = g.K.Sink.finished c.args.sink.now; tally = nameless (g.K.Sink.tally c.args.sink.now) }) c.requires.empty)

pub returns-in-Verify-clause-reported : goal.returns-in-Verify-clause-reported
returns-in-Verify-clause-reported g c = reports c.args.request.now.job c.args.request.now.strict c.verified.result c.run_verify.result (g.T.Text.contents c.args.text.now) (g.T.Text.contents c.run_verify.new.text) c.verified.ensures c.run_verify.ensures.reported

pub returns-in-Pack-clause-names : goal.returns-in-Pack-clause-names
returns-in-Pack-clause-names g c = names.ran (asked_of c.args.request.now) _ _ _ _ c.ended.result c.run_pack.result c.ended.ensures c.run_pack.ensures.names

pub returns-in-Unpack-clause-names : goal.returns-in-Unpack-clause-names
returns-in-Unpack-clause-names g c = names.ran (asked_of c.args.request.now) _ _ _ _ c.ended-in-Unpack.result c.run_unpack.result c.ended-in-Unpack.ensures c.run_unpack.ensures.names

pub returns-in-Cut-clause-names : goal.returns-in-Cut-clause-names
returns-in-Cut-clause-names g c = names.ran (asked_of c.args.request.now) _ _ _ _ c.ended-in-Cut.result c.run_cut.result c.ended-in-Cut.ensures c.run_cut.ensures.names

pub returns-in-List-clause-names : goal.returns-in-List-clause-names
returns-in-List-clause-names g c = names.ran (asked_of c.args.request.now) _ _ _ _ c.ended-in-List.result c.run_list.result c.ended-in-List.ensures (c.run_list.ensures.names (g.K.Sink.tally c.args.sink.now).names)

pub returns-in-Drill-clause-names : goal.returns-in-Drill-clause-names
returns-in-Drill-clause-names g c = names.ran (asked_of c.args.request.now) _ _ _ _ c.ended-in-Drill.result c.run_drill.result c.ended-in-Drill.ensures (c.run_drill.ensures.names (g.S.Source.tally c.args.source.now).names (g.K.Sink.tally c.args.sink.now).names)

pub returns-in-Verify-clause-names : goal.returns-in-Verify-clause-names
returns-in-Verify-clause-names g c = names.verified (asked_of c.args.request.now) _ _ _ _ c.verified.result c.run_verify.result c.verified.ensures (c.run_verify.ensures.names (g.K.Sink.tally c.args.sink.now).names)

pub returns-in-Verify-clause-ended : goal.returns-in-Verify-clause-ended
returns-in-Verify-clause-ended g c = verify_ends c.args.request.now.workers c.args.request.now.strict c.args.request.now.memory c.args.request.now.input.now c.args.request.now.output.now (g.S.Source.held c.args.source.now) c.args.request.now.job c.verified.result c.run_verify.result c.in-Verify.is c.verified.ensures c.run_verify.ensures.right

pub returns-in-Pack-clause-ended : goal.returns-in-Pack-clause-ended
returns-in-Pack-clause-ended g c = other_ends (asked_of c.args.request.now) (g.S.Source.held c.args.source.now) c.ended.result c.run_pack.result (ap is_other c.in-Pack.is) c.ended.ensures

pub returns-in-Unpack-clause-ended : goal.returns-in-Unpack-clause-ended
returns-in-Unpack-clause-ended g c = other_ends (asked_of c.args.request.now) (g.S.Source.held c.args.source.now) c.ended-in-Unpack.result c.run_unpack.result (ap is_other c.in-Unpack.is) c.ended-in-Unpack.ensures

pub returns-in-List-clause-ended : goal.returns-in-List-clause-ended
returns-in-List-clause-ended g c = other_ends (asked_of c.args.request.now) (g.S.Source.held c.args.source.now) c.ended-in-List.result c.run_list.result (ap is_other c.in-List.is) c.ended-in-List.ensures

pub returns-in-Cut-clause-ended : goal.returns-in-Cut-clause-ended
returns-in-Cut-clause-ended g c = other_ends (asked_of c.args.request.now) (g.S.Source.held c.args.source.now) c.ended-in-Cut.result c.run_cut.result (ap is_other c.in-Cut.is) c.ended-in-Cut.ensures

pub returns-in-Drill-clause-ended : goal.returns-in-Drill-clause-ended
returns-in-Drill-clause-ended g c = other_ends (asked_of c.args.request.now) (g.S.Source.held c.args.source.now) c.ended-in-Drill.result c.run_drill.result (ap is_other c.in-Drill.is) c.ended-in-Drill.ensures

pub returns-in-Retile-clause-promised : goal.returns-in-Retile-clause-promised
returns-in-Retile-clause-promised g c = ran (asked_of c.args.request.now) _ _ c.ended-in-Retile.result c.run_retile.result c.ended-in-Retile.ensures (c.run_retile.ensures.promised (record { contents = g.T.Text.contents c.args.text.now; tally = g.T.Text.tally c.args.text.now }))

pub returns-in-Retile-clause-names : goal.returns-in-Retile-clause-names
returns-in-Retile-clause-names g c = names.ran (asked_of c.args.request.now) _ _ _ _ c.ended-in-Retile.result c.run_retile.result c.ended-in-Retile.ensures c.run_retile.ensures.names

pub returns-in-Retile-clause-ended : goal.returns-in-Retile-clause-ended
returns-in-Retile-clause-ended g c = other_ends (asked_of c.args.request.now) (g.S.Source.held c.args.source.now) c.ended-in-Retile.result c.run_retile.result (ap is_other c.in-Retile.is) c.ended-in-Retile.ensures
