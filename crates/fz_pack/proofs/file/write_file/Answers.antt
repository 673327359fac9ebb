-- The sink is made, the HDUs are written after byte 0, and then byte 0.
use Rattle.std.proofs.Common.{◌≡◌, ℕ, List, Option, sym, subst, rules}
use Rattle.fz_base.specs.FirstByte.{IsShut}
use Rattle.fz_base.specs.Sink.{emptied}
use Rattle.fz_pack.proofs.HduReads.{no_hdu}
use Rattle.fz_pack.proofs.Sealing.{sealed_finishes, sealed_or_shut}
use Rattle.fz_pack.proofs.file.write_file.Goals as goal

pub returns-clause-written : goal.returns-clause-written
returns-clause-written g c =
    let old : Option (List ℕ) = g.K.Sink.contents c.args.sink.now in
    let made : Option (List ℕ) = g.K.Sink.contents c.create.new.self in
    let empty : made ≡ emptied old = search rules in
    sealed_finishes c.args.asked.now.options c.args.survey.now old made (g.K.Sink.contents c.write_hdus.new.sink) (g.K.Sink.contents c.seal.new.sink) c.in_ok-write_hdus.field-0 c.seal.result
    (g.K.Sink.tally c.write_hdus.new.sink) (g.K.Sink.tally c.seal.new.sink) (g.S.Source.held c.args.source.now)
    c.output_law.ensures.sealed c.requires.some empty c.in_ok-write_hdus.ensures.written c.seal.ensures.sealed c.seal.ensures.cause.stop

pub returns-clause-shut : goal.returns-clause-shut
returns-clause-shut g c =
    let old : Option (List ℕ) = g.K.Sink.contents c.args.sink.now in
    let made : Option (List ℕ) = g.K.Sink.contents c.create.new.self in
    let empty : made ≡ emptied old = search rules in
    let shut : IsShut (g.K.Sink.contents c.write_hdus.new.sink) = c.in_ok-write_hdus.ensures.stays.1.shut (subst IsShut (sym empty) (c.output_law.ensures.empty old)) in
    sealed_or_shut c.args.asked.now.options c.args.survey.now old made (g.K.Sink.contents c.write_hdus.new.sink) (g.K.Sink.contents c.seal.new.sink) c.in_ok-write_hdus.field-0 c.seal.result
    (g.K.Sink.tally c.write_hdus.new.sink) (g.K.Sink.tally c.seal.new.sink) (g.S.Source.held c.args.source.now)
    c.output_law.ensures.sealed c.requires.some empty shut c.in_ok-write_hdus.ensures.written c.seal.ensures.cause.stop c.seal.ensures.stopped

pub returns-in_err-map_err-clause-read : goal.returns-in_err-map_err-clause-read
returns-in_err-map_err-clause-read g c = no_hdu c.args.asked.now.options c.args.survey.now (g.S.Source.ranges c.args.source.now) (g.S.Source.held c.args.source.now)
