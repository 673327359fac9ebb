-- The rows of a packed image are sound, or one is refused; an HDU that is not packed has none.
use Rattle.std.proofs.lemmas.Result.{on_ok_weaker}
use Rattle.fz_verify.proofs.Checks.{rows_faulty, rows_none, rows_sound, said_there}
use Rattle.fz_files.specs.Touched.{data_touched}
use Rattle.fz_files.specs.declared.job.Job.TheVariants.{Verify}
use Rattle.fz_verify.proofs.HduReads.{rows_read}
use Rattle.fz_verify.proofs.HeaderReads.{unread}
use Rattle.fz_verify.proofs.Outcomes.{refused_weaker}
use Rattle.fz_verify.proofs.hdu.decode_hdu.Goals as goal

pub decode_tiles-requires-clause-said : goal.decode_tiles-requires-clause-said
decode_tiles-requires-clause-said g c κs within =
    said_there (g.S.Source.held c.args.source.now) c.requires.again.0 c.requires.again.3.0 c.args.again.now c.requires.again.3.1 c.in-Some.image c.in-Some.is

pub returns-in-Some-clause-sound : goal.returns-in-Some-clause-sound
returns-in-Some-clause-sound g c =
    on_ok_weaker c.decode_tiles.result
    (λ rows. rows_sound (g.S.Source.held c.args.source.now) c.requires.again.0 c.requires.again.3.0 c.args.again.now c.requires.again.3.1 c.in-Some.image c.in-Some.is rows)
    c.decode_tiles.ensures.sound

pub returns-in-Some-clause-fault : goal.returns-in-Some-clause-fault
returns-in-Some-clause-fault g c =
    refused_weaker c.decode_tiles.result
    (λ x rows. rows_faulty (g.S.Source.held c.args.source.now) c.requires.again.0 c.requires.again.3.0 c.args.again.now c.requires.again.3.1 c.in-Some.image c.in-Some.is x rows)
    c.decode_tiles.ensures.fault

pub returns-in-None-clause-sound : goal.returns-in-None-clause-sound
returns-in-None-clause-sound g c =
    rows_none (g.S.Source.held c.args.source.now) c.requires.again.0 c.requires.again.3.0 c.args.again.now c.requires.again.3.1 c.in-None.is

pub returns-in-Some-clause-read : goal.returns-in-Some-clause-read
returns-in-Some-clause-read g c =
    rows_read c.hdus_law.ensures.verified (g.S.Source.held c.args.source.now) c.requires.again.0 c.requires.again.3.0 c.args.again.now c.requires.again.3.1 c.in-Some.image c.in-Some.is
    (g.S.Source.ranges c.args.source.now) (g.S.Source.ranges c.decode_tiles.new.source) c.decode_tiles.ensures.read

pub returns-in-None-clause-read : goal.returns-in-None-clause-read
returns-in-None-clause-read g c = unread (g.S.Source.held c.args.source.now) (λ file. data_touched Verify file c.args.again.now.header) (g.S.Source.ranges c.args.source.now)

pub returns-then-decoded-clause-sound : goal.returns-then-decoded-clause-sound
returns-then-decoded-clause-sound g c = c.requires.sound c.if-decoded.true

pub returns-then-decoded-clause-read : goal.returns-then-decoded-clause-read
returns-then-decoded-clause-read g c = unread (g.S.Source.held c.args.source.now) (λ file. data_touched Verify file c.args.again.now.header) (g.S.Source.ranges c.args.source.now)
