-- The rows of a packed image are sound, or one is refused; an HDU that is not packed has none.
use Rattle.std.proofs.Common.{◌≡◌, ℕ, ◌*◌, List, [], ◌∷◌, take, Option, Some, IfSome, Result, Err, sym, subst, rules, arith}
use Rattle.fz_base.specs.Stop.{IfRefused}
use Rattle.fz_base.specs.declared.failure.Stop.{Stop}
use Rattle.fz_files.specs.FirstFault.{IsFirstRowFault, all_rows}
use Rattle.fz_files.specs.Touched.{data_touched}
use Rattle.fz_files.specs.declared.job.Job.TheVariants.{Unpack}
use Rattle.fz_look.specs.Looked.{IsImageCounted}
use Rattle.fz_look.specs.declared.hdus.Counted.{Counted}
use Rattle.fz_look.proofs.Counted.{copied_looked, packed_looked}
use Rattle.fz_look.proofs.HduReads.{rows_read, unread}
use Rattle.fz_look.proofs.Outcomes.{stop_weaker}
use Rattle.fz_look.proofs.Said.{rows_faulty, said_there, usable_of}
use Rattle.fz_look.proofs.hdus.look_at_hdu.Goals as goal

pub decode_tiles-requires-clause-said : goal.decode_tiles-requires-clause-said
decode_tiles-requires-clause-said g c κs within =
    said_there (g.S.Source.held c.args.source.now) c.requires.again.0 c.args.space.now.header c.args.again.now c.requires.again.3 c.in-Some.image c.in-Some.is

pub count_image-requires-clause-plan : goal.count_image-requires-clause-plan
count_image-requires-clause-plan g c =
    let usable = usable_of (g.S.Source.held c.args.source.now) c.requires.again.0 c.args.space.now.header c.args.again.now c.requires.again.3 c.in-Some.image c.in-Some.is in
    rw (sym c.as_slice-buf.ensures) at usable.said.planned

pub returns-in_ok-decode_tiles-in-Some-clause-counted : goal.returns-in_ok-decode_tiles-in-Some-clause-counted
returns-in_ok-decode_tiles-in-Some-clause-counted g c =
    let held : Option (List ℕ) = g.S.Source.held c.args.source.now in
    let a = c.args.again.now in
    let counted : IsImageCounted (take (2880 * a.header.blocks) c.args.space.now.header) c.in-Some.image.plan c.count_image.result =
    subst (λ (l : List ℕ). IsImageCounted (take (2880 * a.header.blocks) l) c.in-Some.image.plan c.count_image.result) c.as_slice-buf.ensures c.count_image.ensures.counted in
    packed_looked c.plain_law.ensures.len c.tiles_law.ensures.whole held c.requires.again.0 c.args.space.now.header a c.requires.again.3 c.in-Some.image c.in-Some.is c.count_image.result counted c.in_ok-decode_tiles-in-Some.ensures.sound

pub returns-in_ok-decode_tiles-in-Some-clause-read : goal.returns-in_ok-decode_tiles-in-Some-clause-read
returns-in_ok-decode_tiles-in-Some-clause-read g c =
    rows_read c.hdus_law.ensures.unpacked (g.S.Source.held c.args.source.now) c.requires.again.0 c.args.space.now.header c.args.again.now c.requires.again.3 c.in-Some.image c.in-Some.is
    (g.S.Source.ranges c.args.source.now) (g.S.Source.ranges c.decode_tiles.new.source) c.in_ok-decode_tiles-in-Some.ensures.read

pub returns-in_err-decode_tiles-in-Some-clause-fault : goal.returns-in_err-decode_tiles-in-Some-clause-fault
returns-in_err-decode_tiles-in-Some-clause-fault g c =
    let held : Option (List ℕ) = g.S.Source.held c.args.source.now in
    let h = c.args.again.now.header in
    let stop : Stop = c.in_err-decode_tiles-in-Some.field-0.0 in
    let stopped : c.from_residual.result ≡ Err stop = search rules in
    subst (λ (r : Result Counted Stop). IfRefused r (λ x. IfSome held (λ file. IsFirstRowFault file (all_rows file (h ∷ [])) (Some x)))) (sym stopped)
    (stop_weaker (Unit {0}) Counted stop
    (λ x rows. rows_faulty held c.requires.again.0 c.args.space.now.header c.args.again.now c.requires.again.3 c.in-Some.image c.in-Some.is x rows) c.in_err-decode_tiles-in-Some.ensures.fault)

pub returns-in_err-decode_tiles-in-Some-clause-read : goal.returns-in_err-decode_tiles-in-Some-clause-read
returns-in_err-decode_tiles-in-Some-clause-read g c =
    rows_read c.hdus_law.ensures.unpacked (g.S.Source.held c.args.source.now) c.requires.again.0 c.args.space.now.header c.args.again.now c.requires.again.3 c.in-Some.image c.in-Some.is
    (g.S.Source.ranges c.args.source.now) (g.S.Source.ranges c.decode_tiles.new.source) c.in_err-decode_tiles-in-Some.ensures.read

pub returns-in-None-clause-counted : goal.returns-in-None-clause-counted
returns-in-None-clause-counted g c =
    let told = g.met.S.Source.agrees c.args.source.now c.requires.again.0 c.requires.again.2 in
    copied_looked (g.S.Source.held c.args.source.now) c.requires.again.0 c.args.space.now.header c.args.again.now c.requires.again.3 told c.in-None.is _ (omega (arith, c.next_start.ensures))

pub returns-in-None-clause-read : goal.returns-in-None-clause-read
returns-in-None-clause-read g c = unread (g.S.Source.held c.args.source.now) (λ file. data_touched Unpack file c.args.again.now.header) (g.S.Source.ranges c.args.source.now)
