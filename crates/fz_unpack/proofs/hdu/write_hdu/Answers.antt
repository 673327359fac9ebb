-- A packed image is written, and every other HDU is copied.
use Rattle.std.proofs.Common.{ℕ, ◌+◌, ◌^◌, ◌<◌, ◌≤◌, List, Option, IfSome, arith}
use Rattle.std.proofs.lemmas.Result.{IfOk-weaker}
use Rattle.fz_job.specs.Behind.{HoldsCopy}
use Rattle.fz_unpack.specs.Behind.{EndsNear, HoldsHdu, HoldsImage}
use Rattle.fz_unpack.proofs.HduReads.{copy_read, rows_read}
use Rattle.fz_unpack.proofs.Images.{holds_copy, holds_image, with_image}
use Rattle.fz_unpack.proofs.hdu.write_hdu.Goals as goal

pub returns-in-Some-clause-written : goal.returns-in-Some-clause-written
returns-in-Some-clause-written g c =
    let held : Option (List ℕ) = g.S.Source.held c.args.source.now in
    let a = c.args.again.now in
    let at = c.args.at in
    let before : Option (List ℕ) = g.K.Sink.contents c.args.sink.now in
    let now : Option (List ℕ) = g.K.Sink.contents c.write_image.new.sink in
    IfOk-weaker c.write_image.result
    (λ end. IfSome held (λ file. HoldsImage a.header file at end before now))
    (λ end. IfSome held (λ file. HoldsHdu a.header file at end before now))
    (λ end put. holds_image held c.requires.again.0 c.args.space.now.header a c.requires.again.3 c.in-Some.image c.in-Some.is at end before now put)
    c.write_image.ensures.image

pub returns-in-Some-clause-end : goal.returns-in-Some-clause-end
returns-in-Some-clause-end g c =
    let h = c.args.again.now.header in
    let at = c.args.at in
    IfOk-weaker c.write_image.result (λ end. (at < end) × (end ≤ at + 2 ^ 45)) (EndsNear h at)
    (λ end ends. record { some = ends.0; near = omega (arith, ends.1) })
    c.write_image.ensures.end

pub returns-in-None-clause-written : goal.returns-in-None-clause-written
returns-in-None-clause-written g c =
    let held : Option (List ℕ) = g.S.Source.held c.args.source.now in
    let a = c.args.again.now in
    let at = c.args.at in
    let before : Option (List ℕ) = g.K.Sink.contents c.args.sink.now in
    let now : Option (List ℕ) = g.K.Sink.contents c.copy_hdu.new.sink in
    IfOk-weaker c.copy_hdu.result
    (λ end. IfSome held (λ file. HoldsCopy a.header file at end before now))
    (λ end. IfSome held (λ file. HoldsHdu a.header file at end before now))
    (λ end put. holds_copy held c.requires.again.0 c.args.space.now.header a c.requires.again.3 c.in-None.is at end before now put)
    c.copy_hdu.ensures.copied

pub returns-in-Some-clause-read : goal.returns-in-Some-clause-read
returns-in-Some-clause-read g c =
    let held : Option (List ℕ) = g.S.Source.held c.args.source.now in
    let a = c.args.again.now in
    let n : ℕ = c.requires.again.0 in
    let buf : List ℕ = c.args.space.now.header in
    rows_read c.hdus_law.ensures.unpacked held n buf a.header c.in-Some.image (with_image held n buf a c.requires.again.3 c.in-Some.image c.in-Some.is) (g.S.Source.ranges c.args.source.now) (g.S.Source.ranges c.write_image.new.source)
    c.write_image.ensures.read

pub returns-in-None-clause-read : goal.returns-in-None-clause-read
returns-in-None-clause-read g c =
    copy_read c.hdus_law.ensures.unpacked (g.S.Source.held c.args.source.now) c.requires.again.0 c.args.space.now.header c.args.again.now c.requires.again.3 c.in-None.is (g.S.Source.ranges c.args.source.now) (g.S.Source.ranges c.copy_hdu.new.source)
    c.copy_hdu.ensures.log
