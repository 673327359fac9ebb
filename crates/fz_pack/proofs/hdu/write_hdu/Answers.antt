-- An image becomes its table, after an empty primary where it was one, and every other HDU is copied.
use Rattle.std.proofs.Common.{ℕ, ◌+◌, ◌^◌, ◌<◌, ◌≤◌, List, Option, IfSome, arith}
use Rattle.std.proofs.lemmas.Result.{IfOk-weaker}
use Rattle.fz_block.specs.Header.{data_start_of, next_start_of}
use Rattle.fz_image.specs.Image.{HoldsTable}
use Rattle.fz_job.specs.Behind.{HoldsCopy}
use Rattle.fz_pack.specs.Behind.{EndsNear, HoldsHdu}
use Rattle.fz_pack.proofs.Hdus.{behind_first, holds_copy, holds_table, primary_first, primary_only}
use Rattle.fz_pack.proofs.hdu.write_hdu.Goals as goal

pub write_before-requires-clause-first : goal.write_before-requires-clause-first
write_before-requires-clause-first g c = λ primary.
    c.requires.first.0
    (primary_first c.args.asked.now.options (g.S.Source.held c.args.source.now) c.requires.again.0 c.args.space.now.header c.args.again.now c.requires.again.2 c.in-Some.plan c.in-Some.is primary)

pub write_table-requires-clause-at : goal.write_table-requires-clause-at
write_table-requires-clause-at g c κs within =
    let later = primary_only c.args.asked.now.options (g.S.Source.held c.args.source.now) c.requires.again.0 c.args.space.now.header c.args.again.now c.requires.again.2 c.in-Some.plan c.in-Some.is in
    let short = c.in_ok-at-in-Some.ensures.short in
    (behind_first c.in-Some.plan.primary c.args.again.now.header.hdu c.args.at c.in_ok-at-in-Some.at short.2 later c.requires.first.1 short.0, omega (arith, short.1, c.requires.near))

pub returns-in_ok-at-in-Some-clause-written : goal.returns-in_ok-at-in-Some-clause-written
returns-in_ok-at-in-Some-clause-written g c =
    let o = c.args.asked.now.options in
    let held : Option (List ℕ) = g.S.Source.held c.args.source.now in
    let a = c.args.again.now in
    let p = c.in-Some.plan in
    let at = c.args.at in
    let mid = c.in_ok-at-in-Some.at in
    let before : Option (List ℕ) = g.K.Sink.contents c.args.sink.now in
    let between : Option (List ℕ) = g.K.Sink.contents c.write_before.new.sink in
    let now : Option (List ℕ) = g.K.Sink.contents c.write_table.new.sink in
    let later = primary_only o held c.requires.again.0 c.args.space.now.header a c.requires.again.2 p c.in-Some.is in
    let short = c.in_ok-at-in-Some.ensures.short in
    let some : 0 < mid = behind_first p.primary a.header.hdu at mid short.2 later c.requires.first.1 short.0 in
    IfOk-weaker c.write_table.result
    (λ end. IfSome held (λ file. HoldsTable o.sums p a.header file mid end between now))
    (λ end. IfSome held (λ file. HoldsHdu o a.header file at end before now))
    (λ end put. holds_table o held c.requires.again.0 c.args.space.now.header a c.requires.again.2 p c.in-Some.is c.output_law.ensures.next at mid end before between now some c.in_ok-at-in-Some.ensures.written put)
    c.write_table.ensures.table

pub returns-in_ok-at-in-Some-clause-end : goal.returns-in_ok-at-in-Some-clause-end
returns-in_ok-at-in-Some-clause-end g c =
    let h = c.args.again.now.header in
    let mid = c.in_ok-at-in-Some.at in
    let later = primary_only c.args.asked.now.options (g.S.Source.held c.args.source.now) c.requires.again.0 c.args.space.now.header c.args.again.now c.requires.again.2 c.in-Some.plan c.in-Some.is in
    let short = c.in_ok-at-in-Some.ensures.short in
    let some : 0 < mid = behind_first c.in-Some.plan.primary h.hdu c.args.at mid short.2 later c.requires.first.1 short.0 in
    IfOk-weaker c.write_table.result (λ end. (mid ≤ end) × (end ≤ mid + 2 ^ 45)) (EndsNear h c.args.at)
    (λ end ends. record { some = omega (arith, some, ends.0); near = omega (arith, short.1, ends.1) })
    c.write_table.ensures.end

pub returns-in-None-clause-written : goal.returns-in-None-clause-written
returns-in-None-clause-written g c =
    let o = c.args.asked.now.options in
    let held : Option (List ℕ) = g.S.Source.held c.args.source.now in
    let a = c.args.again.now in
    let at = c.args.at in
    let before : Option (List ℕ) = g.K.Sink.contents c.args.sink.now in
    let now : Option (List ℕ) = g.K.Sink.contents c.copy_hdu.new.sink in
    IfOk-weaker c.copy_hdu.result
    (λ end. IfSome held (λ file. HoldsCopy a.header file at end before now))
    (λ end. IfSome held (λ file. HoldsHdu o a.header file at end before now))
    (λ end put. holds_copy o held c.requires.again.0 c.args.space.now.header a c.requires.again.2 c.in-None.is at end before now put)
    c.copy_hdu.ensures.copied

pub returns-in_err-at-in-Some-clause-log : goal.returns-in_err-at-in-Some-clause-log
returns-in_err-at-in-Some-clause-log g c = c.log_law.ensures.none (data_start_of c.args.again.now.header) (next_start_of c.args.again.now.header) (g.S.Source.ranges c.args.source.now)
