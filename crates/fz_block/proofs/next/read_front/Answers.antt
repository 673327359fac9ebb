-- Nothing is read if the header has one block.
use Rattle.std.proofs.Common.{◌≡◌, ℕ, ◌+◌, ◌-◌, ◌<◌, List, Option, length, take, sym, subst, ◌∙◌, rules, arith}
use Rattle.std.proofs.lemmas.List.{length-take-le}
use Rattle.std.proofs.lemmas.Slice.{take-put_mid}
use Rattle.fz_base.specs.Source.{MayLog, Reads}
use Rattle.fz_block.proofs.Kept.{none_read}
use Rattle.fz_block.proofs.next.read_front.Goals as goal

-- so many bytes are read
front_long : (buf : List ℕ) → length (take (length buf - 2880) buf) ≡ length buf - 2880
front_long buf = length-take-le (length buf - 2880) buf (omega arith)

pub returns-then-before-eq0-clause-read : goal.returns-then-before-eq0-clause-read
returns-then-before-eq0-clause-read g c =
    let none : length c.args.buf.now - 2880 ≡ 0 = c.if-before-eq0.true in
    none_read (g.S.Source.held c.args.source.now) c.args.start (length c.args.buf.now - 2880) c.args.buf.now none

pub returns-then-before-eq0-clause-log : goal.returns-then-before-eq0-clause-log
returns-then-before-eq0-clause-log g c = c.log_law.ensures.none c.args.start (c.args.start + length c.args.buf.now) (g.S.Source.ranges c.args.source.now)

pub returns-clause-read : goal.returns-clause-read
returns-clause-read g c =
    let held : Option (List ℕ) = g.S.Source.held c.args.source.now in
    let old : List ℕ = c.args.buf.now in
    let ys : List ℕ = c.read_at.new.into in
    let size : length ys ≡ length old - 2880 = c.read_at.auto.into ∙ front_long old in
    let read : Reads held c.args.start ys = search rules in
    subst (Reads held c.args.start) (sym (take-put_mid 0 _ old ys (length old - 2880) (omega (arith, size)) (omega arith))) read

pub returns-in_err-read_at-clause-log : goal.returns-in_err-read_at-clause-log
returns-in_err-read_at-clause-log g c =
    let old : List ℕ = c.args.buf.now in
    let part : ℕ = length (take (length old - 2880) old) in
    let size : part ≡ length old - 2880 = front_long old in
    let some : 0 < length old - 2880 = omega (arith, c.if-before-eq0.false) in
    let may : MayLog c.args.start part (g.S.Source.ranges c.args.source.now) (g.S.Source.ranges c.read_at.new.self) = search rules in
    c.log_law.ensures.one c.args.start (c.args.start + length old) c.args.start part (g.S.Source.ranges c.args.source.now) (g.S.Source.ranges c.read_at.new.self)
    (omega (arith, size, some)) (omega arith) (omega (arith, size)) may

pub returns-clause-log : goal.returns-clause-log
returns-clause-log g c =
    let old : List ℕ = c.args.buf.now in
    let part : ℕ = length (take (length old - 2880) old) in
    let size : part ≡ length old - 2880 = front_long old in
    let some : 0 < length old - 2880 = omega (arith, c.if-before-eq0.false) in
    let may : MayLog c.args.start part (g.S.Source.ranges c.args.source.now) (g.S.Source.ranges c.read_at.new.self) = search rules in
    c.log_law.ensures.one c.args.start (c.args.start + length old) c.args.start part (g.S.Source.ranges c.args.source.now) (g.S.Source.ranges c.read_at.new.self)
    (omega (arith, size, some)) (omega arith) (omega (arith, size)) may
