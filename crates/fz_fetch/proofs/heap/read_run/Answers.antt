-- The bytes are after the rows.
use borrow.Rule.Slice.PartMut.{put_mid}
use Rattle.std.proofs.Common.{◌≡◌, ℕ, ◌+◌, ◌-◌, ◌≤◌, List, Option, length, take, drop, sym, ap, ◌∙◌, subst, arith, rules}
use Rattle.std.proofs.lemmas.List.{length-append, length-drop, length-take}
use Rattle.std.proofs.lemmas.Slice.{between-put_mid, take-put_mid_below}
use Rattle.fz_base.specs.Source.{MayLog, Reads}
use Rattle.fz_fetch.specs.Ahead.{IsAhead}
use Rattle.fz_fetch.proofs.ReadAhead.{heap_found, heap_lost}
use Rattle.fz_fetch.proofs.Records.{may_log}
use Rattle.fz_fetch.proofs.heap.read_run.Goals as goal

-- so many bytes are lent for the read
part_long : (count : ℕ) (old : List ℕ) → 4096 + count ≤ length old → length (take (4096 + count - 4096) (drop 4096 old)) ≡ count
part_long count old room = omega (arith, room, length-take {A = ℕ}, length-drop {A = ℕ})

-- the buffer keeps its length
put_long : (count : ℕ) (old ys : List ℕ) → 4096 + count ≤ length old → length ys ≡ count → length (put_mid 4096 (4096 + count - 4096) old ys) ≡ length old
put_long count old ys room size = simp (length-append, length-take, length-drop) (omega (arith, size, room))

pub returns-clause-ahead : goal.returns-clause-ahead
returns-clause-ahead g c = λ table is.
    let held : Option (List ℕ) = g.S.Source.held c.args.source.now in
    let old : List ℕ = c.args.buf.now in
    let ys : List ℕ = c.read_at.new.into in
    let count : ℕ = c.args.count in
    let some : 4096 ≤ length old = omega (arith, c.requires.room) in
    let size : length ys ≡ count = c.read_at.auto.into ∙ part_long count old c.requires.room in
    let now : List ℕ = put_mid 4096 (4096 + count - 4096) old ys in
    let long : length now ≡ length old = put_long count old ys c.requires.room size in
    let read : Reads held c.args.at ys = search rules in
    let same : g.S.Source.held c.read_at.new.self ≡ held = search rules in
    let front : take 4096 now ≡ take 4096 old = take-put_mid_below 4096 (4096 + count - 4096) old ys 4096 (omega arith) some in
    let end : 4096 + count - 4096 ≡ count = omega arith in
    let there : take count (drop 4096 now) ≡ ys =
    ap (λ (k : ℕ). take k (drop 4096 now)) (sym end) ∙ between-put_mid 4096 (4096 + count - 4096) old ys (4096 + count) some (omega (arith, size, end)) in
    subst (λ (h : Option (List ℕ)). IsAhead h table now (record c.args.ahead.now { at = c.args.at; len = count })) (sym same)
    (heap_found held table old now c.args.ahead.now c.args.at count ys is front (omega (arith, long, c.requires.room)) c.requires.near read size there)

pub returns-in_err-map_err-clause-ahead : goal.returns-in_err-map_err-clause-ahead
returns-in_err-map_err-clause-ahead g c = λ table is.
    let held : Option (List ℕ) = g.S.Source.held c.args.source.now in
    let old : List ℕ = c.args.buf.now in
    let ys : List ℕ = c.read_at.new.into in
    let count : ℕ = c.args.count in
    let some : 4096 ≤ length old = omega (arith, c.requires.room) in
    let size : length ys ≡ count = c.read_at.auto.into ∙ part_long count old c.requires.room in
    let now : List ℕ = put_mid 4096 (4096 + count - 4096) old ys in
    let same : g.S.Source.held c.read_at.new.self ≡ held = search rules in
    let front : take 4096 now ≡ take 4096 old = take-put_mid_below 4096 (4096 + count - 4096) old ys 4096 (omega arith) some in
    subst (λ (h : Option (List ℕ)). IsAhead h table now (record c.args.ahead.now { len = 0 })) (sym same)
    (heap_lost held table old now c.args.ahead.now is front (put_long count old ys c.requires.room size))

pub returns-clause-read : goal.returns-clause-read
returns-clause-read g c =
    let old : Option (List (ℕ × ℕ)) = g.S.Source.ranges c.args.source.now in
    let new : Option (List (ℕ × ℕ)) = g.S.Source.ranges c.read_at.new.self in
    subst (λ (n : ℕ). MayLog c.args.at n old new) (part_long c.args.count c.args.buf.now c.requires.room)
    (may_log c.read_at.result c.args.at _ old new c.read_at.ensures.logged c.read_at.ensures.log_err)

pub returns-in_err-map_err-clause-read : goal.returns-in_err-map_err-clause-read
returns-in_err-map_err-clause-read g c =
    let old : Option (List (ℕ × ℕ)) = g.S.Source.ranges c.args.source.now in
    let new : Option (List (ℕ × ℕ)) = g.S.Source.ranges c.read_at.new.self in
    subst (λ (n : ℕ). MayLog c.args.at n old new) (part_long c.args.count c.args.buf.now c.requires.room)
    (may_log c.read_at.result c.args.at _ old new c.read_at.ensures.logged c.read_at.ensures.log_err)
