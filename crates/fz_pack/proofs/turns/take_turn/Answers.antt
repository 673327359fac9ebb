-- The tiles of the one half are written after the others; those of the other are the next ones.
use Rattle.std.proofs.Common.{◌+◌, ◌≤◌, arith, rules}
use Rattle.fz_pool.specs.Round.{coded_tiles}
use Rattle.fz_image.specs.Held.{heap_caught_up}
use Rattle.fz_pack.specs.Turns.{Ends, ends_at}
use Rattle.fz_pack.proofs.Progresses.{more_written}
use Rattle.fz_pack.proofs.Turning.{can_move}
use Rattle.fz_pack.proofs.turns.take_turn.Goals as goal

pub encode_and_move-requires-clause-can_move : goal.encode_and_move-requires-clause-can_move
encode_and_move-requires-clause-can_move g c κs within =
    let e : Ends = ends_at (g.S.Source.held c.args.source.now) (g.S.Source.attached c.args.source.now) (g.S.Source.ranges c.args.source.now) (g.S.Source.tally c.args.source.now)
    (g.K.Sink.created c.args.sink.now) (g.K.Sink.contents c.args.sink.now) (g.K.Sink.tally c.args.sink.now) in
    can_move c.args.writing.now.layout e c.args.underway.now c.requires.so_far.0 c.args.turn.now.coded c.args.turn.now.loaded c.min-more.result c.args.first.now c.args.second.now c.args.rows.now c.args.held.now
    c.requires.can.layout c.requires.can.pixels c.requires.can.created_is c.requires.rooms c.requires.rows (omega (arith, c.workers.ensures.some, c.workers.ensures.value)) c.requires.held c.requires.so_far.1 c.requires.ready
    (omega (arith, c.min-more.ensures, c.workers.ensures.value)) (omega (arith, c.min-more.ensures, c.requires.ready.within))

pub encode_and_move-requires-clause-first : goal.encode_and_move-requires-clause-first
encode_and_move-requires-clause-first g c κs within = (c.requires.rooms.0, c.requires.rooms.1, c.requires.rooms.3)

pub returns-clause-more : goal.returns-clause-more
returns-clause-more g c = λ before was.
    let l = c.args.writing.now.layout in
    let w = c.args.underway.now.progress in
    let new = c.encode_and_move.new in
    let e = c.requires.ready.has_coded in
    let moved = c.in_ok-encode_and_move.ensures.moved in
    let es = coded_tiles c.args.turn.now.coded c.args.second.now.slots in
    let few : w.tiles + c.args.turn.now.coded ≤ l.tiles = omega (arith, c.requires.ready.within) in
    more_written l (g.S.Source.held c.args.source.now) before (heap_caught_up l w c.args.underway.now.held_back c.args.held.now (g.K.Sink.contents c.args.sink.now))
    (heap_caught_up l new.underway.progress new.underway.held_back new.held (g.K.Sink.contents new.sink)) w new.underway.progress es c.args.turn.now.coded
    c.sum_law.ensures.joined c.output_law.ensures.next c.output_law.ensures.apart c.requires.can.layout e.each e.number few e.told moved.progress moved.contents was

-- ---- what stays

pub returns-in_err-encode_and_move-clause-stays : goal.returns-in_err-encode_and_move-clause-stays
returns-in_err-encode_and_move-clause-stays g c =
    let moved = c.in_err-encode_and_move.ensures.moved in
    let ends = moved.ends in (
      record {
        source = record { held_is = ends.held_is; attached_is = ends.attached_is; told = ends.told_ranges };
        sink = record { created_is = ends.created_is; shut = ends.shut; told = ends.told_contents };
        log = moved.log;
        cause = search rules;
      },
      search rules,
      search rules,
      search rules,
    )

pub returns-clause-stays : goal.returns-clause-stays
returns-clause-stays g c =
    let moved = c.in_ok-encode_and_move.ensures.moved in
    let ends = moved.ends in (
      record {
        source = record { held_is = ends.held_is; attached_is = ends.attached_is; told = ends.told_ranges };
        sink = record { created_is = ends.created_is; shut = ends.shut; told = ends.told_contents };
        log = moved.log;
        cause = search rules;
      },
      search rules,
      search rules,
      search rules,
    )
