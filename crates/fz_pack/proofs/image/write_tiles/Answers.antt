-- What was held back is written, and with it the table of all tiles.
use Rattle.std.proofs.Common.{◌≡◌, ◌+◌, ℕ, List, Option, sym, ap, ◌∙◌, subst, arith, rules}
use Rattle.fz_job.specs.Held.{caught_up}
use Rattle.fz_image.specs.Held.{heap_caught_up}
use Rattle.fz_image.specs.Progress.{IsWritten}
use Rattle.fz_pack.proofs.WholeTables.{data_small}
use Rattle.fz_pack.proofs.image.write_tiles.Goals as goal

pub overflow_add-heap_at : goal.overflow_add-heap_at
overflow_add-heap_at g c =
    let l = c.args.writing.now.layout in
    let w = c.in_ok-underway.underway.progress in
    let small = data_small l (g.S.Source.held c.args.source.now) (g.K.Sink.contents c.args.sink.now) (heap_caught_up l w c.in_ok-underway.underway.held_back c.write_rounds.new.held (g.K.Sink.contents c.write_rounds.new.sink)) w c.requires.can.layout c.in_ok-underway.ensures.written.0 in
    record { fits = omega (arith, small, c.heap_at.ensures, c.requires.can.layout.near) }

pub write_held-requires-clause-within : goal.write_held-requires-clause-within
write_held-requires-clause-within g c = c.in_ok-underway.ensures.last.0

pub write_held-requires-clause-behind : goal.write_held-requires-clause-behind
write_held-requires-clause-behind g c = omega (arith, c.in_ok-underway.ensures.last.1, c.heap_at.ensures, c.requires.can.layout.behind)

pub returns-clause-written : goal.returns-clause-written
returns-clause-written g c =
    let l = c.args.writing.now.layout in
    let w = c.in_ok-underway.underway.progress in
    let all : g.K.Sink.contents c.write_held.new.sink ≡ heap_caught_up l w c.in_ok-underway.underway.held_back c.write_rounds.new.held (g.K.Sink.contents c.write_rounds.new.sink) =
    c.in_ok-write_held.ensures.written ∙ ap (λ n. caught_up (n + w.heap) c.in_ok-underway.underway.held_back c.write_rounds.new.held (g.K.Sink.contents c.write_rounds.new.sink)) c.heap_at.ensures in
    (subst (λ (k : Option (List ℕ)). IsWritten l (g.S.Source.held c.args.source.now) (g.K.Sink.contents c.args.sink.now) k w) (sym all) c.in_ok-underway.ensures.written.0, c.in_ok-underway.ensures.written.1)

-- ---- what stays

pub returns-in_err-underway-clause-stays : goal.returns-in_err-underway-clause-stays
returns-in_err-underway-clause-stays g c =
    let stays = c.in_err-underway.ensures.stays.1 in
    (search rules, record { source = stays.source; sink = stays.sink; log = stays.log; cause = search rules }, search rules)

pub returns-in_err-write_held-clause-stays : goal.returns-in_err-write_held-clause-stays
returns-in_err-write_held-clause-stays g c =
    let stays = c.in_ok-underway.ensures.stays.1 in
    let put = c.in_err-write_held.ensures.sink in (
      search rules,
      record {
        source = stays.source;
        sink = record {
          created_is = put.created_is ∙ stays.sink.created_is;
          shut = λ shut. put.shut (stays.sink.shut shut);
          told = λ told. put.told (stays.sink.told told);
        };
        log = stays.log;
        cause = search rules;
      },
      search rules,
    )

pub returns-clause-stays : goal.returns-clause-stays
returns-clause-stays g c =
    let stays = c.in_ok-underway.ensures.stays.1 in
    let put = c.in_ok-write_held.ensures.sink in (
      search rules,
      record {
        source = stays.source;
        sink = record {
          created_is = put.created_is ∙ stays.sink.created_is;
          shut = λ shut. put.shut (stays.sink.shut shut);
          told = λ told. put.told (stays.sink.told told);
        };
        log = stays.log;
        cause = search rules;
      },
      search rules,
    )
