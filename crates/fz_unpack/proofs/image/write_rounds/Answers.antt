-- One round after another.
use Rattle.std.proofs.Common.{◌≡◌, ℕ, ◌+◌, ◌≤◌, List, map, Option, Some, IfSome, Result, Err, refl, sym, ◌∙◌, subst, arith, rules}
use Rattle.std.specs.List.{range_with_len}
use Rattle.fz_base.specs.Ranges.{LogsIn}
use Rattle.fz_base.specs.Stop.{IfRefused}
use Rattle.fz_files.specs.Touched.{image_ranges}
use Rattle.fz_base.specs.declared.failure.Stop.{Stop}
use Rattle.fz_files.specs.FirstFault.{IsFirstRowFault, image_row, rows_of}
use Rattle.fz_files.specs.Packed.{tiles_in}
use Rattle.fz_fetch.specs.Ahead.{IsAhead}
use Rattle.fz_job.specs.Held.{settled}
use Rattle.fz_unpack.specs.Images.{AreWrittenTiles}
use Rattle.fz_unpack.proofs.HduReads.{join_told, unread}
use Rattle.fz_unpack.proofs.Outcomes.{stop_weaker}
use Rattle.fz_unpack.proofs.Tiles.{more_tiles, none_written, refused_in_round, restorable_still}
use Rattle.fz_unpack.proofs.image.write_rounds.Goals as goal

pub loop-first-init : goal.loop-first-init
loop-first-init g c = record {
  held = refl;
  attached = refl;
  reads = refl;
  writes = refl;
  created = refl;
  shut = λ shut. shut;
  told_ranges = λ told. told;
  told_contents = λ told. told;
  read = unread (g.S.Source.held c.args.source.now) (λ file. image_ranges file c.args.asked.now.header) (g.S.Source.ranges c.args.source.now);
  window = record { sizes = refl; workers = refl };
  buffer = refl;
  room = refl;
  kept = c.requires.held;
  ahead = c.none-ahead.ensures.ahead (g.S.Source.held c.args.source.now) c.args.asked.now.image.table c.args.buf.now c.requires.buffer;
  within = omega arith;
  written = none_written (g.S.Source.held c.args.source.now) c.args.asked.now.header c.args.asked.now.image.plan c.args.asked.now.data_at
      (settled c.args.back.now c.args.held.now (g.K.Sink.contents c.args.sink.now));
}

pub write_round-requires-clause-image : goal.write_round-requires-clause-image
write_round-requires-clause-image g c κs within =
    let asked = c.args.asked.now in
    restorable_still asked.header asked.image asked.data_at asked.tiles (g.S.Source.held c.args.source.now) (g.S.Source.held c.loop-first.source)
    (g.S.Source.attached c.args.source.now) (g.S.Source.attached c.loop-first.source) c.loop-first.invariant.held c.loop-first.invariant.attached
    c.requires.image

pub write_round-requires-clause-ahead : goal.write_round-requires-clause-ahead
write_round-requires-clause-ahead g c κs within =
    subst (λ (l : Option (List ℕ)). IsAhead l c.args.asked.now.image.table c.loop-first.buf c.loop-first.ahead)
    (sym c.loop-first.invariant.held) c.loop-first.invariant.ahead

pub loop-first-preserved : goal.loop-first-preserved
loop-first-preserved g c =
    let held : Option (List ℕ) = g.S.Source.held c.args.source.now in
    let h = c.args.asked.now.header in
    let p = c.args.asked.now.image.plan in
    let at : ℕ = c.args.asked.now.data_at in
    let before : Option (List ℕ) = settled c.args.back.now c.args.held.now (g.K.Sink.contents c.args.sink.now) in
    let old = c.loop-first.invariant in
    let first : ℕ = c.loop-first.first in
    let count : ℕ = c.min-count.result in
    let mid : Option (List ℕ) = settled c.loop-first.back c.loop-first.held (g.K.Sink.contents c.loop-first.sink) in
    let now : Option (List ℕ) = settled c.write_round.new.round.back c.write_round.new.held (g.K.Sink.contents c.write_round.new.sink) in
    let round : IfSome held (λ file. AreWrittenTiles file h p at (range_with_len first count) mid now) =
    subst (λ (l : Option (List ℕ)). IfSome l (λ file. AreWrittenTiles file h p at (range_with_len first count) mid now)) old.held
    c.in_ok-write_round.ensures.pixels in
    record {
      held = c.in_ok-write_round.ensures.stays.1.source.held_is ∙ old.held;
      attached = c.in_ok-write_round.ensures.stays.1.source.attached_is ∙ old.attached;
      reads = c.in_ok-write_round.ensures.stays.1.cause.ok.0 ∙ old.reads;
      writes = c.in_ok-write_round.ensures.stays.1.cause.ok.1 ∙ old.writes;
      created = c.in_ok-write_round.ensures.stays.1.sink.created_is ∙ old.created;
      shut = λ shut. c.in_ok-write_round.ensures.stays.1.sink.shut (old.shut shut);
      told_ranges = λ told. c.in_ok-write_round.ensures.stays.1.source.told (old.told_ranges told);
      told_contents = λ told. c.in_ok-write_round.ensures.stays.1.sink.told (old.told_contents told);
      read = join_told c.ranges_law.ensures.join held (λ file. image_ranges file h) (g.S.Source.ranges c.args.source.now)
          (g.S.Source.ranges c.loop-first.source) (g.S.Source.ranges c.write_round.new.source) old.read
          (subst (λ (l : Option (List ℕ)). IfSome l (λ file. LogsIn (image_ranges file h) (g.S.Source.ranges c.loop-first.source)
          (g.S.Source.ranges c.write_round.new.source))) old.held c.in_ok-write_round.ensures.stays.1.read);
      window = record {
        sizes = c.in_ok-write_round.ensures.stays.0.sizes ∙ old.window.sizes;
        workers = c.in_ok-write_round.ensures.stays.0.workers
            ∙ old.window.workers;
      };
      buffer = c.in_ok-write_round.ensures.stays.2 ∙ old.buffer;
      room = c.in_ok-write_round.ensures.stays.3 ∙ old.room;
      kept = c.in_ok-write_round.ensures.kept;
      ahead = subst (λ (l : Option (List ℕ)). IsAhead l c.args.asked.now.image.table c.write_round.new.buf c.write_round.new.round.ahead)
          (c.in_ok-write_round.ensures.stays.1.source.held_is ∙ old.held) c.in_ok-write_round.ensures.ahead;
      within = omega (arith, c.min-count.ensures, old.within);
      written = more_tiles c.scattered_law.ensures.rounds held h p at first count before mid now old.written round;
    }

pub returns-in_err-write_round-clause-fault : goal.returns-in_err-write_round-clause-fault
returns-in_err-write_round-clause-fault g c =
    let held : Option (List ℕ) = g.S.Source.held c.args.source.now in
    let h = c.args.asked.now.header in
    let image = c.args.asked.now.image in
    let old = c.loop-first.invariant in
    let first : ℕ = c.loop-first.first in
    let count : ℕ = c.min-count.result in
    let before : Option (List ℕ) = settled c.args.back.now c.args.held.now (g.K.Sink.contents c.args.sink.now) in
    let mid : Option (List ℕ) = settled c.loop-first.back c.loop-first.held (g.K.Sink.contents c.loop-first.sink) in
    let stop : Stop = c.in_err-write_round.field-0.0 in
    let stopped : c.from_residual.result ≡ Err stop = search rules in
    let few : first + count ≤ tiles_in image.plan = omega (arith, c.min-count.ensures, old.within, c.requires.image.all) in
    let fault : IfRefused {X = Unit {0}} (Err stop) (λ x. IfSome held (λ file. IsFirstRowFault file (map (image_row h) (range_with_len first count))
    (Some x))) =
    subst (λ (l : Option (List ℕ)). IfRefused {X = Unit {0}} (Err stop)
    (λ x. IfSome l (λ file. IsFirstRowFault file (map (image_row h) (range_with_len first count)) (Some x)))) old.held c.in_err-write_round.ensures.fault in
    subst (λ (r : Result (Unit {0}) Stop). IfRefused r (λ x. IfSome held (λ file. IsFirstRowFault file (rows_of file h) (Some x)))) (sym stopped)
    (stop_weaker (Unit {0}) (Unit {0}) stop (λ x is. refused_in_round held h image c.args.asked.now.data_at first count before mid x c.requires.image.said few old.written is)
    fault)

pub returns-clause-pixels : goal.returns-clause-pixels
returns-clause-pixels g c =
    let held : Option (List ℕ) = g.S.Source.held c.args.source.now in
    let h = c.args.asked.now.header in
    let p = c.args.asked.now.image.plan in
    let old = c.loop-first.invariant in
    let before : Option (List ℕ) = settled c.args.back.now c.args.held.now (g.K.Sink.contents c.args.sink.now) in
    let now : Option (List ℕ) = settled c.loop-first.back c.loop-first.held (g.K.Sink.contents c.loop-first.sink) in
    let all : c.loop-first.first ≡ c.args.asked.now.tiles = omega (arith, old.within) in
    subst (λ n. IfSome held (λ file. AreWrittenTiles file h p c.args.asked.now.data_at (range_with_len 0 n) before now)) all old.written

pub returns-in_err-write_round-clause-stays : goal.returns-in_err-write_round-clause-stays
returns-in_err-write_round-clause-stays g c =
    let held : Option (List ℕ) = g.S.Source.held c.args.source.now in
    let h = c.args.asked.now.header in
    let old = c.loop-first.invariant in
    let stays = c.in_err-write_round.ensures.stays.1 in (
      search rules,
      record {
        source = record {
          held_is = stays.source.held_is ∙ old.held;
          attached_is = stays.source.attached_is ∙ old.attached;
          told = λ told. stays.source.told (old.told_ranges told);
        };
        sink = record {
          created_is = stays.sink.created_is ∙ old.created;
          shut = λ shut. stays.sink.shut (old.shut shut);
          told = λ told. stays.sink.told (old.told_contents told);
        };
        row = search rules;
        read = join_told c.ranges_law.ensures.join held (λ file. image_ranges file h) (g.S.Source.ranges c.args.source.now) (g.S.Source.ranges c.loop-first.source)
            (g.S.Source.ranges c.write_round.new.source) old.read
            (subst (λ (l : Option (List ℕ)). IfSome l (λ file. LogsIn (image_ranges file h) (g.S.Source.ranges c.loop-first.source)
            (g.S.Source.ranges c.write_round.new.source))) old.held stays.read);
        cause = search rules;
      },
      search rules,
      search rules,
    )

pub returns-clause-stays : goal.returns-clause-stays
returns-clause-stays g c =
    let old = c.loop-first.invariant in (
      search rules,
      record {
        source = record { held_is = old.held; attached_is = old.attached; told = old.told_ranges };
        sink = record { created_is = old.created; shut = old.shut; told = old.told_contents };
        row = tt;
        read = old.read;
        cause = search rules;
      },
      search rules,
      search rules,
    )
