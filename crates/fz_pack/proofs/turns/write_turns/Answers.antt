-- One turn after another; at first nothing is held back, and no tile stands in the halves.
use Rattle.std.proofs.Common.{ℕ, ◌≡◌, ◌+◌, ◌≤◌, List, length, Option, refl, ◌∙◌, subst, sym, arith, rules}
use Rattle.fz_image.specs.Held.{heap_caught_up}
use Rattle.fz_image.specs.Layout.{heap_at_of, pixel_bytes_of}
use Rattle.fz_image.specs.Progress.{IsWritten}
use Rattle.fz_pack.specs.Turns.{StandReady}
use Rattle.fz_pack.proofs.Holding.{none_held}
use Rattle.fz_pack.proofs.Progresses.{written_few, written_none}
use Rattle.fz_pack.proofs.Turning.{none_ready, still_rooms}
use Rattle.std.specs.Prelude.{IsTrue}
use Rattle.fz_pack.proofs.turns.write_turns.Goals as goal

pub loop-underway-init : goal.loop-underway-init
loop-underway-init g c =
    let l = c.args.writing.now.layout in
    let held : Option (List ℕ) = g.S.Source.held c.args.source.now in
    let before : Option (List ℕ) = g.K.Sink.contents c.args.sink.now in
    let u = c.new-underway.result in
    let w = u.progress in
    let none = written_none l held before w c.new-underway.ensures.progress in
    let same : heap_caught_up l w u.held_back c.args.held.now before ≡ before = none_held (heap_at_of l + w.heap) u.held_back c.args.held.now before c.new-underway.ensures.none in
    let short : u.held_back ≤ length c.args.held.now = omega (arith, c.new-underway.ensures.none) in
    let few : u.held_back ≤ w.heap = omega (arith, c.new-underway.ensures.none) in
    record {
      held = refl;
      attached = refl;
      reads = refl;
      created = refl;
      writes = refl;
      shut = λ shut. shut;
      log = c.log_law.ensures.none l.pixels_at (l.pixels_at + pixel_bytes_of l) (g.S.Source.ranges c.args.source.now);
      told_ranges = λ told. told;
      told_contents = λ told. told;
      rooms = c.requires.rooms;
      windows = λ size one other. (one, other);
      workers = refl;
      rows = refl;
      room = refl;
      last = (short, few);
      ready = none_ready l held w c.args.first.now c.args.second.now c.requires.rooms c.sizes_law.ensures.many (written_few l held before before w none);
      written = subst (λ (k : Option (List ℕ)). IsWritten l held before k w) (sym same) none;
    }

pub take_turn-requires-clause-so_far : goal.take_turn-requires-clause-so_far
take_turn-requires-clause-so_far g c κs within =
    let l = c.args.writing.now.layout in
    let before : Option (List ℕ) = g.K.Sink.contents c.args.sink.now in
    let so_far : Option (List ℕ) = heap_caught_up l c.loop-underway.underway.progress c.loop-underway.underway.held_back c.loop-underway.held (g.K.Sink.contents c.loop-underway.sink) in
    (before, subst (λ (h : Option (List ℕ)). IsWritten l h before so_far c.loop-underway.underway.progress) (sym c.loop-underway.invariant.held) c.loop-underway.invariant.written)

pub take_turn-requires-clause-ready : goal.take_turn-requires-clause-ready
take_turn-requires-clause-ready g c κs within =
    let p = c.loop-underway in
    subst (λ (h : Option (List ℕ)). StandReady c.args.writing.now.layout h p.underway.progress p.turn.coded p.turn.loaded p.first p.second) (sym p.invariant.held) p.invariant.ready

pub loop-underway-preserved : goal.loop-underway-preserved
loop-underway-preserved g c =
    let l = c.args.writing.now.layout in
    let held : Option (List ℕ) = g.S.Source.held c.args.source.now in
    let before : Option (List ℕ) = g.K.Sink.contents c.args.sink.now in
    let old = c.loop-underway.invariant in
    let new = c.take_turn.new in
    let done = c.in_ok-take_turn.ensures in
    let so_far : Option (List ℕ) = heap_caught_up l c.loop-underway.underway.progress c.loop-underway.underway.held_back c.loop-underway.held (g.K.Sink.contents c.loop-underway.sink) in
    let next : Option (List ℕ) = heap_caught_up l new.underway.progress new.underway.held_back new.held (g.K.Sink.contents new.sink) in
    let was : IsWritten l (g.S.Source.held c.loop-underway.source) before so_far c.loop-underway.underway.progress =
    subst (λ (h : Option (List ℕ)). IsWritten l h before so_far c.loop-underway.underway.progress) (sym old.held) old.written in
    let more = done.more before was in
    let now : IsWritten l held before next new.underway.progress =
    subst (λ (h : Option (List ℕ)). IsWritten l h before next new.underway.progress) old.held more in
    record {
      held = done.stays.0.source.held_is ∙ old.held;
      attached = done.stays.0.source.attached_is ∙ old.attached;
      reads = done.stays.0.cause.ok.0 ∙ old.reads;
      created = done.stays.0.sink.created_is ∙ old.created;
      writes = done.stays.0.cause.ok.1 ∙ old.writes;
      shut = λ shut. done.stays.0.sink.shut (old.shut shut);
      log = c.log_law.ensures.both l.pixels_at (l.pixels_at + pixel_bytes_of l) (g.S.Source.ranges c.args.source.now) (g.S.Source.ranges c.loop-underway.source) (g.S.Source.ranges c.take_turn.new.source) c.loop-underway.invariant.log done.stays.0.log;
      told_ranges = λ told. done.stays.0.source.told (old.told_ranges told);
      told_contents = λ told. done.stays.0.sink.told (old.told_contents told);
      rooms = still_rooms l c.loop-underway.first c.loop-underway.second new.first new.second old.rooms done.windows;
      windows = λ size one other. let both = old.windows size one other in done.windows size both.0 both.1;
      workers = done.stays.3 ∙ old.workers;
      rows = done.stays.1 ∙ old.rows;
      room = done.stays.2 ∙ old.room;
      last = done.held;
      ready = subst (λ (h : Option (List ℕ)). StandReady l h new.underway.progress new.turn.coded new.turn.loaded new.first new.second) old.held done.ready;
      written = now;
    }

pub returns-in_err-take_turn-clause-stays : goal.returns-in_err-take_turn-clause-stays
returns-in_err-take_turn-clause-stays g c =
    let l = c.args.writing.now.layout in
    let old = c.loop-underway.invariant in
    let stays = c.in_err-take_turn.ensures.stays.0 in (
      record {
        source = record {
          held_is = stays.source.held_is ∙ old.held;
          attached_is = stays.source.attached_is ∙ old.attached;
          told = λ told. stays.source.told (old.told_ranges told);
        };
        sink = record {
          created_is = stays.sink.created_is ∙ old.created;
          shut = λ shut. stays.sink.shut (old.shut shut);
          told = λ told. stays.sink.told (old.told_contents told);
        };
        log = c.log_law.ensures.both l.pixels_at (l.pixels_at + pixel_bytes_of l) (g.S.Source.ranges c.args.source.now) (g.S.Source.ranges c.loop-underway.source) (g.S.Source.ranges c.take_turn.new.source) old.log stays.log;
        cause = search rules;
      },
      search rules,
      search rules,
      search rules,
    )

pub take_turn-requires-clause-can : goal.take_turn-requires-clause-can
take_turn-requires-clause-can g c κs within =
    let old = c.loop-underway.invariant in
    let pixels = c.requires.can.pixels in
    record {
      layout = c.requires.can.layout;
      pixels = (pixels.0, old.attached ∙ pixels.1, pixels.2);
      created_is = subst IsTrue (sym old.created) c.requires.can.created_is;
    }

pub returns-clause-stays : goal.returns-clause-stays
returns-clause-stays g c =
    let old = c.loop-underway.invariant in (
      record {
        source = record { held_is = old.held; attached_is = old.attached; told = old.told_ranges };
        sink = record { created_is = old.created; shut = old.shut; told = old.told_contents };
        log = old.log;
        cause = search rules;
      },
      search rules,
      search rules,
      search rules,
    )
