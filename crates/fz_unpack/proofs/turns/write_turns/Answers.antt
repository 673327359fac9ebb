-- One turn after another.
use Rattle.std.proofs.Common.{◌≡◌, ℕ, ◌+◌, ◌≤◌, List, map, Option, Some, IfSome, Result, Err, refl, sym, ◌∙◌, subst, arith, rules}
use Rattle.std.specs.List.{range_with_len}
use Rattle.fz_base.specs.Ranges.{LogsIn}
use Rattle.fz_base.specs.Stop.{IfRefused}
use Rattle.fz_files.specs.Touched.{image_ranges}
use Rattle.fz_base.specs.declared.failure.Stop.{Stop}
use Rattle.fz_files.specs.FirstFault.{IsFirstRowFault, image_row, rows_of}
use Rattle.fz_unpack.specs.Images.{AreWrittenTiles}
use Rattle.fz_unpack.specs.Turns.{StandFetched}
use Rattle.fz_unpack.proofs.HduReads.{join_told, unread}
use Rattle.fz_unpack.proofs.Outcomes.{stop_weaker}
use Rattle.fz_unpack.proofs.Tiles.{more_tiles, none_written, restorable_still}
use Rattle.fz_unpack.proofs.Turning.{none_fetched, refused_in_turn, still_rooms}
use Rattle.fz_unpack.proofs.turns.write_turns.Goals as goal

pub loop-turn-init : goal.loop-turn-init
loop-turn-init g c = record {
  held = refl;
  attached = refl;
  reads = refl;
  writes = refl;
  created = refl;
  shut = λ shut. shut;
  told_ranges = λ told. told;
  told_contents = λ told. told;
  read = unread (g.S.Source.held c.args.source.now) (λ file. image_ranges file c.args.asked.now.header) (g.S.Source.ranges c.args.source.now);
  rooms = c.requires.rooms;
  windows = λ size one other. (one, other);
  workers = refl;
  rows = refl;
  stand = none_fetched (g.S.Source.held c.args.source.now) c.args.asked.now.header c.args.asked.now.image.plan c.args.asked.now.tiles c.args.second.now;
  written = none_written (g.S.Source.held c.args.source.now) c.args.asked.now.header c.args.asked.now.image.plan c.args.asked.now.data_at (g.K.Sink.contents c.args.sink.now);
}

pub take_turn-requires-clause-image : goal.take_turn-requires-clause-image
take_turn-requires-clause-image g c κs within =
    let asked = c.args.asked.now in
    restorable_still asked.header asked.image asked.data_at asked.tiles (g.S.Source.held c.args.source.now) (g.S.Source.held c.loop-turn.source)
    (g.S.Source.attached c.args.source.now) (g.S.Source.attached c.loop-turn.source) c.loop-turn.invariant.held c.loop-turn.invariant.attached
    c.requires.image

pub take_turn-requires-clause-stand : goal.take_turn-requires-clause-stand
take_turn-requires-clause-stand g c κs within =
    let p = c.loop-turn in
    subst (λ (h : Option (List ℕ)). StandFetched h c.args.asked.now.header c.args.asked.now.image.plan p.turn.written p.turn.decoded c.args.asked.now.tiles p.second) (sym p.invariant.held) p.invariant.stand

pub loop-turn-preserved : goal.loop-turn-preserved
loop-turn-preserved g c =
    let held : Option (List ℕ) = g.S.Source.held c.args.source.now in
    let h = c.args.asked.now.header in
    let p = c.args.asked.now.image.plan in
    let at : ℕ = c.args.asked.now.data_at in
    let before : Option (List ℕ) = g.K.Sink.contents c.args.sink.now in
    let old = c.loop-turn.invariant in
    let first : ℕ = c.loop-turn.turn.written in
    let count : ℕ = c.loop-turn.turn.decoded in
    let mid : Option (List ℕ) = g.K.Sink.contents c.loop-turn.sink in
    let new = c.take_turn.new in
    let now : Option (List ℕ) = g.K.Sink.contents new.sink in
    let done = c.in_ok-take_turn.ensures in
    let round : IfSome held (λ file. AreWrittenTiles file h p at (range_with_len first count) mid now) =
    subst (λ (l : Option (List ℕ)). IfSome l (λ file. AreWrittenTiles file h p at (range_with_len first count) mid now)) old.held done.pixels in
    record {
      held = done.stays.0.source.held_is ∙ old.held;
      attached = done.stays.0.source.attached_is ∙ old.attached;
      reads = done.stays.0.cause.ok.0 ∙ old.reads;
      writes = done.stays.0.cause.ok.1 ∙ old.writes;
      created = done.stays.0.sink.created_is ∙ old.created;
      shut = λ shut. done.stays.0.sink.shut (old.shut shut);
      told_ranges = λ told. done.stays.0.source.told (old.told_ranges told);
      told_contents = λ told. done.stays.0.sink.told (old.told_contents told);
      read = join_told c.ranges_law.ensures.join held (λ file. image_ranges file h) (g.S.Source.ranges c.args.source.now) (g.S.Source.ranges c.loop-turn.source) (g.S.Source.ranges c.take_turn.new.source) old.read
          (subst (λ (l : Option (List ℕ)). IfSome l (λ file. LogsIn (image_ranges file h) (g.S.Source.ranges c.loop-turn.source) (g.S.Source.ranges c.take_turn.new.source))) old.held done.stays.0.read);
      rooms = still_rooms c.args.asked.now.image c.loop-turn.first c.loop-turn.second new.first new.second old.rooms done.windows;
      windows = λ size one other. let both = old.windows size one other in done.windows size both.0 both.1;
      workers = done.stays.2 ∙ old.workers;
      rows = done.stays.1 ∙ old.rows;
      stand = subst (λ (l : Option (List ℕ)). StandFetched l h p new.turn.written new.turn.decoded c.args.asked.now.tiles new.second) old.held done.stand;
      written = subst (λ (n : ℕ). IfSome held (λ file. AreWrittenTiles file h p at (range_with_len 0 n) before now)) (sym done.turn.0) (more_tiles c.scattered_law.ensures.rounds held h p at first count before mid now old.written round);
    }

pub returns-in_err-take_turn-clause-fault : goal.returns-in_err-take_turn-clause-fault
returns-in_err-take_turn-clause-fault g c =
    let held : Option (List ℕ) = g.S.Source.held c.args.source.now in
    let h = c.args.asked.now.header in
    let image = c.args.asked.now.image in
    let old = c.loop-turn.invariant in
    let first : ℕ = c.loop-turn.turn.written in
    let before : Option (List ℕ) = g.K.Sink.contents c.args.sink.now in
    let mid : Option (List ℕ) = g.K.Sink.contents c.loop-turn.sink in
    let stop : Stop = c.in_err-take_turn.field-0.0 in
    let stopped : c.from_residual.result ≡ Err stop = search rules in
    let fault : IfRefused {X = Unit {0}} (Err stop) (λ x. IfSome held (λ file. (more : ℕ) × (first + more ≤ c.args.asked.now.tiles) × IsFirstRowFault file (map (image_row h) (range_with_len first more)) (Some x))) =
    subst (λ (l : Option (List ℕ)). IfRefused {X = Unit {0}} (Err stop) (λ x. IfSome l (λ file. (more : ℕ) × (first + more ≤ c.args.asked.now.tiles) × IsFirstRowFault file (map (image_row h) (range_with_len first more)) (Some x)))) old.held c.in_err-take_turn.ensures.fault in
    subst (λ (r : Result (Unit {0}) Stop). IfRefused r (λ x. IfSome held (λ file. IsFirstRowFault file (rows_of file h) (Some x)))) (sym stopped)
    (stop_weaker (Unit {0}) (Unit {0}) stop (λ x is. refused_in_turn held h image c.args.asked.now.data_at first c.args.asked.now.tiles before mid x c.requires.image.said c.requires.image.all old.written is) fault)

pub returns-clause-pixels : goal.returns-clause-pixels
returns-clause-pixels g c =
    let held : Option (List ℕ) = g.S.Source.held c.args.source.now in
    let old = c.loop-turn.invariant in
    let all : c.loop-turn.turn.written ≡ c.args.asked.now.tiles = omega (arith, old.stand.within) in
    subst (λ (n : ℕ). IfSome held (λ file. AreWrittenTiles file c.args.asked.now.header c.args.asked.now.image.plan c.args.asked.now.data_at (range_with_len 0 n) (g.K.Sink.contents c.args.sink.now) (g.K.Sink.contents c.loop-turn.sink))) all old.written

pub returns-in_err-take_turn-clause-stays : goal.returns-in_err-take_turn-clause-stays
returns-in_err-take_turn-clause-stays g c =
    let held : Option (List ℕ) = g.S.Source.held c.args.source.now in
    let h = c.args.asked.now.header in
    let old = c.loop-turn.invariant in
    let stays = c.in_err-take_turn.ensures.stays.0 in (
      record {
        source = record {
          held_is = stays.source.held_is ∙ old.held;
          attached_is = stays.source.attached_is ∙ old.attached;
          told = λ told. stays.source.told (old.told_ranges told);
        };
        sink = record {
          created_is = stays.sink.created_is ∙ old.created;
          shut = λ shut. stays.sink.shut (old.shut shut);
          told = λ told. stays.sink.told (old.told_contents told);
        };
        row = search rules;
        read = join_told c.ranges_law.ensures.join held (λ file. image_ranges file h) (g.S.Source.ranges c.args.source.now) (g.S.Source.ranges c.loop-turn.source) (g.S.Source.ranges c.take_turn.new.source) old.read
            (subst (λ (l : Option (List ℕ)). IfSome l (λ file. LogsIn (image_ranges file h) (g.S.Source.ranges c.loop-turn.source) (g.S.Source.ranges c.take_turn.new.source))) old.held stays.read);
        cause = search rules;
      },
      search rules,
      search rules,
    )

pub returns-clause-stays : goal.returns-clause-stays
returns-clause-stays g c =
    let old = c.loop-turn.invariant in (
      record {
        source = record { held_is = old.held; attached_is = old.attached; told = old.told_ranges };
        sink = record { created_is = old.created; shut = old.shut; told = old.told_contents };
        row = tt;
        read = old.read;
        cause = search rules;
      },
      search rules,
      search rules,
    )
