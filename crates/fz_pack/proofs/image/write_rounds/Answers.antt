-- One round after another; nothing is held back at first.
use Rattle.std.proofs.Common.{ℕ, ◌≡◌, ◌+◌, ◌*◌, ◌≤◌, List, length, Option, IfSome, refl, ap, ◌∙◌, subst, sym, arith, rules}
use Rattle.fz_pool.specs.Round.{coded_tiles}
use Rattle.fz_image.specs.Held.{heap_caught_up}
use Rattle.fz_image.specs.Layout.{heap_at_of, pixel_bytes_of}
use Rattle.fz_image.specs.Progress.{IsWritten}
use Rattle.fz_image.specs.Strips.{HasStrips}
use Rattle.fz_image.specs.Tiles.{codes_from}
use Rattle.fz_image.specs.declared.progress.Progress.{Progress}
use Rattle.fz_pack.proofs.Holding.{none_held}
use Rattle.fz_pack.proofs.Progresses.{are_next, more_written, summed_small, written_few, written_none}
use Rattle.fz_pack.proofs.Sizes.{rows_fit}
use Rattle.fz_pack.proofs.image.write_rounds.Goals as goal

pub loop-underway-init : goal.loop-underway-init
loop-underway-init g c =
    let l = c.args.writing.now.layout in
    let held : Option (List ℕ) = g.S.Source.held c.args.source.now in
    let before : Option (List ℕ) = g.K.Sink.contents c.args.sink.now in
    let u = c.new-underway.result in
    let w = u.progress in
    let none = written_none l held before w c.new-underway.ensures.progress in
    let same : heap_caught_up l w u.held_back c.args.held.now before ≡ before = none_held (heap_at_of l + w.heap) u.held_back c.args.held.now before c.new-underway.ensures.none in
    let short : u.held_back ≤ length c.args.held.now = omega (arith, c.new-underway.ensures.none) in
    let few : u.held_back ≤ w.heap = omega (arith, c.new-underway.ensures.none) in
    record {
      held = refl;
      attached = refl;
      reads = refl;
      created = refl;
      writes = refl;
      shut = λ shut. shut;
      log = c.log_law.ensures.none l.pixels_at (l.pixels_at + pixel_bytes_of l) (g.S.Source.ranges c.args.source.now);
      told_ranges = λ told. told;
      told_contents = λ told. told;
      sizes = refl;
      workers = refl;
      strips = c.none-strips.ensures.strips held c.args.ahead.now;
      ahead = refl;
      rows = refl;
      room = refl;
      last = (short, few);
      within = written_few l held before before w none;
      written = subst (λ (k : Option (List ℕ)). IsWritten l held before k w) (sym same) none;
    }

pub encode_tiles-requires-clause-strips : goal.encode_tiles-requires-clause-strips
encode_tiles-requires-clause-strips g c κs within =
    subst (λ (h : Option (List ℕ)). HasStrips h c.loop-underway.strips c.loop-underway.ahead) (sym c.loop-underway.invariant.held) c.loop-underway.invariant.strips

pub write_encoded-requires-clause-next : goal.write_encoded-requires-clause-next
write_encoded-requires-clause-next g c =
    let l = c.args.writing.now.layout in
    let u = c.loop-underway.underway in
    let near : c.round_len-tiles.result ≤ 2 * c.encode_tiles.new.window.workers = omega (arith, c.in_ok-encode_tiles.ensures.stays.1.workers, c.round_len-tiles.ensures.near) in
    are_next l (g.S.Source.held c.args.source.now) (g.S.Source.held c.loop-underway.source) (g.K.Sink.contents c.args.sink.now) (heap_caught_up l u.progress u.held_back c.loop-underway.held (g.K.Sink.contents c.loop-underway.sink)) u.progress
    c.round_len-tiles.result c.encode_tiles.new.window c.requires.can.layout c.loop-underway.invariant.written c.in_ok-encode_tiles.ensures.encoded near c.round_len-tiles.ensures.within

pub write_encoded-requires-clause-summed : goal.write_encoded-requires-clause-summed
write_encoded-requires-clause-summed g c =
    let l = c.args.writing.now.layout in
    let u = c.loop-underway.underway in
    summed_small l (g.S.Source.held c.args.source.now) (g.K.Sink.contents c.args.sink.now) (heap_caught_up l u.progress u.held_back c.loop-underway.held (g.K.Sink.contents c.loop-underway.sink)) u.progress
    c.requires.can.layout c.loop-underway.invariant.written

pub write_encoded-requires-clause-rows : goal.write_encoded-requires-clause-rows
write_encoded-requires-clause-rows g c =
    rows_fit c.args.writing.now.layout c.round_len-tiles.result (length c.loop-underway.rows) c.requires.can.layout c.round_len-tiles.ensures.few (omega (arith, c.loop-underway.invariant.rows, c.requires.rows))

pub loop-underway-preserved : goal.loop-underway-preserved
loop-underway-preserved g c =
    let l = c.args.writing.now.layout in
    let held : Option (List ℕ) = g.S.Source.held c.args.source.now in
    let before : Option (List ℕ) = g.K.Sink.contents c.args.sink.now in
    let old = c.loop-underway.invariant in
    let u = c.loop-underway.underway in
    let v = c.write_encoded.new.underway in
    let n : ℕ = c.round_len-tiles.result in
    let e = c.in_ok-encode_tiles.ensures.encoded in
    let es = coded_tiles n c.encode_tiles.new.window.slots in
    let so_far : Option (List ℕ) = heap_caught_up l u.progress u.held_back c.loop-underway.held (g.K.Sink.contents c.loop-underway.sink) in
    let next : Option (List ℕ) = heap_caught_up l v.progress v.held_back c.write_encoded.new.held (g.K.Sink.contents c.write_encoded.new.sink) in
    let told : IfSome held (λ file. es ≡ codes_from l file u.progress.tiles n) = subst (λ (h : Option (List ℕ)). IfSome h (λ file. es ≡ codes_from l file u.progress.tiles n)) old.held e.told in
    let now : IsWritten l held before next v.progress = more_written l held before so_far next u.progress v.progress es n c.sum_law.ensures.joined c.output_law.ensures.next c.output_law.ensures.apart c.requires.can.layout
    e.each e.number c.round_len-tiles.ensures.within told c.in_ok-write_encoded.ensures.progress c.in_ok-write_encoded.ensures.contents old.written in
    record {
      held = search rules;
      attached = search rules;
      reads = search rules;
      created = search rules;
      writes = search rules;
      shut = λ shut. c.in_ok-write_encoded.ensures.stays.0.shut (old.shut shut);
      log = c.log_law.ensures.both l.pixels_at (l.pixels_at + pixel_bytes_of l) (g.S.Source.ranges c.args.source.now) (g.S.Source.ranges c.loop-underway.source) (g.S.Source.ranges c.encode_tiles.new.source) old.log c.in_ok-encode_tiles.ensures.log;
      told_ranges = λ told. c.in_ok-encode_tiles.ensures.stays.0.told (old.told_ranges told);
      told_contents = λ told. c.in_ok-write_encoded.ensures.stays.0.told (old.told_contents told);
      sizes = c.in_ok-encode_tiles.ensures.stays.1.sizes ∙ old.sizes;
      workers = c.in_ok-encode_tiles.ensures.stays.1.workers ∙ old.workers;
      strips = subst (λ (h : Option (List ℕ)). HasStrips h c.encode_tiles.new.strips c.encode_tiles.new.ahead) (c.in_ok-encode_tiles.ensures.stays.0.held_is ∙ old.held) c.in_ok-encode_tiles.ensures.strips;
      ahead = c.in_ok-encode_tiles.ensures.stays.2 ∙ old.ahead;
      rows = c.in_ok-write_encoded.ensures.stays.1 ∙ old.rows;
      room = c.in_ok-write_encoded.ensures.stays.2 ∙ old.room;
      last = c.in_ok-write_encoded.ensures.held;
      within = written_few l held before next v.progress now;
      written = now;
    }

pub loop-underway-smaller : goal.loop-underway-smaller
loop-underway-smaller g c =
    let e = c.in_ok-encode_tiles.ensures.encoded in
    let more = ap (λ (q : Progress). q.tiles) c.in_ok-write_encoded.ensures.progress in
    omega (arith, more, e.number, c.round_len-tiles.ensures.some, c.round_len-tiles.ensures.within)

pub returns-in_err-encode_tiles-clause-stays : goal.returns-in_err-encode_tiles-clause-stays
returns-in_err-encode_tiles-clause-stays g c =
    let l = c.args.writing.now.layout in
    let old = c.loop-underway.invariant in
    let coded = c.in_err-encode_tiles.ensures in (
      search rules,
      record {
        source = record {
          held_is = coded.stays.0.held_is ∙ old.held;
          attached_is = coded.stays.0.attached_is ∙ old.attached;
          told = λ told. coded.stays.0.told (old.told_ranges told);
        };
        sink = record { created_is = old.created; shut = old.shut; told = old.told_contents };
        log = c.log_law.ensures.both l.pixels_at (l.pixels_at + pixel_bytes_of l) (g.S.Source.ranges c.args.source.now) (g.S.Source.ranges c.loop-underway.source) (g.S.Source.ranges c.encode_tiles.new.source) old.log coded.log;
        cause = search rules;
      },
      search rules,
      search rules,
      search rules,
    )

pub returns-in_err-write_encoded-clause-stays : goal.returns-in_err-write_encoded-clause-stays
returns-in_err-write_encoded-clause-stays g c =
    let l = c.args.writing.now.layout in
    let old = c.loop-underway.invariant in
    let coded = c.in_ok-encode_tiles.ensures in
    let put = c.in_err-write_encoded.ensures in (
      search rules,
      record {
        source = record {
          held_is = coded.stays.0.held_is ∙ old.held;
          attached_is = coded.stays.0.attached_is ∙ old.attached;
          told = λ told. coded.stays.0.told (old.told_ranges told);
        };
        sink = record {
          created_is = put.stays.0.created_is ∙ old.created;
          shut = λ shut. put.stays.0.shut (old.shut shut);
          told = λ told. put.stays.0.told (old.told_contents told);
        };
        log = c.log_law.ensures.both l.pixels_at (l.pixels_at + pixel_bytes_of l) (g.S.Source.ranges c.args.source.now) (g.S.Source.ranges c.loop-underway.source) (g.S.Source.ranges c.encode_tiles.new.source) old.log coded.log;
        cause = search rules;
      },
      search rules,
      search rules,
      search rules,
    )

pub returns-clause-stays : goal.returns-clause-stays
returns-clause-stays g c =
    let old = c.loop-underway.invariant in (
      search rules,
      record {
        source = record { held_is = old.held; attached_is = old.attached; told = old.told_ranges };
        sink = record { created_is = old.created; shut = old.shut; told = old.told_contents };
        log = old.log;
        cause = search rules;
      },
      search rules,
      search rules,
      search rules,
    )
