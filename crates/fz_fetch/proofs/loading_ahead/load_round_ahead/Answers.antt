-- One tile after another, up to the first whose row is refused.
use Rattle.std.proofs.Common.{ℕ, ◌≡◌, ◌+◌, ◌<◌, List, Option, length, slice_index, refl, sym, ◌∙◌, subst, arith, rules}
use Rattle.fz_fetch.specs.Ahead.{IsAhead, image_tiles}
use Rattle.fz_fetch.specs.Loaded.{IsLoaded}
use Rattle.fz_fetch.proofs.LoadedTiles.{loaded_more, read_none, same_then}
use Rattle.fz_fetch.proofs.ReadAhead.{join_all}
use Rattle.fz_fetch.proofs.loading_ahead.load_round_ahead.Goals as goal

pub loop-i-init : goal.loop-i-init
loop-i-init g c = record {
  held = refl;
  attached = refl;
  counts = refl;
  sizes = refl;
  workers = refl;
  others = λ k d from. refl;
  told_ranges = λ told. told;
  read = read_none c.ranges_law.ensures.all (g.S.Source.held c.args.source.now) c.args.hdu c.args.image.now (image_tiles c.args.image.now)
      (g.S.Source.ranges c.args.source.now);
  len = refl;
  ahead = c.requires.ahead;
  loaded = λ k d low. absurd (omega (arith, low));
}

pub load_next_ahead-requires-clause-tile : goal.load_next_ahead-requires-clause-tile
load_next_ahead-requires-clause-tile g c =
    let near : c.loop-i.i < length c.args.tiles.now = search rules in
    c.requires.round.known c.loop-i.i near

pub load_next_ahead-requires-clause-ahead : goal.load_next_ahead-requires-clause-ahead
load_next_ahead-requires-clause-ahead g c =
    subst (λ (h : Option (List ℕ)). IsAhead h c.args.image.now.table c.loop-i.buf c.loop-i.ahead) (sym c.loop-i.invariant.held) c.loop-i.invariant.ahead

pub returns-in-Err-clause-read : goal.returns-in-Err-clause-read
returns-in-Err-clause-read g c =
    join_all c.ranges_law.ensures.join (g.S.Source.held c.args.source.now) (g.S.Source.held c.loop-i.source) c.args.hdu c.args.image.now
    (g.S.Source.ranges c.args.source.now) (g.S.Source.ranges c.loop-i.source) (g.S.Source.ranges c.load_next_ahead.new.source) c.loop-i.invariant.held
    c.loop-i.invariant.read c.load_next_ahead.ensures.read

pub returns-in_err-fault-in-Err-clause-read : goal.returns-in_err-fault-in-Err-clause-read
returns-in_err-fault-in-Err-clause-read g c =
    join_all c.ranges_law.ensures.join (g.S.Source.held c.args.source.now) (g.S.Source.held c.loop-i.source) c.args.hdu c.args.image.now
    (g.S.Source.ranges c.args.source.now) (g.S.Source.ranges c.loop-i.source) (g.S.Source.ranges c.load_next_ahead.new.source) c.loop-i.invariant.held
    c.loop-i.invariant.read c.load_next_ahead.ensures.read

pub loop-i-preserved : goal.loop-i-preserved
loop-i-preserved g c =
    let held : Option (List ℕ) = g.S.Source.held c.args.source.now in
    let tiles : List ℕ = c.args.tiles.now in
    let put = c.in-Ok.ensures.put in
    let same : g.S.Source.held c.load_next_ahead.new.source ≡ held = c.load_next_ahead.ensures.source.held_is ∙ c.loop-i.invariant.held in
    let now : IsLoaded held c.args.hdu c.args.image.now (slice_index tiles c.loop-i.i) put.0 =
    subst (λ (h : Option (List ℕ)). IsLoaded h c.args.hdu c.args.image.now (slice_index tiles c.loop-i.i) put.0) c.loop-i.invariant.held put.2 in
    record {
      held = search rules;
      attached = search rules;
      counts = search rules;
      sizes = c.load_next_ahead.ensures.window.sizes ∙ c.loop-i.invariant.sizes;
      workers = c.load_next_ahead.ensures.window.workers ∙ c.loop-i.invariant.workers;
      others = same_then c.loop-i.i (c.loop-i.i + 1) (c.loop-i.i + 1) c.args.window.now.slots c.loop-i.window.slots c.load_next_ahead.new.window.slots
          (omega arith) (omega arith) c.loop-i.invariant.others c.load_next_ahead.ensures.others;
      told_ranges = λ told. c.load_next_ahead.ensures.source.told (c.loop-i.invariant.told_ranges told);
      read = join_all c.ranges_law.ensures.join held (g.S.Source.held c.loop-i.source) c.args.hdu c.args.image.now
          (g.S.Source.ranges c.args.source.now) (g.S.Source.ranges c.loop-i.source) (g.S.Source.ranges c.load_next_ahead.new.source) c.loop-i.invariant.held
          c.loop-i.invariant.read c.load_next_ahead.ensures.read;
      len = c.load_next_ahead.ensures.len ∙ c.loop-i.invariant.len;
      ahead = subst (λ (h : Option (List ℕ)). IsAhead h c.args.image.now.table c.load_next_ahead.new.buf c.load_next_ahead.new.ahead) same
          c.load_next_ahead.ensures.ahead;
      loaded = loaded_more held c.args.hdu c.args.image.now tiles c.loop-i.i c.loop-i.window c.load_next_ahead.new.window put.0 put.1 now
          c.loop-i.invariant.loaded;
    }

-- ---- what is kept

pub returns-clause-ahead : goal.returns-clause-ahead
returns-clause-ahead g c =
    subst (λ (h : Option (List ℕ)). IsAhead h c.args.image.now.table c.loop-i.buf c.loop-i.ahead) (sym c.loop-i.invariant.held) c.loop-i.invariant.ahead

-- ---- the slots after those of the tiles

pub returns-in-Err-clause-others : goal.returns-in-Err-clause-others
returns-in-Err-clause-others g c =
    let near : c.loop-i.i < length c.args.tiles.now = search rules in
    same_then c.loop-i.i (c.loop-i.i + 1) (length c.args.tiles.now) c.args.window.now.slots c.loop-i.window.slots c.load_next_ahead.new.window.slots
    (omega (arith, near)) (omega (arith, near)) c.loop-i.invariant.others c.load_next_ahead.ensures.others

pub returns-in_err-fault-in-Err-clause-others : goal.returns-in_err-fault-in-Err-clause-others
returns-in_err-fault-in-Err-clause-others g c =
    let near : c.loop-i.i < length c.args.tiles.now = search rules in
    same_then c.loop-i.i (c.loop-i.i + 1) (length c.args.tiles.now) c.args.window.now.slots c.loop-i.window.slots c.load_next_ahead.new.window.slots
    (omega (arith, near)) (omega (arith, near)) c.loop-i.invariant.others c.load_next_ahead.ensures.others
