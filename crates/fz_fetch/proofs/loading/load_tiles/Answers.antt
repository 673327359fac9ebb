-- One tile after another, up to the first whose row is refused.
use Rattle.std.proofs.Common.{ℕ, ◌+◌, ◌<◌, List, Option, length, slice_index, ◌∙◌, subst, arith, rules}
use Rattle.fz_fetch.specs.Loaded.{IsLoaded}
use Rattle.fz_fetch.proofs.LoadedTiles.{loaded_more, read_more, same_then}
use Rattle.fz_fetch.proofs.loading.load_tiles.Goals as goal

pub load_next-requires-clause-tile : goal.load_next-requires-clause-tile
load_next-requires-clause-tile g c =
    let near : c.loop-i.i < length c.args.tiles.now = search rules in
    c.requires.round.known c.loop-i.i near

pub returns-in-Err-clause-read : goal.returns-in-Err-clause-read
returns-in-Err-clause-read g c =
    let near : c.loop-i.i < length c.args.tiles.now = search rules in
    read_more c.ranges_law.ensures.join (g.S.Source.held c.args.source.now) (g.S.Source.held c.loop-i.source) c.args.hdu c.args.image.now c.args.tiles.now c.loop-i.i
    (g.S.Source.ranges c.args.source.now) (g.S.Source.ranges c.loop-i.source) (g.S.Source.ranges c.load_next.new.source) near c.loop-i.invariant.held c.loop-i.invariant.read c.load_next.ensures.read

pub returns-in_err-fault-in-Err-clause-read : goal.returns-in_err-fault-in-Err-clause-read
returns-in_err-fault-in-Err-clause-read g c =
    let near : c.loop-i.i < length c.args.tiles.now = search rules in
    read_more c.ranges_law.ensures.join (g.S.Source.held c.args.source.now) (g.S.Source.held c.loop-i.source) c.args.hdu c.args.image.now c.args.tiles.now c.loop-i.i
    (g.S.Source.ranges c.args.source.now) (g.S.Source.ranges c.loop-i.source) (g.S.Source.ranges c.load_next.new.source) near c.loop-i.invariant.held c.loop-i.invariant.read c.load_next.ensures.read

pub loop-i-preserved : goal.loop-i-preserved
loop-i-preserved g c =
    let held : Option (List ℕ) = g.S.Source.held c.args.source.now in
    let tiles : List ℕ = c.args.tiles.now in
    let near : c.loop-i.i < length tiles = search rules in
    let put = c.in-Ok.ensures.put in
    let now : IsLoaded held c.args.hdu c.args.image.now (slice_index tiles c.loop-i.i) put.0 =
    subst (λ (h : Option (List ℕ)). IsLoaded h c.args.hdu c.args.image.now (slice_index tiles c.loop-i.i) put.0) c.loop-i.invariant.held put.2 in
    record {
      held = search rules;
      attached = search rules;
      counts = search rules;
      sizes = c.load_next.ensures.stays.1.sizes ∙ c.loop-i.invariant.sizes;
      workers = c.load_next.ensures.stays.1.workers ∙ c.loop-i.invariant.workers;
      others = same_then c.loop-i.i (c.loop-i.i + 1) (c.loop-i.i + 1) c.args.window.now.slots c.loop-i.window.slots c.load_next.new.window.slots (omega arith) (omega arith) c.loop-i.invariant.others c.load_next.ensures.others;
      told_ranges = λ told. c.load_next.ensures.stays.0.told (c.loop-i.invariant.told_ranges told);
      read = read_more c.ranges_law.ensures.join held (g.S.Source.held c.loop-i.source) c.args.hdu c.args.image.now tiles c.loop-i.i
          (g.S.Source.ranges c.args.source.now) (g.S.Source.ranges c.loop-i.source) (g.S.Source.ranges c.load_next.new.source) near c.loop-i.invariant.held c.loop-i.invariant.read c.load_next.ensures.read;
      loaded = loaded_more held c.args.hdu c.args.image.now tiles c.loop-i.i c.loop-i.window c.load_next.new.window put.0 put.1 now c.loop-i.invariant.loaded;
    }

-- ---- the slots after those of the tiles

pub returns-in-Err-clause-others : goal.returns-in-Err-clause-others
returns-in-Err-clause-others g c =
    let near : c.loop-i.i < length c.args.tiles.now = search rules in
    same_then c.loop-i.i (c.loop-i.i + 1) (length c.args.tiles.now) c.args.window.now.slots c.loop-i.window.slots c.load_next.new.window.slots (omega (arith, near)) (omega (arith, near)) c.loop-i.invariant.others c.load_next.ensures.others

pub returns-in_err-fault-in-Err-clause-others : goal.returns-in_err-fault-in-Err-clause-others
returns-in_err-fault-in-Err-clause-others g c =
    let near : c.loop-i.i < length c.args.tiles.now = search rules in
    same_then c.loop-i.i (c.loop-i.i + 1) (length c.args.tiles.now) c.args.window.now.slots c.loop-i.window.slots c.load_next.new.window.slots (omega (arith, near)) (omega (arith, near)) c.loop-i.invariant.others c.load_next.ensures.others
