-- One tile after another.
use Rattle.std.proofs.Common.{◌≡◌, ℕ, ◌+◌, ◌*◌, List, Option, replicate, refl, sym, ap, ◌∙◌, subst, arith, rules}
use Rattle.fz_image.specs.Layout.{pixel_bytes_of}
use Rattle.fz_image.specs.Strips.{HasStrips}
use Rattle.fz_image.specs.Tiles.{AreLoaded, IsLoaded}
use Rattle.fz_image.proofs.LoadedTiles.{loaded_more, loaded_none}
use Rattle.fz_image.proofs.loading.load_round.Goals as goal

pub loop-i-init : goal.loop-i-init
loop-i-init g c = record {
  held = refl;
  attached = refl;
  told_ranges = λ told. told;
  log = c.log_law.ensures.none c.args.layout.now.pixels_at (c.args.layout.now.pixels_at + pixel_bytes_of c.args.layout.now) (g.S.Source.ranges c.args.source.now);
  reads = refl;
  sizes = refl;
  strips = c.requires.strips;
  ahead = refl;
  workers = refl;
  loaded = loaded_none c.args.layout.now (g.S.Source.held c.args.source.now) c.args.first c.args.window.now;
}

pub load_next-requires-clause-can : goal.load_next-requires-clause-can
load_next-requires-clause-can g c =
    let pixels = c.requires.can.pixels in
    record { layout = c.requires.can.layout; pixels = (pixels.0, c.loop-i.invariant.attached ∙ pixels.1, pixels.2) }

pub load_next-requires-clause-window : goal.load_next-requires-clause-window
load_next-requires-clause-window g c =
    let n : ℕ = c.requires.window.0 in
    (n, c.loop-i.invariant.sizes ∙ c.requires.window.1 ∙ ap (λ (k : ℕ). replicate {A = ℕ × ℕ} (2 * k) (2 * n, 8 * n + 64)) (sym c.loop-i.invariant.workers), c.requires.window.2)

pub load_next-requires-clause-near : goal.load_next-requires-clause-near
load_next-requires-clause-near g c = omega (arith, c.loop-i.invariant.workers, c.requires.near)

pub load_next-requires-clause-strips : goal.load_next-requires-clause-strips
load_next-requires-clause-strips g c = subst (λ (h : Option (List ℕ)). HasStrips h c.loop-i.strips c.loop-i.ahead) (sym c.loop-i.invariant.held) c.loop-i.invariant.strips

pub loop-i-preserved : goal.loop-i-preserved
loop-i-preserved g c =
    let l = c.args.layout.now in
    let held : Option (List ℕ) = g.S.Source.held c.args.source.now in
    let put = c.in_ok-load_next.ensures.put in
    let now : IsLoaded l held (c.args.first + c.loop-i.i) put.0 = subst (λ (h : Option (List ℕ)). IsLoaded l h (c.args.first + c.loop-i.i) put.0) c.loop-i.invariant.held put.2 in
    record {
      held = c.in_ok-load_next.ensures.stays.1.source.held_is ∙ c.loop-i.invariant.held;
      attached = c.in_ok-load_next.ensures.stays.1.source.attached_is ∙ c.loop-i.invariant.attached;
      log = c.log_law.ensures.both l.pixels_at (l.pixels_at + pixel_bytes_of l) (g.S.Source.ranges c.args.source.now) (g.S.Source.ranges c.loop-i.source) (g.S.Source.ranges c.load_next.new.source) c.loop-i.invariant.log c.in_ok-load_next.ensures.stays.1.log;
      told_ranges = λ told. c.in_ok-load_next.ensures.stays.1.source.told (c.loop-i.invariant.told_ranges told);
      reads = c.in_ok-load_next.ensures.stays.1.cause.ok ∙ c.loop-i.invariant.reads;
      sizes = c.in_ok-load_next.ensures.stays.0.sizes ∙ c.loop-i.invariant.sizes;
      strips = subst (λ (h : Option (List ℕ)). HasStrips h c.load_next.new.strips c.load_next.new.ahead) (c.in_ok-load_next.ensures.stays.1.source.held_is ∙ c.loop-i.invariant.held) c.in_ok-load_next.ensures.strips;
      ahead = c.in_ok-load_next.ensures.stays.2 ∙ c.loop-i.invariant.ahead;
      workers = c.in_ok-load_next.ensures.stays.0.workers ∙ c.loop-i.invariant.workers;
      loaded = loaded_more l held c.args.first c.loop-i.i c.loop-i.window c.load_next.new.window put.0 put.1 now c.loop-i.invariant.loaded c.put_law.ensures.ready;
    }

pub returns-clause-strips : goal.returns-clause-strips
returns-clause-strips g c = subst (λ (h : Option (List ℕ)). HasStrips h c.loop-i.strips c.loop-i.ahead) (sym c.loop-i.invariant.held) c.loop-i.invariant.strips

pub returns-clause-loaded : goal.returns-clause-loaded
returns-clause-loaded g c =
    let all : c.loop-i.i ≡ c.args.count = search rules in
    subst (λ n. AreLoaded c.args.layout.now (g.S.Source.held c.args.source.now) c.args.first n c.loop-i.window) all c.loop-i.invariant.loaded

pub returns-in_err-load_next-clause-stays : goal.returns-in_err-load_next-clause-stays
returns-in_err-load_next-clause-stays g c =
    let l = c.args.layout.now in
    let old = c.loop-i.invariant in
    let stays = c.in_err-load_next.ensures.stays.1 in (
      search rules,
      record {
        source = record {
          held_is = stays.source.held_is ∙ old.held;
          attached_is = stays.source.attached_is ∙ old.attached;
          told = λ told. stays.source.told (old.told_ranges told);
        };
        log = c.log_law.ensures.both l.pixels_at (l.pixels_at + pixel_bytes_of l) (g.S.Source.ranges c.args.source.now) (g.S.Source.ranges c.loop-i.source) (g.S.Source.ranges c.load_next.new.source) old.log stays.log;
        cause = search rules;
      },
      search rules,
    )

pub returns-clause-stays : goal.returns-clause-stays
returns-clause-stays g c =
    let old = c.loop-i.invariant in (
      search rules,
      record {
        source = record { held_is = old.held; attached_is = old.attached; told = old.told_ranges };
        log = old.log;
        cause = search rules;
      },
      search rules,
    )
