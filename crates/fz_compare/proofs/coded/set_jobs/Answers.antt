-- One slot after another.
use Rattle.std.proofs.Common.{◌≡◌, ℕ, ◌+◌, ◌*◌, List, Option, IfSome, replicate, refl, sym, ap, ◌∙◌, subst, arith, rules}
use Rattle.fz_image.specs.Tiles.{AreLoaded, tiles_from}
use Rattle.fz_compare.proofs.JobsSet.{AreSet, are_loaded, none_set, set_more}
use Rattle.fz_compare.proofs.coded.set_jobs.Goals as goal

pub loop-i-init : goal.loop-i-init
loop-i-init c = record {
  set = none_set c.args.layout.now c.args.first c.args.window.now;
  window = record { sizes = refl; workers = refl };
}

pub set_next-requires-clause-window : goal.set_next-requires-clause-window
set_next-requires-clause-window c =
    let n : ℕ = c.requires.window.0 in
    let stays = c.loop-i.invariant.window in
    (n, stays.sizes ∙ c.requires.window.1 ∙ ap (λ (k : ℕ). replicate {A = ℕ × ℕ} (2 * k) (2 * n, 8 * n + 64)) (sym stays.workers), c.requires.window.2)

pub set_next-requires-clause-near : goal.set_next-requires-clause-near
set_next-requires-clause-near c = omega (arith, c.loop-i.invariant.window.workers, c.requires.near)

pub loop-i-preserved : goal.loop-i-preserved
loop-i-preserved c =
    let put = c.set_next.ensures.put in
    let stays = c.loop-i.invariant.window in
    record {
      set = set_more c.args.layout.now c.args.first c.loop-i.i c.args.window.now c.loop-i.window c.set_next.new.window put.0 put.1 put.2 c.set_next.ensures.pixels c.loop-i.invariant.set;
      window = record { sizes = put.2.sizes ∙ stays.sizes; workers = put.2.workers ∙ stays.workers };
    }

pub returns-clause-loaded : goal.returns-clause-loaded
returns-clause-loaded c =
    let l = c.args.layout.now in
    let all : c.loop-i.i ≡ c.args.count = search rules in
    let set : AreSet l c.args.first c.args.count c.args.window.now c.loop-i.window = subst (λ n. AreSet l c.args.first n c.args.window.now c.loop-i.window) all c.loop-i.invariant.set in
    λ held pixels have told. are_loaded l held c.args.first c.args.count c.args.window.now c.loop-i.window c.requires.layout
    c.sizes_law.ensures.many c.sizes_law.ensures.alike c.requires.window c.requires.near set pixels have told
