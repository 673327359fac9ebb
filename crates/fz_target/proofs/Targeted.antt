-- The target by the bytes of a file, before and after writes.
use Rattle.std.proofs.Common.{◌≡◌, ℕ, List, sym, ap, ◌∙◌}
use Rattle.fz_files.specs.FirstFault.{picked_tiles_of}
use Rattle.fz_files.specs.Restored.{plan_in}
use Rattle.fz_laws.specs.Given.{box_sieve}
use Rattle.fz_laws.specs.NewNumbers.{box_tiles}
use Rattle.fz_target.specs.Targets.{IsGivenTo, IsTargetIn, given_at}
use Rattle.fz_target.specs.declared.target.Target.{Target}

-- the tiles with a pixel in the box
pub tiles_of : (f : List ℕ) (t : Target) (corner patch : List ℕ) → IsTargetIn f t → IsGivenTo corner patch t → box_tiles (plan_in f t.header) (given_at corner patch) ≡ picked_tiles_of t.image.plan t.sieve
tiles_of f t corner patch is to =
    ap (λ p. picked_tiles_of p (box_sieve (given_at corner patch))) is.said.plan ∙ ap (picked_tiles_of t.image.plan) (sym to.sieve)
