-- What the calls that write a header ask for.
use Rattle.std.specs.Prelude.{◌≡◌, ℕ, ◌<◌, ◌^◌, Bool, true, List, Ok}
use Rattle.fz_block.specs.declared.header.Header.{Header}
use Rattle.fz_head.specs.declared.options.PackOptions.{PackOptions}
use Rattle.fz_head.specs.declared.plan.Plan.{Plan}
use Rattle.fz_head.specs.declared.totals.Totals.{Totals}
use Rattle.fz_head.specs.Packable.{is_packable}
use Rattle.fz_head.specs.PackChecks.{pack_answer}
use Rattle.fz_head.specs.PackedChecks.{plan_answer}
use Rattle.fz_head.specs.Planned.{AreOptions}

-- the plan is one that the checks give for the image with this header, by some options that ask for sums or not
pub record IsPackPlan (header : List ℕ) (h : Header) (sums : Bool) (p : Plan) : Type 0 where
  pub options : PackOptions
  pub allowed : AreOptions options
  pub with_sums : options.sums ≡ sums
  pub packable : is_packable h ≡ true
  pub answer : pack_answer options h header ≡ Ok p

-- the plan is one that a packed header with these cards stands for, if its checks pass
pub record IsPackedPlan (header : List ℕ) (h : Header) (p : Plan) : Type 0 where
  pub after_empty : Bool
  pub answer : plan_answer h.hdu header after_empty ≡ Ok p

-- totals that a card can say: at most 18 digits each
pub record AreShort (s : Totals) : Type 0 where
  pub heap : s.heap < 10 ^ 18
  pub coded : s.emax_coded < 10 ^ 18
  pub stored : s.emax_stored < 10 ^ 18
