-- What a view knows that does not depend on what was read: the source shows the same bytes as before.
use Rattle.std.proofs.Common.{◌≡◌, ℕ, List, length, Option, sym, subst}
use Rattle.std.specs.Option.{ForSome}
use Rattle.fz_base.specs.Counts.{Tally}
use Rattle.fz_base.specs.Source.{HoldsOctets}
use Rattle.fz_base.specs.declared.fault.Fault.{Fault}
use Rattle.fz_base.specs.declared.failure.Failed.{Failed}
use Rattle.fz_grid.specs.declared.region.Region.{Region}
use Rattle.fz_job.specs.declared.survey.Survey.{Survey}
use Rattle.fz_retile.specs.Holds.{AreFailures, AreRefusals, IsKnownView}
use Rattle.fz_retile.specs.Views.{restored_from}
use Rattle.fz_look.specs.declared.here.Here.{Here}
use Rattle.fz_look.specs.declared.looked.First.{First}
use Rattle.fz_look.specs.declared.looked.Space.{Space}

module _ (held held' : Option (List ℕ)) (same : held' ≡ held) where
  pub fits_same : (plain_len : ℕ) → ForSome (restored_from held) (λ u. length u ≡ plain_len) → ForSome (restored_from held') (λ u. length u ≡ plain_len)
  fits_same plain_len fits = subst (λ (h : Option (List ℕ)). ForSome (restored_from h) (λ u. length u ≡ plain_len)) (sym same) fits

  pub octets_same : HoldsOctets (restored_from held) → HoldsOctets (restored_from held')
  octets_same octets = subst (λ (h : Option (List ℕ)). HoldsOctets (restored_from h)) (sym same) octets

  pub refusals_same : (later : Option Fault) (more : ℕ) → AreRefusals held later more → AreRefusals held' later more
  refusals_same later more was = subst (λ (h : Option (List ℕ)). AreRefusals h later more) (sym same) was

  pub known_same : (plain_len : ℕ) (s : Survey) (first : First) (space : Space) (here : Option Here) (boxed : Option Region) → ForSome held (λ g. IsKnownView g plain_len s first space here boxed) →
      ForSome held' (λ g. IsKnownView g plain_len s first space here boxed)
  known_same plain_len s first space here boxed known = subst (λ (h : Option (List ℕ)). ForSome h (λ g. IsKnownView g plain_len s first space here boxed)) (sym same) known

pub failures_same : (start t0 t1 : Tally) (failed : Option Failed) → t1 ≡ t0 → AreFailures start t0 failed → AreFailures start t1 failed
failures_same start t0 t1 failed same was = subst (λ (t : Tally). AreFailures start t failed) (sym same) was
