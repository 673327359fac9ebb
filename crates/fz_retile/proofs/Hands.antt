-- What the header of the HDU at hand says of it (FITS 4.0, section 10.1).
use Rattle.std.proofs.Common.{◌≡◌, ℕ, ◌≤◌, List, length, Some, ap, subst}
use Rattle.fz_block.specs.Header.{next_start_of}
use Rattle.fz_block.specs.declared.header.Header.{Header}
use Rattle.fz_files.specs.declared.job.Job.TheVariants.{Unpack}
use Rattle.fz_job.specs.declared.survey.Survey.{Survey}
use Rattle.fz_job.specs.Known.{IsKnown}
use Rattle.fz_look.specs.Here.{here_of}
use Rattle.fz_look.specs.declared.here.Here.{Here}
use Rattle.fz_retile.proofs.Knowing.{IsAmong, among, seen_here}
use Rattle.fz_retile.proofs.Standing.{IsSeenAt}

module _ (g : List ℕ) (s : Survey) (known : IsKnown Unpack g s) (h : Here) (found : here_of g h.read.header.hdu ≡ Some h) where
  pub here : IsAmong g s known h.read.header.hdu h
  here = among g s known h.read.header.hdu h found

  pub seen : IsSeenAt g s.header_len s.tile here.header here.back
  seen = seen_here g s known here.front here.header here.back here.parts

  pub header_same : here.header ≡ h.read.header
  header_same = ap (λ (e : Here). e.read.header) here.with_it

  pub ends : next_start_of h.read.header ≤ length g
  ends = subst (λ (j : Header). next_start_of j ≤ length g) header_same seen.within
