-- What the header of the HDU at hand says of it (FITS 4.0, section 10.1).
use Rattle.std.proofs.Common.{◌≡◌, ℕ, Bool, true, false, if◌then◌else◌, List, Option, Some, None, refl, sym, ap, ◌∙◌, subst}
use Rattle.fz_block.specs.declared.header.Header.{Header}
use Rattle.fz_checks.specs.JobChecks.{image_in, is_after_empty}
use Rattle.fz_checks.specs.declared.job_checks.PackedImage.{PackedImage}
use Rattle.fz_files.specs.Restored.{header_in, is_image}
use Rattle.fz_files.specs.declared.job.Job.TheVariants.{Unpack}
use Rattle.fz_job.specs.Images.{IsSaid}
use Rattle.fz_job.specs.declared.survey.Survey.{Survey}
use Rattle.fz_job.specs.Known.{IsKnown}
use Rattle.fz_look.specs.Here.{here_of, image_or_none}
use Rattle.fz_look.specs.declared.here.Here.{Here}
use Rattle.fz_look.proofs.Knowing.{IsAmong, among, seen_here}
use Rattle.fz_look.proofs.Said.{image_if}
use Rattle.fz_look.proofs.Standing.{IsSeenAt}

is_there : (b : Bool) (q i : PackedImage) → Some i ≡ (if b then Some q else None) → (b ≡ true) × (i ≡ q)
is_there true q i is = (refl, cc)
is_there false q i is = absurd cc

is_not : (b : Bool) (q : PackedImage) → ◌≡◌ {A = Option PackedImage} None (if b then Some q else None) → b ≡ false
is_not true q is = absurd cc
is_not false q is = refl

module _ (g : List ℕ) (s : Survey) (known : IsKnown Unpack g s) (h : Here) (found : here_of g h.read.header.hdu ≡ Some h) where
  pub here : IsAmong g s known h.read.header.hdu h
  here = among g s known h.read.header.hdu h found

  pub seen : IsSeenAt g s.header_len s.tile here.header here.back
  seen = seen_here g s known here.front here.header here.back here.parts

  pub header_same : here.header ≡ h.read.header
  header_same = ap (λ (e : Here). e.read.header) here.with_it

  -- the image that was seen
  image_seen : h.read.image ≡ seen.seen.image
  image_seen = sym (ap (λ (e : Here). e.read.image) here.with_it) ∙ ap image_or_none seen.seen.said

  image_by_header : h.read.image ≡ (if is_image g here.header then Some (image_in here.header (header_in g here.header)) else None)
  image_by_header = image_seen ∙ image_if here.header (header_in g here.header) (is_after_empty g here.header) seen.seen.image seen.seen.said

  pub copied_here : h.read.image ≡ None → is_image g h.read.header ≡ false
  copied_here none =
      subst (λ (j : Header). is_image g j ≡ false) header_same
      (is_not (is_image g here.header) (image_in here.header (header_in g here.header)) (sym none ∙ image_by_header))

  pub image_here : (i : PackedImage) → h.read.image ≡ Some i → IsSaid g h.read.header i × (is_image g h.read.header ≡ true)
  image_here i some =
      let both = is_there (is_image g here.header) (image_in here.header (header_in g here.header)) i (sym some ∙ image_by_header) in
      subst (λ (j : Header). IsSaid g j i × (is_image g j ≡ true)) header_same
      (record { plan = ap (λ (q : PackedImage). q.plan) (sym both.1); table = ap (λ (q : PackedImage). q.table) (sym both.1) }, both.0)
