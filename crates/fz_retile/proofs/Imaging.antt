-- The image at hand: it can be read, and is what the header of its HDU says (FITS 4.0, section 10.1).
use Rattle.std.proofs.Common.{◌≡◌, ℕ, ◌*◌, List, take, Option, Some, None, IfSome, Ok, refl, ap, ◌∙◌}
use Rattle.std.specs.Option.{ForSome}
use Rattle.fz_base.specs.Source.{HoldsOctets}
use Rattle.fz_grid.specs.declared.region.Region.{Region}
use Rattle.fz_checks.specs.declared.job_checks.PackedImage.{PackedImage}
use Rattle.fz_job.specs.Images.{IsReadable}
use Rattle.fz_job.specs.declared.survey.Survey.{Survey}
use Rattle.fz_retile.specs.Holds.{IsAtHand, IsKnownView}
use Rattle.fz_look.specs.Laws.{FoundIsReadable, HereIsKnown, IsKnownImage}
use Rattle.fz_look.specs.declared.here.Here.{Here}
use Rattle.fz_look.specs.declared.looked.First.{First}
use Rattle.fz_look.specs.declared.looked.Space.{Space}

module _ (length_is plain_len : ℕ) (s : Survey) (first : First) (space : Space) (here : Option Here) (boxed : Option Region) (h : Here) (i : PackedImage) (at : here ≡ Some h) (some : h.read.image ≡ Some i) where
  pub image_read : FoundIsReadable → IsAtHand length_is plain_len s space here boxed → IsReadable i
  image_read law hand =
      let r = hand.read h at in
      law h.read.header (take (2880 * h.read.header.blocks) space.header) h.after_empty i r.header (r.image ∙ ap Ok some) (r.table i some)

  pub image_known : HereIsKnown → (held : Option (List ℕ)) → HoldsOctets held → IsReadable i → ForSome held (λ g. IsKnownView g plain_len s first space here boxed) → IfSome held (λ g. IsKnownImage g h.read.header i)
  image_known law None octets readable known = tt
  image_known law (Some g) octets readable known =
      let w = known g refl in
      let told = w.told h at in
      law g s h i octets w.sound w.surveyed_is told.here some readable
