-- A header at the front of a longer buffer.
use Rattle.std.proofs.Common.{ℕ, List, Option, Some, None, IfSome, arith}
use Rattle.fz_head.specs.Planned.{IsTile}
use Rattle.fz_checks.specs.declared.job_checks.PackedImage.{PackedImage}
use Rattle.fz_tile.specs.Codecs.{ReadsCodes}
use Rattle.fz_job.specs.Again.{IsAgain, IsUsable, header_at_front}
use Rattle.fz_job.specs.declared.again.ReadHdu.{ReadHdu}

-- its image has a tile and a codec that can be asked for
by_image : (held : Option (List ℕ)) (n : ℕ) (buf : List ℕ) (a : ReadHdu) (image : Option PackedImage) → IfSome image (IsUsable (header_at_front a buf) a.header n) → IfSome image (λ i. IsTile (Some i.plan.tile) × ReadsCodes i.plan.codec)
by_image held n buf a None usable = tt
by_image held n buf a (Some i) usable =
    let d = usable.readable.divided in
    let same = d.same_axes in
    let some = d.some in
    let few = d.axes in
    ((omega (arith, same, some), omega (arith, same, few), λ k low. d.positive k (omega (arith, same, low))), usable.readable.codec.codes)

pub image_tile : (held : Option (List ℕ)) (n : ℕ) (buf : List ℕ) (a : ReadHdu) → IsAgain held n buf a → IfSome a.image (λ i. IsTile (Some i.plan.tile) × ReadsCodes i.plan.codec)
image_tile held n buf a w = by_image held n buf a a.image w.usable

first_part : (P Q : PackedImage → Type 0) (image : Option PackedImage) → IfSome image (λ i. P i × Q i) → IfSome image P
first_part P Q None is = tt
first_part P Q (Some i) is = is.0

pub image_only_tile : (held : Option (List ℕ)) (n : ℕ) (buf : List ℕ) (a : ReadHdu) → IsAgain held n buf a → IfSome a.image (λ i. IsTile (Some i.plan.tile))
image_only_tile held n buf a w = first_part (λ i. IsTile (Some i.plan.tile)) (λ i. ReadsCodes i.plan.codec) a.image (image_tile held n buf a w)
