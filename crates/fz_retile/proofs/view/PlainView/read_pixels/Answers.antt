-- The bytes are those of a line of the box.
use Rattle.std.proofs.Common.{◌≡◌, ℕ, ◌+◌, ◌-◌, ◌*◌, ◌/◌, ◌%◌, ◌<◌, ◌≤◌, List, take, drop, Option, refl, ◌∙◌, arith, length-take}
use Rattle.std.proofs.lemmas.Nat.{mod_below}
use Rattle.fz_grid.specs.Arrays.{place_of, product}
use Rattle.fz_grid.specs.Region.{lengths_of, region_lengths}
use Rattle.fz_files.specs.Packed.{pixel_bits}
use Rattle.fz_job.specs.Images.{IsReadable}
use Rattle.fz_look.specs.Boxes.{HasBox, inside_of, sieve_in}
use Rattle.fz_look.specs.Laws.{IsKnownImage}
use Rattle.fz_retile.proofs.Imaging.{image_known, image_read}
use Rattle.fz_retile.proofs.LineParts.{line_shown, part_of, pixel_low}
use Rattle.fz_retile.proofs.Shown.{pixels_shown}
use Rattle.fz_retile.proofs.Somes.{for_some}
use Rattle.fz_retile.proofs.view.PlainView.read_pixels.Goals as goal

pub pixel_len-size-requires : goal.pixel_len-size-requires
pixel_len-size-requires g c =
    let v = c.args.self.now in
    let i = c.args.image.now in
    let readable : IsReadable i = image_read v.length v.plain_len v.survey v.first v.space v.here v.boxed c.args.here.now i c.requires.here c.requires.image c.readable_law.ensures v.at_hand in
    record { image = readable }

pub coordinates-at-requires-clause-shape : goal.coordinates-at-requires-clause-shape
coordinates-at-requires-clause-shape g c =
    let v = c.args.self.now in
    let i = c.args.image.now in
    let readable : IsReadable i = image_read v.length v.plain_len v.survey v.first v.space v.here v.boxed c.args.here.now i c.requires.here c.requires.image c.readable_law.ensures v.at_hand in
    (c.shape_law.ensures.divided i.plan.shape i.plan.tile readable.divided).0

pub coordinates-at-requires-clause-place : goal.coordinates-at-requires-clause-place
coordinates-at-requires-clause-place g c =
    let v = c.args.self.now in
    let h = c.args.here.now in
    let i = c.args.image.now in
    let readable : IsReadable i = image_read v.length v.plain_len v.survey v.first v.space v.here v.boxed h i c.requires.here c.requires.image c.readable_law.ensures v.at_hand in
    let size : ℕ = c.pixel_len-size.result in
    let width : size ≡ pixel_bits i.plan / 8 = c.pixel_len-size.ensures.len in
    let end_is = (v.at_hand.read h c.requires.here).order.all_pixels i c.requires.image in
    pixel_low i readable c.args.from size width (omega (arith, c.requires.has, end_is))

pub line_in-place-requires-clause-region : goal.line_in-place-requires-clause-region
line_in-place-requires-clause-region g c =
    let v = c.args.self.now in
    let i = c.args.image.now in
    let readable : IsReadable i = image_read v.length v.plain_len v.survey v.first v.space v.here v.boxed c.args.here.now i c.requires.here c.requires.image c.readable_law.ensures v.at_hand in
    c.shape_law.ensures.region i.plan.shape c.in_ok-region.region (c.shape_law.ensures.divided i.plan.shape i.plan.tile readable.divided).0 c.in_ok-region.ensures.lies.within

pub returns-clause-bytes : goal.returns-clause-bytes
returns-clause-bytes g c =
    let v = c.args.self.now in
    let h = c.args.here.now in
    let i = c.args.image.now in
    let from : ℕ = c.args.from in
    let r = c.in_ok-region.region in
    let box = c.in_ok-region.ensures in
    let at : List ℕ = c.coordinates-at.result in
    let band : List ℕ = c.box_with.new.self.space.band in
    let n : ℕ = c.put_front.result in
    let size : ℕ = c.pixel_len-size.result in
    let held : Option (List ℕ) = g.S.Source.held v.inner.now in
    let readable : IsReadable i = image_read v.length v.plain_len v.survey v.first v.space v.here v.boxed h i c.requires.here c.requires.image c.readable_law.ensures v.at_hand in
    let width : size ≡ pixel_bits i.plan / 8 = c.pixel_len-size.ensures.len in
    let end_is = (v.at_hand.read h c.requires.here).order.all_pixels i c.requires.image in
    let low : from / size < product (lengths_of i.plan.shape) = pixel_low i readable from size width (omega (arith, c.requires.has, end_is)) in
    let known = image_known v.length v.plain_len v.survey v.first v.space v.here v.boxed h i c.requires.here c.requires.image c.image_law.ensures held (g.met.S.Source.octets v.inner.now) readable v.known in
    let lent : List ℕ = c.as_slice-band.result.now in
    let line = c.line_in-place.ensures in
    let first : ℕ = c.line_in-place.result.0 + from % size in
    let end : ℕ = c.line_in-place.result.1 in
    let place : ℕ = place_of (region_lengths r) (inside_of r at) in
    let rest : from % size < size = mod_below from size c.pixel_len-size.ensures.some in
    let few : first + n ≤ end = omega (arith, c.put_front.ensures.count, length-take (end - first) (drop first lent), rest, line.some) in
    let there : first ≡ from % size + size * place = omega (arith, line.first) in
    let read : take n c.put_front.new.into ≡ take n (drop (from % size + size * place) band) =
    c.put_front.ensures.bytes ∙ part_of n first end lent few ∙ (λ j. take n (drop (there j) (c.as_slice-band.ensures j))) in
    pixels_shown c.pieces_law.ensures held v.plain_len v.survey v.first v.space v.here v.boxed h c.requires.here v.known i c.requires.image from n c.put_front.new.into
    (λ f told.
    let is = for_some held (λ x. IsKnownImage x h.read.header i) known f told in
    let both =
    line_shown i readable r at from size place width (omega arith) (omega arith) (omega arith) box.lies.within box.has refl
    c.line_law.ensures.bytes c.tiles_law.ensures.whole f h.read.header n band c.put_front.new.into is.said c.coordinates-at.ensures.coordinates low
    (for_some held (λ x. HasBox x h.read.header (sieve_in r) band) box.boxed f told) (omega (arith, few, line.first, line.end)) read in
    (both.0, omega (arith, both.1, end_is)))
