-- The box of before has the pixel, or another box is filled.
use Rattle.std.proofs.Common.{◌≡◌, ℕ, ◌/◌, ◌≤◌, Err, length, refl, sym, subst, arith, rules}
use Rattle.fz_base.specs.declared.failure.Failed.{Failed}
use Rattle.fz_grid.specs.Arrays.{product}
use Rattle.fz_grid.specs.Region.{region_lengths}
use Rattle.fz_grid.specs.declared.region.Region.{Region}
use Rattle.fz_files.specs.Packed.{pixel_bits}
use Rattle.fz_job.specs.Images.{IsReadable}
use Rattle.fz_look.specs.Boxes.{LiesInImage}
use Rattle.fz_retile.specs.Views.{with_more}
use Rattle.fz_retile.proofs.Boxing.{all_fit, boxed_shown, one_fits}
use Rattle.fz_retile.proofs.Imaging.{image_read}
use Rattle.fz_retile.proofs.Somes.{if_some}
use Rattle.fz_retile.proofs.Tallies.{cause_since, first_since}
use Rattle.fz_retile.proofs.view.PlainView.box_with.Goals as goal

pub has_pixel-requires : goal.has_pixel-requires
has_pixel-requires g c =
    let v = c.args.self.now in
    let i = c.args.image.now in
    let readable : IsReadable i = image_read v.length v.plain_len v.survey v.first v.space v.here v.boxed c.args.here.now i c.requires.here c.requires.image c.readable_law.ensures v.at_hand in
    let lies = v.at_hand.in_image c.in-Some.region c.in-Some.is c.args.here.now c.requires.here i c.requires.image in
    omega (arith, readable.divided.axes, lies.within.same_axes)

pub pixel_len-requires : goal.pixel_len-requires
pixel_len-requires g c =
    let v = c.args.self.now in
    let i = c.args.image.now in
    let readable : IsReadable i = image_read v.length v.plain_len v.survey v.first v.space v.here v.boxed c.args.here.now i c.requires.here c.requires.image c.readable_law.ensures v.at_hand in
    record { image = readable }

pub box_at-region-requires-clause-divided : goal.box_at-region-requires-clause-divided
box_at-region-requires-clause-divided g c =
    let v = c.args.self.now in
    let i = c.args.image.now in
    let readable : IsReadable i = image_read v.length v.plain_len v.survey v.first v.space v.here v.boxed c.args.here.now i c.requires.here c.requires.image c.readable_law.ensures v.at_hand in
    readable.divided

pub box_at-region-requires-clause-asked : goal.box_at-region-requires-clause-asked
box_at-region-requires-clause-asked g c = if_some c.args.self.now.asked (λ a. a.n ≤ 9) c.args.self.now.fixed.asked_few

pub box_at-region-requires-clause-some : goal.box_at-region-requires-clause-some
box_at-region-requires-clause-some g c =
    let v = c.args.self.now in
    let one = c.pixel_len.ensures in
    subst (λ n. 1 ≤ n / c.pixel_len.result) (sym c.len.ensures) (one_fits (length v.space.band) c.pixel_len.result v.room.band one.some one.few)

pub fill-requires-clause-region : goal.fill-requires-clause-region
fill-requires-clause-region g c =
    let v = c.args.self.now in
    let i = c.args.image.now in
    let count : ℕ = product (region_lengths c.box_at-region.result) in
    record {
      within = c.box_at-region.ensures.within;
      fits = all_fit (length v.space.band) c.pixel_len.result (pixel_bits i.plan / 8) count c.pixel_len.ensures.len (subst (λ n. count ≤ n / c.pixel_len.result) c.len.ensures c.box_at-region.ensures.fits);
    }

-- ---- the box of before

pub returns-then-has_pixel-clause-lies : goal.returns-then-has_pixel-clause-lies
returns-then-has_pixel-clause-lies g c =
    let v = c.args.self.now in
    v.at_hand.in_image c.in-Some.region c.in-Some.is c.args.here.now c.requires.here c.args.image.now c.requires.image

pub returns-then-has_pixel-clause-boxed : goal.returns-then-has_pixel-clause-boxed
returns-then-has_pixel-clause-boxed g c =
    let v = c.args.self.now in
    boxed_shown v.plain_len v.survey v.first v.space v.here v.boxed c.args.here.now c.in-Some.region c.requires.here c.in-Some.is (g.S.Source.held v.inner.now) v.known

-- ---- another one

pub returns-clause-lies : goal.returns-clause-lies
returns-clause-lies g c =
    let v = c.args.self.now in
    let i = c.args.image.now in
    let count : ℕ = product (region_lengths c.box_at-region.result) in
    subst (λ n. LiesInImage i.plan c.box_at-region.result n) (sym c.in_ok-fill.ensures.stays.1)
    (record {
      within = c.box_at-region.ensures.within;
      fits = all_fit (length v.space.band) c.pixel_len.result (pixel_bits i.plan / 8) count c.pixel_len.ensures.len (subst (λ n. count ≤ n / c.pixel_len.result) c.len.ensures c.box_at-region.ensures.fits);
    })

-- why it was not filled is why there is none
pub returns-in_err-fill-clause-cause : goal.returns-in_err-fill-clause-cause
returns-in_err-fill-clause-cause g c =
    let v = c.args.self.now in
    let new = c.fill.new.self in
    let before = with_more (g.S.Source.tally v.inner.now) v.more in
    let failed : Failed = c.in_err-fill.field-0.0 in
    let stopped : c.from_residual.result ≡ Err failed = search rules in
    record {
      counts = cause_since (Unit {0}) Region before before (with_more (g.S.Source.tally new.inner.now) new.more) failed c.from_residual.result stopped refl
          c.in_err-fill.ensures.cause.counts;
      first = first_since (Unit {0}) Region v.later v.later new.later failed c.from_residual.result stopped refl c.in_err-fill.ensures.cause.first;
    }
