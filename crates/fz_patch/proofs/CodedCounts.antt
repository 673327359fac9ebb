-- How many elements the code in a slot has in its column (FITS 4.0, sections 7.3.5 and 10.1.3).
use Rattle.std.proofs.Common.{◌≡◌, ℕ, ◌+◌, ◌*◌, ◌/◌, ◌≤◌, unsigned_abs, max, length, take, if◌then◌else◌, refl, sym, ap, ◌∙◌, subst, arith, length-take-le}
use Rattle.fz_tile.specs.declared.coded.Place2.{Place2}
use Rattle.fz_tile.specs.declared.coded.Place2.TheVariants.{Coded, Stored}
use Rattle.fz_head.specs.PackedTable.{coded_unit}
use Rattle.fz_head.specs.Planned.{pixel_len}
use Rattle.fz_head.specs.declared.plan.Plan.{Plan}
use Rattle.fz_files.specs.Packed.{coded_count, is_coded, stored_count}
use Rattle.fz_pool.specs.Round.{coded_tile}
use Rattle.fz_pool.specs.declared.slot.Slot.{Slot}
use Rattle.fz_target.specs.Measures.{measured_with}
use Rattle.fz_target.specs.declared.measure.Measure.{Measure}

pub slot_long : (x : Slot) → x.job.len ≤ length x.code → length (coded_tile x).bytes ≡ x.job.len
slot_long x within = length-take-le x.job.len x.code within

pub codes_of_coded : (p : Plan) (x : Slot) (unit : ℕ) → x.job.place ≡ Coded → x.job.len ≤ length x.code → unit ≡ coded_unit p.codec → x.job.len / unit ≡ coded_count p (coded_tile x)
codes_of_coded p x unit place within is =
    subst (λ (q : Place2). x.job.len / unit ≡ (if is_coded q then length (take x.job.len x.code) / coded_unit p.codec else 0)) (sym place)
    (λ j. sym (slot_long x within) j / is j)

pub codes_of_stored : (p : Plan) (x : Slot) → x.job.place ≡ Stored → 0 ≡ coded_count p (coded_tile x)
codes_of_stored p x place = subst (λ (q : Place2). 0 ≡ (if is_coded q then length (take x.job.len x.code) / coded_unit p.codec else 0)) (sym place) refl

pub pixels_of_coded : (p : Plan) (x : Slot) → x.job.place ≡ Coded → 0 ≡ stored_count p (coded_tile x)
pixels_of_coded p x place = subst (λ (q : Place2). 0 ≡ (if is_coded q then 0 else length (take x.job.len x.code) / pixel_len p.bitpix)) (sym place) refl

pub pixels_of_stored : (p : Plan) (x : Slot) (size : ℕ) → x.job.place ≡ Stored → x.job.len ≤ length x.code → size ≡ unsigned_abs p.bitpix / 8 * 1 → x.job.len / size ≡ stored_count p (coded_tile x)
pixels_of_stored p x size place within is =
    let one : unsigned_abs p.bitpix / 8 * 1 ≡ pixel_len p.bitpix = omega arith in
    subst (λ (q : Place2). x.job.len / size ≡ (if is_coded q then 0 else length (take x.job.len x.code) / pixel_len p.bitpix)) (sym place)
    (λ j. sym (slot_long x within) j / (is ∙ one) j)

-- what is known with the code in the slot
pub with_code : (p : Plan) (m : Measure) (x : Slot) (bytes coded stored : ℕ) → x.job.len ≤ length x.code → bytes ≡ m.bytes + x.job.len → coded ≡ max m.coded (coded_count p (coded_tile x)) →
    stored ≡ max m.stored (stored_count p (coded_tile x)) → record { bytes = bytes; coded = coded; stored = stored } ≡ measured_with p m (coded_tile x)
with_code p m x bytes coded stored within b c s = λ j. record { bytes = (b ∙ ap (λ n. m.bytes + n) (sym (slot_long x within))) j; coded = c j; stored = s j }
