-- The part of a sieve in a region, by what the tables of both have.
use Rattle.std.proofs.Common.{◌≡◌, ℕ, ◌+◌, ◌-◌, ◌*◌, ◌/◌, ◌<◌, ◌≤◌, min, length, get_or, take, ap, sym, ◌∙◌, arith, length-take}
use Rattle.std.proofs.lemmas.List.{get_or-take}
use Rattle.std.proofs.lemmas.Nat.{div-mul-add}
use Rattle.fz_block.specs.declared.axes.Axes.{Axes}
use Rattle.fz_grid.specs.declared.part.Part.{Part}
use Rattle.fz_grid.specs.declared.region.Region.{Region}
use Rattle.fz_grid.specs.declared.sieve.Sieve.{Sieve}
use Rattle.fz_grid.specs.Parts.{IsPartOf}
use Rattle.fz_grid.specs.Region.{IsShape, axes_of, lengths_of, region_corner, region_lengths}
use Rattle.fz_grid.specs.Sieve.{IsSieveOf, all_before, pick_count, picks_in, sieve_hi, sieve_lengths, sieve_lo, sieve_step}
use Rattle.fz_grid.specs.Cutout.{Sifts, first_from}
use Rattle.fz_grid.specs.Line.{IsPartBetween}
use Rattle.fz_grid.proofs.PartLemmas.{counts_at}
use Rattle.fz_grid.proofs.TableLemmas.{befores_list, firsts_list, parts_list, same_front}

-- how many picks an axis of a sieve has, by the cutout's lengths
pub cutout_at : (cutout : Axes) (sieve : Sieve) (i : ℕ) → sieve.n ≤ length sieve.lo → sieve.n ≤ length sieve.hi → sieve.n ≤ length sieve.step → cutout.n ≡ sieve.n → lengths_of cutout ≡ sieve_lengths sieve → i < sieve.n → get_or cutout.len i 0 ≡ pick_count (get_or sieve.lo i 0) (get_or sieve.hi i 0) (get_or sieve.step i 0)
cutout_at cutout sieve i in_lo in_hi in_step same lengths h =
    let n = sieve.n in
    let of_lo = length-take n sieve.lo in
    let of_hi : length (take n sieve.hi) ≡ length (take n sieve.lo) = omega (arith, of_lo, length-take n sieve.hi) in
    let of_step : length (take n sieve.step) ≡ length (take n sieve.lo) = omega (arith, of_lo, length-take n sieve.step) in
    let counts = counts_at (take n sieve.lo) (take n sieve.hi) (take n sieve.step) i of_hi of_step (omega (arith, of_lo)) in
    sym (get_or-take cutout.n cutout.len i 0 (omega (arith, same)))
    ∙ (ap (λ l. get_or l i 0) lengths
    ∙ (counts
    ∙ (ap (λ o. pick_count o (get_or (take n sieve.hi) i 0) (get_or (take n sieve.step) i 0)) (get_or-take n sieve.lo i 0 h)
    ∙ (ap (λ e. pick_count (get_or sieve.lo i 0) e (get_or (take n sieve.step) i 0)) (get_or-take n sieve.hi i 0 h)
    ∙ ap (pick_count (get_or sieve.lo i 0) (get_or sieve.hi i 0)) (get_or-take n sieve.step i 0 h)))))

-- a sieve, a region and a part with tables of 9 entries
pub record AreTables (sieve : Sieve) (region : Region) (part : Part) : Type 0 where
  pub lo : sieve.n ≤ length sieve.lo
  pub hi : sieve.n ≤ length sieve.hi
  pub step : sieve.n ≤ length sieve.step
  pub region_lo : length region.lo ≡ 9
  pub region_len : length region.len ≡ 9
  pub at_lo : length part.at.lo ≡ 9
  pub at_len : length part.at.len ≡ 9
  pub inside_lo : length part.inside.lo ≡ 9
  pub inside_step : length part.inside.step ≡ 9
  pub few : sieve.n ≤ 9
  pub axes : region.n ≡ sieve.n

pub part_starts : (sieve : Sieve) (region : Region) (part : Part) → AreTables sieve region part → IsPartOf sieve region part → sieve_lo part.inside ≡ first_from (sieve_lo sieve) (sieve_hi sieve) (sieve_step sieve) (region_corner region)
part_starts sieve region part are is =
    let n = sieve.n in
    let same : part.inside.n ≡ n = is.within.same_axes ∙ are.axes in
    let few = are.few in
    ap (λ m. take m part.inside.lo) same
    ∙ (firsts_list part.inside.lo sieve.lo sieve.hi sieve.step region.lo n (omega (arith, are.inside_lo, few)) are.lo are.hi are.step (omega (arith, are.region_lo, few)) (λ i h.
    let in_region : i < region.n = omega (arith, are.axes) in
    let from = is.from i in_region in
    let times = ap (λ f. f * get_or sieve.step i 0) (is.first i in_region) in
    omega (arith, from, times))
    ∙ ap (λ m. first_from (sieve_lo sieve) (sieve_hi sieve) (sieve_step sieve) (take m region.lo)) (sym are.axes))

pub part_steps : (sieve : Sieve) (region : Region) (part : Part) → AreTables sieve region part → IsPartOf sieve region part → sieve_step part.inside ≡ sieve_step sieve
part_steps sieve region part are is =
    let same : part.inside.n ≡ sieve.n = is.within.same_axes ∙ are.axes in
    ap (λ m. take m part.inside.step) same
    ∙ same_front part.inside.step sieve.step sieve.n (omega (arith, are.inside_step, are.few)) are.step (λ i h. is.step i (omega (arith, are.axes)))

pub part_corner : (sieve : Sieve) (region : Region) (part : Part) → AreTables sieve region part → IsPartOf sieve region part → region_corner part.at ≡ all_before (sieve_lo sieve) (sieve_hi sieve) (sieve_step sieve) (region_corner region)
part_corner sieve region part are is =
    let n = sieve.n in
    let same : part.at.n ≡ n = is.axes ∙ are.axes in
    let few = are.few in
    ap (λ m. take m part.at.lo) same
    ∙ (befores_list part.at.lo sieve.lo sieve.hi sieve.step region.lo n (omega (arith, are.at_lo, few)) are.lo are.hi are.step (omega (arith, are.region_lo, few)) (λ i h. is.first i (omega (arith, are.axes)))
    ∙ ap (λ m. all_before (sieve_lo sieve) (sieve_hi sieve) (sieve_step sieve) (take m region.lo)) (sym are.axes))

pub part_counts : (sieve : Sieve) (region : Region) (part : Part) → AreTables sieve region part → IsPartOf sieve region part → region_lengths part.at ≡ picks_in (sieve_lo sieve) (sieve_hi sieve) (sieve_step sieve) (region_corner region) (region_lengths region)
part_counts sieve region part are is =
    let n = sieve.n in
    let same : part.at.n ≡ n = is.axes ∙ are.axes in
    let few = are.few in
    ap (λ m. take m part.at.len) same
    ∙ (parts_list part.at.len sieve.lo sieve.hi sieve.step region.lo region.len n (omega (arith, are.at_len, few)) are.lo are.hi are.step (omega (arith, are.region_lo, few)) (omega (arith, are.region_len, few)) (λ i h. is.count i (omega (arith, are.axes)))
    ∙ ap (λ m. picks_in (sieve_lo sieve) (sieve_hi sieve) (sieve_step sieve) (take m region.lo) (take m region.len)) (sym are.axes))

-- the picks in a box are as many as were counted
count_again : (lo hi step s count : ℕ) → step ≡ s → 1 ≤ s → 1 ≤ count → hi ≡ lo + (count - 1) * s → count ≡ pick_count lo hi step
count_again lo hi step s count same some at_least to =
    let apart : hi - lo ≡ (count - 1) * s + 0 = omega (arith, to) in
    let steps : (hi - lo) / step ≡ count - 1 = ap (λ x. (hi - lo) / x) same ∙ (ap (λ x. x / s) apart ∙ div-mul-add (count - 1) s 0 some) in
    omega (arith, steps, at_least)

-- the part of a region lies between the region and the cutout
pub part_between : (sieve : Sieve) (region : Region) (part : Part) (cutout : Axes) → AreTables sieve region part → IsPartOf sieve region part → IsShape (axes_of region) → IsShape cutout → cutout.n ≡ sieve.n → lengths_of cutout ≡ sieve_lengths sieve → ((i : ℕ) → i < sieve.n → 1 ≤ get_or sieve.step i 0) → IsPartBetween (axes_of region) cutout part
part_between sieve region part cutout are is tile_is cutout_is same lengths positive =
    record {
      tile_is = tile_is;
      cutout_is = cutout_is;
      same_axes = same ∙ sym are.axes;
      inside = is.within;
      at =
          record {
            same_axes = is.axes ∙ (are.axes ∙ sym same);
            positive = λ i h. is.some i (omega (arith, same, are.axes));
            inside =
                λ i h.
                let here = cutout_at cutout sieve i are.lo are.hi are.step same lengths (omega (arith, same)) in
                omega (arith, here, is.fits i (omega (arith, same, are.axes)));
          };
      counts =
          λ i h.
          count_again (get_or part.inside.lo i 0) (get_or part.inside.hi i 0) (get_or part.inside.step i 0) (get_or sieve.step i 0) (get_or part.at.len i 0) (is.step i h) (positive i (omega (arith, are.axes))) (is.some i h) (is.to i h);
    }

-- a sieve that a call takes is one of the array's lengths
pub sifts_of : (shape : Axes) (sieve : Sieve) → shape.n ≤ length shape.len → shape.n ≤ length sieve.lo → shape.n ≤ length sieve.hi → shape.n ≤ length sieve.step → IsSieveOf shape sieve → Sifts (lengths_of shape) sieve
sifts_of shape sieve in_len in_lo in_hi in_step is =
    let same = is.same_axes in
    let of_shape : length (lengths_of shape) ≡ shape.n = length-take shape.n shape.len ∙ omega arith in
    let of_lo : length (sieve_lo sieve) ≡ shape.n = length-take sieve.n sieve.lo ∙ omega (arith, same) in
    let of_hi : length (sieve_hi sieve) ≡ shape.n = length-take sieve.n sieve.hi ∙ omega (arith, same) in
    let of_step : length (sieve_step sieve) ≡ shape.n = length-take sieve.n sieve.step ∙ omega (arith, same) in
    record {
      los = of_lo ∙ sym of_shape;
      his = of_hi ∙ sym of_shape;
      steps = of_step ∙ sym of_shape;
      ordered =
          λ i h.
          let in_shape : i < shape.n = omega (arith, of_shape) in
          let in_sieve : i < sieve.n = omega (arith, same) in
          rw (get_or-take sieve.n sieve.lo i 0 in_sieve, get_or-take sieve.n sieve.hi i 0 in_sieve) (is.ordered i in_shape);
      inside =
          λ i h.
          let in_shape : i < shape.n = omega (arith, of_shape) in
          let in_sieve : i < sieve.n = omega (arith, same) in
          rw (get_or-take shape.n shape.len i 0 in_shape, get_or-take sieve.n sieve.hi i 0 in_sieve) (is.inside i in_shape);
      positive =
          λ i h.
          let in_shape : i < shape.n = omega (arith, of_shape) in
          let in_sieve : i < sieve.n = omega (arith, same) in
          rw (get_or-take sieve.n sieve.step i 0 in_sieve) (is.positive i in_shape);
    }

-- a sieve of the array's lengths has entries for its axes
pub tables_of : (shape : Axes) (sieve : Sieve) (region : Region) (part : Part) → shape.n ≤ length shape.len → shape.n ≤ 9 → sieve.n ≡ shape.n → region.n ≡ shape.n → Sifts (lengths_of shape) sieve → length region.lo ≡ 9 → length region.len ≡ 9 → length part.at.lo ≡ 9 → length part.at.len ≡ 9 → length part.inside.lo ≡ 9 → length part.inside.step ≡ 9 → AreTables sieve region part
tables_of shape sieve region part long few same axes sifts region_lo region_len at_lo at_len inside_lo inside_step =
    let of_shape : length (lengths_of shape) ≡ shape.n = length-take shape.n shape.len ∙ omega (arith, long) in
    let of_lo : min sieve.n (length sieve.lo) ≡ shape.n = sym (length-take sieve.n sieve.lo) ∙ (sifts.los ∙ of_shape) in
    let of_hi : min sieve.n (length sieve.hi) ≡ shape.n = sym (length-take sieve.n sieve.hi) ∙ (sifts.his ∙ of_shape) in
    let of_step : min sieve.n (length sieve.step) ≡ shape.n = sym (length-take sieve.n sieve.step) ∙ (sifts.steps ∙ of_shape) in
    record {
      lo = omega (arith, of_lo, same);
      hi = omega (arith, of_hi, same);
      step = omega (arith, of_step, same);
      region_lo = region_lo;
      region_len = region_len;
      at_lo = at_lo;
      at_len = at_len;
      inside_lo = inside_lo;
      inside_step = inside_step;
      few = omega (arith, few, same);
      axes = axes ∙ sym same;
    }
