-- One run after another.
use Rattle.std.proofs.Common.{◌≡◌, ℕ, ◌+◌, ◌*◌, ◌<◌, ◌≤◌, List, [], ◌∷◌, length, Option, refl, sym, ap, ◌∙◌, subst, arith, rules}
use Rattle.fz_base.specs.Source.{LogsWithin}
use Rattle.fz_grid.specs.Arrays.{product}
use Rattle.fz_grid.specs.Region.{lengths_of, places_of, region_corner, region_lengths}
use Rattle.fz_grid.specs.Runs.{AreApart, EndWithin, total_length}
use Rattle.fz_grid.specs.Walks.{runs_left}
use Rattle.fz_image.specs.Strips.{HasStrips}
use Rattle.fz_image.proofs.Gathering.{next_apart, next_inside, next_total, read_all, read_more, read_none, run_fits, run_places, run_within, runs_below, some_bytes}
use Rattle.fz_image.proofs.gather.read_region.Goals as goal

pub loop-first-init : goal.loop-first-init
loop-first-init g c =
    let same = c.into_iter-first-iterator.ensures.into_iter_gives in
    let runs = c.runs-first-items.ensures in
    record {
      held = refl;
      attached = refl;
      told_ranges = λ told. told;
      log = c.log_law.ensures.none c.args.layout.now.pixels_at (c.args.layout.now.pixels_at + c.args.layout.now.pixel_len * product (lengths_of c.args.layout.now.plan.shape)) (g.S.Source.ranges c.args.source.now);
      reads = refl;
      long = refl;
      apart = subst (λ r. AreApart (runs_left r)) (sym same) runs.runs.longest;
      inside = subst (λ r. EndWithin (product (lengths_of c.args.layout.now.plan.shape)) (runs_left r)) (sym same) runs.inside;
      left = omega (arith, ap (λ n. c.args.layout.now.pixel_len * n) (ap (λ r. total_length (runs_left r)) same ∙ runs.pixels), c.requires.room);
      pixels = read_none c.args.layout.now.pixel_len c.args.layout.now.pixels_at _ (g.S.Source.held c.args.source.now) c.args.into.now (runs_left c.into_iter-first-iterator.result) (ap (λ r. run_places (runs_left r)) same ∙ runs.runs.listed);
    }

pub overflow_mul-len : goal.overflow_mul-len
overflow_mul-len g c =
    let next : runs_left c.loop-first.first-iterator ≡ (c.in-Some.first, c.in-Some.count) ∷ runs_left c.next.new.self = c.in-Some.ensures.steps in
    let w : ℕ = c.args.layout.now.pixel_len in
    let most : ℕ = product (lengths_of c.args.layout.now.plan.shape) in
    let inside = next_inside most c.in-Some.first c.in-Some.count _ _ next c.loop-first.invariant.inside in
    let within : c.args.layout.now.pixels_at + w * c.in-Some.first + w * c.in-Some.count ≤ c.args.layout.now.pixels_at + w * most =
    run_within w c.args.layout.now.pixels_at c.in-Some.first c.in-Some.count most (c.args.layout.now.pixels_at + w * most) inside.0 (omega arith) in
    record { fits = omega (arith, within, c.requires.near, ap (λ n. n * c.in-Some.count) c.from.ensures) }

pub overflow_mul-from : goal.overflow_mul-from
overflow_mul-from g c =
    let next : runs_left c.loop-first.first-iterator ≡ (c.in-Some.first, c.in-Some.count) ∷ runs_left c.next.new.self = c.in-Some.ensures.steps in
    let w : ℕ = c.args.layout.now.pixel_len in
    let most : ℕ = product (lengths_of c.args.layout.now.plan.shape) in
    let inside = next_inside most c.in-Some.first c.in-Some.count _ _ next c.loop-first.invariant.inside in
    let within : c.args.layout.now.pixels_at + w * c.in-Some.first + w * c.in-Some.count ≤ c.args.layout.now.pixels_at + w * most =
    run_within w c.args.layout.now.pixels_at c.in-Some.first c.in-Some.count most (c.args.layout.now.pixels_at + w * most) inside.0 (omega arith) in
    record { fits = omega (arith, within, c.requires.near, ap (λ n. n * c.in-Some.first) c.from-in-loop-first.ensures) }

pub overflow_add-from : goal.overflow_add-from
overflow_add-from g c =
    let next : runs_left c.loop-first.first-iterator ≡ (c.in-Some.first, c.in-Some.count) ∷ runs_left c.next.new.self = c.in-Some.ensures.steps in
    let w : ℕ = c.args.layout.now.pixel_len in
    let most : ℕ = product (lengths_of c.args.layout.now.plan.shape) in
    let inside = next_inside most c.in-Some.first c.in-Some.count _ _ next c.loop-first.invariant.inside in
    let within : c.args.layout.now.pixels_at + w * c.in-Some.first + w * c.in-Some.count ≤ c.args.layout.now.pixels_at + w * most =
    run_within w c.args.layout.now.pixels_at c.in-Some.first c.in-Some.count most (c.args.layout.now.pixels_at + w * most) inside.0 (omega arith) in
    record { fits = omega (arith, within, c.requires.near, ap (λ n. n * c.in-Some.first) c.from-in-loop-first.ensures) }

pub overflow_add-done : goal.overflow_add-done
overflow_add-done g c =
    let next : runs_left c.loop-first.first-iterator ≡ (c.in-Some.first, c.in-Some.count) ∷ runs_left c.next.new.self = c.in-Some.ensures.steps in
    let w : ℕ = c.args.layout.now.pixel_len in
    let most : ℕ = product (lengths_of c.args.layout.now.plan.shape) in
    let inside = next_inside most c.in-Some.first c.in-Some.count _ _ next c.loop-first.invariant.inside in
    let within : c.args.layout.now.pixels_at + w * c.in-Some.first + w * c.in-Some.count ≤ c.args.layout.now.pixels_at + w * most =
    run_within w c.args.layout.now.pixels_at c.in-Some.first c.in-Some.count most (c.args.layout.now.pixels_at + w * most) inside.0 (omega arith) in
    let total = next_total c.in-Some.first c.in-Some.count _ _ next in
    let fits = run_fits w c.loop-first.done c.in-Some.count (total_length (runs_left c.next.new.self)) (length c.args.into.now)
    (ap (λ n. c.loop-first.done + w * n) (sym total) ∙ c.loop-first.invariant.left) in
    record { fits = omega (arith, fits.0, within, c.requires.near, ap (λ n. n * c.in-Some.count) c.from.ensures) }

pub get_part-requires-clause-within : goal.get_part-requires-clause-within
get_part-requires-clause-within g c =
    let next : runs_left c.loop-first.first-iterator ≡ (c.in-Some.first, c.in-Some.count) ∷ runs_left c.next.new.self = c.in-Some.ensures.steps in
    let w : ℕ = c.args.layout.now.pixel_len in
    let most : ℕ = product (lengths_of c.args.layout.now.plan.shape) in
    let inside = next_inside most c.in-Some.first c.in-Some.count _ _ next c.loop-first.invariant.inside in
    let within : c.args.layout.now.pixels_at + w * c.in-Some.first + w * c.in-Some.count ≤ c.args.layout.now.pixels_at + w * most =
    run_within w c.args.layout.now.pixels_at c.in-Some.first c.in-Some.count most (c.args.layout.now.pixels_at + w * most) inside.0 (omega arith) in
    (c.requires.within.0, c.loop-first.invariant.attached ∙ c.requires.within.1, omega (arith, within, c.requires.within.2, ap (λ n. n * c.in-Some.count) c.from.ensures, ap (λ n. n * c.in-Some.first) c.from-in-loop-first.ensures))

pub get_part-requires-clause-some : goal.get_part-requires-clause-some
get_part-requires-clause-some g c =
    let next : runs_left c.loop-first.first-iterator ≡ (c.in-Some.first, c.in-Some.count) ∷ runs_left c.next.new.self = c.in-Some.ensures.steps in
    let w : ℕ = c.args.layout.now.pixel_len in
    let most : ℕ = product (lengths_of c.args.layout.now.plan.shape) in
    let inside = next_inside most c.in-Some.first c.in-Some.count _ _ next c.loop-first.invariant.inside in
    let within : c.args.layout.now.pixels_at + w * c.in-Some.first + w * c.in-Some.count ≤ c.args.layout.now.pixels_at + w * most =
    run_within w c.args.layout.now.pixels_at c.in-Some.first c.in-Some.count most (c.args.layout.now.pixels_at + w * most) inside.0 (omega arith) in
    let apart = next_apart c.in-Some.first c.in-Some.count _ _ next c.loop-first.invariant.apart in
    let some : 0 < w * c.in-Some.count = some_bytes w c.in-Some.count c.requires.pixel apart.0 in
    subst (λ n. 0 < n * c.in-Some.count) (sym c.from.ensures) some

pub get_part-requires-clause-room : goal.get_part-requires-clause-room
get_part-requires-clause-room g c =
    let next : runs_left c.loop-first.first-iterator ≡ (c.in-Some.first, c.in-Some.count) ∷ runs_left c.next.new.self = c.in-Some.ensures.steps in
    let w : ℕ = c.args.layout.now.pixel_len in
    let most : ℕ = product (lengths_of c.args.layout.now.plan.shape) in
    let inside = next_inside most c.in-Some.first c.in-Some.count _ _ next c.loop-first.invariant.inside in
    let within : c.args.layout.now.pixels_at + w * c.in-Some.first + w * c.in-Some.count ≤ c.args.layout.now.pixels_at + w * most =
    run_within w c.args.layout.now.pixels_at c.in-Some.first c.in-Some.count most (c.args.layout.now.pixels_at + w * most) inside.0 (omega arith) in
    let total = next_total c.in-Some.first c.in-Some.count _ _ next in
    let fits = run_fits w c.loop-first.done c.in-Some.count (total_length (runs_left c.next.new.self)) (length c.args.into.now)
    (ap (λ n. c.loop-first.done + w * n) (sym total) ∙ c.loop-first.invariant.left) in
    omega (arith, fits.0, c.loop-first.invariant.long, ap (λ n. n * c.in-Some.count) c.from.ensures)

pub get_part-requires-clause-strips : goal.get_part-requires-clause-strips
get_part-requires-clause-strips g c = subst (λ (h : Option (List ℕ)). HasStrips h c.args.strips.now c.args.ahead.now) (sym c.loop-first.invariant.held) c.requires.strips

pub loop-first-preserved : goal.loop-first-preserved
loop-first-preserved g c =
    let next : runs_left c.loop-first.first-iterator ≡ (c.in-Some.first, c.in-Some.count) ∷ runs_left c.next.new.self = c.in-Some.ensures.steps in
    let w : ℕ = c.args.layout.now.pixel_len in
    let most : ℕ = product (lengths_of c.args.layout.now.plan.shape) in
    let inside = next_inside most c.in-Some.first c.in-Some.count _ _ next c.loop-first.invariant.inside in
    let within : c.args.layout.now.pixels_at + w * c.in-Some.first + w * c.in-Some.count ≤ c.args.layout.now.pixels_at + w * most =
    run_within w c.args.layout.now.pixels_at c.in-Some.first c.in-Some.count most (c.args.layout.now.pixels_at + w * most) inside.0 (omega arith) in
    let total = next_total c.in-Some.first c.in-Some.count _ _ next in
    let fits = run_fits w c.loop-first.done c.in-Some.count (total_length (runs_left c.next.new.self)) (length c.args.into.now)
    (ap (λ n. c.loop-first.done + w * n) (sym total) ∙ c.loop-first.invariant.left) in
    let apart = next_apart c.in-Some.first c.in-Some.count _ _ next c.loop-first.invariant.apart in
    let some : 0 < w * c.in-Some.count = some_bytes w c.in-Some.count c.requires.pixel apart.0 in
    let size : c.from.result * c.in-Some.count ≡ w * c.in-Some.count = ap (λ n. n * c.in-Some.count) c.from.ensures in
    let place : c.args.layout.now.pixels_at + c.from-in-loop-first.result * c.in-Some.first ≡ c.args.layout.now.pixels_at + w * c.in-Some.first = ap (λ n. c.args.layout.now.pixels_at + n * c.in-Some.first) c.from-in-loop-first.ensures in
    let one : ℕ = c.args.layout.now.pixels_at + c.from-in-loop-first.result * c.in-Some.first in
    let to : ℕ = one + c.from.result * c.in-Some.count in
    let end : ℕ = c.args.layout.now.pixels_at + w * most in
    let log : LogsWithin c.args.layout.now.pixels_at end (g.S.Source.ranges c.args.source.now) (g.S.Source.ranges c.get_part.new.source) =
    c.log_law.ensures.both c.args.layout.now.pixels_at end (g.S.Source.ranges c.args.source.now) (g.S.Source.ranges c.loop-first.source) (g.S.Source.ranges c.get_part.new.source) c.loop-first.invariant.log
    (c.log_law.ensures.wider one to c.args.layout.now.pixels_at end (g.S.Source.ranges c.loop-first.source) (g.S.Source.ranges c.get_part.new.source) (omega arith)
    (omega (arith, within, ap (λ n. n * c.in-Some.count) c.from.ensures, ap (λ n. n * c.in-Some.first) c.from-in-loop-first.ensures)) c.in_ok-get_part.ensures.log) in
    record {
      held = search rules;
      attached = search rules;
      log = log;
      told_ranges = λ told. c.in_ok-get_part.ensures.stays.0.told (c.loop-first.invariant.told_ranges told);
      reads = search rules;
      long = c.in_ok-get_part.ensures.stays.1 ∙ c.loop-first.invariant.long;
      apart = apart.1;
      inside = inside.1;
      left = omega (arith, fits.1, size);
      pixels = read_more w c.args.layout.now.pixels_at (places_of (lengths_of c.args.layout.now.plan.shape) (region_corner c.args.region.now) (region_lengths c.args.region.now)) (g.S.Source.held c.args.source.now) (g.S.Source.held c.loop-first.source)
          c.loop-first.into c.get_part.new.into c.loop-first.done c.in-Some.first c.in-Some.count (c.args.layout.now.pixels_at + c.from-in-loop-first.result * c.in-Some.first) (c.from.result * c.in-Some.count) (runs_left c.loop-first.first-iterator) (runs_left c.next.new.self) c.loop-first.invariant.held
          next place size c.loop-first.invariant.pixels c.in_ok-get_part.ensures.part;
    }

pub returns-clause-pixels : goal.returns-clause-pixels
returns-clause-pixels g c =
    let none : runs_left c.loop-first.first-iterator ≡ [] = c.in-None.ensures.steps.0 in
    let rest : total_length (runs_left c.loop-first.first-iterator) ≡ 0 = ap total_length none in
    let done : c.loop-first.done + c.args.layout.now.pixel_len * 0 ≡ length c.args.into.now = ap (λ n. c.loop-first.done + c.args.layout.now.pixel_len * n) (sym rest) ∙ c.loop-first.invariant.left in
    read_all c.args.layout.now.pixel_len c.args.layout.now.pixels_at (places_of (lengths_of c.args.layout.now.plan.shape) (region_corner c.args.region.now) (region_lengths c.args.region.now)) (g.S.Source.held c.args.source.now) c.loop-first.into c.loop-first.done
    (runs_left c.loop-first.first-iterator) none (omega (arith, done, c.loop-first.invariant.long)) c.loop-first.invariant.pixels

pub returns-in_err-get_part-clause-below : goal.returns-in_err-get_part-clause-below
returns-in_err-get_part-clause-below g c = runs_below _ (runs_left c.runs-first-items.result) _ c.runs-first-items.ensures.runs.listed c.runs-first-items.ensures.inside

pub returns-clause-below : goal.returns-clause-below
returns-clause-below g c = runs_below _ (runs_left c.runs-first-items.result) _ c.runs-first-items.ensures.runs.listed c.runs-first-items.ensures.inside

pub returns-in_err-get_part-clause-log : goal.returns-in_err-get_part-clause-log
returns-in_err-get_part-clause-log g c =
    let next : runs_left c.loop-first.first-iterator ≡ (c.in-Some.first, c.in-Some.count) ∷ runs_left c.next.new.self = c.in-Some.ensures.steps in
    let w : ℕ = c.args.layout.now.pixel_len in
    let most : ℕ = product (lengths_of c.args.layout.now.plan.shape) in
    let inside = next_inside most c.in-Some.first c.in-Some.count _ _ next c.loop-first.invariant.inside in
    let within : c.args.layout.now.pixels_at + w * c.in-Some.first + w * c.in-Some.count ≤ c.args.layout.now.pixels_at + w * most =
    run_within w c.args.layout.now.pixels_at c.in-Some.first c.in-Some.count most (c.args.layout.now.pixels_at + w * most) inside.0 (omega arith) in
    let one : ℕ = c.args.layout.now.pixels_at + c.from-in-loop-first.result * c.in-Some.first in
    let to : ℕ = one + c.from.result * c.in-Some.count in
    let end : ℕ = c.args.layout.now.pixels_at + w * most in
    let log : LogsWithin c.args.layout.now.pixels_at end (g.S.Source.ranges c.args.source.now) (g.S.Source.ranges c.get_part.new.source) =
    c.log_law.ensures.both c.args.layout.now.pixels_at end (g.S.Source.ranges c.args.source.now) (g.S.Source.ranges c.loop-first.source) (g.S.Source.ranges c.get_part.new.source) c.loop-first.invariant.log
    (c.log_law.ensures.wider one to c.args.layout.now.pixels_at end (g.S.Source.ranges c.loop-first.source) (g.S.Source.ranges c.get_part.new.source) (omega arith)
    (omega (arith, within, ap (λ n. n * c.in-Some.count) c.from.ensures, ap (λ n. n * c.in-Some.first) c.from-in-loop-first.ensures)) c.in_err-get_part.ensures.log) in
    log
