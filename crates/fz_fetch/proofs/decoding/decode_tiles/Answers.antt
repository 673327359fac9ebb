-- One round after another.
use Rattle.std.proofs.Common.{◌≡◌, ℕ, ◌+◌, ◌*◌, ◌≤◌, List, map, replicate, Option, Some, None, IfSome, Result, Err, refl, sym, ap, ◌∙◌, subst, arith, rules}
use Rattle.std.specs.List.{range_with_len}
use Rattle.fz_base.specs.Ranges.{LogsIn}
use Rattle.fz_base.specs.Stop.{IfRefused}
use Rattle.fz_base.specs.declared.failure.Stop.{Stop}
use Rattle.fz_files.specs.FirstFault.{IsFirstRowFault, image_row, rows_of}
use Rattle.fz_files.specs.Packed.{tiles_in}
use Rattle.fz_grid.specs.Grid.{tile_count}
use Rattle.fz_grid.specs.Region.{lengths_of}
use Rattle.fz_files.specs.Touched.{image_ranges}
use Rattle.fz_fetch.specs.Ahead.{IsAhead}
use Rattle.fz_fetch.proofs.RoundReads.{join_told, unread}
use Rattle.fz_fetch.proofs.RoundTiles.{all_sound, more_sound, none_sound, rounds_fault}
use Rattle.fz_job.specs.Images.{IsSaid}
use Rattle.fz_fetch.specs.Rows.{StandsWithin}
use Rattle.fz_fetch.proofs.decoding.decode_tiles.Goals as goal

pub loop-first-init : goal.loop-first-init
loop-first-init g c = record {
  held = refl;
  attached = refl;
  reads = refl;
  told = λ told. told;
  read = unread (g.S.Source.held c.args.source.now) (λ file. image_ranges file c.args.header.now) (g.S.Source.ranges c.args.source.now);
  window = record { sizes = refl; workers = refl };
  rows = refl;
  ahead = c.none-ahead.ensures.ahead (g.S.Source.held c.args.source.now) c.args.image.now.table c.args.rows.now c.requires.rows;
  within = omega arith;
  sound = none_sound (g.S.Source.held c.args.source.now) c.args.header.now;
}

pub decode_ahead-requires-clause-ahead : goal.decode_ahead-requires-clause-ahead
decode_ahead-requires-clause-ahead g c κs within =
    subst (λ (l : Option (List ℕ)). IsAhead l c.args.image.now.table c.loop-first.rows c.loop-first.ahead) (sym c.loop-first.invariant.held) c.loop-first.invariant.ahead

pub loop-first-preserved : goal.loop-first-preserved
loop-first-preserved g c =
    let held : Option (List ℕ) = g.S.Source.held c.args.source.now in
    let h = c.args.header.now in
    let old = c.loop-first.invariant in
    let first : ℕ = c.loop-first.first in
    let count : ℕ = c.min-count.result in
    let round : IfSome held (λ file. IsFirstRowFault file (map (image_row h) (range_with_len first count)) None) =
    subst (λ (l : Option (List ℕ)). IfSome l (λ file. IsFirstRowFault file (map (image_row h) (range_with_len first count)) None)) old.held c.in_ok-decode_ahead.ensures.judged.sound in
    record {
      held = search rules;
      attached = search rules;
      reads = search rules;
      told = λ told. c.in_ok-decode_ahead.ensures.stays.0.told (old.told told);
      read = join_told c.ranges_law.ensures.join held (λ file. image_ranges file h) (g.S.Source.ranges c.args.source.now) (g.S.Source.ranges c.loop-first.source) (g.S.Source.ranges c.decode_ahead.new.source) old.read
          (subst (λ (l : Option (List ℕ)). IfSome l (λ file. LogsIn (image_ranges file h) (g.S.Source.ranges c.loop-first.source) (g.S.Source.ranges c.decode_ahead.new.source))) old.held c.in_ok-decode_ahead.ensures.judged.read);
      window = record { sizes = c.in_ok-decode_ahead.ensures.stays.1.sizes ∙ old.window.sizes; workers = c.in_ok-decode_ahead.ensures.stays.1.workers ∙ old.window.workers };
      rows = c.in_ok-decode_ahead.ensures.stays.2 ∙ old.rows;
      ahead = subst (λ (l : Option (List ℕ)). IsAhead l c.args.image.now.table c.decode_ahead.new.rows c.decode_ahead.new.ahead) (c.in_ok-decode_ahead.ensures.stays.0.held_is ∙ old.held) c.in_ok-decode_ahead.ensures.ahead;
      within = omega (arith, c.min-count.ensures, old.within);
      sound = more_sound held h first count old.sound round;
    }

pub returns-in_err-decode_ahead-clause-fault : goal.returns-in_err-decode_ahead-clause-fault
returns-in_err-decode_ahead-clause-fault g c =
    let held : Option (List ℕ) = g.S.Source.held c.args.source.now in
    let h = c.args.header.now in
    let image = c.args.image.now in
    let old = c.loop-first.invariant in
    let first : ℕ = c.loop-first.first in
    let count : ℕ = c.min-count.result in
    let stop : Stop = c.in_err-decode_ahead.field-0.0 in
    let stopped : c.from_residual.result ≡ Err stop = search rules in
    let many : c.tile_count-tiles.result ≡ tiles_in image.plan = c.tile_count-tiles.ensures.count ∙ (λ i. tile_count (lengths_of (c.new.ensures.shape i)) (lengths_of (c.new.ensures.tile i))) in
    let few : first + count ≤ tiles_in image.plan = omega (arith, c.min-count.ensures, old.within, many) in
    let fault : IfRefused {X = Unit {0}} (Err stop) (λ x. IfSome held (λ file. IsFirstRowFault file (map (image_row h) (range_with_len first count)) (Some x))) =
    subst (λ (l : Option (List ℕ)). IfRefused {X = Unit {0}} (Err stop) (λ x. IfSome l (λ file. IsFirstRowFault file (map (image_row h) (range_with_len first count)) (Some x)))) old.held c.in_err-decode_ahead.ensures.judged.fault in
    subst (λ (r : Result (Unit {0}) Stop). IfRefused r (λ x. IfSome held (λ file. IsFirstRowFault file (rows_of file h) (Some x)))) (sym stopped)
    (rounds_fault (Unit {0}) held h image first count stop c.requires.said few old.sound fault)

pub returns-clause-sound : goal.returns-clause-sound
returns-clause-sound g c =
    let held : Option (List ℕ) = g.S.Source.held c.args.source.now in
    let image = c.args.image.now in
    let old = c.loop-first.invariant in
    let many : c.tile_count-tiles.result ≡ tiles_in image.plan = c.tile_count-tiles.ensures.count ∙ (λ i. tile_count (lengths_of (c.new.ensures.shape i)) (lengths_of (c.new.ensures.tile i))) in
    let all : c.loop-first.first ≡ tiles_in image.plan = omega (arith, old.within, many) in
    all_sound held c.args.header.now image c.loop-first.first c.requires.said all old.sound

pub returns-in_err-decode_ahead-clause-read : goal.returns-in_err-decode_ahead-clause-read
returns-in_err-decode_ahead-clause-read g c =
    let held : Option (List ℕ) = g.S.Source.held c.args.source.now in
    let h = c.args.header.now in
    let old = c.loop-first.invariant in
    join_told c.ranges_law.ensures.join held (λ file. image_ranges file h) (g.S.Source.ranges c.args.source.now) (g.S.Source.ranges c.loop-first.source) (g.S.Source.ranges c.decode_ahead.new.source) old.read
    (subst (λ (l : Option (List ℕ)). IfSome l (λ file. LogsIn (image_ranges file h) (g.S.Source.ranges c.loop-first.source) (g.S.Source.ranges c.decode_ahead.new.source))) old.held c.in_err-decode_ahead.ensures.judged.read)

pub decode_ahead-requires-clause-round : goal.decode_ahead-requires-clause-round
decode_ahead-requires-clause-round g c κs within =
    let h = c.args.header.now in
    let image = c.args.image.now in
    let old = c.loop-first.invariant in
    let n : ℕ = c.requires.window.0 in
    let many : c.tile_count-tiles.result ≡ tiles_in image.plan = c.tile_count-tiles.ensures.count ∙ (λ i. tile_count (lengths_of (c.new.ensures.shape i)) (lengths_of (c.new.ensures.tile i))) in
    record {
      readable = c.requires.image;
      within = subst (λ (a : Option ℕ). StandsWithin a image.table) (sym old.attached) c.requires.within;
      said = subst (λ (l : Option (List ℕ)). IfSome l (λ file. IsSaid file h image)) (sym old.held) c.requires.said;
      tiles = omega (arith, c.min-count.ensures, old.within, many);
      near = omega (arith, c.min-count.ensures, c.workers.ensures.value);
      few = omega (arith, c.min-count.ensures, c.workers.ensures.value, c.workers.ensures.some);
      room = (n, old.window.sizes ∙ c.requires.window.1 ∙ ap (λ (k : ℕ). replicate {A = ℕ × ℕ} (2 * k) (2 * n, 8 * n + 64)) (sym old.window.workers), c.requires.window.2);
    }
