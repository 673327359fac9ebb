-- One round after another is decoded, and compared.
use Rattle.std.proofs.Common.{◌≡◌, ℕ, ◌+◌, ◌≤◌, List, map, Option, Some, None, IfSome, Result, Err, refl, sym, ◌∙◌, subst, arith, rules}
use Rattle.std.specs.List.{range_with_len}
use Rattle.fz_base.specs.Ranges.{LogsIn}
use Rattle.fz_base.specs.Stop.{IfRefused}
use Rattle.fz_block.specs.Header.{next_start_of}
use Rattle.fz_base.specs.declared.failure.Stop.{Stop}
use Rattle.fz_fetch.specs.Fetched.{AreFetched}
use Rattle.fz_files.specs.FirstFault.{IsFirstRowFault, image_row, rows_of}
use Rattle.fz_files.specs.Packed.{tiles_in}
use Rattle.fz_files.specs.Restored.{pixels_of}
use Rattle.fz_files.specs.Touched.{image_ranges}
use Rattle.fz_grid.specs.Grid.{tile_count}
use Rattle.fz_grid.specs.Region.{lengths_of}
use Rattle.fz_image.specs.declared.progress.Progress.{Progress}
use Rattle.fz_compare.specs.Compared.{ComparesNext}
use Rattle.fz_compare.specs.Reads.{table_ranges}
use Rattle.fz_compare.proofs.ReadRanges.{bytes_read, join_told, rows_read, unread}
use Rattle.fz_compare.proofs.Rounds.{all_sound, more_sound, none_sound, room_stays, rounds_fault}
use Rattle.fz_compare.proofs.TablesCompared.{SoFar, all_compared, all_of_image, all_written, next_compared, none_compared, none_written, ready_now}
use Rattle.fz_compare.proofs.tiles.compare_tiles.Goals as goal

pub loop-first-init : goal.loop-first-init
loop-first-init g c = record {
  held = refl;
  attached = refl;
  reads = refl;
  told = λ told. told;
  read = unread (g.S.Source.held c.args.source.now) (λ file. table_ranges file c.args.header.now) (g.S.Source.ranges c.args.source.now);
  window = record { sizes = refl; workers = refl };
  copy = refl;
  within = omega arith;
  sound = none_sound (g.S.Source.held c.args.source.now) c.args.header.now;
  so_far = subst (SoFar (g.S.Source.held c.args.source.now) c.args.header.now c.args.layout.now 0) (sym c.begin-progress.ensures) (none_compared (g.S.Source.held c.args.source.now) c.args.header.now c.args.layout.now);
}

pub compare_next-requires-clause-ready : goal.compare_next-requires-clause-ready
compare_next-requires-clause-ready g c κs within =
    let held : Option (List ℕ) = g.S.Source.held c.args.source.now in
    let h = c.args.header.now in
    let image = c.args.image.now in
    let old = c.loop-first.invariant in
    let first : ℕ = c.loop-first.first in
    let count : ℕ = c.min-count.result in
    let window = c.decode_round.new.window in
    let many : c.tile_count-tiles.result ≡ tiles_in image.plan = c.tile_count-tiles.ensures.count ∙ (λ i. tile_count (lengths_of (c.new.ensures.shape i)) (lengths_of (c.new.ensures.tile i))) in
    let few : first + count ≤ tiles_in image.plan = omega (arith, c.min-count.ensures, old.within, many) in
    let fetched : AreFetched held h image.plan (range_with_len first count) window.slots =
    subst (λ (k : Option (List ℕ)). AreFetched k h image.plan (range_with_len first count) window.slots) old.held c.in_ok-decode_round.ensures.fetched in
    let room = room_stays (pixels_of image.plan 0) c.args.window.now window c.requires.window
    (record { sizes = c.in_ok-decode_round.ensures.stays.1.sizes ∙ old.window.sizes; workers = c.in_ok-decode_round.ensures.stays.1.workers ∙ old.window.workers }) in
    ready_now c.one_record_law.ensures c.sum_law.ensures.joined h image c.requires.image first count few window.slots held c.args.layout.now c.loop-first.progress window refl c.requires.layout room fetched old.so_far

pub loop-first-preserved : goal.loop-first-preserved
loop-first-preserved g c =
    let held : Option (List ℕ) = g.S.Source.held c.args.source.now in
    let h = c.args.header.now in
    let image = c.args.image.now in
    let old = c.loop-first.invariant in
    let first : ℕ = c.loop-first.first in
    let count : ℕ = c.min-count.result in
    let window = c.decode_round.new.window in
    let many : c.tile_count-tiles.result ≡ tiles_in image.plan = c.tile_count-tiles.ensures.count ∙ (λ i. tile_count (lengths_of (c.new.ensures.shape i)) (lengths_of (c.new.ensures.tile i))) in
    let few : first + count ≤ tiles_in image.plan = omega (arith, c.min-count.ensures, old.within, many) in
    let round : IfSome held (λ file. IsFirstRowFault file (map (image_row h) (range_with_len first count)) None) =
    subst (λ (l : Option (List ℕ)). IfSome l (λ file. IsFirstRowFault file (map (image_row h) (range_with_len first count)) None)) old.held c.in_ok-decode_round.ensures.sound in
    let fetched : AreFetched held h image.plan (range_with_len first count) window.slots =
    subst (λ (k : Option (List ℕ)). AreFetched k h image.plan (range_with_len first count) window.slots) old.held c.in_ok-decode_round.ensures.fetched in
    let told : g.S.Source.held c.decode_round.new.source ≡ held = c.in_ok-decode_round.ensures.stays.0.held_is ∙ old.held in
    let next : ComparesNext held (next_start_of h) c.args.layout.now c.loop-first.progress count window.slots c.in_ok-progress.progress =
    subst (λ end. ComparesNext held end c.args.layout.now c.loop-first.progress count window.slots c.in_ok-progress.progress) c.next_start-end.ensures
    (subst (λ (k : Option (List ℕ)). ComparesNext k c.next_start-end.result c.args.layout.now c.loop-first.progress count window.slots c.in_ok-progress.progress) told c.in_ok-progress.ensures.compared) in
    let before : Option (List (ℕ × ℕ)) = g.S.Source.ranges c.args.source.now in
    let one : Option (List (ℕ × ℕ)) = g.S.Source.ranges c.loop-first.source in
    let two : Option (List (ℕ × ℕ)) = g.S.Source.ranges c.decode_round.new.source in
    let rows : IfSome held (λ file. LogsIn (image_ranges file h) one two) = subst (λ (k : Option (List ℕ)). IfSome k (λ file. LogsIn (image_ranges file h) one two)) old.held c.in_ok-decode_round.ensures.read in
    let decoded : IfSome held (λ file. LogsIn (table_ranges file h) before two) = join_told c.ranges_law.ensures.join held (λ file. table_ranges file h) before one two old.read (rows_read held h one two rows) in
    let three : Option (List (ℕ × ℕ)) = g.S.Source.ranges c.compare_next.new.source in
    let table : IfSome held (λ file. LogsIn (table_ranges file h) two three) = bytes_read c.ranges_law.ensures.within held h c.next_start-end.result two three c.next_start-end.ensures c.in_ok-progress.ensures.read in
    record {
      held = search rules;
      attached = search rules;
      reads = search rules;
      told = λ told. c.in_ok-progress.ensures.stays.0.told (c.in_ok-decode_round.ensures.stays.0.told (old.told told));
      read = join_told c.ranges_law.ensures.join held (λ file. table_ranges file h) before two three decoded table;
      window = record {
        sizes = c.in_ok-progress.ensures.stays.1.sizes ∙ c.in_ok-decode_round.ensures.stays.1.sizes ∙ old.window.sizes;
        workers = c.in_ok-progress.ensures.stays.1.workers ∙ c.in_ok-decode_round.ensures.stays.1.workers ∙ old.window.workers;
      };
      copy = c.in_ok-progress.ensures.stays.2 ∙ c.in_ok-decode_round.ensures.stays.2 ∙ old.copy;
      within = omega (arith, c.min-count.ensures, old.within);
      sound = more_sound held h first count old.sound round;
      so_far = next_compared c.one_record_law.ensures c.sum_law.ensures.joined h image c.requires.image first count few window.slots held c.args.layout.now c.loop-first.progress c.in_ok-progress.progress c.requires.layout c.requires.said fetched old.so_far next;
    }

pub returns-in_err-decode_round-clause-fault : goal.returns-in_err-decode_round-clause-fault
returns-in_err-decode_round-clause-fault g c =
    let held : Option (List ℕ) = g.S.Source.held c.args.source.now in
    let h = c.args.header.now in
    let image = c.args.image.now in
    let old = c.loop-first.invariant in
    let first : ℕ = c.loop-first.first in
    let count : ℕ = c.min-count.result in
    let stop : Stop = c.in_err-decode_round.field-0.0 in
    let stopped : c.from_residual.result ≡ Err stop = search rules in
    let many : c.tile_count-tiles.result ≡ tiles_in image.plan = c.tile_count-tiles.ensures.count ∙ (λ i. tile_count (lengths_of (c.new.ensures.shape i)) (lengths_of (c.new.ensures.tile i))) in
    let few : first + count ≤ tiles_in image.plan = omega (arith, c.min-count.ensures, old.within, many) in
    let fault : IfRefused {X = Option Progress} (Err stop) (λ x. IfSome held (λ file. IsFirstRowFault file (map (image_row h) (range_with_len first count)) (Some x))) =
    subst (λ (l : Option (List ℕ)). IfRefused {X = Option Progress} (Err stop) (λ x. IfSome l (λ file. IsFirstRowFault file (map (image_row h) (range_with_len first count)) (Some x)))) old.held (search (rules, c.in_err-decode_round.ensures.fault)) in
    subst (λ (r : Result (Option Progress) Stop). IfRefused r (λ x. IfSome held (λ file. IsFirstRowFault file (rows_of file h) (Some x)))) (sym stopped)
    (rounds_fault (Option Progress) held h image first count stop c.requires.said few old.sound fault)

pub returns-clause-sound : goal.returns-clause-sound
returns-clause-sound g c =
    let held : Option (List ℕ) = g.S.Source.held c.args.source.now in
    let image = c.args.image.now in
    let old = c.loop-first.invariant in
    let many : c.tile_count-tiles.result ≡ tiles_in image.plan = c.tile_count-tiles.ensures.count ∙ (λ i. tile_count (lengths_of (c.new.ensures.shape i)) (lengths_of (c.new.ensures.tile i))) in
    let all : c.loop-first.first ≡ tiles_in image.plan = omega (arith, old.within, many) in
    all_sound held c.args.header.now image c.loop-first.first c.requires.said all old.sound

pub returns-clause-compared : goal.returns-clause-compared
returns-clause-compared g c =
    let held : Option (List ℕ) = g.S.Source.held c.args.source.now in
    let image = c.args.image.now in
    let old = c.loop-first.invariant in
    let many : c.tile_count-tiles.result ≡ tiles_in image.plan = c.tile_count-tiles.ensures.count ∙ (λ i. tile_count (lengths_of (c.new.ensures.shape i)) (lengths_of (c.new.ensures.tile i))) in
    let all : c.loop-first.first ≡ tiles_in image.plan = omega (arith, old.within, many) in
    all_compared held c.args.header.now c.args.layout.now c.loop-first.first c.loop-first.progress (all_of_image c.args.layout.now image c.loop-first.first c.requires.layout all)
    (omega (arith, old.within, c.tile_count-tiles.ensures.some)) old.so_far

pub returns-clause-progress : goal.returns-clause-progress
returns-clause-progress g c =
    let held : Option (List ℕ) = g.S.Source.held c.args.source.now in
    let image = c.args.image.now in
    let old = c.loop-first.invariant in
    let many : c.tile_count-tiles.result ≡ tiles_in image.plan = c.tile_count-tiles.ensures.count ∙ (λ i. tile_count (lengths_of (c.new.ensures.shape i)) (lengths_of (c.new.ensures.tile i))) in
    let all : c.loop-first.first ≡ tiles_in image.plan = omega (arith, old.within, many) in
    all_written held c.args.header.now c.args.layout.now c.loop-first.first c.loop-first.progress (all_of_image c.args.layout.now image c.loop-first.first c.requires.layout all) old.so_far

pub returns-clause-none : goal.returns-clause-none
returns-clause-none g c = none_written (g.S.Source.held c.args.source.now) c.args.header.now c.args.layout.now c.loop-first.first c.loop-first.progress c.loop-first.invariant.so_far

pub returns-in_err-decode_round-clause-read : goal.returns-in_err-decode_round-clause-read
returns-in_err-decode_round-clause-read g c =
    let held : Option (List ℕ) = g.S.Source.held c.args.source.now in
    let h = c.args.header.now in
    let old = c.loop-first.invariant in
    let before : Option (List (ℕ × ℕ)) = g.S.Source.ranges c.args.source.now in
    let one : Option (List (ℕ × ℕ)) = g.S.Source.ranges c.loop-first.source in
    let two : Option (List (ℕ × ℕ)) = g.S.Source.ranges c.decode_round.new.source in
    let rows : IfSome held (λ file. LogsIn (image_ranges file h) one two) = subst (λ (k : Option (List ℕ)). IfSome k (λ file. LogsIn (image_ranges file h) one two)) old.held c.in_err-decode_round.ensures.read in
    let decoded : IfSome held (λ file. LogsIn (table_ranges file h) before two) = join_told c.ranges_law.ensures.join held (λ file. table_ranges file h) before one two old.read (rows_read held h one two rows) in
    decoded

pub returns-in_err-progress-clause-read : goal.returns-in_err-progress-clause-read
returns-in_err-progress-clause-read g c =
    let held : Option (List ℕ) = g.S.Source.held c.args.source.now in
    let h = c.args.header.now in
    let old = c.loop-first.invariant in
    let before : Option (List (ℕ × ℕ)) = g.S.Source.ranges c.args.source.now in
    let one : Option (List (ℕ × ℕ)) = g.S.Source.ranges c.loop-first.source in
    let two : Option (List (ℕ × ℕ)) = g.S.Source.ranges c.decode_round.new.source in
    let rows : IfSome held (λ file. LogsIn (image_ranges file h) one two) = subst (λ (k : Option (List ℕ)). IfSome k (λ file. LogsIn (image_ranges file h) one two)) old.held c.in_ok-decode_round.ensures.read in
    let decoded : IfSome held (λ file. LogsIn (table_ranges file h) before two) = join_told c.ranges_law.ensures.join held (λ file. table_ranges file h) before one two old.read (rows_read held h one two rows) in
    let three : Option (List (ℕ × ℕ)) = g.S.Source.ranges c.compare_next.new.source in
    let table : IfSome held (λ file. LogsIn (table_ranges file h) two three) = bytes_read c.ranges_law.ensures.within held h c.next_start-end.result two three c.next_start-end.ensures c.in_err-progress.ensures.read in
    join_told c.ranges_law.ensures.join held (λ file. table_ranges file h) before two three decoded table
