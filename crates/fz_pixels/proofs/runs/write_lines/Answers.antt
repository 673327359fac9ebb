-- One line after another: it makes the run longer, or the run is written and it begins the next.
use Rattle.std.proofs.Common.{◌≡◌, ℕ, ◌+◌, ◌-◌, ◌*◌, ◌^◌, ◌<◌, ◌≤◌, List, [], ◌∷◌, Option, length, take, drop, refl, ap, arith, rules}
use Rattle.fz_base.specs.Sink.{written}
use Rattle.fz_grid.specs.Line.{IsLineWithin, lines_in_cutout}
use Rattle.fz_grid.specs.LineWalks.{lines_left}
use Rattle.fz_grid.specs.declared.line.Line.{Line}
use Rattle.fz_pixels.proofs.LineWrites.{line_count, line_near, run_last, run_longer, run_near, run_next}
use Rattle.fz_pixels.proofs.PixelBytes.{line_first}
use Rattle.fz_pixels.proofs.Running.{run_fits}
use Rattle.fz_pixels.proofs.runs.write_lines.Goals as goal

pub loop-line-preserved-then-line-first : goal.loop-line-preserved-then-line-first
loop-line-preserved-then-line-first g c =
    let line : Line = c.in-Some.line in
    let next : lines_left c.loop-line.line-iterator ≡ line ∷ lines_left c.next.new.self = c.in-Some.ensures.steps in
    let w : ℕ = c.args.pixel_len in
    let more : ℕ = c.from-more.result in
    let size : more ≡ line.count = c.from-more.ensures in
    let place : line.in_cutout ≡ c.loop-line.first + c.loop-line.count = omega (arith, c.if-line-first.true) in
    let total = line_count line _ _ next in
    let times : w * (c.loop-line.count + more + length (lines_in_cutout (lines_left c.next.new.self))) ≡ w * (c.loop-line.count + length (lines_in_cutout (lines_left c.loop-line.line-iterator))) =
    let same : c.loop-line.count + more + length (lines_in_cutout (lines_left c.next.new.self)) ≡ c.loop-line.count + length (lines_in_cutout (lines_left c.loop-line.line-iterator)) = omega (arith, total, size) in ap (λ n. w * n) same in
    record {
      created = search rules;
      counts = search rules;
      shut = search rules;
      told = search rules;
      within = λ tile cutout all. (line_first (IsLineWithin tile cutout) line _ _ next (c.loop-line.invariant.within tile cutout all)).1;
      near = λ tile cutout all.
          let end : line.in_cutout + line.count ≤ cutout = line_near line (lines_left c.args.lines) _ _ tile cutout all c.loop-line.invariant.within next in
          omega (arith, end, place, size);
      left = omega (arith, times, c.loop-line.invariant.left);
      rest = run_longer w c.args.data_at c.loop-line.first c.loop-line.count more line _ _ (drop c.loop-line.done c.args.bytes.now) (g.K.Sink.contents c.loop-line.sink) _ next place size c.loop-line.invariant.rest;
    }

pub loop-line-preserved : goal.loop-line-preserved
loop-line-preserved g c =
    let line : Line = c.in-Some.line in
    let next : lines_left c.loop-line.line-iterator ≡ line ∷ lines_left c.next.new.self = c.in-Some.ensures.steps in
    let w : ℕ = c.args.pixel_len in
    let at : ℕ = c.args.data_at in
    let bytes : List ℕ = c.args.bytes.now in
    let done : ℕ = c.loop-line.done in
    let first : ℕ = c.loop-line.first in
    let count : ℕ = c.loop-line.count in
    let more : ℕ = c.from-more.result in
    let size : more ≡ line.count = c.from-more.ensures in
    let before : Option (List ℕ) = g.K.Sink.contents c.loop-line.sink in
    let now : Option (List ℕ) = g.K.Sink.contents c.write_behind.new.sink in
    let end : ℕ = done + c.from-len.result * count in
    let end_is : end ≡ done + w * count = ap (λ n. done + n * count) c.from-len.ensures in
    let place : at + c.from-len.result * first ≡ at + w * first = ap (λ n. at + n * first) c.from-len.ensures in
    let fits = run_fits w done count (length (lines_in_cutout (lines_left c.loop-line.line-iterator))) (length bytes) c.loop-line.invariant.left in
    let total = line_count line _ _ next in
    let rest_is : w * (more + length (lines_in_cutout (lines_left c.next.new.self))) ≡ w * length (lines_in_cutout (lines_left c.loop-line.line-iterator)) =
    let same : more + length (lines_in_cutout (lines_left c.next.new.self)) ≡ length (lines_in_cutout (lines_left c.loop-line.line-iterator)) = omega (arith, total, size) in ap (λ n. w * n) same in
    let room : end ≤ length bytes = omega (arith, fits.0, end_is) in
    let run : List ℕ = take (end - done) (drop done bytes) in
    let piece : run ≡ take (w * count) (drop done bytes) = let long : end - done ≡ w * count = omega (arith, end_is) in ap (λ n. take n (drop done bytes)) long in
    let put : now ≡ written (at + c.from-len.result * first) run before = c.in_ok-write_behind.ensures.written in
    record {
      created = search rules;
      counts = search rules;
      shut = search rules;
      told = search rules;
      within = λ tile cutout all. (line_first (IsLineWithin tile cutout) line _ _ next (c.loop-line.invariant.within tile cutout all)).1;
      near = λ tile cutout all.
          let last : line.in_cutout + line.count ≤ cutout = line_near line (lines_left c.args.lines) _ _ tile cutout all c.loop-line.invariant.within next in
          omega (arith, last, size);
      left = omega (arith, fits.1, end_is, rest_is);
      rest = run_next c.output_law.ensures.next w at done end (at + c.from-len.result * first) first count more line bytes run (lines_left c.loop-line.line-iterator) (lines_left c.next.new.self) before now _
          next size place end_is room piece put c.loop-line.invariant.rest;
    }

pub slice_bounds-run-end : goal.slice_bounds-run-end
slice_bounds-run-end g c =
    let w : ℕ = c.args.pixel_len in
    let end_is : c.loop-line.done + c.from-len.result * c.loop-line.count ≡ c.loop-line.done + w * c.loop-line.count = ap (λ n. c.loop-line.done + n * c.loop-line.count) c.from-len.ensures in
    let fits = run_fits w c.loop-line.done c.loop-line.count (length (lines_in_cutout (lines_left c.loop-line.line-iterator))) (length c.args.bytes.now) c.loop-line.invariant.left in
    let below : c.loop-line.done + c.from-len.result * c.loop-line.count ≤ length c.args.bytes.now = omega (arith, fits.0, end_is) in
    omega (arith, below)

pub overflow_add-first : goal.overflow_add-first
overflow_add-first g c =
    let near = run_near c.args.pixel_len c.args.data_at c.loop-line.first c.loop-line.count (lines_left c.args.lines) c.requires.some c.requires.within c.loop-line.invariant.near in
    record { fits = omega (arith, near.0) }

pub overflow_mul-len : goal.overflow_mul-len
overflow_mul-len g c =
    let near = run_near c.args.pixel_len c.args.data_at c.loop-line.first c.loop-line.count (lines_left c.args.lines) c.requires.some c.requires.within c.loop-line.invariant.near in
    let place : c.from-len.result * c.loop-line.first ≡ c.args.pixel_len * c.loop-line.first = ap (λ n. n * c.loop-line.first) c.from-len.ensures in
    record { fits = omega (arith, near.1, place) }

pub overflow_add-data_at : goal.overflow_add-data_at
overflow_add-data_at g c =
    let near = run_near c.args.pixel_len c.args.data_at c.loop-line.first c.loop-line.count (lines_left c.args.lines) c.requires.some c.requires.within c.loop-line.invariant.near in
    let place : c.from-len.result * c.loop-line.first ≡ c.args.pixel_len * c.loop-line.first = ap (λ n. n * c.loop-line.first) c.from-len.ensures in
    record { fits = omega (arith, near.1, place) }

pub overflow_mul-len-2 : goal.overflow_mul-len-2
overflow_mul-len-2 g c =
    let near = run_near c.args.pixel_len c.args.data_at c.loop-line.first c.loop-line.count (lines_left c.args.lines) c.requires.some c.requires.within c.loop-line.invariant.near in
    let place : c.from-len.result * c.loop-line.first ≡ c.args.pixel_len * c.loop-line.first = ap (λ n. n * c.loop-line.first) c.from-len.ensures in
    record { fits = omega (arith, near.1, place) }

pub overflow_add-data_at-2 : goal.overflow_add-data_at-2
overflow_add-data_at-2 g c =
    let near = run_near c.args.pixel_len c.args.data_at c.loop-line.first c.loop-line.count (lines_left c.args.lines) c.requires.some c.requires.within c.loop-line.invariant.near in
    let place : c.from-len.result * c.loop-line.first ≡ c.args.pixel_len * c.loop-line.first = ap (λ n. n * c.loop-line.first) c.from-len.ensures in
    record { fits = omega (arith, near.1, place) }

pub returns-clause-written : goal.returns-clause-written
returns-clause-written g c =
    let w : ℕ = c.args.pixel_len in
    let at : ℕ = c.args.data_at in
    let bytes : List ℕ = c.args.bytes.now in
    let done : ℕ = c.loop-line.done in
    let first : ℕ = c.loop-line.first in
    let count : ℕ = c.loop-line.count in
    let none : lines_left c.loop-line.line-iterator ≡ [] = c.in-None.ensures.steps.0 in
    let place : at + c.from-len.result * first ≡ at + w * first = ap (λ n. at + n * first) c.from-len.ensures in
    run_last c.output_law.ensures.next w at done (at + c.from-len.result * first) first count bytes (take (length bytes - done) (drop done bytes)) (lines_left c.loop-line.line-iterator)
    (g.K.Sink.contents c.loop-line.sink) (g.K.Sink.contents c.write_behind-2.new.sink) _ none place c.loop-line.invariant.left refl c.in_ok-write_behind-2.ensures.written c.loop-line.invariant.rest
