-- One run after another.
use Rattle.std.proofs.Common.{◌≡◌, ℕ, ◌+◌, ◌-◌, ◌*◌, ◌≤◌, List, ◌∷◌, Option, length, take, drop, sym, ap, ◌∙◌, arith, rules}
use Rattle.std.proofs.lemmas.List.{length-drop, length-take}
use Rattle.fz_base.specs.Sink.{written}
use Rattle.fz_job.specs.Held.{settled}
use Rattle.fz_grid.specs.Arrays.{product}
use Rattle.fz_grid.specs.Region.{lengths_of}
use Rattle.fz_grid.specs.Runs.{total_length}
use Rattle.fz_grid.specs.Walks.{runs_left}
use Rattle.fz_pixels.proofs.Running.{next_inside, next_total, run_fits, run_within, write_more}
use Rattle.fz_pixels.proofs.runs.write_region.Goals as goal

pub hold_piece-requires-clause-near : goal.hold_piece-requires-clause-near
hold_piece-requires-clause-near g c =
    let next : runs_left c.loop-first.first-iterator ≡ (c.in-Some.first, c.in-Some.count) ∷ runs_left c.next.new.self = c.in-Some.ensures.steps in
    let w : ℕ = c.args.places.pixel_len in
    let most : ℕ = product (lengths_of c.args.places.shape) in
    let done : ℕ = c.loop-first.done in
    let bytes : List ℕ = c.args.bytes.now in
    let inside = next_inside most c.in-Some.first c.in-Some.count _ _ next c.loop-first.invariant.inside in
    let total = next_total c.in-Some.first c.in-Some.count _ _ next in
    let fits = run_fits w done c.in-Some.count (total_length (runs_left c.next.new.self)) (length bytes) (ap (λ n. done + w * n) (sym total) ∙ c.loop-first.invariant.left) in
    let within : c.args.places.data_at + w * c.in-Some.first + w * c.in-Some.count ≤ c.args.places.data_at + w * most =
    run_within w c.args.places.data_at c.in-Some.first c.in-Some.count most (c.args.places.data_at + w * most) inside.0 (omega arith) in
    let size : c.from.result * c.in-Some.count ≡ w * c.in-Some.count = ap (λ n. n * c.in-Some.count) c.from.ensures in
    let place : c.args.places.data_at + c.from-in-loop-first.result * c.in-Some.first ≡ c.args.places.data_at + w * c.in-Some.first = ap (λ n. c.args.places.data_at + n * c.in-Some.first) c.from-in-loop-first.ensures in
    omega (arith, within, size, place, fits.0, c.requires.near, length-take {A = ℕ}, length-drop {A = ℕ})

pub loop-first-preserved : goal.loop-first-preserved
loop-first-preserved g c =
    let next : runs_left c.loop-first.first-iterator ≡ (c.in-Some.first, c.in-Some.count) ∷ runs_left c.next.new.self = c.in-Some.ensures.steps in
    let w : ℕ = c.args.places.pixel_len in
    let bytes : List ℕ = c.args.bytes.now in
    let done : ℕ = c.loop-first.done in
    let before : Option (List ℕ) = settled c.loop-first.back c.loop-first.held (g.K.Sink.contents c.loop-first.sink) in
    let now : Option (List ℕ) = settled c.hold_piece.new.back c.hold_piece.new.held (g.K.Sink.contents c.hold_piece.new.sink) in
    let inside = next_inside (product (lengths_of c.args.places.shape)) c.in-Some.first c.in-Some.count _ _ next c.loop-first.invariant.inside in
    let total = next_total c.in-Some.first c.in-Some.count _ _ next in
    let fits = run_fits w done c.in-Some.count (total_length (runs_left c.next.new.self)) (length bytes) (ap (λ n. done + w * n) (sym total) ∙ c.loop-first.invariant.left) in
    let size : c.from.result * c.in-Some.count ≡ w * c.in-Some.count = ap (λ n. n * c.in-Some.count) c.from.ensures in
    let place : c.args.places.data_at + c.from-in-loop-first.result * c.in-Some.first ≡ c.args.places.data_at + w * c.in-Some.first = ap (λ n. c.args.places.data_at + n * c.in-Some.first) c.from-in-loop-first.ensures in
    let len : ℕ = c.from.result * c.in-Some.count in
    let room : done + len ≤ length bytes = omega (arith, fits.0, size) in
    let run : List ℕ = take (done + len - done) (drop done bytes) in
    let piece : run ≡ take len (drop done bytes) = let count : done + len - done ≡ len = omega arith in ap (λ n. take n (drop done bytes)) count in
    let put : now ≡ written (c.args.places.data_at + c.from-in-loop-first.result * c.in-Some.first) run before = c.in_ok-hold_piece.ensures.written in
    record {
      created = search rules;
      counts = search rules;
      shut = search rules;
      told = search rules;
      inside = inside.1;
      left = omega (arith, fits.1, size);
      kept = c.in_ok-hold_piece.ensures.kept;
      room = c.in_ok-hold_piece.ensures.stays.1 ∙ c.loop-first.invariant.room;
      rest = write_more c.output_law.ensures.next w c.args.places.data_at done c.in-Some.first c.in-Some.count (c.args.places.data_at + c.from-in-loop-first.result * c.in-Some.first) len bytes run
          (runs_left c.loop-first.first-iterator) (runs_left c.next.new.self) before now _ next place size room piece put c.loop-first.invariant.rest;
    }
