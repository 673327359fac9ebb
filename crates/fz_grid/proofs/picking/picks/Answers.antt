use Rattle.std.proofs.Common.{◌≡◌, ◌-◌, ◌<◌, map, ap, subst, sym, ◌∙◌, arith}
use Rattle.std.specs.List.{AllByRecursion, range_with_len}
use Rattle.fz_grid.specs.Arrays.{product}
use Rattle.fz_grid.specs.Region.{lengths_of}
use Rattle.fz_grid.specs.Sieve.{sieve_hi, sieve_lengths, sieve_lo, sieve_step}
use Rattle.fz_grid.specs.Visits.{nth_pick}
use Rattle.fz_grid.proofs.Lists.{long_enough}
use Rattle.fz_grid.proofs.Sifted.{picks_by_number, picks_inside, picks_le, picks_list, sieved_of}
use Rattle.fz_grid.proofs.picking.picks.Goals as goal

pub invariant_of-result : goal.invariant_of-result
invariant_of-result c =
    let shape = c.args.shape.now in
    let same = c.lengths_in-lengths.ensures.axes in
    let long = long_enough shape.len shape.n c.requires.shape.positive in
    let few = picks_le shape c.args.sieve.now c.lengths_in-lengths.result c.requires.sieve c.lengths_in-lengths.ensures.axes long (omega (arith, c.requires.shape.axes)) c.lengths_in-lengths.ensures.lengths in
    record {
      shape_is = c.requires.shape;
      within = c.requires.sieve;
      lengths_axes = same;
      counted = c.lengths_in-lengths.ensures.lengths;
      lengths_are =
          record {
            some = omega (arith, same, c.requires.shape.some);
            axes = omega (arith, same, c.requires.shape.axes);
            positive = λ i h. omega (arith, c.lengths_in-lengths.ensures.lengths i (omega (arith, same)));
            pixels = omega (arith, few, c.requires.shape.pixels);
          };
      all = omega (arith, c.volume-end.ensures, few, c.requires.shape.pixels);
      ordered = omega arith;
    }

-- the picks that are left at first
by_number : (c : goal.After-result-3-1) → map (nth_pick (lengths_of c.args.shape.now) (sieve_lo c.args.sieve.now) (sieve_step c.args.sieve.now) (lengths_of c.lengths_in-lengths.result)) (range_with_len 0 (c.volume-end.result - 0)) ≡ map (nth_pick (lengths_of c.args.shape.now) (sieve_lo c.args.sieve.now) (sieve_step c.args.sieve.now) (sieve_lengths c.args.sieve.now)) (range_with_len 0 (product (sieve_lengths c.args.sieve.now)))
by_number c =
    let shape = c.args.shape.now in
    let sieve = c.args.sieve.now in
    let array = lengths_of shape in
    let counts = lengths_of c.lengths_in-lengths.result in
    let long = long_enough shape.len shape.n c.requires.shape.positive in
    let few = picks_le shape c.args.sieve.now c.lengths_in-lengths.result c.requires.sieve c.lengths_in-lengths.ensures.axes long (omega (arith, c.requires.shape.axes)) c.lengths_in-lengths.ensures.lengths in
    let in_axes = c.requires.shape.axes in
    let whole : c.volume-end.result - 0 ≡ product counts = omega (arith, c.volume-end.ensures, few, c.requires.shape.pixels) in
    let list = picks_list shape sieve c.lengths_in-lengths.result c.requires.sieve c.lengths_in-lengths.ensures.axes (omega arith) (omega arith) (omega arith) (omega arith) c.lengths_in-lengths.ensures.lengths in
    ap (λ n. map (nth_pick array (sieve_lo sieve) (sieve_step sieve) counts) (range_with_len 0 n)) whole
    ∙ ap (λ l. map (nth_pick array (sieve_lo sieve) (sieve_step sieve) l) (range_with_len 0 (product l))) list

pub returns-clause-picks : goal.returns-clause-picks
returns-clause-picks c =
    let sieve = c.args.sieve.now in
    by_number c ∙ sym (picks_by_number (lengths_of c.args.shape.now) (sieve_lo sieve) (sieve_step sieve) (sieve_lengths sieve))

pub returns-clause-inside : goal.returns-clause-inside
returns-clause-inside c =
    let shape = c.args.shape.now in
    let sieve = c.args.sieve.now in
    let in_axes = c.requires.shape.axes in
    let sieved = sieved_of shape sieve (long_enough shape.len shape.n c.requires.shape.positive) (omega arith) (omega arith) (omega arith) c.requires.sieve in
    subst (AllByRecursion (λ place. place < product (lengths_of shape))) (sym (by_number c))
    (picks_inside (lengths_of shape) (sieve_lo sieve) (sieve_hi sieve) (sieve_step sieve) (product (sieve_lengths sieve)) sieved)
