-- The tiles of the one half are scattered, and those of the other are the next ones.
use Rattle.std.proofs.Common.{◌≡◌, ℕ, ◌+◌, ◌≤◌, List, map, length, Option, Some, IfSome, Result, Err, sym, subst, arith, rules}
use Rattle.std.specs.List.{range_with_len}
use Rattle.std.proofs.lemmas.List.{length-replicate, length-take}
use Rattle.std.proofs.lemmas.List.FromFn.{length-range_with_len}
use Rattle.fz_base.specs.Stop.{IfRefused}
use Rattle.fz_base.specs.declared.failure.Stop.{Stop}
use Rattle.fz_files.specs.FirstFault.{IsFirstRowFault, image_row}
use Rattle.fz_fetch.specs.Fetched.{HaveTiles}
use Rattle.fz_unpack.proofs.Outcomes.{stop_weaker}
use Rattle.fz_unpack.proofs.Tiles.{numbered, tiles_of_image}
use Rattle.fz_unpack.proofs.Turning.{fault_in_turn}
use Rattle.fz_unpack.proofs.turns.take_turn.Goals as goal

pub fetch_and_scatter-requires-clause-tiles : goal.fetch_and_scatter-requires-clause-tiles
fetch_and_scatter-requires-clause-tiles g c κs within =
    let turn = c.args.turn.now in
    let next : ℕ = turn.written + turn.decoded in
    let count : ℕ = c.min-count.result in
    let few : count ≤ 128 = omega (arith, c.min-count.ensures, c.workers.ensures.some) in
    let are : c.number_tiles-2.new.tiles ≡ range_with_len next count =
    numbered next count _ c.number_tiles-2.new.tiles c.number_tiles-2.ensures (omega (arith, few, length-take {A = ℕ}, length-replicate {A = ℕ})) in
    tiles_of_image c.args.asked.now.image next count c.number_tiles-2.new.tiles are (omega (arith, c.min-count.ensures, c.requires.stand.within, c.requires.image.all))

pub fetch_and_scatter-requires-clause-can_scatter : goal.fetch_and_scatter-requires-clause-can_scatter
fetch_and_scatter-requires-clause-can_scatter g c κs within =
    let turn = c.args.turn.now in
    let image = c.args.asked.now.image in
    let stand = c.requires.stand in
    let few : turn.decoded ≤ 128 = omega (arith, stand.few, c.workers-others.ensures.some, c.workers-others.ensures.value) in
    let are : c.number_tiles.new.tiles ≡ range_with_len turn.written turn.decoded =
    numbered turn.written turn.decoded _ c.number_tiles.new.tiles c.number_tiles.ensures (omega (arith, few, length-take {A = ℕ}, length-replicate {A = ℕ})) in
    let long : length c.number_tiles.new.tiles ≡ turn.decoded = subst (λ (ts : List ℕ). length ts ≡ turn.decoded) (sym are) (length-range_with_len turn.written turn.decoded) in
    record {
      created_is = c.requires.created;
      behind = c.requires.image.behind;
      near = search rules;
      divided = c.requires.image.readable.divided;
      size = c.requires.image.readable.codec.size;
      few = omega (arith, long, stand.few);
      window = (c.requires.rooms.0, c.requires.rooms.2, c.requires.rooms.3);
      are = tiles_of_image image turn.written turn.decoded c.number_tiles.new.tiles are (omega (arith, stand.within, c.requires.image.all));
      pixels = (stand.fetched.pixels, subst (λ (ts : List ℕ). HaveTiles image.plan ts c.args.second.now.slots stand.fetched.pixels) (sym are) stand.fetched.have);
    }

pub returns-in_err-fetch_and_scatter-clause-fault : goal.returns-in_err-fetch_and_scatter-clause-fault
returns-in_err-fetch_and_scatter-clause-fault g c =
    let held : Option (List ℕ) = g.S.Source.held c.args.source.now in
    let h = c.args.asked.now.header in
    let turn = c.args.turn.now in
    let first : ℕ = turn.written in
    let next : ℕ = turn.written + turn.decoded in
    let count : ℕ = c.min-count.result in
    let few : count ≤ 128 = omega (arith, c.min-count.ensures, c.workers.ensures.some) in
    let are : c.number_tiles-2.new.tiles ≡ range_with_len next count =
    numbered next count _ c.number_tiles-2.new.tiles c.number_tiles-2.ensures (omega (arith, few, length-take {A = ℕ}, length-replicate {A = ℕ})) in
    let stop : Stop = c.in_err-fetch_and_scatter.field-0.0 in
    let stopped : c.from_residual.result ≡ Err stop = search rules in
    let fault : IfRefused {X = Unit {0}} (Err stop) (λ x. IfSome held (λ file. IsFirstRowFault file (map (image_row h) (range_with_len next count)) (Some x))) =
    subst (λ (ts : List ℕ). IfRefused {X = Unit {0}} (Err stop) (λ x. IfSome held (λ file. IsFirstRowFault file (map (image_row h) ts) (Some x)))) are c.in_err-fetch_and_scatter.ensures.fault in
    subst (λ (r : Result (Unit {0}) Stop). IfRefused r (λ x. IfSome held (λ file. (more : ℕ) × (first + more ≤ c.args.asked.now.tiles) × IsFirstRowFault file (map (image_row h) (range_with_len first more)) (Some x)))) (sym stopped)
    (stop_weaker (Unit {0}) (Unit {0}) stop
    (λ x is. fault_in_turn held h c.args.asked.now.image.plan turn.written turn.decoded count c.args.asked.now.tiles c.args.second.now x c.requires.stand (omega (arith, c.min-count.ensures, c.requires.stand.within)) is) fault)

-- ---- what stays

pub returns-in_err-fetch_and_scatter-clause-stays : goal.returns-in_err-fetch_and_scatter-clause-stays
returns-in_err-fetch_and_scatter-clause-stays g c =
    let done = c.in_err-fetch_and_scatter.ensures in (
      record { source = done.stays.0; sink = record { created_is = done.scattered.created_is; shut = done.scattered.shut; told = done.scattered.told }; row = search rules; read = done.read; cause = search rules },
      search rules,
      search rules,
    )

pub returns-clause-stays : goal.returns-clause-stays
returns-clause-stays g c =
    let done = c.in_ok-fetch_and_scatter.ensures in (
      record { source = done.stays.0; sink = record { created_is = done.scattered.created_is; shut = done.scattered.shut; told = done.scattered.told }; row = tt; read = done.read; cause = search rules },
      search rules,
      search rules,
    )
