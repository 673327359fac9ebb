-- The tiles are encoded, and then compared.
use Rattle.std.proofs.Common.{◌≡◌, ℕ, ◌+◌, ◌*◌, ◌≤◌, List, Option, None, IfSome, sym, ap, ◌∙◌, subst, arith, rules}
use Rattle.fz_image.specs.Tiles.{AreEncodedTiles, AreLoaded, pixels_of}
use Rattle.fz_compare.proofs.Rounds.{room_stays}
use Rattle.fz_compare.proofs.RoundsCompared.{are_next, if_ok_both, round_compared, small_heap, small_sum}
use Rattle.fz_compare.proofs.Sizes.{row_len_small}
use Rattle.fz_compare.proofs.coded.compare_round.Goals as goal

pub encode_loaded-requires-clause-window : goal.encode_loaded-requires-clause-window
encode_loaded-requires-clause-window g c κs within = room_stays (pixels_of c.args.layout.now 0) c.args.window.now c.set_jobs.new.window c.requires.ready.room c.set_jobs.ensures.window

pub encode_loaded-requires-clause-loaded : goal.encode_loaded-requires-clause-loaded
encode_loaded-requires-clause-loaded g c κs within = (None, c.set_jobs.ensures.loaded None c.requires.ready.pixels c.requires.ready.have tt)

pub compare_coded-requires-clause-next : goal.compare_coded-requires-clause-next
compare_coded-requires-clause-next g c =
    let ready = c.requires.ready in
    let loaded : AreLoaded c.args.layout.now None c.args.progress.tiles c.args.coming.count c.set_jobs.new.window = c.set_jobs.ensures.loaded None ready.pixels ready.have tt in
    let near : c.args.coming.count ≤ 2 * c.encode_loaded.new.window.workers = omega (arith, c.in_ok-encode_loaded.ensures.window.workers, c.set_jobs.ensures.window.workers, c.requires.near) in
    are_next c.args.layout.now c.args.progress c.args.coming.count c.args.window.now c.encode_loaded.new.window ready (c.in_ok-encode_loaded.ensures.encoded None loaded) c.table_law.ensures.next near

pub compare_coded-requires-clause-heap : goal.compare_coded-requires-clause-heap
compare_coded-requires-clause-heap g c = small_heap c.table_law.ensures.small c.args.layout.now c.args.progress c.args.coming.count c.args.window.now c.requires.ready

pub compare_coded-requires-clause-summed : goal.compare_coded-requires-clause-summed
compare_coded-requires-clause-summed g c = small_sum c.table_law.ensures.small c.args.layout.now c.args.progress c.args.coming.count c.args.window.now c.requires.ready

pub returns-clause-compared : goal.returns-clause-compared
returns-clause-compared g c =
    let ready = c.requires.ready in
    let held : Option (List ℕ) = g.S.Source.held c.args.source.now in
    let loaded : AreLoaded c.args.layout.now None c.args.progress.tiles c.args.coming.count c.set_jobs.new.window = c.set_jobs.ensures.loaded None ready.pixels ready.have tt in
    if_ok_both c.compare_coded.result
    (λ now compared written. round_compared c.args.layout.now c.args.progress c.args.coming.count c.args.window.now c.encode_loaded.new.window ready (c.in_ok-encode_loaded.ensures.encoded None loaded)
    c.table_law.ensures.joined held c.args.coming.end c.set_jobs.new.window now c.set_jobs.ensures.loaded c.in_ok-encode_loaded.ensures.encoded compared written)
    c.compare_coded.ensures.compared c.compare_coded.ensures.progress

pub returns-in_err-encode_loaded-clause-read : goal.returns-in_err-encode_loaded-clause-read
returns-in_err-encode_loaded-clause-read g c = c.log_law.ensures.none 0 c.args.coming.end (g.S.Source.ranges c.args.source.now)
