-- The records of the tiles are loaded, and then decoded.
use Rattle.std.proofs.Common.{◌≡◌, ℕ, ◌+◌, ◌*◌, List, Option, Some, None, length, slice_index, replicate, sym, ap, ◌∙◌, subst, arith, rules, Err, IfSome, map}
use Rattle.std.specs.Prelude.{⊤}
use Rattle.fz_base.specs.Refusal.{refusal}
use Rattle.fz_base.specs.declared.fault.Place.TheVariants.{Row as AtRow}
use Rattle.fz_checks.specs.TileKinds.{kind_of_tile}
use Rattle.fz_pool.specs.Calls.{HaveNumbers, IsLowestFault}
use Rattle.fz_pool.specs.declared.slot.Slot.{Slot}
use Rattle.fz_fetch.specs.Loaded.{StopsAt}
use Rattle.fz_fetch.proofs.FetchedTiles.{fetched, fetched_in, first_behind, first_in_slots, names, ready, tells}
use Rattle.fz_fetch.specs.Fetched.{IsOfRowAmong}
use Rattle.fz_fetch.proofs.Unrefused.{refused_fetching, refuses_none, stopped_fetching}
use Rattle.fz_files.specs.FirstFault.{IsFirstRowFault, image_row}
use Rattle.fz_fetch.proofs.fetching.fetch_tiles.Goals as goal

pub decode_window-requires-clause-filled : goal.decode_window-requires-clause-filled
decode_window-requires-clause-filled g c κs within =
    let n : ℕ = c.requires.window.0 in
    c.sizes_law.ensures.many c.load_round.new.window.slots (2 * c.load_round.new.window.workers) (2 * n, 8 * n + 64)
    (c.load_round.ensures.stays.1.sizes ∙ c.requires.window.1 ∙ ap (λ (k : ℕ). replicate {A = ℕ × ℕ} (2 * k) (2 * n, 8 * n + 64)) (sym c.load_round.ensures.stays.1.workers))

pub decode_window-requires-clause-ready : goal.decode_window-requires-clause-ready
decode_window-requires-clause-ready g c κs within =
    ready c.args.header.now c.args.image.now c.args.tiles.now (g.S.Source.held c.args.source.now) c.in_ok-loaded.loaded.count c.load_round.new.window.slots c.in_ok-loaded.ensures.loaded.loaded

-- ---- the tiles

pub returns-in-None-clause-fetched : goal.returns-in-None-clause-fetched
returns-in-None-clause-fetched g c =
    let held : Option (List ℕ) = g.S.Source.held c.args.source.now in
    let h = c.args.header.now in
    let image = c.args.image.now in
    let tiles : List ℕ = c.args.tiles.now in
    let is = c.in_ok-loaded.ensures.loaded in
    let count : ℕ = c.in_ok-loaded.loaded.count in
    let old : List Slot = c.load_round.new.window.slots in
    let new : List Slot = c.decode_window.new.window.slots in
    let n : ℕ = c.requires.window.0 in
    let none : c.in_ok-loaded.loaded.refused ≡ None = search rules in
    let all : count ≡ length tiles = subst (StopsAt held h.hdu image tiles count) none is.stops in
    let have : HaveNumbers count old new = search rules in
    let many : length old ≡ 2 * c.args.window.now.workers =
    c.sizes_law.ensures.many old (2 * c.args.window.now.workers) (2 * n, 8 * n + 64) (c.load_round.ensures.stays.1.sizes ∙ c.requires.window.1) in
    let same : length new ≡ length old = c.decode_window.ensures.kept.slots in
    fetched h image tiles c.round_law.ensures.decoded held c.requires.said count old new all (omega (arith, all, many, c.requires.few)) (omega (arith, all, many, same, c.requires.few)) is.loaded have

-- ---- the first fault

pub returns-in-Ok-Some-clause-fault : goal.returns-in-Ok-Some-clause-fault
returns-in-Ok-Some-clause-fault g c =
    let held : Option (List ℕ) = g.S.Source.held c.args.source.now in
    let h = c.args.header.now in
    let tiles : List ℕ = c.args.tiles.now in
    let is = c.in_ok-loaded.ensures.loaded in
    let count : ℕ = c.in_ok-loaded.loaded.count in
    let old : List Slot = c.load_round.new.window.slots in
    let new : List Slot = c.decode_window.new.window.slots in
    let lowest : IsLowestFault count old new c.in-Ok-Some.i c.in-Ok-Some.fault = search rules in
    tells ⊤ held h tiles c.faulty.result (refusal h.hdu (AtRow (slice_index tiles c.in-Ok-Some.i)) (kind_of_tile c.in-Ok-Some.fault)) c.faulty.ensures
    (first_in_slots h c.args.image.now tiles held c.requires.said count old new is.few is.loaded c.in-Ok-Some.i c.in-Ok-Some.fault lowest)

pub returns-in-Some-clause-fault : goal.returns-in-Some-clause-fault
returns-in-Some-clause-fault g c =
    let held : Option (List ℕ) = g.S.Source.held c.args.source.now in
    let h = c.args.header.now in
    let image = c.args.image.now in
    let tiles : List ℕ = c.args.tiles.now in
    let is = c.in_ok-loaded.ensures.loaded in
    let count : ℕ = c.in_ok-loaded.loaded.count in
    let old : List Slot = c.load_round.new.window.slots in
    let new : List Slot = c.decode_window.new.window.slots in
    let refused : c.in_ok-loaded.loaded.refused ≡ Some c.in-Some.fault = search rules in
    let stops : StopsAt held h.hdu image tiles count (Some c.in-Some.fault) = subst (StopsAt held h.hdu image tiles count) refused is.stops in
    let have : HaveNumbers count old new = search rules in
    first_behind h image tiles held c.requires.said count old new stops.0 is.loaded have c.in-Some.fault stops.2

-- ---- its row

pub returns-in-Ok-Some-clause-row : goal.returns-in-Ok-Some-clause-row
returns-in-Ok-Some-clause-row g c =
    let is = c.in_ok-loaded.ensures.loaded in
    let count : ℕ = c.in_ok-loaded.loaded.count in
    let lowest : IsLowestFault count c.load_round.new.window.slots c.decode_window.new.window.slots c.in-Ok-Some.i c.in-Ok-Some.fault = search rules in
    names ⊤ c.args.header.now.hdu c.args.tiles.now c.in-Ok-Some.i c.in-Ok-Some.fault c.faulty.result (omega (arith, lowest.near, is.few)) c.faulty.ensures

pub returns-in-Some-clause-row : goal.returns-in-Some-clause-row
returns-in-Some-clause-row g c =
    let held : Option (List ℕ) = g.S.Source.held c.args.source.now in
    let image = c.args.image.now in
    let tiles : List ℕ = c.args.tiles.now in
    let hdu : ℕ = c.args.header.now.hdu in
    let is = c.in_ok-loaded.ensures.loaded in
    let count : ℕ = c.in_ok-loaded.loaded.count in
    let refused : c.in_ok-loaded.loaded.refused ≡ Some c.in-Some.fault = search rules in
    let stops : StopsAt held hdu image tiles count (Some c.in-Some.fault) = subst (StopsAt held hdu image tiles count) refused is.stops in
    (count, stops.0, stops.1)

-- ---- what is read

pub returns-in_err-loaded-clause-read : goal.returns-in_err-loaded-clause-read
returns-in_err-loaded-clause-read g c =
    fetched_in (g.S.Source.held c.args.source.now) c.args.header.now c.args.image.now c.args.tiles.now (g.S.Source.ranges c.args.source.now) (g.S.Source.ranges c.load_round.new.source)
    c.requires.said c.load_round.ensures.read

pub returns-in-Ok-Some-clause-read : goal.returns-in-Ok-Some-clause-read
returns-in-Ok-Some-clause-read g c =
    fetched_in (g.S.Source.held c.args.source.now) c.args.header.now c.args.image.now c.args.tiles.now (g.S.Source.ranges c.args.source.now) (g.S.Source.ranges c.load_round.new.source)
    c.requires.said c.load_round.ensures.read

pub returns-in-Some-clause-read : goal.returns-in-Some-clause-read
returns-in-Some-clause-read g c =
    fetched_in (g.S.Source.held c.args.source.now) c.args.header.now c.args.image.now c.args.tiles.now (g.S.Source.ranges c.args.source.now) (g.S.Source.ranges c.load_round.new.source)
    c.requires.said c.load_round.ensures.read

pub returns-in-None-clause-read : goal.returns-in-None-clause-read
returns-in-None-clause-read g c =
    fetched_in (g.S.Source.held c.args.source.now) c.args.header.now c.args.image.now c.args.tiles.now (g.S.Source.ranges c.args.source.now) (g.S.Source.ranges c.load_round.new.source)
    c.requires.said c.load_round.ensures.read

pub returns-in-Err-clause-read : goal.returns-in-Err-clause-read
returns-in-Err-clause-read g c =
    fetched_in (g.S.Source.held c.args.source.now) c.args.header.now c.args.image.now c.args.tiles.now (g.S.Source.ranges c.args.source.now) (g.S.Source.ranges c.load_round.new.source)
    c.requires.said c.load_round.ensures.read

pub returns-in_err-loaded-clause-row : goal.returns-in_err-loaded-clause-row
returns-in_err-loaded-clause-row g c =
    let stopped : c.from_residual.result ≡ Err c.in_err-loaded.field-0.0 = search rules in
    refuses_none _ (IsOfRowAmong c.args.header.now.hdu c.args.tiles.now) c.from_residual.result c.in_err-loaded.field-0.0 stopped c.in_err-loaded.ensures.unrefused

pub returns-in_err-loaded-clause-fault : goal.returns-in_err-loaded-clause-fault
returns-in_err-loaded-clause-fault g c =
    let stopped : c.from_residual.result ≡ Err c.in_err-loaded.field-0.0 = search rules in
    refuses_none _ (λ x. IfSome (g.S.Source.held c.args.source.now) (λ f. IsFirstRowFault f (map (image_row c.args.header.now) c.args.tiles.now) (Some x))) c.from_residual.result c.in_err-loaded.field-0.0 stopped c.in_err-loaded.ensures.unrefused

pub returns-in_err-loaded-clause-cause : goal.returns-in_err-loaded-clause-cause
returns-in_err-loaded-clause-cause g c =
    let stopped : c.from_residual.result ≡ Err c.in_err-loaded.field-0.0 = search rules in
    stopped_fetching _ (g.S.Source.tally c.args.source.now) (g.S.Source.tally c.load_round.new.source) c.from_residual.result c.in_err-loaded.field-0.0 stopped c.in_err-loaded.ensures.cause

pub returns-in_err-loaded-clause-others : goal.returns-in_err-loaded-clause-others
returns-in_err-loaded-clause-others g c =
    c.load_round.ensures.others

pub returns-in_err-loaded-clause-stays : goal.returns-in_err-loaded-clause-stays
returns-in_err-loaded-clause-stays g c =
    c.load_round.ensures.stays

pub returns-in-Ok-Some-clause-others : goal.returns-in-Ok-Some-clause-others
returns-in-Ok-Some-clause-others g c =
    λ k d after. c.decode_window.ensures.kept.others k d (omega (arith, after, c.in_ok-loaded.ensures.loaded.few)) ∙ c.load_round.ensures.others k d after

pub returns-in-Ok-Some-clause-stays : goal.returns-in-Ok-Some-clause-stays
returns-in-Ok-Some-clause-stays g c =
    let kept = c.decode_window.ensures.kept in
    let load = c.load_round.ensures.stays in
    (load.0, record { sizes = kept.sizes ∙ load.1.sizes; workers = kept.workers ∙ load.1.workers }, load.2)

pub returns-in-Some-clause-others : goal.returns-in-Some-clause-others
returns-in-Some-clause-others g c =
    λ k d after. c.decode_window.ensures.kept.others k d (omega (arith, after, c.in_ok-loaded.ensures.loaded.few)) ∙ c.load_round.ensures.others k d after

pub returns-in-Some-clause-stays : goal.returns-in-Some-clause-stays
returns-in-Some-clause-stays g c =
    let kept = c.decode_window.ensures.kept in
    let load = c.load_round.ensures.stays in
    (load.0, record { sizes = kept.sizes ∙ load.1.sizes; workers = kept.workers ∙ load.1.workers }, load.2)

pub returns-in-None-clause-others : goal.returns-in-None-clause-others
returns-in-None-clause-others g c =
    λ k d after. c.decode_window.ensures.kept.others k d (omega (arith, after, c.in_ok-loaded.ensures.loaded.few)) ∙ c.load_round.ensures.others k d after

pub returns-in-None-clause-stays : goal.returns-in-None-clause-stays
returns-in-None-clause-stays g c =
    let kept = c.decode_window.ensures.kept in
    let load = c.load_round.ensures.stays in
    (load.0, record { sizes = kept.sizes ∙ load.1.sizes; workers = kept.workers ∙ load.1.workers }, load.2)

pub returns-in-Err-clause-others : goal.returns-in-Err-clause-others
returns-in-Err-clause-others g c =
    λ k d after. c.decode_window.ensures.kept.others k d (omega (arith, after, c.in_ok-loaded.ensures.loaded.few)) ∙ c.load_round.ensures.others k d after

pub returns-in-Err-clause-stays : goal.returns-in-Err-clause-stays
returns-in-Err-clause-stays g c =
    let kept = c.decode_window.ensures.kept in
    let load = c.load_round.ensures.stays in
    (load.0, record { sizes = kept.sizes ∙ load.1.sizes; workers = kept.workers ∙ load.1.workers }, load.2)

pub returns-in-Ok-Some-clause-cause : goal.returns-in-Ok-Some-clause-cause
returns-in-Ok-Some-clause-cause g c =
    refused_fetching _ ⊤ (g.S.Source.tally c.args.source.now) (g.S.Source.tally c.load_round.new.source) c.faulty.result (refusal c.args.header.now.hdu (AtRow (slice_index c.args.tiles.now c.in-Ok-Some.i)) (kind_of_tile c.in-Ok-Some.fault)) c.in_ok-loaded.loaded c.faulty.ensures c.in_ok-loaded.ensures.cause

pub returns-in-Some-clause-cause : goal.returns-in-Some-clause-cause
returns-in-Some-clause-cause g c =
    record { kept = c.in_ok-loaded.ensures.cause.kept; ok = tt; stop = c.in_ok-loaded.ensures.cause.ok }

pub returns-in-None-clause-cause : goal.returns-in-None-clause-cause
returns-in-None-clause-cause g c =
    record { kept = c.in_ok-loaded.ensures.cause.kept; ok = c.in_ok-loaded.ensures.cause.ok; stop = tt }

pub returns-in-Err-clause-cause : goal.returns-in-Err-clause-cause
returns-in-Err-clause-cause g c =
    record { kept = c.in_ok-loaded.ensures.cause.kept; ok = tt; stop = tt }
