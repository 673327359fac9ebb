-- The rows of a round are those of neighbouring tiles.
use Rattle.std.proofs.Common.{◌≡◌, ℕ, List, OnOk, subst, arith}
use Rattle.std.specs.List.{range_with_len}
use Rattle.std.proofs.lemmas.List.{length-replicate, length-take}
use Rattle.std.proofs.lemmas.Result.{on_ok_weaker}
use Rattle.fz_fetch.specs.Fetched.{AreFetched}
use Rattle.fz_fetch.proofs.RoundReads.{refused_weaker, round_read}
use Rattle.fz_fetch.proofs.RoundTiles.{numbered, round_fault, round_sound, tiles_of_image}
use Rattle.fz_fetch.proofs.decoding.decode_round.Goals as goal

pub fetch_tiles-requires-clause-tiles : goal.fetch_tiles-requires-clause-tiles
fetch_tiles-requires-clause-tiles g c κs within =
    let are : c.number_tiles.new.tiles ≡ range_with_len c.args.round.first c.args.round.count =
    numbered c.args.round.first c.args.round.count _ c.number_tiles.new.tiles c.number_tiles.ensures (omega (arith, c.requires.few, length-take {A = ℕ}, length-replicate {A = ℕ})) in
    tiles_of_image c.args.packed.image.now c.args.round.first c.args.round.count c.number_tiles.new.tiles are c.requires.tiles

pub returns-clause-sound : goal.returns-clause-sound
returns-clause-sound g c =
    let are : c.number_tiles.new.tiles ≡ range_with_len c.args.round.first c.args.round.count =
    numbered c.args.round.first c.args.round.count _ c.number_tiles.new.tiles c.number_tiles.ensures (omega (arith, c.requires.few, length-take {A = ℕ}, length-replicate {A = ℕ})) in
    on_ok_weaker c.fetch_tiles.result
    (λ fetched. round_sound (g.S.Source.held c.args.source.now) c.args.packed.header.now c.args.packed.image.now.plan c.args.round.first c.args.round.count c.number_tiles.new.tiles c.fetch_tiles.new.window.slots are fetched)
    c.fetch_tiles.ensures.fetched

pub returns-clause-fault : goal.returns-clause-fault
returns-clause-fault g c =
    let are : c.number_tiles.new.tiles ≡ range_with_len c.args.round.first c.args.round.count =
    numbered c.args.round.first c.args.round.count _ c.number_tiles.new.tiles c.number_tiles.ensures (omega (arith, c.requires.few, length-take {A = ℕ}, length-replicate {A = ℕ})) in
    round_fault (g.S.Source.held c.args.source.now) c.args.packed.header.now c.args.round.first c.args.round.count c.number_tiles.new.tiles c.fetch_tiles.result are c.fetch_tiles.ensures.fault

pub returns-clause-row : goal.returns-clause-row
returns-clause-row g c = refused_weaker c.fetch_tiles.result (λ x among. (_, among.2.1)) c.fetch_tiles.ensures.row

pub returns-clause-fetched : goal.returns-clause-fetched
returns-clause-fetched g c =
    let are : c.number_tiles.new.tiles ≡ range_with_len c.args.round.first c.args.round.count =
    numbered c.args.round.first c.args.round.count _ c.number_tiles.new.tiles c.number_tiles.ensures (omega (arith, c.requires.few, length-take {A = ℕ}, length-replicate {A = ℕ})) in
    subst (λ (ts : List ℕ). OnOk c.fetch_tiles.result (AreFetched (g.S.Source.held c.args.source.now) c.args.packed.header.now c.args.packed.image.now.plan ts c.fetch_tiles.new.window.slots)) are c.fetch_tiles.ensures.fetched

pub returns-clause-read : goal.returns-clause-read
returns-clause-read g c =
    let are : c.number_tiles.new.tiles ≡ range_with_len c.args.round.first c.args.round.count =
    numbered c.args.round.first c.args.round.count _ c.number_tiles.new.tiles c.number_tiles.ensures (omega (arith, c.requires.few, length-take {A = ℕ}, length-replicate {A = ℕ})) in
    round_read c.hdus_law.ensures.tiles (g.S.Source.held c.args.source.now) c.args.packed.header.now c.args.packed.image.now c.number_tiles.new.tiles (g.S.Source.ranges c.args.source.now) (g.S.Source.ranges c.fetch_tiles.new.source) c.requires.said
    (tiles_of_image c.args.packed.image.now c.args.round.first c.args.round.count c.number_tiles.new.tiles are c.requires.tiles) c.fetch_tiles.ensures.read
