-- The record of the tile is the one that its row says.
use Rattle.std.proofs.Common.{ℕ, ◌≡◌, ◌*◌, Ok, sym, ◌∙◌, arith, rules, Result, Err, IfOk, IfSome, refl, subst, ap}
use Rattle.fz_files.specs.Restored.{tile_of}
use Rattle.fz_fetch.specs.Ahead.{image_tiles}
use Rattle.fz_fetch.proofs.LoadedTiles.{rows_alone, rows_then_tiles}
use Rattle.fz_fetch.proofs.ReadAhead.{record_known}
use Rattle.fz_fetch.proofs.Records.{all_three, read_is, told_record}
use Rattle.fz_base.specs.Counts.{Tally}
use Rattle.fz_base.specs.Stop.{ReadsOnly}
use Rattle.fz_base.specs.declared.fault.Fault.{Fault}
use Rattle.fz_table.specs.Records.{IsOfRow, StandsInHeap}
use Rattle.fz_table.specs.declared.record.Record.{Record}
use Rattle.fz_table.specs.declared.record.Tile.{Tile}
use Rattle.fz_fetch.specs.Loaded.{IsRefusedIn}
use Rattle.fz_fetch.specs.Rows.{StandsWithin}
use Rattle.fz_fetch.proofs.Unrefused.{none_put, refuses_none, stopped_reading, unrefused}
use Rattle.fz_fetch.proofs.loading_ahead.load_next_ahead.Goals as goal

pub row_ahead-requires-clause-few : goal.row_ahead-requires-clause-few
row_ahead-requires-clause-few g c = omega (arith, c.requires.image.rows, c.requires.image.divided.tiles)

pub row_ahead-requires-clause-tile : goal.row_ahead-requires-clause-tile
row_ahead-requires-clause-tile g c = omega (arith, c.requires.image.rows, c.requires.tile)

-- ---- what is read

pub returns-in_err-says-clause-read : goal.returns-in_err-says-clause-read
returns-in_err-says-clause-read g c =
    rows_alone (g.S.Source.held c.args.source.now) c.args.tile.hdu c.args.tile.image.now (image_tiles c.args.tile.image.now)
    (g.S.Source.ranges c.args.source.now) _ c.row_ahead.ensures.read

pub returns-in_err-found-clause-read : goal.returns-in_err-found-clause-read
returns-in_err-found-clause-read g c =
    rows_alone (g.S.Source.held c.args.source.now) c.args.tile.hdu c.args.tile.image.now (image_tiles c.args.tile.image.now)
    (g.S.Source.ranges c.args.source.now) _ c.row_ahead.ensures.read

pub returns-clause-read : goal.returns-clause-read
returns-clause-read g c =
    rows_then_tiles c.ranges_law.ensures.join (g.S.Source.held c.args.source.now) (g.S.Source.held c.row_ahead.new.source) c.args.tile.hdu c.args.tile.image.now
    (image_tiles c.args.tile.image.now)
    (g.S.Source.ranges c.args.source.now) (g.S.Source.ranges c.row_ahead.new.source) (g.S.Source.ranges c.load_slot_ahead.new.source)
    c.row_ahead.ensures.source.held_is c.row_ahead.ensures.read c.load_slot_ahead.ensures.read

-- ---- the record

pub load_slot_ahead-requires-clause-read : goal.load_slot_ahead-requires-clause-read
load_slot_ahead-requires-clause-read g c =
    let came : c.record_of.result ≡ Ok c.in_ok-found.found = search rules in
    read_is c.args.tile.hdu c.args.tile.number c.args.tile.image.now.table c.in_ok-says.says c.known_tile-known.result c.in_ok-found.found (sym c.record_of.ensures.exact ∙ came)

pub load_slot_ahead-requires-clause-told : goal.load_slot_ahead-requires-clause-told
load_slot_ahead-requires-clause-told g c =
    let came : c.record_of.result ≡ Ok c.in_ok-found.found = search rules in
    record_known (g.S.Source.held c.args.source.now) (g.S.Source.held c.row_ahead.new.source) c.args.tile.hdu c.args.tile.number c.args.tile.image.now.table c.in_ok-says.says
    c.known_tile-known.result
    (tile_of c.args.tile.image.now.plan c.args.tile.number) c.in_ok-found.found c.row_ahead.ensures.source.held_is c.known_tile-known.ensures.known c.in_ok-says.ensures.exact
    (sym c.record_of.ensures.exact ∙ came)

pub load_slot_ahead-requires-clause-room : goal.load_slot_ahead-requires-clause-room
load_slot_ahead-requires-clause-room g c =
    let n : ℕ = c.requires.window.0 in (
      n,
      c.sizes_law.ensures.alike c.args.window.now.slots (2 * c.args.window.now.workers) _ c.args.i c.slot_mut.result.now c.requires.window.1 c.requires.near
          c.slot_mut.ensures.value,
      c.requires.window.2,
    )

pub returns-clause-put : goal.returns-clause-put
returns-clause-put g c =
    let came : c.record_of.result ≡ Ok c.in_ok-found.found = search rules in
    let put = c.put_law.ensures.put c.args.window.now c.args.i c.slot_mut.result.now c.load_slot_ahead.new.slot c.slot_mut.ensures.value
    c.load_slot_ahead.ensures.stays.1 in
    all_three c.load_slot_ahead.result c.load_slot_ahead.ensures.job c.load_slot_ahead.ensures.ready c.load_slot_ahead.ensures.bytes
    (λ job ready bytes. (
      c.load_slot_ahead.new.slot,
      put,
      record {
        found = c.in_ok-found.found;
        ready = ready;
        job = job;
        told = told_record (g.S.Source.held c.args.source.now) (g.S.Source.held c.row_ahead.new.source) c.args.tile.hdu c.args.tile.number c.args.tile.image.now.table
            c.in_ok-says.says c.known_tile-known.result
            (tile_of c.args.tile.image.now.plan c.args.tile.number) c.in_ok-found.found _ c.row_ahead.ensures.source.held_is c.known_tile-known.ensures.known
            c.in_ok-says.ensures.exact (sym c.record_of.ensures.exact ∙ came) bytes;
      },
    ))

pub returns-in_err-says-clause-put : goal.returns-in_err-says-clause-put
returns-in_err-says-clause-put g c =
    let stopped : c.from_residual.result ≡ Err c.in_err-says.field-0.0 = search rules in
    none_put _ c.from_residual.result c.in_err-says.field-0.0 stopped

pub returns-in_err-says-clause-place : goal.returns-in_err-says-clause-place
returns-in_err-says-clause-place g c =
    let stopped : c.from_residual.result ≡ Err c.in_err-says.field-0.0 = search rules in
    refuses_none _ (IsOfRow c.args.tile.hdu c.args.tile.number) c.from_residual.result c.in_err-says.field-0.0 stopped c.in_err-says.ensures.unrefused

pub returns-in_err-says-clause-refused : goal.returns-in_err-says-clause-refused
returns-in_err-says-clause-refused g c =
    let stopped : c.from_residual.result ≡ Err c.in_err-says.field-0.0 = search rules in
    refuses_none _ (λ x. IfSome (g.S.Source.held c.args.source.now) (λ f. IsRefusedIn f c.args.tile.hdu c.args.tile.image.now c.args.tile.number x)) c.from_residual.result c.in_err-says.field-0.0 stopped c.in_err-says.ensures.unrefused

pub returns-in_err-says-clause-cause : goal.returns-in_err-says-clause-cause
returns-in_err-says-clause-cause g c =
    let stopped : c.from_residual.result ≡ Err c.in_err-says.field-0.0 = search rules in
    stopped_reading _ (g.S.Source.tally c.args.source.now) (g.S.Source.tally c.row_ahead.new.source) c.from_residual.result c.in_err-says.field-0.0 stopped c.in_err-says.ensures.cause

pub returns-in_err-says-clause-others : goal.returns-in_err-says-clause-others
returns-in_err-says-clause-others g c =
    λ k d after. refl

pub returns-in_err-says-clause-same : goal.returns-in_err-says-clause-same
returns-in_err-says-clause-same g c =
    λ is. refl

pub returns-in_err-says-clause-ahead : goal.returns-in_err-says-clause-ahead
returns-in_err-says-clause-ahead g c =
    c.row_ahead.ensures.ahead

pub returns-in_err-says-clause-len : goal.returns-in_err-says-clause-len
returns-in_err-says-clause-len g c =
    c.row_ahead.ensures.len

pub returns-in_err-says-clause-source : goal.returns-in_err-says-clause-source
returns-in_err-says-clause-source g c =
    c.row_ahead.ensures.source

pub returns-in_err-says-clause-window : goal.returns-in_err-says-clause-window
returns-in_err-says-clause-window g c =
    record { sizes = refl; workers = refl }

pub returns-in_err-found-clause-others : goal.returns-in_err-found-clause-others
returns-in_err-found-clause-others g c =
    λ k d after. refl

pub returns-in_err-found-clause-same : goal.returns-in_err-found-clause-same
returns-in_err-found-clause-same g c =
    λ is. refl

pub returns-in_err-found-clause-ahead : goal.returns-in_err-found-clause-ahead
returns-in_err-found-clause-ahead g c =
    c.row_ahead.ensures.ahead

pub returns-in_err-found-clause-len : goal.returns-in_err-found-clause-len
returns-in_err-found-clause-len g c =
    c.row_ahead.ensures.len

pub returns-in_err-found-clause-source : goal.returns-in_err-found-clause-source
returns-in_err-found-clause-source g c =
    c.row_ahead.ensures.source

pub returns-in_err-found-clause-window : goal.returns-in_err-found-clause-window
returns-in_err-found-clause-window g c =
    record { sizes = refl; workers = refl }

pub returns-clause-others : goal.returns-clause-others
returns-clause-others g c =
    let put = c.put_law.ensures.put c.args.window.now c.args.i c.slot_mut.result.now c.load_slot_ahead.new.slot c.slot_mut.ensures.value c.load_slot_ahead.ensures.stays.1 in
    λ k d after. put.others k d (omega (arith, after))

pub returns-clause-place : goal.returns-clause-place
returns-clause-place g c =
    unrefused (IsOfRow c.args.tile.hdu c.args.tile.number) c.load_slot_ahead.result c.load_slot_ahead.ensures.unrefused

pub returns-clause-refused : goal.returns-clause-refused
returns-clause-refused g c =
    unrefused (λ x. IfSome (g.S.Source.held c.args.source.now) (λ f. IsRefusedIn f c.args.tile.hdu c.args.tile.image.now c.args.tile.number x)) c.load_slot_ahead.result c.load_slot_ahead.ensures.unrefused

pub returns-clause-same : goal.returns-clause-same
returns-clause-same g c =
    λ is. absurd (c.load_slot_ahead.ensures.unrefused is)

pub returns-clause-ahead : goal.returns-clause-ahead
returns-clause-ahead g c =
    c.load_slot_ahead.ensures.ahead

pub returns-clause-len : goal.returns-clause-len
returns-clause-len g c =
    c.load_slot_ahead.ensures.stays.2 ∙ c.row_ahead.ensures.len

pub returns-clause-source : goal.returns-clause-source
returns-clause-source g c =
    record {
      held_is = c.load_slot_ahead.ensures.stays.0.held_is ∙ c.row_ahead.ensures.source.held_is;
      attached_is = c.load_slot_ahead.ensures.stays.0.attached_is ∙ c.row_ahead.ensures.source.attached_is;
      told = λ t. c.load_slot_ahead.ensures.stays.0.told (c.row_ahead.ensures.source.told t);
    }

pub returns-clause-window : goal.returns-clause-window
returns-clause-window g c =
    let put = c.put_law.ensures.put c.args.window.now c.args.i c.slot_mut.result.now c.load_slot_ahead.new.slot c.slot_mut.ensures.value c.load_slot_ahead.ensures.stays.1 in
    record { sizes = put.sizes; workers = put.workers }

pub returns-clause-cause : goal.returns-clause-cause
returns-clause-cause g c =
    subst (λ (t : Tally). ReadsOnly t (g.S.Source.tally c.load_slot_ahead.new.source) c.load_slot_ahead.result) c.in_ok-says.ensures.cause.ok c.load_slot_ahead.ensures.cause

pub load_slot_ahead-requires-clause-within : goal.load_slot_ahead-requires-clause-within
load_slot_ahead-requires-clause-within g c =
    subst (λ a. StandsWithin a c.args.tile.image.now.table) (sym c.row_ahead.ensures.source.attached_is) c.requires.within

pub load_slot_ahead-requires-clause-pixels : goal.load_slot_ahead-requires-clause-pixels
load_slot_ahead-requires-clause-pixels g c =
    (ap (λ (t : Tile). t.pixels) c.known_tile-known.ensures.known, c.known_tile-known.ensures.some, c.known_tile-known.ensures.most)

pub load_slot_ahead-requires-clause-found : goal.load_slot_ahead-requires-clause-found
load_slot_ahead-requires-clause-found g c =
    let came : c.record_of.result ≡ Ok c.in_ok-found.found = search rules in
    subst (λ (t : Tile). StandsInHeap c.args.tile.image.now.table t c.in_ok-found.found) c.known_tile-known.ensures.known
    (subst (λ (r : Result Record Fault). IfOk r (StandsInHeap c.args.tile.image.now.table c.known_tile-known.result)) came c.record_of.ensures.within)
