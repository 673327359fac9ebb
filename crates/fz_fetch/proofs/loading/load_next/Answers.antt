-- The record of the tile is the one that its row says.
use Rattle.std.proofs.Common.{ℕ, ◌≡◌, ◌*◌, Ok, sym, ap, ◌∙◌, rules, Result, Err, IfOk, IfSome, refl, subst, arith}
use Rattle.fz_files.specs.Restored.{tile_of}
use Rattle.fz_table.specs.Records.{record_of, IsOfRow, StandsInHeap}
use Rattle.fz_table.specs.declared.record.Tile.{Tile}
use Rattle.fz_fetch.proofs.Records.{all_three, read_is, row_alone, row_and_record, told_record}
use Rattle.fz_base.specs.Counts.{Tally}
use Rattle.fz_base.specs.Stop.{ReadsOnly}
use Rattle.fz_base.specs.declared.fault.Fault.{Fault}
use Rattle.fz_table.specs.declared.record.Record.{Record}
use Rattle.fz_fetch.specs.Loaded.{IsRefusedIn}
use Rattle.fz_fetch.specs.Rows.{StandsWithin}
use Rattle.fz_fetch.proofs.Unrefused.{none_put, refuses_none, stopped_reading, unrefused}
use Rattle.fz_fetch.proofs.loading.load_next.Goals as goal

pub returns-in_err-says-clause-read : goal.returns-in_err-says-clause-read
returns-in_err-says-clause-read g c =
    row_alone (g.S.Source.held c.args.source.now) c.args.hdu c.args.tile c.args.image.now.table (tile_of c.args.image.now.plan c.args.tile) (g.S.Source.ranges c.args.source.now) _ c.row_of.ensures.read

pub returns-in_err-found-clause-read : goal.returns-in_err-found-clause-read
returns-in_err-found-clause-read g c =
    row_alone (g.S.Source.held c.args.source.now) c.args.hdu c.args.tile c.args.image.now.table (tile_of c.args.image.now.plan c.args.tile) (g.S.Source.ranges c.args.source.now) _ c.row_of.ensures.read

pub load_slot-requires-clause-read : goal.load_slot-requires-clause-read
load_slot-requires-clause-read g c =
    let came : c.record_of.result ≡ Ok c.in_ok-found.found = search rules in
    read_is c.args.hdu c.args.tile c.args.image.now.table c.in_ok-says.says c.known_tile-known.result c.in_ok-found.found (sym c.record_of.ensures.exact ∙ came)

pub load_slot-requires-clause-room : goal.load_slot-requires-clause-room
load_slot-requires-clause-room g c =
    let n : ℕ = c.requires.window.0 in
    (n, c.sizes_law.ensures.alike c.args.window.now.slots (2 * c.args.window.now.workers) _ c.args.i c.slot_mut.result.now c.requires.window.1 c.requires.near c.slot_mut.ensures.value, c.requires.window.2)

pub returns-clause-put : goal.returns-clause-put
returns-clause-put g c =
    let came : c.record_of.result ≡ Ok c.in_ok-found.found = search rules in
    let put = c.put_law.ensures.put c.args.window.now c.args.i c.slot_mut.result.now c.load_slot.new.slot c.slot_mut.ensures.value c.load_slot.ensures.stays.1 in
    all_three c.load_slot.result c.load_slot.ensures.job c.load_slot.ensures.ready c.load_slot.ensures.bytes
    (λ job ready bytes. (
      c.load_slot.new.slot,
      put,
      record {
        found = c.in_ok-found.found;
        ready = ready;
        job = job;
        told = told_record (g.S.Source.held c.args.source.now) (g.S.Source.held c.row_of.new.source) c.args.hdu c.args.tile c.args.image.now.table c.in_ok-says.says c.known_tile-known.result
            (tile_of c.args.image.now.plan c.args.tile) c.in_ok-found.found _ c.row_of.ensures.source.held_is c.known_tile-known.ensures.known c.in_ok-says.ensures.exact (sym c.record_of.ensures.exact ∙ came) bytes;
      },
    ))

pub returns-clause-read : goal.returns-clause-read
returns-clause-read g c =
    let t = c.args.image.now.table in
    let came : c.record_of.result ≡ Ok c.in_ok-found.found = search rules in
    let said = sym (ap (λ (k : Tile). record_of c.args.hdu c.args.tile t c.in_ok-says.says k) c.known_tile-known.ensures.known) ∙ (sym c.record_of.ensures.exact ∙ came) in
    row_and_record c.ranges_law.ensures.join (g.S.Source.held c.args.source.now) c.args.hdu c.args.tile t c.in_ok-says.says (tile_of c.args.image.now.plan c.args.tile) c.in_ok-found.found
    (g.S.Source.ranges c.args.source.now) (g.S.Source.ranges c.row_of.new.source) (g.S.Source.ranges c.load_slot.new.source) c.in_ok-says.ensures.exact said c.row_of.ensures.read c.load_slot.ensures.read

pub returns-in_err-says-clause-put : goal.returns-in_err-says-clause-put
returns-in_err-says-clause-put g c =
    let stopped : c.from_residual.result ≡ Err c.in_err-says.field-0.0 = search rules in
    none_put _ c.from_residual.result c.in_err-says.field-0.0 stopped

pub returns-in_err-says-clause-place : goal.returns-in_err-says-clause-place
returns-in_err-says-clause-place g c =
    let stopped : c.from_residual.result ≡ Err c.in_err-says.field-0.0 = search rules in
    refuses_none _ (IsOfRow c.args.hdu c.args.tile) c.from_residual.result c.in_err-says.field-0.0 stopped c.in_err-says.ensures.unrefused

pub returns-in_err-says-clause-refused : goal.returns-in_err-says-clause-refused
returns-in_err-says-clause-refused g c =
    let stopped : c.from_residual.result ≡ Err c.in_err-says.field-0.0 = search rules in
    refuses_none _ (λ x. IfSome (g.S.Source.held c.args.source.now) (λ f. IsRefusedIn f c.args.hdu c.args.image.now c.args.tile x)) c.from_residual.result c.in_err-says.field-0.0 stopped c.in_err-says.ensures.unrefused

pub returns-in_err-says-clause-cause : goal.returns-in_err-says-clause-cause
returns-in_err-says-clause-cause g c =
    let stopped : c.from_residual.result ≡ Err c.in_err-says.field-0.0 = search rules in
    stopped_reading _ (g.S.Source.tally c.args.source.now) (g.S.Source.tally c.row_of.new.source) c.from_residual.result c.in_err-says.field-0.0 stopped c.in_err-says.ensures.cause

pub returns-in_err-says-clause-others : goal.returns-in_err-says-clause-others
returns-in_err-says-clause-others g c =
    λ k d after. refl

pub returns-in_err-says-clause-same : goal.returns-in_err-says-clause-same
returns-in_err-says-clause-same g c =
    λ is. refl

pub returns-in_err-says-clause-stays : goal.returns-in_err-says-clause-stays
returns-in_err-says-clause-stays g c =
    (c.row_of.ensures.source, record { sizes = refl; workers = refl })

pub returns-in_err-found-clause-others : goal.returns-in_err-found-clause-others
returns-in_err-found-clause-others g c =
    λ k d after. refl

pub returns-in_err-found-clause-same : goal.returns-in_err-found-clause-same
returns-in_err-found-clause-same g c =
    λ is. refl

pub returns-in_err-found-clause-stays : goal.returns-in_err-found-clause-stays
returns-in_err-found-clause-stays g c =
    (c.row_of.ensures.source, record { sizes = refl; workers = refl })

pub returns-clause-others : goal.returns-clause-others
returns-clause-others g c =
    let put = c.put_law.ensures.put c.args.window.now c.args.i c.slot_mut.result.now c.load_slot.new.slot c.slot_mut.ensures.value c.load_slot.ensures.stays.1 in
    λ k d after. put.others k d (omega (arith, after))

pub returns-clause-place : goal.returns-clause-place
returns-clause-place g c =
    unrefused (IsOfRow c.args.hdu c.args.tile) c.load_slot.result c.load_slot.ensures.unrefused

pub returns-clause-refused : goal.returns-clause-refused
returns-clause-refused g c =
    unrefused (λ x. IfSome (g.S.Source.held c.args.source.now) (λ f. IsRefusedIn f c.args.hdu c.args.image.now c.args.tile x)) c.load_slot.result c.load_slot.ensures.unrefused

pub returns-clause-same : goal.returns-clause-same
returns-clause-same g c =
    λ is. absurd (c.load_slot.ensures.unrefused is)

pub returns-clause-stays : goal.returns-clause-stays
returns-clause-stays g c =
    let put = c.put_law.ensures.put c.args.window.now c.args.i c.slot_mut.result.now c.load_slot.new.slot c.slot_mut.ensures.value c.load_slot.ensures.stays.1 in (
      record {
        held_is = c.load_slot.ensures.stays.0.held_is ∙ c.row_of.ensures.source.held_is;
        attached_is = c.load_slot.ensures.stays.0.attached_is ∙ c.row_of.ensures.source.attached_is;
        told = λ t. c.load_slot.ensures.stays.0.told (c.row_of.ensures.source.told t);
      },
      record { sizes = put.sizes; workers = put.workers },
    )

pub returns-clause-cause : goal.returns-clause-cause
returns-clause-cause g c =
    subst (λ (t : Tally). ReadsOnly t (g.S.Source.tally c.load_slot.new.source) c.load_slot.result) c.in_ok-says.ensures.cause.ok c.load_slot.ensures.cause

pub load_slot-requires-clause-within : goal.load_slot-requires-clause-within
load_slot-requires-clause-within g c =
    subst (λ a. StandsWithin a c.args.image.now.table) (sym c.row_of.ensures.source.attached_is) c.requires.within

pub load_slot-requires-clause-pixels : goal.load_slot-requires-clause-pixels
load_slot-requires-clause-pixels g c =
    (ap (λ (t : Tile). t.pixels) c.known_tile-known.ensures.known, c.known_tile-known.ensures.some, c.known_tile-known.ensures.most)

pub load_slot-requires-clause-found : goal.load_slot-requires-clause-found
load_slot-requires-clause-found g c =
    let came : c.record_of.result ≡ Ok c.in_ok-found.found = search rules in
    subst (λ (t : Tile). StandsInHeap c.args.image.now.table t c.in_ok-found.found) c.known_tile-known.ensures.known
    (subst (λ (r : Result Record Fault). IfOk r (StandsInHeap c.args.image.now.table c.known_tile-known.result)) came c.record_of.ensures.within)
