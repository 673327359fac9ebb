-- The record was read, or it is read now: by itself, or with those that follow it.
use Rattle.std.proofs.Common.{◌≡◌, ◌≢◌, ℕ, ◌+◌, ◌≤◌, ⊎_elim, List, take, Option, IfSome, sym, subst, arith, rules}
use Rattle.fz_table.specs.Records.{record_bytes}
use Rattle.fz_fetch.specs.Ahead.{IsAhead, image_tiles}
use Rattle.fz_fetch.proofs.LoadedTiles.{read_none}
use Rattle.fz_fetch.proofs.ReadAhead.{first_of_run, may_told, record_taken, run_read}
use Rattle.fz_fetch.proofs.Records.{may_log}
use Rattle.fz_fetch.proofs.heap.record_ahead.Goals as goal

-- ---- it was read

pub returns-then-has_record-clause-bytes : goal.returns-then-has_record-clause-bytes
returns-then-has_record-clause-bytes g c =
    let a = c.args.ahead.now in
    let found = c.args.found.now in
    let has : (a.at ≤ found.start) × (found.start + found.read ≤ a.at + a.len) = search rules in
    record_taken (g.S.Source.held c.args.source.now) c.args.tile.image.now.table c.args.buf.now c.take_record.new.code a found c.requires.ahead has.0 has.1
    c.take_record.ensures.bytes

pub returns-then-has_record-clause-read : goal.returns-then-has_record-clause-read
returns-then-has_record-clause-read g c =
    read_none c.ranges_law.ensures.all (g.S.Source.held c.args.source.now) c.args.tile.hdu c.args.tile.image.now (image_tiles c.args.tile.image.now)
    (g.S.Source.ranges c.args.source.now)

-- ---- it is read by itself

pub run_len-run-requires-clause-ahead : goal.run_len-run-requires-clause-ahead
run_len-run-requires-clause-ahead g c = (g.S.Source.held c.args.source.now, c.requires.ahead)

pub returns-then-run-found-clause-ahead : goal.returns-then-run-found-clause-ahead
returns-then-run-found-clause-ahead g c =
    subst (λ (h : Option (List ℕ)). IsAhead h c.args.tile.image.now.table c.args.buf.now c.args.ahead.now) (sym c.read_record.ensures.source.held_is) c.requires.ahead

pub returns-then-run-found-clause-read : goal.returns-then-run-found-clause-read
returns-then-run-found-clause-read g c =
    let found = c.args.found.now in
    let old = g.S.Source.ranges c.args.source.now in
    let new = g.S.Source.ranges c.read_record.new.source in
    run_read c.ranges_law.ensures.some (g.S.Source.held c.args.source.now) c.args.tile.hdu c.args.tile.image.now found.start found.read old new
    (first_of_run (g.S.Source.held c.args.source.now) c.args.tile.hdu c.args.tile.image.now c.args.tile.number found
    (omega (arith, c.requires.image.rows, c.requires.tile)) c.requires.told)
    (may_log c.read_record.result found.start found.read old new c.read_record.ensures.read c.read_record.ensures.failed)

pub returns-then-run-found-clause-stays : goal.returns-then-run-found-clause-stays
returns-then-run-found-clause-stays g c = (
  record {
    held_is = search rules;
    attached_is = search rules;
    told =
        let found = c.args.found.now in
        let old = g.S.Source.ranges c.args.source.now in
        let new = g.S.Source.ranges c.read_record.new.source in
        may_told c.log_law.ensures.told c.ranges_law.ensures.some found.start found.read old new
        (may_log c.read_record.result found.start found.read old new c.read_record.ensures.read c.read_record.ensures.failed);
  },
  search rules,
  search rules,
)

-- ---- it is read with others

pub read_run-requires-clause-room : goal.read_run-requires-clause-room
read_run-requires-clause-room g c =
    let longer : c.run_len-run.result ≢ c.args.found.now.read = search rules in
    ⊎_elim (λ alone. absurd (longer alone)) (λ room. room) c.run_len-run.ensures.room

pub take_record-requires-2-clause-has : goal.take_record-requires-2-clause-has
take_record-requires-2-clause-has g c =
    let here = c.in_ok-read_run.ensures.here in
    (omega (arith, here.0), omega (arith, here.0, here.1, c.run_len-run.ensures.least))

pub take_record-requires-2-clause-within : goal.take_record-requires-2-clause-within
take_record-requires-2-clause-within g c = let is = c.read_run.ensures.ahead c.args.tile.image.now.table c.requires.ahead in is.room

pub returns-clause-ahead : goal.returns-clause-ahead
returns-clause-ahead g c = c.read_run.ensures.ahead c.args.tile.image.now.table c.requires.ahead

pub returns-in_err-read_run-clause-ahead : goal.returns-in_err-read_run-clause-ahead
returns-in_err-read_run-clause-ahead g c = c.read_run.ensures.ahead c.args.tile.image.now.table c.requires.ahead

pub returns-clause-bytes : goal.returns-clause-bytes
returns-clause-bytes g c =
    let found = c.args.found.now in
    let is = c.read_run.ensures.ahead c.args.tile.image.now.table c.requires.ahead in
    let here = c.in_ok-read_run.ensures.here in
    subst (λ (h : Option (List ℕ)). IfSome h (λ file. take found.read c.take_record-2.new.code ≡ record_bytes file found)) c.read_run.ensures.stays.1
    (record_taken (g.S.Source.held c.read_run.new.source) c.args.tile.image.now.table c.read_run.new.buf c.take_record-2.new.code c.read_run.new.ahead found is
    (omega (arith, here.0)) (omega (arith, here.0, here.1, c.run_len-run.ensures.least)) c.take_record-2.ensures.bytes)

pub returns-clause-read : goal.returns-clause-read
returns-clause-read g c =
    let held : Option (List ℕ) = g.S.Source.held c.args.source.now in
    run_read c.ranges_law.ensures.some held c.args.tile.hdu c.args.tile.image.now c.args.found.now.start c.run_len-run.result (g.S.Source.ranges c.args.source.now)
    (g.S.Source.ranges c.read_run.new.source)
    (c.run_len-run.ensures.told held c.requires.ahead c.requires.told) c.read_run.ensures.read

pub returns-in_err-read_run-clause-read : goal.returns-in_err-read_run-clause-read
returns-in_err-read_run-clause-read g c =
    let held : Option (List ℕ) = g.S.Source.held c.args.source.now in
    run_read c.ranges_law.ensures.some held c.args.tile.hdu c.args.tile.image.now c.args.found.now.start c.run_len-run.result (g.S.Source.ranges c.args.source.now)
    (g.S.Source.ranges c.read_run.new.source)
    (c.run_len-run.ensures.told held c.requires.ahead c.requires.told) c.read_run.ensures.read

pub returns-clause-stays : goal.returns-clause-stays
returns-clause-stays g c = (
  record {
    held_is = search rules;
    attached_is = search rules;
    told =
        may_told c.log_law.ensures.told c.ranges_law.ensures.some c.args.found.now.start c.run_len-run.result (g.S.Source.ranges c.args.source.now)
        (g.S.Source.ranges c.read_run.new.source) c.read_run.ensures.read;
  },
  search rules,
  search rules,
)

pub returns-in_err-read_run-clause-stays : goal.returns-in_err-read_run-clause-stays
returns-in_err-read_run-clause-stays g c = (
  record {
    held_is = search rules;
    attached_is = search rules;
    told =
        may_told c.log_law.ensures.told c.ranges_law.ensures.some c.args.found.now.start c.run_len-run.result (g.S.Source.ranges c.args.source.now)
        (g.S.Source.ranges c.read_run.new.source) c.read_run.ensures.read;
  },
  search rules,
  search rules,
)
