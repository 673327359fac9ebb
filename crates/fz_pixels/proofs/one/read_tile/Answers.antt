-- The record of the tile is read.
use Rattle.std.proofs.Common.{◌≡◌, ℕ, ◌≤◌, List, [], ◌∷◌, length, take, Option, IfSome, subst, arith}
use Rattle.fz_table.specs.Records.{record_bytes}
use Rattle.fz_table.specs.declared.record.Record.{Record}
use Rattle.fz_files.specs.Restored.{tile_of}
use Rattle.fz_pixels.proofs.Records.{may_log, row_alone, row_then_record}
use Rattle.fz_pixels.proofs.one.read_tile.Goals as goal

-- ---- what is read

pub returns-in_err-found-clause-read : goal.returns-in_err-found-clause-read
returns-in_err-found-clause-read g c =
    row_alone (g.S.Source.held c.args.source.now) c.args.hdu c.args.tile c.args.image.now.table (tile_of c.args.image.now.plan c.args.tile) (g.S.Source.ranges c.args.source.now) _ c.find_tile.ensures.read

pub returns-in_err-read_record-clause-read : goal.returns-in_err-read_record-clause-read
returns-in_err-read_record-clause-read g c =
    let found : Record = c.in_ok-found.found in
    let mid = g.S.Source.ranges c.find_tile.new.source in
    let new = g.S.Source.ranges c.read_record.new.source in
    row_then_record c.ranges_law.ensures.join (g.S.Source.held c.args.source.now) c.args.hdu c.args.tile c.args.image.now.table (tile_of c.args.image.now.plan c.args.tile) found
    (g.S.Source.ranges c.args.source.now) mid new c.in_ok-found.ensures.found c.find_tile.ensures.read
    (c.ranges_law.ensures.some ((found.start, found.read) ∷ []) ((found.start, found.read) ∷ []) mid new (λ byte lies. lies)
    (may_log c.read_record.result found.start found.read mid new c.read_record.ensures.read c.read_record.ensures.failed))

pub returns-clause-read : goal.returns-clause-read
returns-clause-read g c =
    let found : Record = c.in_ok-found.found in
    let mid = g.S.Source.ranges c.find_tile.new.source in
    let new = g.S.Source.ranges c.read_record.new.source in
    row_then_record c.ranges_law.ensures.join (g.S.Source.held c.args.source.now) c.args.hdu c.args.tile c.args.image.now.table (tile_of c.args.image.now.plan c.args.tile) found
    (g.S.Source.ranges c.args.source.now) mid new c.in_ok-found.ensures.found c.find_tile.ensures.read
    (c.ranges_law.ensures.some ((found.start, found.read) ∷ []) ((found.start, found.read) ∷ []) mid new (λ byte lies. lies)
    (may_log c.read_record.result found.start found.read mid new c.read_record.ensures.read c.read_record.ensures.failed))

-- ---- the record

pub returns-clause-bytes : goal.returns-clause-bytes
returns-clause-bytes g c =
    let found : Record = c.in_ok-found.found in
    subst (λ (h : Option (List ℕ)). IfSome h (λ file. take found.read c.read_record.new.into ≡ record_bytes file found)) c.find_tile.ensures.source.held_is c.in_ok-read_record.ensures.bytes

pub returns-clause-read_len : goal.returns-clause-read_len
returns-clause-read_len g c = c.in_ok-found.ensures.within.limit

-- ---- room

pub read_record-requires-clause-room : goal.read_record-requires-clause-room
read_record-requires-clause-room g c = omega (arith, c.in_ok-found.ensures.most, c.requires.code)

pub returns-clause-room : goal.returns-clause-room
returns-clause-room g c =
    let most : c.in_ok-found.found.read ≤ length c.args.code.now = omega (arith, c.in_ok-found.ensures.most, c.requires.code) in
    omega (arith, most)
