-- The record of the tile is read if it is a code.
use Rattle.std.proofs.Common.{◌≡◌, ℕ, ◌-◌, List, length, take, drop, Option, IfSome, subst, arith, rules}
use Rattle.fz_table.specs.Records.{record_bytes}
use Rattle.fz_table.specs.declared.record.Record.{Record}
use Rattle.fz_files.specs.Restored.{tile_of}
use Rattle.fz_pixels.proofs.PartReads.{code_read, stored_in}
use Rattle.fz_pixels.proofs.Records.{row_alone, row_then_record}
use Rattle.fz_pixels.proofs.parts.read_code.Goals as goal

-- ---- what is read

pub returns-in_err-found-clause-read : goal.returns-in_err-found-clause-read
returns-in_err-found-clause-read g c =
    row_alone (g.S.Source.held c.args.source.now) c.args.hdu c.args.tile c.args.image.now.table (tile_of c.args.image.now.plan c.args.tile) (g.S.Source.ranges c.args.source.now) _ c.find_tile.ensures.read

pub returns-in_err-read_left-in-Coded-clause-read : goal.returns-in_err-read_left-in-Coded-clause-read
returns-in_err-read_left-in-Coded-clause-read g c =
    row_then_record c.ranges_law.ensures.join (g.S.Source.held c.args.source.now) c.args.hdu c.args.tile c.args.image.now.table (tile_of c.args.image.now.plan c.args.tile) c.in_ok-found.found
    (g.S.Source.ranges c.args.source.now) (g.S.Source.ranges c.find_tile.new.source) (g.S.Source.ranges c.read_left.new.source) c.in_ok-found.ensures.found c.find_tile.ensures.read c.read_left.ensures.read

pub returns-in_ok-read_left-in-Coded-clause-read : goal.returns-in_ok-read_left-in-Coded-clause-read
returns-in_ok-read_left-in-Coded-clause-read g c =
    row_then_record c.ranges_law.ensures.join (g.S.Source.held c.args.source.now) c.args.hdu c.args.tile c.args.image.now.table (tile_of c.args.image.now.plan c.args.tile) c.in_ok-found.found
    (g.S.Source.ranges c.args.source.now) (g.S.Source.ranges c.find_tile.new.source) (g.S.Source.ranges c.read_left.new.source) c.in_ok-found.ensures.found c.find_tile.ensures.read c.read_left.ensures.read

pub returns-in-Stored-clause-read : goal.returns-in-Stored-clause-read
returns-in-Stored-clause-read g c =
    row_alone (g.S.Source.held c.args.source.now) c.args.hdu c.args.tile c.args.image.now.table (tile_of c.args.image.now.plan c.args.tile) (g.S.Source.ranges c.args.source.now) _ c.find_tile.ensures.read

-- ---- the record

pub returns-in_ok-read_left-in-Coded-clause-rest : goal.returns-in_ok-read_left-in-Coded-clause-rest
returns-in_ok-read_left-in-Coded-clause-rest g c =
    let held = g.S.Source.held c.args.source.now in
    let found : Record = c.in_ok-found.found in
    let bytes = subst (λ (h : Option (List ℕ)). IfSome h (λ file. take (found.read - c.bytes_before.result) c.read_left.new.code ≡ drop c.bytes_before.result (record_bytes file found))) c.find_tile.ensures.source.held_is
    c.in_ok-read_left-in-Coded.ensures.bytes in
    code_read held c.args.hdu c.args.image.now c.args.tile c.args.from found c.read_left.new.code c.bytes_before.result c.in-Coded.is c.in_ok-found.ensures.within.limit c.bytes_before.ensures.count
    c.in_ok-found.ensures.found bytes

pub returns-in-Stored-clause-stored : goal.returns-in-Stored-clause-stored
returns-in-Stored-clause-stored g c =
    stored_in (g.S.Source.held c.args.source.now) c.args.hdu c.args.image.now c.args.tile c.in_ok-found.found c.in-Stored.is c.in_ok-found.ensures.found

-- ---- room

pub read_left-requires-clause-room : goal.read_left-requires-clause-room
read_left-requires-clause-room g c = omega (arith, c.in_ok-found.ensures.most, c.requires.code)

pub returns-in_ok-read_left-in-Coded-clause-room : goal.returns-in_ok-read_left-in-Coded-clause-room
returns-in_ok-read_left-in-Coded-clause-room g c =
    let long : length c.read_left.new.code ≡ length c.args.code.now = search rules in
    omega (arith, long, c.in_ok-found.ensures.most, c.requires.code)
