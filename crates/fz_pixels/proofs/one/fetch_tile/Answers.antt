-- The record of the tile is read, and then decoded.
use Rattle.std.proofs.Common.{take, rules}
use Rattle.std.specs.Prelude.{⊤}
use Rattle.fz_pixels.proofs.OneTile.{faulty_answer, fetched_one, fetched_told, names_row, refused_told}
use Rattle.fz_pixels.proofs.one.fetch_tile.Goals as goal

-- ---- the tile

pub returns-in-Ok-clause-fetched : goal.returns-in-Ok-clause-fetched
returns-in-Ok-clause-fetched g c =
    let found = c.in_ok-found.found in
    fetched_told c.args.header.now c.args.image.now c.args.tile found (take found.read c.read_tile.new.code) (g.S.Source.held c.args.source.now) c.requires.said c.in_ok-found.ensures.found c.in_ok-found.ensures.bytes
    c.decode_record.new.numbers (search rules)

-- ---- its fault

pub returns-in_err-found-clause-fault : goal.returns-in_err-found-clause-fault
returns-in_err-found-clause-fault g c =
    refused_told (g.S.Source.held c.args.source.now) c.args.header.now c.args.image.now c.args.tile _ c.requires.said (search rules)

pub returns-in-Err-clause-fault : goal.returns-in-Err-clause-fault
returns-in-Err-clause-fault g c =
    let found = c.in_ok-found.found in
    faulty_answer c.args.header.now c.args.image.now c.args.tile found (take found.read c.read_tile.new.code) ⊤ (g.S.Source.held c.args.source.now) c.faulty.result c.in-Err.fault c.faulty.ensures
    c.requires.said c.in_ok-found.ensures.found c.in_ok-found.ensures.bytes (search rules)

pub returns-in-Err-clause-row : goal.returns-in-Err-clause-row
returns-in-Err-clause-row g c = names_row ⊤ c.args.header.now.hdu c.args.tile c.faulty.result c.in-Err.fault c.faulty.ensures

-- ---- what is read

pub returns-in_err-found-clause-read : goal.returns-in_err-found-clause-read
returns-in_err-found-clause-read g c =
    fetched_one (g.S.Source.held c.args.source.now) c.args.header.now c.args.image.now c.args.tile (g.S.Source.ranges c.args.source.now) (g.S.Source.ranges c.read_tile.new.source) c.requires.said c.read_tile.ensures.read

pub returns-in-Ok-clause-read : goal.returns-in-Ok-clause-read
returns-in-Ok-clause-read g c =
    fetched_one (g.S.Source.held c.args.source.now) c.args.header.now c.args.image.now c.args.tile (g.S.Source.ranges c.args.source.now) (g.S.Source.ranges c.read_tile.new.source) c.requires.said c.read_tile.ensures.read

pub returns-in-Err-clause-read : goal.returns-in-Err-clause-read
returns-in-Err-clause-read g c =
    fetched_one (g.S.Source.held c.args.source.now) c.args.header.now c.args.image.now c.args.tile (g.S.Source.ranges c.args.source.now) (g.S.Source.ranges c.read_tile.new.source) c.requires.said c.read_tile.ensures.read
